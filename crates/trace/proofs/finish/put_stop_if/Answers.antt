-- `trace::finish::put_stop_if` meets its contract: nothing stopped the replay, no line.
use Rattle.text.specs.Buffer.{puts}
use Rattle.trace.proofs.finish.put_stop_if.Goals as goal

pub returns-in_default-clause-text : goal.returns-in_default-clause-text
unfolding puts
returns-in_default-clause-text c = rw c.in_default.is
