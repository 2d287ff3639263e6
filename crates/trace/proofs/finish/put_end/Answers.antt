-- `trace::finish::put_end` meets its contract: one text put after another is both.
use Rattle.text.proofs.Laws.{puts_then}
use Rattle.trace.proofs.finish.put_end.Goals as goal

pub returns-clause-text : goal.returns-clause-text
returns-clause-text c = puts_then _ _ _ _ _ c.put_stop_if.ensures.text c.put_totals.ensures.text
