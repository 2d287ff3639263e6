-- `trace::run::put_answer_if` meets its contract: an answer 0 has no line; any other has one, of thirty bytes at the most.
use Rattle.std.proofs.Common.{sym, ◌∙◌, Ok}
use Rattle.text.specs.Buffer.{puts}
use Rattle.day.proofs.Answers.{no_line, brief-line}
use Rattle.trace.proofs.run.put_answer_if.Goals as goal

pub returns-then-n-ne0-clause-brief : goal.returns-then-n-ne0-clause-brief
returns-then-n-ne0-clause-brief c = brief-line _ (Ok c.args.answer) (rw (← c.value.ensures) c.value.type_inv) c.requires

pub returns-else-n-ne0-clause-text : goal.returns-else-n-ne0-clause-text
unfolding puts
returns-else-n-ne0-clause-text c = rw (no_line c.args.record_number (Ok c.args.answer) (sym c.number-n.ensures ∙ c.if-n-ne0.false))
