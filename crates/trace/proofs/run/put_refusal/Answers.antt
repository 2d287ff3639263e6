-- `trace::run::put_refusal` meets its contract: a refusal's number is not 0, so it has a line, of thirty bytes at the most.
use Rattle.std.specs.Prelude.{Err}
use Rattle.day.proofs.Answers.{brief-line}
use Rattle.trace.proofs.run.put_refusal.Goals as goal

pub returns-clause-brief : goal.returns-clause-brief
returns-clause-brief c = brief-line _ (Err c.args.refusal) (rw (← c.value.ensures) c.value.type_inv) c.requires
