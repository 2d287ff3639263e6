-- `trace::run::turn` meets its contract: a record's call is done by one of two.
use mathlib.Core.Path.{subst}
use Rattle.trace.specs.Turning.{OneLine}
use Rattle.trace.proofs.run.turn.Goals as goal

pub on_none-requires : goal.on_none-requires
on_none-requires c = (c.requires.0, subst OneLine c.in-Of.is c.requires.1)
