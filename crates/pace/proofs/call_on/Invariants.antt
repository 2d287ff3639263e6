-- After so many calls the rows and what was given back are the definition's.
use Rattle.std.proofs.Common.{◌≡◌}
use Rattle.machine.specs.Given.{outcome_of}
use Rattle.pace.specs.Pace.{calls}
use Rattle.pace.proofs.call_on.Given as goal

abbrev pub invariant-loop : goal.invariant-loop
invariant-loop l = outcome_of l.vol l.pers l.old l.txs l.last ≡ calls l.counter l.asked (outcome_of l.initial.vol l.initial.pers l.initial.old l.initial.txs l.initial.last)
