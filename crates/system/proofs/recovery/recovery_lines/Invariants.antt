-- `system::recovery::recovery_lines` meets its contract. The loop's invariant: the rows are as long as at the start, the store stays fit, and what is left of the
-- allowance, from where recovery stands, comes to what all of it comes to from the start.
use mathlib.Core.Path.{◌≡◌}
use lib.ListN.{length}
use Rattle.dtml.specs.Store.{memory}
use Rattle.system.proofs.Allowance.{Going}
use Rattle.system.proofs.recovery.recovery_lines.Given as goal

abbrev pub invariant-loop-lines : goal.invariant-loop-lines
invariant-loop-lines l =
    (length l.vol ≡ length l.initial.vol) × (length l.pers ≡ length l.initial.pers)
    × Going l.allowance l.lines (memory l.initial.vol l.initial.pers l.old l.initial.marks l.initial.glb) (memory l.vol l.pers l.old l.marks l.glb) l.initial.at l.at
