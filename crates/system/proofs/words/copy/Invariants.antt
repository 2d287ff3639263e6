-- `system::words::copy` meets its contract. The loop's invariant: the rows are equally long, and their first i words are the same.
use mathlib.Core.Path.{◌≡◌}
use lib.ListN.{length, take}
use Rattle.system.proofs.words.copy.Given as goal

abbrev pub invariant-loop-i : goal.invariant-loop-i
invariant-loop-i l = (length l.vol ≡ length l.pers) × (take l.i l.vol ≡ take l.i l.pers)
