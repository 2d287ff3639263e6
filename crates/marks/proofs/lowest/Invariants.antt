-- The words passed and the lowest marked word from number i on make the row's lowest marked word.
use Rattle.std.proofs.Common.{◌≡◌, ◌+◌, ◌*◌, drop}
use Rattle.bits.specs.Marks.{lowest_of}
use Rattle.marks.proofs.lowest.Given as goal

abbrev pub invariant-loop-i : goal.invariant-loop-i
invariant-loop-i l = 64 * l.i + lowest_of (drop l.i l.m) ≡ lowest_of l.m
