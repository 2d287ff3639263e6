-- The marks counted so far and those of the numbers still to come are the row's count; each number has at most 64.
use Rattle.std.proofs.Common.{◌≡◌, ◌+◌, ◌*◌, ◌≤◌, drop}
use Rattle.bits.specs.Marks.{count_of}
use Rattle.marks.proofs.count.Given as goal

abbrev pub invariant-loop-number : goal.invariant-loop-number
invariant-loop-number l = (l.marked + count_of (drop l.number-index l.m) ≡ count_of l.m) × (l.marked ≤ 64 * l.number-index)
