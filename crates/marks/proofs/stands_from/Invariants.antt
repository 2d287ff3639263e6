-- What stands from `from` on in the numbers still to come is what stands from n on in the row.
use Rattle.std.proofs.Common.{◌≡◌, drop}
use Rattle.bits.specs.Marks.{stands_from}
use Rattle.marks.proofs.stands_from.Given as goal

abbrev pub invariant-loop-number : goal.invariant-loop-number
invariant-loop-number l = stands_from (drop l.number-index l.m) l.from ≡ stands_from l.m l.n
