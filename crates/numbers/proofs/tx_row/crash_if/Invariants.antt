-- After i turns the first i records are crashed, and with the others crashed too the row is what it comes to.
use Rattle.std.proofs.Common.{◌≡◌, length}
use Rattle.numbers.specs.Ways.{crash_numbers}
use Rattle.numbers.proofs.Fours.{crashing}
use Rattle.numbers.proofs.tx_row.crash_if.Given as goal

abbrev pub invariant-loop-i : goal.invariant-loop-i
invariant-loop-i l = (length l.records ≡ 256) × (crashing l.i l.records ≡ crash_numbers l.initial.records)
