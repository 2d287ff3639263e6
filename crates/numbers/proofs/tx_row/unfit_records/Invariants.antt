-- What is unfit among the records still to come is what is unfit among all.
use Rattle.std.proofs.Common.{◌≡◌, drop}
use Rattle.numbers.proofs.Fours.{unfit_fours}
use Rattle.numbers.proofs.tx_row.unfit_records.Given as goal

abbrev pub invariant-loop-numbers : goal.invariant-loop-numbers
invariant-loop-numbers l = unfit_fours l.n (drop l.numbers-index l.fours) ≡ unfit_fours l.n l.fours
