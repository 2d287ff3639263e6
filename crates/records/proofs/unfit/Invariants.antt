-- What is unfit among the records still to come is what is unfit among all.
use Rattle.std.proofs.Common.{◌≡◌, drop}
use Rattle.dtml.specs.Checks.{unfit_txs}
use Rattle.records.proofs.unfit.Given as goal

abbrev pub invariant-loop-tx : goal.invariant-loop-tx
invariant-loop-tx l = unfit_txs l.n (drop l.tx-index l.txs) ≡ unfit_txs l.n l.txs
