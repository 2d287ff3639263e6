-- After i turns the first i records are crashed, and the others as they were.
use Rattle.std.proofs.Common.{◌≡◌}
use Rattle.dtml.specs.Lines.{crash_txs}
use Rattle.records.proofs.Over.{over}
use Rattle.records.proofs.crash_if.Given as goal

abbrev pub invariant-loop-tx : goal.invariant-loop-tx
invariant-loop-tx l = l.txs ≡ over l.tx-index (crash_txs l.initial.txs) l.initial.txs
