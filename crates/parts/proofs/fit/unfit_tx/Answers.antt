-- `parts::fit::unfit_tx` meets its contract: each return is the clause that applies, after the one before it did not.
use borrow.Author.Tests.{lt-ltb, le-ltb}
use Rattle.dtml.proofs.Fit.{last}
use Rattle.dtml.specs.Checks.{unfit_tx}
use Rattle.parts.proofs.fit.unfit_tx.Goals as goal

pub returns-then-tx-gt65535 : goal.returns-then-tx-gt65535
unfolding unfit_tx
returns-then-tx-gt65535 c = rw (lt-ltb _ _ c.if-tx-gt65535.true)

pub returns : goal.returns
unfolding unfit_tx
returns c = rw (le-ltb _ _ c.if-tx-gt65535.false, ← c.phase_past.ensures) (last c.phase_past.result)
