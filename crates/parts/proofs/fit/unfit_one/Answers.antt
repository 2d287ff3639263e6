-- `parts::fit::unfit_one` meets its contract: each return is the clause that applies, after the one before it did not.
use Rattle.dtml.proofs.Fit.{last}
use Rattle.dtml.specs.Checks.{unfit_one}
use Rattle.parts.proofs.fit.unfit_one.Goals as goal

pub returns-then-unfit_beside : goal.returns-then-unfit_beside
unfolding unfit_one
returns-then-unfit_beside c = rw (← c.unfit_beside.ensures, c.if-unfit_beside.true)

pub returns : goal.returns
unfolding unfit_one
returns c = rw (← c.unfit_beside.ensures, c.if-unfit_beside.false, ← c.unfit_tx.ensures) (last c.unfit_tx.result)
