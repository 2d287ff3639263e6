-- `parts::fit::unfit_beside` meets its contract: it is the test for an idle recovery, and then what recovery adds.
use Rattle.parts.proofs.Beside.{over-idle}
use Rattle.parts.proofs.fit.unfit_beside.Goals as goal

pub returns-then-unfit_idle : goal.returns-then-unfit_idle
returns-then-unfit_idle c = rw (over-idle _ _ _ _ _ _, ← c.unfit_idle.ensures, c.if-unfit_idle.true)

pub returns : goal.returns
returns c = rw (over-idle _ _ _ _ _ _, ← c.unfit_idle.ensures, c.if-unfit_idle.false, c.unfit_recovery.ensures)
