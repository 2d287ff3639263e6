-- `system::crash` meets its contract: what is handed over is unfit, or the volatile words are those of the persistent row, which is as long.
use mathlib.Core.Path.{sym, ◌∙◌}
use Rattle.dtml.specs.Handed.{call_system}
use Rattle.dtml.proofs.Fit.{fits}
use Rattle.system.proofs.crash.Goals as goal

pub returns-then-unfit_beside : goal.returns-then-unfit_beside
unfolding call_system
returns-then-unfit_beside c = rw (← c.unfit_beside.ensures, c.if-unfit_beside.true)

pub copy-requires : goal.copy-requires
copy-requires c = sym (fits _ _ _ _ _ _ (sym c.unfit_beside.ensures ∙ c.if-unfit_beside.false)).pers-long

pub returns : goal.returns
unfolding call_system
returns c = rw (c.copy.ensures, ← c.unfit_beside.ensures, c.if-unfit_beside.false)
