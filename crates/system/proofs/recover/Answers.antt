-- `system::recover` meets its contract: it is refused where `recovers` says so; else what is left is what the recovery line leaves.
use Rattle.std.proofs.Common.{ap, sym, ◌∙◌}
use Rattle.std.proofs.lemmas.Result.{err_from_is_err_and}
use Rattle.dtml.specs.Handed.{call_system, some-lines}
use Rattle.system.proofs.Refused.{refused-so, taken-so}
use Rattle.system.proofs.recover.Goals as goal

pub returns-in_err-recovers : goal.returns-in_err-recovers
unfolding call_system
returns-in_err-recovers c =
    let p = err_from_is_err_and c.from_residual.result c.from_residual.ensures.1 in
    rw (p.1, p.2) (refused-so _ _ _ _ _ (sym c.recovers.ensures ∙ c.in_err-recovers.was))

pub returns : goal.returns
unfolding call_system
returns c =
    rw c.lines_done.ensures
    (ap (some-lines 1) c.recovery_line.ensures ∙ taken-so _ _ _ _ (sym c.recovers.ensures ∙ c.in_ok-recovers.was))
