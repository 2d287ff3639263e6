-- `system::recover_up_to` meets its contract: it is refused where `recovers` says so; else what is left is what the lines up to the allowance leave, and the value that
-- they answer is their number.
use Rattle.std.proofs.Common.{ap, sym, ◌∙◌}
use Rattle.std.proofs.lemmas.Result.{err_from_is_err_and}
use Rattle.dtml.specs.Handed.{call_system, some-lines}
use Rattle.dtml.specs.Asked.{RecoveryDid}
use Rattle.system.proofs.Refused.{refused-so, taken-so}
use Rattle.system.proofs.recover_up_to.Goals as goal

pub returns-in_err-recovers : goal.returns-in_err-recovers
unfolding call_system
returns-in_err-recovers c =
    let p = err_from_is_err_and c.from_residual.result c.from_residual.ensures.1 in
    rw (p.1, p.2) (refused-so _ _ _ _ _ (sym c.recovers.ensures ∙ c.in_err-recovers.was))

pub returns : goal.returns
unfolding call_system
returns c =
    rw (c.lines_done.ensures, c.value.ensures)
    (ap (λ (h : RecoveryDid). some-lines h.reply.value h) c.recovery_lines-turn.ensures
    ∙ taken-so _ _ _ _ (sym c.recovers.ensures ∙ c.in_ok-recovers.was))
