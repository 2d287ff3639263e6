-- `system::recovery::recovery_lines` meets its contract: a turn is one line more, and what has been answered so far stands where recovery is idle or nothing is left.
use mathlib.Core.Path.{refl, sym, ◌∙◌}
use Rattle.system.proofs.Allowance.{going_start, going_more, going-idle, going-spent}
use Rattle.system.proofs.recovery.recovery_lines.Goals as goal

pub loop-lines-init : goal.loop-lines-init
loop-lines-init c = (refl, refl, going_start _ _ _ c.requires.0 c.requires.1)

pub loop-lines-preserved : goal.loop-lines-preserved
loop-lines-preserved c =
    let kept = c.loop-lines.invariant in (
      c.recovery_line-at.auto.vol ∙ kept.0,
      c.recovery_line-at.auto.pers ∙ kept.1,
      going_more _ kept.2 c.loop-lines-test.true (sym c.not_idle.ensures ∙ c.if-not-not_idle.false) c.recovery_line-at.ensures,
    )

pub returns-then-not-not_idle : goal.returns-then-not-not_idle
returns-then-not-not_idle c =
    rw c.answered.ensures (going-idle c.loop-lines.invariant.2 (sym c.not_idle.ensures ∙ c.if-not-not_idle.true))

pub returns : goal.returns
returns c = rw c.answered-2.ensures (going-spent c.loop-lines.invariant.2 c.loop-lines-test.false)
