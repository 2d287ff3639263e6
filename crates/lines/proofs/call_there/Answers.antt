-- `lines::call_there` meets its contract: each return is one law of Called.antt, on the tests that came before it. What a line asks is part of the test that what is handed in is fit.
use mathlib.Core.Path.{sym, ◌∙◌}
use Rattle.lines.proofs.Room.{room}
use Rattle.lines.proofs.Called.{recovering, unfit-beside, unfit-record, fit, begins, reads, writes, commits, steps}
use Rattle.lines.proofs.call_there.Goals as goal

pub returns-then-not_idle-clause-left : goal.returns-then-not_idle-clause-left
returns-then-not_idle-clause-left c =
    rw c.while_recovering.ensures (recovering _ _ _ _ (sym c.not_idle.ensures ∙ c.if-not_idle.true))

pub returns-then-unfit_idle-clause-left : goal.returns-then-unfit_idle-clause-left
returns-then-unfit_idle-clause-left c =
    (unfit-beside _ _ _ _
    (sym c.not_idle.ensures ∙ c.if-not_idle.false)
    (sym c.unfit_idle.ensures ∙ c.if-unfit_idle.true))

pub returns-then-unfit_tx-clause-left : goal.returns-then-unfit_tx-clause-left
returns-then-unfit_tx-clause-left c =
    (unfit-record _ _ _ _
    (sym c.not_idle.ensures ∙ c.if-not_idle.false)
    (sym c.unfit_idle.ensures ∙ c.if-unfit_idle.false)
    (sym c.unfit_tx.ensures ∙ c.if-unfit_tx.true))

pub line-requires : goal.line-requires
line-requires c =
    room _ _ (sym c.unfit_idle.ensures ∙ c.if-unfit_idle.false) (sym c.unfit_tx.ensures ∙ c.if-unfit_tx.false)

pub returns-in-Begin-clause-left : goal.returns-in-Begin-clause-left
returns-in-Begin-clause-left c =
    rw (c.in-Begin.is, c.begin.ensures)
    (begins _ _ _
    (fit
    c.not_idle.ensures
    c.if-not_idle.false
    c.unfit_idle.ensures
    c.if-unfit_idle.false
    c.unfit_tx.ensures
    c.if-unfit_tx.false))

pub returns-in-Read-clause-left : goal.returns-in-Read-clause-left
returns-in-Read-clause-left c =
    rw (c.in-Read.is, c.read.ensures)
    (reads _ _ _ _
    (fit
    c.not_idle.ensures
    c.if-not_idle.false
    c.unfit_idle.ensures
    c.if-unfit_idle.false
    c.unfit_tx.ensures
    c.if-unfit_tx.false))

pub returns-in-Write-clause-left : goal.returns-in-Write-clause-left
returns-in-Write-clause-left c =
    rw (c.in-Write.is, c.write.ensures)
    (writes _ _ _ _ _
    (fit
    c.not_idle.ensures
    c.if-not_idle.false
    c.unfit_idle.ensures
    c.if-unfit_idle.false
    c.unfit_tx.ensures
    c.if-unfit_tx.false))

pub returns-in-Commit-clause-left : goal.returns-in-Commit-clause-left
returns-in-Commit-clause-left c =
    rw (c.in-Commit.is, c.commit.ensures)
    (commits _ _ _
    (fit
    c.not_idle.ensures
    c.if-not_idle.false
    c.unfit_idle.ensures
    c.if-unfit_idle.false
    c.unfit_tx.ensures
    c.if-unfit_tx.false))

pub returns-in-Step-clause-left : goal.returns-in-Step-clause-left
returns-in-Step-clause-left c =
    rw c.in-Step.is
    (c.line.ensures.stepped ∙
    steps _ _ _
    (fit
    c.not_idle.ensures
    c.if-not_idle.false
    c.unfit_idle.ensures
    c.if-unfit_idle.false
    c.unfit_tx.ensures
    c.if-unfit_tx.false))
