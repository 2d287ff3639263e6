-- `lines::transaction::line` meets its contract: in each arm the phase is that arm's, and what the calls there ensure is the definition's clause for it.
-- A word that the phase names is in the rows, by what the function requires.
use lib.Dec.{eqb}
use Rattle.bits.specs.Marks.{is_marked}
use Rattle.dtml.specs.Lines.{line_at, even}
use Rattle.lines.proofs.Tests.{turned-pick, turned-pick-glb}
use Rattle.lines.proofs.transaction.line.Goals as goal

pub returns-in-B1-clause-stepped : goal.returns-in-B1-clause-stepped
unfolding line_at
returns-in-B1-clause-stepped c = rw (c.in-B1.is, c.to.ensures)

pub returns-in-B2-clause-stepped : goal.returns-in-B2-clause-stepped
unfolding line_at
returns-in-B2-clause-stepped c =
    let given = c.args in
    rw (c.in-B2.is, c.b2.ensures) (turned-pick (even given.tx.loc) _ _ _)

pub returns-in-R1-clause-stepped : goal.returns-in-R1-clause-stepped
unfolding line_at
returns-in-R1-clause-stepped c = rw (c.in-R1.is, c.r1.ensures)

pub returns-in-R2-clause-stepped : goal.returns-in-R2-clause-stepped
unfolding line_at
returns-in-R2-clause-stepped c =
    let given = c.args in
    rw (c.in-R2.is, c.r2.ensures) (turned-pick (eqb given.memory.now.glb given.tx.loc) _ _ _)

pub returns-in-W1-clause-stepped : goal.returns-in-W1-clause-stepped
unfolding line_at
returns-in-W1-clause-stepped c =
    let given = c.args in
    rw (c.in-W1.is, c.w1.ensures) (turned-pick (even given.tx.loc) _ _ _)

pub returns-in-W2-clause-stepped : goal.returns-in-W2-clause-stepped
unfolding line_at
returns-in-W2-clause-stepped c =
    let given = c.args in
    rw (c.in-W2.is, c.w2.ensures.0, c.w2.ensures.1) (turned-pick-glb (eqb given.memory.now.glb given.tx.loc) _ _ _ _ _ _ _ _)

pub returns-in-W3-clause-stepped : goal.returns-in-W3-clause-stepped
unfolding line_at
returns-in-W3-clause-stepped c = rw (c.in-W3.is, c.to-in-W3.ensures)

pub returns-in-W4-clause-stepped : goal.returns-in-W4-clause-stepped
unfolding line_at
returns-in-W4-clause-stepped c =
    let given = c.args in
    rw (c.in-W4.is, c.w4.ensures) (turned-pick (is_marked given.memory.now.marks c.in-W4.word) _ _ _)

pub returns-in-W5-clause-stepped : goal.returns-in-W5-clause-stepped
unfolding line_at
returns-in-W5-clause-stepped c =
    rw (
      c.in-W5.is,
      c.w5.ensures.turn,
      c.w5.ensures.entered,
    )

pub returns-in-W6-clause-stepped : goal.returns-in-W6-clause-stepped
unfolding line_at
returns-in-W6-clause-stepped c =
    rw (c.in-W6.is, c.w6.ensures.0, c.w6.ensures.1)

pub returns-in-W7-clause-stepped : goal.returns-in-W7-clause-stepped
unfolding line_at
returns-in-W7-clause-stepped c =
    rw (
      c.in-W7.is,
      c.w7.ensures.turn,
      c.w7.ensures.flushed,
    )

pub returns-in-E1-clause-stepped : goal.returns-in-E1-clause-stepped
unfolding line_at
returns-in-E1-clause-stepped c =
    let given = c.args in
    rw (c.in-E1.is, c.e1.ensures) (turned-pick (even given.tx.loc) _ _ _)

pub returns-in-E2-clause-stepped : goal.returns-in-E2-clause-stepped
unfolding line_at
returns-in-E2-clause-stepped c = rw (c.in-E2.is, c.e2.ensures.0, c.e2.ensures.1)

pub returns-in-E3-clause-stepped : goal.returns-in-E3-clause-stepped
unfolding line_at
returns-in-E3-clause-stepped c = rw (c.in-E3.is, c.e3.ensures.0, c.e3.ensures.1)
