-- `system::recovery::recovery_line` meets its contract: in each arm recovery is that arm's, and what the calls there ensure is the definition's clause for it.
-- A word that recovery names is in the rows, by the test that they are fit.
use mathlib.Core.Path.{refl, ◌∙◌}
use Rattle.dtml.specs.Lines.{recovery_line, any_mark}
use Rattle.system.proofs.Named.{chosen-in, named_in, flush-in}
use Rattle.system.proofs.Tests.{recover-to-pick}
use Rattle.system.proofs.recovery.recovery_line.Goals as goal

pub c2-requires : goal.c2-requires
c2-requires c = chosen-in _ _ _ _ _ (rw c.in-C2.is at c.requires)

pub bounds-vol-word : goal.bounds-vol-word
bounds-vol-word c =
    (named_in _ _ _ _ _ _ c.in-C3.word refl
    (rw c.in-C3.is at c.requires)).0

pub returns-in-Idle : goal.returns-in-Idle
unfolding recovery_line
returns-in-Idle c = rw (c.in-Idle.is, c.taken.ensures)

pub returns-in-C1 : goal.returns-in-C1
unfolding recovery_line
returns-in-C1 c =
    rw (
      c.in-C1.is,
      c.taken-in-C1.ensures,
      c.c1.ensures,
    )
    (recover-to-pick (any_mark c.args.marks.now) _ _ _)

pub returns-in-C2 : goal.returns-in-C2
unfolding recovery_line
returns-in-C2 c = rw (c.in-C2.is, c.taken-in-C2.ensures, c.c2.ensures)

pub returns-in-C3 : goal.returns-in-C3
unfolding recovery_line
returns-in-C3 c = rw (c.in-C3.is, c.taken-in-C3.ensures)

pub returns-in-C4 : goal.returns-in-C4
unfolding recovery_line
returns-in-C4 c =
    let given = c.args in
    let fit = rw c.in-C4.is at c.requires in
    rw (
      c.in-C4.is,
      c.taken-in-C4.ensures,
      c.flush_word.ensures
          ∙ flush-in given.vol.now given.pers.now given.old.now given.marks.now given.glb.now _ c.in-C4.word fit
          (named_in _ _ _ _ _ _ c.in-C4.word refl fit).0,
    )

pub returns-in-C5 : goal.returns-in-C5
unfolding recovery_line
returns-in-C5 c = rw (c.in-C5.is, c.taken-in-C5.ensures, c.unmark.ensures)

pub returns-in-C6 : goal.returns-in-C6
unfolding recovery_line
returns-in-C6 c = rw c.in-C6.is
