-- `system::flush` meets its contract: each return is the case of the tests that it is under, and a word that passes them is flushed as the definition says.
use mathlib.Core.Path.{sym, ap, ◌∙◌}
use borrow.Author.Tests.{le-leb, lt-leb}
use Rattle.dtml.specs.Handed.{call_system, a-flush}
use Rattle.dtml.specs.Store.{memory}
use Rattle.system.proofs.Named.{flush-in}
use Rattle.system.proofs.flush.Goals as goal

pub returns-then-unfit_now : goal.returns-then-unfit_now
unfolding call_system
returns-then-unfit_now c = rw (← c.unfit_now.ensures, c.if-unfit_now.true)

pub returns-then-vol-word : goal.returns-then-vol-word
unfolding call_system
returns-then-vol-word c = rw (← c.unfit_now.ensures, c.if-unfit_now.false, le-leb _ _ c.if-vol-word.true)

pub returns : goal.returns
unfolding call_system
returns c =
    let given = c.args in
    let test = c.unfit_now.ensures in
    rw (← test, c.if-unfit_now.false, lt-leb _ _ c.if-vol-word.false)
    (ap (λ ws. a-flush (memory given.vol.now ws given.old.now given.marks.now given.glb))
    (c.flush_word.ensures
    ∙ flush-in given.vol.now given.pers.now given.old.now given.marks.now given.glb given.recovery _ (sym test ∙ c.if-unfit_now.false)
    c.if-vol-word.false))
