-- `parts::fit::unfit_rows` meets its contract: each return is the clause that applies, after those before it did not.
use borrow.Author.Tests.{eq-eqb, ne_eqb}
use lib.Dec.{ltb}
use Rattle.dtml.proofs.Fit.{last}
use Rattle.dtml.specs.Checks.{unfit_rows}
use Rattle.parts.proofs.fit.unfit_rows.Goals as goal

pub returns-then-vol-pers : goal.returns-then-vol-pers
unfolding unfit_rows
returns-then-vol-pers c = rw (ne_eqb _ _ c.if-vol-pers.true)

pub returns-then-vol-old : goal.returns-then-vol-old
unfolding unfit_rows
returns-then-vol-old c = rw (eq-eqb _ _ c.if-vol-pers.false, ne_eqb _ _ c.if-vol-old.true)

pub returns-then-vol-eq0 : goal.returns-then-vol-eq0
unfolding unfit_rows
returns-then-vol-eq0 c = rw (eq-eqb _ _ c.if-vol-pers.false, eq-eqb _ _ c.if-vol-old.false, eq-eqb _ _ c.if-vol-eq0.true)

pub returns : goal.returns
unfolding unfit_rows
returns c =
    rw (
      eq-eqb _ _ c.if-vol-pers.false,
      eq-eqb _ _ c.if-vol-old.false,
      ne_eqb _ _ c.if-vol-eq0.false,
    ) (last (ltb 256 c.args.vol))
