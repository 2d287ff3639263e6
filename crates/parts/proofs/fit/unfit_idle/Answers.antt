-- `parts::fit::unfit_idle` meets its contract: each return is the clause that applies, after those before it did not; an idle recovery adds nothing.
use lib.Dec.{ltb}
use Rattle.dtml.specs.Checks.{unfit_beside}
use Rattle.parts.proofs.Beside.{last-but-false}
use Rattle.parts.proofs.fit.unfit_idle.Goals as goal

pub returns-then-unfit_rows : goal.returns-then-unfit_rows
unfolding unfit_beside
returns-then-unfit_rows c = rw (← c.unfit_rows.ensures, c.if-unfit_rows.true)

pub returns-then-stands_from : goal.returns-then-stands_from
unfolding unfit_beside
returns-then-stands_from c =
    rw (← c.unfit_rows.ensures, c.if-unfit_rows.false, ← c.stands_from.ensures, c.if-stands_from.true)

pub returns : goal.returns
unfolding unfit_beside
returns c =
    rw (
      ← c.unfit_rows.ensures,
      c.if-unfit_rows.false,
      ← c.stands_from.ensures,
      c.if-stands_from.false,
    ) (last-but-false (ltb 65535 c.args.glb))
