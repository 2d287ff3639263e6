-- `put_short` meets its contract: one digit and the byte after it are set where they stand; more digits are put, and the byte is set after them.
use native.Mathlib.Omega.{arith}
use Rattle.text.proofs.Backwards.{short-one, byte_fits, short-more}
use Rattle.text.proofs.Page.put_short.Goals as goal

pub returns-then-n-lt10-clause-text : goal.returns-then-n-lt10-clause-text
returns-then-n-lt10-clause-text c = short-one _ _ _ _ c.if-n-lt10.true (omega (arith, c.requires))

pub bounds-self-at-2 : goal.bounds-self-at-2
bounds-self-at-2 c = byte_fits _ _ _ _ _ c.ranges.n.fits c.requires c.put_digits.ensures.text

pub overflow_add-self-2 : goal.overflow_add-self-2
overflow_add-self-2 c =
    let inside = byte_fits _ _ _ _ _ c.ranges.n.fits c.requires c.put_digits.ensures.text in
    omega arith

pub returns-clause-text : goal.returns-clause-text
returns-clause-text c = short-more _ _ _ _ _ _ c.ranges.n.fits c.requires c.put_digits.ensures.text
