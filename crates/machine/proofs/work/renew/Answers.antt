-- `machine::work::renew` meets its contract: the lengths are refused, or every row is zeroed.
use Rattle.machine.specs.Working.{renewed}
use Rattle.machine.proofs.work.renew.Goals as goal

pub returns-then-unfit_lengths : goal.returns-then-unfit_lengths
unfolding renewed
returns-then-unfit_lengths c = rw (← c.unfit_lengths.ensures, c.if-unfit_lengths.true)

pub returns : goal.returns
unfolding renewed
returns c = rw (← c.unfit_lengths.ensures, c.if-unfit_lengths.false, c.zero.ensures, c.zero-2.ensures, c.zero-3.ensures)
