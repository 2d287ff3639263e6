-- The loop ends early at four numbers that make the row unfit.
use Rattle.std.proofs.Common.{rules}
use Rattle.numbers.proofs.Fours.{found-unfit}
use Rattle.numbers.proofs.tx_row.unfit_records.Goals as goal

pub returns-then-unfit_numbers : goal.returns-then-unfit_numbers
returns-then-unfit_numbers c =
    found-unfit _ c.args.records.now c.told-records c.as_chunks.ensures.front c.loop-numbers.numbers-index _ (search rules) c.loop-numbers.invariant c.unfit_numbers.ensures c.if-unfit_numbers.true
