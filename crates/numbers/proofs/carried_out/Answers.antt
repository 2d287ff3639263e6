-- `numbers::carried_out` meets its contract: each return is the law on the way that led there, over what the functions called promise.
use Rattle.std.proofs.Common.{rules}
use mathlib.Core.Path.{◌∙◌}
use Rattle.parts.specs.Lent.{memory_of}
use Rattle.numbers.specs.Numbers.{rows}
use Rattle.numbers.proofs.Whole.{held-refused, short-refused, unfit-refused, not-spelled, held-long, with-rows, called}
use Rattle.numbers.proofs.carried_out.Goals as goal

pub returns-in_err-here : goal.returns-in_err-here
returns-in_err-here c = held-refused _ c.args.asked (search rules) (not-spelled _ c.read_held.ensures (search rules))

pub returns-in_err-records : goal.returns-in_err-records
returns-in_err-records c = short-refused _ c.args.asked (search rules) (search rules)

pub returns-then-unfit_records : goal.returns-then-unfit_records
returns-then-unfit_records c =
    unfit-refused (rows c.args.vol.now c.args.pers.now c.args.old.now c.args.held.now c.args.records.now) c.args.asked (search rules) c.unfit_records.ensures c.if-unfit_records.true

pub copy_from_slice-requires : goal.copy_from_slice-requires
copy_from_slice-requires c =
    let a = held-long _ c.read_held.ensures {hd = c.in_ok-here.here} (search rules) in
    search rules

pub returns : goal.returns
returns c =
    let args = c.args in
    with-rows (memory_of c.work-done.new.memory) (search rules) (search rules) (search rules)
    (called args.vol.now args.pers.now args.old.now args.held.now args.records.now args.asked c.work-done.result c.read_held.ensures (search rules) (search rules) (search rules)
    c.if-unfit_records.false c.slot-i.ensures.0 c.slot-i.ensures.1 (search rules) c.work-done.ensures.left (search rules) c.crash_if.ensures (c.copy_from_slice.ensures.after ∙ c.held_numbers.ensures))
