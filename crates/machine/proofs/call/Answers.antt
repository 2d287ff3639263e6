-- `machine::call` meets its contract: what the calls promise, one after the other, is the whole promise, by `called-whole`.
use Rattle.std.proofs.Common.{rules}
use Rattle.dtml.specs.Store.{memory}
use Rattle.machine.proofs.Whole.{called-whole, with-rows}
use Rattle.machine.proofs.call.Goals as goal

pub returns : goal.returns
returns c =
    let args = c.args in
    with-rows (search rules) (search rules) (search rules)
    (called-whole (memory args.vol.now args.pers.now args.old.now args.held.marks args.held.glb) args.held.recovery args.txs.now args.asked c.work-done.result
    c.slot-i.ensures.0 c.unfit-unfit.ensures c.get-tx.ensures c.work-done.ensures.left c.put.ensures c.crash_if.ensures)
