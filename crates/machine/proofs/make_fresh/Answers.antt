-- `machine::make_fresh` meets its contract: what `renew`, `blank` and `store_if` promise is the whole promise, by `fresh-refused` and `fresh-made`.
use Rattle.machine.proofs.Whole.{fresh-refused, fresh-made}
use Rattle.machine.proofs.make_fresh.Goals as goal

pub returns-in-Ok : goal.returns-in-Ok
returns-in-Ok c = fresh-made _ _ _ c.args.held _ c.renew-after.ensures c.in-Ok.is c.blank.ensures c.store_if.ensures

pub returns-in-Err : goal.returns-in-Err
returns-in-Err c = fresh-refused _ _ _ c.args.held _ c.renew-after.ensures c.in-Err.is
