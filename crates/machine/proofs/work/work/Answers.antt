-- `machine::work::work` meets its contract: an unfit row is refused; else it is what the call on one record, or on none, left.
use Rattle.parts.specs.Lent.{memory_of}
use Rattle.machine.proofs.Whole.{unfit-row, on_one, on_none}
use Rattle.machine.proofs.work.work.Goals as goal

pub returns-then-bad-clause-left : goal.returns-then-bad-clause-left
returns-then-bad-clause-left c = unfit-row (memory_of c.args.memory.now) _ _ _ c.if-bad.true c.left.ensures

pub returns-in-On-clause-left : goal.returns-in-On-clause-left
returns-in-On-clause-left c = on_one _ _ _ _ c.call_one.result c.if-bad.false c.in-On.is c.call_one.ensures.left c.by_turn.ensures

pub returns-in-Of-clause-left : goal.returns-in-Of-clause-left
returns-in-Of-clause-left c = on_none _ _ _ _ c.call_on_memory.result c.if-bad.false c.in-Of.is c.call_on_memory.ensures.left c.by_event.ensures
