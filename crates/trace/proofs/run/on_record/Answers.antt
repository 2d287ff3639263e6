-- `trace::run::on_record` meets its contract: what the call leaves is `call_one`'s, counted and printed by its answer; a record that went is the one that is changed.
use Rattle.parts.specs.Lent.{memory_of}
use Rattle.text.specs.Page.{on_page}
use Rattle.trace.proofs.Turned.{record-refused, record-went}
use Rattle.trace.proofs.run.on_record.Goals as goal

pub returns-in-Ok-clause-moves : goal.returns-in-Ok-clause-moves
returns-in-Ok-clause-moves c =
    (record-went (memory_of c.args.memory.now) c.args.recovery c.args.tx c.args.totals (on_page c.args.page.now) (memory_of c.call_one.new.memory) c.args.id c.args.ask c.call_one.ensures.left
    c.in-Ok.is c.turned-totals.ensures c.put_answer_if.ensures.text c.put_answer_if.ensures.brief).0

pub returns-in-Ok-clause-brief : goal.returns-in-Ok-clause-brief
returns-in-Ok-clause-brief c =
    (record-went (memory_of c.args.memory.now) c.args.recovery c.args.tx c.args.totals (on_page c.args.page.now) (memory_of c.call_one.new.memory) c.args.id c.args.ask c.call_one.ensures.left
    c.in-Ok.is c.turned-totals.ensures c.put_answer_if.ensures.text c.put_answer_if.ensures.brief).1

pub returns-in-Err-clause-moves : goal.returns-in-Err-clause-moves
returns-in-Err-clause-moves c =
    (record-refused (memory_of c.args.memory.now) c.args.recovery c.args.tx c.args.totals (on_page c.args.page.now) (memory_of c.call_one.new.memory) c.args.id c.args.ask c.call_one.ensures.left
    c.in-Err.is c.turned-totals-in-Err.ensures c.put_refusal.ensures.text c.put_refusal.ensures.brief).0

pub returns-in-Err-clause-brief : goal.returns-in-Err-clause-brief
returns-in-Err-clause-brief c =
    (record-refused (memory_of c.args.memory.now) c.args.recovery c.args.tx c.args.totals (on_page c.args.page.now) (memory_of c.call_one.new.memory) c.args.id c.args.ask c.call_one.ensures.left
    c.in-Err.is c.turned-totals-in-Err.ensures c.put_refusal.ensures.text c.put_refusal.ensures.brief).1
