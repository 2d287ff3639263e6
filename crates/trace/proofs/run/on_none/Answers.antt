-- `trace::run::on_none` meets its contract: what the call leaves is `call_system`'s, counted and printed by what happened; a crash changes recovery and every record.
use mathlib.Core.Path.{refl, ap, ◌∙◌}
use Rattle.std.specs.Prelude.{Ok}
use native.Mathlib.Omega.{arith}
use Rattle.parts.specs.Lent.{memory_of}
use Rattle.text.specs.Page.{on_page}
use Rattle.trace.proofs.Turned.{none-refused, none-flushed, none-crashed, lines-low, none-lines}
use Rattle.trace.proofs.run.on_none.Goals as goal

pub added-totals-requires : goal.added-totals-requires
added-totals-requires c =
    (c.requires.0, omega arith, lines-low (memory_of c.args.memory.now) c.args.recovery c.args.tx c.args.totals (on_page c.args.page.now) (memory_of c.call_on_memory.new.memory) c.args.sys c.call_on_memory.ensures.left (c.in-Ok-RecoveryLines.is ∙ ap Ok c.in-Ok-RecoveryLines.field-0-is) c.requires.1, omega arith)

pub returns-in-Ok-Flushed-clause-moves : goal.returns-in-Ok-Flushed-clause-moves
returns-in-Ok-Flushed-clause-moves c =
    (none-flushed (memory_of c.args.memory.now) c.args.recovery c.args.tx c.args.totals (on_page c.args.page.now) (memory_of c.call_on_memory.new.memory) c.args.sys c.call_on_memory.ensures.left (c.in-Ok-Flushed.is ∙ ap Ok c.in-Ok-Flushed.field-0-is) c.added.ensures refl).0

pub returns-in-Ok-Flushed-clause-brief : goal.returns-in-Ok-Flushed-clause-brief
returns-in-Ok-Flushed-clause-brief c =
    (none-flushed (memory_of c.args.memory.now) c.args.recovery c.args.tx c.args.totals (on_page c.args.page.now) (memory_of c.call_on_memory.new.memory) c.args.sys c.call_on_memory.ensures.left (c.in-Ok-Flushed.is ∙ ap Ok c.in-Ok-Flushed.field-0-is) c.added.ensures refl).1

pub returns-in-Ok-Crashed-clause-moves : goal.returns-in-Ok-Crashed-clause-moves
returns-in-Ok-Crashed-clause-moves c =
    (none-crashed (memory_of c.args.memory.now) c.args.recovery c.args.tx c.args.totals (on_page c.args.page.now) (memory_of c.call_on_memory.new.memory) c.args.sys c.call_on_memory.ensures.left c.cut_by_crash.result (c.in-Ok-Crashed.is ∙ ap Ok c.in-Ok-Crashed.field-0-is) c.cut_by_crash.ensures.0 c.added-in-Ok-Crashed.ensures refl).0

pub returns-in-Ok-Crashed-clause-brief : goal.returns-in-Ok-Crashed-clause-brief
returns-in-Ok-Crashed-clause-brief c =
    (none-crashed (memory_of c.args.memory.now) c.args.recovery c.args.tx c.args.totals (on_page c.args.page.now) (memory_of c.call_on_memory.new.memory) c.args.sys c.call_on_memory.ensures.left c.cut_by_crash.result (c.in-Ok-Crashed.is ∙ ap Ok c.in-Ok-Crashed.field-0-is) c.cut_by_crash.ensures.0 c.added-in-Ok-Crashed.ensures refl).1

pub returns-in-Ok-RecoveryLines-clause-moves : goal.returns-in-Ok-RecoveryLines-clause-moves
returns-in-Ok-RecoveryLines-clause-moves c =
    (none-lines (memory_of c.args.memory.now) c.args.recovery c.args.tx c.args.totals (on_page c.args.page.now) (memory_of c.call_on_memory.new.memory) c.args.sys c.call_on_memory.ensures.left (c.in-Ok-RecoveryLines.is ∙ ap Ok c.in-Ok-RecoveryLines.field-0-is) c.added-totals.ensures c.put_answer_if.ensures.text c.put_answer_if.ensures.brief).0

pub returns-in-Ok-RecoveryLines-clause-brief : goal.returns-in-Ok-RecoveryLines-clause-brief
returns-in-Ok-RecoveryLines-clause-brief c =
    (none-lines (memory_of c.args.memory.now) c.args.recovery c.args.tx c.args.totals (on_page c.args.page.now) (memory_of c.call_on_memory.new.memory) c.args.sys c.call_on_memory.ensures.left (c.in-Ok-RecoveryLines.is ∙ ap Ok c.in-Ok-RecoveryLines.field-0-is) c.added-totals.ensures c.put_answer_if.ensures.text c.put_answer_if.ensures.brief).1

pub returns-in-Err-clause-moves : goal.returns-in-Err-clause-moves
returns-in-Err-clause-moves c =
    (none-refused (memory_of c.args.memory.now) c.args.recovery c.args.tx c.args.totals (on_page c.args.page.now) (memory_of c.call_on_memory.new.memory) c.args.sys c.call_on_memory.ensures.left c.in-Err.is c.added-totals-in-Err.ensures c.put_refusal.ensures.text c.put_refusal.ensures.brief).0

pub returns-in-Err-clause-brief : goal.returns-in-Err-clause-brief
returns-in-Err-clause-brief c =
    (none-refused (memory_of c.args.memory.now) c.args.recovery c.args.tx c.args.totals (on_page c.args.page.now) (memory_of c.call_on_memory.new.memory) c.args.sys c.call_on_memory.ensures.left c.in-Err.is c.added-totals-in-Err.ensures c.put_refusal.ensures.text c.put_refusal.ensures.brief).1
