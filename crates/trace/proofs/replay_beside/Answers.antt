-- `trace::replay_beside` meets its contract: the header's refusal, the rows' refusal, or the records from a fresh store.
use Rattle.std.proofs.Common.{rules, refl, ap, None}
use Rattle.day.specs.declared.Ended.{Ended}
use Rattle.day.proofs.Whole.{stops, fresh-long, fresh-rows, records-so, early}
use Rattle.trace.proofs.Turned.{with-rows}
use Rattle.trace.proofs.replay_beside.Goals as goal

pub returns-in-Err : goal.returns-in-Err
returns-in-Err c =
    let refusal = c.in-Err.refusal in
    with-rows refl refl refl (search rules)
    (stops _ _ _ _ _ c.args.held _ c.begun.result c.begun.ensures refusal c.in-Err.is _ (early refusal _ c.ended.new.page.at c.args.held) _ c.ended.new.page.bytes.now refl refl
    c.ended.ensures.text (ap (λ (x : Ended). record { ended = x; txs = None }) c.ended.ensures.end))

pub run-requires : goal.run-requires
run-requires c =
    let args = c.args in
    let rows =
    fresh-rows args.trace.now args.vol.now args.pers.now args.old.now args.out.now args.held args.txs c.begun.result c.begun.ensures _ c.in-Ok.is c.zero.ensures c.zero-in-Ok.ensures
    c.zero-in-Ok-2.ensures in
    record { fresh-store = rows.0; some-words = rows.1; few-words = rows.2; header = rows.3; short = rows.4; empty = refl }

pub returns-in-Ok : goal.returns-in-Ok
returns-in-Ok c =
    let args = c.args in
    let done = c.run.ensures.ends in
    with-rows (search rules) (search rules) (search rules) (search rules)
    (records-so args.trace.now args.vol.now args.pers.now args.old.now args.out.now args.held args.txs c.begun.result c.begun.ensures _ c.in-Ok.is _ c.run.result done.rows _ _ _ _
    (fresh-long args.trace.now args.vol.now args.pers.now args.old.now args.out.now args.held args.txs c.begun.result c.begun.ensures _ c.in-Ok.is c.zero.ensures c.zero-in-Ok.ensures
    c.zero-in-Ok-2.ensures) done.given done.ends)
