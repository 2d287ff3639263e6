-- `trace::run::go_through` meets its contract: before the first turn the store is fresh, a turn's end is the law on what it says to be changed, and after the last
-- one the replay is through.
use mathlib.Core.Path.{refl, ap, ◌∙◌}
use Rattle.std.specs.Prelude.{Some}
use Rattle.parts.proofs.Lent.{same-start, same-then}
use Rattle.trace.proofs.Turned.{starts, asks, still-on, turned-on, recovering-on, crashed-on, through-end, through-stop}
use Rattle.trace.proofs.run.go_through.Goals as goal

pub loop-record-init : goal.loop-record-init
loop-record-init c = (same-start _, (refl, refl), starts _ refl refl c.requires refl c.blank-rows.ensures)

pub turn-moved-requires : goal.turn-moved-requires
turn-moved-requires c =
    asks c.loop-record.reader c.loop-record.invariant.2 c.next-read.result c.next-read.ensures c.in-Some-Ok.record
    (c.in-Some-Ok.is ∙ ap Some (rw c.in-Some-Ok.is at c.in-Some-Ok.field-0-is))

pub loop-record-preserved-in-Nothing : goal.loop-record-preserved-in-Nothing
loop-record-preserved-in-Nothing c =
    let kept = c.loop-record.invariant in (
      same-then kept.0 c.turn-moved.ensures.rows,
      (c.turn-moved.ensures.page.0 ∙ kept.1.0, c.turn-moved.ensures.page.1 ∙ kept.1.1),
      (
          still-on c.loop-record.reader c.loop-record.invariant.2 c.next-read.result c.next-read.ensures c.in-Some-Ok.record
          (c.in-Some-Ok.is ∙ ap Some (rw c.in-Some-Ok.is at c.in-Some-Ok.field-0-is)) c.slot-i.ensures.0 c.turn-moved.result c.turn-moved.ensures.moves c.turn-moved.ensures.brief c.in-Nothing.is).0,
    )

pub loop-record-smaller-in-Nothing : goal.loop-record-smaller-in-Nothing
loop-record-smaller-in-Nothing c =
    (still-on c.loop-record.reader c.loop-record.invariant.2 c.next-read.result c.next-read.ensures c.in-Some-Ok.record
    (c.in-Some-Ok.is ∙ ap Some (rw c.in-Some-Ok.is at c.in-Some-Ok.field-0-is)) c.slot-i.ensures.0 c.turn-moved.result c.turn-moved.ensures.moves c.turn-moved.ensures.brief c.in-Nothing.is).1

pub loop-record-preserved-in-Record : goal.loop-record-preserved-in-Record
loop-record-preserved-in-Record c =
    let kept = c.loop-record.invariant in (
      same-then kept.0 c.turn-moved.ensures.rows,
      (c.turn-moved.ensures.page.0 ∙ kept.1.0, c.turn-moved.ensures.page.1 ∙ kept.1.1),
      (
          turned-on c.loop-record.reader c.loop-record.invariant.2 c.next-read.result c.next-read.ensures c.in-Some-Ok.record
          (c.in-Some-Ok.is ∙ ap Some (rw c.in-Some-Ok.is at c.in-Some-Ok.field-0-is)) c.slot-i.ensures.0 c.turn-moved.result c.turn-moved.ensures.moves c.turn-moved.ensures.brief c.in-Record.is).0,
    )

pub loop-record-smaller-in-Record : goal.loop-record-smaller-in-Record
loop-record-smaller-in-Record c =
    (turned-on c.loop-record.reader c.loop-record.invariant.2 c.next-read.result c.next-read.ensures c.in-Some-Ok.record
    (c.in-Some-Ok.is ∙ ap Some (rw c.in-Some-Ok.is at c.in-Some-Ok.field-0-is)) c.slot-i.ensures.0 c.turn-moved.result c.turn-moved.ensures.moves c.turn-moved.ensures.brief c.in-Record.is).1

pub loop-record-preserved-in-Recovery : goal.loop-record-preserved-in-Recovery
loop-record-preserved-in-Recovery c =
    let kept = c.loop-record.invariant in (
      same-then kept.0 c.turn-moved.ensures.rows,
      (c.turn-moved.ensures.page.0 ∙ kept.1.0, c.turn-moved.ensures.page.1 ∙ kept.1.1),
      (
          recovering-on c.loop-record.reader c.loop-record.invariant.2 c.next-read.result c.next-read.ensures c.in-Some-Ok.record
          (c.in-Some-Ok.is ∙ ap Some (rw c.in-Some-Ok.is at c.in-Some-Ok.field-0-is)) c.slot-i.ensures.0 c.turn-moved.result c.turn-moved.ensures.moves c.turn-moved.ensures.brief c.in-Recovery.is).0,
    )

pub loop-record-smaller-in-Recovery : goal.loop-record-smaller-in-Recovery
loop-record-smaller-in-Recovery c =
    (recovering-on c.loop-record.reader c.loop-record.invariant.2 c.next-read.result c.next-read.ensures c.in-Some-Ok.record
    (c.in-Some-Ok.is ∙ ap Some (rw c.in-Some-Ok.is at c.in-Some-Ok.field-0-is)) c.slot-i.ensures.0 c.turn-moved.result c.turn-moved.ensures.moves c.turn-moved.ensures.brief c.in-Recovery.is).1

pub loop-record-preserved : goal.loop-record-preserved
loop-record-preserved c =
    let kept = c.loop-record.invariant in (
      same-then kept.0 c.turn-moved.ensures.rows,
      (c.turn-moved.ensures.page.0 ∙ kept.1.0, c.turn-moved.ensures.page.1 ∙ kept.1.1),
      (
          crashed-on c.loop-record.reader c.loop-record.invariant.2 c.next-read.result c.next-read.ensures c.in-Some-Ok.record
          (c.in-Some-Ok.is ∙ ap Some (rw c.in-Some-Ok.is at c.in-Some-Ok.field-0-is)) c.slot-i.ensures.0 c.turn-moved.result c.turn-moved.ensures.moves c.turn-moved.ensures.brief c.in-Crash.is c.crash_if.ensures).0,
    )

pub loop-record-smaller : goal.loop-record-smaller
loop-record-smaller c =
    (crashed-on c.loop-record.reader c.loop-record.invariant.2 c.next-read.result c.next-read.ensures c.in-Some-Ok.record
    (c.in-Some-Ok.is ∙ ap Some (rw c.in-Some-Ok.is at c.in-Some-Ok.field-0-is)) c.slot-i.ensures.0 c.turn-moved.result c.turn-moved.ensures.moves c.turn-moved.ensures.brief c.in-Crash.is c.crash_if.ensures).1

pub returns-in-Some-Err-clause-through : goal.returns-in-Some-Err-clause-through
returns-in-Some-Err-clause-through c =
    through-stop c.loop-record.reader c.loop-record.invariant.2 c.next-read.result c.next-read.ensures
    (c.in-Some-Err.is ∙ ap Some (rw c.in-Some-Err.is at c.in-Some-Err.field-0-is)) refl

pub returns-in-None-clause-through : goal.returns-in-None-clause-through
returns-in-None-clause-through c = through-end c.loop-record.reader c.loop-record.invariant.2 c.next-read.result c.next-read.ensures c.in-None.is refl
