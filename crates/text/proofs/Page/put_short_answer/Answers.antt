-- `put_short_answer` meets its contract: each field is put after the one before it, and takes eleven bytes of the room at the most.
use native.Mathlib.Omega.{arith}
use Rattle.text.proofs.Backwards.{room-left}
use Rattle.text.proofs.Page.put_short_answer.Goals as goal

pub put_short-requires-2 : goal.put_short-requires-2
put_short-requires-2 c =
    let left = room-left _ _ _ _ _ _ 22 c.ranges.number.fits c.requires c.put_short.ensures.text in
    omega arith

pub put_short-requires-3 : goal.put_short-requires-3
put_short-requires-3 c =
    let left = room-left _ _ _ _ _ _ 22 c.ranges.number.fits c.requires c.put_short.ensures.text in
    room-left _ _ _ _ _ _ 11 c.ranges.answer.fits left c.put_short-2.ensures.text
