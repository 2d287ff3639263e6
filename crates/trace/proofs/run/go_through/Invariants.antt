-- The loop keeps the rows and the page that it was lent, and what is known of its locals (`Kept`). The measure is the bytes that are left.
use Prim.Native.Nat.{◌-◌}
use lib.ListN.{length}
use Rattle.dtml.specs.Store.{size}
use Rattle.parts.specs.Lent.{memory_of, SameRows}
use Rattle.text.specs.Page.{LendsSame, on_page}
use Rattle.trace.proofs.Turned.{Kept}
use Rattle.trace.proofs.run.go_through.Given as goal

abbrev pub invariant-loop-record : goal.invariant-loop-record
invariant-loop-record l =
    SameRows l.initial.memory l.memory
    × LendsSame l.initial.page l.page
    × Kept l.trace (size (memory_of l.initial.memory)) l.initial.page.bytes.now (memory_of l.memory) (on_page l.page) l.totals l.recovery l.rows l.reader

abbrev pub decreases-loop-record : goal.decreases-loop-record
decreases-loop-record l = length l.trace - l.reader.at
