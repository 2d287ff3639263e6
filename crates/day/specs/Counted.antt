-- How the code of a replay counts, record by record. That it comes to the T line's numbers is proved; a reader of the promises can leave this out.
use Rattle.std.specs.Prelude.{ℕ, ◌+◌, ◌*◌, ◌≤◌, List}
use Rattle.dtml.specs.declared.Recovery.{Recovery}
use Rattle.dtml.specs.Table.{Reply}
use Rattle.dtml.specs.declared.Call.{Call}
use Rattle.dtml.specs.Counting.{crashes_in, lines_in, cut_in, committed_in}
use Rattle.day.specs.declared.Totals.{Totals}
use Rattle.day.specs.Replay.{totals}

-- the T line's numbers after one record more, a call that found recovery at r and the marks k, and was answered a
unfoldable pub counted : Totals → Recovery → List ℕ → Call → Reply → Totals
counted t r k c a =
    totals (t.records + 1) (t.crashes + crashes_in c a) (t.lines + lines_in c a) (t.cut + cut_in c r k a) (t.committed + committed_in c a)

-- the numbers of no more than so many records, each of which cuts off no more than 256 words
pub record Few (most : ℕ) (t : Totals) : Type 0 where
  pub records : t.records ≤ most
  pub crashes : t.crashes ≤ most
  pub lines : t.lines ≤ most
  pub cut : t.cut ≤ 256 * most
  pub committed : t.committed ≤ most
