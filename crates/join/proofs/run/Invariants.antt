-- After i calls the store and the text are those of the definitions, and the page lends the buffer.
use Rattle.std.proofs.Common.{◌≡◌}
use Rattle.machine.specs.Given.{store_of}
use Rattle.text.specs.Page.{LendsSame, on_page}
use Rattle.join.specs.Join.{store_at, text_at}
use Rattle.join.proofs.run.Given as goal

abbrev pub invariant-loop-i : goal.invariant-loop-i
invariant-loop-i l = record {
  same : LendsSame l.initial.page l.page;
  store : store_of l.vol l.pers l.old l.held l.txs ≡ store_at l.i;
  text : on_page l.page ≡ text_at l.initial.page.bytes.now l.i;
}
