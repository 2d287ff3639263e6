-- The bytes so far are put.
use Rattle.std.proofs.Common.{◌≡◌, take}
use Rattle.text.specs.Buffer.{puts}
use Rattle.text.specs.Page.{LendsSame, on_page}
use Rattle.text.proofs.Page.put_bytes.Given as goal

abbrev pub invariant-loop-byte : goal.invariant-loop-byte
invariant-loop-byte l = record {
  same : LendsSame l.fn.self l.self;
  text : on_page l.self ≡ puts (on_page l.fn.self) (take l.byte-index l.text);
}
