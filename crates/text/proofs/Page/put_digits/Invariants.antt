-- `put_digits` meets its contract. The loop's invariant: the bytes with the last i digits of `rest` put in are the bytes at entry with all of n's digits put in.
use Rattle.std.proofs.Common.{◌≡◌, ◌+◌, ◌≤◌, length}
use lib.Seq.{sets}
use Rattle.text.specs.Text.{decimal}
use Rattle.text.specs.Page.{LendsSame}
use Rattle.text.proofs.Backwards.{last_digits}
use Rattle.text.proofs.Page.put_digits.Given as goal

abbrev pub invariant-loop-i : goal.invariant-loop-i
invariant-loop-i l = record {
  same : LendsSame l.fn.self l.self;
  long : length l.self.bytes.now ≡ length l.fn.self.bytes.now;
  room : l.at + l.width ≤ length l.fn.self.bytes.now;
  digits : sets l.self.bytes.now l.at (last_digits l.i l.rest) ≡ sets l.fn.self.bytes.now l.at (decimal l.n);
}
