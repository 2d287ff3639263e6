-- A buffer that text is put into: its bytes, and the place of the next one. A full buffer stays as it is.
use Rattle.std.specs.Prelude.{ℕ, ◌+◌, List, [], ◌∷◌, length, set, ltb}
use Rattle.bits.specs.Marks.{pick}

pub record Buffer : Type 0 where
  pub bytes : List ℕ
  pub at : ℕ

abbrev pub buffer : List ℕ → ℕ → Buffer
buffer bytes at = record { bytes = bytes; at = at }

unfoldable pub put : Buffer → ℕ → Buffer
put o b = pick (ltb o.at (length o.bytes)) (buffer (set o.bytes o.at b) (o.at + 1)) o

unfoldable pub puts : Buffer → List ℕ → Buffer
puts o [] = o
puts o (b ∷ text) = puts (put o b) text
