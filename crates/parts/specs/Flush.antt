-- A flush on rows of any lengths: of a word that both have.
use Rattle.std.specs.Prelude.{ℕ, List, length, ltb}
use Rattle.bits.specs.Marks.{pick}
use Rattle.dtml.specs.Lines.{flush_of}

unfoldable pub flush_in : List ℕ → List ℕ → ℕ → List ℕ
flush_in vol pers w = pick (ltb w (length vol)) (pick (ltb w (length pers)) (flush_of vol pers w) pers) pers
