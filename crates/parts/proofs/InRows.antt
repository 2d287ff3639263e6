-- A word that both rows have is flushed as the definition says.
use Prim.Native.Nat.{ℕ, ◌<◌}
use mathlib.Core.Path.{◌≡◌}
use mathlib.Core.List.{List}
use borrow.Author.Tests.{lt-ltb}
use lib.ListN.{length}
use Rattle.dtml.specs.Lines.{flush_of}
use Rattle.parts.specs.Flush.{flush_in}

pub in_rows : (vol pers : List ℕ) (w : ℕ) → w < length vol → w < length pers → flush_in vol pers w ≡ flush_of vol pers w
unfolding flush_in
in_rows vol pers w a b = rw (lt-ltb w (length vol) a, lt-ltb w (length pers) b)
