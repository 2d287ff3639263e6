-- What is known of a flush: the word is copied, every word is copied or kept, and the row keeps its length. Nothing else opens its definition.
use Prim.Native.Nat.{ℕ, ◌<◌}
use mathlib.Core.Path.{◌≡◌, refl, ◌∙◌}
use mathlib.Core.List.{List}
use mathlib.Core.Logic.{◌⊎◌, inl, inr}
use lib.ListN.{length, get_or, set, length-set}
use lib.Seq.{get_or-set_same, get_or-set_other}
use mathlib.Core.Bool.{Bool, true, false}
use Rattle.bits.specs.Marks.{pick, is_marked}
use Rattle.dtml.specs.Store.{Memory}
use Rattle.dtml.specs.Lines.{flush_of, flush_word}
use Rattle.dtml.specs.Demands.{overlaid}
use Rattle.dtml.proofs.Words.{same_or_not}

pub flush-copies : (vol pers : List ℕ) (w : ℕ) → w < length pers → get_or (flush_of vol pers w) w 0 ≡ get_or vol w 0
unfolding flush_of
flush-copies vol pers w h = get_or-set_same pers w (get_or vol w 0) 0 h

pub flush-each : (vol pers : List ℕ) (w x : ℕ) → x < length pers
    → (get_or (flush_of vol pers w) x 0 ≡ get_or vol x 0) ⊎ (get_or (flush_of vol pers w) x 0 ≡ get_or pers x 0)
unfolding flush_of
flush-each vol pers w x h = go (same_or_not x w)
  where
    go : (x ≡ w) ⊎ (x ≡ w → ⊥) → (get_or (set pers w (get_or vol w 0)) x 0 ≡ get_or vol x 0) ⊎ (get_or (set pers w (get_or vol w 0)) x 0 ≡ get_or pers x 0)
    go (inl e) = inl (rw (← e) (get_or-set_same pers x (get_or vol x 0) 0 h))
    go (inr f) = inr (get_or-set_other pers w x (get_or vol w 0) 0 f)

pub flush-length : (vol pers : List ℕ) (w : ℕ) → length (flush_of vol pers w) ≡ length pers
unfolding flush_of
flush-length vol pers w = length-set pers w (get_or vol w 0)

-- a flush leaves the overlaid word, if an unmarked word is the same on the volatile side
pub flush-overlaid : (m : Memory) (w x v : ℕ) → x < length m.pers → (is_marked m.marks x ≡ false → get_or m.vol x 0 ≡ v) → overlaid m x ≡ v
    → overlaid (flush_word m w) x ≡ v
flush-overlaid m w x v hx calm d = go (is_marked m.marks x) calm d (flush-each m.vol m.pers w x hx)
  where
    go : (b : Bool) → (b ≡ false → get_or m.vol x 0 ≡ v) → pick b (get_or m.old x 0) (get_or m.pers x 0) ≡ v
        → (get_or (flush_of m.vol m.pers w) x 0 ≡ get_or m.vol x 0) ⊎ (get_or (flush_of m.vol m.pers w) x 0 ≡ get_or m.pers x 0)
        → pick b (get_or m.old x 0) (get_or (flush_of m.vol m.pers w) x 0) ≡ v
    go true c e s = e
    go false c e (inl s) = s ∙ c refl
    go false c e (inr s) = s ∙ e

-- and a word that both sides share stays shared
pub flush-shared : (vol pers : List ℕ) (w x : ℕ) → x < length pers → get_or pers x 0 ≡ get_or vol x 0 → get_or (flush_of vol pers w) x 0 ≡ get_or vol x 0
flush-shared vol pers w x hx e = go (flush-each vol pers w x hx)
  where
    go : (get_or (flush_of vol pers w) x 0 ≡ get_or vol x 0) ⊎ (get_or (flush_of vol pers w) x 0 ≡ get_or pers x 0) → get_or (flush_of vol pers w) x 0 ≡ get_or vol x 0
    go (inl s) = s
    go (inr s) = s ∙ e
