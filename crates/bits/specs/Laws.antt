-- What the layer above knows of the marks: each operation's effect on this word, on any other word and on the count, for any number of mark numbers.
use Rattle.std.specs.Prelude.{ℕ, ◌+◌, ◌*◌, ◌≤◌, ◌<◌, ◌≡◌, true, false, List, length}
use Rattle.bits.specs.Marks.{is_marked, mark_of, unmark_of, clear_of, count_of, lowest_of, stands_from}

-- the words that a row of mark numbers has a bit for
abbrev pub room : List ℕ → ℕ
room m = 64 * length m

pub record MarkLaws : Type 0 where
  -- a mark, after each operation
  pub mark-same : (m : List ℕ) (w : ℕ) → w < room m → is_marked (mark_of m w) w ≡ true
  pub mark-other : (m : List ℕ) (w v : ℕ) → (v ≡ w → ⊥) → is_marked (mark_of m w) v ≡ is_marked m v
  pub unmark-same : (m : List ℕ) (w : ℕ) → is_marked (unmark_of m w) w ≡ false
  pub unmark-other : (m : List ℕ) (w v : ℕ) → (v ≡ w → ⊥) → is_marked (unmark_of m w) v ≡ is_marked m v
  pub clear-any : (m : List ℕ) (w : ℕ) → is_marked (clear_of m) w ≡ false
  -- a word past the row
  pub past-unmarked : (m : List ℕ) (w : ℕ) → room m ≤ w → is_marked m w ≡ false
  pub past-mark : (m : List ℕ) (w : ℕ) → room m ≤ w → mark_of m w ≡ m
  pub past-unmark : (m : List ℕ) (w : ℕ) → room m ≤ w → unmark_of m w ≡ m
  -- the count, after each operation
  pub count-mark : (m : List ℕ) (w : ℕ) → w < room m → is_marked m w ≡ false → count_of (mark_of m w) ≡ count_of m + 1
  pub count-mark-again : (m : List ℕ) (w : ℕ) → is_marked m w ≡ true → count_of (mark_of m w) ≡ count_of m
  pub count-unmark : (m : List ℕ) (w : ℕ) → is_marked m w ≡ true → count_of (unmark_of m w) + 1 ≡ count_of m
  pub count-unmark-none : (m : List ℕ) (w : ℕ) → is_marked m w ≡ false → count_of (unmark_of m w) ≡ count_of m
  pub count-clear : (m : List ℕ) → count_of (clear_of m) ≡ 0
  pub count-room : (m : List ℕ) → count_of m ≤ room m
  -- the lowest marked word
  pub lowest-some : (m : List ℕ) → (count_of m ≡ 0 → ⊥) → lowest_of m < room m
  pub lowest-none : (m : List ℕ) → count_of m ≡ 0 → lowest_of m ≡ room m
  pub lowest-marked : (m : List ℕ) → (count_of m ≡ 0 → ⊥) → is_marked m (lowest_of m) ≡ true
  pub lowest-least : (m : List ℕ) (w : ℕ) → w < lowest_of m → is_marked m w ≡ false
  -- the marks at a word or above
  pub stands-none : (m : List ℕ) (n w : ℕ) → stands_from m n ≡ false → n ≤ w → is_marked m w ≡ false
  pub none-stands : (m : List ℕ) (n : ℕ) → ((w : ℕ) → n ≤ w → is_marked m w ≡ false) → stands_from m n ≡ false
  -- the row keeps its length
  pub mark-length : (m : List ℕ) (w : ℕ) → length (mark_of m w) ≡ length m
  pub unmark-length : (m : List ℕ) (w : ℕ) → length (unmark_of m w) ≡ length m
  pub clear-length : (m : List ℕ) → length (clear_of m) ≡ length m
