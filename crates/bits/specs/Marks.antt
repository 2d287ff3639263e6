-- One mark bit for each word, in a row of 64-bit numbers: word w has digit `w % 64` of number `w / 64`.
-- The row may have any length; the store's has four numbers, for words 0 to 255. A word past the row is not marked, and marking it changes nothing.
use Rattle.std.specs.Prelude.{ℕ, zero, suc, ◌+◌, ◌-◌, ◌*◌, ◌/◌, ◌%◌, ◌^◌, Bool, true, false, List, [], ◌∷◌, get_or, set, eqb, ltb}
use Rattle.std.specs.Int.Count.{ones_in, count_trailing_zeros}

abbrev pub pick : {A : Type 0} → Bool → A → A → A
pick true a b = a
pick false a b = b

-- binary digit k of x, counted from the lowest
unfoldable pub digit : ℕ → ℕ → ℕ
digit x zero = x % 2
digit x (suc k) = digit (x / 2) k

-- x with d for its binary digit k
unfoldable pub put : ℕ → ℕ → ℕ → ℕ
put x zero d = x / 2 * 2 + d
put x (suc k) d = put (x / 2) k d * 2 + x % 2

unfoldable pub is_marked : List ℕ → ℕ → Bool
is_marked m w = eqb (digit (get_or m (w / 64) 0) (w % 64)) 1

-- the row with d for word w's mark
unfoldable pub with_mark : List ℕ → ℕ → ℕ → List ℕ
with_mark m w d = set m (w / 64) (put (get_or m (w / 64) 0) (w % 64) d)

abbrev pub mark_of : List ℕ → ℕ → List ℕ
mark_of m w = with_mark m w 1

abbrev pub unmark_of : List ℕ → ℕ → List ℕ
unmark_of m w = with_mark m w 0

-- no word marked
unfoldable pub clear_of : List ℕ → List ℕ
clear_of [] = []
clear_of (x ∷ xs) = 0 ∷ clear_of xs

-- how many words are marked: the ones among each number's 64 digits
unfoldable pub count_of : List ℕ → ℕ
count_of [] = 0
count_of (x ∷ xs) = ones_in 64 x + count_of xs

-- the lowest marked word, by the zeros below each number's lowest one; where no word is marked, the number of words, 64 for each number
unfoldable pub lowest_of : List ℕ → ℕ
lowest_of [] = 0
lowest_of (x ∷ xs) = pick (ltb (count_trailing_zeros 64 x) 64) (count_trailing_zeros 64 x) (64 + lowest_of xs)

-- some word at n or above is marked
unfoldable pub stands_from : List ℕ → ℕ → Bool
stands_from [] n = false
stands_from (x ∷ xs) n = pick (eqb (x % 2 ^ 64 / 2 ^ n) 0) (stands_from xs (n - 64)) true
