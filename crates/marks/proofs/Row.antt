-- What the code's steps through a row of 64-bit numbers rest on: a fact on the row from number i on is one on number i and the row from i + 1 on.
use Prim.Native.Nat.{ℕ, suc, ◌+◌, ◌-◌, ◌*◌, ◌/◌, ◌%◌, ◌^◌, ◌≤◌, ◌<◌}
use mathlib.Core.Path.{◌≡◌, refl, sym, ap, ◌∙◌}
use mathlib.Core.Bool.{true, false, not}
use mathlib.Core.List.{List, [], ◌∷◌}
use native.Mathlib.Nat.{mod-eq_of_lt}
use native.Mathlib.Numerals.{add-one}
use native.Mathlib.Omega.{arith}
use borrow.Author.Tests.{ne_eqb}
use lib.Count.{ones, ones-le, count_trailing_zeros}
use lib.Dec.{eqb}
use lib.ListN.{length, get_or, set, drop, drop_of_length-le, replicate}
use lib.Seq.{drop-cons}
use Rattle.std.specs.Prelude.{bit_or, bit_and}
use Rattle.bits.specs.Marks.{put, is_marked, with_mark, clear_of, count_of, lowest_of, stands_from}
use Rattle.bits.proofs.Digits.{digit_shift, or-shift, and-shift, ones-all, none-past}
use Rattle.bits.proofs.Laws.{with-past, past-unmarked, lowest-here, lowest-there, past-stands, stands-last}

-- ---- one word's mark
pub mark-inside : (m : List ℕ) (w : ℕ) → with_mark m w 1 ≡ set m (w / 64) (bit_or (get_or m (w / 64) 0) (1 * 2 ^ (w % 64) % 2 ^ 64))
unfolding with_mark
mark-inside m w = ap (λ (x : ℕ). set m (w / 64) x) (sym (or-shift 64 (get_or m (w / 64) 0) (w % 64) (omega arith)))

pub unmark-inside : (m : List ℕ) (w : ℕ) → with_mark m w 0 ≡ set m (w / 64) (put (get_or m (w / 64) 0) (w % 64) 0)
unfolding with_mark
unmark-inside m w = refl

pub mark-past : (m : List ℕ) (w d : ℕ) → length m ≡ 4 → 256 ≤ w → with_mark m w d ≡ m
mark-past m w d four h = with-past m w d (omega arith)

pub digit-out : (x k : ℕ) → x < 2 ^ 64 → k < 64 → put x k 0 ≡ bit_and x ((2 ^ 64 - 1) - 1 * 2 ^ k % 2 ^ 64)
digit-out x k l h = sym (and-shift 64 x k h l)

pub ruleset marking = (mark-inside, unmark-inside, mark-past, digit-out)

pub read-inside : (m : List ℕ) (w : ℕ) → is_marked m w ≡ eqb (get_or m (w / 64) 0 / 2 ^ (w % 64) % 2) 1
unfolding is_marked
read-inside m w = ap (λ (d : ℕ). eqb d 1) (digit_shift (get_or m (w / 64) 0) (w % 64))

pub read-past : (m : List ℕ) (w : ℕ) → length m ≡ 4 → 256 ≤ w → is_marked m w ≡ false
read-past m w four h = past-unmarked m w (omega arith)

pub ruleset reading = (read-inside, read-past)

-- ---- the cleared row: as many zeros as the row has numbers
zeros : (m : List ℕ) → clear_of m ≡ replicate (length m) 0
unfolding clear_of
zeros [] = refl
zeros (x ∷ xs) = ap (λ (r : List ℕ). 0 ∷ r) (zeros xs)

pub clear_four : (m : List ℕ) → length m ≡ 4 → clear_of m ≡ replicate 4 0
clear_four m four = zeros m ∙ ap (λ (n : ℕ). replicate n 0) four

-- ---- the count
pub count-next : (m : List ℕ) (i : ℕ) → i < length m → get_or m i 0 < 2 ^ 64 → count_of (drop i m) ≡ ones (get_or m i 0) + count_of (drop (i + 1) m)
unfolding count_of
count-next m i h l = rw (drop-cons m i 0, ones-all 64 (get_or m i 0) l, add-one i) refl

pub count-end : (m : List ℕ) (i : ℕ) → length m ≤ i → count_of (drop i m) ≡ 0
unfolding count_of
count-end m i h = ap count_of (drop_of_length-le m {i = i} h)

pub few : (m : List ℕ) (i : ℕ) → get_or m i 0 < 2 ^ 64 → ones (get_or m i 0) ≤ 64
few m i l = ones-le 64 (get_or m i 0) l

pub ruleset counting = (count-next, count-end, few)

-- ---- the lowest marked word
pub lowest-found : (m : List ℕ) (i : ℕ) → i < length m → count_trailing_zeros 64 (get_or m i 0) < 64 → lowest_of (drop i m) ≡ count_trailing_zeros 64 (get_or m i 0)
lowest-found m i h l = rw (drop-cons m i 0) (lowest-here (get_or m i 0) (drop (suc i) m) l)

pub lowest-next : (m : List ℕ) (i : ℕ) → i < length m → 64 ≤ count_trailing_zeros 64 (get_or m i 0) → lowest_of (drop i m) ≡ 64 + lowest_of (drop (i + 1) m)
lowest-next m i h l = rw (drop-cons m i 0, add-one i) (lowest-there (get_or m i 0) (drop (suc i) m) l)

pub lowest-end : (m : List ℕ) (i : ℕ) → length m ≤ i → lowest_of (drop i m) ≡ 0
unfolding lowest_of
lowest-end m i h = ap lowest_of (drop_of_length-le m {i = i} h)

pub ruleset seeking = (lowest-found, lowest-next, lowest-end)

-- ---- what stands from a word on
pub stands-found : (m : List ℕ) (i n : ℕ) → i < length m → get_or m i 0 < 2 ^ 64 → (get_or m i 0 / 2 ^ n ≡ 0 → ⊥) → stands_from (drop i m) n ≡ true
unfolding stands_from
stands-found m i n h l o = rw (drop-cons m i 0, mod-eq_of_lt l, ne_eqb (get_or m i 0 / 2 ^ n) 0 o)

pub stands-next : (m : List ℕ) (i n : ℕ) → i < length m → get_or m i 0 < 2 ^ 64 → get_or m i 0 / 2 ^ n ≡ 0 → stands_from (drop i m) n ≡ stands_from (drop (i + 1) m) (n - 64)
unfolding stands_from
stands-next m i n h l z = rw (drop-cons m i 0, mod-eq_of_lt l, z, add-one i)

pub stands-there : (m : List ℕ) (i n : ℕ) → i < length m → get_or m i 0 < 2 ^ 64 → 64 ≤ n → stands_from (drop i m) n ≡ stands_from (drop (i + 1) m) (n - 64)
stands-there m i n h l f = stands-next m i n h l (none-past 64 (get_or m i 0) n l f)

pub stands-end : (m : List ℕ) (i n : ℕ) → length m ≤ i → stands_from (drop i m) n ≡ false
unfolding stands_from
stands-end m i n h = ap (λ (r : List ℕ). stands_from r n) (drop_of_length-le m {i = i} h)

pub stands-past : (m : List ℕ) (n : ℕ) → length m ≡ 4 → 256 ≤ n → stands_from m n ≡ false
stands-past m n four h = past-stands m n (omega arith)

pub stands-in-last : (m : List ℕ) (n : ℕ) → length m ≡ 4 → get_or m 3 0 < 2 ^ 64 → 192 ≤ n → stands_from m n ≡ not (eqb (get_or m 3 0 / 2 ^ (n - 192)) 0)
stands-in-last m n four l h = stands-last m 3 n four h ∙ rw (mod-eq_of_lt l)

pub ruleset standing = (stands-found, stands-next, stands-there, stands-end, stands-past, stands-in-last)
