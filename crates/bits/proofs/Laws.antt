-- The marks' laws, for a row of any length. A mark is one digit of one number, so an operation on it is `put` there and `set` in the row;
-- the count, the lowest mark and what stands from a word on go by induction on the row: word w of a longer row is digit w of its first number, or word w - 64 of the rest.
use Prim.Native.Nat.{ℕ, zero, suc, ◌+◌, ◌-◌, ◌*◌, ◌/◌, ◌%◌, ◌^◌, ◌≤◌, ◌<◌}
use mathlib.Core.Path.{◌≡◌, refl, sym, ap, ◌∙◌}
use mathlib.Core.Bool.{Bool, true, false, not}
use mathlib.Core.Logic.{◌⊎◌, inl, inr, ⊎_elim}
use mathlib.Core.List.{List, [], ◌∷◌}
use native.Mathlib.Omega.{arith}
use borrow.Author.Tests.{eqb-true, eqb-false, ltb-true, ltb-false, lt-ltb, le-ltb}
use lib.Count.{ones_in, count_trailing_zeros}
use lib.Dec.{eqb, ltb}
use lib.ListN.{length, get_or, set, length-set, get_or-eq_default}
use lib.Seq.{set_out, get_or-set_same, get_or-set_other}
use Rattle.bits.specs.Marks.{pick, digit, put, is_marked, with_mark, mark_of, unmark_of, clear_of, count_of, lowest_of, stands_from}
use Rattle.bits.specs.Laws.{room, MarkLaws}
use Rattle.bits.proofs.Digits.{digit_lt, digit-of-zero, digit-put-same, digit-put-other, ones_of_zero, ones-width, ones-put, ones_none, trailing-one, trailing-zero, trailing-none, high_digit, digit-high, none-past}

-- ---- two numbers compared

below_or_not : (a b : ℕ) → (a < b) ⊎ (b ≤ a)
below_or_not a b = go (ltb a b) refl
  where
    go : (t : Bool) → ltb a b ≡ t → (a < b) ⊎ (b ≤ a)
    go true e = inl (ltb-true a b e)
    go false e = inr (ltb-false a b e)

equal_or_not : (a b : ℕ) → (a ≡ b) ⊎ (a ≡ b → ⊥)
equal_or_not a b = go (eqb a b) refl
  where
    go : (t : Bool) → eqb a b ≡ t → (a ≡ b) ⊎ (a ≡ b → ⊥)
    go true e = inl (eqb-true a b e)
    go false e = inr (eqb-false a b e)

-- ---- a mark as its digit

unmarked-digit : (x k : ℕ) → eqb (digit x k) 1 ≡ false → digit x k ≡ 0
unmarked-digit x k e =
    let n : digit x k ≡ 1 → ⊥ = eqb-false (digit x k) 1 e in
    omega (arith, digit_lt x k)

-- ---- one word's mark changed

with-same : (m : List ℕ) (w d : ℕ) → d < 2 → w < room m → is_marked (with_mark m w d) w ≡ eqb d 1
unfolding is_marked with_mark
with-same m w d l h =
    let inside : w / 64 < length m = omega arith in
    rw (get_or-set_same, digit-put-same)

pub with-past : (m : List ℕ) (w d : ℕ) → room m ≤ w → with_mark m w d ≡ m
unfolding with_mark
with-past m w d h = set_out m (w / 64) (put (get_or m (w / 64) 0) (w % 64) d) (omega arith)

with-other-inside : (m : List ℕ) (w v d : ℕ) → d < 2 → (v ≡ w → ⊥) → w < room m → is_marked (with_mark m w d) v ≡ is_marked m v
unfolding is_marked with_mark
with-other-inside m w v d l n h = go (equal_or_not (v / 64) (w / 64))
  where
    x : ℕ
    x = get_or m (w / 64) 0

    go : (v / 64 ≡ w / 64) ⊎ (v / 64 ≡ w / 64 → ⊥) → eqb (digit (get_or (set m (w / 64) (put x (w % 64) d)) (v / 64) 0) (v % 64)) 1 ≡ eqb (digit (get_or m (v / 64) 0) (v % 64)) 1
    go (inl e) =
        let inside : w / 64 < length m = omega arith in
        let apart : v % 64 ≡ w % 64 → ⊥ = λ q. n (omega arith) in
        rw (e, get_or-set_same, digit-put-other x (w % 64) (v % 64) d l apart)
    go (inr o) = rw get_or-set_other

with-other : (m : List ℕ) (w v d : ℕ) → d < 2 → (v ≡ w → ⊥) → is_marked (with_mark m w d) v ≡ is_marked m v
with-other m w v d l n =
    ⊎_elim
    (λ (h : w < room m). with-other-inside m w v d l n h)
    (λ (h : room m ≤ w). rw with-past)
    (below_or_not w (room m))

pub past-unmarked : (m : List ℕ) (w : ℕ) → room m ≤ w → is_marked m w ≡ false
unfolding is_marked
past-unmarked m w h =
    let outside : length m ≤ w / 64 = omega arith in
    rw (get_or-eq_default m 0, digit-of-zero)

unmark-same : (m : List ℕ) (w : ℕ) → is_marked (unmark_of m w) w ≡ false
unmark-same m w =
    ⊎_elim
    (λ (h : w < room m). with-same m w 0 (omega arith) h)
    (λ (h : room m ≤ w). rw with-past (past-unmarked m w h))
    (below_or_not w (room m))

with-length : (m : List ℕ) (w d : ℕ) → length (with_mark m w d) ≡ length m
unfolding with_mark
with-length m w d = length-set m (w / 64) (put (get_or m (w / 64) 0) (w % 64) d)

-- ---- the first number and the rest

here : (x : ℕ) (xs : List ℕ) (w : ℕ) → w < 64 → is_marked (x ∷ xs) w ≡ eqb (digit x w) 1
unfolding is_marked
here x xs w h =
    let first : w / 64 ≡ 0 = omega arith in
    let place : w % 64 ≡ w = omega arith in
    rw (first, place)

there : (x : ℕ) (xs : List ℕ) (w v : ℕ) → w ≡ 64 + v → is_marked (x ∷ xs) w ≡ is_marked xs v
unfolding is_marked
there x xs w v e =
    let next : w / 64 ≡ suc (v / 64) = omega arith in
    let place : w % 64 ≡ v % 64 = omega arith in
    rw (next, place)

-- ---- no mark

clear-any : (m : List ℕ) (w : ℕ) → is_marked (clear_of m) w ≡ false
unfolding clear_of
clear-any [] w = past-unmarked [] w (omega arith)
clear-any (x ∷ xs) w =
    ⊎_elim
    (λ (h : w < 64). here 0 (clear_of xs) w h ∙ rw digit-of-zero)
    (λ (h : 64 ≤ w). there 0 (clear_of xs) w (w - 64) (omega arith) ∙ clear-any xs (w - 64))
    (below_or_not w 64)

clear-length : (m : List ℕ) → length (clear_of m) ≡ length m
unfolding clear_of
clear-length [] = refl
clear-length (x ∷ xs) = ap suc (clear-length xs)

-- ---- the count

count_set : (m : List ℕ) (i v : ℕ) → i < length m → count_of (set m i v) + ones_in 64 (get_or m i 0) ≡ count_of m + ones_in 64 v
unfolding count_of
count_set [] i v h = absurd (omega arith)
count_set (x ∷ xs) zero v h = omega arith
count_set (x ∷ xs) (suc i) v h = omega (arith, count_set xs i v (omega arith))

count-with : (m : List ℕ) (w d : ℕ) → d < 2 → w < room m → count_of (with_mark m w d) + digit (get_or m (w / 64) 0) (w % 64) ≡ count_of m + d
unfolding with_mark
count-with m w d l h =
    let x : ℕ = get_or m (w / 64) 0 in
    omega (arith, count_set m (w / 64) (put x (w % 64) d) (omega arith), ones-put 64 x (w % 64) d (omega arith) l)

count-clear : (m : List ℕ) → count_of (clear_of m) ≡ 0
unfolding count_of clear_of
count-clear [] = refl
count-clear (x ∷ xs) = omega (arith, ones_of_zero 64, count-clear xs)

count-room : (m : List ℕ) → count_of m ≤ room m
unfolding count_of
count-room [] = omega arith
count-room (x ∷ xs) = omega (arith, ones-width 64 x, count-room xs)

-- a marked word has a digit in the row
marked-inside : (m : List ℕ) (w : ℕ) → is_marked m w ≡ true → w < room m
marked-inside m w e =
    ⊎_elim
    (λ (h : w < room m). h)
    (λ (h : room m ≤ w). let never : ◌≡◌ {A = ℕ} 0 1 = cc (past-unmarked m w h) in omega arith)
    (below_or_not w (room m))

count-mark : (m : List ℕ) (w : ℕ) → w < room m → is_marked m w ≡ false → count_of (mark_of m w) ≡ count_of m + 1
unfolding is_marked
count-mark m w h e = omega (arith, count-with m w 1 (omega arith) h, unmarked-digit (get_or m (w / 64) 0) (w % 64) e)

count-mark-again : (m : List ℕ) (w : ℕ) → is_marked m w ≡ true → count_of (mark_of m w) ≡ count_of m
unfolding is_marked
count-mark-again m w e = omega (arith, count-with m w 1 (omega arith) (marked-inside m w e), eqb-true (digit (get_or m (w / 64) 0) (w % 64)) 1 e)

count-unmark : (m : List ℕ) (w : ℕ) → is_marked m w ≡ true → count_of (unmark_of m w) + 1 ≡ count_of m
unfolding is_marked
count-unmark m w e = omega (arith, count-with m w 0 (omega arith) (marked-inside m w e), eqb-true (digit (get_or m (w / 64) 0) (w % 64)) 1 e)

count-unmark-none : (m : List ℕ) (w : ℕ) → is_marked m w ≡ false → count_of (unmark_of m w) ≡ count_of m
unfolding is_marked
count-unmark-none m w e =
    ⊎_elim
    (λ (h : w < room m). omega (arith, count-with m w 0 (omega arith) h, unmarked-digit (get_or m (w / 64) 0) (w % 64) e))
    (λ (h : room m ≤ w). ap count_of (with-past m w 0 h))
    (below_or_not w (room m))

-- ---- the lowest marked word

-- it is in the first number where that has a one among its digits, and else in the rest, which then holds the whole count
pub lowest-here : (x : ℕ) (xs : List ℕ) → count_trailing_zeros 64 x < 64 → lowest_of (x ∷ xs) ≡ count_trailing_zeros 64 x
unfolding lowest_of
lowest-here x xs h = rw (lt-ltb (count_trailing_zeros 64 x) 64 h)

pub lowest-there : (x : ℕ) (xs : List ℕ) → 64 ≤ count_trailing_zeros 64 x → lowest_of (x ∷ xs) ≡ 64 + lowest_of xs
unfolding lowest_of
lowest-there x xs h = rw (le-ltb (count_trailing_zeros 64 x) 64 h)

count-there : (x : ℕ) (xs : List ℕ) → 64 ≤ count_trailing_zeros 64 x → count_of (x ∷ xs) ≡ count_of xs
unfolding count_of
count-there x xs h = omega (arith, ones_none 64 x (λ k l. trailing-zero 64 x k (omega arith)))

lowest-some : (m : List ℕ) → (count_of m ≡ 0 → ⊥) → lowest_of m < room m
unfolding count_of
lowest-some [] n = absurd (n refl)
lowest-some (x ∷ xs) n =
    ⊎_elim
    (λ (h : count_trailing_zeros 64 x < 64). omega (arith, lowest-here x xs h))
    (λ (h : 64 ≤ count_trailing_zeros 64 x). omega (arith, lowest-there x xs h, lowest-some xs (λ e. n (count-there x xs h ∙ e))))
    (below_or_not (count_trailing_zeros 64 x) 64)

lowest-none : (m : List ℕ) → count_of m ≡ 0 → lowest_of m ≡ room m
unfolding count_of lowest_of
lowest-none [] e = refl
lowest-none (x ∷ xs) e =
    let none : count_trailing_zeros 64 x ≡ 64 = trailing-none 64 x (omega arith) in
    omega (arith, lowest-there x xs (omega arith), lowest-none xs (omega arith))

lowest-marked : (m : List ℕ) → (count_of m ≡ 0 → ⊥) → is_marked m (lowest_of m) ≡ true
unfolding count_of
lowest-marked [] n = absurd (n refl)
lowest-marked (x ∷ xs) n =
    ⊎_elim
    (λ (h : count_trailing_zeros 64 x < 64). rw lowest-here (here x xs (count_trailing_zeros 64 x) h ∙ rw (trailing-one 64 x h)))
    (λ (h : 64 ≤ count_trailing_zeros 64 x). rw lowest-there
    (there x xs (64 + lowest_of xs) (lowest_of xs) refl ∙ lowest-marked xs (λ e. n (count-there x xs h ∙ e))))
    (below_or_not (count_trailing_zeros 64 x) 64)

-- below it, and above the first number, is below the rest's; below it, and in the first number, is below that number's lowest one
lowest-most : (x : ℕ) (xs : List ℕ) → lowest_of (x ∷ xs) ≤ 64 + lowest_of xs
lowest-most x xs =
    ⊎_elim
    (λ (h : count_trailing_zeros 64 x < 64). omega (arith, lowest-here x xs h))
    (λ (h : 64 ≤ count_trailing_zeros 64 x). omega (arith, lowest-there x xs h))
    (below_or_not (count_trailing_zeros 64 x) 64)

lowest-below : (x : ℕ) (xs : List ℕ) (w : ℕ) → w < 64 → w < lowest_of (x ∷ xs) → w < count_trailing_zeros 64 x
lowest-below x xs w l g =
    ⊎_elim
    (λ (h : count_trailing_zeros 64 x < 64). omega (arith, lowest-here x xs h))
    (λ (h : 64 ≤ count_trailing_zeros 64 x). omega arith)
    (below_or_not (count_trailing_zeros 64 x) 64)

lowest-least : (m : List ℕ) (w : ℕ) → w < lowest_of m → is_marked m w ≡ false
unfolding lowest_of
lowest-least [] w h = absurd (omega arith)
lowest-least (x ∷ xs) w h =
    ⊎_elim
    (λ (l : w < 64). here x xs w l ∙ rw (trailing-zero 64 x w (lowest-below x xs w l h)))
    (λ (l : 64 ≤ w). there x xs w (w - 64) (omega arith) ∙ lowest-least xs (w - 64) (omega (arith, lowest-most x xs)))
    (below_or_not w 64)

-- ---- the marks at a word or above

pick-not : (t : Bool) → pick t false true ≡ not t
pick-not true = refl
pick-not false = refl

stands-none : (m : List ℕ) (n w : ℕ) → stands_from m n ≡ false → n ≤ w → is_marked m w ≡ false
unfolding stands_from
stands-none [] n w e l = past-unmarked [] w (omega arith)
stands-none (x ∷ xs) n w e l = go (eqb (x % 2 ^ 64 / 2 ^ n) 0) refl e (stands-none xs (n - 64) (w - 64))
  where
    go : (t : Bool) → eqb (x % 2 ^ 64 / 2 ^ n) 0 ≡ t → pick t (stands_from xs (n - 64)) true ≡ false
        → (stands_from xs (n - 64) ≡ false → n - 64 ≤ w - 64 → is_marked xs (w - 64) ≡ false) → is_marked (x ∷ xs) w ≡ false
    go true q r rest =
        ⊎_elim
        (λ (h : w < 64). here x xs w h ∙ rw (high_digit 64 n x w (eqb-true (x % 2 ^ 64 / 2 ^ n) 0 q) l h))
        (λ (h : 64 ≤ w). there x xs w (w - 64) (omega arith) ∙ rest r (omega arith))
        (below_or_not w 64)
    go false q r rest = cc

none-stands : (m : List ℕ) (n : ℕ) → ((w : ℕ) → n ≤ w → is_marked m w ≡ false) → stands_from m n ≡ false
unfolding stands_from
none-stands [] n h = refl
none-stands (x ∷ xs) n h =
    let high : x % 2 ^ 64 / 2 ^ n ≡ 0 = digit-high 64 n x (λ k l g. unmarked-digit x k (sym (here x xs k g) ∙ h k l)) in
    rw high (none-stands xs (n - 64) (λ w l. sym (there x xs (64 + w) w refl) ∙ h (64 + w) (omega arith)))

-- a row has no word to stand from past its end
pub past-stands : (m : List ℕ) (n : ℕ) → room m ≤ n → stands_from m n ≡ false
past-stands m n h = none-stands m n (λ w l. past-unmarked m w (omega arith))

-- no digit of a number is at a word past it
stands-there : (x : ℕ) (xs : List ℕ) (n : ℕ) → 64 ≤ n → stands_from (x ∷ xs) n ≡ stands_from xs (n - 64)
unfolding stands_from
stands-there x xs n h = rw (none-past 64 (x % 2 ^ 64) n (omega arith) h)

-- from a word of the last number on, that number alone says it
pub stands-last : (m : List ℕ) (i n : ℕ) → length m ≡ suc i → 64 * i ≤ n → stands_from m n ≡ not (eqb (get_or m i 0 % 2 ^ 64 / 2 ^ (n - 64 * i)) 0)
unfolding stands_from
stands-last [] i n e h = absurd (omega arith)
stands-last (x ∷ []) zero n e h =
    let here : n - 64 * 0 ≡ n = omega arith in
    rw here (pick-not (eqb (x % 2 ^ 64 / 2 ^ n) 0))
stands-last (x ∷ y ∷ ys) zero n e h = absurd (omega arith)
stands-last (x ∷ xs) (suc i) n e h =
    let rest : n - 64 * suc i ≡ n - 64 - 64 * i = omega arith in
    rw rest (stands-there x xs n (omega arith) ∙ stands-last xs i (n - 64) (omega arith) (omega arith))

pub laws : MarkLaws
laws = record {
  mark-same = λ m w h. with-same m w 1 (omega arith) h;
  mark-other = λ m w v n. with-other m w v 1 (omega arith) n;
  unmark-same = unmark-same;
  unmark-other = λ m w v n. with-other m w v 0 (omega arith) n;
  clear-any = clear-any;
  past-unmarked = past-unmarked;
  past-mark = λ m w h. with-past m w 1 h;
  past-unmark = λ m w h. with-past m w 0 h;
  count-mark = count-mark;
  count-mark-again = count-mark-again;
  count-unmark = count-unmark;
  count-unmark-none = count-unmark-none;
  count-clear = count-clear;
  count-room = count-room;
  lowest-some = lowest-some;
  lowest-none = lowest-none;
  lowest-marked = lowest-marked;
  lowest-least = lowest-least;
  stands-none = stands-none;
  none-stands = none-stands;
  mark-length = λ m w. with-length m w 1;
  unmark-length = λ m w. with-length m w 0;
  clear-length = clear-length;
}
