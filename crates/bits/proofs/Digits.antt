-- The facts on one number's binary digits that the marks stand on, each over any place or width.
-- Each is an induction on the place or the width: a number is its lowest digit `x % 2` and the rest `x / 2`, and omega does the step.
use Prim.Native.Nat.{ℕ, zero, suc, ◌+◌, ◌-◌, ◌*◌, ◌/◌, ◌%◌, ◌^◌, ◌≤◌, ◌<◌, max}
use mathlib.Core.Path.{◌≡◌, refl, sym, ap, ◌∙◌}
use native.Mathlib.Nat.{pow-suc, mod-eq_of_lt, zero-div, div-eq_of_lt, lt_of_lt_of_le}
use native.Mathlib.Numerals.{add-one, one-add}
use native.Mathlib.Omega.{arith}
use lib.Bits.{bit_and, bit_or, or_step, and_step, or_zero_r, and_mask}
use lib.Count.{ones_in, ones, ones_step, count_trailing_zeros, under}
use lib.Pow.{pow-lt, pow_mono, pow_pos, shl_exact, shr-shr, field, mod-pow-add}
use Rattle.bits.specs.Marks.{digit, put}

-- ---- one digit

pub digit_lt : (x k : ℕ) → digit x k < 2
unfolding digit
digit_lt x zero = omega arith
digit_lt x (suc k) = digit_lt (x / 2) k

pub digit-of-zero : (k : ℕ) → digit 0 k ≡ 0
unfolding digit
digit-of-zero zero = refl
digit-of-zero (suc k) = digit-of-zero k

-- dividing by 2 and then by 2 ^ k
shr-suc : (x k : ℕ) → x / 2 ^ suc k ≡ x / 2 / 2 ^ k
shr-suc x k = rw (← (one-add k)) (sym (shr-shr x 1 k))

pub digit_shift : (x k : ℕ) → digit x k ≡ x / 2 ^ k % 2
unfolding digit
digit_shift x zero = omega arith
digit_shift x (suc k) = rw shr-suc (digit_shift (x / 2) k)

-- ---- a digit put in

pub digit-put-same : (x k d : ℕ) → d < 2 → digit (put x k d) k ≡ d
unfolding digit put
digit-put-same x zero d h = omega arith
digit-put-same x (suc k) d h =
    let rest : (put (x / 2) k d * 2 + x % 2) / 2 ≡ put (x / 2) k d = omega arith in
    rw rest (digit-put-same (x / 2) k d h)

pub digit-put-other : (x k j d : ℕ) → d < 2 → (j ≡ k → ⊥) → digit (put x k d) j ≡ digit x j
unfolding digit put
digit-put-other x zero zero d h n = absurd (n refl)
digit-put-other x zero (suc j) d h n =
    let rest : (x / 2 * 2 + d) / 2 ≡ x / 2 = omega arith in
    rw rest
digit-put-other x (suc k) zero d h n = omega arith
digit-put-other x (suc k) (suc j) d h n =
    let rest : (put (x / 2) k d * 2 + x % 2) / 2 ≡ put (x / 2) k d = omega arith in
    rw rest (digit-put-other (x / 2) k j d h (λ e. n (ap suc e)))

-- the power of two at a place within the width, as a shift computes it
shifted_one : (w k : ℕ) → k < w → 1 * 2 ^ k % 2 ^ w ≡ 2 ^ k
shifted_one w k h = shl_exact 1 k w (omega arith) (omega arith) ∙ omega arith

put_one : (x k : ℕ) → put x k 1 ≡ bit_or x (2 ^ k)
unfolding put
put_one x zero = omega (arith, or_step x 1, or_zero_r (x / 2))
put_one x (suc k) =
    let rest : 2 ^ suc k / 2 ≡ 2 ^ k = omega (arith, pow-suc 2 k) in
    let low : 2 ^ suc k % 2 ≡ 0 = omega (arith, pow-suc 2 k) in
    let step : bit_or x (2 ^ suc k) ≡ bit_or (x / 2) (2 ^ k) * 2 + max (x % 2) 0 = rw (or_step x (2 ^ suc k), rest, low) in
    omega (arith, put_one (x / 2) k)

-- setting a digit is `|` with one shifted to its place
pub or-shift : (w x k : ℕ) → k < w → bit_or x (1 * 2 ^ k % 2 ^ w) ≡ put x k 1
or-shift w x k h = rw shifted_one (sym (put_one x k))

-- the mask of every digit below w but digit k, against its lowest digit and the rest
mask-zero : (w x : ℕ) → bit_and x ((2 ^ suc w - 1) - 1) ≡ x / 2 % 2 ^ w * 2
mask-zero w x =
    let rest : ((2 ^ suc w - 1) - 1) / 2 ≡ 2 ^ w - 1 = omega (arith, pow-suc 2 w) in
    let low : ((2 ^ suc w - 1) - 1) % 2 ≡ 0 = omega (arith, pow-suc 2 w, pow_pos w) in
    and_step x ((2 ^ suc w - 1) - 1) ∙ rw (rest, low, and_mask) (omega arith)

mask-suc : (w x k : ℕ) → 2 ^ k < 2 ^ w → bit_and x ((2 ^ suc w - 1) - 2 ^ suc k) ≡ bit_and (x / 2) ((2 ^ w - 1) - 2 ^ k) * 2 + x % 2
mask-suc w x k h =
    let rest : ((2 ^ suc w - 1) - 2 ^ suc k) / 2 ≡ (2 ^ w - 1) - 2 ^ k = omega (arith, pow-suc 2 w, pow-suc 2 k) in
    let low : ((2 ^ suc w - 1) - 2 ^ suc k) % 2 ≡ 1 = omega (arith, pow-suc 2 w, pow-suc 2 k) in
    and_step x ((2 ^ suc w - 1) - 2 ^ suc k) ∙ rw (rest, low) (omega arith)

put-zero : (w x k : ℕ) → k < w → x < 2 ^ w → put x k 0 ≡ bit_and x ((2 ^ w - 1) - 2 ^ k)
unfolding put
put-zero zero x k h l = absurd (omega arith)
put-zero (suc w) x zero h l =
    omega (arith, mask-zero w x, mod-eq_of_lt {n = x / 2} {m = 2 ^ w} (omega (arith, pow-suc 2 w)))
put-zero (suc w) x (suc k) h l =
    ap (λ (r : ℕ). r * 2 + x % 2) (put-zero w (x / 2) k (omega arith) (omega (arith, pow-suc 2 w)))
    ∙ sym (mask-suc w x k (pow-lt (omega arith)))

-- clearing a digit of a number of w digits is `&` with all but one shifted to its place
pub and-shift : (w x k : ℕ) → k < w → x < 2 ^ w → bit_and x ((2 ^ w - 1) - 1 * 2 ^ k % 2 ^ w) ≡ put x k 0
and-shift w x k h l = rw shifted_one (sym (put-zero w x k h l))

-- ---- the ones among the lowest n digits

pub ones_of_zero : (n : ℕ) → ones_in n 0 ≡ 0
unfolding ones_in
ones_of_zero zero = refl
ones_of_zero (suc n) = omega (arith, ones_of_zero n)

pub ones-width : (n x : ℕ) → ones_in n x ≤ n
unfolding ones_in
ones-width zero x = omega arith
ones-width (suc n) x = omega (arith, ones-width n (x / 2))

-- a number below 2 ^ n has no further ones
pub ones-all : (n x : ℕ) → x < 2 ^ n → ones x ≡ ones_in n x
unfolding ones_in ones
ones-all zero x h =
    let none : x ≡ 0 = omega arith in
    ap ones none
ones-all (suc n) x h = ones_step x ∙ ap (λ (r : ℕ). x % 2 + r) (ones-all n (x / 2) (omega (arith, pow-suc 2 n)))

-- the digit put in is counted for the digit that was there
pub ones-put : (n x k d : ℕ) → k < n → d < 2 → ones_in n (put x k d) + digit x k ≡ ones_in n x + d
unfolding ones_in digit put
ones-put zero x k d h l = absurd (omega arith)
ones-put (suc n) x zero d h l =
    let rest : (x / 2 * 2 + d) / 2 ≡ x / 2 = omega arith in
    rw rest (omega arith)
ones-put (suc n) x (suc k) d h l =
    let rest : (put (x / 2) k d * 2 + x % 2) / 2 ≡ put (x / 2) k d = omega arith in
    rw rest (omega (arith, ones-put n (x / 2) k d (omega arith) l))

pub ones_none : (n x : ℕ) → ((k : ℕ) → k < n → digit x k ≡ 0) → ones_in n x ≡ 0
unfolding ones_in digit
ones_none zero x h = refl
ones_none (suc n) x h = omega (arith, h 0 (omega arith), ones_none n (x / 2) (λ k l. h (suc k) (omega arith)))

-- ---- the zeros below the lowest one

pub trailing-one : (n x : ℕ) → count_trailing_zeros n x < n → digit x (count_trailing_zeros n x) ≡ 1
unfolding count_trailing_zeros digit
trailing-one zero x h = absurd (omega arith)
trailing-one (suc n) x h = go (x % 2) (count_trailing_zeros n (x / 2)) refl (trailing-one n (x / 2)) h
  where
    go : (d t : ℕ) → x % 2 ≡ d → (t < n → digit (x / 2) t ≡ 1) → under d t < suc n → digit x (under d t) ≡ 1
    go zero t e rest l = rest (omega arith)
    go (suc d) t e rest l = omega arith

pub trailing-zero : (n x k : ℕ) → k < count_trailing_zeros n x → digit x k ≡ 0
unfolding count_trailing_zeros digit
trailing-zero zero x k h = absurd (omega arith)
trailing-zero (suc n) x k h = go (x % 2) (count_trailing_zeros n (x / 2)) k refl (trailing-zero n (x / 2)) h
  where
    go : (d t j : ℕ) → x % 2 ≡ d → ((i : ℕ) → i < t → digit (x / 2) i ≡ 0) → j < under d t → digit x j ≡ 0
    go zero t zero e rest l = e
    go zero t (suc j) e rest l = rest j (omega arith)
    go (suc d) t j e rest l = absurd (omega arith)

pub trailing-none : (n x : ℕ) → ones_in n x ≡ 0 → count_trailing_zeros n x ≡ n
unfolding count_trailing_zeros ones_in
trailing-none zero x h = refl
trailing-none (suc n) x h =
    let low : x % 2 ≡ 0 = omega arith in
    rw low (ap suc (trailing-none n (x / 2) (omega arith)))

-- ---- the digits from place n up to the width w

mod-half : (x w : ℕ) → x % 2 ^ suc w / 2 ≡ x / 2 % 2 ^ w
mod-half x w = rw (← (add-one w)) (field x w 1)

high_half : (w n x : ℕ) → x % 2 ^ suc w / 2 ^ suc n ≡ x / 2 % 2 ^ w / 2 ^ n
high_half w n x = rw (shr-suc, mod-half)

mod-suc : (x w : ℕ) → x % 2 ^ suc w ≡ x / 2 % 2 ^ w * 2 + x % 2
mod-suc x w = rw (← (add-one w)) (mod-pow-add x w 1)

pub none-past : (w x n : ℕ) → x < 2 ^ w → w ≤ n → x / 2 ^ n ≡ 0
none-past w x n h l = div-eq_of_lt (lt_of_lt_of_le h (pow_mono l))

pub high_digit : (w n x k : ℕ) → x % 2 ^ w / 2 ^ n ≡ 0 → n ≤ k → k < w → digit x k ≡ 0
unfolding digit
high_digit zero n x k e l h = absurd (omega arith)
high_digit (suc w) zero x zero e l h = omega (arith, mod-suc x w)
high_digit (suc w) zero x (suc k) e l h = high_digit w zero (x / 2) k (omega (arith, mod-suc x w)) (omega arith) (omega arith)
high_digit (suc w) (suc n) x zero e l h = absurd (omega arith)
high_digit (suc w) (suc n) x (suc k) e l h =
    high_digit w n (x / 2) k (sym (high_half w n x) ∙ e) (omega arith) (omega arith)

pub digit-high : (w n x : ℕ) → ((k : ℕ) → n ≤ k → k < w → digit x k ≡ 0) → x % 2 ^ w / 2 ^ n ≡ 0
unfolding digit
digit-high zero n x h =
    let none : x % 1 ≡ 0 = omega arith in
    rw none (zero-div (2 ^ n))
digit-high (suc w) zero x h =
    let rest : x / 2 % 2 ^ w / 1 ≡ 0 = digit-high w zero (x / 2) (λ k l g. h (suc k) (omega arith) (omega arith)) in
    omega (arith, mod-suc x w, h 0 (omega arith) (omega arith))
digit-high (suc w) (suc n) x h =
    high_half w n x ∙ digit-high w n (x / 2) (λ k l g. h (suc k) (omega arith) (omega arith))
