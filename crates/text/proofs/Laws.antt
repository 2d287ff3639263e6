-- What holds of text: how it is put piece by piece, where it stands in a buffer that has room for it, how long it can be, and that digits mean their number.
-- Digits are shown by recursion on how many are asked for: a number below 10 is its digit, and any other is the digits of n / 10 and the digit n % 10.
use Prim.Native.Nat.{ℕ, zero, suc, ◌+◌, ◌-◌, ◌*◌, ◌/◌, ◌%◌, ◌^◌, ◌≤◌, ◌<◌}
use mathlib.Core.Path.{◌≡◌, refl, sym, ap, ◌∙◌}
use mathlib.Core.Bool.{Bool, true, false}
use mathlib.Core.Logic.{◌⊎◌, inl, inr, ⊎_elim}
use mathlib.Core.List.{List, [], ◌∷◌, ◌++◌, append_assoc}
use native.Mathlib.Nat.{pow-suc}
use native.Mathlib.Numerals.{add-one}
use native.Mathlib.Omega.{arith}
use borrow.Author.Tests.{lt-ltb, le-ltb, ltb-true, ltb-false}
use lib.Dec.{ltb}
use lib.ListN.{length, drop, take, set, get_or, length-append, length-set}
use Rattle.std.proofs.lemmas.List.{take_more}
use lib.Seq.{sets, sets-eq}
use Rattle.bits.specs.Marks.{pick}
use Rattle.text.specs.Buffer.{Buffer, buffer, put, puts}
use Rattle.text.specs.Text.{digits, decimal, value_from, value_of, line_of, answer_line, stop_line, totals_line}

-- ---- bytes put into a buffer

pub put-fits : (bytes : List ℕ) (at b : ℕ) → at < length bytes → put (buffer bytes at) b ≡ buffer (set bytes at b) (at + 1)
unfolding put
put-fits bytes at b h = rw (lt-ltb at (length bytes) h)

pub put_full : (bytes : List ℕ) (at b : ℕ) → length bytes ≤ at → put (buffer bytes at) b ≡ buffer bytes at
unfolding put
put_full bytes at b h = rw (le-ltb at (length bytes) h)

put-length : (o : Buffer) (b : ℕ) → length (put o b).bytes ≡ length o.bytes
unfolding put
put-length o b = go (ltb o.at (length o.bytes))
  where
    go : (t : Bool) → length (pick t (buffer (set o.bytes o.at b) (o.at + 1)) o).bytes ≡ length o.bytes
    go true = length-set o.bytes o.at b
    go false = refl

pub puts-length : (o : Buffer) (t : List ℕ) → length (puts o t).bytes ≡ length o.bytes
unfolding puts
puts-length o [] = refl
puts-length o (b ∷ t) = puts-length (put o b) t ∙ put-length o b

pub puts-append : (o : Buffer) (s t : List ℕ) → puts o (s ++ t) ≡ puts (puts o s) t
unfolding puts
puts-append o [] t = refl
puts-append o (b ∷ s) t = puts-append (put o b) s t

-- one byte more of a text
pub puts_take : (o : Buffer) (t : List ℕ) (i : ℕ) → i < length t → puts o (take (i + 1) t) ≡ put (puts o (take i t)) (get_or t i 0)
unfolding puts
puts_take o t i h = ap (puts o) (take_more t i 0 h) ∙ puts-append o (take i t) (get_or t i 0 ∷ [])

pub puts-sets : (bytes : List ℕ) (at : ℕ) (t : List ℕ) → at + length t ≤ length bytes → puts (buffer bytes at) t ≡ buffer (sets bytes at t) (at + length t)
unfolding puts
puts-sets bytes at [] h = ap (buffer bytes) (omega arith)
puts-sets bytes at (b ∷ t) h =
    ap (λ (o : Buffer). puts o t) (put-fits bytes at b (omega arith) ∙ ap (buffer (set bytes at b)) (add-one at))
    ∙ puts-sets (set bytes at b) (suc at) t (omega (arith, length-set bytes at b))
    ∙ ap (buffer (sets (set bytes at b) (suc at) t)) (omega arith)

-- text put at a place, in a buffer that has room for it there
pub puts-at : (bytes : List ℕ) (at : ℕ) (t : List ℕ) → at + length t ≤ length bytes
    → puts (buffer bytes at) t ≡ buffer (take at bytes ++ (t ++ drop (at + length t) bytes)) (at + length t)
puts-at bytes at t h =
    puts-sets bytes at t h
    ∙ ap (λ (l : List ℕ). buffer l (at + length t)) (sets-eq t bytes at h ∙ append_assoc (take at bytes) t (drop (at + length t) bytes))

pub puts-fits : (bytes t : List ℕ) → length t ≤ length bytes → puts (buffer bytes 0) t ≡ buffer (t ++ drop (length t) bytes) (length t)
puts-fits bytes t h =
    let all : 0 + length t ≡ length t = omega arith in
    rw all at (puts-at bytes 0 t (omega arith))

-- ---- text made of two pieces, and a piece and a byte

pub puts_then : (o p q : Buffer) (s t : List ℕ) → p ≡ puts o s → q ≡ puts p t → q ≡ puts o (s ++ t)
puts_then o p q s t e f = f ∙ ap (λ (x : Buffer). puts x t) e ∙ sym (puts-append o s t)

pub then-byte : (o p q : Buffer) (s : List ℕ) (b : ℕ) → p ≡ puts o s → q ≡ put p b → q ≡ puts o (s ++ (b ∷ []))
unfolding puts
then-byte o p q s b e f = f ∙ ap (λ (x : Buffer). put x b) e ∙ sym (puts-append o s (b ∷ []))

-- ---- digits

-- a number is one digit or has more
pub one-or-more : (n : ℕ) → (n < 10) ⊎ (10 ≤ n)
one-or-more n = go (ltb n 10) refl
  where
    go : (t : Bool) → ltb n 10 ≡ t → (n < 10) ⊎ (10 ≤ n)
    go true e = inl (ltb-true n 10 e)
    go false e = inr (ltb-false n 10 e)

-- read as a number, digits with one more at their end are ten times as much and that digit
value-more : (v : ℕ) (s : List ℕ) (b : ℕ) → value_from v (s ++ (b ∷ [])) ≡ 10 * value_from v s + (b - 48)
unfolding value_from
value-more v [] b = refl
value-more v (d ∷ s) b = value-more (10 * v + (d - 48)) s b

digits_value : (most n : ℕ) → n < most → value_of (digits most n) ≡ n
unfolding digits value_from
digits_value zero n h = absurd (omega arith)
digits_value (suc most) n h =
    ⊎_elim
    (λ (l : n < 10). rw (lt-ltb n 10 l) (omega arith))
    (λ (l : 10 ≤ n). rw (le-ltb n 10 l, value-more) (omega (arith, digits_value most (n / 10) (omega arith))))
    (one-or-more n)

-- as many digits as are enough, or more, are the same text
digits_same : (a b n : ℕ) → n < a → n < b → digits a n ≡ digits b n
unfolding digits
digits_same zero b n h k = absurd (omega arith)
digits_same (suc a) zero n h k = absurd (omega arith)
digits_same (suc a) (suc b) n h k =
    ⊎_elim
    (λ (l : n < 10). rw (lt-ltb n 10 l))
    (λ (l : 10 ≤ n). rw (le-ltb n 10 l, digits_same a b (n / 10) (omega arith) (omega arith)))
    (one-or-more n)

pub digits-enough : (most n : ℕ) → n < most → digits most n ≡ decimal n
unfolding decimal
digits-enough most n h = digits_same most (suc n) n h (omega arith)

-- decimal text means its number
pub decimal-value : (n : ℕ) → value_of (decimal n) ≡ n
unfolding decimal
decimal-value n = digits_value (suc n) n (omega arith)

pub decimal-one : (n : ℕ) → n < 10 → decimal n ≡ (48 + n) ∷ []
unfolding decimal digits
decimal-one n h = rw (lt-ltb n 10 h)

pub decimal-more : (n : ℕ) → 10 ≤ n → decimal n ≡ decimal (n / 10) ++ ((48 + n % 10) ∷ [])
unfolding decimal digits
decimal-more n h = rw (le-ltb n 10 h, digits-enough n (n / 10) (omega arith))

-- what a tactic needs to put text piece by piece
pub ruleset putting = (puts-append, puts_take, decimal-one, decimal-more)

-- ---- how long text can be

pub one-digit : (n : ℕ) → n < 10 → length (decimal n) ≡ 1
one-digit n h = ap length (decimal-one n h)

pub more-digits : (n : ℕ) → 10 ≤ n → length (decimal n) ≡ length (decimal (n / 10)) + 1
more-digits n h = ap length (decimal-more n h) ∙ length-append (decimal (n / 10)) ((48 + n % 10) ∷ [])

-- a number below 10 ^ k has at most k digits
pub decimal-short : (k n : ℕ) → 0 < k → n < 10 ^ k → length (decimal n) ≤ k
decimal-short zero n p h = absurd (omega arith)
decimal-short (suc zero) n p h = omega (arith, one-digit n h)
decimal-short (suc (suc k)) n p h =
    ⊎_elim
    (λ (l : n < 10). omega (arith, one-digit n l))
    (λ (l : 10 ≤ n). omega (arith, more-digits n l, decimal-short (suc k) (n / 10) (omega arith) (omega (arith, pow-suc 10 (suc k)))))
    (one-or-more n)

-- a number of 64 bits
wide : (n : ℕ) → n < 2 ^ 64 → length (decimal n) ≤ 20
wide n h = decimal-short 20 n (omega arith) (omega arith)

pub answer-short : (r a v : ℕ) → r < 100000 → a < 100 → v < 2 ^ 64 → length (answer_line r a v) ≤ 30
unfolding answer_line line_of
answer-short r a v h i j =
    simp length-append (omega (arith, decimal-short 5 r (omega arith) h, decimal-short 2 a (omega arith) i, wide v j))

pub stop-short : (refusal r : ℕ) → refusal < 100 → r < 100000 → length (stop_line refusal r) ≤ 11
unfolding stop_line line_of
stop-short refusal r h i =
    simp length-append (omega (arith, decimal-short 2 refusal (omega arith) h, decimal-short 5 r (omega arith) i))

pub totals-short : (a b c d e : ℕ) → a < 2 ^ 64 → b < 2 ^ 64 → c < 2 ^ 64 → d < 2 ^ 64 → e < 2 ^ 64 → length (totals_line a b c d e) ≤ 107
unfolding totals_line line_of
totals-short a b c d e h i j k l = simp length-append (omega (arith, wide a h, wide b i, wide c j, wide d k, wide e l))
