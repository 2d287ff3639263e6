-- What the fast way of an answer's line rests on: how many digits a number has, what its digits come to where the last is written first, and where a field ends.
-- Backwards, the last i digits of n are those of n / 10, one fewer, and then n % 10: with as many as n has they are its decimal text.
use Prim.Native.Nat.{ℕ, zero, suc, ◌+◌, ◌*◌, ◌/◌, ◌%◌, ◌^◌, ◌≤◌, ◌<◌}
use mathlib.Core.Path.{◌≡◌, refl, sym, ap, ◌∙◌}
use mathlib.Core.Logic.{⊎_elim}
use mathlib.Core.List.{List, [], ◌∷◌, ◌++◌}
use native.Mathlib.Nat.{pow-suc, mod-eq_of_lt}
use native.Mathlib.Numerals.{add-one}
use native.Mathlib.Omega.{arith}
use lib.ListN.{length, set, length-append}
use lib.Seq.{sets, set_comm}
use Rattle.text.specs.Buffer.{Buffer, buffer, puts}
use Rattle.text.specs.Text.{decimal}
use Rattle.text.proofs.Laws.{one-or-more, one-digit, more-digits, decimal-one, decimal-more, decimal-short, puts-sets, puts-length, put-fits, then-byte}

-- ---- how many digits

-- the power of ten that is the last below a number says how many
pub decimal-width : (k n : ℕ) → 10 ^ k ≤ n → n < 10 * 10 ^ k → k + 1 ≡ length (decimal n)
decimal-width zero n l h = omega (arith, one-digit n h)
decimal-width (suc k) n l h =
    let ten : 10 ≤ n = omega (arith, pow-suc 10 k) in
    omega (arith, more-digits n ten, decimal-width k (n / 10) (omega (arith, pow-suc 10 k)) (omega (arith, pow-suc 10 k)))

-- ---- the last digits

unfoldable pub last_digits : ℕ → ℕ → List ℕ
last_digits zero n = []
last_digits (suc i) n = last_digits i (n / 10) ++ ((48 + n % 10) ∷ [])

last-length : (i n : ℕ) → length (last_digits i n) ≡ i
unfolding last_digits
last-length zero n = refl
last-length (suc i) n = length-append (last_digits i (n / 10)) ((48 + n % 10) ∷ []) ∙ omega (arith, last-length i (n / 10))

all_digits : (most n : ℕ) → n < most → last_digits (length (decimal n)) n ≡ decimal n
unfolding last_digits
all_digits zero n h = absurd (omega arith)
all_digits (suc most) n h =
    ⊎_elim
    (λ (l : n < 10). rw (decimal-one n l, mod-eq_of_lt l))
    (λ (l : 10 ≤ n).
    ap (λ (i : ℕ). last_digits i n) (more-digits n l ∙ add-one (length (decimal (n / 10))))
    ∙ ap (λ (t : List ℕ). t ++ ((48 + n % 10) ∷ [])) (all_digits most (n / 10) (omega arith))
    ∙ sym (decimal-more n l))
    (one-or-more n)

-- ---- the loop, over what is still to be written: all of it, then one digit fewer, then none

pub backwards-all : (out : List ℕ) (at n : ℕ) → sets out at (last_digits (length (decimal n)) n) ≡ sets out at (decimal n)
backwards-all out at n = ap (sets out at) (all_digits (suc n) n (omega arith))

-- the last of a text may be set first
sets_last : (out : List ℕ) (at : ℕ) (t : List ℕ) (b : ℕ) → sets (set out (at + length t) b) at t ≡ sets out at (t ++ (b ∷ []))
sets_last out at [] b = ap (λ (i : ℕ). set out i b) (omega arith)
sets_last out at (a ∷ t) b =
    let apart : at + suc (length t) ≡ at → ⊥ = λ e. omega arith in
    let next : at + suc (length t) ≡ suc at + length t = omega arith in
    ap (λ (l : List ℕ). sets l (suc at) t) (set_comm out (at + suc (length t)) at b a apart ∙ ap (λ (i : ℕ). set (set out at a) i b) next)
    ∙ sets_last (set out at a) (suc at) t b

pub backwards-one : (out : List ℕ) (at i n : ℕ) → sets (set out (at + i) (48 + n % 10)) at (last_digits i (n / 10)) ≡ sets out at (last_digits (suc i) n)
unfolding last_digits
backwards-one out at i n =
    ap (λ (k : ℕ). sets (set out (at + k) (48 + n % 10)) at (last_digits i (n / 10))) (sym (last-length i (n / 10)))
    ∙ sets_last out at (last_digits i (n / 10)) (48 + n % 10)

pub backwards-end : (before out : List ℕ) (at n width rest : ℕ) → width ≡ length (decimal n) → at + width ≤ length before
    → sets out at (last_digits 0 rest) ≡ sets before at (decimal n) → buffer out (at + width) ≡ puts (buffer before at) (decimal n)
unfolding last_digits
backwards-end before out at n width rest w h e = rw (e, w) (sym (puts-sets before at (decimal n) (omega arith)))

-- ---- a field, where there is room for it

-- a number of 32 bits has at most ten digits
pub narrow : (n : ℕ) → n < 2 ^ 32 → length (decimal n) ≤ 10
narrow n h = decimal-short 10 n (omega arith) (omega arith)

-- where text ends, and that the buffer is as long as before
ends_at : (bytes after : List ℕ) (at end : ℕ) (t : List ℕ) → at + length t ≤ length bytes → buffer after end ≡ puts (buffer bytes at) t → (end ≡ at + length t) × (length after ≡ length bytes)
ends_at bytes after at end t h e = (
  ap (λ (o : Buffer). o.at) (e ∙ puts-sets bytes at t h),
  ap (λ (o : Buffer). length o.bytes) e ∙ puts-length (buffer bytes at) t,
)

-- after a field of a number of 32 bits, eleven bytes of the room are gone at the most
pub room-left : (bytes after : List ℕ) (at end n b k : ℕ) → n < 2 ^ 32 → at + (11 + k) ≤ length bytes → buffer after end ≡ puts (buffer bytes at) (decimal n ++ (b ∷ []))
    → end + k ≤ length after
room-left bytes after at end n b k l h e =
    let long : length (decimal n ++ (b ∷ [])) ≤ 11 = omega (arith, length-append (decimal n) (b ∷ []), narrow n l) in
    omega (arith, ends_at bytes after at end (decimal n ++ (b ∷ [])) (omega arith) e)

-- one digit and the byte after it
pub short-one : (bytes : List ℕ) (at n b : ℕ) → n < 10 → at + 2 ≤ length bytes → buffer (set (set bytes at (48 + n)) (at + 1) b) (at + 2) ≡ puts (buffer bytes at) (decimal n ++ (b ∷ []))
short-one bytes at n b l h =
    rw (decimal-one n l) (sym (puts-sets bytes at ((48 + n) ∷ b ∷ []) h ∙ ap (λ (i : ℕ). buffer (set (set bytes at (48 + n)) i b) (at + 2)) (sym (add-one at))))

-- digits, and then the byte after them
pub byte_fits : (bytes after : List ℕ) (at next n : ℕ) → n < 2 ^ 32 → at + 11 ≤ length bytes → buffer after next ≡ puts (buffer bytes at) (decimal n) → next < length after
byte_fits bytes after at next n l h e =
    let long : length (decimal n) ≤ 10 = narrow n l in
    omega (arith, ends_at bytes after at next (decimal n) (omega arith) e)

pub short-more : (bytes after : List ℕ) (at next n b : ℕ) → n < 2 ^ 32 → at + 11 ≤ length bytes → buffer after next ≡ puts (buffer bytes at) (decimal n)
    → buffer (set after next b) (next + 1) ≡ puts (buffer bytes at) (decimal n ++ (b ∷ []))
short-more bytes after at next n b l h e =
    then-byte (buffer bytes at) (buffer after next) (buffer (set after next b) (next + 1)) (decimal n) b e
    (sym (put-fits after next b (byte_fits bytes after at next n l h e)))
