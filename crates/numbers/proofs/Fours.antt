-- The row of records, four numbers at a time: reading one, putting one back, testing and crashing each, are what they are on the records that the row spells.
-- Each law is by recursion on the row, which `fours` does once for all.
use Prim.Native.Nat.{ℕ, zero, suc, ◌+◌, ◌*◌, ◌/◌, ◌≤◌, ◌<◌}
use native.Mathlib.Omega.{arith}
use native.Mathlib.Numerals.{add-one}
use borrow.Author.Tests.{eqb-true, eq-eqb}
use mathlib.Core.Path.{◌≡◌, refl, sym, ap, ◌∙◌}
use mathlib.Core.Bool.{Bool, true, false, ◌&&◌}
use mathlib.Core.List.{List, [], ◌∷◌, ◌++◌}
use lib.ListN.{length, get_or, set, take, drop, drop_of_length-le}
use lib.Seq.{drop-cons}
use lib.Dec.{eqb}
use Rattle.std.specs.Simd.{first_chunks}
use lib.Pointwise.{pointwise}
use Rattle.bits.specs.Marks.{pick}
use Rattle.dtml.specs.declared.Tx.{Tx}
use Rattle.dtml.specs.Store.{record_at}
use Rattle.dtml.specs.Lines.{crash_tx, crash_txs}
use Rattle.dtml.specs.Checks.{unfit_tx, unfit_txs}
use Rattle.spelling.specs.Spelling.{spell_phase}
use Rattle.numbers.specs.Numbers.{spell_tx, spell_txs, read_tx, read_txs, same}
use Rattle.numbers.specs.Ways.{tx_of, put_tx, unfit_numbers, unfit_records, crash_numbers}

-- ---- the same numbers

pub both : (b c : Bool) → pick b c false ≡ true → (b ≡ true) × (c ≡ true)
both true c e = (refl, e)
both false c e = (e, cc)

pub same_true : (xs ys : List ℕ) → same xs ys ≡ true → xs ≡ ys
unfolding same
same_true [] [] e = refl
same_true [] (y ∷ ys) e = cc
same_true (x ∷ xs) [] e = cc
same_true (x ∷ xs) (y ∷ ys) e =
    let h = both (eqb x y) (same xs ys) e in
    ap (λ n. n ∷ xs) (eqb-true x y h.0) ∙ ap (λ zs. y ∷ zs) (same_true xs ys h.1)

pub same_self : (xs : List ℕ) → same xs xs ≡ true
unfolding same
same_self [] = refl
same_self (x ∷ xs) = rw (eq-eqb x x refl) (same_self xs)

and-pick : (b c : Bool) → (b && c) ≡ pick b c false
and-pick true c = refl
and-pick false c = refl

-- what the code's test of two arrays gives
pub same_is : (xs ys : List ℕ) → pointwise eqb xs ys ≡ same xs ys
unfolding same
same_is [] [] = refl
same_is [] (y ∷ ys) = refl
same_is (x ∷ xs) [] = refl
same_is (x ∷ xs) (y ∷ ys) = and-pick (eqb x y) (pointwise eqb xs ys) ∙ ap (λ b. pick (eqb x y) b false) (same_is xs ys)

-- ---- a row of so many records

module _ (P : ℕ → List ℕ → Type 0) (none : P 0 []) (more : (k a b c d : ℕ) (xs : List ℕ) → P k xs → P (suc k) (a ∷ b ∷ c ∷ d ∷ xs)) where
  pub fours : (k : ℕ) (xs : List ℕ) → length xs ≡ 4 * k → P k xs
  fours zero [] e = none
  fours (suc k) [] e = absurd (let z : 0 ≡ 4 * suc k = e in omega arith)
  fours k (a ∷ []) e = absurd (let z : 1 ≡ 4 * k = e in omega arith)
  fours k (a ∷ b ∷ []) e = absurd (let z : 2 ≡ 4 * k = e in omega arith)
  fours k (a ∷ b ∷ c ∷ []) e = absurd (let z : 3 ≡ 4 * k = e in omega arith)
  fours zero (a ∷ b ∷ c ∷ d ∷ xs) e = absurd (let z : suc (suc (suc (suc (length xs)))) ≡ 0 = e in omega arith)
  fours (suc k) (a ∷ b ∷ c ∷ d ∷ xs) e = more k a b c d xs (fours k xs (omega arith))

pub read_length : (n : ℕ) (xs : List ℕ) → length xs ≡ 4 * n → length (read_txs xs) ≡ n
unfolding read_txs
read_length = fours (λ n xs. length (read_txs xs) ≡ n) refl (λ k a b c d xs h. ap suc h)

-- ---- one record

-- four numbers that are set one after the other
set-four : (xs : List ℕ) (n a b c d : ℕ) → n + 4 ≤ length xs
    → set (set (set (set xs n a) (suc n) b) (suc (suc n)) c) (suc (suc (suc n))) d ≡ take n xs ++ (a ∷ b ∷ c ∷ d ∷ drop 4 (drop n xs))
set-four [] n a b c d h = absurd (let z : n + 4 ≤ 0 = h in omega arith)
set-four (x ∷ []) zero a b c d h = absurd (let z : 4 ≤ 1 = h in omega arith)
set-four (x ∷ y ∷ []) zero a b c d h = absurd (let z : 4 ≤ 2 = h in omega arith)
set-four (x ∷ y ∷ z ∷ []) zero a b c d h = absurd (let z : 4 ≤ 3 = h in omega arith)
set-four (x ∷ y ∷ z ∷ w ∷ xs) zero a b c d h = refl
set-four (x ∷ xs) (suc n) a b c d h = ap (λ ys. x ∷ ys) (set-four xs n a b c d (omega arith))

pub put-four : (xs : List ℕ) (n a b c d : ℕ) → n + 4 ≤ length xs
    → set (set (set (set xs n a) (n + 1) b) (n + 2) c) (n + 3) d ≡ take n xs ++ (a ∷ b ∷ c ∷ d ∷ drop 4 (drop n xs))
put-four xs n a b c d h =
    let p : n + 1 ≡ suc n = omega arith in
    let q : n + 2 ≡ suc (suc n) = omega arith in
    let r : n + 3 ≡ suc (suc (suc n)) = omega arith in
    rw (p, q, r) (set-four xs n a b c d h)

pub ruleset putting = (put-four)

read-four : (e : List ℕ) (k : ℕ) (xs : List ℕ) → length xs ≡ 4 * k → (i : ℕ) → i < k → tx_of (get_or (first_chunks 4 k xs) i e) ≡ record_at (read_txs xs) i
unfolding read_txs
read-four e = fours (λ k xs. (i : ℕ) → i < k → tx_of (get_or (first_chunks 4 k xs) i e) ≡ record_at (read_txs xs) i) (λ i h. absurd (omega arith)) go
  where
    go : (k a b c d : ℕ) (xs : List ℕ) → ((i : ℕ) → i < k → tx_of (get_or (first_chunks 4 k xs) i e) ≡ record_at (read_txs xs) i)
        → (i : ℕ) → i < suc k → tx_of (get_or (first_chunks 4 (suc k) (a ∷ b ∷ c ∷ d ∷ xs)) i e) ≡ record_at (read_txs (a ∷ b ∷ c ∷ d ∷ xs)) i
    go k a b c d xs h zero l = refl
    go k a b c d xs h (suc i) l = h i (omega arith)

-- what the code reads record i from
pub read_is : (xs : List ℕ) (i : ℕ) (e : List ℕ) → length xs ≡ 256 → i < 64 → tx_of (get_or (first_chunks 4 (length xs / 4) xs) i e) ≡ record_at (read_txs xs) i
read_is xs i e long h = rw long (read-four e 64 xs long i h)

four-on : (i : ℕ) → 4 * suc i ≡ suc (suc (suc (suc (4 * i))))
four-on i = omega arith

put-first : (a b c d : ℕ) (xs : List ℕ) (i : ℕ) (t : Tx) → put_tx (a ∷ b ∷ c ∷ d ∷ xs) (suc i) t ≡ a ∷ b ∷ c ∷ d ∷ put_tx xs i t
put-first a b c d xs i t = rw (four-on i)

pub tx-put : (ts : List Tx) (i : ℕ) (t : Tx) → i < length ts → put_tx (spell_txs ts) i t ≡ spell_txs (set ts i t)
unfolding spell_txs
tx-put [] i t h = absurd (let z : i < 0 = h in omega arith)
tx-put (t₀ ∷ ts) zero t h = refl
tx-put (t₀ ∷ ts) (suc i) t h = put-first _ _ _ _ (spell_txs ts) i t ∙ ap (λ xs. spell_tx t₀ ++ xs) (tx-put ts i t (omega arith))

-- ---- the test of every record

-- some of these fours spell no record, or an unfit one
abbrev pub unfit_fours : ℕ → List (List ℕ) → Bool
unfit_fours n [] = false
unfit_fours n (r ∷ rs) = pick (unfit_numbers n r) true (unfit_fours n rs)

pub fours-next : (n : ℕ) (rs : List (List ℕ)) (i : ℕ) (e : List ℕ) → i < length rs
    → unfit_fours n (drop i rs) ≡ pick (unfit_numbers n (get_or rs i e)) true (unfit_fours n (drop (i + 1) rs))
fours-next n rs i e h = rw (drop-cons rs i e h, add-one i) refl

pub fours-end : (n : ℕ) (rs : List (List ℕ)) (i : ℕ) → length rs ≤ i → unfit_fours n (drop i rs) ≡ false
fours-end n rs i h = ap (unfit_fours n) (drop_of_length-le rs {i = i} h)

-- the tests of one record before those of the others, or each test of all records after the other
in-turn : (p q r s rest u us : Bool)
    → pick (pick (pick p (pick q (pick r (pick s true false) false) false) false) u true) true (pick rest us true)
    ≡ pick (pick p (pick q (pick r (pick s rest false) false) false) false) (pick u true us) true
in-turn false q r s rest u us = refl
in-turn true false r s rest u us = refl
in-turn true true false s rest u us = refl
in-turn true true true false rest u us = refl
in-turn true true true true true true us = refl
in-turn true true true true false true us = refl
in-turn true true true true true false us = refl
in-turn true true true true false false us = refl

fours-are : (n k : ℕ) (xs : List ℕ) → length xs ≡ 4 * k → unfit_fours n (first_chunks 4 k xs) ≡ unfit_records n xs
unfolding unfit_numbers unfit_records same spell_txs read_txs unfit_txs
fours-are n = fours (λ k xs. unfit_fours n (first_chunks 4 k xs) ≡ unfit_records n xs) refl go
  where
    go : (k a b c d : ℕ) (xs : List ℕ) → unfit_fours n (first_chunks 4 k xs) ≡ unfit_records n xs
        → unfit_fours n (first_chunks 4 (suc k) (a ∷ b ∷ c ∷ d ∷ xs)) ≡ unfit_records n (a ∷ b ∷ c ∷ d ∷ xs)
    go k a b c d xs h =
        let t = read_tx a b c d in
        let p = spell_phase t.phase in
        rw h
        (in-turn (eqb a a) (eqb p.number b) (eqb p.word c) (eqb p.value d) (same (spell_txs (read_txs xs)) xs) (unfit_tx n t) (unfit_txs n (read_txs xs)))

pub fours-whole : (n : ℕ) (xs : List ℕ) → length xs ≡ 256 → unfit_fours n (first_chunks 4 (length xs / 4) xs) ≡ unfit_records n xs
fours-whole n xs long = rw long (fours-are n 64 xs long)

-- the loop over them: a four spells none that is fit, or the rest does so; after the last all are looked at
pub ruleset looking = (fours-next, fours-end, fours-whole)

pub found-unfit : (n : ℕ) (xs : List ℕ) → length xs ≡ 256 → {rs : List (List ℕ)} → rs ≡ first_chunks 4 (length xs / 4) xs → (i : ℕ) (e : List ℕ) → i < length rs
    → unfit_fours n (drop i rs) ≡ unfit_fours n rs → {b : Bool} → b ≡ unfit_numbers n (get_or rs i e) → b ≡ true → true ≡ unfit_records n xs
found-unfit n xs long {rs} front i e h same tested b =
    sym (sym (fours-whole n xs long) ∙ ap (unfit_fours n) (sym front) ∙ sym same ∙ fours-next n rs i e h ∙ rw (sym tested ∙ b))

-- ---- the crash of every record

-- the first i records are crashed, the others are still to be
abbrev pub crashing : ℕ → List ℕ → List ℕ
crashing zero xs = crash_numbers xs
crashing (suc i) xs = take 4 xs ++ crashing i (drop 4 xs)

crash-next : (k : ℕ) (xs : List ℕ) → length xs ≡ 4 * k → (i : ℕ) → i < k → crashing (suc i) (put_tx xs i (crash_tx (record_at (read_txs xs) i))) ≡ crashing i xs
unfolding crash_numbers crash_txs read_txs spell_txs
crash-next = fours (λ k xs. (i : ℕ) → i < k → crashing (suc i) (put_tx xs i (crash_tx (record_at (read_txs xs) i))) ≡ crashing i xs) (λ i h. absurd (omega arith)) go
  where
    go : (k a b c d : ℕ) (xs : List ℕ) → ((i : ℕ) → i < k → crashing (suc i) (put_tx xs i (crash_tx (record_at (read_txs xs) i))) ≡ crashing i xs)
        → (i : ℕ) → i < suc k
        → crashing (suc i) (put_tx (a ∷ b ∷ c ∷ d ∷ xs) i (crash_tx (record_at (read_txs (a ∷ b ∷ c ∷ d ∷ xs)) i))) ≡ crashing i (a ∷ b ∷ c ∷ d ∷ xs)
    go k a b c d xs h zero l = refl
    go k a b c d xs h (suc i) l =
        ap (crashing (suc (suc i))) (put-first a b c d xs i (crash_tx (record_at (read_txs xs) i))) ∙ ap (λ ys. a ∷ b ∷ c ∷ d ∷ ys) (h i (omega arith))

pub crash-on : (xs : List ℕ) (i : ℕ) → length xs ≡ 256 → i < 64 → crashing (i + 1) (put_tx xs i (crash_tx (record_at (read_txs xs) i))) ≡ crashing i xs
crash-on xs i long h = rw (add-one i) (crash-next 64 xs long i h)

crash-end : (k : ℕ) (xs : List ℕ) → length xs ≡ 4 * k → crashing k xs ≡ xs
unfolding crash_numbers crash_txs read_txs spell_txs
crash-end = fours (λ k xs. crashing k xs ≡ xs) refl (λ k a b c d xs h. ap (λ ys. a ∷ b ∷ c ∷ d ∷ ys) h)

pub crashed-all : (xs : List ℕ) → length xs ≡ 256 → crashing 64 xs ≡ xs
crashed-all = crash-end 64

pub ruleset crashes = (crash-on, crashed-all)
