-- Plain facts: on lists of records and tales after one is set, on what a transaction sees, and on a test of a computed Bool.
use Prim.Native.Nat.{ℕ, ◌%◌, ◌<◌}
use mathlib.Core.Path.{◌≡◌, refl, sym, ap, ◌∙◌}
use mathlib.Core.Bool.{Bool, true, false}
use mathlib.Core.List.{List, [], ◌∷◌}
use mathlib.Core.Logic.{◌⊎◌, inl, inr, ⊎_elim}
use native.Mathlib.Omega.{arith}
use native.Mathlib.Decide.{ℕ_discrete, dec_lt}
use borrow.Author.Tests.{eqb-true, eqb-false, eq-eqb, ne_eqb}
use lib.ListN.{length, get_or, set, length-set}
use lib.Seq.{get_or-set_same, get_or-set_other}
use lib.Dec.{eqb}
use Rattle.bits.specs.Marks.{pick, is_marked, count_of}
use Rattle.bits.specs.Laws.{room}
use Rattle.bits.proofs.Laws.{laws}
use Rattle.dtml.specs.declared.Recovery.{Recovery}
use Rattle.dtml.specs.declared.Recovery.TheVariants.{Idle, C1, C2, C3, C4, C5, C6}
use Rattle.dtml.specs.Lines.{even}
use Rattle.dtml.specs.Checks.{not_idle}
use Rattle.dtml.specs.History.{Write, over, sees}
use Rattle.dtml.proofs.Invariant.{Agree}

pub same_or_not : (a b : ℕ) → (a ≡ b) ⊎ (a ≡ b → ⊥)
same_or_not a b = go (ℕ_discrete a b)
  where
    go : Dec (a ≡ b) → (a ≡ b) ⊎ (a ≡ b → ⊥)
    go (yes e) = inl e
    go (no f) = inr f

pub true-or-false : (b : Bool) → (b ≡ true) ⊎ (b ≡ false)
true-or-false true = inl refl
true-or-false false = inr refl

pub true-not-false : {b : Bool} → b ≡ true → b ≡ false → ⊥
true-not-false {b} p q = let z : ◌≡◌ {A = ℕ} 0 1 = cc in omega arith

-- a choice by a test, case by case
pub pick-case : {A : Type 0} (P : A → Type 0) (b : Bool) {x y : A} → (b ≡ true → P x) → (b ≡ false → P y) → P (pick b x y)
pick-case P true f g = f refl
pick-case P false f g = g refl

-- ---- parity

pub even-true : (n : ℕ) → even n ≡ true → n % 2 ≡ 0
even-true n e = eqb-true (n % 2) 0 e

pub even-false : (n : ℕ) → even n ≡ false → n % 2 ≡ 1
even-false n e = let f : n % 2 ≡ 0 → ⊥ = eqb-false (n % 2) 0 e in omega arith

pub is-even : (n : ℕ) → n % 2 ≡ 0 → even n ≡ true
is-even n e = eq-eqb (n % 2) 0 e

pub is_odd : (n : ℕ) → n % 2 ≡ 1 → even n ≡ false
is_odd n e = ne_eqb (n % 2) 0 (λ z. omega arith)

pub odd-other : (a b : ℕ) → b % 2 ≡ 1 → even a ≡ true → a ≡ b → ⊥
odd-other a b o e q = let z : a % 2 ≡ 0 = even-true a e in omega arith

-- ---- idle

pub is-idle : (r : Recovery) → r ≡ Idle → not_idle r ≡ false
is-idle r e = ap not_idle e

pub idle-is : (r : Recovery) → not_idle r ≡ false → r ≡ Idle
idle-is Idle h = refl
idle-is C1 h = cc
idle-is C2 h = cc
idle-is (C3 w v) h = cc
idle-is (C4 w v) h = cc
idle-is (C5 w v) h = cc
idle-is C6 h = cc

pub busy-is : (r : Recovery) → (r ≡ Idle → ⊥) → not_idle r ≡ true
busy-is r f = ⊎_elim (λ e. e) (λ e. absurd (f (idle-is r e))) (true-or-false (not_idle r))

-- ---- no mark

pub none-marked : (k : List ℕ) → count_of k ≡ 0 → (w : ℕ) → is_marked k w ≡ false
none-marked k c w = go (dec_lt w (room k))
  where
    go : Dec (w < room k) → is_marked k w ≡ false
    go (yes h) = laws.lowest-least k w (rw (laws.lowest-none k c) h)
    go (no f) = laws.past-unmarked k w (omega arith)

-- ---- what a transaction sees

pub over-length : (m : List ℕ) (xs : List Write) → length (over m xs) ≡ length m
unfolding over
over-length m [] = refl
over-length m (x ∷ xs) = length-set (over m xs) x.word x.value ∙ over-length m xs

-- the memory with writes over it holds what is seen
pub over-sees : (m : List ℕ) (xs : List Write) (w : ℕ) → w < length m → get_or (over m xs) w 0 ≡ sees xs m w
unfolding over sees
over-sees m [] w h = refl
over-sees m (x ∷ xs) w h = go (over-sees m xs w h) (same_or_not x.word w)
  where
    go : get_or (over m xs) w 0 ≡ sees xs m w → (x.word ≡ w) ⊎ (x.word ≡ w → ⊥)
        → get_or (set (over m xs) x.word x.value) w 0 ≡ pick (eqb x.word w) x.value (sees xs m w)
    go ih (inl e) = rw (eq-eqb _ _ e, e) (get_or-set_same (over m xs) w x.value 0 (rw over-length h))
    go ih (inr f) = rw (ne_eqb _ _ f) (get_or-set_other (over m xs) x.word w x.value 0 (λ e. f (sym e)) ∙ ih)

-- memories that agree are seen alike
pub sees-agree : (n : ℕ) (xs : List Write) (a b : List ℕ) → Agree n a b → (w : ℕ) → w < n → sees xs a w ≡ sees xs b w
unfolding sees
sees-agree n [] a b h w k = h w k
sees-agree n (x ∷ xs) a b h w k = ap (λ (v : ℕ). pick (eqb x.word w) x.value v) (sees-agree n xs a b h w k)

pub sees-same : (xs : List Write) (m : List ℕ) (w v : ℕ) → sees (record { word = w; value = v } ∷ xs) m w ≡ v
unfolding sees
sees-same xs m w v = rw (eq-eqb w w refl)

pub sees-other : (xs : List Write) (m : List ℕ) (x v w : ℕ) → (w ≡ x → ⊥) → sees (record { word = x; value = v } ∷ xs) m w ≡ sees xs m w
unfolding sees
sees-other xs m x v w f = rw (ne_eqb x w (λ e. f (sym e)))
