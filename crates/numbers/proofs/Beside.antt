-- What is held beside the rows: only eight numbers spell it, and the code's test of those is whether what is read is spelled by them.
use Prim.Native.Nat.{ℕ, suc}
use native.Mathlib.Omega.{arith}
use borrow.Author.Tests.{eq-eqb}
use lib.Dec.{eqb}
use mathlib.Core.Path.{◌≡◌, refl, sym, ap, ◌∙◌}
use mathlib.Core.Bool.{Bool, true, false, not}
use mathlib.Core.List.{List, [], ◌∷◌}
use lib.ListN.{length}
use lib.Pointwise.{pointwise}
use Rattle.machine.specs.declared.Held.{Held}
use Rattle.spelling.specs.declared.Spelt.{Spelt}
use Rattle.spelling.specs.Spelling.{spell_recovery}
use Rattle.numbers.specs.Numbers.{at, same}
use Rattle.numbers.specs.Ways.{held_spelt, spelled_held, spells_held}
use Rattle.numbers.proofs.Fours.{same_true, same_is}

bool : (b : Bool) → (b ≡ true → ⊥) → b ≡ false
bool true n = absurd (n refl)
bool false n = refl

pub not_eight : (h : List ℕ) → (length h ≡ 8 → ⊥) → spells_held h ≡ false
unfolding spells_held
not_eight h n = bool (spells_held h) (λ e. n (sym (ap length (same_true (spelled_held (held_spelt h)) h e))))

-- the four marks of eight numbers spell themselves; so the other four decide
four-enough : (h : List ℕ) → length h ≡ 8
    → spells_held h ≡ same ((held_spelt h).glb ∷ (spell_recovery (held_spelt h).recovery).number ∷ (spell_recovery (held_spelt h).recovery).word ∷ (spell_recovery (held_spelt h).recovery).value ∷ [])
    (at h 4 ∷ at h 5 ∷ at h 6 ∷ at h 7 ∷ [])
unfolding spells_held same
four-enough [] e = absurd (let z : 0 ≡ 8 = e in omega arith)
four-enough (a ∷ []) e = absurd (let z : 1 ≡ 8 = e in omega arith)
four-enough (a ∷ b ∷ []) e = absurd (let z : 2 ≡ 8 = e in omega arith)
four-enough (a ∷ b ∷ c ∷ []) e = absurd (let z : 3 ≡ 8 = e in omega arith)
four-enough (a ∷ b ∷ c ∷ d ∷ []) e = absurd (let z : 4 ≡ 8 = e in omega arith)
four-enough (a ∷ b ∷ c ∷ d ∷ g ∷ []) e = absurd (let z : 5 ≡ 8 = e in omega arith)
four-enough (a ∷ b ∷ c ∷ d ∷ g ∷ f ∷ []) e = absurd (let z : 6 ≡ 8 = e in omega arith)
four-enough (a ∷ b ∷ c ∷ d ∷ g ∷ f ∷ w ∷ []) e = absurd (let z : 7 ≡ 8 = e in omega arith)
four-enough (a ∷ b ∷ c ∷ d ∷ g ∷ f ∷ w ∷ v ∷ []) e = rw (eq-eqb a a refl, eq-eqb b b refl, eq-eqb c c refl, eq-eqb d d refl)
four-enough (a ∷ b ∷ c ∷ d ∷ g ∷ f ∷ w ∷ v ∷ x ∷ xs) e = absurd (let z : suc (suc (suc (suc (suc (suc (suc (suc (suc (length xs))))))))) ≡ 8 = e in omega arith)

not_is : (b c : Bool) → b ≡ not c → c ≡ not b
not_is true true e = cc
not_is true false e = refl
not_is false true e = refl
not_is false false e = cc

-- what is read is spelled by other numbers, or by these
module _ (h : List ℕ) {r : Held} {s : Spelt} (long : length h ≡ 8) (read : r ≡ held_spelt h) (told : s ≡ spell_recovery r.recovery) where
  pub tested : {b : Bool} → b ≡ not (pointwise eqb (r.glb ∷ s.number ∷ s.word ∷ s.value ∷ []) (at h 4 ∷ at h 5 ∷ at h 6 ∷ at h 7 ∷ [])) → spells_held h ≡ not b
  tested {b} e = four-enough h long ∙ sym (same_is _ _) ∙ (rw (told, read) at (not_is b _ e))
