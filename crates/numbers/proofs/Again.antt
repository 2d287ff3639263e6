-- A store that fits its numbers is read again as it was spelled: no two such stores are spelled by the same numbers.
use Prim.Native.Nat.{ℕ, ◌<◌}
use native.Mathlib.Omega.{arith}
use mathlib.Core.Path.{◌≡◌, refl, ap, ◌∙◌}
use mathlib.Core.List.{List, [], ◌∷◌}
use lib.ListN.{length}
use Rattle.dtml.specs.declared.Recovery.{Recovery}
use Rattle.dtml.specs.declared.Recovery.TheVariants.{Idle, C1, C2, C3, C4, C5, C6}
use Rattle.dtml.specs.declared.Tx.{Tx}
use Rattle.dtml.specs.Store.{Store, tx}
use Rattle.spelling.specs.Spelling.{spelt, spell_recovery, read_recovery}
use Rattle.spelling.proofs.Again.{phase-again, recovery-again}
use Rattle.numbers.specs.Numbers.{at, low, spell_txs, read_txs, spell_store, read_store}

pub txs-again : (ts : List Tx) → read_txs (spell_txs ts) ≡ ts
unfolding read_txs spell_txs
txs-again [] = refl
txs-again (t ∷ ts) = ap (λ p. tx t.loc p ∷ read_txs (spell_txs ts)) (phase-again t.phase) ∙ ap (λ us. t ∷ us) (txs-again ts)

-- four marks, and a count, a word and a value of 32 bits
pub record Narrow (s : Store) : Type 0 where
  pub marks : length s.mem.marks ≡ 4
  pub count : s.mem.glb < 4294967296
  pub word : (spell_recovery s.rec).word < 4294967296
  pub value : (spell_recovery s.rec).value < 4294967296

four-again : (k : List ℕ) → length k ≡ 4 → at k 0 ∷ at k 1 ∷ at k 2 ∷ at k 3 ∷ [] ≡ k
four-again [] e = absurd (let z : 0 ≡ 4 = e in omega arith)
four-again (a ∷ []) e = absurd (let z : 1 ≡ 4 = e in omega arith)
four-again (a ∷ b ∷ []) e = absurd (let z : 2 ≡ 4 = e in omega arith)
four-again (a ∷ b ∷ c ∷ []) e = absurd (let z : 3 ≡ 4 = e in omega arith)
four-again (a ∷ b ∷ c ∷ d ∷ []) e = refl
four-again (a ∷ b ∷ c ∷ d ∷ x ∷ xs) e = absurd (omega arith)

low_again : (n : ℕ) → n < 4294967296 → low n ≡ n
low_again n h = omega arith

line-again : (r : Recovery) → low (spell_recovery r).number ≡ (spell_recovery r).number
line-again Idle = refl
line-again C1 = refl
line-again C2 = refl
line-again (C3 w v) = refl
line-again (C4 w v) = refl
line-again (C5 w v) = refl
line-again C6 = refl

pub store-again : (s : Store) → Narrow s → read_store (spell_store s) ≡ s
store-again s narrow =
    let r = s.rec in
    let n = (spell_recovery r).number in
    let again : read_recovery (spelt (low n) (low (spell_recovery r).word) (low (spell_recovery r).value)) ≡ r =
    rw (line-again r, low_again (spell_recovery r).word narrow.word, low_again (spell_recovery r).value narrow.value) (recovery-again r) in
    rw (four-again s.mem.marks narrow.marks, low_again s.mem.glb narrow.count, again, txs-again s.txs)
