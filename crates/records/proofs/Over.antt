-- Laws of the loops over the lent row: a turn crashes record i, or looks at it; after the last turn the whole row is crashed, or nothing is left to look at.
use mathlib.Core.Path.{◌≡◌, refl, ap}
use Prim.Native.Nat.{ℕ, zero, suc, ◌+◌, ◌≤◌, ◌<◌}
use native.Mathlib.Omega.{arith}
use native.Mathlib.Numerals.{add-one}
use mathlib.Core.Bool.{true, false}
use mathlib.Core.List.{List, [], ◌∷◌, ◌++◌}
use lib.ListN.{length, take, drop, set}
use lib.Seq.{drop-cons}
use Rattle.std.proofs.lemmas.Grind.{common_steps}
use Rattle.bits.specs.Marks.{pick}
use Rattle.dtml.specs.declared.Tx.{Tx}
use Rattle.dtml.specs.declared.Phase.TheVariants.{Fresh}
use Rattle.dtml.specs.Store.{record_at, tx}
use Rattle.dtml.specs.Lines.{crash_tx, crash_txs}
use Rattle.dtml.specs.Checks.{unfit_tx, unfit_txs}

-- the first i of xs over those of ys
abbrev pub over : ℕ → List Tx → List Tx → List Tx
over i xs ys = take i xs ++ drop i ys

-- ---- a crash: the first i records are crashed, the others still to be
crash-next : (ys : List Tx) (i : ℕ) → i < length ys → set (over i (crash_txs ys) ys) i (crash_tx (record_at (over i (crash_txs ys) ys) i)) ≡ over
    (suc i) (crash_txs ys) ys
unfolding crash_txs
crash-next [] i h = absurd (let z : i < 0 = h in omega arith)
crash-next (y ∷ ys) zero h = refl
crash-next (y ∷ ys) (suc i) h = ap (λ zs. crash_tx y ∷ zs) (crash-next ys i (omega arith))

pub crash-on : (ys : List Tx) (i : ℕ) → i < length ys
    → set (over i (crash_txs ys) ys) i (crash_tx (record_at (over i (crash_txs ys) ys) i)) ≡ over (i + 1) (crash_txs ys) ys
crash-on ys i h = rw (add-one i) (crash-next ys i h)

pub crashed-all : (ys : List Tx) (n : ℕ) → length ys ≡ n → over n (crash_txs ys) ys ≡ crash_txs ys
unfolding crash_txs
crashed-all ys n e = grind (arith, common_steps)

pub ruleset crashing = (crash-on, crashed-all)

-- ---- fitness: what is unfit from record i on
pub looked-next : (n : ℕ) (ys : List Tx) (i : ℕ) → i < length ys → unfit_txs n (drop i ys) ≡ pick (unfit_tx n (record_at ys i)) true (unfit_txs n (drop (i + 1) ys))
unfolding unfit_txs
looked-next n ys i h = rw (drop-cons ys i (tx 0 Fresh), add-one i) refl

pub all-looked : (n : ℕ) (ys : List Tx) (i : ℕ) → length ys ≤ i → unfit_txs n (drop i ys) ≡ false
unfolding unfit_txs
all-looked n ys i h = grind (arith, common_steps)

pub ruleset looking = (looked-next, all-looked)
