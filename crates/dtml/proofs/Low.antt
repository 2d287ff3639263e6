-- The count stays low: each transaction can raise it twice, at its W2 and at its E3, so the count and what the 64 records can still add stay at 128 or below.
use Prim.Native.Nat.{ℕ, zero, suc, ◌+◌, ◌≤◌, ◌<◌}
use native.Mathlib.Nat.{le_refl, le_trans}
use native.Mathlib.Omega.{arith}
use borrow.Author.Tests.{leb-false, not-false}
use mathlib.Core.Path.{◌≡◌, refl, subst}
use mathlib.Core.Bool.{Bool, true, false}
use mathlib.Core.Logic.{◌⊎◌, inl, inr}
use mathlib.Core.List.{List, [], ◌∷◌}
use lib.ListN.{length, set, get_or-map, get_or-replicate}
use lib.Seq.{get_or-set_same, get_or-set_other}
use lib.Dec.{eqb}
use Rattle.bits.specs.Marks.{pick, is_marked}
use Rattle.dtml.specs.declared.Tx.{Tx}
use Rattle.dtml.specs.declared.Phase.{Phase}
use Rattle.dtml.specs.declared.Phase.TheVariants.{Fresh, Ready, Committed, Aborted, B1, B2, R1, R2, W1, W2, W3, W4, W5, W6, W7, E1, E2, E3}
use Rattle.dtml.specs.declared.Recovery.{Recovery}
use Rattle.dtml.specs.declared.Recovery.TheVariants.{Idle, C1, C2, C3, C4, C5, C6}
use Rattle.dtml.specs.Table.{Reply, says}
use Rattle.dtml.specs.Store.{Memory, record_at, tx, fresh}
use Rattle.dtml.specs.Asked.{begin, read, write, commit, step, flush, crash, recover, recover_up_to, Call, on, sys, Did, RecoveryDid}
use Rattle.dtml.specs.Lines.{line_at, recovery_line, even, stage, is_live, any_mark, crash_tx, crash_txs}
use Rattle.dtml.specs.Checks.{checks}
use Rattle.dtml.specs.Calls.{ask, up_to, system, act}
use Rattle.dtml.specs.History.{last, tale_at, World, tell, dawn}
use Rattle.dtml.proofs.Invariant.{Free, Owner, Ender}
use Rattle.dtml.proofs.Words.{same_or_not, pick-case}
use Rattle.dtml.proofs.Fit.{up-to-keeps}
use Rattle.dtml.proofs.Roles.{Role, free, owner, ender, role}
use Rattle.dtml.proofs.Asks.{fresh-only, ready-only}
use Rattle.dtml.proofs.Worlds.{Passes, InvW, acted, tell-keeps}

-- how often a transaction can still raise the count
abbrev raises : ℕ → Phase → ℕ
raises loc Fresh = 2
raises loc Ready = pick (even loc) 2 1
raises loc Committed = 0
raises loc Aborted = 0
raises loc B1 = 2
raises loc B2 = 2
raises loc (R1 w) = pick (even loc) 2 1
raises loc (R2 v) = pick (even loc) 2 1
raises loc (W1 w v) = pick (even loc) 2 1
raises loc (W2 w v) = 2
raises loc (W3 w v) = 1
raises loc (W4 w v) = 1
raises loc (W5 w v) = 1
raises loc (W6 w v) = 1
raises loc (W7 w) = 1
raises loc E1 = pick (even loc) 2 1
raises loc E2 = 1
raises loc E3 = 1

abbrev raises_of : Tx → ℕ
raises_of t = raises t.loc t.phase

pub raises_all : List Tx → ℕ
raises_all [] = 0
raises_all (t ∷ ts) = raises_of t + raises_all ts

raises-set : (ts : List Tx) (t : ℕ) (x : Tx) → t < length ts → raises_all (set ts t x) + raises_of (record_at ts t) ≡ raises_all ts + raises_of x
unfolding raises_all
raises-set [] t x h = omega arith
raises-set (y ∷ ts) zero x h = omega arith
raises-set (y ∷ ts) (suc t) x h = let ih = raises-set ts t x (omega arith) in omega arith

raises-crash : (ts : List Tx) → raises_all (crash_txs ts) ≤ raises_all ts
unfolding raises_all crash_txs
raises-crash [] = le_refl 0
raises-crash (t ∷ ts) =
    let ih = raises-crash ts in
    let here : raises_of (crash_tx t) ≤ raises_of t = pick-case (λ p. raises t.loc p ≤ raises_of t) (is_live (stage t.phase)) {x = Aborted} {y = t.phase} (λ _. omega arith) (λ _. le_refl _) in
    omega arith

-- the count and the locs
pub record Low (m : Memory) (ts : List Tx) : Type 0 where
  pub count_low : m.glb + raises_all ts ≤ 128
  pub locs-low : (t : ℕ) → t < 64 → (record_at ts t).loc ≤ 128

pub glb-low : (m : Memory) (ts : List Tx) → Low m ts → m.glb ≤ 128
glb-low m ts h = let z = h.count_low in omega arith

two-or-one : (b : Bool) → (1 ≤ pick b 2 1) × (pick b 2 1 ≤ 2)
two-or-one true = (omega arith, omega arith)
two-or-one false = (omega arith, omega arith)

-- one line raises the count by no more than it takes from what its transaction can still add
abbrev LowLine : ℕ → ℕ → Phase → Did → Type 0
LowLine g loc p d = (d.mem.glb + raises_of d.tx ≤ g + raises loc p) × (d.tx.loc ≤ 128)

low-line : (m : Memory) (loc : ℕ) (p : Phase) → loc ≤ 128 → m.glb ≤ 128
    → ((w v : ℕ) → p ≡ W3 w v → loc + 1 ≡ m.glb) → ((w : ℕ) → p ≡ W7 w → even loc ≡ false) → (p ≡ E3 → loc ≡ m.glb)
    → LowLine m.glb loc p (line_at m loc p)
unfolding line_at
low-line m loc Fresh a b w3 w7 e3 = (le_refl _, a)
low-line m loc Ready a b w3 w7 e3 = (le_refl _, a)
low-line m loc Committed a b w3 w7 e3 = (le_refl _, a)
low-line m loc Aborted a b w3 w7 e3 = (le_refl _, a)
low-line m loc B1 a b w3 w7 e3 = (le_refl _, b)
low-line m loc B2 a b w3 w7 e3 =
    pick-case (LowLine m.glb loc B2) (even loc) (λ e. (let z = two-or-one (even loc) in omega arith, a)) (λ e. (le_refl _, a))
low-line m loc (R1 w) a b w3 w7 e3 = (le_refl _, a)
low-line m loc (R2 v) a b w3 w7 e3 =
    pick-case (LowLine m.glb loc (R2 v)) (eqb m.glb loc) (λ e. (le_refl _, a)) (λ e. (omega arith, a))
low-line m loc (W1 w v) a b w3 w7 e3 =
    pick-case (LowLine m.glb loc (W1 w v)) (even loc) (λ e. (rw e (le_refl _), a)) (λ e. (let z = two-or-one (even loc) in omega arith, a))
low-line m loc (W2 w v) a b w3 w7 e3 =
    pick-case (LowLine m.glb loc (W2 w v)) (eqb m.glb loc) (λ e. (omega arith, a)) (λ e. (omega arith, a))
low-line m loc (W3 w v) a b w3 w7 e3 = (le_refl _, let z = w3 w v refl in omega arith)
low-line m loc (W4 w v) a b w3 w7 e3 =
    pick-case (LowLine m.glb loc (W4 w v)) (is_marked m.marks w) (λ e. (le_refl _, a)) (λ e. (le_refl _, a))
low-line m loc (W5 w v) a b w3 w7 e3 = (le_refl _, a)
low-line m loc (W6 w v) a b w3 w7 e3 = (le_refl _, a)
low-line m loc (W7 w) a b w3 w7 e3 = (rw (w7 w refl) (le_refl _), a)
low-line m loc E1 a b w3 w7 e3 =
    pick-case (LowLine m.glb loc E1) (even loc) (λ e. (omega arith, a)) (λ e. (let z = two-or-one (even loc) in omega arith, a))
low-line m loc E2 a b w3 w7 e3 = (le_refl _, a)
low-line m loc E3 a b w3 w7 e3 = (let z = e3 refl in omega arith, a)

low-set : (m m' : Memory) (ts : List Tx) (t : ℕ) (x : Tx) → length ts ≡ 64 → t < 64 → m'.glb + raises_of x ≤ m.glb + raises_of (record_at ts t)
    → x.loc ≤ 128 → Low m ts → Low m' (set ts t x)
low-set m m' ts t x long ht less here low = record {
  count_low =
      let z = raises-set ts t x (rw long ht) in
      let y = low.count_low in
      omega arith;
  locs-low = λ u hu. go u hu (same_or_not u t);
}
  where
    go : (u : ℕ) → u < 64 → (u ≡ t) ⊎ (u ≡ t → ⊥) → (record_at (set ts t x) u).loc ≤ 128
    go u hu (inl e) = rw (e, get_or-set_same ts t x (tx 0 Fresh) (rw long ht)) here
    go u hu (inr f) = rw (get_or-set_other ts t u x (tx 0 Fresh) f) (low.locs-low u hu)

-- ---- recovery only lowers it

low-recovery : (m : Memory) (r : Recovery) → (recovery_line m r).mem.glb ≤ m.glb
unfolding recovery_line
low-recovery m Idle = le_refl _
low-recovery m C1 = pick-case (λ (h : RecoveryDid). h.mem.glb ≤ m.glb) (any_mark m.marks) (λ _. le_refl _) (λ _. le_refl _)
low-recovery m C2 = le_refl _
low-recovery m (C3 w v) = le_refl _
low-recovery m (C4 w v) = le_refl _
low-recovery m (C5 w v) = le_refl _
low-recovery m C6 = omega arith

low-up_to : (b : ℕ) (a : Reply) (m : Memory) (r : Recovery) → (up_to b a m r).mem.glb ≤ m.glb
low-up_to b a m r = up-to-keeps (λ _ k _. k.glb ≤ m.glb) (λ _ k q h. le_trans (low-recovery k q) h) b a m r (le_refl _)

lower : (m m' : Memory) (ts : List Tx) → m'.glb ≤ m.glb → Low m ts → Low m' ts
lower m m' ts h low = record { count_low = let z = low.count_low in omega arith; locs-low = low.locs-low }

low-crash : (m m' : Memory) (ts : List Tx) → m'.glb ≡ 0 → Low m ts → Low m' (crash_txs ts)
unfolding crash_txs
low-crash m m' ts e low = record {
  count_low = let z = low.count_low in let y : raises_all (crash_txs ts) ≤ raises_all ts = raises-crash ts in omega arith;
  locs-low = λ t ht. rw (get_or-map crash_tx ts t (tx 0 Fresh)) (low.locs-low t ht);
}

-- ---- over a schedule

abbrev pub LowW : World → Type 0
LowW w = Low w.store.mem w.store.txs

low_step : (n : ℕ) (w : World) (t : ℕ) → InvW n w → Passes (checks w.store (on t step)) → LowW w → LowW (acted w (on t step))
unfolding acted act ask
low_step n w t inv p low =
    low-set m _ ts t _ inv.shape.txs-long ht done.0 done.1 low
  where
    m : Memory
    m = w.store.mem

    ts : List Tx
    ts = w.store.txs

    ht : t < 64
    ht = leb-false 64 t p.1.0

    mine : Role n m w.store.rec ts w.past.tales (last w.past) t
    mine = role n m w.store.rec ts w.past.tales (last w.past) t ht inv.shape inv.mode p.1.1.0

    loc : ℕ
    loc = (record_at ts t).loc

    at-W3 : Role n m w.store.rec ts w.past.tales (last w.past) t → (x v : ℕ) → (record_at ts t).phase ≡ W3 x v → loc + 1 ≡ m.glb
    at-W3 (free f) x v e = absurd (subst (λ q. Free n m.glb (last w.past) loc q (tale_at w.past.tales t)) e f.is_free)
    at-W3 (owner odd lock own others) x v e = (subst (λ q. Owner n m (last w.past) loc q (tale_at w.past.tales t)) e own).0
    at-W3 (ender c odd end others) x v e = absurd (subst (λ q. Ender m.glb (last w.past) loc q (tale_at w.past.tales t)) e end)

    at-W7 : Role n m w.store.rec ts w.past.tales (last w.past) t → (x : ℕ) → (record_at ts t).phase ≡ W7 x → even loc ≡ false
    at-W7 (free f) x e = absurd (subst (λ q. Free n m.glb (last w.past) loc q (tale_at w.past.tales t)) e f.is_free)
    at-W7 (owner odd lock own others) x e = rw (subst (λ q. Owner n m (last w.past) loc q (tale_at w.past.tales t)) e own).0 odd
    at-W7 (ender c odd end others) x e = absurd (subst (λ q. Ender m.glb (last w.past) loc q (tale_at w.past.tales t)) e end)

    at-E3 : Role n m w.store.rec ts w.past.tales (last w.past) t → (record_at ts t).phase ≡ E3 → loc ≡ m.glb
    at-E3 (free f) e = absurd (subst (λ q. Free n m.glb (last w.past) loc q (tale_at w.past.tales t)) e f.is_free)
    at-E3 (owner odd lock own others) e = absurd (subst (λ q. Owner n m (last w.past) loc q (tale_at w.past.tales t)) e own)
    at-E3 (ender c odd end others) e = (subst (λ q. Ender m.glb (last w.past) loc q (tale_at w.past.tales t)) e end).0

    done : LowLine m.glb loc (record_at ts t).phase (line_at m loc (record_at ts t).phase)
    done = low-line m loc (record_at ts t).phase (low.locs-low t ht) (glb-low m ts low) (at-W3 mine) (at-W7 mine) (at-E3 mine)

low-act : (n : ℕ) (w : World) (c : Call) → InvW n w → Passes (checks w.store c) → LowW w → LowW (acted w c)
unfolding acted act ask system
low-act n w (on t begin) inv p low =
    let ht = leb-false 64 t p.1.0 in
    low-set w.store.mem w.store.mem w.store.txs t _ inv.shape.txs-long ht
    (rw (fresh-only (record_at w.store.txs t).phase (not-false _ p.1.1.1.0)) (le_refl _)) (low.locs-low t ht) low
low-act n w (on t (read x)) inv p low =
    let ht = leb-false 64 t p.1.0 in
    low-set w.store.mem w.store.mem w.store.txs t _ inv.shape.txs-long ht
    (rw (ready-only (record_at w.store.txs t).phase (not-false _ p.1.1.1.1.0)) (le_refl _)) (low.locs-low t ht) low
low-act n w (on t (write x v)) inv p low =
    let ht = leb-false 64 t p.1.0 in
    low-set w.store.mem w.store.mem w.store.txs t _ inv.shape.txs-long ht
    (rw (ready-only (record_at w.store.txs t).phase (not-false _ p.1.1.1.1.0)) (le_refl _)) (low.locs-low t ht) low
low-act n w (on t commit) inv p low =
    let ht = leb-false 64 t p.1.0 in
    low-set w.store.mem w.store.mem w.store.txs t _ inv.shape.txs-long ht
    (rw (ready-only (record_at w.store.txs t).phase (not-false _ p.1.1.1.0)) (le_refl _)) (low.locs-low t ht) low
low-act n w (on t step) inv p low = low_step n w t inv p low
low-act n w (sys (flush x)) inv p low = lower w.store.mem _ _ (le_refl _) low
low-act n w (sys crash) inv p low = low-crash w.store.mem _ w.store.txs refl low
low-act n w (sys recover) inv p low = lower w.store.mem _ _ (low-recovery w.store.mem w.store.rec) low
low-act n w (sys (recover_up_to b)) inv p low = lower w.store.mem _ _ (low-up_to b (says 0 0) w.store.mem w.store.rec) low

pub tell-low : (n : ℕ) (w : World) (c : Call) → InvW n w → LowW w → LowW (tell w c)
tell-low n w c inv low = tell-keeps LowW w c low (λ p. low-act n w c inv p low)

pub dawn-low : (n : ℕ) → LowW (dawn n)
unfolding dawn fresh raises_all
dawn-low n = record { count_low = le_refl 128; locs-low = λ t ht. rw (get_or-replicate 64 t (tx 0 Fresh) (tx 0 Fresh) ht) (omega arith) }
