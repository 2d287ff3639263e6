-- From fresh nothing is unfit: the rows keep their lengths, a mark, a phase and recovery name words that are there, and the count stays low.
use Prim.Native.Nat.{ℕ, suc, ◌≤◌, ◌<◌}
use native.Mathlib.Omega.{arith}
use borrow.Author.Tests.{leb-true, leb-false, lt-leb, ne_eqb, eq-eqb}
use mathlib.Core.Path.{◌≡◌, refl, sym, ap, ◌∙◌}
use mathlib.Core.Bool.{true, false}
use mathlib.Core.Logic.{◌⊎◌, inl, inr}
use mathlib.Core.List.{List, [], ◌∷◌}
use lib.ListN.{length, drop}
use lib.Dec.{leb}
use Rattle.bits.specs.Marks.{count_of}
use Rattle.bits.proofs.Laws.{laws}
use Rattle.dtml.specs.declared.Tx.{Tx}
use Rattle.dtml.specs.declared.Phase.{Phase}
use Rattle.dtml.specs.declared.Phase.TheVariants.{Fresh, Ready, Committed, Aborted, B1, B2, R1, R2, W1, W2, W3, W4, W5, W6, W7, E1, E2, E3}
use Rattle.dtml.specs.declared.Recovery.{Recovery}
use Rattle.dtml.specs.declared.Recovery.TheVariants.{Idle, C1, C2, C3, C4, C5, C6}
use Rattle.dtml.specs.Store.{Memory, Store, record_at}
use Rattle.dtml.specs.Asked.{begin, read, write, commit, step, flush, crash, recover, recover_up_to, Call, on, sys}
use Rattle.dtml.specs.First.{Check, first}
use Rattle.dtml.specs.Checks.{checks, unfit, unfit_tx, unfit_txs, unfit_memory, unfit_recovery, phase_past, not_idle}
use Rattle.dtml.specs.Calls.{act, call, refused}
use Rattle.dtml.specs.History.{Tale, tale_at, last, World, runs, tell, dawn}
use Rattle.dtml.proofs.Invariant.{Free, Owner, Ender, Recovers, Mode, quiet, writing, sealed, recovering}
use Rattle.dtml.proofs.Words.{same_or_not, true-not-false}
use Rattle.dtml.proofs.Fit.{fit-beside, fit-tx}
use Rattle.dtml.proofs.SystemCalls.{still-free}
use Rattle.dtml.proofs.Worlds.{Passes, all_from, first-cases, act-small, InvW, tell-inv, dawn-inv}
use Rattle.dtml.proofs.Low.{LowW, tell-low, dawn-low, glb-low}

-- ---- a phase and recovery name words that are there

free-words : (n g : ℕ) (l : List ℕ) (loc : ℕ) (p : Phase) (k : Tale) → Free n g l loc p k → phase_past n p ≡ false
free-words n g l loc Fresh k h = refl
free-words n g l loc Ready k h = refl
free-words n g l loc Committed k h = refl
free-words n g l loc Aborted k h = refl
free-words n g l loc B1 k h = refl
free-words n g l loc B2 k h = refl
free-words n g l loc (R1 w) k h = lt-leb n w h.3
free-words n g l loc (R2 v) k h = refl
free-words n g l loc (W1 w v) k h = lt-leb n w h.3
free-words n g l loc (W2 w v) k h = lt-leb n w h.3
free-words n g l loc (W3 w v) k h = absurd h
free-words n g l loc (W4 w v) k h = absurd h
free-words n g l loc (W5 w v) k h = absurd h
free-words n g l loc (W6 w v) k h = absurd h
free-words n g l loc (W7 w) k h = absurd h
free-words n g l loc E1 k h = refl
free-words n g l loc E2 k h = absurd h
free-words n g l loc E3 k h = absurd h

owner-words : (n : ℕ) (m : Memory) (l : List ℕ) (loc : ℕ) (p : Phase) (k : Tale) → Owner n m l loc p k → phase_past n p ≡ false
owner-words n m l loc Fresh k h = refl
owner-words n m l loc Ready k h = refl
owner-words n m l loc Committed k h = refl
owner-words n m l loc Aborted k h = refl
owner-words n m l loc B1 k h = refl
owner-words n m l loc B2 k h = refl
owner-words n m l loc (R1 w) k h = lt-leb n w h.3
owner-words n m l loc (R2 v) k h = refl
owner-words n m l loc (W1 w v) k h = lt-leb n w h.3
owner-words n m l loc (W2 w v) k h = absurd h
owner-words n m l loc (W3 w v) k h = lt-leb n w h.3
owner-words n m l loc (W4 w v) k h = lt-leb n w h.3
owner-words n m l loc (W5 w v) k h = lt-leb n w h.3
owner-words n m l loc (W6 w v) k h = lt-leb n w h.3
owner-words n m l loc (W7 w) k h = lt-leb n w h.1
owner-words n m l loc E1 k h = refl
owner-words n m l loc E2 k h = refl
owner-words n m l loc E3 k h = absurd h

ender-words : (n g : ℕ) (l : List ℕ) (loc : ℕ) (p : Phase) (k : Tale) → Ender g l loc p k → phase_past n p ≡ false
ender-words n g l loc Fresh k h = refl
ender-words n g l loc Ready k h = refl
ender-words n g l loc Committed k h = refl
ender-words n g l loc Aborted k h = refl
ender-words n g l loc B1 k h = refl
ender-words n g l loc B2 k h = refl
ender-words n g l loc (R1 w) k h = absurd h
ender-words n g l loc (R2 v) k h = refl
ender-words n g l loc (W1 w v) k h = absurd h
ender-words n g l loc (W2 w v) k h = absurd h
ender-words n g l loc (W3 w v) k h = absurd h
ender-words n g l loc (W4 w v) k h = absurd h
ender-words n g l loc (W5 w v) k h = absurd h
ender-words n g l loc (W6 w v) k h = absurd h
ender-words n g l loc (W7 w) k h = absurd h
ender-words n g l loc E1 k h = refl
ender-words n g l loc E2 k h = refl
ender-words n g l loc E3 k h = refl

words-in : (n : ℕ) (m : Memory) (r : Recovery) (ts : List Tx) (ks : List Tale) (l : List ℕ) → Mode n m r ts ks l
    → (t : ℕ) → t < 64 → phase_past n (record_at ts t).phase ≡ false
words-in n m r ts ks l (quiet i c e all) t ht =
    free-words n m.glb l (record_at ts t).loc (record_at ts t).phase (tale_at ks t) (all t ht)
words-in n m r ts ks l (writing o ho i e own others) t ht = go (same_or_not t o)
  where
    go : (t ≡ o) ⊎ (t ≡ o → ⊥) → phase_past n (record_at ts t).phase ≡ false
    go (inl q) = rw q (owner-words n m l (record_at ts o).loc (record_at ts o).phase (tale_at ks o) own.1)
    go (inr f) = free-words n m.glb l (record_at ts t).loc (record_at ts t).phase (tale_at ks t) (others t ht f)
words-in n m r ts ks l (sealed o ho i c e end others) t ht = go (same_or_not t o)
  where
    go : (t ≡ o) ⊎ (t ≡ o → ⊥) → phase_past n (record_at ts t).phase ≡ false
    go (inl q) = rw q (ender-words n m.glb l (record_at ts o).loc (record_at ts o).phase (tale_at ks o) end)
    go (inr f) = free-words n m.glb l (record_at ts t).loc (record_at ts t).phase (tale_at ks t) (others t ht f)
words-in n m r ts ks l (recovering i h all) t ht =
    free-words n 0 l (record_at ts t).loc (record_at ts t).phase (tale_at ks t)
    (still-free n 0 l (record_at ts t).loc (record_at ts t).phase (tale_at ks t) (all t ht))

idle-fits : (n : ℕ) (k : List ℕ) (r : Recovery) → not_idle r ≡ false → unfit_recovery n k r ≡ false
idle-fits n k Idle h = refl
idle-fits n k C1 h = refl
idle-fits n k C2 h = absurd (true-not-false refl h)
idle-fits n k (C3 w v) h = absurd (true-not-false refl h)
idle-fits n k (C4 w v) h = absurd (true-not-false refl h)
idle-fits n k (C5 w v) h = absurd (true-not-false refl h)
idle-fits n k C6 h = refl

recovers-fits : (n : ℕ) (m : Memory) (l : List ℕ) (r : Recovery) → Recovers n m l r → unfit_recovery n m.marks r ≡ false
recovers-fits n m l Idle h = refl
recovers-fits n m l C1 h = refl
recovers-fits n m l C2 h = ne_eqb (count_of m.marks) 0 h
recovers-fits n m l (C3 w v) h = lt-leb n w h.0
recovers-fits n m l (C4 w v) h = lt-leb n w h.0.0
recovers-fits n m l (C5 w v) h = lt-leb n w h.0.0
recovers-fits n m l C6 h = refl

recovery-in : (n : ℕ) (m : Memory) (r : Recovery) (ts : List Tx) (ks : List Tale) (l : List ℕ) → Mode n m r ts ks l → unfit_recovery n m.marks r ≡ false
recovery-in n m r ts ks l (quiet i c e all) = idle-fits n m.marks r i
recovery-in n m r ts ks l (writing o ho i e own others) = idle-fits n m.marks r i
recovery-in n m r ts ks l (sealed o ho i c e end others) = idle-fits n m.marks r i
recovery-in n m r ts ks l (recovering i h all) = recovers-fits n m l r h

-- ---- so the store is fit

txs-fit : (n : ℕ) (ts : List Tx) → ((t : ℕ) → t < length ts → unfit_tx n (record_at ts t) ≡ false) → unfit_txs n ts ≡ false
unfolding unfit_txs
txs-fit n [] h = refl
txs-fit n (x ∷ ts) h = rw (h 0 (omega arith)) (txs-fit n ts (λ t ht. h (suc t) (omega arith)))

pub never-unfit : (n : ℕ) (w : World) → InvW n w → LowW w → unfit w.store ≡ false
unfolding unfit
never-unfit n w inv low = rw (beside, eq-eqb (length w.store.txs) 64 inv.shape.txs-long, records)
  where
    m : Memory
    m = w.store.mem

    beside : unfit_memory m w.store.rec ≡ false
    beside =
        fit-beside
        (record {
          pers-long = inv.shape.pers-long ∙ sym inv.shape.vol-long;
          old-long = inv.shape.old-long ∙ sym inv.shape.vol-long;
          some = rw inv.shape.vol-long inv.shape.some;
          few = rw inv.shape.vol-long inv.shape.few;
          marks-in = rw inv.shape.vol-long (laws.none-stands m.marks n inv.marks-in);
          glb-low = let z = glb-low m w.store.txs low in omega arith;
          recovery-in = rw inv.shape.vol-long (recovery-in n m w.store.rec w.store.txs w.past.tales (last w.past) inv.mode);
        })

    records : unfit_txs (length m.vol) w.store.txs ≡ false
    records =
        txs-fit (length m.vol) w.store.txs
        (λ t ht. let here : t < 64 = rw inv.shape.txs-long at ht in
        fit-tx (record {
          loc-low = let z = low.locs-low t here in omega arith;
          word_in = rw inv.shape.vol-long (words-in n m w.store.rec w.store.txs w.past.tales (last w.past) inv.mode t here);
        }))

-- ---- every schedule

pub fine : (n : ℕ) (w : World) (cs : List Call) → InvW n w → LowW w → InvW n (runs w cs) × LowW (runs w cs)
unfolding runs
fine n w [] inv low = (inv, low)
fine n w (c ∷ cs) inv low = fine n (tell w c) cs (tell-inv n w c inv) (tell-low n w c inv low)

pub fine-after : (n : ℕ) (cs : List Call) → 0 < n → n ≤ 256 → InvW n (runs (dawn n) cs) × LowW (runs (dawn n) cs)
fine-after n cs some few = fine n (dawn n) cs (dawn-inv n some few) (dawn-low n)

-- what follows the check of fitness
abbrev rest : Store → Call → List Check
rest s c = drop 1 (checks s c)

ten-on : (s : Store) (c : Call) → all_from 10 (rest s c) ≡ true
ten-on s (on t begin) = refl
ten-on s (on t (read w)) = refl
ten-on s (on t (write w v)) = refl
ten-on s (on t commit) = refl
ten-on s (on t step) = refl
ten-on s (sys (flush w)) = refl
ten-on s (sys crash) = refl
ten-on s (sys recover) = refl
ten-on s (sys (recover_up_to b)) = refl

fit-call : (s : Store) (c : Call) → unfit s ≡ false → call s c ≡ first (rest s c) (refused s) (act s c)
unfolding call
fit-call s (on t a) h = rw h
fit-call s (sys k) h = rw h

-- a fit store's call answers by something else than 9: it is carried out, or refused with a number above
pub not-nine : (s : Store) (c : Call) → unfit s ≡ false → (call s c).reply.number ≡ 9 → ⊥
not-nine s c h e = go (first-cases 10 (rest s c) (refused s) (act s c) (ten-on s c))
  where
    go : ((k : ℕ) × (leb 10 k ≡ true) × (first (rest s c) (refused s) (act s c) ≡ refused s k))
        ⊎ (Passes (rest s c) × (first (rest s c) (refused s) (act s c) ≡ act s c)) → ⊥
    go (inl r) =
        let b : 10 ≤ r.0 = leb-true 10 r.0 r.1 in
        let q : r.0 ≡ 9 = sym (ap (λ o. o.reply.number) (fit-call s c h ∙ r.2)) ∙ e in
        omega arith
    go (inr p) =
        let q : (act s c).reply.number ≡ 9 = sym (ap (λ o. o.reply.number) (fit-call s c h ∙ p.1)) ∙ e in
        let b : (act s c).reply.number < 9 = leb-false 9 _ (act-small s c) in
        omega arith
