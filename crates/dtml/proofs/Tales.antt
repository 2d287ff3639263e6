-- What every schedule keeps of the tales beside the invariant. Only a W5 enters a word, and the word is then not in the log, in which every word that its
-- transaction has entered is: so none is entered twice. Only an E2 leads to E3, and while a transaction stands there no other can do its E2: so the memory
-- that it added is still the last, and right behind it stands the one that it found.
use Prim.Native.Nat.{ℕ, zero, suc, ◌<◌}
use native.Mathlib.Omega.{arith}
use borrow.Author.Tests.{leb-false}
use mathlib.Core.Path.{◌≡◌, refl, sym, ap, subst, ◌∙◌}
use mathlib.Core.Bool.{true, false}
use mathlib.Core.Logic.{◌⊎◌, inl, inr}
use mathlib.Core.List.{List, [], ◌∷◌}
use lib.ListN.{length, set, replicate, get_or-map, get_or-replicate}
use lib.Seq.{get_or-set_same, get_or-set_other}
use lib.Dec.{eqb, leb}
use Rattle.bits.specs.Marks.{is_marked}
use Rattle.dtml.specs.declared.Tx.{Tx}
use Rattle.dtml.specs.declared.Phase.{Phase}
use Rattle.dtml.specs.declared.Phase.TheVariants.{Fresh, Ready, Committed, Aborted, B1, B2, R1, R2, W1, W2, W3, W4, W5, W6, W7, E1, E2, E3}
use Rattle.dtml.specs.Table.{Reply}
use Rattle.dtml.specs.Store.{Memory, store, record_at, tx, fresh}
use Rattle.dtml.specs.Asked.{begin, read, write, commit, step, flush, crash, recover, recover_up_to, Call, on, sys, Did}
use Rattle.dtml.specs.Lines.{line_at, even, stage, is_live, crash_phase, crash_tx, crash_txs}
use Rattle.dtml.specs.Checks.{checks}
use Rattle.dtml.specs.Calls.{ask, system, act}
use Rattle.dtml.specs.History.{over, Tale, untold, starting, asked_for, asked_write, closes, ends_on, told, with_tale, Past, last, last_of, later_after, tale_at, is_e2, noted, World, tell, dawn, runs}
use Rattle.dtml.specs.Demands.{OutOf, Different}
use Rattle.dtml.proofs.Invariant.{Free, Owner, Ender}
use Rattle.dtml.proofs.Words.{same_or_not, true-not-false, pick-case}
use Rattle.dtml.proofs.Roles.{Role, free, owner, ender, role}
use Rattle.dtml.proofs.Worlds.{Passes, acted, tell-keeps, InvW, tell-inv}

-- the last committed memory is the one behind it with a transaction's writes over it
abbrev Behind : Past → Tale → Type 0
Behind p k = (earlier : List (List ℕ)) × (p.later ≡ over (last_of p.first earlier) k.wrote ∷ earlier)

pub record TalesW (w : World) : Type 0 where
  pub once : (t : ℕ) → Different (tale_at w.past.tales t).entered
  pub behind : (t : ℕ) → t < 64 → (record_at w.store.txs t).phase ≡ E3 → Behind w.past (tale_at w.past.tales t)

-- ---- one line

ends-once : (a : Reply) (k : Tale) → Different k.entered → Different (ends_on a k).entered
ends-once a k d =
    pick-case (λ (g : Tale). Different g.entered) (eqb a.number 4) (λ _. d)
    (λ _. pick-case (λ (g : Tale). Different g.entered) (eqb a.number 5) (λ _. d) (λ _. d))

told-once : (l : List ℕ) (p : Phase) (a : Reply) (k : Tale) → Different k.entered → ((w v : ℕ) → p ≡ W5 w v → OutOf k.entered (asked_write k.asked).word)
    → Different (told l p a k).entered
unfolding told
told-once l Fresh a k d new = d
told-once l Ready a k d new = d
told-once l Committed a k d new = d
told-once l Aborted a k d new = d
told-once l B1 a k d new = d
told-once l B2 a k d new = d
told-once l (R1 w) a k d new = d
told-once l (R2 v) a k d new = ends-once a k d
told-once l (W1 w v) a k d new = d
told-once l (W2 w v) a k d new = ends-once a k d
told-once l (W3 w v) a k d new = d
told-once l (W4 w v) a k d new = d
told-once l (W5 w v) a k d new = (new w v refl, d)
told-once l (W6 w v) a k d new = d
told-once l (W7 w) a k d new = pick-case (λ (g : Tale). Different g.entered) (eqb a.number 3) (λ _. d) (λ _. d)
told-once l E1 a k d new = ends-once a k d
told-once l E2 a k d new = d
told-once l E3 a k d new = d

-- only E2 leads to E3
to-E3 : (m : Memory) (loc : ℕ) (p : Phase) → (line_at m loc p).tx.phase ≡ E3 → p ≡ E2
unfolding line_at
to-E3 m loc Fresh e = cc
to-E3 m loc Ready e = cc
to-E3 m loc Committed e = cc
to-E3 m loc Aborted e = cc
to-E3 m loc B1 e = cc
to-E3 m loc B2 e = pick-case (λ (d : Did). d.tx.phase ≡ E3 → B2 ≡ E2) (even loc) (λ _ q. cc) (λ _ q. cc) e
to-E3 m loc (R1 w) e = cc
to-E3 m loc (R2 v) e = pick-case (λ (d : Did). d.tx.phase ≡ E3 → R2 v ≡ E2) (eqb m.glb loc) (λ _ q. cc) (λ _ q. cc) e
to-E3 m loc (W1 w v) e = pick-case (λ (d : Did). d.tx.phase ≡ E3 → W1 w v ≡ E2) (even loc) (λ _ q. cc) (λ _ q. cc) e
to-E3 m loc (W2 w v) e = pick-case (λ (d : Did). d.tx.phase ≡ E3 → W2 w v ≡ E2) (eqb m.glb loc) (λ _ q. cc) (λ _ q. cc) e
to-E3 m loc (W3 w v) e = cc
to-E3 m loc (W4 w v) e = pick-case (λ (d : Did). d.tx.phase ≡ E3 → W4 w v ≡ E2) (is_marked m.marks w) (λ _ q. cc) (λ _ q. cc) e
to-E3 m loc (W5 w v) e = cc
to-E3 m loc (W6 w v) e = cc
to-E3 m loc (W7 w) e = cc
to-E3 m loc E1 e = pick-case (λ (d : Did). d.tx.phase ≡ E3 → E1 ≡ E2) (even loc) (λ _ q. cc) (λ _ q. cc) e
to-E3 m loc E2 e = refl
to-E3 m loc E3 e = cc

pub is-E2 : (p : Phase) → is_e2 p ≡ true → p ≡ E2
is-E2 Fresh h = cc
is-E2 Ready h = cc
is-E2 Committed h = cc
is-E2 Aborted h = cc
is-E2 B1 h = cc
is-E2 B2 h = cc
is-E2 (R1 w) h = cc
is-E2 (R2 v) h = cc
is-E2 (W1 w v) h = cc
is-E2 (W2 w v) h = cc
is-E2 (W3 w v) h = cc
is-E2 (W4 w v) h = cc
is-E2 (W5 w v) h = cc
is-E2 (W6 w v) h = cc
is-E2 (W7 w) h = cc
is-E2 E1 h = cc
is-E2 E2 h = refl
is-E2 E3 h = cc

-- ---- one tale is set

set-once : (ks : List Tale) (t : ℕ) (k : Tale) → t < length ks → Different k.entered → ((u : ℕ) → Different (tale_at ks u).entered)
    → (u : ℕ) → Different (tale_at (set ks t k) u).entered
set-once ks t k ht d h u = go (same_or_not u t)
  where
    go : (u ≡ t) ⊎ (u ≡ t → ⊥) → Different (tale_at (set ks t k) u).entered
    go (inl e) = rw (e, get_or-set_same ks t k untold ht) d
    go (inr f) = rw (get_or-set_other ks t u k untold f) (h u)

-- a record with its tale: at the transaction itself, and at any other
set-behind : (p : Past) (ts : List Tx) (ks : List Tale) (t : ℕ) (x : Tx) (k : Tale) → t < length ts → t < length ks → (x.phase ≡ E3 → Behind p k)
    → ((u : ℕ) → u < 64 → (u ≡ t → ⊥) → (record_at ts u).phase ≡ E3 → Behind p (tale_at ks u))
    → (u : ℕ) → u < 64 → (record_at (set ts t x) u).phase ≡ E3 → Behind p (tale_at (set ks t k) u)
set-behind p ts ks t x k ht hk here there u hu = go (same_or_not u t)
  where
    go : (u ≡ t) ⊎ (u ≡ t → ⊥) → (record_at (set ts t x) u).phase ≡ E3 → Behind p (tale_at (set ks t k) u)
    go (inl e) = rw (e, get_or-set_same ts t x (tx 0 Fresh) ht, get_or-set_same ks t k untold hk) here
    go (inr f) = rw (get_or-set_other ts t u x (tx 0 Fresh) f, get_or-set_other ks t u k untold f) (there u hu f)

-- ---- a call that is carried out

module _ (n : ℕ) (w : World) (inv : InvW n w) (h : TalesW w) where
  in-ts : (t : ℕ) → t < 64 → t < length w.store.txs
  in-ts t ht = rw inv.shape.txs-long ht

  in-ks : (t : ℕ) → t < 64 → t < length w.past.tales
  in-ks t ht = rw inv.shape.tales-long ht

  -- an invocation leads to another line than E3, and enters nothing
  invoked : (t : ℕ) (p : Phase) (k : Tale) → leb 64 t ≡ false → Different k.entered → (p ≡ E3 → ◌≡◌ {A = ℕ} 0 1)
      → TalesW (record { store = store w.store.mem w.store.rec (set w.store.txs t (tx (record_at w.store.txs t).loc p)); past = with_tale w.past t k })
  invoked t p k b d f =
      let ht = leb-false 64 t b in
      record {
        once = set-once w.past.tales t k (in-ks t ht) d h.once;
        behind =
            set-behind w.past w.store.txs w.past.tales t (tx (record_at w.store.txs t).loc p) k (in-ts t ht) (in-ks t ht)
            (λ e. absurd (let z = f e in omega arith))
            (λ u hu _. h.behind u hu);
      }

  -- the word that a W5 enters is not in the log
  new_word : (t : ℕ) → t < 64 → Role n w.store.mem w.store.rec w.store.txs w.past.tales (last w.past) t
      → (x v : ℕ) → (record_at w.store.txs t).phase ≡ W5 x v → OutOf (tale_at w.past.tales t).entered (asked_write (tale_at w.past.tales t).asked).word
  new_word t ht (free f) x v e =
      absurd (subst (λ p. Free n w.store.mem.glb (last w.past) (record_at w.store.txs t).loc p (tale_at w.past.tales t)) e f.is_free)
  new_word t ht (owner odd lock own others) x v e =
      let o : Owner n w.store.mem (last w.past) (record_at w.store.txs t).loc (W5 x v) (tale_at w.past.tales t) =
      subst (λ p. Owner n w.store.mem (last w.past) (record_at w.store.txs t).loc p (tale_at w.past.tales t)) e own in
      subst (λ a. OutOf (tale_at w.past.tales t).entered (asked_write a).word) (sym o.2) (lock.3 x o.4)
  new_word t ht (ender c odd end others) x v e =
      absurd (subst (λ p. Ender w.store.mem.glb (last w.past) (record_at w.store.txs t).loc p (tale_at w.past.tales t)) e end)

  -- while one transaction stands at E3, no other stands at E2
  only_one : (t u : ℕ) → t < 64 → (u ≡ t → ⊥) → Role n w.store.mem w.store.rec w.store.txs w.past.tales (last w.past) u
      → (record_at w.store.txs u).phase ≡ E3 → (record_at w.store.txs t).phase ≡ E2 → ⊥
  only_one t u ht f (free g) e q =
      subst (λ p. Free n w.store.mem.glb (last w.past) (record_at w.store.txs u).loc p (tale_at w.past.tales u)) e g.is_free
  only_one t u ht f (owner odd lock own others) e q =
      subst (λ p. Owner n w.store.mem (last w.past) (record_at w.store.txs u).loc p (tale_at w.past.tales u)) e own
  only_one t u ht f (ender c odd end others) e q =
      subst (λ p. Free n w.store.mem.glb (last w.past) (record_at w.store.txs t).loc p (tale_at w.past.tales t)) q (others t ht (λ z. f (sym z)))

  module _ (t : ℕ) (p : Passes (checks w.store (on t step))) where
    abbrev m : Memory
    m = w.store.mem

    abbrev loc : ℕ
    loc = (record_at w.store.txs t).loc

    abbrev line : Phase
    line = (record_at w.store.txs t).phase

    abbrev k : Tale
    k = tale_at w.past.tales t

    ht : t < 64
    ht = leb-false 64 t p.1.0

    roles : (u : ℕ) → u < 64 → Role n m w.store.rec w.store.txs w.past.tales (last w.past) u
    roles u hu = role n m w.store.rec w.store.txs w.past.tales (last w.past) u hu inv.shape inv.mode p.1.1.0

    -- the past after the line, and this transaction's tale
    abbrev next : Past
    next = (acted w (on t step)).past

    at-E2 : (a : Reply) (q : Phase) → q ≡ E2 → (earlier : List (List ℕ)) × (later_after w.past q k ≡ over (last_of w.past.first earlier) (told (last w.past) q a k).wrote ∷ earlier)
    unfolding told
    at-E2 a q e = subst (λ z. (earlier : List (List ℕ)) × (later_after w.past z k ≡ over (last_of w.past.first earlier) (told (last w.past) z a k).wrote ∷ earlier)) (sym e) (w.past.later, refl)

    kept : (u : ℕ) → u < 64 → (u ≡ t → ⊥) → (record_at w.store.txs u).phase ≡ E3 → later_after w.past line k ≡ w.past.later
    kept u hu f e =
        pick-case (λ x. x ≡ w.past.later) (is_e2 line) (λ q. absurd (only_one t u ht f (roles u hu) e (is-E2 line q))) (λ _. refl)

    stepped : TalesW (acted w (on t step))
    unfolding acted act ask noted
    stepped = record {
      once =
          set-once w.past.tales t (told (last w.past) line (line_at m loc line).reply k) (in-ks t ht)
          (told-once (last w.past) line (line_at m loc line).reply k (h.once t) (new_word t ht (roles t ht)))
          h.once;
      behind =
          set-behind next w.store.txs w.past.tales t (line_at m loc line).tx (told (last w.past) line (line_at m loc line).reply k) (in-ts t ht) (in-ks t ht)
          (λ e. at-E2 (line_at m loc line).reply line (to-E3 m loc line e))
          (λ u hu f e. let b = h.behind u hu e in (b.0, kept u hu f e ∙ b.1));
    }

  -- a crash leaves no record at a line
  crash-E3 : (t : ℕ) → (record_at (crash_txs w.store.txs) t).phase ≡ E3 → ⊥
  unfolding crash_txs
  crash-E3 t e =
      let q = (record_at w.store.txs t).phase in
      let is : crash_phase q ≡ E3 = ap (λ (x : Tx). x.phase) (sym (get_or-map crash_tx w.store.txs t (tx 0 Fresh))) ∙ e in
      true-not-false (ap (λ p. is_live (stage p)) is) (pick-case (λ p. is_live (stage p) ≡ false) (is_live (stage q)) (λ _. refl) (λ z. z))

  pub act-tales : (c : Call) → Passes (checks w.store c) → TalesW (acted w c)
  unfolding acted act ask noted system crash_txs
  act-tales (on t begin) p = invoked t B1 starting p.1.0 tt (λ e. cc)
  act-tales (on t (read x)) p = invoked t (R1 x) (asked_for (tale_at w.past.tales t) (read x)) p.1.0 (h.once t) (λ e. cc)
  act-tales (on t (write x v)) p = invoked t (W1 x v) (asked_for (tale_at w.past.tales t) (write x v)) p.1.0 (h.once t) (λ e. cc)
  act-tales (on t commit) p = invoked t E1 (asked_for (tale_at w.past.tales t) commit) p.1.0 (h.once t) (λ e. cc)
  act-tales (on t step) p = stepped t p
  act-tales (sys (flush x)) p = record { once = h.once; behind = h.behind }
  act-tales (sys crash) p = record {
    once = λ t. rw (get_or-map closes w.past.tales t untold) (h.once t);
    behind = λ t _ e. absurd (crash-E3 t e);
  }
  act-tales (sys recover) p = record { once = h.once; behind = h.behind }
  act-tales (sys (recover_up_to b)) p = record { once = h.once; behind = h.behind }

-- ---- every schedule

pub runs-tales : (n : ℕ) (w : World) (cs : List Call) → InvW n w → TalesW w → TalesW (runs w cs)
unfolding runs
runs-tales n w [] inv h = h
runs-tales n w (c ∷ cs) inv h = runs-tales n (tell w c) cs (tell-inv n w c inv) (tell-keeps TalesW w c h (act-tales n w inv h c))

all-blank : (n t : ℕ) → tale_at (replicate n untold) t ≡ untold
all-blank zero t = refl
all-blank (suc n) zero = refl
all-blank (suc n) (suc t) = all-blank n t

pub dawn-tales : (n : ℕ) → TalesW (dawn n)
unfolding dawn fresh
dawn-tales n = record {
  once = λ t. rw (all-blank 64 t) tt;
  behind = λ t ht e. absurd (let q : Fresh ≡ E3 = rw (get_or-replicate 64 t (tx 0 Fresh) (tx 0 Fresh) ht) at e in let z : ◌≡◌ {A = ℕ} 0 1 = cc in omega arith);
}
