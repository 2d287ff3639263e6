-- A call on a whole fit store is the call on what it is handed: the record named, or none. A refusal of the smaller call puts back what it was handed.
use Prim.Native.Nat.{ℕ, zero, suc, ◌≤◌, ◌<◌}
use native.Mathlib.Omega.{arith}
use borrow.Author.Tests.{leb-true, leb-false, le-leb, lt-leb, not-false, eqb-true}
use mathlib.Core.Path.{◌≡◌, refl, sym, ap, subst, ◌∙◌}
use mathlib.Core.Bool.{Bool, true, false, not}
use mathlib.Core.List.{List, [], ◌∷◌}
use lib.ListN.{length, get_or, set}
use lib.Seq.{set-get_or}
use lib.Dec.{eqb, leb}
use Rattle.bits.specs.Marks.{pick}
use Rattle.dtml.specs.declared.Recovery.{Recovery}
use Rattle.dtml.specs.declared.Tx.{Tx}
use Rattle.dtml.specs.declared.Phase.TheVariants.{Fresh}
use Rattle.dtml.specs.Table.{says}
use Rattle.dtml.specs.Store.{Memory, Store, store, record_at, tx, size}
use Rattle.dtml.specs.Asked.{Ask, Sys, flush, crash, recover, recover_up_to, Call, on, sys, Outcome, outcome}
use Rattle.dtml.specs.First.{Check, ◌⇒◌, first, any_of}
use Rattle.dtml.specs.Checks.{unfit, unfit_memory, unfit_one, unfit_tx, unfit_txs, ask_checks, sys_checks}
use Rattle.dtml.specs.Calls.{ask, system, system_txs, act, call, refused, settled}
use Rattle.dtml.specs.Handed.{no-turn, a_turn, Happened, nothing, call_one, happens, call_system, turn_left, event_left, carry, slot_of, is_crash, put_back}
use Rattle.dtml.proofs.Words.{pick-case}
use Rattle.dtml.proofs.Fit.{none, last, fit-one}

-- what is done with the outcome of a call, done with each of its ways
first-lift : {A B : Type 0} (f : A → B) (cs : List Check) (g : ℕ → A) (h : ℕ → B) (x : A) → ((n : ℕ) → f (g n) ≡ h n) → f (first cs g x) ≡ first cs h (f x)
first-lift f [] g h x e = refl
first-lift {A} {B} f (c ∷ cs) g h x e = go c.applies (first-lift f cs g h x e)
  where
    go : (b : Bool) → f (first cs g x) ≡ first cs h (f x) → f (pick b (g c.number) (first cs g x)) ≡ pick b (h c.number) (first cs h (f x))
    go true q = e c.number
    go false q = q

-- a fit row's records are fit
record-fit : (n : ℕ) (ts : List Tx) (t : ℕ) → t < length ts → unfit_txs n ts ≡ false → unfit_tx n (record_at ts t) ≡ false
unfolding unfit_txs
record-fit n [] t h e = absurd (let z : t < 0 = h in omega arith)
record-fit n (x ∷ ts) zero h e = (none (unfit_tx n x) (unfit_txs n ts) e).0
record-fit n (x ∷ ts) (suc t) h e = record-fit n ts t (omega arith) (none (unfit_tx n x) (unfit_txs n ts) e).1

pub record FitStore (s : Store) : Type 0 where
  pub beside : unfit_memory s.mem s.rec ≡ false
  pub long : length s.txs ≡ 64
  pub records : unfit_txs (size s.mem) s.txs ≡ false

pub store-fits : (s : Store) → unfit s ≡ false → FitStore s
unfolding unfit
store-fits s h =
    let a = none (unfit_memory s.mem s.rec) (any_of (not (eqb (length s.txs) 64) ∷ unfit_txs (size s.mem) s.txs ∷ [])) h in
    let b = none (not (eqb (length s.txs) 64)) (any_of (unfit_txs (size s.mem) s.txs ∷ [])) a.1 in
    record { beside = a.0; long = eqb-true (length s.txs) 64 (not-false _ b.0); records = last (unfit_txs (size s.mem) s.txs) ∙ b.1 }

pub unfit-call : (s : Store) (t : ℕ) (a : Ask) → unfit s ≡ true → call s (on t a) ≡ refused s 9
unfolding call
unfit-call s t a h = rw h

pub unfit-system : (s : Store) (k : Sys) → unfit s ≡ true → call s (sys k) ≡ refused s 9
unfolding call
unfit-system s k h = rw h

pub no_record : (s : Store) (t : ℕ) (a : Ask) → unfit s ≡ false → 64 ≤ t → call s (on t a) ≡ refused s 11
unfolding call
no_record s t a h b = rw (h, le-leb 64 t b)

-- record t of a fit store and what stands beside the records are fit
pub one-fit : (s : Store) (t : ℕ) → unfit s ≡ false → t < 64
    → unfit_one (length s.mem.vol) (length s.mem.pers) (length s.mem.old) s.mem.marks s.mem.glb s.rec (record_at s.txs t) ≡ false
one-fit s t h ht =
    let f = store-fits s h in
    fit-one (record { beside = f.beside; own = record-fit (size s.mem) s.txs t (rw f.long ht) f.records })

put_same : (s : Store) (i : ℕ) → set s.txs i (record_at s.txs i) ≡ s.txs
put_same s i = set-get_or s.txs i (tx 0 Fresh)

-- a call on record i of a fit store
on-record : (s : Store) (i : ℕ) (a : Ask) → unfit s ≡ false → i < 64
    → call s (on i a) ≡ put_back s (on i a) (carry s.mem s.rec (record_at s.txs i) (on i a))
unfolding call call_one carry act
on-record s i a h small =
    let t = record_at s.txs i in
    rw (h, lt-leb 64 i small, one-fit s i h small)
    (sym (first-lift (λ x. outcome (turn_left s.rec t x).reply (store (turn_left s.rec t x).mem (turn_left s.rec t x).rec (set s.txs i (turn_left s.rec t x).tx)))
    (ask_checks (size s.mem) s.rec t a) (λ n. no-turn (says n 0) s.mem) (refused s) (a_turn (ask s.mem t a))
    (λ n. ap (λ ts. outcome (says n 0) (store s.mem s.rec ts)) (put_same s i))))

no-crash : (m : Memory) (r : Recovery) (k : Sys) → is_crash (happens m r k) ≡ false → is_crash (call_system m r k) ≡ false
unfolding call_system
no-crash m r k e =
    first-lift is_crash (unfit_memory m r ⇒ 9 ∷ sys_checks (size m) r k) (λ n. nothing (says n 0) m) (λ n. false) (happens m r k) (λ n. refl)
    ∙ rw e (always (unfit_memory m r ⇒ 9 ∷ sys_checks (size m) r k))
  where
    always : (cs : List Check) → first cs (λ n. false) false ≡ false
    always [] = refl
    always (c ∷ cs) = pick-case (λ x. x ≡ false) c.applies (λ e. refl) (λ e. always cs)

-- the store after a call on no record that left this, and was no crash
left-of : Store → Happened → Outcome
left-of s x =
    let l = event_left s.rec (record_at s.txs 0) x in
    outcome l.reply (store l.mem l.rec (set s.txs 0 l.tx))

-- a call on no record of a fit store, which is not a crash
on_none : (s : Store) (k : Sys) → system_txs k s.txs ≡ s.txs → is_crash (call_system s.mem s.rec k) ≡ false
    → left-of s (happens s.mem s.rec k) ≡ settled s.txs (system s.mem s.rec k)
    → unfit s ≡ false → call s (sys k) ≡ put_back s (sys k) (carry s.mem s.rec (record_at s.txs 0) (sys k))
unfolding call call_system carry act left-of
on_none s k same none done h =
    rw (none, h, (store-fits s h).beside, same, sym done)
    (sym (first-lift (left-of s) (sys_checks (size s.mem) s.rec k) (λ n. nothing (says n 0) s.mem) (refused s) (happens s.mem s.rec k)
    (λ n. ap (λ ts. outcome (says n 0) (store s.mem s.rec ts)) (put_same s 0))))

-- What a call leaves of what it is handed is what the whole call leaves of a fit store: the other records are looked at by no line, and stay but for a crash.
pub carries : (s : Store) (c : Call) → unfit s ≡ false → call s c ≡ put_back s c (carry s.mem s.rec (record_at s.txs (slot_of c)) c)
unfolding call call_one call_system carry act system left-of
carries s (on i a) h = go (leb 64 i) refl
  where
    go : (b : Bool) → leb 64 i ≡ b → call s (on i a) ≡ put_back s (on i a) (carry s.mem s.rec (record_at s.txs (slot_of (on i a))) (on i a))
    go true e = no_record s i a h (leb-true 64 i e) ∙ rw (e, one-fit s 0 h (omega arith), put_same s 0)
    go false e =
        let same : slot_of (on i a) ≡ i = ap (λ b. pick b 0 i) e in
        subst (λ j. call s (on i a) ≡ put_back s (on i a) (carry s.mem s.rec (record_at s.txs j) (on i a))) (sym same) (on-record s i a h (leb-false 64 i e))
carries s (sys (flush w)) h = on_none s (flush w) refl (no-crash s.mem s.rec (flush w) refl) (rw (put_same s 0)) h
carries s (sys crash) h = rw (h, (store-fits s h).beside, put_same s 0)
carries s (sys recover) h = on_none s recover refl (no-crash s.mem s.rec recover refl) (rw (put_same s 0)) h
carries s (sys (recover_up_to b)) h = on_none s (recover_up_to b) refl (no-crash s.mem s.rec (recover_up_to b) refl) (rw (put_same s 0)) h

-- an element is the same whatever stands for those past the end
pub default_free : (ts : List Tx) (t : ℕ) (d : Tx) → t < length ts → get_or ts t d ≡ record_at ts t
default_free [] t d h = absurd (let z : t < 0 = h in omega arith)
default_free (x ∷ ts) zero d h = refl
default_free (x ∷ ts) (suc t) d h = default_free ts t d (omega arith)
