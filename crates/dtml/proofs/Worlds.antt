-- Every call is refused and changes nothing, or is carried out; what is carried out keeps the invariant, and so does every schedule from a fresh store.
use Prim.Native.Nat.{ℕ, ◌≤◌, ◌<◌}
use native.Mathlib.Omega.{arith}
use borrow.Author.Tests.{leb-false, lt-leb, not-false}
use mathlib.Core.Path.{◌≡◌, refl, sym, ap, subst, ◌∙◌}
use mathlib.Core.Bool.{Bool, true, false}
use mathlib.Core.Logic.{◌⊎◌, inl, inr}
use mathlib.Core.List.{List, [], ◌∷◌}
use lib.ListN.{length, replicate, length-replicate, get_or-replicate}
use lib.Dec.{leb, eqb}
use lib.Count.{ones_in}
use Rattle.bits.specs.Marks.{pick, is_marked, count_of}
use Rattle.dtml.specs.declared.Tx.{Tx}
use Rattle.dtml.specs.declared.Phase.{Phase}
use Rattle.dtml.specs.declared.Phase.TheVariants.{Fresh, Ready, Committed, Aborted, B1, B2, R1, R2, W1, W2, W3, W4, W5, W6, W7, E1, E2, E3}
use Rattle.dtml.specs.declared.Recovery.{Recovery}
use Rattle.dtml.specs.declared.Recovery.TheVariants.{Idle, C1, C2, C3, C4, C5, C6}
use Rattle.dtml.specs.Table.{Reply, says}
use Rattle.dtml.specs.Store.{Memory, Store, record_at, tx, size, fresh}
use Rattle.dtml.specs.Asked.{begin, read, write, commit, step, flush, crash, recover, recover_up_to, Call, on, sys, stands_at, Did, RecoveryDid, Outcome}
use Rattle.dtml.specs.Lines.{line_at, recovery_line, even, any_mark}
use Rattle.dtml.specs.First.{Check, first}
use Rattle.dtml.specs.Checks.{checks, not_idle}
use Rattle.dtml.specs.Calls.{ask, up_to, system, refused, act, call}
use Rattle.dtml.specs.History.{Tale, Past, last, tale_at, untold, note, noted, World, tell, dawn}
use Rattle.dtml.proofs.Invariant.{Inv, quiet}
use Rattle.dtml.proofs.Words.{true-not-false, pick-case, none-marked}
use Rattle.dtml.proofs.Fit.{up-to-keeps}
use Rattle.dtml.proofs.Roles.{Role, free, owner, ender, role}
use Rattle.dtml.proofs.FreeLines.{AfterLine, free-line}
use Rattle.dtml.proofs.OwnerLines.{owner-line, ender-line}
use Rattle.dtml.proofs.Asks.{begun, asked}
use Rattle.dtml.proofs.SystemCalls.{flush-inv, crash-inv, recovery-inv, up_to-inv}

-- ---- refused, or carried out

-- no check applies
abbrev pub Passes : List Check → Type 0
Passes [] = Unit {0}
Passes (c ∷ cs) = (c.applies ≡ false) × Passes cs

-- every check's number is b or above
abbrev pub all_from : ℕ → List Check → Bool
all_from b [] = true
all_from b (c ∷ cs) = pick (leb b c.number) (all_from b cs) false

pub first-cases : {A : Type 0} (b : ℕ) (cs : List Check) (refuse : ℕ → A) (x : A) → all_from b cs ≡ true
    → ((k : ℕ) × (leb b k ≡ true) × (first cs refuse x ≡ refuse k)) ⊎ (Passes cs × (first cs refuse x ≡ x))
first-cases b [] refuse x h = inr (tt, refl)
first-cases {A} b (c ∷ cs) refuse x h = go (leb b c.number) refl c.applies refl (λ q. first-cases b cs refuse x q)
  where
    here : Bool → A
    here d = pick d (refuse c.number) (first cs refuse x)

    go : (g : Bool) → leb b c.number ≡ g → (d : Bool) → c.applies ≡ d
        → (all_from b cs ≡ true → ((k : ℕ) × (leb b k ≡ true) × (first cs refuse x ≡ refuse k)) ⊎ (Passes cs × (first cs refuse x ≡ x)))
        → ((k : ℕ) × (leb b k ≡ true) × (here c.applies ≡ refuse k)) ⊎ (Passes (c ∷ cs) × (here c.applies ≡ x))
    go false eg d ed rest = absurd (true-not-false h (rw eg))
    go true eg true ed rest = inl (c.number, eg, ap here ed)
    go true eg false ed rest = later (rest (sym (rw eg) ∙ h))
      where
        later : ((k : ℕ) × (leb b k ≡ true) × (first cs refuse x ≡ refuse k)) ⊎ (Passes cs × (first cs refuse x ≡ x))
            → ((k : ℕ) × (leb b k ≡ true) × (here c.applies ≡ refuse k)) ⊎ (Passes (c ∷ cs) × (here c.applies ≡ x))
        later (inl r) = inl (r.0, r.1, ap here ed ∙ r.2)
        later (inr p) = inr ((ed, p.0), ap here ed ∙ p.1)

pub all-refuse : (s : Store) (c : Call) → all_from 9 (checks s c) ≡ true
all-refuse s (on t begin) = refl
all-refuse s (on t (read w)) = refl
all-refuse s (on t (write w v)) = refl
all-refuse s (on t commit) = refl
all-refuse s (on t step) = refl
all-refuse s (sys (flush w)) = refl
all-refuse s (sys crash) = refl
all-refuse s (sys recover) = refl
all-refuse s (sys (recover_up_to b)) = refl

-- a call is refused and changes nothing, or is carried out
pub call-cases : (s : Store) (c : Call)
    → ((k : ℕ) × (leb 9 k ≡ true) × (call s c ≡ refused s k)) ⊎ (Passes (checks s c) × (call s c ≡ act s c))
unfolding call
call-cases s c = first-cases 9 (checks s c) (refused s) (act s c) (all-refuse s c)

-- what is carried out answers below 9

abbrev Small : Reply → Type 0
Small a = leb 9 a.number ≡ false

-- a transaction's line answers 5 at most
abbrev Smaller : Reply → Type 0
Smaller a = leb 6 a.number ≡ false

pub line_small : (m : Memory) (loc : ℕ) (p : Phase) → Smaller (line_at m loc p).reply
unfolding line_at
line_small m loc Fresh = refl
line_small m loc Ready = refl
line_small m loc Committed = refl
line_small m loc Aborted = refl
line_small m loc B1 = refl
line_small m loc B2 = pick-case (λ (d : Did). Smaller d.reply) (even loc) (λ _. refl) (λ _. refl)
line_small m loc (R1 w) = refl
line_small m loc (R2 v) = pick-case (λ (d : Did). Smaller d.reply) (eqb m.glb loc) (λ _. refl) (λ _. refl)
line_small m loc (W1 w v) = pick-case (λ (d : Did). Smaller d.reply) (even loc) (λ _. refl) (λ _. refl)
line_small m loc (W2 w v) = pick-case (λ (d : Did). Smaller d.reply) (eqb m.glb loc) (λ _. refl) (λ _. refl)
line_small m loc (W3 w v) = refl
line_small m loc (W4 w v) = pick-case (λ (d : Did). Smaller d.reply) (is_marked m.marks w) (λ _. refl) (λ _. refl)
line_small m loc (W5 w v) = refl
line_small m loc (W6 w v) = refl
line_small m loc (W7 w) = refl
line_small m loc E1 = pick-case (λ (d : Did). Smaller d.reply) (even loc) (λ _. refl) (λ _. refl)
line_small m loc E2 = refl
line_small m loc E3 = refl

six-nine : (k : ℕ) → leb 6 k ≡ false → leb 9 k ≡ false
six-nine k h = let below = leb-false 6 k h in lt-leb 9 k (omega arith)

recovery-small : (m : Memory) (r : Recovery) → Small (recovery_line m r).reply
unfolding recovery_line
recovery-small m Idle = refl
recovery-small m C1 = pick-case (λ (h : RecoveryDid). Small h.reply) (any_mark m.marks) (λ _. refl) (λ _. refl)
recovery-small m C2 = refl
recovery-small m (C3 w v) = refl
recovery-small m (C4 w v) = refl
recovery-small m (C5 w v) = refl
recovery-small m C6 = refl

up_to-small : (b : ℕ) (a : Reply) (m : Memory) (r : Recovery) → Small a → Small (up_to b a m r).reply
up_to-small b a m r h = up-to-keeps (λ a _ _. Small a) (λ _ m r _. recovery-small m r) b a m r h

pub act-small : (s : Store) (c : Call) → Small (act s c).reply
unfolding act ask system
act-small s (on t begin) = refl
act-small s (on t (read w)) = refl
act-small s (on t (write w v)) = refl
act-small s (on t commit) = refl
act-small s (on t step) =
    six-nine (line_at s.mem (record_at s.txs t).loc (record_at s.txs t).phase).reply.number
    (line_small s.mem (record_at s.txs t).loc (record_at s.txs t).phase)
act-small s (sys (flush w)) = refl
act-small s (sys crash) = refl
act-small s (sys recover) = recovery-small s.mem s.rec
act-small s (sys (recover_up_to b)) = up_to-small b (says 0 0) s.mem s.rec refl

-- the world after a call that is carried out
unfoldable pub acted : World → Call → World
acted w c = record {
  store = (act w.store c).store;
  past = noted w.past (stands_at w.store c) c (act w.store c).reply;
}

-- the world after a call, from the call's outcome
abbrev world_after : World → Call → Outcome → World
world_after w c o = record { store = o.store; past = note w.past (stands_at w.store c) c o.reply }

-- a refused call stands in no history
pub tell-refused : (w : World) (c : Call) (k : ℕ) → leb 9 k ≡ true → call w.store c ≡ refused w.store k → tell w c ≡ w
unfolding tell
tell-refused w c k big e =
    ap (world_after w c) e
    ∙ ap (λ b. record { store = w.store; past = pick b w.past (noted w.past (stands_at w.store c) c (says k 0)) }) big

pub tell-act : (w : World) (c : Call) → call w.store c ≡ act w.store c → tell w c ≡ acted w c
unfolding tell acted
tell-act w c e =
    ap (world_after w c) e
    ∙ ap (λ b. record { store = (act w.store c).store; past = pick b w.past (noted w.past (stands_at w.store c) c (act w.store c).reply) })
    (act-small w.store c)

pub tell-cases : (w : World) (c : Call) → (tell w c ≡ w) ⊎ (Passes (checks w.store c) × (tell w c ≡ acted w c))
tell-cases w c = go (call-cases w.store c)
  where
    go : ((k : ℕ) × (leb 9 k ≡ true) × (call w.store c ≡ refused w.store k)) ⊎ (Passes (checks w.store c) × (call w.store c ≡ act w.store c))
        → (tell w c ≡ w) ⊎ (Passes (checks w.store c) × (tell w c ≡ acted w c))
    go (inl r) = inl (tell-refused w c r.0 r.1 r.2)
    go (inr p) = inr (p.0, tell-act w c p.1)

-- what a call that is carried out keeps, every call keeps
pub tell-keeps : (P : World → Type 0) (w : World) (c : Call) → P w → (Passes (checks w.store c) → P (acted w c)) → P (tell w c)
tell-keeps P w c h f = go (tell-cases w c)
  where
    go : (tell w c ≡ w) ⊎ (Passes (checks w.store c) × (tell w c ≡ acted w c)) → P (tell w c)
    go (inl q) = subst P (sym q) h
    go (inr q) = subst P (sym q.1) (f q.0)

-- ---- the invariant over a schedule

abbrev pub InvW : ℕ → World → Type 0
InvW n w = Inv n w.store.mem w.store.rec w.store.txs w.past.tales (last w.past)

line-inv : (n : ℕ) (w : World) (t : ℕ) → InvW n w → Passes (checks w.store (on t step)) → InvW n (acted w (on t step))
unfolding acted act ask noted
line-inv n w t inv p = go (role n m r ts ks (last past) t ht inv.shape inv.mode i)
  where
    m : Memory
    m = w.store.mem

    r : Recovery
    r = w.store.rec

    ts : List Tx
    ts = w.store.txs

    ks : List Tale
    ks = w.past.tales

    past : Past
    past = w.past

    ht : t < 64
    ht = leb-false 64 t p.1.0

    i : not_idle r ≡ false
    i = p.1.1.0

    go : Role n m r ts ks (last past) t → AfterLine n r ts ks past t (record_at ts t).phase (tale_at ks t) (line_at m (record_at ts t).loc (record_at ts t).phase)
    go (free f) = free-line n m r ts ks past t ht i inv _ _ _ (not-false _ p.1.1.1.0) f.is_free f.put f.nobody
    go (owner odd lock own others) = owner-line n m r ts ks past t ht i inv odd others _ _ _ (not-false _ p.1.1.1.0) lock own
    go (ender c odd end others) = ender-line n m r ts ks past t ht i inv odd others _ _ _ c end

-- a word number that passed its check
below : (n : ℕ) (m : Memory) (w : ℕ) → length m.vol ≡ n → leb (size m) w ≡ false → w < n
below n m w e h = rw e at (leb-false (size m) w h)

act-inv : (n : ℕ) (w : World) (c : Call) → InvW n w → Passes (checks w.store c) → InvW n (acted w c)
unfolding acted act ask noted system
act-inv n w (on t begin) inv p = begun n _ _ _ _ w.past t (leb-false 64 t p.1.0) p.1.1.0 inv (not-false _ p.1.1.1.0)
act-inv n w (on t (read x)) inv p =
    let hx = below n w.store.mem x inv.shape.vol-long p.1.1.0 in
    asked n _ _ _ _ w.past t (leb-false 64 t p.1.0) p.1.1.1.0 inv (read x) (R1 x) (not-false _ p.1.1.1.1.0)
    (λ pl cu. (pl, cu, refl, hx))
    (λ e cl. (e, cl, refl, hx))
act-inv n w (on t (write x v)) inv p =
    let hx = below n w.store.mem x inv.shape.vol-long p.1.1.0 in
    asked n _ _ _ _ w.past t (leb-false 64 t p.1.0) p.1.1.1.0 inv (write x v) (W1 x v) (not-false _ p.1.1.1.1.0)
    (λ pl cu. (pl, cu, refl, hx))
    (λ e cl. (e, cl, refl, hx))
act-inv n w (on t commit) inv p =
    asked n _ _ _ _ w.past t (leb-false 64 t p.1.0) p.1.1.0 inv commit E1 (not-false _ p.1.1.1.0)
    (λ pl cu. (pl, cu))
    (λ e cl. (e, cl))
act-inv n w (on t step) inv p = line-inv n w t inv p
act-inv n w (sys (flush x)) inv p = flush-inv n _ _ _ w.store.mem w.store.rec x inv
act-inv n w (sys crash) inv p = crash-inv n _ _ _ w.store.mem w.store.rec inv
act-inv n w (sys recover) inv p = recovery-inv n _ _ _ w.store.mem w.store.rec inv
act-inv n w (sys (recover_up_to b)) inv p = up_to-inv n _ _ _ b (says 0 0) w.store.mem w.store.rec inv

pub tell-inv : (n : ℕ) (w : World) (c : Call) → InvW n w → InvW n (tell w c)
tell-inv n w c inv = tell-keeps (InvW n) w c inv (act-inv n w c inv)

pub dawn-inv : (n : ℕ) → 0 < n → n ≤ 256 → InvW n (dawn n)
unfolding dawn fresh count_of ones_in
dawn-inv n some few = record {
  shape = record {
    some = some;
    few = few;
    vol-long = length-replicate n 0;
    pers-long = length-replicate n 0;
    old-long = length-replicate n 0;
    marks-long = refl;
    last-long = length-replicate n 0;
    txs-long = refl;
    tales-long = refl;
  };
  durable = λ x hx. rw (unmarked x);
  calm = λ x hx u. refl;
  marks-in = λ x hx. unmarked x;
  mode =
      quiet refl refl refl
      (λ t ht. rw (get_or-replicate 64 t (tx 0 Fresh) (tx 0 Fresh) ht, get_or-replicate 64 t untold untold ht) refl);
}
  where
    unmarked : (x : ℕ) → is_marked (replicate 4 0) x ≡ false
    unmarked x = none-marked (replicate 4 0) refl x
