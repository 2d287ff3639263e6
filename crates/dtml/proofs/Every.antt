-- Every call, by its tests in order: the first that is true refuses, and where none is, what is carried out is what the rule says, and nothing else is.
-- For the allowance: as many lines as the rule has lead, one after the other, to what `up_to` comes to.
use Prim.Native.Nat.{ℕ, zero, suc, ◌+◌, ◌-◌, ◌≤◌, ◌<◌}
use native.Mathlib.Omega.{arith}
use borrow.Author.Tests.{leb-false, leb-true, eqb-false, not-false}
use mathlib.Core.Path.{◌≡◌, refl, sym, ap, subst, ◌∙◌}
use mathlib.Core.Bool.{Bool, true, false}
use mathlib.Core.Logic.{◌⊎◌, inl, inr}
use mathlib.Core.List.{List, [], ◌∷◌}
use lib.ListN.{length, set, replicate, length-map, get_or-map}
use lib.Seq.{ext_get_or}
use lib.Dec.{leb}
use Rattle.bits.specs.Marks.{pick, count_of}
use Rattle.dtml.specs.declared.Tx.{Tx}
use Rattle.dtml.specs.declared.Phase.{Phase}
use Rattle.dtml.specs.declared.Phase.TheVariants.{Fresh, Ready, Committed, Aborted, B1, B2, R1, R2, W1, W2, W3, W4, W5, W6, W7, E1, E2, E3}
use Rattle.dtml.specs.declared.Recovery.{Recovery}
use Rattle.dtml.specs.declared.Recovery.TheVariants.{Idle, C1, C2}
use Rattle.dtml.specs.Table.{Reply, says}
use Rattle.dtml.specs.Store.{Memory, memory, Store, store, size, record_at, tx, fresh}
use Rattle.dtml.specs.Asked.{Ask, begin, read, write, commit, step, flush, crash, recover, recover_up_to, Call, on, sys, Did, did, RecoveryDid, recovery_did, Outcome, outcome}
use Rattle.dtml.specs.Lines.{line_at, recovery_line, stage, is_live, crash_tx, crash_txs, flush_of}
use Rattle.dtml.specs.First.{Check, first}
use Rattle.dtml.specs.Checks.{checks, unfit, unfit_memory, unfit_recovery, not_idle}
use Rattle.dtml.specs.Calls.{ask, up_to, system, act, call, refused, make_fresh}
use Rattle.dtml.specs.Figure1.{RecoveryLine, c1-some, c1-none, c2, c3, c4, c5, c6}
use Rattle.dtml.specs.Rules as rule
use Rattle.dtml.specs.Rules.{by_read, by-write, by-flush, Condition, order, FirstOf, NoneOf, FirstLine, Over, Cut, stays, cut_off, RecoveryLines, Does, invokes, steps, flushes, crashes, recovers, spends, finishes, IsFresh, MadeFresh, made}
use Rattle.dtml.specs.History.{dawn, runs}
use Rattle.dtml.specs.Demands.{after, EveryCall}
use Rattle.dtml.proofs.Words.{true-or-false, true-not-false, is-idle, idle-is, busy-is}
use Rattle.dtml.proofs.Fit.{none, memory-fits, keeps, line-number, up-to-more, up-to-idle}
use Rattle.dtml.proofs.Worlds.{Passes, act-small}
use Rattle.dtml.proofs.Figure.{in-figure, only-figure, in-figure-recovery, only-figure-recovery}
use Rattle.dtml.proofs.Tests.{Tests, at_least, word-past, busy, idle, not-fresh, not-ready, at-no-line, length_tests, wrong-length, unfit-store}

-- ---- the checks, in their order

-- these tests, one by one, are the conditions of these numbers
abbrev Each : List Check → List ℕ → (ℕ → Type 0) → Type 0
Each [] [] P = Unit {0}
Each [] (n ∷ ns) P = ⊥
Each (c ∷ cs) [] P = ⊥
Each (c ∷ cs) (n ∷ ns) P = (c.number ≡ n) × Tests c.applies (P n) × Each cs ns P

abbrev Found : {A : Type 0} → List Check → List ℕ → (ℕ → Type 0) → (ℕ → A) → A → Type 0
Found cs ns P refuse x = ((k : ℕ) × FirstOf ns P k × (first cs refuse x ≡ refuse k)) ⊎ (NoneOf ns P × Passes cs × (first cs refuse x ≡ x))

-- the first that applies is found, or none applies
find : {A : Type 0} (cs : List Check) (ns : List ℕ) (P : ℕ → Type 0) (refuse : ℕ → A) (x : A) → Each cs ns P → Found cs ns P refuse x
find [] [] P refuse x h = inr (tt, tt, refl)
find [] (n ∷ ns) P refuse x h = absurd h
find (c ∷ cs) [] P refuse x h = absurd h
find {A} (c ∷ cs) (n ∷ ns) P refuse x h = go c.applies refl (find cs ns P refuse x h.2)
  where
    here : Bool → A
    here d = pick d (refuse c.number) (first cs refuse x)

    go : (d : Bool) → c.applies ≡ d → Found cs ns P refuse x → Found (c ∷ cs) (n ∷ ns) P refuse x
    go true e rest = inl (n, inl (h.1.holds e, refl), ap here e ∙ ap refuse h.0)
    go false e (inl r) = inl (r.0, inr (h.1.fails e, r.1), ap here e ∙ r.2)
    go false e (inr r) = inr ((h.1.fails e, r.0), (e, r.1), ap here e ∙ r.2)

-- no two numbers are the first, and none is where no condition holds
first-same : (ns : List ℕ) (P : ℕ → Type 0) (j k : ℕ) → FirstOf ns P j → FirstOf ns P k → j ≡ k
first-same [] P j k a b = absurd a
first-same (n ∷ ns) P j k (inl a) (inl b) = a.1 ∙ sym b.1
first-same (n ∷ ns) P j k (inl a) (inr b) = absurd (b.0 a.0)
first-same (n ∷ ns) P j k (inr a) (inl b) = absurd (a.0 b.0)
first-same (n ∷ ns) P j k (inr a) (inr b) = first-same ns P j k a.1 b.1

none_first : (ns : List ℕ) (P : ℕ → Type 0) (k : ℕ) → NoneOf ns P → FirstOf ns P k → ⊥
none_first [] P k a b = b
none_first (n ∷ ns) P k a (inl b) = a.0 b.0
none_first (n ∷ ns) P k a (inr b) = none_first ns P k a.1 b.1

each-check : (s : Store) (c : Call) → Each (checks s c) (order c) (Condition s c)
each-check s (on t begin) =
    ((refl, unfit-store s, (refl, at_least 64 t, (refl, busy s.rec, (refl, not-fresh (record_at s.txs t).phase, tt)))))
each-check s (on t (read w)) =
    (refl, unfit-store s, (refl, at_least 64 t, (refl, word-past (size s.mem) (on t (read w)) (by_read t refl), (refl, busy s.rec, (refl, not-ready (record_at s.txs t).phase, tt)))))
each-check s (on t (write w v)) =
    (refl, unfit-store s, (refl, at_least 64 t, (refl, word-past (size s.mem) (on t (write w v)) (by-write t v refl), (refl, busy s.rec, (refl, not-ready (record_at s.txs t).phase, tt)))))
each-check s (on t commit) =
    (refl, unfit-store s, (refl, at_least 64 t, (refl, busy s.rec, (refl, not-ready (record_at s.txs t).phase, tt))))
each-check s (on t step) =
    (refl, unfit-store s, (refl, at_least 64 t, (refl, busy s.rec, (refl, at-no-line (record_at s.txs t).phase, tt))))
each-check s (sys (flush w)) = (refl, unfit-store s, (refl, word-past (size s.mem) (sys (flush w)) (by-flush refl), tt))
each-check s (sys crash) = (refl, unfit-store s, tt)
each-check s (sys recover) = (refl, unfit-store s, (refl, idle s.rec, tt))
each-check s (sys (recover_up_to b)) = (refl, unfit-store s, (refl, idle s.rec, tt))

-- a call is refused by the first number whose condition holds, or is carried out
abbrev Cases : Store → Call → Type 0
Cases s c = ((k : ℕ) × FirstOf (order c) (Condition s c) k × (call s c ≡ refused s k)) ⊎ (NoneOf (order c) (Condition s c) × Passes (checks s c) × (call s c ≡ act s c))

found : (s : Store) (c : Call) → Cases s c
unfolding call
found s c = find (checks s c) (order c) (Condition s c) (refused s) (act s c) (each-check s c)

-- every number of an order is 9 or above
abbrev from_nine : List ℕ → Bool
from_nine [] = true
from_nine (n ∷ ns) = pick (leb 9 n) (from_nine ns) false

orders : (c : Call) → from_nine (order c) ≡ true
orders (on t begin) = refl
orders (on t (read w)) = refl
orders (on t (write w v)) = refl
orders (on t commit) = refl
orders (on t step) = refl
orders (sys (flush w)) = refl
orders (sys crash) = refl
orders (sys recover) = refl
orders (sys (recover_up_to b)) = refl

nine-on : (ns : List ℕ) (P : ℕ → Type 0) (k : ℕ) → from_nine ns ≡ true → FirstOf ns P k → 9 ≤ k
nine-on [] P k h f = absurd f
nine-on (n ∷ ns) P k h f = go (leb 9 n) refl h f (nine-on ns P k)
  where
    go : (d : Bool) → leb 9 n ≡ d → pick d (from_nine ns) false ≡ true → FirstOf (n ∷ ns) P k → (from_nine ns ≡ true → FirstOf ns P k → 9 ≤ k) → 9 ≤ k
    go false e h f rest = absurd (true-not-false h refl)
    go true e h (inl f) rest = let z = leb-true 9 n e in let y = f.1 in omega arith
    go true e h (inr f) rest = rest h f.1

-- ---- a crash

ended : (p : Phase) → is_live (stage p) ≡ false → Over p
ended Fresh e = inl refl
ended Ready e = absurd (true-not-false refl e)
ended Committed e = inr (inl refl)
ended Aborted e = inr (inr refl)
ended B1 e = absurd (true-not-false refl e)
ended B2 e = absurd (true-not-false refl e)
ended (R1 w) e = absurd (true-not-false refl e)
ended (R2 v) e = absurd (true-not-false refl e)
ended (W1 w v) e = absurd (true-not-false refl e)
ended (W2 w v) e = absurd (true-not-false refl e)
ended (W3 w v) e = absurd (true-not-false refl e)
ended (W4 w v) e = absurd (true-not-false refl e)
ended (W5 w v) e = absurd (true-not-false refl e)
ended (W6 w v) e = absurd (true-not-false refl e)
ended (W7 w) e = absurd (true-not-false refl e)
ended E1 e = absurd (true-not-false refl e)
ended E2 e = absurd (true-not-false refl e)
ended E3 e = absurd (true-not-false refl e)

not_live : (p : Phase) → Over p → is_live (stage p) ≡ false
not_live p (inl e) = ap (λ x. is_live (stage x)) e
not_live p (inr (inl e)) = ap (λ x. is_live (stage x)) e
not_live p (inr (inr e)) = ap (λ x. is_live (stage x)) e

cut-tx : (t : Tx) → Cut t (crash_tx t)
cut-tx t = go (is_live (stage t.phase)) refl
  where
    go : (d : Bool) → is_live (stage t.phase) ≡ d → Cut t (tx t.loc (pick (is_live (stage t.phase)) Aborted t.phase))
    go true e = cut_off (λ o. true-not-false e (not_live t.phase o)) (ap (λ d. tx t.loc (pick d Aborted t.phase)) e)
    go false e = stays (ended t.phase e) (ap (λ d. tx t.loc (pick d Aborted t.phase)) e)

only-cut : (t u : Tx) → Cut t u → u ≡ crash_tx t
only-cut t u (stays o q) = q ∙ sym (ap (λ d. tx t.loc (pick d Aborted t.phase)) (not_live t.phase o))
only-cut t u (cut_off f q) = go (is_live (stage t.phase)) refl
  where
    go : (d : Bool) → is_live (stage t.phase) ≡ d → u ≡ tx t.loc (pick (is_live (stage t.phase)) Aborted t.phase)
    go true e = q ∙ sym (ap (λ d. tx t.loc (pick d Aborted t.phase)) e)
    go false e = absurd (f (ended t.phase e))

crashed-at : (ts : List Tx) (t : ℕ) → record_at (crash_txs ts) t ≡ crash_tx (record_at ts t)
unfolding crash_txs
crashed-at ts t = get_or-map crash_tx ts t (tx 0 Fresh)

crashed-length : (ts : List Tx) → length (crash_txs ts) ≡ length ts
unfolding crash_txs
crashed-length ts = length-map ts crash_tx

only-crashed : (ts us : List Tx) → length us ≡ length ts → ((t : ℕ) → Cut (record_at ts t) (record_at us t)) → us ≡ crash_txs ts
only-crashed ts us l f =
    ext_get_or (tx 0 Fresh) us (crash_txs ts) (l ∙ sym (crashed-length ts)) (λ t _. only-cut (record_at ts t) (record_at us t) (f t) ∙ sym (crashed-at ts t))

-- ---- recovery

line-busy : (m : Memory) (r : Recovery) (h : RecoveryDid) → RecoveryLine m r h → not_idle r ≡ true
line-busy m r h (c1-some w e s q) = ap not_idle e
line-busy m r h (c1-none e s q) = ap not_idle e
line-busy m r h (c2 w e s b q) = ap not_idle e
line-busy m r h (c3 w v e q) = ap not_idle e
line-busy m r h (c4 w v e q) = ap not_idle e
line-busy m r h (c5 w v e q) = ap not_idle e
line-busy m r h (c6 e q) = ap not_idle e

-- recovery of a fit store is not at C2 with no mark
marked-C2 : (m : Memory) (r : Recovery) → unfit_memory m r ≡ false → r ≡ C2 → count_of m.marks ≡ 0 → ⊥
marked-C2 m r f e = fit-C2 r e (memory-fits m r f).recovery-in
  where
    fit-C2 : (r : Recovery) → r ≡ C2 → unfit_recovery (length m.vol) m.marks r ≡ false → count_of m.marks ≡ 0 → ⊥
    fit-C2 r e h c = eqb-false (count_of m.marks) 0 (subst (λ x. unfit_recovery (length m.vol) m.marks x ≡ false) e h) c

-- one line, of those that are allowed
one_line : (b : ℕ) (a : Reply) (m : Memory) (r : Recovery) (h : RecoveryDid) → RecoveryLine m r h
    → up_to (suc b) a m r ≡ up_to b (says (pick (not_idle h.rec) 0 6) (a.value + 1)) h.mem h.rec
one_line b a m r h l =
    let i = line-busy m r h l in
    let e = only-figure-recovery m r h l in
    up-to-more b a m r i
    ∙ ap (λ (x : RecoveryDid). up_to b (says x.reply.number (a.value + 1)) x.mem x.rec) (sym e)
    ∙ ap (λ (x : Reply). up_to b (says x.number (a.value + 1)) h.mem h.rec)
    (ap (λ (x : RecoveryDid). x.reply) e ∙ line-number m r i ∙ ap (λ (x : RecoveryDid). says (pick (not_idle x.rec) 0 6) 0) (sym e))

-- so many lines, of those that are allowed, lead to where the rest goes on
many-lines : (k b : ℕ) (a : Reply) (m : Memory) (r : Recovery) (m' : Memory) (r' : Recovery) → RecoveryLines (suc k) m r m' r'
    → up_to (suc k + b) a m r ≡ up_to b (says (pick (not_idle r') 0 6) (a.value + suc k)) m' r'
many-lines zero b a m r m' r' ls =
    ap (λ c. up_to c a m r) (omega arith)
    ∙ one_line b a m r ls.0 ls.1
    ∙ ap (λ (x : Memory). up_to b (says (pick (not_idle ls.0.rec) 0 6) (a.value + 1)) x ls.0.rec) (sym ls.2.0)
    ∙ ap (λ (x : Recovery). up_to b (says (pick (not_idle x) 0 6) (a.value + 1)) m' x) (sym ls.2.1)
many-lines (suc k) b a m r m' r' ls =
    ap (λ c. up_to c a m r) (omega arith)
    ∙ one_line (suc k + b) a m r ls.0 ls.1
    ∙ many-lines k b (says (pick (not_idle ls.0.rec) 0 6) (a.value + 1)) ls.0.mem ls.0.rec m' r' ls.2
    ∙ ap (λ (n : ℕ). up_to b (says (pick (not_idle r') 0 6) n) m' r') (omega arith)

-- from a fit store's recovery there are as many lines as are allowed, or fewer up to and with C6
abbrev Lines : ℕ → Memory → Recovery → Type 0
Lines b m r = ((k : ℕ) × (m' : Memory) × (k ≤ b) × RecoveryLines k m r m' Idle) ⊎ ((m' : Memory) × (r' : Recovery) × RecoveryLines b m r m' r' × (r' ≡ Idle → ⊥))

some-lines : (b : ℕ) (m : Memory) (r : Recovery) → not_idle r ≡ true → unfit_memory m r ≡ false → Lines b m r
some-lines zero m r i f = inr (m, r, (refl, refl), λ e. true-not-false i (is-idle r e))
some-lines (suc b) m r i f = go (some-lines b (recovery_line m r).mem (recovery_line m r).rec) (true-or-false (not_idle h.rec))
  where
    h : RecoveryDid
    h = recovery_line m r

    l : RecoveryLine m r h
    l = in-figure-recovery m r i (marked-C2 m r f)

    go : (not_idle h.rec ≡ true → unfit_memory h.mem h.rec ≡ false → Lines b h.mem h.rec) → (not_idle h.rec ≡ true) ⊎ (not_idle h.rec ≡ false) → Lines (suc b) m r
    go rest (inr e) = inl (1, h.mem, omega arith, (h, l, (refl, sym (idle-is h.rec e))))
    go rest (inl e) = on-from (rest e (keeps m r f))
      where
        on-from : Lines b h.mem h.rec → Lines (suc b) m r
        on-from (inl x) = inl (suc x.0, x.1, (let z = x.2 in omega arith), (h, l, x.3))
        on-from (inr x) = inr (x.0, x.1, (h, l, x.2), x.3)

spent : (b : ℕ) (m : Memory) (r : Recovery) (m' : Memory) (r' : Recovery) → RecoveryLines b m r m' r' → (r' ≡ Idle → ⊥) → up_to b (says 0 0) m r ≡ recovery_did (says 0 b) m' r'
unfolding up_to
spent zero m r m' r' ls f = ap (λ (x : Memory). recovery_did (says 0 0) x r) (sym ls.0) ∙ ap (recovery_did (says 0 0) m') (sym ls.1)
spent (suc k) m r m' r' ls f =
    let all : suc k ≡ suc k + 0 = omega arith in
    let value : 0 + suc k ≡ suc k = omega arith in
    ap (λ b. up_to b (says 0 0) m r) all
    ∙ many-lines k 0 (says 0 0) m r m' r' ls
    ∙ ap (λ d. recovery_did (says (pick d 0 6) (0 + suc k)) m' r') (busy-is r' f)
    ∙ ap (λ n. recovery_did (says 0 n) m' r') value

finished : (b k : ℕ) (m : Memory) (r : Recovery) (m' : Memory) → not_idle r ≡ true → k ≤ b → RecoveryLines k m r m' Idle → up_to b (says 0 0) m r ≡ recovery_did (says 6 k) m' Idle
finished b zero m r m' i h ls = absurd (true-not-false i (is-idle r (sym ls.1)))
finished b (suc k) m r m' i h ls =
    let all : b ≡ suc k + (b - suc k) = omega arith in
    let value : 0 + suc k ≡ suc k = omega arith in
    ap (λ n. up_to n (says 0 0) m r) all
    ∙ many-lines k (b - suc k) (says 0 0) m r m' Idle ls
    ∙ up-to-idle (b - suc k) (says 6 (0 + suc k)) m' Idle refl
    ∙ ap (λ n. recovery_did (says 6 n) m' Idle) value

-- ---- what is carried out

module _ (s : Store) where
  abbrev place : (t : ℕ) → Did → Outcome
  place t d = outcome d.reply (store d.mem s.rec (set s.txs t d.tx))

  only-first : (t : ℕ) (a : Ask) (p : Phase) → FirstLine a p → act s (on t a) ≡ outcome (says 0 0) (store s.mem s.rec (set s.txs t (tx (record_at s.txs t).loc p)))
  unfolding act ask
  only-first t begin p e = ap (λ x. place t (did (says 0 0) s.mem (tx (record_at s.txs t).loc x))) (sym e)
  only-first t (read w) p e = ap (λ x. place t (did (says 0 0) s.mem (tx (record_at s.txs t).loc x))) (sym e)
  only-first t (write w v) p e = ap (λ x. place t (did (says 0 0) s.mem (tx (record_at s.txs t).loc x))) (sym e)
  only-first t commit p e = ap (λ x. place t (did (says 0 0) s.mem (tx (record_at s.txs t).loc x))) (sym e)
  only-first t step p e = absurd e

  -- the rule allows nothing but what is carried out
  only : (c : Call) (o : Outcome) → (s.rec ≡ Idle → ⊥) ⊎ ((b : ℕ) → c ≡ sys (recover_up_to b) → ⊥) → Does s c o → o ≡ act s c
  unfolding act ask system flush_of
  only c o i (invokes t a p e l q) = q ∙ sym (only-first t a p l) ∙ ap (act s) (sym e)
  only c o i (steps t d e l q) = q ∙ ap (place t) (only-figure _ _ _ d l) ∙ ap (act s) (sym e)
  only c o i (flushes w e q) = q ∙ ap (act s) (sym e)
  only c o i (crashes e a m r l f) = same a m r (only-crashed s.txs o.store.txs l f) ∙ ap (act s) (sym e)
    where
      same : o.reply ≡ says 0 0 → o.store.mem ≡ memory s.mem.pers s.mem.pers s.mem.old s.mem.marks 0 → o.store.rec ≡ C1
          → o.store.txs ≡ crash_txs s.txs → o ≡ act s (sys crash)
      same a m r ts =
          ap (λ x. outcome x o.store) a
          ∙ ap (λ x. outcome (says 0 0) (store x o.store.rec o.store.txs)) m
          ∙ ap (λ x. outcome (says 0 0) (store (memory s.mem.pers s.mem.pers s.mem.old s.mem.marks 0) x o.store.txs)) r
          ∙ ap (λ x. outcome (says 0 0) (store (memory s.mem.pers s.mem.pers s.mem.old s.mem.marks 0) C1 x)) ts
  only c o i (recovers h e l q) =
      q ∙ ap (λ (x : RecoveryDid). outcome x.reply (store x.mem x.rec s.txs)) (only-figure-recovery _ _ h l) ∙ ap (act s) (sym e)
  only c o i (spends b m r e ls f q) =
      q ∙ ap (λ (x : RecoveryDid). outcome x.reply (store x.mem x.rec s.txs)) (sym (spent b s.mem s.rec m r ls f)) ∙ ap (act s) (sym e)
  only c o (inl i) (finishes b k m e h ls q) =
      q
      ∙ ap (λ (x : RecoveryDid). outcome x.reply (store x.mem x.rec s.txs)) (sym (finished b k s.mem s.rec m (busy-is _ i) h ls))
      ∙ ap (act s) (sym e)
  only c o (inr i) (finishes b k m e h ls q) = absurd (i b e)

  fit-memory : unfit s ≡ false → unfit_memory s.mem s.rec ≡ false
  unfolding unfit
  fit-memory h = (none (unfit_memory s.mem s.rec) _ h).0

  up-to : (b : ℕ) → not_idle s.rec ≡ true → unfit s ≡ false → Does s (sys (recover_up_to b)) (act s (sys (recover_up_to b)))
  up-to b i f = go (some-lines b s.mem s.rec i (fit-memory f))
    where
      by-rule : (o : Outcome) → Does s (sys (recover_up_to b)) o → Does s (sys (recover_up_to b)) (act s (sys (recover_up_to b)))
      by-rule o d = subst (Does s (sys (recover_up_to b))) (only (sys (recover_up_to b)) o (inl (λ e. true-not-false i (is-idle s.rec e))) d) d

      go : Lines b s.mem s.rec → Does s (sys (recover_up_to b)) (act s (sys (recover_up_to b)))
      go (inl x) = by-rule _ (finishes b x.0 x.1 refl x.2 x.3 refl)
      go (inr x) = by-rule _ (spends b x.0 x.1 refl x.2 x.3 refl)

  does : (c : Call) → Passes (checks s c) → Does s c (act s c)
  unfolding act ask system flush_of
  does (on t begin) p = invokes t begin B1 refl refl refl
  does (on t (read w)) p = invokes t (read w) (R1 w) refl refl refl
  does (on t (write w v)) p = invokes t (write w v) (W1 w v) refl refl refl
  does (on t commit) p = invokes t commit E1 refl refl refl
  does (on t step) p = steps t (line_at s.mem (record_at s.txs t).loc (record_at s.txs t).phase) refl (in-figure _ _ _ (not-false _ p.1.1.1.0)) refl
  does (sys (flush w)) p = flushes w refl refl
  does (sys crash) p = crashes refl refl refl refl (crashed-length s.txs) (λ t. subst (Cut (record_at s.txs t)) (sym (crashed-at s.txs t)) (cut-tx (record_at s.txs t)))
  does (sys recover) p =
      recovers (recovery_line s.mem s.rec) refl (in-figure-recovery s.mem s.rec (not-false _ p.1.0) (marked-C2 s.mem s.rec (fit-memory p.0))) refl
  does (sys (recover_up_to b)) p = up-to b (not-false _ p.1.0) p.0

  -- where a call with an allowance is not refused, recovery is not idle
  not-idle : (c : Call) → Passes (checks s c) → (s.rec ≡ Idle → ⊥) ⊎ ((b : ℕ) → c ≡ sys (recover_up_to b) → ⊥)
  not-idle (on t a) p = inr (λ b e. let z : ◌≡◌ {A = ℕ} 0 1 = cc in omega arith)
  not-idle (sys (flush w)) p = inr (λ b e. let z : ◌≡◌ {A = ℕ} 0 1 = cc in omega arith)
  not-idle (sys crash) p = inr (λ b e. let z : ◌≡◌ {A = ℕ} 0 1 = cc in omega arith)
  not-idle (sys recover) p = inr (λ b e. let z : ◌≡◌ {A = ℕ} 0 1 = cc in omega arith)
  not-idle (sys (recover_up_to b)) p = inl (λ e. true-not-false (not-false _ p.1.0) (is-idle s.rec e))

-- ---- making fresh

fresh-is : (n : ℕ) → IsFresh n (fresh n)
unfolding fresh
fresh-is n = record { vol = refl; pers = refl; old = refl; marks = refl; count = refl; records = refl; recovery = refl }

only-fresh : (n : ℕ) (s : Store) → IsFresh n s → s ≡ fresh n
unfolding fresh
only-fresh n s f =
    ap (λ x. store (memory x s.mem.pers s.mem.old s.mem.marks s.mem.glb) s.rec s.txs) f.vol
    ∙ ap (λ x. store (memory (replicate n 0) x s.mem.old s.mem.marks s.mem.glb) s.rec s.txs) f.pers
    ∙ ap (λ x. store (memory (replicate n 0) (replicate n 0) x s.mem.marks s.mem.glb) s.rec s.txs) f.old
    ∙ ap (λ x. store (memory (replicate n 0) (replicate n 0) (replicate n 0) x s.mem.glb) s.rec s.txs) f.marks
    ∙ ap (λ x. store (memory (replicate n 0) (replicate n 0) (replicate n 0) (replicate 4 0) x) s.rec s.txs) f.count
    ∙ ap (λ x. store (memory (replicate n 0) (replicate n 0) (replicate n 0) (replicate 4 0) 0) x s.txs) f.recovery
    ∙ ap (λ x. store (memory (replicate n 0) (replicate n 0) (replicate n 0) (replicate 4 0) 0) Idle x) f.records

starts : (n : ℕ) → IsFresh n (after n []).store
unfolding runs dawn
starts n = fresh-is n

made-fresh : (s : Store) → MadeFresh s (make_fresh s) × ((o : Outcome) → MadeFresh s o → o ≡ make_fresh s)
unfolding make_fresh
made-fresh s = (by-rule (length_tests s) refl, nothing-else)
  where
    makes : Bool → Outcome
    makes d = pick d (refused s 9) (outcome (says 0 0) (fresh (size s.mem)))

    by-rule : (d : Bool) → length_tests s ≡ d → MadeFresh s (makes (length_tests s))
    by-rule true e = rule.refused ((wrong-length s).holds e) (ap makes e)
    by-rule false e = subst (MadeFresh s) (sym (ap makes e)) (made ((wrong-length s).fails e) refl (fresh-is (size s.mem)))

    nothing-else : (o : Outcome) → MadeFresh s o → o ≡ makes (length_tests s)
    nothing-else o (made f a q) = go (length_tests s) refl
      where
        go : (d : Bool) → length_tests s ≡ d → o ≡ makes (length_tests s)
        go true e = absurd (f ((wrong-length s).holds e))
        go false e = ap (λ x. outcome x o.store) a ∙ ap (outcome (says 0 0)) (only-fresh (size s.mem) o.store q) ∙ sym (ap makes e)
    nothing-else o (rule.refused w q) = go (length_tests s) refl
      where
        go : (d : Bool) → length_tests s ≡ d → o ≡ makes (length_tests s)
        go true e = q ∙ sym (ap makes e)
        go false e = absurd ((wrong-length s).fails e w)

-- ---- every call

pub every_call : EveryCall
every_call = record { either = λ s c. cases s c (found s c); refused = λ s c k. (back s c k (found s c), λ f. to s c k f (found s c)); taken = taken; fresh = made-fresh; start = starts }
  where
    cases : (s : Store) (c : Call) → Cases s c → ((k : ℕ) × FirstOf (order c) (Condition s c) k) ⊎ NoneOf (order c) (Condition s c)
    cases s c (inl r) = inl (r.0, r.1)
    cases s c (inr p) = inr p.0

    to : (s : Store) (c : Call) (k : ℕ) → FirstOf (order c) (Condition s c) k → Cases s c → (9 ≤ k) × (call s c ≡ refused s k)
    to s c k f (inl r) = (nine-on (order c) (Condition s c) k (orders c) f, r.2 ∙ ap (refused s) (first-same (order c) (Condition s c) r.0 k r.1 f))
    to s c k f (inr p) = absurd (none_first (order c) (Condition s c) k p.0 f)

    back : (s : Store) (c : Call) (k : ℕ) → Cases s c → (9 ≤ k) × (call s c ≡ refused s k) → FirstOf (order c) (Condition s c) k
    back s c k (inl r) h = subst (FirstOf (order c) (Condition s c)) (ap (λ (o : Outcome). o.reply.number) (sym r.2 ∙ h.1)) r.1
    back s c k (inr p) h =
        let same : (act s c).reply.number ≡ k = ap (λ (o : Outcome). o.reply.number) (sym p.2 ∙ h.1) in
        let small : (act s c).reply.number < 9 = leb-false 9 _ (act-small s c) in
        let big = h.0 in
        absurd (omega arith)

    taken : (s : Store) (c : Call) → NoneOf (order c) (Condition s c) → Does s c (call s c) × ((o : Outcome) → Does s c o → o ≡ call s c)
    taken s c n = go (found s c)
      where
        go : Cases s c → Does s c (call s c) × ((o : Outcome) → Does s c o → o ≡ call s c)
        go (inl r) = absurd (none_first (order c) (Condition s c) r.0 n r.1)
        go (inr p) = (subst (Does s c) (sym p.2) (does s c p.1), λ o d. only s c o (not-idle s c p.1) d ∙ sym p.2)
