-- Recovery's cost, by the lines left: five for each word in the log and two, less what is done at the word in hand. Every call but a crash keeps the sum
-- of lines carried out and lines left; a crash adds at most four, and five for each word of the writer that it cuts.
use Prim.Native.Nat.{ℕ, zero, suc, ◌+◌, ◌-◌, ◌*◌, ◌≤◌, ◌<◌, min}
use native.Mathlib.Numerals.{add-one}
use native.Mathlib.Omega.{arith}
use borrow.Author.Tests.{le-leb, lt-leb, not-false, eqb-true}
use mathlib.Core.Path.{◌≡◌, refl, sym, ap, ap₂, subst, ◌∙◌}
use mathlib.Core.Bool.{Bool, true, false}
use mathlib.Core.List.{List, [], ◌∷◌}
use lib.ListN.{length, replicate}
use lib.Dec.{leb, leb-suc-suc}
use Rattle.bits.specs.Marks.{pick, is_marked, count_of}
use Rattle.bits.proofs.Laws.{laws}
use Rattle.dtml.specs.declared.Tx.{Tx}
use Rattle.dtml.specs.declared.Recovery.{Recovery}
use Rattle.dtml.specs.declared.Recovery.TheVariants.{Idle, C1, C2, C3, C4, C5, C6}
use Rattle.dtml.specs.Table.{Reply, says}
use Rattle.dtml.specs.Store.{Memory, store}
use Rattle.dtml.specs.Asked.{begin, read, write, commit, step, flush, crash, recover, recover_up_to, Call, on, sys, RecoveryDid}
use Rattle.dtml.specs.Lines.{recovery_line, any_mark}
use Rattle.dtml.specs.Checks.{checks, unfit, not_idle}
use Rattle.dtml.specs.Calls.{up_to, one_more_line, system, act, call}
use Rattle.dtml.specs.History.{Tale, tale_at, last, live_words, noted, World, tell, runs}
use Rattle.dtml.specs.Demands.{NoCrash}
use Rattle.dtml.proofs.Invariant.{Recovers, Mode, quiet, writing, sealed, recovering, Inv}
use Rattle.dtml.proofs.Words.{true-not-false, pick-case}
use Rattle.dtml.proofs.Fit.{line-number, up-to-more, up-to-idle}
use Rattle.dtml.proofs.SystemCalls.{in-recovery, recovery-inv}
use Rattle.dtml.proofs.Low.{LowW, tell-low}
use Rattle.dtml.proofs.Fitness.{never-unfit}
use Rattle.dtml.proofs.Worlds.{Passes, InvW, acted, tell-act, tell-keeps, tell-inv}

-- the recovery lines left, with c words in the log
abbrev pub left : Recovery → ℕ → ℕ
left Idle c = 0
left C1 c = 5 * c + 2
left C2 c = 5 * c + 1
left (C3 w v) c = 5 * c
left (C4 w v) c = 5 * c - 1
left (C5 w v) c = 5 * c - 2
left C6 c = 1

abbrev pub left_in : Memory → Recovery → ℕ
left_in m r = left r (count_of m.marks)

pub idle-left : (r : Recovery) (c : ℕ) → not_idle r ≡ false → left r c ≡ 0
idle-left Idle c h = refl
idle-left C1 c h = absurd (true-not-false refl h)
idle-left C2 c h = absurd (true-not-false refl h)
idle-left (C3 w v) c h = absurd (true-not-false refl h)
idle-left (C4 w v) c h = absurd (true-not-false refl h)
idle-left (C5 w v) c h = absurd (true-not-false refl h)
idle-left C6 c h = absurd (true-not-false refl h)

-- a marked word is counted
some-marked : (k : List ℕ) (w : ℕ) → is_marked k w ≡ true → 0 < count_of k
some-marked k w h = let z = laws.count-unmark k w h in omega arith

module _ (n : ℕ) (m : Memory) (l : List ℕ) where
  -- one line takes one from the lines left
  line-left : (r : Recovery) → not_idle r ≡ true → Recovers n m l r → left_in (recovery_line m r).mem (recovery_line m r).rec + 1 ≡ left_in m r
  unfolding recovery_line
  line-left Idle a h = absurd h
  line-left C1 a h =
      pick-case (λ (d : RecoveryDid). left_in d.mem d.rec + 1 ≡ left_in m C1) (any_mark m.marks)
      (λ e. omega arith)
      (λ e. let z : count_of m.marks ≡ 0 = eqb-true (count_of m.marks) 0 (not-false _ e) in omega arith)
  line-left C2 a h = omega arith
  line-left (C3 w v) a h = let z = some-marked m.marks w h.1 in omega arith
  line-left (C4 w v) a h = let z = some-marked m.marks w h.0.1 in omega arith
  line-left (C5 w v) a h = let z = laws.count-unmark m.marks w h.0.1 in omega arith
  line-left C6 a h = omega arith

  -- at most four less than after a crash
  left_near : (r : Recovery) → Recovers n m l r → 5 * count_of m.marks + 2 ≤ left_in m r + 4
  left_near Idle h = absurd h
  left_near C1 h = omega arith
  left_near C2 h = omega arith
  left_near (C3 w v) h = omega arith
  left_near (C4 w v) h = omega arith
  left_near (C5 w v) h = omega arith
  left_near C6 h = omega arith

-- ---- the allowance

says_same : {a b v w : ℕ} → a ≡ b → v ≡ w → says a v ≡ says b w
says_same p q = ap₂ says p q

leb-suc : (a b c : ℕ) → a + 1 ≡ c → leb c (suc b) ≡ leb a b
leb-suc a b c e = ap (λ (x : ℕ). leb x (suc b)) (sym e ∙ add-one a) ∙ leb-suc-suc a b

-- what a run of lines answers, and that it takes as many from the lines left
abbrev Run : ℕ → ℕ → Memory → Recovery → RecoveryDid → Type 0
Run b v m r h =
    (h.reply ≡ says (pick (leb (left_in m r) b) 6 0) (v + min b (left_in m r)))
    × (min b (left_in m r) + left_in h.mem h.rec ≡ left_in m r)

module _ (n : ℕ) (ts : List Tx) (ks : List Tale) (l : List ℕ) where
  -- a line of a store in which recovery is under way
  pub inv_left : (m : Memory) (r : Recovery) → Inv n m r ts ks l → not_idle r ≡ true
      → left_in (recovery_line m r).mem (recovery_line m r).rec + 1 ≡ left_in m r
  inv_left m r inv a = line-left n m l r a (in-recovery n ts ks l m r a inv).0

  pub up-to-run : (b v : ℕ) (m : Memory) (r : Recovery) → Inv n m r ts ks l → not_idle r ≡ true → Run b v m r (up_to b (says 0 v) m r)
  unfolding up_to
  up-to-run zero v m r inv a =
      let z = inv_left m r inv a in
      (says_same (rw (lt-leb (left_in m r) 0 (omega arith))) (omega arith), omega arith)
  up-to-run (suc b) v m r inv a =
      subst (Run (suc b) v m r) (sym (up-to-more b (says 0 v) m r a)) (go (not_idle h.rec) refl (up-to-run b (v + 1) h.mem h.rec (recovery-inv n ts ks l m r inv)))
    where
      h : RecoveryDid
      h = recovery_line m r

      one : left_in h.mem h.rec + 1 ≡ left_in m r
      one = inv_left m r inv a

      number : (d : Bool) → not_idle h.rec ≡ d → h.reply.number ≡ pick d 0 6
      number d e = ap (λ x. x.number) (line-number m r a) ∙ ap (λ d. pick d 0 6) e

      go : (d : Bool) → not_idle h.rec ≡ d → (not_idle h.rec ≡ true → Run b (v + 1) h.mem h.rec (up_to b (says 0 (v + 1)) h.mem h.rec))
          → Run (suc b) v m r (one_more_line (up_to b) (says 0 v) h)
      go true e more =
          let o = one in
          let rest : Run b (v + 1) h.mem h.rec (up_to b (says 0 (v + 1)) h.mem h.rec) = more e in
          subst (λ (k : ℕ). Run (suc b) v m r (up_to b (says k (v + 1)) h.mem h.rec)) (sym (number true e)) (
            rest.0 ∙ says_same (ap (λ d. pick d 6 0) (sym (leb-suc (left_in h.mem h.rec) b (left_in m r) one))) (omega arith),
            (let z = rest.1 in omega arith),
          )
      go false e more =
          let o = one in
          let none : left_in h.mem h.rec ≡ 0 = idle-left h.rec (count_of h.mem.marks) e in
          subst (Run (suc b) v m r) (sym (up-to-idle b (says h.reply.number (v + 1)) h.mem h.rec e))
          (says_same (number false e ∙ sym (rw (le-leb (left_in m r) (suc b) (omega arith)))) (omega arith), omega arith)

-- ---- lines carried out and lines left

abbrev is_crash : Call → Bool
is_crash (on t a) = false
is_crash (sys (flush w)) = false
is_crash (sys crash) = true
is_crash (sys recover) = false
is_crash (sys (recover_up_to b)) = false

not-crash : (c : Call) → is_crash c ≡ false → c ≡ sys crash → ⊥
not-crash c f e = true-not-false (ap is_crash e) f

abbrev pub sum : World → ℕ
sum w = w.past.lines + left_in w.store.mem w.store.rec

-- a call that finds recovery idle and leaves it, and adds no line
at_rest : (w : World) (c : Call) → (acted w c).store.rec ≡ w.store.rec → (acted w c).past.lines ≡ w.past.lines → not_idle w.store.rec ≡ false → sum (acted w c) ≡ sum w
at_rest w c e q i =
    let a : left_in w.store.mem w.store.rec ≡ 0 = idle-left w.store.rec _ i in
    let b : left_in (acted w c).store.mem (acted w c).store.rec ≡ 0 = idle-left (acted w c).store.rec _ (ap not_idle e ∙ i) in
    omega arith

-- every call but a crash that is carried out keeps their sum
act-sum : (n : ℕ) (w : World) (c : Call) → (c ≡ sys crash → ⊥) → InvW n w → Passes (checks w.store c) → sum (acted w c) ≡ sum w
unfolding acted act noted system
act-sum n w (on t begin) f inv p = at_rest w (on t begin) refl refl p.1.1.0
act-sum n w (on t (read x)) f inv p = at_rest w (on t (read x)) refl refl p.1.1.1.0
act-sum n w (on t (write x v)) f inv p = at_rest w (on t (write x v)) refl refl p.1.1.1.0
act-sum n w (on t commit) f inv p = at_rest w (on t commit) refl refl p.1.1.0
act-sum n w (on t step) f inv p = at_rest w (on t step) refl refl p.1.1.0
act-sum n w (sys (flush x)) f inv p = refl
act-sum n w (sys crash) f inv p = absurd (f refl)
act-sum n w (sys recover) f inv p =
    let z = inv_left n w.store.txs w.past.tales (last w.past) w.store.mem w.store.rec inv (not-false _ p.1.0) in
    omega arith
act-sum n w (sys (recover_up_to b)) f inv p =
    let z = up-to-run n w.store.txs w.past.tales (last w.past) b 0 w.store.mem w.store.rec inv (not-false _ p.1.0) in
    let y : (up_to b (says 0 0) w.store.mem w.store.rec).reply.value ≡ 0 + min b (left_in w.store.mem w.store.rec) = ap (λ x. x.value) z.0 in
    let x = z.1 in
    omega arith

tell-sum : (n : ℕ) (w : World) (c : Call) → (c ≡ sys crash → ⊥) → InvW n w → sum (tell w c) ≡ sum w
tell-sum n w c f inv = tell-keeps (λ v. sum v ≡ sum w) w c refl (act-sum n w c f inv)

pub runs-sum : (n : ℕ) (w : World) (cs : List Call) → NoCrash cs → InvW n w → sum (runs w cs) ≡ sum w
unfolding runs
runs-sum n w [] f inv = refl
runs-sum n w (c ∷ cs) f inv = runs-sum n (tell w c) cs f.1 (tell-inv n w c inv) ∙ tell-sum n w c f.0 inv

-- ---- the bound

live_at : (ks : List Tale) (t : ℕ) → t < length ks → (tale_at ks t).live ≡ true → length (tale_at ks t).entered ≤ live_words ks
unfolding live_words
live_at [] t h e = omega arith
live_at (k ∷ ks) zero h e = rw e (omega arith)
live_at (k ∷ ks) (suc t) h e = let z = live_at ks t (omega arith) e in omega arith

abbrev Paid : World → Type 0
Paid w = sum w ≤ 5 * w.past.cut + 4 * w.past.crashes

-- a crash pays for the lines that it makes
crash-pays : (n : ℕ) (w : World) → InvW n w → 5 * count_of w.store.mem.marks + 2 ≤ left_in w.store.mem w.store.rec + 5 * live_words w.past.tales + 4
crash-pays n w inv = go inv.mode
  where
    c : ℕ
    c = count_of w.store.mem.marks

    go : Mode n w.store.mem w.store.rec w.store.txs w.past.tales (last w.past) → 5 * c + 2 ≤ left_in w.store.mem w.store.rec + 5 * live_words w.past.tales + 4
    go (quiet i e ev all) = omega (arith, e)
    go (writing o ho i e own others) =
        let z = live_at w.past.tales o (rw inv.shape.tales-long ho) own.0.0 in
        let y = own.0.2 in
        omega arith
    go (sealed o ho i e ev end others) = omega (arith, e)
    go (recovering i h all) = let z = left_near n w.store.mem (last w.past) w.store.rec h in omega arith

act-paid : (n : ℕ) (w : World) (c : Call) → InvW n w → Paid w → Passes (checks w.store c) → Paid (acted w c)
unfolding acted act noted system
act-paid n w (on t begin) inv h p = let z = act-sum n w (on t begin) (not-crash (on t begin) refl) inv p in omega arith
act-paid n w (on t (read x)) inv h p = let z = act-sum n w (on t (read x)) (not-crash (on t (read x)) refl) inv p in omega arith
act-paid n w (on t (write x v)) inv h p = let z = act-sum n w (on t (write x v)) (not-crash (on t (write x v)) refl) inv p in omega arith
act-paid n w (on t commit) inv h p = let z = act-sum n w (on t commit) (not-crash (on t commit) refl) inv p in omega arith
act-paid n w (on t step) inv h p = let z = act-sum n w (on t step) (not-crash (on t step) refl) inv p in omega arith
act-paid n w (sys (flush x)) inv h p = h
act-paid n w (sys crash) inv h p = let z = crash-pays n w inv in omega arith
act-paid n w (sys recover) inv h p = let z = act-sum n w (sys recover) (not-crash (sys recover) refl) inv p in omega arith
act-paid n w (sys (recover_up_to b)) inv h p = let z = act-sum n w (sys (recover_up_to b)) (not-crash (sys (recover_up_to b)) refl) inv p in omega arith

pub runs-paid : (n : ℕ) (w : World) (cs : List Call) → InvW n w → Paid w → Paid (runs w cs)
unfolding runs
runs-paid n w [] inv h = h
runs-paid n w (c ∷ cs) inv h = runs-paid n (tell w c) cs (tell-inv n w c inv) (tell-keeps Paid w c h (act-paid n w c inv h))

-- ---- an allowance is as many single calls

up-to-same : (b : ℕ) (a d : Reply) (m : Memory) (r : Recovery) → ((up_to b a m r).mem ≡ (up_to b d m r).mem) × ((up_to b a m r).rec ≡ (up_to b d m r).rec)
unfolding up_to
up-to-same zero a d m r = (refl, refl)
up-to-same (suc b) a d m Idle = (refl, refl)
up-to-same (suc b) a d m C1 = up-to-same b _ _ _ _
up-to-same (suc b) a d m C2 = up-to-same b _ _ _ _
up-to-same (suc b) a d m (C3 w v) = up-to-same b _ _ _ _
up-to-same (suc b) a d m (C4 w v) = up-to-same b _ _ _ _
up-to-same (suc b) a d m (C5 w v) = up-to-same b _ _ _ _
up-to-same (suc b) a d m C6 = up-to-same b _ _ _ _

-- recovery is not idle and the store is fit, so a recovery call is carried out
pub recovers : (w : World) → unfit w.store ≡ false → not_idle w.store.rec ≡ true → call w.store (sys recover) ≡ act w.store (sys recover)
unfolding call
recovers w f a = rw (f, a)

pub recovers-up_to : (w : World) (b : ℕ) → unfit w.store ≡ false → not_idle w.store.rec ≡ true
    → call w.store (sys (recover_up_to b)) ≡ act w.store (sys (recover_up_to b))
unfolding call
recovers-up_to w b f a = rw (f, a)

-- the world with another memory, recovery and number of recovery lines
abbrev recovered_to : World → Memory → Recovery → ℕ → World
recovered_to w m r k = record {
  store = store m r w.store.txs;
  past = record {
    first = w.past.first;
    later = w.past.later;
    tales = w.past.tales;
    crashes = w.past.crashes;
    lines = k;
    cut = w.past.cut;
  };
}

same-recovered : (w : World) {m m' : Memory} {r r' : Recovery} {k k' : ℕ} → m ≡ m' → r ≡ r' → k ≡ k' → recovered_to w m r k ≡ recovered_to w m' r' k'
same-recovered w p q e = λ i. recovered_to w (p i) (q i) (e i)

pub many-lines : (n b : ℕ) (w : World) → InvW n w → LowW w → not_idle w.store.rec ≡ true
    → acted w (sys (recover_up_to b)) ≡ runs w (replicate (min b (left_in w.store.mem w.store.rec)) (sys recover))
unfolding acted act system noted runs up_to
many-lines n zero w inv low a =
    same-recovered w {m = w.store.mem} {r = w.store.rec} refl refl (omega arith)
    ∙ ap (λ k. runs w (replicate k (sys recover))) (let z : 0 ≡ min 0 (left_in w.store.mem w.store.rec) = omega arith in z)
many-lines n (suc b) w inv low a =
    go (not_idle h.rec) refl (λ i. many-lines n b next (subst (InvW n) here (tell-inv n w (sys recover) inv)) (subst LowW here (tell-low n w (sys recover) inv low)) i)
    ∙ ap (λ v. runs v (replicate (min b less) (sys recover))) (sym here)
    ∙ ap (λ k. runs w (replicate k (sys recover))) (let z = one in let y : suc (min b less) ≡ min (suc b) (left_in m r) = omega arith in y)
  where
    m : Memory
    m = w.store.mem

    r : Recovery
    r = w.store.rec

    h : RecoveryDid
    h = recovery_line m r

    next : World
    next = acted w (sys recover)

    less : ℕ
    less = left_in h.mem h.rec

    here : tell w (sys recover) ≡ next
    here = tell-act w (sys recover) (recovers w (never-unfit n w inv low) a)

    one : less + 1 ≡ left_in m r
    one = inv_left n w.store.txs w.past.tales (last w.past) m r inv a

    after : up_to (suc b) (says 0 0) m r ≡ up_to b (says h.reply.number 1) h.mem h.rec
    after = up-to-more b (says 0 0) m r a

    told : (up_to (suc b) (says 0 0) m r).reply.value ≡ 0 + min (suc b) (left_in m r)
    told = ap (λ x. x.value) (up-to-run n w.store.txs w.past.tales (last w.past) (suc b) 0 m r inv a).0

    inv' : Inv n h.mem h.rec w.store.txs w.past.tales (last w.past)
    inv' = recovery-inv n w.store.txs w.past.tales (last w.past) m r inv

    go : (d : Bool) → not_idle h.rec ≡ d
        → (not_idle h.rec ≡ true → acted next (sys (recover_up_to b)) ≡ runs next (replicate (min b less) (sys recover)))
        → acted w (sys (recover_up_to (suc b))) ≡ runs next (replicate (min b less) (sys recover))
    go true i rest =
        let told' : (up_to b (says 0 0) h.mem h.rec).reply.value ≡ 0 + min b less =
        ap (λ x. x.value) (up-to-run n w.store.txs w.past.tales (last w.past) b 0 h.mem h.rec inv' i).0 in
        let same = up-to-same b (says h.reply.number 1) (says 0 0) h.mem h.rec in
        let z = one in
        let y = told in
        same-recovered w (ap (λ x. x.mem) after ∙ same.0) (ap (λ x. x.rec) after ∙ same.1) (omega arith) ∙ rest i
    go false i rest =
        let none : less ≡ 0 = idle-left h.rec (count_of h.mem.marks) i in
        let done = up-to-idle b (says h.reply.number 1) h.mem h.rec i in
        let z = one in
        let y = told in
        same-recovered w (ap (λ x. x.mem) (after ∙ done)) (ap (λ x. x.rec) (after ∙ done)) (omega arith)
        ∙ ap (λ k. runs next (replicate k (sys recover))) (let x : 0 ≡ min b less = omega arith in x)
