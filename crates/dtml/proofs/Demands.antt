-- The demands, from the invariant that every schedule keeps.
use Prim.Native.Nat.{ℕ, ◌+◌, ◌*◌, ◌<◌, min}
use native.Mathlib.Nat.{zero-add}
use native.Mathlib.Omega.{arith}
use borrow.Author.Tests.{leb-true, leb-false, eqb-true, not-false}
use mathlib.Core.Path.{◌≡◌, refl, sym, ap, subst, ◌∙◌}
use mathlib.Core.Bool.{Bool, true, false}
use mathlib.Core.Logic.{◌⊎◌, inl, inr}
use mathlib.Core.List.{List, [], ◌∷◌}
use lib.ListN.{replicate}
use lib.Seq.{ext_get_or}
use lib.Dec.{leb, eqb}
use Rattle.bits.specs.Marks.{pick, is_marked, count_of}
use Rattle.dtml.specs.declared.Phase.{Phase}
use Rattle.dtml.specs.declared.Phase.TheVariants.{Fresh, Ready, Committed, Aborted, B1, B2, R1, R2, W1, W2, W3, W4, W5, W6, W7, E1, E2, E3}
use Rattle.dtml.specs.declared.Tx.{Tx}
use Rattle.dtml.specs.declared.Recovery.{Recovery}
use Rattle.dtml.specs.Table.{says}
use Rattle.dtml.specs.Store.{Memory, record_at, fresh}
use Rattle.dtml.specs.Asked.{begin, read, write, commit, step, flush, crash, recover, recover_up_to, Call, on, sys, Did, RecoveryDid}
use Rattle.dtml.specs.Lines.{line_at, recovery_line, even}
use Rattle.dtml.specs.Checks.{checks, unfit, not_idle}
use Rattle.dtml.specs.Calls.{ask, up_to, system, act, call, refused}
use Rattle.dtml.specs.History.{over, sees, Tale, live_words, last, later_after, tale_at, is_e2, noted, World, tell, dawn, runs}
use Rattle.dtml.specs.Demands.{Size, after, number, CommittedMemories, Durable, BothSides, WholeWhenRecovered, WholeWhenIdle, WordsInLog, NeverIdle, CutBeforeE2, CutAfterE2, Reads, RecoveryCost, EnteredOnce, NoCrash, crashed, logged, ExactCost, lines_left, Allowance, NothingUnfit}
use Rattle.dtml.proofs.Invariant.{Free, Owner, Ender}
use Rattle.dtml.proofs.Words.{true-or-false, true-not-false, pick-case, is-idle, idle-is, busy-is, none-marked, sees-agree}
use Rattle.dtml.proofs.Roles.{Role, free, owner, ender, role}
use Rattle.dtml.proofs.Worlds.{Passes, call-cases, line_small, acted, tell-act, tell-keeps, tell-inv, InvW, dawn-inv}
use Rattle.dtml.proofs.Tales.{is-E2, runs-tales, dawn-tales}
use Rattle.dtml.proofs.Low.{LowW, tell-low, glb-low}
use Rattle.dtml.proofs.Fit.{line-number}
use Rattle.dtml.proofs.Fitness.{never-unfit, fine, fine-after, not-nine}
use Rattle.dtml.proofs.Counts.{entered-words}
use Rattle.dtml.proofs.Cost.{left_in, idle-left, inv_left, up-to-run, sum, runs-sum, runs-paid, recovers-up_to, many-lines}

-- ---- 2. Committed memories

-- an answer below 9 is that of a call that was carried out
carried-out : (w : World) (c : Call) → number w c < 9 → Passes (checks w.store c) × (call w.store c ≡ act w.store c)
carried-out w c h = go (call-cases w.store c)
  where
    go : ((k : ℕ) × (leb 9 k ≡ true) × (call w.store c ≡ refused w.store k)) ⊎ (Passes (checks w.store c) × (call w.store c ≡ act w.store c))
        → Passes (checks w.store c) × (call w.store c ≡ act w.store c)
    go (inl r) =
        let big = leb-true 9 r.0 r.1 in
        let same : number w c ≡ r.0 = ap (λ o. o.reply.number) r.2 in
        absurd (omega arith)
    go (inr p) = p

later-kept : (w : World) (c : Call) → ((t : ℕ) → c ≡ on t step → (record_at w.store.txs t).phase ≡ E2 → ⊥) → (acted w c).past.later ≡ w.past.later
unfolding acted noted
later-kept w (on t begin) f = refl
later-kept w (on t (read x)) f = refl
later-kept w (on t (write x v)) f = refl
later-kept w (on t commit) f = refl
later-kept w (on t step) f =
    pick-case (λ x. x ≡ w.past.later) (is_e2 (record_at w.store.txs t).phase) (λ e. absurd (f t refl (is-E2 _ e))) (λ _. refl)
later-kept w (sys (flush x)) f = refl
later-kept w (sys crash) f = refl
later-kept w (sys recover) f = refl
later-kept w (sys (recover_up_to b)) f = refl

committed-at : (w : World) (t : ℕ) → (record_at w.store.txs t).phase ≡ E2
    → (acted w (on t step)).past.later ≡ over (last w.past) (tale_at w.past.tales t).wrote ∷ w.past.later
unfolding acted noted
committed-at w t e = ap (λ p. later_after w.past p (tale_at w.past.tales t)) e

pub committed-memories : CommittedMemories
unfolding runs dawn
committed-memories = record {
  start = λ n. (refl, refl);
  each-E2 = λ w t e h. ap (λ v. v.past.later) (tell-act w (on t step) (carried-out w (on t step) h).1) ∙ committed-at w t e;
  nothing-else = λ w c f. tell-keeps (λ v. v.past.later ≡ w.past.later) w c refl (λ _. later-kept w c f);
}

-- ---- 3. Durability

pub durable : Durable
durable n cs z =
    let inv = (fine-after n cs z.0 z.1).0 in
    (inv.shape.last-long, inv.shape.pers-long, inv.durable)

-- ---- 4. A join is whole

unlogged : (n : ℕ) (w : World) → InvW n w → count_of w.store.mem.marks ≡ 0 → BothSides w.store.mem (last w.past)
unlogged n w inv c = (
  ext_get_or 0 w.store.mem.vol (last w.past) (inv.shape.vol-long ∙ sym inv.shape.last-long)
      (λ x hx. inv.calm x (rw inv.shape.vol-long at hx) (none-marked w.store.mem.marks c x)),
  ext_get_or 0 w.store.mem.pers (last w.past) (inv.shape.pers-long ∙ sym inv.shape.last-long)
      (λ x hx. rw (none-marked w.store.mem.marks c x) at (inv.durable x (rw inv.shape.pers-long at hx))),
)

idle-whole : (n : ℕ) (w : World) → InvW n w → not_idle w.store.rec ≡ false → live_words w.past.tales ≡ 0 → BothSides w.store.mem (last w.past)
idle-whole n w inv i none = unlogged n w inv (sym (rw i at (entered-words n w inv)) ∙ none)

pub whole-when-idle : WholeWhenIdle
whole-when-idle n cs z i none = idle-whole n (after n cs) (fine-after n cs z.0 z.1).0 (is-idle _ i) none

pub words-in-log : WordsInLog
words-in-log n cs z =
    let e = entered-words n (after n cs) (fine-after n cs z.0 z.1).0 in ((λ i. rw (is-idle _ i) at e), (λ f. rw (busy-is _ f) at e))

-- a world in which some call answers 6 is one in which recovery is under way
module _ (n : ℕ) (w : World) (inv : InvW n w) where
  -- a call that finds recovery not idle and leaves it idle, with the tales as they were
  recovered-whole : (v : World) → InvW n v → not_idle w.store.rec ≡ true → v.past.tales ≡ w.past.tales → last v.past ≡ last w.past
      → not_idle v.store.rec ≡ false → BothSides v.store.mem (last w.past)
  recovered-whole v inv' a same kept i =
      subst (BothSides v.store.mem) kept (idle-whole n v inv' i (ap live_words same ∙ (rw a at (entered-words n w inv))))

  -- lines up to an allowance answer 6 only where none is left
  none_left : (b : ℕ) → not_idle w.store.rec ≡ true → InvW n (acted w (sys (recover_up_to b)))
      → (up_to b (says 0 0) w.store.mem w.store.rec).reply.number ≡ 6 → not_idle (up_to b (says 0 0) w.store.mem w.store.rec).rec ≡ false
  unfolding acted act system noted
  none_left b a inv' e = go (leb L b) refl (not_idle U.rec) refl
    where
      L : ℕ
      L = left_in w.store.mem w.store.rec

      U : RecoveryDid
      U = up_to b (says 0 0) w.store.mem w.store.rec

      ran : (U.reply ≡ says (pick (leb L b) 6 0) (0 + min b L)) × (min b L + left_in U.mem U.rec ≡ L)
      ran = up-to-run n w.store.txs w.past.tales (last w.past) b 0 w.store.mem w.store.rec inv a

      go : (g : Bool) → leb L b ≡ g → (d : Bool) → not_idle U.rec ≡ d → not_idle U.rec ≡ false
      go g eg false ed = ed
      go false eg true ed =
          let z : U.reply.number ≡ 0 = ap (λ x. x.number) ran.0 ∙ ap (λ g. pick g 6 0) eg in
          absurd (omega arith)
      go true eg true ed =
          let y = leb-true L b eg in
          let x = ran.1 in
          let z = inv_left n w.store.txs w.past.tales (last w.past) U.mem U.rec inv' ed in
          absurd (omega arith)

  six-whole : (c : Call) → Passes (checks w.store c) → (act w.store c).reply.number ≡ 6 → InvW n (acted w c) → BothSides (acted w c).store.mem (last w.past)
  unfolding acted act ask system noted
  six-whole (on t begin) p e inv' = absurd (omega arith)
  six-whole (on t (read x)) p e inv' = absurd (omega arith)
  six-whole (on t (write x v)) p e inv' = absurd (omega arith)
  six-whole (on t commit) p e inv' = absurd (omega arith)
  six-whole (on t step) p e inv' =
      let z =
      leb-false 6 (line_at w.store.mem (record_at w.store.txs t).loc (record_at w.store.txs t).phase).reply.number
      (line_small w.store.mem (record_at w.store.txs t).loc (record_at w.store.txs t).phase) in
      absurd (omega arith)
  six-whole (sys (flush x)) p e inv' = absurd (omega arith)
  six-whole (sys crash) p e inv' = absurd (omega arith)
  six-whole (sys recover) p e inv' = recovered-whole (acted w (sys recover)) inv' a refl refl (go (not_idle (recovery_line w.store.mem w.store.rec).rec) refl)
    where
      a : not_idle w.store.rec ≡ true
      a = not-false _ p.1.0

      go : (d : Bool) → not_idle (recovery_line w.store.mem w.store.rec).rec ≡ d → not_idle (recovery_line w.store.mem w.store.rec).rec ≡ false
      go false ed = ed
      go true ed =
          let z : (recovery_line w.store.mem w.store.rec).reply.number ≡ 0 =
          ap (λ x. x.number) (line-number w.store.mem w.store.rec a) ∙ ap (λ d. pick d 0 6) ed in
          absurd (omega arith)
  six-whole (sys (recover_up_to b)) p e inv' =
      recovered-whole (acted w (sys (recover_up_to b))) inv' (not-false _ p.1.0) refl refl (none_left b (not-false _ p.1.0) inv' e)

  pub six : (c : Call) → number w c ≡ 6 → BothSides (tell w c).store.mem (last w.past)
  six c e =
      let done = carried-out w c (omega arith) in
      let here = tell-act w c done.1 in
      subst (λ v. BothSides v.store.mem (last w.past)) (sym here)
      (six-whole c done.0 (sym (ap (λ o. o.reply.number) done.1) ∙ e) (subst (InvW n) here (tell-inv n w c inv)))

pub whole-when-recovered : WholeWhenRecovered
whole-when-recovered n cs c z e = six n (after n cs) (fine-after n cs z.0 z.1).0 c e

-- while recovery is not idle nothing is committed
recovering-kept : (w : World) (c : Call) → not_idle w.store.rec ≡ true → Passes (checks w.store c) → last (acted w c).past ≡ last w.past
unfolding acted noted
recovering-kept w (on t begin) a p = absurd (true-not-false a p.1.1.0)
recovering-kept w (on t (read x)) a p = absurd (true-not-false a p.1.1.1.0)
recovering-kept w (on t (write x v)) a p = absurd (true-not-false a p.1.1.1.0)
recovering-kept w (on t commit) a p = absurd (true-not-false a p.1.1.0)
recovering-kept w (on t step) a p = absurd (true-not-false a p.1.1.0)
recovering-kept w (sys (flush x)) a p = refl
recovering-kept w (sys crash) a p = refl
recovering-kept w (sys recover) a p = refl
recovering-kept w (sys (recover_up_to b)) a p = refl

recovering-last : (w : World) (cs : List Call) → NeverIdle w cs → last (runs w cs).past ≡ last w.past
unfolding runs
recovering-last w [] h = refl
recovering-last w (c ∷ cs) h =
    recovering-last (tell w c) cs h.1 ∙ tell-keeps (λ v. last v.past ≡ last w.past) w c refl (recovering-kept w c (busy-is _ h.0))

crash-last : (w : World) → last (tell w (sys crash)).past ≡ last w.past
unfolding acted noted
crash-last w = tell-keeps (λ v. last v.past ≡ last w.past) w (sys crash) refl (λ _. refl)

pub cut-before-E2 : CutBeforeE2
cut-before-E2 n cs ds c z h e =
    let w = tell (after n cs) (sys crash) in
    let start = fine-after n cs z.0 z.1 in
    let ok = fine n w ds (tell-inv n (after n cs) (sys crash) start.0) (tell-low n (after n cs) (sys crash) start.0 start.1) in
    subst (BothSides (tell (runs w ds) c).store.mem) (recovering-last w ds h ∙ crash-last (after n cs)) (six n (runs w ds) ok.0 c e)

pub cut-after-E2 : CutAfterE2
cut-after-E2 n cs t z ht e = (runs-tales n (dawn n) cs (dawn-inv n z.0 z.1) (dawn-tales n)).behind t ht e

-- ---- 5. Reads

-- a line that answers 2 is R2, with the value it holds, and the count is the transaction's loc
line-two : (m : Memory) (loc : ℕ) (p : Phase) → (line_at m loc p).reply.number ≡ 2 → (v : ℕ) × (p ≡ R2 v) × ((line_at m loc p).reply.value ≡ v) × (loc ≡ m.glb)
unfolding line_at
line-two m loc Fresh e = absurd (omega arith)
line-two m loc Ready e = absurd (omega arith)
line-two m loc Committed e = absurd (omega arith)
line-two m loc Aborted e = absurd (omega arith)
line-two m loc B1 e = absurd (omega arith)
line-two m loc B2 e =
    pick-case (λ (d : Did). d.reply.number ≡ 2 → (v : ℕ) × (B2 ≡ R2 v) × (d.reply.value ≡ v) × (loc ≡ m.glb)) (even loc)
    (λ _ q. absurd (omega arith)) (λ _ q. absurd (omega arith)) e
line-two m loc (R1 w) e = absurd (omega arith)
line-two m loc (R2 x) e =
    pick-case (λ (d : Did). d.reply.number ≡ 2 → (v : ℕ) × (R2 x ≡ R2 v) × (d.reply.value ≡ v) × (loc ≡ m.glb)) (eqb m.glb loc)
    (λ g q. (x, refl, refl, sym (eqb-true m.glb loc g))) (λ _ q. absurd (omega arith)) e
line-two m loc (W1 w x) e =
    pick-case (λ (d : Did). d.reply.number ≡ 2 → (v : ℕ) × (W1 w x ≡ R2 v) × (d.reply.value ≡ v) × (loc ≡ m.glb)) (even loc)
    (λ _ q. absurd (omega arith)) (λ _ q. absurd (omega arith)) e
line-two m loc (W2 w x) e =
    pick-case (λ (d : Did). d.reply.number ≡ 2 → (v : ℕ) × (W2 w x ≡ R2 v) × (d.reply.value ≡ v) × (loc ≡ m.glb)) (eqb m.glb loc)
    (λ _ q. absurd (omega arith)) (λ _ q. absurd (omega arith)) e
line-two m loc (W3 w x) e = absurd (omega arith)
line-two m loc (W4 w x) e =
    pick-case (λ (d : Did). d.reply.number ≡ 2 → (v : ℕ) × (W4 w x ≡ R2 v) × (d.reply.value ≡ v) × (loc ≡ m.glb)) (is_marked m.marks w)
    (λ _ q. absurd (omega arith)) (λ _ q. absurd (omega arith)) e
line-two m loc (W5 w x) e = absurd (omega arith)
line-two m loc (W6 w x) e = absurd (omega arith)
line-two m loc (W7 w) e = absurd (omega arith)
line-two m loc E1 e =
    pick-case (λ (d : Did). d.reply.number ≡ 2 → (v : ℕ) × (E1 ≡ R2 v) × (d.reply.value ≡ v) × (loc ≡ m.glb)) (even loc)
    (λ _ q. absurd (omega arith)) (λ _ q. absurd (omega arith)) e
line-two m loc E2 e = absurd (omega arith)
line-two m loc E3 e = absurd (omega arith)

-- what stands at R2 with loc the count is what its transaction sees
read_right : (n : ℕ) (w : World) (t : ℕ) (v : ℕ) → InvW n w → t < 64 → not_idle w.store.rec ≡ false
    → (record_at w.store.txs t).phase ≡ R2 v → (record_at w.store.txs t).loc ≡ w.store.mem.glb
    → (x : ℕ) × ((tale_at w.past.tales t).asked ≡ read x)
    × (v ≡ sees (tale_at w.past.tales t).wrote (tale_at w.past.tales t).start x)
unfolding sees
read_right n w t v inv ht i e q = go (role n m r ts ks l t ht inv.shape inv.mode i)
  where
    m : Memory
    m = w.store.mem

    r : Recovery
    r = w.store.rec

    ts : List Tx
    ts = w.store.txs

    ks : List Tale
    ks = w.past.tales

    l : List ℕ
    l = last w.past

    k : Tale
    k = tale_at ks t

    loc : ℕ
    loc = (record_at ts t).loc

    go : Role n m r ts ks l t → (x : ℕ) × (k.asked ≡ read x) × (v ≡ sees k.wrote k.start x)
    go (free f) =
        let h : Free n m.glb l loc (R2 v) k = subst (λ p. Free n m.glb l loc p k) e f.is_free in
        (h.2.0, h.2.1, h.2.3 q ∙ sym (h.1.2 q h.2.0 h.2.2) ∙ sym (ap (λ xs. sees xs k.start h.2.0) h.0.1))
    go (owner odd lock own others) =
        let h : Owner n m l loc (R2 v) k = subst (λ p. Owner n m l loc p k) e own in
        (h.2.0, h.2.1, h.2.3 ∙ sym (sees-agree n k.wrote k.start l lock.1 h.2.0 h.2.2))
    go (ender c odd end others) = absurd (subst (λ p. Ender m.glb l loc p k) e end)

-- a recovery line, and lines up to an allowance, answer 0 or 6
zero-or-six : (d : Bool) (k : ℕ) → k ≡ pick d 0 6 → k ≡ 2 → ⊥
zero-or-six true k e q = omega arith
zero-or-six false k e q = omega arith

six-or-zero : (d : Bool) (k : ℕ) → k ≡ pick d 6 0 → k ≡ 2 → ⊥
six-or-zero true k e q = omega arith
six-or-zero false k e q = omega arith

-- the call is a line of some transaction that answers what that transaction sees of the word it asked for
Answered : World → Call → Type 0
Answered w c = (t : ℕ) × (x : ℕ) × (c ≡ on t step) × ((tale_at w.past.tales t).asked ≡ read x)
    × ((act w.store c).reply.value ≡ sees (tale_at w.past.tales t).wrote (tale_at w.past.tales t).start x)

two-line : (n : ℕ) (w : World) (c : Call) → InvW n w → Passes (checks w.store c) → (act w.store c).reply.number ≡ 2 → Answered w c
unfolding act ask system Answered
two-line n w (on t begin) inv p e = absurd (omega arith)
two-line n w (on t (read x)) inv p e = absurd (omega arith)
two-line n w (on t (write x v)) inv p e = absurd (omega arith)
two-line n w (on t commit) inv p e = absurd (omega arith)
two-line n w (on t step) inv p e =
    let d = line-two w.store.mem (record_at w.store.txs t).loc (record_at w.store.txs t).phase e in
    let a = read_right n w t d.0 inv (leb-false 64 t p.1.0) p.1.1.0 d.1 d.3 in
    (t, a.0, refl, a.1, d.2 ∙ a.2)
two-line n w (sys (flush x)) inv p e = absurd (omega arith)
two-line n w (sys crash) inv p e = absurd (omega arith)
two-line n w (sys recover) inv p e =
    let z = ap (λ x. x.number) (line-number w.store.mem w.store.rec (not-false _ p.1.0)) in
    absurd (zero-or-six (not_idle (recovery_line w.store.mem w.store.rec).rec) _ z e)
two-line n w (sys (recover_up_to b)) inv p e =
    let z =
    ap (λ x. x.number)
    (up-to-run n w.store.txs w.past.tales (last w.past) b 0 w.store.mem w.store.rec inv (not-false _ p.1.0)).0 in
    absurd (six-or-zero (leb (left_in w.store.mem w.store.rec) b) _ z e)

pub reads : Reads
unfolding Answered
reads n cs c z e =
    let w = after n cs in
    let done = carried-out w c (omega arith) in
    let a = two-line n w c (fine-after n cs z.0 z.1).0 done.0 (sym (ap (λ o. o.reply.number) done.1) ∙ e) in
    (a.0, a.1, a.2, a.3, ap (λ o. o.reply.value) done.1 ∙ a.4)

-- ---- 6. Recovery's cost

pub recovery-cost : RecoveryCost
unfolding dawn fresh
recovery-cost n cs z =
    let h = runs-paid n (dawn n) cs (dawn-inv n z.0 z.1) (omega arith) in
    omega arith

pub entered-once : EnteredOnce
entered-once n cs t z = (runs-tales n (dawn n) cs (dawn-inv n z.0 z.1) (dawn-tales n)).once t

-- ---- 7. Recovery's exact cost

-- a fit store takes a crash
crash-taken : (w : World) → unfit w.store ≡ false → tell w (sys crash) ≡ acted w (sys crash)
unfolding call
crash-taken w f = tell-act w (sys crash) (rw f)

-- what a crash leaves, and a schedule without another one
module _ (n : ℕ) (cs ds : List Call) (z : Size n) (calm : NoCrash ds) where
  start : InvW n (after n cs) × LowW (after n cs)
  start = fine-after n cs z.0 z.1

  cut : InvW n (crashed n cs) × LowW (crashed n cs)
  cut = (tell-inv n (after n cs) (sys crash) start.0, tell-low n (after n cs) (sys crash) start.0 start.1)

  end : InvW n (runs (crashed n cs) ds) × LowW (runs (crashed n cs) ds)
  end = fine n (crashed n cs) ds cut.0 cut.1

  cut_sum : sum (crashed n cs) ≡ (crashed n cs).past.lines + (5 * logged (crashed n cs) + 2)
  unfolding acted act system
  cut_sum =
      subst (λ v. sum v ≡ v.past.lines + (5 * logged v + 2))
      (sym (crash-taken (after n cs) (never-unfit n (after n cs) start.0 start.1))) refl

  end-sum : (runs (crashed n cs) ds).past.lines + left_in (runs (crashed n cs) ds).store.mem (runs (crashed n cs) ds).store.rec
      ≡ (crashed n cs).past.lines + (5 * logged (crashed n cs) + 2)
  end-sum = runs-sum n (crashed n cs) ds calm cut.0 ∙ cut_sum

  left_after : left_in (runs (crashed n cs) ds).store.mem (runs (crashed n cs) ds).store.rec ≡ lines_left n cs ds
  left_after = let s = end-sum in omega arith

  done-idle : (runs (crashed n cs) ds).past.lines ≡ (crashed n cs).past.lines + (5 * logged (crashed n cs) + 2)
      → not_idle (runs (crashed n cs) ds).store.rec ≡ false
  done-idle e = go (true-or-false (not_idle (runs (crashed n cs) ds).store.rec))
    where
      go : (not_idle (runs (crashed n cs) ds).store.rec ≡ true) ⊎ (not_idle (runs (crashed n cs) ds).store.rec ≡ false)
          → not_idle (runs (crashed n cs) ds).store.rec ≡ false
      go (inl a) =
          let s = end-sum in
          let o = inv_left n _ _ _ (runs (crashed n cs) ds).store.mem (runs (crashed n cs) ds).store.rec end.0 a in
          absurd (omega arith)
      go (inr i) = i

pub exact-cost : ExactCost
exact-cost n cs ds z calm =
    let s = end-sum n cs ds z calm in (
      omega arith,
      (
        (λ i. let e = idle-left (runs (crashed n cs) ds).store.rec (logged (runs (crashed n cs) ds)) (is-idle _ i) in omega arith),
        (λ e. idle-is _ (done-idle n cs ds z calm e)),
      ),
    )

pub allowance : Allowance
unfolding act system
allowance n cs ds b z calm busy =
    let w = runs (crashed n cs) ds in
    let a = busy-is w.store.rec busy in
    let ok = end n cs ds z calm in
    let taken = recovers-up_to w b (never-unfit n w ok.0 ok.1) a in
    let ran = up-to-run n _ _ _ b 0 w.store.mem w.store.rec ok.0 a in (
      subst (λ k. (call w.store (sys (recover_up_to b))).reply ≡ says (pick (leb k b) 6 0) (min b k)) (left_after n cs ds z calm)
          (ap (λ o. o.reply) taken ∙ ran.0 ∙ ap (says (pick (leb (left_in w.store.mem w.store.rec) b) 6 0)) (zero-add _)),
      subst (λ k. tell w (sys (recover_up_to b)) ≡ runs w (replicate (min b k) (sys recover))) (left_after n cs ds z calm)
          (tell-act w (sys (recover_up_to b)) taken ∙ many-lines n b w ok.0 ok.1 a),
    )

-- ---- 8. Nothing unfit

pub nothing-unfit : NothingUnfit
nothing-unfit n cs z =
    let ok = fine-after n cs z.0 z.1 in (
      (λ c. not-nine (after n cs).store c (never-unfit n (after n cs) ok.0 ok.1)),
      glb-low (after n cs).store.mem (after n cs).store.txs ok.1,
      ok.1.locs-low,
    )
