-- Fitness, part by part: a test over several clauses is false exactly when each clause is false, and a clause is false when the bound it tests holds.
-- From the parts: a recovery line leaves a fit store fit (C2's word is marked, and a mark is below N), and how `up_to` takes one line more.
use Prim.Native.Nat.{ℕ, zero, suc, ◌+◌, ◌≤◌, zero-le, ◌<◌}
use mathlib.Core.Path.{◌≡◌, refl, sym, ◌∙◌}
use mathlib.Core.Bool.{Bool, true, false, not}
use mathlib.Core.List.{List, [], ◌∷◌}
use native.Mathlib.Omega.{arith}
use borrow.Author.Tests.{ltb-false, le-ltb, leb-true, leb-false, lt-leb, eqb-true, eqb-false, eq-eqb, ne_eqb, not-false}
use lib.Dec.{eqb, leb, ltb}
use lib.ListN.{length, length-set}
use Rattle.bits.specs.Marks.{pick, is_marked, unmark_of, count_of, lowest_of, stands_from}
use Rattle.bits.proofs.Laws.{laws}
use Rattle.dtml.specs.declared.Tx.{Tx}
use Rattle.dtml.specs.declared.Recovery.{Recovery}
use Rattle.dtml.specs.declared.Recovery.TheVariants.{Idle, C1, C2, C3, C4, C5, C6}
use Rattle.dtml.specs.Table.{Reply, says}
use Rattle.dtml.specs.Store.{Memory}
use Rattle.dtml.specs.Asked.{recovery_did}
use Rattle.dtml.specs.Lines.{recover_to, with_marks, choose, any_mark, recovery_line}
use Rattle.dtml.specs.First.{any_of}
use Rattle.dtml.specs.Checks.{unfit_rows, phase_past, unfit_recovery, unfit_tx, unfit_beside, unfit_memory, unfit_one, not_idle}
use Rattle.dtml.specs.Calls.{one_more_line, up_to}
use Rattle.dtml.proofs.Flush.{flush-length}

-- ---- a test over several clauses

pub last : (b : Bool) → b ≡ any_of (b ∷ [])
last true = refl
last false = refl

pub none : (b c : Bool) → pick b true c ≡ false → (b ≡ false) × (c ≡ false)
none true c h = (h, cc)
none false c h = (refl, h)

-- ---- the rows, the marks, the count and recovery

pub record FitBeside (vol pers old : ℕ) (k : List ℕ) (g : ℕ) (r : Recovery) : Type 0 where
  pub pers-long : pers ≡ vol
  pub old-long : old ≡ vol
  pub some : 0 < vol
  pub few : vol ≤ 256
  pub marks-in : stands_from k vol ≡ false
  pub glb-low : g ≤ 65535
  pub recovery-in : unfit_recovery vol k r ≡ false

same-long : (a b : ℕ) → not (eqb a b) ≡ false → b ≡ a
same-long a b h = sym (eqb-true a b (not-false (eqb a b) h))

long_same : (a b : ℕ) → b ≡ a → not (eqb a b) ≡ false
long_same a b h = rw (eq-eqb a b (sym h))

-- of the rows alone
pub record FitRows (vol pers old : ℕ) : Type 0 where
  pub pers-long : pers ≡ vol
  pub old-long : old ≡ vol
  pub some : 0 < vol
  pub few : vol ≤ 256

pub rows_fit : (vol pers old : ℕ) → unfit_rows vol pers old ≡ false → FitRows vol pers old
unfolding unfit_rows
rows_fit vol pers old h =
    let p = none (not (eqb vol pers)) (any_of (not (eqb vol old) ∷ eqb vol 0 ∷ ltb 256 vol ∷ [])) h in
    let q = none (not (eqb vol old)) (any_of (eqb vol 0 ∷ ltb 256 vol ∷ [])) p.1 in
    let s = none (eqb vol 0) (any_of (ltb 256 vol ∷ [])) q.1 in
    let zero-not : vol ≡ 0 → ⊥ = eqb-false vol 0 s.0 in
    record {
      pers-long = same-long vol pers p.0;
      old-long = same-long vol old q.0;
      some = omega arith;
      few = ltb-false 256 vol (last (ltb 256 vol) ∙ s.1);
    }

pub fits : (vol pers old : ℕ) (k : List ℕ) (g : ℕ) (r : Recovery) → unfit_beside vol pers old k g r ≡ false → FitBeside vol pers old k g r
unfolding unfit_beside
fits vol pers old k g r h =
    let a = none (unfit_rows vol pers old) (any_of (stands_from k vol ∷ ltb 65535 g ∷ unfit_recovery vol k r ∷ [])) h in
    let b = none (stands_from k vol) (any_of (ltb 65535 g ∷ unfit_recovery vol k r ∷ [])) a.1 in
    let d = none (ltb 65535 g) (any_of (unfit_recovery vol k r ∷ [])) b.1 in
    let rows = rows_fit vol pers old a.0 in
    record {
      pers-long = rows.pers-long;
      old-long = rows.old-long;
      some = rows.some;
      few = rows.few;
      marks-in = b.0;
      glb-low = ltb-false 65535 g d.0;
      recovery-in = last (unfit_recovery vol k r) ∙ d.1;
    }

pub fit-beside : {vol pers old : ℕ} {k : List ℕ} {g : ℕ} {r : Recovery} → FitBeside vol pers old k g r → unfit_beside vol pers old k g r ≡ false
unfolding unfit_beside unfit_rows
fit-beside {vol} {pers} {old} {k} {g} {r} f =
    rw (
      long_same vol pers f.pers-long,
      long_same vol old f.old-long,
      ne_eqb vol 0 (omega arith),
      le-ltb 256 vol f.few,
      f.marks-in,
      le-ltb 65535 g f.glb-low,
      f.recovery-in,
    )

-- ---- a transaction's record

pub record FitTx (n : ℕ) (t : Tx) : Type 0 where
  pub loc-low : t.loc ≤ 65535
  pub word_in : phase_past n t.phase ≡ false

pub tx-fits : (n : ℕ) (t : Tx) → unfit_tx n t ≡ false → FitTx n t
unfolding unfit_tx
tx-fits n t h =
    let a = none (ltb 65535 t.loc) (any_of (phase_past n t.phase ∷ [])) h in
    record { loc-low = ltb-false 65535 t.loc a.0; word_in = last (phase_past n t.phase) ∙ a.1 }

pub fit-tx : {n : ℕ} {t : Tx} → FitTx n t → unfit_tx n t ≡ false
unfolding unfit_tx
fit-tx {n} {t} f = rw (le-ltb 65535 t.loc f.loc-low, f.word_in)

pub record FitOne (vol pers old : ℕ) (k : List ℕ) (g : ℕ) (r : Recovery) (t : Tx) : Type 0 where
  pub beside : unfit_beside vol pers old k g r ≡ false
  pub own : unfit_tx vol t ≡ false

pub one-fits : (vol pers old : ℕ) (k : List ℕ) (g : ℕ) (r : Recovery) (t : Tx) → unfit_one vol pers old k g r t ≡ false → FitOne vol pers old k g r t
unfolding unfit_one
one-fits vol pers old k g r t h =
    let a = none (unfit_beside vol pers old k g r) (any_of (unfit_tx vol t ∷ [])) h in
    record { beside = a.0; own = last (unfit_tx vol t) ∙ a.1 }

pub fit-one : {vol pers old : ℕ} {k : List ℕ} {g : ℕ} {r : Recovery} {t : Tx} → FitOne vol pers old k g r t → unfit_one vol pers old k g r t ≡ false
unfolding unfit_one
fit-one f = rw (f.beside, f.own)

-- ---- the marks under recovery

-- where there is a mark, the lowest is a word that is there
pub lowest-in : (k : List ℕ) (n : ℕ) → stands_from k n ≡ false → eqb (count_of k) 0 ≡ false → lowest_of k < n
lowest-in k n inside some = go (leb n (lowest_of k)) refl
  where
    go : (b : Bool) → leb n (lowest_of k) ≡ b → lowest_of k < n
    go true e =
        let marked : is_marked k (lowest_of k) ≡ true = laws.lowest-marked k (eqb-false (count_of k) 0 some) in
        let bare : is_marked k (lowest_of k) ≡ false = laws.stands-none k n (lowest_of k) inside (leb-true n (lowest_of k) e) in
        let absurd : ◌≡◌ {A = ℕ} 0 1 = cc in
        omega arith
    go false e = leb-false n (lowest_of k) e

pub unmark-in : (k : List ℕ) (n w : ℕ) → stands_from k n ≡ false → stands_from (unmark_of k w) n ≡ false
unmark-in k n w inside = laws.none-stands (unmark_of k w) n λ v h. go v h (eqb v w) refl
  where
    go : (v : ℕ) → n ≤ v → (b : Bool) → eqb v w ≡ b → is_marked (unmark_of k w) v ≡ false
    go v h true e = rw (eqb-true v w e) (laws.unmark-same k w)
    go v h false e = laws.unmark-other k w v (eqb-false v w e) ∙ laws.stands-none k n v inside h

-- ---- a recovery line leaves a fit store fit

abbrev pub FitMemory : Memory → Recovery → Type 0
FitMemory m r = FitBeside (length m.vol) (length m.pers) (length m.old) m.marks m.glb r

pub memory-fits : (m : Memory) (r : Recovery) → unfit_memory m r ≡ false → FitMemory m r
memory-fits m r h = fits (length m.vol) (length m.pers) (length m.old) m.marks m.glb r h

-- with other marks, another count and recovery elsewhere
changed : {vol pers old : ℕ} {k : List ℕ} {g : ℕ} {r : Recovery} (k' : List ℕ) (g' : ℕ) (r' : Recovery) → FitBeside vol pers old k g r
    → stands_from k' vol ≡ false → g' ≤ 65535 → unfit_recovery vol k' r' ≡ false → unfit_beside vol pers old k' g' r' ≡ false
changed k' g' r' f marks glb recovery =
    fit-beside
    (record {
      pers-long = f.pers-long;
      old-long = f.old-long;
      some = f.some;
      few = f.few;
      marks-in = marks;
      glb-low = glb;
      recovery-in = recovery;
    })

moved : {vol pers old : ℕ} {k : List ℕ} {g : ℕ} {r : Recovery} (r' : Recovery) → FitBeside vol pers old k g r → unfit_recovery vol k r' ≡ false
    → unfit_beside vol pers old k g r' ≡ false
moved {k = k} {g = g} r' f there = changed k g r' f f.marks-in f.glb-low there

-- C1 goes to C2 only with a mark
after-c1 : (m : Memory) (b : Bool) → eqb (count_of m.marks) 0 ≡ b → FitMemory m C1
    → unfit_memory (pick (not b) (recover_to m C2) (recover_to m C6)).mem (pick (not b) (recover_to m C2) (recover_to m C6)).rec ≡ false
after-c1 m true e f = moved C6 f refl
after-c1 m false e f = moved C2 f e

after-c2 : (m : Memory) → FitMemory m C2 → unfit_memory m (choose m) ≡ false
after-c2 m f =
    moved (choose m) f (lt-leb (length m.vol) (lowest_of m.marks) (lowest-in m.marks (length m.vol) f.marks-in f.recovery-in))

after-c5 : (m : Memory) (w v : ℕ) → FitMemory m (C5 w v) → unfit_memory (with_marks m (unmark_of m.marks w)) C1 ≡ false
after-c5 m w v f =
    changed (unmark_of m.marks w) m.glb C1 f (unmark-in m.marks (length m.vol) w f.marks-in) f.glb-low refl

pub keeps : (m : Memory) (r : Recovery) → unfit_memory m r ≡ false → unfit_memory (recovery_line m r).mem (recovery_line m r).rec ≡ false
unfolding recovery_line
keeps m Idle h = h
keeps m C1 h = after-c1 m (eqb (count_of m.marks) 0) refl (memory-fits m C1 h)
keeps m C2 h = after-c2 m (memory-fits m C2 h)
keeps m (C3 w v) h = let f = memory-fits m (C3 w v) h in rw length-set (moved (C4 w v) f f.recovery-in)
keeps m (C4 w v) h = let f = memory-fits m (C4 w v) h in rw (flush-length m.vol m.pers w) (moved (C5 w v) f f.recovery-in)
keeps m (C5 w v) h = after-c5 m w v (memory-fits m (C5 w v) h)
keeps m C6 h = let f = memory-fits m C6 h in changed m.marks 0 Idle f f.marks-in zero-le refl

-- ---- the lines up to an allowance

c1-number : (m : Memory) (b : Bool) → (pick b (recover_to m C2) (recover_to m C6)).reply ≡ says (pick (not_idle (pick b (recover_to m C2) (recover_to m C6)).rec) 0 6) 0
c1-number m true = refl
c1-number m false = refl

-- a line answers 6 where it leaves recovery idle, and 0 elsewhere
pub line-number : (m : Memory) (r : Recovery) → not_idle r ≡ true → (recovery_line m r).reply ≡ says (pick (not_idle (recovery_line m r).rec) 0 6) 0
unfolding recovery_line
line-number m Idle h = cc
line-number m C1 h = c1-number m (any_mark m.marks)
line-number m C2 h = refl
line-number m (C3 w v) h = refl
line-number m (C4 w v) h = refl
line-number m (C5 w v) h = refl
line-number m C6 h = refl

-- what one line keeps, lines up to an allowance keep
pub up-to-keeps : (P : Reply → Memory → Recovery → Type 0)
    → ((a : Reply) (m : Memory) (r : Recovery) → P a m r → P (says (recovery_line m r).reply.number (a.value + 1)) (recovery_line m r).mem (recovery_line m r).rec)
    → (b : ℕ) (a : Reply) (m : Memory) (r : Recovery) → P a m r → P (up_to b a m r).reply (up_to b a m r).mem (up_to b a m r).rec
unfolding up_to
up-to-keeps P step zero a m r h = h
up-to-keeps P step (suc b) a m Idle h = h
up-to-keeps P step (suc b) a m C1 h = up-to-keeps P step b _ _ _ (step a m C1 h)
up-to-keeps P step (suc b) a m C2 h = up-to-keeps P step b _ _ _ (step a m C2 h)
up-to-keeps P step (suc b) a m (C3 w v) h = up-to-keeps P step b _ _ _ (step a m (C3 w v) h)
up-to-keeps P step (suc b) a m (C4 w v) h = up-to-keeps P step b _ _ _ (step a m (C4 w v) h)
up-to-keeps P step (suc b) a m (C5 w v) h = up-to-keeps P step b _ _ _ (step a m (C5 w v) h)
up-to-keeps P step (suc b) a m C6 h = up-to-keeps P step b _ _ _ (step a m C6 h)

pub up-to-more : (b : ℕ) (a : Reply) (m : Memory) (r : Recovery) → not_idle r ≡ true → up_to (suc b) a m r ≡ one_more_line (up_to b) a (recovery_line m r)
unfolding up_to
up-to-more b a m Idle h = cc
up-to-more b a m C1 h = refl
up-to-more b a m C2 h = refl
up-to-more b a m (C3 w v) h = refl
up-to-more b a m (C4 w v) h = refl
up-to-more b a m (C5 w v) h = refl
up-to-more b a m C6 h = refl

pub up-to-idle : (b : ℕ) (a : Reply) (m : Memory) (r : Recovery) → not_idle r ≡ false → up_to b a m r ≡ recovery_did a m r
unfolding up_to
up-to-idle zero a m r h = refl
up-to-idle (suc b) a m Idle h = refl
up-to-idle (suc b) a m C1 h = cc
up-to-idle (suc b) a m C2 h = cc
up-to-idle (suc b) a m (C3 w v) h = cc
up-to-idle (suc b) a m (C4 w v) h = cc
up-to-idle (suc b) a m (C5 w v) h = cc
up-to-idle (suc b) a m C6 h = cc
