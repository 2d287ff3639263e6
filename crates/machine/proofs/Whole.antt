-- What is done beside the row of records, put together with what the thin functions do to the row, is the call on the whole store: an unfit store is refused
-- and its record is put back as it was; of a fit one, the call is what it does to what it is handed.
use Prim.Native.Nat.{ℕ}
use borrow.Author.Tests.{eqb-true, not-false}
use mathlib.Core.Path.{◌≡◌, refl, sym, ap, ◌∙◌}
use mathlib.Core.Bool.{Bool, true, false, not}
use mathlib.Core.List.{List, [], ◌∷◌}
use lib.ListN.{length, set, replicate}
use lib.Seq.{set-get_or}
use lib.Dec.{eqb, ltb}
use Rattle.std.specs.Prelude.{Option, Some, None, Result, Ok, Err}
use Rattle.bits.specs.Marks.{pick}
use Rattle.dtml.specs.declared.Answer.{Answer}
use Rattle.dtml.specs.declared.Refusal.{Refusal}
use Rattle.dtml.specs.declared.Refusal.TheVariants.{Unfit}
use Rattle.dtml.specs.declared.Phase.TheVariants.{Fresh}
use Rattle.dtml.specs.declared.Recovery.{Recovery}
use Rattle.dtml.specs.declared.Tx.{Tx}
use Rattle.dtml.specs.Table.{Reply, says}
use Rattle.dtml.specs.Store.{Memory, memory, Store, store, fresh, tx, record_at}
use Rattle.dtml.specs.Lines.{crash_txs}
use Rattle.dtml.specs.declared.Ask.{Ask}
use Rattle.dtml.specs.declared.Sys.{Sys}
use Rattle.dtml.specs.declared.Call.{Call}
use Rattle.dtml.specs.declared.Call.TheVariants.{On as on, Of as sys}
use Rattle.dtml.specs.Asked.{Outcome, outcome}
use Rattle.dtml.specs.First.{any_of}
use Rattle.dtml.specs.Checks.{unfit, unfit_rows, unfit_memory, unfit_one, unfit_txs}
use Rattle.dtml.specs.Calls.{refused, call, make_fresh}
use Rattle.dtml.specs.Handed.{call_one, call_system, left, turn_left, event_left, carry, slot_of, is_crash, crashed, reach}
use Rattle.dtml.proofs.Fit.{none}
use Rattle.dtml.proofs.Lift.{unfit-call, unfit-system, carries}
use Rattle.lines.specs.declared.turn.Turn.{Turn}
use Rattle.lines.specs.Turning.{turned_of}
use Rattle.system.specs.declared.Event.{Event}
use Rattle.system.specs.Recovering.{happened_of}
use Rattle.records.specs.Row.{stored_if}
use Rattle.machine.specs.declared.After.{After}
use Rattle.machine.specs.declared.Held.{Held}
use Rattle.machine.specs.declared.work.Worked.{Worked}
use Rattle.machine.specs.Given.{store_of, outcome_of}
use Rattle.machine.specs.Working.{Work, work_of, worked, worked_of, turn_worked, event_worked, Renewed, renewed, renewed_of}

-- ---- the ways of `work`

-- what a call on one record, or on none, gave back, beside the memory that it left
turn-left : (u : Result Turn Refusal) (m : Memory) (r : Recovery) (t : Tx)
    → worked_of (turn_worked u r t) m ≡ work_of (turn_left r t (turned_of u m)) false
turn-left (Ok u) m r t = refl
turn-left (Err k) m r t = refl

event-left : (e : Result Event Refusal) (m : Memory) (r : Recovery) (t : Tx)
    → worked_of (event_worked e r t) m ≡ work_of (event_left r t (happened_of e m)) (is_crash (happened_of e m))
event-left (Ok Event.Flushed) m r t = refl
event-left (Ok Event.Crashed) m r t = refl
event-left (Ok (Event.RecoveryLines a n r')) m r t = refl
event-left (Err k) m r t = refl

module _ (m : Memory) (r : Recovery) {bad : Bool} (t : Tx) (c : Call) {x : Worked} where
  pub unfit-row : bad ≡ true → x ≡ record { answer = Err Unfit; recovery = r; tx = t; crashed = false } → worked_of x m ≡ worked m r bad t c
  unfolding worked
  unfit-row b q = ap (λ (y : Worked). worked_of y m) q ∙ rw b

  pub on_one : {m' : Memory} {i : ℕ} {a : Ask} (u : Result Turn Refusal) → bad ≡ false → c ≡ on i a → turned_of u m' ≡ call_one m r t i a
      → x ≡ turn_worked u r t → worked_of x m' ≡ worked m r bad t c
  unfolding worked carry
  on_one {m'} u b is done q =
      ap (λ (y : Worked). worked_of y m') q ∙ turn-left u m' r t ∙ ap (λ y. work_of (turn_left r t y) false) done ∙ rw (b, is)

  pub on_none : {m' : Memory} {k : Sys} (e : Result Event Refusal) → bad ≡ false → c ≡ sys k → happened_of e m' ≡ call_system m r k
      → x ≡ event_worked e r t → worked_of x m' ≡ worked m r bad t c
  unfolding worked carry
  on_none {m'} e b is done q =
      ap (λ (y : Worked). worked_of y m') q
      ∙ event-left e m' r t
      ∙ ap (λ y. work_of (event_left r t y) (is_crash y)) done
      ∙ rw (b, is)

-- ---- a call

-- the whole store with what is left put back
abbrev back : List Tx → ℕ → Work → Outcome
back ts i w = outcome w.left.reply (store w.left.mem w.left.rec (reach w.crashed (set ts i w.left.tx)))

three : (a b c : Bool) → any_of (a ∷ any_of (b ∷ c ∷ []) ∷ []) ≡ any_of (a ∷ b ∷ c ∷ [])
three true b c = refl
three false true c = refl
three false false true = refl
three false false false = refl

pub unfit-any : (s : Store) (c : Call) → unfit s ≡ true → call s c ≡ refused s 9
unfit-any s (on t a) e = unfit-call s t a e
unfit-any s (sys k) e = unfit-system s k e

-- what is unfit beside the records is refused before anything is looked at
unfit-beside : (m : Memory) (r : Recovery) (t : Tx) (c : Call) → unfit_memory m r ≡ true
    → work_of (carry m r t c) (crashed m r c) ≡ work_of (left (says 9 0) m r t) false
unfolding carry call_one call_system unfit_one
unfit-beside m r t (on i a) e = rw e
unfit-beside m r t (sys k) e = rw e

module _ (m : Memory) (r : Recovery) (ts : List Tx) (c : Call) (bad : Bool)
    (found : bad ≡ any_of (not (eqb (length ts) 64) ∷ unfit_txs (length m.vol) ts ∷ [])) where
  unfit-is : unfit (store m r ts) ≡ any_of (unfit_memory m r ∷ bad ∷ [])
  unfolding unfit
  unfit-is = sym (three (unfit_memory m r) (not (eqb (length ts) 64)) (unfit_txs (length m.vol) ts)) ∙ ap (λ b. any_of (unfit_memory m r ∷ b ∷ [])) (sym found)

  -- the row of records is unfit
  pub row-unfit : bad ≡ true → outcome (says 9 0) (store m r ts) ≡ call (store m r ts) c
  row-unfit b = sym (unfit-any (store m r ts) c (unfit-is ∙ go (unfit_memory m r)))
    where
      go : (a : Bool) → any_of (a ∷ bad ∷ []) ≡ true
      go true = refl
      go false = rw b

  -- refused, and the record put back as it was
  unchanged : outcome (says 9 0) (store m r ts) ≡ back ts (slot_of c) (work_of (left (says 9 0) m r (record_at ts (slot_of c))) false)
  unchanged = rw (set-get_or ts (slot_of c) (tx 0 Fresh))

  put_back : call (store m r ts) c ≡ back ts (slot_of c) (worked m r bad (record_at ts (slot_of c)) c)
  unfolding worked
  put_back = go (unfit_memory m r) bad refl refl
    where
      go : (a b : Bool) → unfit_memory m r ≡ a → bad ≡ b → call (store m r ts) c ≡ back ts (slot_of c) (worked m r bad (record_at ts (slot_of c)) c)
      go true true e b = sym (row-unfit b) ∙ unchanged ∙ rw b
      go false true e b = sym (row-unfit b) ∙ unchanged ∙ rw b
      go true false e b =
          unfit-any (store m r ts) c (unfit-is ∙ rw e)
          ∙ unchanged
          ∙ ap (back ts (slot_of c)) (sym (unfit-beside m r (record_at ts (slot_of c)) c e))
          ∙ rw b
      go false false e b = carries (store m r ts) c (unfit-is ∙ rw (e, b)) ∙ rw b

pub called-whole : (m : Memory) (r : Recovery) (ts : List Tx) (c : Call) {m' : Memory} {bad : Bool} {i : ℕ} {t : Tx} {ts₁ ts₂ : List Tx} (x : Worked)
    → i ≡ slot_of c → bad ≡ any_of (not (eqb (length ts) 64) ∷ unfit_txs (length m.vol) ts ∷ []) → t ≡ record_at ts i
    → worked_of x m' ≡ worked m r bad t c → ts₁ ≡ set ts i x.tx → ts₂ ≡ pick x.crashed (crash_txs ts₁) ts₁
    → outcome (worked_of x m').left.reply (store m' x.recovery ts₂) ≡ call (store m r ts) c
called-whole m r ts c {m'} {bad} {i} x at found got done put reached =
    ap (λ ts. outcome (worked_of x m').left.reply (store m' x.recovery ts)) (reached ∙ ap (reach x.crashed) put)
    ∙ ap (back ts i) (done ∙ ap (λ y. worked m r bad y c) got)
    ∙ ap (λ j. back ts j (worked m r bad (record_at ts j) c)) at
    ∙ sym (put_back m r ts c bad found)

-- the rows that are lent are those of the memory at its end
pub with-rows : {v p o : List ℕ} {m : Memory} {r : Recovery} {ts : List Tx} {a : Reply} {z : Outcome} → v ≡ m.vol → p ≡ m.pers → o ≡ m.old
    → outcome a (store m r ts) ≡ z → outcome a (store (memory v p o m.marks m.glb) r ts) ≡ z
with-rows a b d e = rw (a, b, d) e

-- ---- making fresh

rows_same : (v p o : ℕ) → unfit_rows v p o ≡ false → (p ≡ v) × (o ≡ v)
unfolding unfit_rows
rows_same v p o e =
    let a = none (not (eqb v p)) (any_of (not (eqb v o) ∷ eqb v 0 ∷ ltb 256 v ∷ [])) e in
    let b = none (not (eqb v o)) (any_of (eqb v 0 ∷ ltb 256 v ∷ [])) a.1 in
    (sym (eqb-true v p (not-false _ a.0)), sym (eqb-true v o (not-false _ b.0)))

-- whether the records are made fresh, by what was answered
abbrev pub row_by : Result Answer Refusal → List Tx → Option (List Tx)
row_by (Ok a) row = Some row
row_by (Err k) row = None

-- the row that a store made fresh has
abbrev made : Renewed → List Tx → Outcome
made x ts = outcome_of x.vol x.pers x.old (stored_if (row_by x.after.answer (replicate 64 (tx 0 Fresh))) ts) x.after

module _ (v p o : List ℕ) (h : Held) (ts : List Tx) where
  renews : made (renewed v p o h (length ts)) ts ≡ make_fresh (store_of v p o h ts)
  unfolding renewed make_fresh fresh
  renews = go (unfit_rows (length v) (length p) (length o)) (eqb (length ts) 64) refl refl
    where
      go : (a b : Bool) → unfit_rows (length v) (length p) (length o) ≡ a → eqb (length ts) 64 ≡ b
          → made (renewed v p o h (length ts)) ts ≡ make_fresh (store_of v p o h ts)
      go true b e f = rw e
      go false false e f = rw (e, f)
      go false true e f = let same = rows_same (length v) (length p) (length o) e in rw (e, f) (rw (f, same.0, same.1))

pub made-whole : (v p o : List ℕ) (h : Held) (ts : List Tx) {v' p' o' : List ℕ} {ts₁ row : List Tx} (x : After)
    → renewed_of x v' p' o' ≡ renewed v p o h (length ts) → row ≡ replicate 64 (tx 0 Fresh) → ts₁ ≡ stored_if (row_by x.answer row) ts
    → outcome_of v' p' o' ts₁ x ≡ make_fresh (store_of v p o h ts)
made-whole v p o h ts {v'} {p'} {o'} x done blank stored =
    ap (λ xs. outcome_of v' p' o' xs x) (stored ∙ ap (λ row. stored_if (row_by x.answer row) ts) blank)
    ∙ ap (λ y. made y ts) done
    ∙ renews v p o h ts

-- its two ways
module _ (v p o : List ℕ) (h : Held) (ts : List Tx) {v' p' o' : List ℕ} {x : After} (done : renewed_of x v' p' o' ≡ renewed v p o h (length ts)) where
  pub fresh-refused : {k : Refusal} → x.answer ≡ Err k → outcome_of v' p' o' ts x ≡ make_fresh (store_of v p o h ts)
  fresh-refused is = made-whole v p o h ts x done refl (rw is)

  pub fresh-made : {a : Answer} {ts' row : List Tx} → x.answer ≡ Ok a → row ≡ replicate 64 (tx 0 Fresh) → ts' ≡ stored_if (Some row) ts
      → outcome_of v' p' o' ts' x ≡ make_fresh (store_of v p o h ts)
  fresh-made {row = row} is blank stored = made-whole v p o h ts {row = row} x done blank (rw is stored)
