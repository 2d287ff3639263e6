-- Two endings of a replay that a promise allows are equal: the ending and the text settle what is given back, every row and the buffer. What stopped it is read back from
-- the numbers of the X line. Beside a row of records, what is given back of the records is what a row of fresh records would have after it.
use Prim.Native.Nat.{ℕ}
use mathlib.Core.Path.{◌≡◌, refl, sym, ap, ◌∙◌}
use mathlib.Core.Bool.{Bool, true, false, not}
use mathlib.Core.List.{List, [], ◌∷◌}
use borrow.Author.Tests.{eq-eqb, eqb-true, not-false}
use lib.ListN.{length, replicate, length-replicate}
use lib.Dec.{eqb}
use Rattle.std.specs.Prelude.{Option, None, Some, is_some}
use Rattle.dtml.specs.declared.Phase.TheVariants.{Fresh}
use Rattle.dtml.specs.declared.Tx.{Tx}
use Rattle.dtml.specs.Store.{Store, tx}
use Rattle.dtml.specs.First.{any_of, Check, first}
use Rattle.dtml.proofs.Words.{pick-case}
use Rattle.dtml.proofs.Fit.{last, none}
use Rattle.bits.specs.Marks.{pick}
use Rattle.records.specs.Row.{stored_if}
use Rattle.machine.specs.declared.Held.{Held}
use Rattle.machine.specs.Given.{store_of}
use Rattle.reader.specs.Trace.{words_of, header_checks}
use Rattle.text.specs.Buffer.{Buffer, buffer}
use Rattle.reader.specs.declared.TraceRefusal.TheVariants.{UnknownKind, WrongLength, WrongVersion, CutShort, WrongSize, TooLong}
use Rattle.day.specs.declared.ReplayRefusal.{ReplayRefusal}
use Rattle.day.specs.declared.ReplayRefusal.TheVariants.{Unfit, Trace}
use Rattle.day.specs.declared.Stopped.{Stopped}
use Rattle.day.specs.declared.Ended.{Ended}
use Rattle.day.specs.declared.Replayed.{Replayed}
use Rattle.day.specs.Replay.{Ending, Replay, unfit_for, replay}
use Rattle.day.specs.Ends.{stop_number, refusal_in, record_in, ending_of, Ends, begins, EndsBeside}
use Rattle.unique.proofs.Readings.{trace_refused_in}

pub record Closed : Type 0 where
  pub ended : Ended
  pub vol : List ℕ
  pub pers : List ℕ
  pub old : List ℕ
  pub txs : List Tx
  pub out : List ℕ

pub record ClosedBeside : Type 0 where
  pub replayed : Replayed
  pub vol : List ℕ
  pub pers : List ℕ
  pub old : List ℕ
  pub out : List ℕ

-- what stopped a replay, from the numbers of the X line
abbrev stopped_in : ℕ → ℕ → Option Stopped
stopped_in n number =
    pick (eqb n 0) None
    (Some (record { refusal = pick (eqb n 9) Unfit (Trace (trace_refused_in n)); number = number }))

stopped-back : (s : Option Stopped) → stopped_in (refusal_in s) (record_in s) ≡ s
stopped-back None = refl
stopped-back (Some s) = at s.refusal s.number
  where
    at : (k : ReplayRefusal) (n : ℕ) → stopped_in (stop_number k) n ≡ Some (record { refusal = k; number = n })
    at Unfit n = refl
    at (Trace UnknownKind) n = refl
    at (Trace WrongLength) n = refl
    at (Trace WrongVersion) n = refl
    at (Trace CutShort) n = refl
    at (Trace WrongSize) n = refl
    at (Trace TooLong) n = refl

-- the end of a replay, from its ending and the buffer
abbrev closed_as : Option Stopped → Ending → Buffer → Closed
closed_as stopped e o =
    record {
      ended = record {
        stopped = stopped;
        totals = e.totals;
        length = o.at;
        held = record { marks = e.store.mem.marks; glb = e.store.mem.glb; recovery = e.store.rec };
      };
      vol = e.store.mem.vol;
      pers = e.store.mem.pers;
      old = e.store.mem.old;
      txs = e.store.txs;
      out = o.bytes;
    }

abbrev closed_of : Ending → Buffer → Closed
closed_of e o = closed_as (stopped_in e.refusal e.number) e o

abbrev ending_in : Closed → Ending
ending_in x = ending_of x.ended x.vol x.pers x.old x.txs

abbrev buffer_in : Closed → Buffer
buffer_in x = buffer x.out x.ended.length

closed-back : (x : Closed) → closed_of (ending_in x) (buffer_in x) ≡ x
closed-back x = ap (λ s. closed_as s (ending_in x) (buffer_in x)) (stopped-back x.ended.stopped)

pub closed_same : (p : Replay) (lent : List ℕ) (x y : Closed)
    → Ends p x.ended x.vol x.pers x.old x.txs lent x.out → Ends p y.ended y.vol y.pers y.old y.txs lent y.out → x ≡ y
closed_same p lent x y e f =
    sym (closed-back x)
    ∙ ap (λ (g : Ending). closed_of g (buffer_in x)) (e.ending ∙ sym f.ending)
    ∙ ap (closed_of (ending_in y)) (e.text ∙ sym f.text)
    ∙ closed-back y

-- ---- a replay beside a row: on a row of fresh records, what it gives back is what the row has after it

-- nothing is refused: no check applies
passes : (cs : List Check) (b : Bool) → first cs (λ k. false) b ≡ true → b ≡ true
passes [] b = λ e. e
passes (c ∷ cs) b = pick-case (λ d. (d ≡ true → b ≡ true)) c.applies (λ e q. cc) (λ e. passes cs b)

not-refused : (b : Bool) → pick b false true ≡ true → b ≡ false
not-refused true e = sym e
not-refused false e = refl

-- only beside a row of 64
begins-64 : (bs : List ℕ) (s : Store) → begins bs s ≡ true → length s.txs ≡ 64
begins-64 bs s e =
    let v = not (eqb (length s.mem.vol) (words_of bs)) in
    let p = not (eqb (length s.mem.pers) (words_of bs)) in
    let o = not (eqb (length s.mem.old) (words_of bs)) in
    let t = not (eqb (length s.txs) 64) in
    let fits = not-refused (any_of (v ∷ p ∷ o ∷ t ∷ [])) (passes (header_checks bs) (first (unfit_for (words_of bs) s) (λ k. false) true) e) in
    let a = none v (any_of (p ∷ o ∷ t ∷ [])) fits in
    let b = none p (any_of (o ∷ t ∷ [])) a.1 in
    let c = none o (any_of (t ∷ [])) b.1 in
    eqb-true (length s.txs) 64 (not-false _ (last t ∙ c.1))

stored-64 : (row ts : List Tx) → length ts ≡ 64 → stored_if (Some row) ts ≡ row
stored-64 row ts e = rw (eq-eqb (length ts) 64 e)

-- records that are stored where the store is made fresh are the same if the row is the same after it
same-records : (t u : Option (List Tx)) (ts : List Tx) (b : Bool) → is_some t ≡ b → is_some u ≡ b → (b ≡ true → length ts ≡ 64)
    → stored_if t ts ≡ stored_if u ts → t ≡ u
same-records None None ts b e f long same = refl
same-records None (Some u) ts b e f long same = cc
same-records (Some t) None ts b e f long same = cc
same-records (Some t) (Some u) ts b e f long same =
    ap Some (sym (stored-64 t ts (long (sym e))) ∙ same ∙ stored-64 u ts (long (sym e)))

abbrev opened : ClosedBeside → List Tx → Closed
opened x ts = record { ended = x.replayed.ended; vol = x.vol; pers = x.pers; old = x.old; txs = stored_if x.replayed.txs ts; out = x.out }

abbrev shut : Closed → Option (List Tx) → ClosedBeside
shut x ts = record { replayed = record { ended = x.ended; txs = ts }; vol = x.vol; pers = x.pers; old = x.old; out = x.out }

pub beside_same : (bs vol pers old : List ℕ) (held : Held) (n : ℕ) (lent : List ℕ) (x y : ClosedBeside)
    → EndsBeside bs (store_of vol pers old held) n x.replayed x.vol x.pers x.old lent x.out
    → EndsBeside bs (store_of vol pers old held) n y.replayed y.vol y.pers y.old lent y.out → x ≡ y
beside_same bs vol pers old held n lent x y e f =
    let row = replicate n (tx 0 Fresh) in
    let long = length-replicate n (tx 0 Fresh) in
    let store = store_of vol pers old held row in
    let both = closed_same (replay bs store) lent (opened x row) (opened y row) (e.ends row long) (f.ends row long) in
    let records = same-records x.replayed.txs y.replayed.txs row (begins bs store) (e.changed row long) (f.changed row long) (begins-64 bs store)
    (ap (λ (z : Closed). z.txs) both) in
    ap (λ z. shut z x.replayed.txs) both ∙ ap (shut (opened y row)) records
