-- What a turn leaves, of what its callees promise, and what the loop knows before and after it: laws over plain values.
use Prim.Native.Nat.{ℕ, ◌+◌, ◌-◌, ◌≤◌, ◌<◌}
use native.Mathlib.Nat.{add-zero}
use native.Mathlib.Omega.{arith}
use mathlib.Core.Path.{◌≡◌, refl, sym, ap, subst, ◌∙◌}
use mathlib.Core.Bool.{true, false}
use mathlib.Core.List.{List, []}
use lib.ListN.{length, set, drop, replicate}
use lib.Dec.{eqb}
use lib.Seq.{set-get_or}
use Rattle.std.specs.Prelude.{Option, Some, None, Result, Ok, Err}
use Rattle.bits.specs.Marks.{pick, count_of}
use Rattle.dtml.specs.declared.Answer.{Answer}
use Rattle.dtml.specs.declared.Refusal.{Refusal}
use Rattle.dtml.specs.declared.Ask.{Ask}
use Rattle.dtml.specs.declared.Call.{Call}
use Rattle.dtml.specs.declared.Call.TheVariants.{On as on, Of as sys}
use Rattle.dtml.specs.declared.Phase.TheVariants.{Fresh}
use Rattle.dtml.specs.declared.Recovery.{Recovery}
use Rattle.dtml.specs.declared.Recovery.TheVariants.{Idle, C1}
use Rattle.dtml.specs.declared.Sys.{Sys}
use Rattle.dtml.specs.declared.Tx.{Tx}
use Rattle.dtml.specs.Table.{Reply, reply}
use Rattle.dtml.specs.Store.{Memory, Store, store, size, record_at, tx}
use Rattle.dtml.specs.Lines.{crash_txs}
use Rattle.dtml.specs.Checks.{not_idle}
use Rattle.dtml.specs.Handed.{Left, turn_left, event_left, call_one, call_system, carry, is_crash, crashed, reach, slot_of}
use Rattle.dtml.proofs.Happens.{Counts, Counted, counted-so, crash-marks}
use Rattle.lines.specs.declared.turn.Turn.{Turn}
use Rattle.lines.specs.Turning.{turned_of}
use Rattle.system.specs.declared.Event.{Event}
use Rattle.system.specs.Recovering.{happened_of}
use Rattle.reader.specs.declared.TraceRefusal.{TraceRefusal}
use Rattle.reader.specs.declared.TraceRefusal.TheVariants.{UnknownKind, WrongLength, WrongVersion, CutShort, WrongSize, TooLong}
use Rattle.reader.specs.declared.Record.{Record}
use Rattle.reader.specs.declared.place.Read.{Read}
use Rattle.reader.specs.declared.place.Reader.{Reader}
use Rattle.reader.specs.Trace.{does, found, script, script_of}
use Rattle.reader.specs.Said.{item, number_of, place_after, moved_on}
use Rattle.reader.proofs.Scripts.{script-end, script-stops, refusal-small, after-inside}
use Rattle.text.specs.Buffer.{Buffer, buffer, puts}
use Rattle.day.specs.declared.Totals.{Totals}
use Rattle.day.specs.declared.Replayed.{Replayed}
use Rattle.day.specs.Replay.{totals, answer_text, done}
use Rattle.day.specs.Ends.{refusal_in, record_in, EndsBeside}
use Rattle.day.specs.Counted.{counted, Few}
use Rattle.day.proofs.Going.{totals-same, rest_of, Going, going_start, going_on, ends_so, prints-so, text-so, one-line-so, next-record, few-records}
use Rattle.trace.specs.declared.run.Change.{Change}
use Rattle.trace.specs.declared.run.Moved.{Moved}
use Rattle.trace.specs.Turning.{Moment, recovery_after, record_after, crashed_by, moment_of, counts, call_moment, OneLine, Brief, Ready, stopped_at, Through}

-- ---- what a call leaves

abbrev moment : Memory → Recovery → Tx → Totals → Buffer → Moment
moment m r t n o = record { mem = m; rec = r; tx = t; totals = n; text = o; crashed = false }

module _ (m : Memory) (r : Recovery) (t : Tx) (n : Totals) (o : Buffer) where
  -- what a call left and printed, and how many bytes that are
  abbrev Told : Call → Moment → Type 0
  Told call w = (w ≡ call_moment m r t n o call) × Brief m r t n call

  told : (call : Call) (l : Left) {n' : Totals} {o' : Buffer} → l ≡ carry m r t call → n' ≡ counts m r n call l.reply
      → o' ≡ puts o (answer_text n'.records l.reply) → length (answer_text n'.records l.reply) ≤ 30
      → Told call (record { mem = l.mem; rec = l.rec; tx = l.tx; totals = n'; text = o'; crashed = crashed m r call })
  told call l carried tallied printed short = (rw (← carried, printed, tallied), rw (← carried) (rw tallied at short))

  -- ---- on a record

  -- the numbers after an answer
  abbrev RecordCounts : Totals → Result Answer Refusal → Type 0
  RecordCounts n' a = n' ≡ totals (n.records + 1) n.crashes n.lines n.cut (n.committed + pick (eqb (reply a).number 4) 1 0)

  record-counts : (i : ℕ) (q : Ask) {n' : Totals} (a : Result Answer Refusal) → RecordCounts n' a → n' ≡ counts m r n (on i q) (reply a)
  unfolding counted
  record-counts i q a e = e ∙ totals-same refl (sym (add-zero n.crashes)) (sym (add-zero n.lines)) (sym (add-zero n.cut)) refl

  module _ (m' : Memory) (i : ℕ) (q : Ask) {z : Result Turn Refusal} (left : turned_of z m' ≡ call_one m r t i q) where
    as-turned : {y : Result Turn Refusal} → z ≡ y → turned_of y m' ≡ call_one m r t i q
    as-turned is = subst (λ y. turned_of y m' ≡ call_one m r t i q) is left

    pub record-refused : {n' : Totals} {o' : Buffer} {k : Refusal} → z ≡ Err k → RecordCounts n' (Err k)
        → o' ≡ puts o (answer_text n'.records (reply (Err k))) → length (answer_text n'.records (reply (Err k))) ≤ 30
        → Told (on i q) (moment m' r t n' o')
    unfolding carry
    record-refused {k = k} is n printed short = told (on i q) _ (ap (turn_left r t) (as-turned is)) (record-counts i q (Err k) n) printed short

    pub record-went : {n' : Totals} {o' : Buffer} {u : Turn} → z ≡ Ok u → RecordCounts n' (Ok u.answer)
        → o' ≡ puts o (answer_text n'.records (reply (Ok u.answer))) → length (answer_text n'.records (reply (Ok u.answer))) ≤ 30
        → Told (on i q) (moment m' r u.tx n' o')
    unfolding carry
    record-went {u = u} is n printed short = told (on i q) _ (ap (turn_left r t) (as-turned is)) (record-counts i q (Ok u.answer) n) printed short

  -- ---- on none

  -- the numbers after so many crashes, lines and words that were cut off
  abbrev Adds : Totals → ℕ → ℕ → ℕ → Type 0
  Adds n' crashes lines cut = n' ≡ totals (n.records + 1) (n.crashes + crashes) (n.lines + lines) (n.cut + cut) n.committed

  none-counts : {k : Sys} {n' : Totals} {a : Reply} {crashes lines cut : ℕ} → Counts k r m.marks a crashes lines cut → Adds n' crashes lines cut → n' ≡ counts m r n (sys k) a
  unfolding counted
  none-counts h e =
      e ∙ totals-same refl (ap (λ x. n.crashes + x) (sym h.crashes)) (ap (λ x. n.lines + x) (sym h.lines)) (ap (λ x. n.cut + x) (sym h.cut))
      (sym (add-zero n.committed))

  module _ (m' : Memory) (k : Sys) {z : Result Event Refusal} (left : happened_of z m' ≡ call_system m r k) where
    as-happened : {y : Result Event Refusal} → z ≡ y → happened_of y m' ≡ call_system m r k
    as-happened is = subst (λ y. happened_of y m' ≡ call_system m r k) is left

    -- what it is counted for
    counted-as : {y : Result Event Refusal} → z ≡ y → Counted k r m.marks (happened_of y m')
    counted-as is = subst (Counted k r m.marks) (sym (as-happened is)) (counted-so m r k)

    -- what is left, where it was a crash or not
    none-told : {n' : Totals} {o' : Buffer} {y : Result Event Refusal} → z ≡ y → (l : Left) → l ≡ event_left r t (happened_of y m') → n' ≡ counts m r n (sys k) l.reply
        → o' ≡ puts o (answer_text n'.records l.reply) → length (answer_text n'.records l.reply) ≤ 30
        → Told (sys k) (record { mem = l.mem; rec = l.rec; tx = l.tx; totals = n'; text = o'; crashed = is_crash (happened_of y m') })
    unfolding carry
    none-told is l so tallied printed short =
        rw (ap is_crash (as-happened is)) (told (sys k) l (so ∙ ap (event_left r t) (as-happened is)) tallied printed short)

    pub none-refused : {n' : Totals} {o' : Buffer} {e : Refusal} → z ≡ Err e → Adds n' 0 0 0
        → o' ≡ puts o (answer_text n'.records (reply (Err e))) → length (answer_text n'.records (reply (Err e))) ≤ 30
        → Told (sys k) (moment m' r t n' o')
    none-refused is n printed short = none-told is _ refl (none-counts (counted-as is).1 n) printed short

    pub none-flushed : {n' : Totals} {o' : Buffer} → z ≡ Ok Event.Flushed → Adds n' 0 0 0 → o' ≡ o → Told (sys k) (moment m' r t n' o')
    unfolding puts
    none-flushed is n same = none-told is _ refl (none-counts (counted-as is) n) same (omega arith)

    pub none-crashed : {n' : Totals} {o' : Buffer} (cut : ℕ) → z ≡ Ok Event.Crashed → cut ≡ pick (not_idle r) 0 (count_of m'.marks) → Adds n' 1 0 cut → o' ≡ o
        → Told (sys k) (record { mem = m'; rec = C1; tx = t; totals = n'; text = o'; crashed = true })
    unfolding puts
    none-crashed cut is e tallied same =
        let marks = ap (λ (x : List ℕ). pick (not_idle r) 0 (count_of x)) (crash-marks m r k (as-happened is)) in
        none-told is _ refl (none-counts (counted-as is) (tallied ∙ totals-same refl refl refl (ap (λ x. n.cut + x) (e ∙ marks)) refl)) same (omega arith)

    -- one line at the most
    pub lines-low : {a : Answer} {lines : ℕ} {r' : Recovery} → z ≡ Ok (Event.RecoveryLines a lines r') → OneLine (sys k) → lines ≤ 1
    lines-low {a} is one = subst (λ x. x ≤ 1) (counted-as is).lines (one (reply (Ok a)))

    pub none-lines : {n' : Totals} {o' : Buffer} {a : Answer} {lines : ℕ} {r' : Recovery} → z ≡ Ok (Event.RecoveryLines a lines r') → Adds n' 0 lines 0
        → o' ≡ puts o (answer_text n'.records (reply (Ok a))) → length (answer_text n'.records (reply (Ok a))) ≤ 30
        → Told (sys k) (moment m' r' t n' o')
    none-lines is n printed short = none-told is _ refl (none-counts (counted-as is) n) printed short

-- ---- a refusal's number

-- a refusal's number is not 0
stop-number : (k : TraceRefusal) (j : ℕ) → pick (eqb (number_of k) 0) 0 j ≡ j
stop-number UnknownKind j = refl
stop-number WrongLength j = refl
stop-number WrongVersion j = refl
stop-number CutShort j = refl
stop-number WrongSize j = refl
stop-number TooLong j = refl

refusal-so : (a : Option TraceRefusal) (j : ℕ) → record_in (stopped_at a j) ≡ pick (eqb (refusal_in (stopped_at a j)) 0) 0 (j + 1)
refusal-so None j = refl
refusal-so (Some k) j = sym (stop-number k (j + 1))

refusal-low : (a : Option TraceRefusal) (j : ℕ) → refusal_in (stopped_at a j) < 100
refusal-low None j = omega arith
refusal-low (Some k) j = refusal-small k

-- ---- the loop's invariant

-- the replay has come to the reader's place
pub record Kept (bs : List ℕ) (n : ℕ) (first : List ℕ) (m : Memory) (o : Buffer) (t : Totals) (r : Recovery) (ts : List Tx) (d : Reader) : Type 0 where
  pub same : d.trace.now ≡ bs
  pub going : Going n bs first (store m r ts) t d.at o
  pub short : length bs ≤ 65536

pub starts : {bs first : List ℕ} {m : Memory} {place : ℕ} {t : Totals} {rows : List Tx} (d : Reader) → d.trace.now ≡ bs → d.at ≡ 3
    → Ready bs m place → t ≡ totals 0 0 0 0 0 → rows ≡ replicate 64 (tx 0 Fresh) → Kept bs (size m) first m (buffer first place) t Idle rows d
starts {bs} {first} {m} d same three ready none blank = record {
  same = same;
  going = rw (none, blank, ready.fresh-store, ready.empty, three) (going_start (size m) bs first ready.some-words ready.few-words ready.header);
  short = ready.short;
}

module _ {bs : List ℕ} {n : ℕ} {first : List ℕ} {m : Memory} {o : Buffer} {t : Totals} {r : Recovery} {ts : List Tx} (d : Reader) (kept : Kept bs n first m o t r ts d) (z : Read)
    (next : (item z.item ≡ found (drop d.at d.trace.now)) × (z.reader ≡ moved_on d)) where
  here : item z.item ≡ found (drop d.at bs)
  here = next.0 ∙ ap (λ (xs : List ℕ). found (drop d.at xs)) kept.same

  -- ---- a turn more

  module _ (x : Record) (is : z.item ≡ Some (Ok x)) where
    stands : found (drop d.at bs) ≡ does x.call x.bytes
    stands = sym here ∙ ap item is

    inside : (d.at < d.at + x.bytes) × (d.at + x.bytes ≤ length bs)
    inside = after-inside bs d.at x.call x.bytes stands

    past : z.reader.at ≡ d.at + x.bytes
    past = ap (λ (y : Reader). y.at) next.1 ∙ ap (place_after d.at) (sym next.0 ∙ ap item is)

    pub asks : Few 65536 t × OneLine x.call
    asks = (few-records kept.going kept.short, one-line-so bs d.at x.call x.bytes stands)

    module _ {i : ℕ} (slot : i ≡ slot_of x.call) (y : Moved) {m' : Memory} {o' : Buffer}
        (says : moment_of y m' o' r (record_at ts i) ≡ call_moment m r (record_at ts i) t o x.call) (brief : Brief m r (record_at ts i) t x.call) where
      -- the replay has come to the place after the record
      abbrev GoesAt : ℕ → Moment → Type 0
      GoesAt k w = Going n bs first (store w.mem w.rec (reach w.crashed (set ts k w.tx))) w.totals (d.at + x.bytes) w.text

      goes : GoesAt i (moment_of y m' o' r (record_at ts i))
      unfolding counted
      goes =
          subst (GoesAt i) (sym says)
          (subst (λ k. GoesAt k (call_moment m r (record_at ts k) t o x.call)) (sym slot)
          (going_on n bs first (store m r ts) t d.at o kept.going x.call x.bytes stands _ refl (subst (λ k. Brief m r (record_at ts k) t x.call) slot brief)))

      -- with such a recovery and such records; and the bytes that are left are fewer
      abbrev pub Onward : Recovery → List Tx → Type 0
      Onward v rows = Kept bs n first m' o' y.totals v rows z.reader × (length bs - z.reader.at < length bs - d.at)

      abbrev put_at : Change → List Tx
      put_at c = reach (crashed_by c) (set ts i (record_after c (record_at ts i)))

      onward : (c : Change) → y.change ≡ c → (rows : List Tx) → rows ≡ put_at c → Onward (recovery_after c r) rows
      onward c e rows q = (
        record { same = ap (λ (y : Reader). y.trace.now) next.1 ∙ kept.same; going = rw (q, ← e, past) goes; short = kept.short },
        let b = inside in rw past (omega arith),
      )

      pub still-on : y.change ≡ Change.Nothing → Onward r ts
      still-on e = onward Change.Nothing e ts (sym (set-get_or ts i (tx 0 Fresh)))

      pub turned-on : {t' : Tx} → y.change ≡ Change.Record t' → Onward r (set ts i t')
      turned-on {t'} e = onward (Change.Record t') e (set ts i t') refl

      pub recovering-on : {r' : Recovery} → y.change ≡ Change.Recovery r' → Onward r' ts
      recovering-on {r'} e = onward (Change.Recovery r') e ts (sym (set-get_or ts i (tx 0 Fresh)))

      pub crashed-on : y.change ≡ Change.Crash → {rows : List Tx} → rows ≡ crash_txs ts → Onward C1 rows
      crashed-on e {rows} q = onward Change.Crash e rows (q ∙ ap crash_txs (sym (set-get_or ts i (tx 0 Fresh))))

  -- ---- after the loop

  ends-with : (a : Option TraceRefusal) → rest_of bs d.at ≡ script [] (refusal_in (stopped_at a t.records))
      → Through (done n (script_of bs)) (record { refusal = a; totals = t; recovery = r; txs = ts }) m first o
  ends-with a left =
      let k = refusal_in (stopped_at a t.records) in
      let number = refusal-so a t.records in
      record {
        ending = rw number (ends_so n bs first (store m r ts) t d.at o kept.going k left);
        text = rw number (prints-so n bs first (store m r ts) t d.at o kept.going k left);
        short = text-so n bs first (store m r ts) t d.at o kept.going k left (refusal-low a t.records) kept.short;
        few = next-record kept.going kept.short;
      }

  -- the trace's end
  pub through-end : z.item ≡ None → {a : Option TraceRefusal} → a ≡ None → Through (done n (script_of bs)) (record { refusal = a; totals = t; recovery = r; txs = ts }) m first o
  through-end is {a} e = rw e (ends-with None (script-end (drop d.at bs) (sym here ∙ ap item is)))

  -- a record that is refused
  pub through-stop : {k : TraceRefusal} → z.item ≡ Some (Err k) → {a : Option TraceRefusal} → a ≡ Some k
      → Through (done n (script_of bs)) (record { refusal = a; totals = t; recovery = r; txs = ts }) m first o
  through-stop {k} is {a} e = rw e (ends-with (Some k) (script-stops (drop d.at bs) (number_of k) (sym here ∙ ap item is)))

-- ---- before and after the loop

-- the rows that are lent are those of the memory at its end, and the buffer is that of the page
pub with-rows : {bs : List ℕ} {with : List Tx → Store} {n : ℕ} {r : Replayed} {vol pers old out₀ out vol' pers' old' out' : List ℕ} → vol ≡ vol' → pers ≡ pers' → old ≡ old' → out ≡ out'
    → EndsBeside bs with n r vol' pers' old' out₀ out' → EndsBeside bs with n r vol pers old out₀ out
with-rows a b d e z = rw (a, b, d, e) z
