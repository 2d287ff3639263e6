-- What a promise says of an outcome can be read back: an answer can be told from its number and value, a refusal of a trace from its number, and the rest is handed on
-- as it is.
use Prim.Native.Nat.{ℕ}
use mathlib.Core.Path.{◌≡◌, refl, sym, ap, ◌∙◌}
use mathlib.Core.List.{List}
use lib.Dec.{eqb}
use Rattle.std.specs.Prelude.{Option, None, Some, Result, Ok, Err}
use Rattle.bits.specs.Marks.{pick}
use Rattle.dtml.specs.declared.Answer.{Answer}
use Rattle.dtml.specs.declared.Answer.TheVariants.{Taken, Begun, Read, Written, Committed, Aborted, Recovered}
use Rattle.dtml.specs.declared.Refusal.{Refusal}
use Rattle.dtml.specs.declared.Refusal.TheVariants.{Unfit, NoWord, NoRecord, NotIdle, NotFresh, NotReady, NoLine, Idle}
use Rattle.dtml.specs.declared.Phase.TheVariants.{Fresh}
use Rattle.dtml.specs.declared.Recovery.{Recovery}
use Rattle.dtml.specs.declared.Tx.{Tx}
use Rattle.dtml.specs.Table.{Reply, reply}
use Rattle.dtml.specs.Store.{Memory, Store, tx}
use Rattle.dtml.specs.Asked.{Outcome}
use Rattle.dtml.specs.Handed.{Turned, no-turn, a_turn, Happened, nothing, a-flush, a-crash, some-lines}
use Rattle.lines.specs.declared.turn.Turn.{Turn}
use Rattle.lines.specs.Turning.{turned_of}
use Rattle.system.specs.declared.Event.{Event}
use Rattle.system.specs.Recovering.{happened_of}
use Rattle.machine.specs.declared.Held.{Held}
use Rattle.machine.specs.declared.After.{After}
use Rattle.machine.specs.declared.work.Worked.{Worked}
use Rattle.machine.specs.Given.{store_of, outcome_of}
use Rattle.machine.specs.Working.{Work, worked_of}
use Rattle.reader.specs.declared.TraceRefusal.{TraceRefusal}
use Rattle.reader.specs.declared.TraceRefusal.TheVariants.{UnknownKind, WrongLength, WrongVersion, CutShort, WrongSize, TooLong}
use Rattle.reader.specs.declared.Record.{Record}
use Rattle.reader.specs.Trace.{Item, end, stops, does}
use Rattle.reader.specs.Said.{number_of, item, header_said}

-- ---- the answer, from its number and value

abbrev answered_in : Reply → Result Answer Refusal
answered_in r =
    pick (eqb r.number 0) (Ok (Taken r.value))
    (pick (eqb r.number 1) (Ok Begun)
    (pick (eqb r.number 2) (Ok (Read r.value))
    (pick (eqb r.number 3) (Ok Written)
    (pick (eqb r.number 4) (Ok Committed)
    (pick (eqb r.number 5) (Ok Aborted)
    (pick (eqb r.number 6) (Ok (Recovered r.value))
    (pick (eqb r.number 9) (Err Unfit)
    (pick (eqb r.number 10) (Err NoWord)
    (pick (eqb r.number 11) (Err NoRecord)
    (pick (eqb r.number 12) (Err NotIdle)
    (pick (eqb r.number 13) (Err NotFresh)
    (pick (eqb r.number 14) (Err NotReady)
    (pick (eqb r.number 15) (Err NoLine) (Err Idle))))))))))))))

answered-back : (x : Result Answer Refusal) → answered_in (reply x) ≡ x
answered-back (Ok (Taken n)) = refl
answered-back (Ok Begun) = refl
answered-back (Ok (Read v)) = refl
answered-back (Ok Written) = refl
answered-back (Ok Committed) = refl
answered-back (Ok Aborted) = refl
answered-back (Ok (Recovered n)) = refl
answered-back (Err Unfit) = refl
answered-back (Err NoWord) = refl
answered-back (Err NoRecord) = refl
answered-back (Err NotIdle) = refl
answered-back (Err NotFresh) = refl
answered-back (Err NotReady) = refl
answered-back (Err NoLine) = refl
answered-back (Err Idle) = refl

-- ---- what a call gives back, with what it leaves

-- what is carried out stands beside the answer, and a refusal stands alone
abbrev turn_with : Result Answer Refusal → Tx → Result Turn Refusal
turn_with (Ok a) t = Ok (record { answer = a; tx = t })
turn_with (Err k) t = Err k

abbrev turn_in : Turned → Result Turn Refusal × Memory
turn_in (no-turn a m) = (turn_with (answered_in a) (tx 0 Fresh), m)
turn_in (a_turn d) = (turn_with (answered_in d.reply) d.tx, d.mem)

turn-back : (x : Result Turn Refusal) (m : Memory) → turn_in (turned_of x m) ≡ (x, m)
turn-back (Ok u) m = ap (λ b. (turn_with b u.tx, m)) (answered-back (Ok u.answer))
turn-back (Err k) m = ap (λ b. (turn_with b (tx 0 Fresh), m)) (answered-back (Err k))

pub turn-same : {m m' : Memory} {d : Turned} (x y : Result Turn Refusal) → turned_of x m ≡ d → turned_of y m' ≡ d
    → ◌≡◌ {A = Result Turn Refusal × Memory} (x, m) (y, m')
turn-same {m} {m'} x y p q = sym (turn-back x m) ∙ ap turn_in (p ∙ sym q) ∙ turn-back y m'

abbrev lines_with : Result Answer Refusal → ℕ → Recovery → Result Event Refusal
lines_with (Ok a) k r = Ok (Event.RecoveryLines a k r)
lines_with (Err k') k r = Err k'

abbrev event_in : Happened → Result Event Refusal × Memory
event_in (nothing a m) = (lines_with (answered_in a) 0 Recovery.Idle, m)
event_in (a-flush m) = (Ok Event.Flushed, m)
event_in (a-crash m) = (Ok Event.Crashed, m)
event_in (some-lines k h) = (lines_with (answered_in h.reply) k h.rec, h.mem)

event-back : (x : Result Event Refusal) (m : Memory) → event_in (happened_of x m) ≡ (x, m)
event-back (Ok Event.Flushed) m = refl
event-back (Ok Event.Crashed) m = refl
event-back (Ok (Event.RecoveryLines a k r)) m = ap (λ b. (lines_with b k r, m)) (answered-back (Ok a))
event-back (Err k) m = ap (λ b. (lines_with b 0 Recovery.Idle, m)) (answered-back (Err k))

pub event-same : {m m' : Memory} {d : Happened} (x y : Result Event Refusal) → happened_of x m ≡ d → happened_of y m' ≡ d
    → ◌≡◌ {A = Result Event Refusal × Memory} (x, m) (y, m')
event-same {m} {m'} x y p q = sym (event-back x m) ∙ ap event_in (p ∙ sym q) ∙ event-back y m'

pub after_same : {v v' p p' o o' : List ℕ} {ts ts' : List Tx} {d : Outcome} (x y : After) → outcome_of v p o ts x ≡ d → outcome_of v' p' o' ts' y ≡ d
    → ◌≡◌ {A = After × Store} (x, store_of v p o x.held ts) (y, store_of v' p' o' y.held ts')
after_same {v} {v'} {p} {p'} {o} {o'} {ts} {ts'} x y e f = sym (back v p o ts x) ∙ ap of (e ∙ sym f) ∙ back v' p' o' ts' y
  where
    held_in : Memory → Recovery → Held
    held_in m r = record { marks = m.marks; glb = m.glb; recovery = r }

    of : Outcome → After × Store
    of d = (record { answer = answered_in d.reply; held = held_in d.store.mem d.store.rec }, d.store)

    back : (v p o : List ℕ) (ts : List Tx) (x : After) → of (outcome_of v p o ts x) ≡ (x, store_of v p o x.held ts)
    back v p o ts x = ap (λ a. (record { answer = a; held = x.held }, store_of v p o x.held ts)) (answered-back x.answer)

pub worked_same : {m m' : Memory} {d : Work} (x y : Worked) → worked_of x m ≡ d → worked_of y m' ≡ d → ◌≡◌ {A = Worked × Memory} (x, m) (y, m')
worked_same {m} {m'} x y e f = sym (back x m) ∙ ap of (e ∙ sym f) ∙ back y m'
  where
    of : Work → Worked × Memory
    of d = (record { answer = answered_in d.left.reply; recovery = d.left.rec; tx = d.left.tx; crashed = d.crashed }, d.left.mem)

    back : (x : Worked) (m : Memory) → of (worked_of x m) ≡ (x, m)
    back x m = ap (λ a. (record { answer = a; recovery = x.recovery; tx = x.tx; crashed = x.crashed }, m)) (answered-back x.answer)

-- ---- a refusal of a trace, from its number

abbrev pub trace_refused_in : ℕ → TraceRefusal
trace_refused_in n =
    pick (eqb n 17) UnknownKind
    (pick (eqb n 18) WrongLength
    (pick (eqb n 19) WrongVersion
    (pick (eqb n 20) CutShort
    (pick (eqb n 21) WrongSize TooLong))))

trace-refused-back : (k : TraceRefusal) → trace_refused_in (number_of k) ≡ k
trace-refused-back UnknownKind = refl
trace-refused-back WrongLength = refl
trace-refused-back WrongVersion = refl
trace-refused-back CutShort = refl
trace-refused-back WrongSize = refl
trace-refused-back TooLong = refl

abbrev header_in : Result ℕ ℕ → Result ℕ TraceRefusal
header_in (Ok words) = Ok words
header_in (Err n) = Err (trace_refused_in n)

header-back : (x : Result ℕ TraceRefusal) → header_in (header_said x) ≡ x
header-back (Ok words) = refl
header-back (Err k) = ap Err (trace-refused-back k)

pub header-same : {d : Result ℕ ℕ} (x y : Result ℕ TraceRefusal) → header_said x ≡ d → header_said y ≡ d → x ≡ y
header-same x y p q = sym (header-back x) ∙ ap header_in (p ∙ sym q) ∙ header-back y

abbrev item_in : Item → Option (Result Record TraceRefusal)
item_in end = None
item_in (stops n) = Some (Err (trace_refused_in n))
item_in (does c n) = Some (Ok (record { call = c; bytes = n }))

item-back : (x : Option (Result Record TraceRefusal)) → item_in (item x) ≡ x
item-back None = refl
item-back (Some (Ok r)) = refl
item-back (Some (Err k)) = ap (λ k. Some (Err k)) (trace-refused-back k)

pub item-same : {d : Item} (x y : Option (Result Record TraceRefusal)) → item x ≡ d → item y ≡ d → x ≡ y
item-same x y p q = sym (item-back x) ∙ ap item_in (p ∙ sym q) ∙ item-back y
