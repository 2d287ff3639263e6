-- What the code of a replay is handed and gives back, as the definitions have it.
use Rattle.std.specs.Prelude.{ℕ, ◌≤◌, ◌≡◌, Bool, true, false, not, List, [], ◌∷◌, length, eqb, Option, Some, None, is_some, Result, Ok, Err}
use Rattle.dtml.specs.declared.Tx.{Tx}
use Rattle.dtml.specs.Store.{Store}
use Rattle.dtml.specs.First.{any_of, first}
use Rattle.bits.specs.Marks.{pick}
use Rattle.records.specs.Row.{stored_if}
use Rattle.machine.specs.Given.{store_of}
use Rattle.reader.specs.Said.{number_of, header_of}
use Rattle.reader.specs.Trace.{words_of, header_checks}
use Rattle.text.specs.Buffer.{buffer, puts}
use Rattle.day.specs.declared.ReplayRefusal.{ReplayRefusal}
use Rattle.day.specs.declared.ReplayRefusal.TheVariants.{Unfit, Trace}
use Rattle.day.specs.declared.Stopped.{Stopped}
use Rattle.day.specs.declared.Ended.{Ended}
use Rattle.day.specs.declared.Replayed.{Replayed}
use Rattle.day.specs.Replay.{Ending, Replay, text_of, unfit_for, replay}

-- a refusal's number: 9 for rows that do not fit
abbrev pub stop_number : ReplayRefusal → ℕ
stop_number Unfit = 9
stop_number (Trace refusal) = number_of refusal

-- rows of these lengths do not fit n words
abbrev pub misfit : ℕ → ℕ → ℕ → ℕ → ℕ → Bool
misfit vol pers old txs n = any_of (not (eqb vol n) ∷ not (eqb pers n) ∷ not (eqb old n) ∷ not (eqb txs 64) ∷ [])

-- before the first record: N, or the number of the refusal, the header's or that of rows of these lengths
abbrev pub begun_if : Result ℕ ℕ → ℕ → ℕ → ℕ → ℕ → Result ℕ ℕ
begun_if (Ok n) vol pers old txs = pick (misfit vol pers old txs n) (Err 9) (Ok n)
begun_if (Err k) vol pers old txs = Err k

abbrev pub begun : List ℕ → ℕ → ℕ → ℕ → ℕ → Result ℕ ℕ
begun bs = begun_if (header_of bs)

-- what the code says of it
abbrev pub begun_said : Result ℕ ReplayRefusal → Result ℕ ℕ
begun_said (Ok words) = Ok words
begun_said (Err refusal) = Err (stop_number refusal)

-- the numbers of the X line, 0 and 0 if nothing stopped the replay
abbrev pub refusal_in : Option Stopped → ℕ
refusal_in None = 0
refusal_in (Some s) = stop_number s.refusal

abbrev pub record_in : Option Stopped → ℕ
record_in None = 0
record_in (Some s) = s.number

abbrev pub ending_of : Ended → List ℕ → List ℕ → List ℕ → List Tx → Ending
ending_of r vol pers old ts =
    record { refusal = refusal_in r.stopped; number = record_in r.stopped; totals = r.totals; store = store_of vol pers old r.held ts }

-- No trace prints more: 30 bytes for each of 21,844 records, 11 for the X line and 107 for the T line.
abbrev pub longest : ℕ
longest = 655438

-- A call that was lent the buffer out, and left the word rows, the row of records and the buffer out', has done the replay p.
pub record Ends (p : Replay) (r : Ended) (vol pers old : List ℕ) (ts : List Tx) (out out' : List ℕ) : Type 0 where
  pub ending : ending_of r vol pers old ts ≡ p.ending
  -- as much of the text as there is room for, from the buffer's start
  pub text : buffer out' r.length ≡ puts (buffer out 0) (text_of p)
  pub short : length (text_of p) ≤ longest

-- ---- beside a row of records that is not lent

-- no refusal before the first record: the store is made fresh
abbrev pub begins : List ℕ → Store → Bool
begins bs s = first (header_checks bs) (λ k. false) (first (unfit_for (words_of bs) s) (λ k. false) true)

-- A call beside a row of n records has done the replay of every store that has such a row: the row is changed to the 64 records that are given back, or kept if there
-- are none, which is so exactly where a refusal comes before the first record.
pub record EndsBeside (bs : List ℕ) (with : List Tx → Store) (n : ℕ) (r : Replayed) (vol pers old out out' : List ℕ) : Type 0 where
  pub ends : (ts : List Tx) → length ts ≡ n → Ends (replay bs (with ts)) r.ended vol pers old (stored_if r.txs ts) out out'
  pub changed : (ts : List Tx) → length ts ≡ n → is_some r.txs ≡ begins bs (with ts)
