-- What a turn of the replay's loop leaves, of what it is handed, and what the loop leaves. A reader of the promises can leave this out.
use Rattle.std.specs.Prelude.{ℕ, ◌+◌, ◌≤◌, ◌<◌, ◌≡◌, Bool, true, false, List, length, replicate, Option, Some, None}
use Rattle.dtml.specs.declared.Call.{Call}
use Rattle.dtml.specs.declared.Phase.TheVariants.{Fresh}
use Rattle.dtml.specs.declared.Recovery.{Recovery}
use Rattle.dtml.specs.declared.Recovery.TheVariants.{Idle, C1}
use Rattle.dtml.specs.declared.Tx.{Tx}
use Rattle.dtml.specs.Table.{Reply}
use Rattle.dtml.specs.Store.{Memory, store, fresh, size, tx}
use Rattle.dtml.specs.Counting.{lines_in}
use Rattle.dtml.specs.Handed.{carry, crashed}
use Rattle.reader.specs.declared.TraceRefusal.{TraceRefusal}
use Rattle.text.specs.Buffer.{Buffer, buffer, puts}
use Rattle.day.specs.declared.Totals.{Totals}
use Rattle.day.specs.declared.Stopped.{Stopped}
use Rattle.day.specs.declared.ReplayRefusal.TheVariants.{Trace}
use Rattle.day.specs.declared.Replayed.{Replayed}
use Rattle.day.specs.Replay.{Replay, answer_text, end_text, text_of}
use Rattle.day.specs.Ends.{longest, refusal_in, record_in, Ends}
use Rattle.day.specs.Counted.{counted}
use Rattle.trace.specs.declared.run.Change.{Change}
use Rattle.trace.specs.declared.run.Moved.{Moved}
use Rattle.trace.specs.declared.run.Reached.{Reached}

-- ---- a turn

pub record Moment : Type 0 where
  pub mem : Memory
  pub rec : Recovery
  pub tx : Tx
  pub totals : Totals
  pub text : Buffer
  pub crashed : Bool

-- recovery, the record and whether a crash reached all records, after a change
abbrev pub recovery_after : Change → Recovery → Recovery
recovery_after Change.Nothing r = r
recovery_after (Change.Record t') r = r
recovery_after (Change.Recovery r') r = r'
recovery_after Change.Crash r = C1

abbrev pub record_after : Change → Tx → Tx
record_after Change.Nothing t = t
record_after (Change.Record t') t = t'
record_after (Change.Recovery r') t = t
record_after Change.Crash t = t

abbrev pub crashed_by : Change → Bool
crashed_by Change.Nothing = false
crashed_by (Change.Record t') = false
crashed_by (Change.Recovery r') = false
crashed_by Change.Crash = true

abbrev pub moment_of : Moved → Memory → Buffer → Recovery → Tx → Moment
moment_of x m o r t = record {
  mem = m;
  rec = recovery_after x.change r;
  tx = record_after x.change t;
  totals = x.totals;
  text = o;
  crashed = crashed_by x.change;
}

-- the numbers after a call that was answered a
abbrev pub counts : Memory → Recovery → Totals → Call → Reply → Totals
counts m r n call a = counted n r m.marks call a

-- a call
abbrev pub call_moment : Memory → Recovery → Tx → Totals → Buffer → Call → Moment
call_moment m r t n o call =
    let l = carry m r t call in
    record {
      mem = l.mem;
      rec = l.rec;
      tx = l.tx;
      totals = counts m r n call l.reply;
      text = puts o (answer_text (counts m r n call l.reply).records l.reply);
      crashed = crashed m r call;
    }

-- a record of a trace is one recovery line at the most, and its line has thirty bytes at the most
abbrev pub OneLine : Call → Type 0
OneLine call = (a : Reply) → lines_in call a ≤ 1

abbrev pub Brief : Memory → Recovery → Tx → Totals → Call → Type 0
Brief m r t n call = let l = carry m r t call in length (answer_text (counts m r n call l.reply).records l.reply) ≤ 30

-- ---- the loop

-- what it asks for: a fresh store, a trace with a sound header, and a page with nothing on it
pub record Ready (trace : List ℕ) (m : Memory) (at : ℕ) : Type 0 where
  pub fresh-store : store m Idle (replicate 64 (tx 0 Fresh)) ≡ fresh (size m)
  pub some-words : 1 ≤ size m
  pub few-words : size m ≤ 256
  pub header : 3 ≤ length trace
  pub short : length trace ≤ 65536
  pub empty : at ≡ 0

-- what stopped it, after so many records
abbrev pub stopped_at : Option TraceRefusal → ℕ → Option Stopped
stopped_at None records = None
stopped_at (Some k) records = Some (record { refusal = Trace k; number = records + 1 })

abbrev pub stop_of : Reached → Option Stopped
stop_of x = stopped_at x.refusal x.totals.records

-- It has done the replay p, but for the last lines of the text: put at the end of what stands on the page, they make the text whole.
pub record Through (p : Replay) (x : Reached) (m : Memory) (first : List ℕ) (o : Buffer) : Type 0 where
  pub ending : record { refusal = refusal_in (stop_of x); number = record_in (stop_of x); totals = x.totals; store = store m x.recovery x.txs } ≡ p.ending
  pub text : (q : Buffer) → q ≡ puts o (end_text (refusal_in (stop_of x)) (record_in (stop_of x)) x.totals) → q ≡ puts (buffer first 0) (text_of p)
  pub short : length (text_of p) ≤ longest
  pub few : x.totals.records < 65536

-- the whole of it: there are records to give back, and with them the replay p is done
pub record Runs (p : Replay) (x : Replayed) (m : Memory) (first out : List ℕ) : Type 0 where
  pub rows : List Tx
  pub given : x.txs ≡ Some rows
  pub ends : Ends p x.ended m.vol m.pers m.old rows first out
