-- Document 01, "The trace": a replay, the numbers of its T line, and what is printed.
use Rattle.std.specs.Prelude.{ℕ, ◌+◌, not, List, [], ◌∷◌, ◌++◌, length, eqb}
use Rattle.bits.specs.Marks.{pick}
use Rattle.dtml.specs.Table.{Reply}
use Rattle.dtml.specs.Store.{Store, fresh}
use Rattle.dtml.specs.declared.Call.{Call}
use Rattle.dtml.specs.First.{any_of, Check, ◌⇒◌, first}
use Rattle.dtml.specs.Calls.{call}
use Rattle.dtml.specs.Demands.{after}
use Rattle.reader.specs.Trace.{words_of, header_checks, Script, script_of}
use Rattle.text.specs.Text.{answer_line, stop_line, totals_line}
use Rattle.day.specs.declared.Totals.{Totals}

-- ---- the history of records done

-- the answers of a schedule, one for each record
unfoldable pub answers : Store → List Call → List Reply
answers s [] = []
answers s (c ∷ cs) = (call s c).reply ∷ answers (call s c).store cs

-- how many of them have this number
unfoldable pub answered : ℕ → List Reply → ℕ
answered k [] = 0
answered k (a ∷ rest) = pick (eqb a.number k) 1 0 + answered k rest

-- ---- the T line

abbrev pub totals : ℕ → ℕ → ℕ → ℕ → ℕ → Totals
totals records crashes lines cut committed =
    record { records = records; crashes = crashes; lines = lines; cut = cut; committed = committed }

-- Records done; crashes, recovery lines carried out, and words entered by W5 in transactions that a crash cut off before E2, the counts of demand 3;
-- transactions committed (answers 4).
abbrev pub totals_of : ℕ → List Call → Totals
totals_of n cs =
    totals
    (length cs)
    (after n cs).past.crashes
    (after n cs).past.lines
    (after n cs).past.cut
    (answered 4 (answers (fresh n) cs))

-- ---- a replay

-- how it ends: the trace refusal, or 0; the number of the record refused, or 0; the T line's numbers; and the store
pub record Ending : Type 0 where
  pub refusal : ℕ
  pub number : ℕ
  pub totals : Totals
  pub store : Store

pub record Replay : Type 0 where
  pub answers : List Reply
  pub ending : Ending

-- a refusal before the first record changes nothing
abbrev pub stopped : ℕ → Store → Replay
stopped k s = record { answers = []; ending = record { refusal = k; number = 0; totals = totals 0 0 0 0 0; store = s } }

-- The records are done one by one from a fresh store; a refusal is that of the record after them.
abbrev pub done : ℕ → Script → Replay
done n p =
    record {
      answers = answers (fresh n) p.calls;
      ending = record {
        refusal = p.refusal;
        number = pick (eqb p.refusal 0) 0 (length p.calls + 1);
        totals = totals_of n p.calls;
        store = (after n p.calls).store;
      };
    }

-- the lent rows do not fit the header's N
abbrev pub unfit_for : ℕ → Store → List Check
unfit_for n s =
    any_of (not (eqb (length s.mem.vol) n) ∷ not (eqb (length s.mem.pers) n) ∷ not (eqb (length s.mem.old) n) ∷ not (eqb (length s.txs) 64) ∷ []) ⇒ 9
    ∷ []

unfoldable pub replay : List ℕ → Store → Replay
replay bs s =
    first (header_checks bs) (λ k. stopped k s)
    (first (unfit_for (words_of bs) s) (λ k. stopped k s) (done (words_of bs) (script_of bs)))

-- ---- what is printed

-- For each record answered other than 0: record number (from 1), answer, value.
abbrev pub answer_text : ℕ → Reply → List ℕ
answer_text k a = pick (eqb a.number 0) [] (answer_line k a.number a.value)

unfoldable pub answer_lines : ℕ → List Reply → List ℕ
answer_lines k [] = []
answer_lines k (a ∷ rest) = answer_text k a ++ answer_lines (k + 1) rest

-- If a refusal stops it, the X line; last, the T line.
abbrev pub stop_text : ℕ → ℕ → List ℕ
stop_text refusal number = pick (eqb refusal 0) [] (stop_line refusal number)

abbrev pub totals_text : Totals → List ℕ
totals_text t = totals_line t.records t.crashes t.lines t.cut t.committed

abbrev pub end_text : ℕ → ℕ → Totals → List ℕ
end_text refusal number t = stop_text refusal number ++ totals_text t

unfoldable pub text_of : Replay → List ℕ
text_of r = answer_lines 1 r.answers ++ end_text r.ending.refusal r.ending.number r.ending.totals

-- what the program prints: its rows are as long as the header says
unfoldable pub printed : List ℕ → List ℕ
printed bs = text_of (replay bs (fresh (words_of bs)))
