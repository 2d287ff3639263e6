-- The loop's invariant: run from here, the rest of the trace ends as the whole trace does from a fresh store. A record more takes one call off the
-- rest, and the definitions take the same step; at the end no call is left.
use Prim.Native.Nat.{ℕ, ◌+◌, ◌*◌, ◌≤◌, ◌<◌}
use native.Mathlib.Omega.{arith}
use native.Mathlib.Nat.{zero-add}
use mathlib.Core.Path.{◌≡◌, refl, sym, ap, subst, ◌∙◌}
use mathlib.Core.List.{List, [], ◌∷◌, ◌++◌, append_assoc, append-nil}
use lib.ListN.{length, drop, length-append, length-drop}
use lib.Seq.{drop-drop}
use lib.Dec.{eqb, leb}
use Rattle.bits.specs.Marks.{pick, count_of}
use Rattle.bits.proofs.Laws.{laws}
use Rattle.dtml.specs.declared.Recovery.{Recovery}
use Rattle.dtml.specs.Table.{Reply}
use Rattle.dtml.specs.Store.{Store, fresh, record_at}
use Rattle.dtml.specs.declared.Sys.TheVariants.{Flush as flush, Crash as crash, Recover as recover, RecoverUpTo as recover_up_to}
use Rattle.dtml.specs.declared.Call.{Call}
use Rattle.dtml.specs.declared.Call.TheVariants.{On as on, Of as sys}
use Rattle.dtml.specs.Asked.{Outcome}
use Rattle.dtml.specs.Checks.{not_idle}
use Rattle.dtml.specs.Counting.{unless_refused, crashes_in, lines_in, cut_in, committed_in}
use Rattle.dtml.specs.Calls.{call}
use Rattle.dtml.specs.History.{Past, World, tell, dawn, runs}
use Rattle.dtml.specs.Demands.{after}
use Rattle.dtml.proofs.Words.{pick-case}
use Rattle.dtml.proofs.Worlds.{InvW, tell-inv, dawn-inv}
use Rattle.dtml.proofs.Low.{LowW, tell-low, dawn-low}
use Rattle.dtml.proofs.Fitness.{never-unfit}
use Rattle.dtml.proofs.Counts.{tell-adds}
use Rattle.reader.specs.Trace.{kinds, does, found, Script, script, script_of}
use Rattle.reader.proofs.Scripts.{AllAsk, script_from, script-more, script-does, found-asks, found-bytes}
use Rattle.text.specs.Buffer.{Buffer, buffer, puts}
use Rattle.text.proofs.Laws.{puts-append, stop-short, totals-short}
use Rattle.dtml.specs.Handed.{slot_of, carry, Left, put_back}
use Rattle.dtml.proofs.Lift.{carries}
use Rattle.dtml.proofs.Happens.{never-four}
use Rattle.day.specs.declared.Totals.{Totals}
use Rattle.day.specs.Replay.{answers, answered, totals, totals_of, Ending, done, answer_text, answer_lines, stop_text, totals_text, end_text, text_of}
use Rattle.day.specs.Ends.{longest}
use Rattle.day.specs.Counted.{counted, Few}

abbrev pub rest_of : List ℕ → ℕ → Script
rest_of bs at = script_from (drop at bs)

abbrev world : Store → Past → World
world s p = record { store = s; past = p }

pub record Going (n : ℕ) (bs first : List ℕ) (s : Store) (t : Totals) (at : ℕ) (o : Buffer) : Type 0 where
  -- the past of the records done
  pub past : Past
  pub inv : InvW n (world s past)
  pub low : LowW (world s past)
  pub crashes : t.crashes ≡ past.crashes
  pub lines : t.lines ≡ past.lines
  pub cut : t.cut ≡ past.cut
  -- the numbers are no larger than the records are many, and a record takes three bytes or more
  pub few : Few t.records t
  pub ahead : 3 * t.records + 3 ≤ at
  pub within : at ≤ length bs
  -- the rest ends as the whole does
  pub ends : runs (world s past) (rest_of bs at).calls ≡ after n (script_of bs).calls
  pub records : t.records + length (rest_of bs at).calls ≡ length (script_of bs).calls
  pub committed : t.committed + answered 4 (answers s (rest_of bs at).calls) ≡ answered 4 (answers (fresh n) (script_of bs).calls)
  pub refusal : (rest_of bs at).refusal ≡ (script_of bs).refusal
  -- the text so far, in the buffer, and no more than thirty bytes for each record
  pub sofar : List ℕ
  pub put-so : o ≡ puts (buffer first 0) sofar
  pub brief : length sofar ≤ 30 * t.records
  pub text : sofar ++ answer_lines (t.records + 1) (answers s (rest_of bs at).calls) ≡ answer_lines 1 (answers (fresh n) (script_of bs).calls)

-- ---- before the first record

whole-rest : (bs : List ℕ) → rest_of bs 3 ≡ script_of bs
whole-rest bs = script-more (length (drop 3 bs)) (length bs) (drop 3 bs) (omega arith) (let z = length-drop 3 bs in omega arith)

pub going_start : (n : ℕ) (bs first : List ℕ) → 0 < n → n ≤ 256 → 3 ≤ length bs → Going n bs first (fresh n) (totals 0 0 0 0 0) 3 (buffer first 0)
unfolding dawn puts
going_start n bs first some few three =
    record {
      past = (dawn n).past;
      inv = dawn-inv n some few;
      low = dawn-low n;
      crashes = refl;
      lines = refl;
      cut = refl;
      few = record { records = omega arith; crashes = omega arith; lines = omega arith; cut = omega arith; committed = omega arith };
      ahead = omega arith;
      within = three;
      ends = ap (λ (p : Script). after n p.calls) (whole-rest bs);
      records = zero-add (length (rest_of bs 3).calls) ∙ ap (λ (p : Script). length p.calls) (whole-rest bs);
      committed =
          zero-add (answered 4 (answers (fresh n) (rest_of bs 3).calls))
          ∙ ap (λ (p : Script). answered 4 (answers (fresh n) p.calls)) (whole-rest bs);
      refusal = ap (λ (p : Script). p.refusal) (whole-rest bs);
      sofar = [];
      put-so = refl;
      brief = omega arith;
      text = ap (λ (p : Script). answer_lines 1 (answers (fresh n) p.calls)) (whole-rest bs);
    }

-- ---- one record more

-- a record of a trace is one crash, one line or one commit at the most, and cuts off no more words than there are marks for
refused-low : (a : Reply) (k most : ℕ) → k ≤ most → unless_refused a k ≤ most
refused-low a k most h = pick-case (λ x. x ≤ most) (leb 9 a.number) (λ e. omega arith) (λ e. h)

crashes-one : (c : Call) (a : Reply) → crashes_in c a ≤ 1
crashes-one (on t q) a = omega arith
crashes-one (sys (flush w)) a = omega arith
crashes-one (sys crash) a = refused-low a 1 1 (omega arith)
crashes-one (sys recover) a = omega arith
crashes-one (sys (recover_up_to b)) a = omega arith

abbrev OneLine : Call → Type 0
OneLine c = (a : Reply) → lines_in c a ≤ 1

lines-one : AllAsk OneLine kinds
lines-one =
    let none : (body : List ℕ) (a : Reply) → 0 ≤ 1 = λ body a. omega arith in
    let one : (body : List ℕ) (a : Reply) → pick (leb 9 a.number) 0 1 ≤ 1 =
    λ body a. pick-case (λ k. k ≤ 1) (leb 9 a.number) (λ e. omega arith) (λ e. omega arith) in
    (none, (none, (none, (none, (none, (none, (none, (one, tt))))))))

cut-marks : (c : Call) (r : Recovery) (k : List ℕ) (a : Reply) → cut_in c r k a ≤ count_of k
cut-marks (on t q) r k a = omega arith
cut-marks (sys (flush w)) r k a = omega arith
cut-marks (sys crash) r k a =
    refused-low a (pick (not_idle r) 0 (count_of k)) (count_of k) (pick-case (λ x. x ≤ count_of k) (not_idle r) (λ e. omega arith) (λ e. omega arith))
cut-marks (sys recover) r k a = omega arith
cut-marks (sys (recover_up_to b)) r k a = omega arith

committed-one : (c : Call) (a : Reply) → committed_in c a ≤ 1
committed-one (on t q) a = pick-case (λ k. k ≤ 1) (eqb a.number 4) (λ e. omega arith) (λ e. omega arith)
committed-one (sys k) a = omega arith

-- answers 4 are a record's
fours-in : (s : Store) (c : Call) → pick (eqb (call s c).reply.number 4) 1 0 ≡ committed_in c (call s c).reply
fours-in s (on t q) = refl
fours-in s (sys k) = rw (never-four s k)

few-more : (t : Totals) (c : Call) (r : Recovery) (k : List ℕ) (a : Reply) → lines_in c a ≤ 1 → length k ≡ 4 → Few t.records t
    → Few (t.records + 1) (counted t r k c a)
unfolding counted
few-more t c r k a l four f =
    let b = crashes-one c a in
    let m = cut-marks c r k a in
    let e = committed-one c a in
    let w = laws.count-room k in
    record {
      records = omega arith;
      crashes = omega (arith, f.crashes);
      lines = omega (arith, f.lines);
      cut = omega (arith, f.cut);
      committed = omega (arith, f.committed);
    }

module _ (n : ℕ) (bs first : List ℕ) (s : Store) (t : Totals) (at : ℕ) (o : Buffer) (going : Going n bs first s t at o) (c : Call) (bytes : ℕ)
    (here : found (drop at bs) ≡ does c bytes) where
  w : World
  w = world s going.past

  rest-here : rest_of bs at ≡ script (c ∷ (rest_of bs (at + bytes)).calls) (rest_of bs (at + bytes)).refusal
  rest-here =
      script-does (drop at bs) c bytes here
      ∙ ap (λ (x : List ℕ). script (c ∷ (script_from x).calls) (script_from x).refusal) (drop-drop bytes at bs)

  one_line : OneLine c
  one_line = found-asks OneLine (drop at bs) c bytes lines-one here

  call-on : length (answer_text (t.records + 1) (call s c).reply) ≤ 30
      → Going n bs first (call s c).store (counted t s.rec s.mem.marks c (call s c).reply) (at + bytes) (puts o (answer_text (t.records + 1) (call s c).reply))
  unfolding counted tell runs answers answered answer_lines w
  call-on short =
      let line = answer_text (t.records + 1) (call s c).reply in
      let after-it = answer_lines (t.records + 1 + 1) (answers (call s c).store (rest_of bs (at + bytes)).calls) in
      let both = length-append going.sofar line in
      let adds = tell-adds n w c going.inv going.low in
      let bounds = found-bytes (drop at bs) c bytes here in
      let left = length-drop at bs in
      let one : length (rest_of bs at).calls ≡ length (c ∷ (rest_of bs (at + bytes)).calls) = ap (λ (p : Script). length p.calls) rest-here in
      let fours = ap (λ (p : Script). answered 4 (answers s p.calls)) rest-here in
      let four = fours-in s c in
      record {
        past = (tell w c).past;
        inv = tell-inv n w c going.inv;
        low = tell-low n w c going.inv going.low;
        crashes = ap (λ k. k + crashes_in c (call s c).reply) going.crashes ∙ sym adds.crashes;
        lines = ap (λ k. k + lines_in c (call s c).reply) going.lines ∙ sym adds.lines;
        cut = ap (λ k. k + cut_in c s.rec s.mem.marks (call s c).reply) going.cut ∙ sym adds.cut;
        few = few-more t c s.rec s.mem.marks (call s c).reply (one_line (call s c).reply) going.inv.shape.marks-long going.few;
        ahead = omega (arith, going.ahead);
        within = omega (arith, going.within);
        ends = sym (ap (λ (p : Script). runs w p.calls) rest-here) ∙ going.ends;
        records = omega (arith, going.records);
        committed = omega (arith, going.committed);
        refusal = sym (ap (λ (p : Script). p.refusal) rest-here) ∙ going.refusal;
        sofar = going.sofar ++ line;
        put-so = ap (λ (x : Buffer). puts x line) going.put-so ∙ sym (puts-append (buffer first 0) going.sofar line);
        brief = omega (arith, going.brief);
        text =
            append_assoc going.sofar line after-it
            ∙ sym (ap (λ (p : Script). going.sofar ++ answer_lines (t.records + 1) (answers s p.calls)) rest-here)
            ∙ going.text;
      }

  -- the record done on what it is handed, and put back
  pub going_on : (l : Left) → l ≡ carry s.mem s.rec (record_at s.txs (slot_of c)) c
      → length (answer_text (t.records + 1) l.reply) ≤ 30
      → Going n bs first (put_back s c l).store (counted t s.rec s.mem.marks c l.reply) (at + bytes) (puts o (answer_text (t.records + 1) l.reply))
  unfolding w
  going_on l e short =
      let done-so = carries s c (never-unfit n w going.inv going.low) ∙ ap (put_back s c) (sym e) in
      subst (λ (x : Outcome). Going n bs first x.store (counted t s.rec s.mem.marks c x.reply) (at + bytes) (puts o (answer_text (t.records + 1) x.reply)))
      done-so
      (call-on (subst (λ (x : Outcome). length (answer_text (t.records + 1) x.reply) ≤ 30) (sym done-so) short))

-- ---- after the last record

pub totals-same : {a b c d e a' b' c' d' e' : ℕ} → a ≡ a' → b ≡ b' → c ≡ c' → d ≡ d' → e ≡ e' → totals a b c d e ≡ totals a' b' c' d' e'
totals-same p q r s t = rw (p, q, r, s, t)

-- how the code's end reads: the refusal k, with the number of the record refused
abbrev pub ending : ℕ → Totals → Store → Ending
ending k t s = record { refusal = k; number = pick (eqb k 0) 0 (t.records + 1); totals = t; store = s }

-- the X line takes 11 bytes at the most, the T line 107
pub end_short : (k m : ℕ) (t : Totals) → k < 100 → m < 100000 → Few 65536 t → length (end_text k m t) ≤ 118
end_short k m t a b f =
    let both = length-append (stop_text k m) (totals_text t) in
    let stop : length (stop_text k m) ≤ 11 =
    pick-case (λ (x : List ℕ). length x ≤ 11) (eqb k 0) (λ e. omega arith) (λ e. stop-short k m a b) in
    let last =
    totals-short t.records t.crashes t.lines t.cut t.committed
    (omega (arith, f.records)) (omega (arith, f.crashes)) (omega (arith, f.lines)) (omega (arith, f.cut)) (omega (arith, f.committed)) in
    omega arith

number-low : (k r : ℕ) → r < 65536 → pick (eqb k 0) 0 (r + 1) < 100000
number-low k r h = pick-case (λ x. x < 100000) (eqb k 0) (λ e. omega arith) (λ e. omega arith)

few-below : (m : ℕ) (t : Totals) → Few m t → m < 65536 → Few 65536 t
few-below m t f h =
    record {
      records = omega (arith, f.records);
      crashes = omega (arith, f.crashes);
      lines = omega (arith, f.lines);
      cut = omega (arith, f.cut);
      committed = omega (arith, f.committed);
    }

module _ (n : ℕ) (bs first : List ℕ) (s : Store) (t : Totals) (at : ℕ) (o : Buffer) (going : Going n bs first s t at o) (k : ℕ) (over : rest_of bs at ≡ script [] k) where
  ended : world s going.past ≡ after n (script_of bs).calls
  unfolding runs
  ended = sym (ap (λ (p : Script). runs (world s going.past) p.calls) over) ∙ going.ends

  all-records : t.records ≡ length (script_of bs).calls
  all-records = let z : length (rest_of bs at).calls ≡ 0 = ap (λ (p : Script). length p.calls) over in omega (arith, going.records)

  all-committed : t.committed ≡ answered 4 (answers (fresh n) (script_of bs).calls)
  unfolding answers answered
  all-committed = let z : answered 4 (answers s (rest_of bs at).calls) ≡ 0 = ap (λ (p : Script). answered 4 (answers s p.calls)) over in omega (arith, going.committed)

  all-totals : t ≡ totals_of n (script_of bs).calls
  all-totals =
      totals-same all-records
      (going.crashes ∙ ap (λ (w : World). w.past.crashes) ended)
      (going.lines ∙ ap (λ (w : World). w.past.lines) ended)
      (going.cut ∙ ap (λ (w : World). w.past.cut) ended)
      all-committed

  last-refusal : k ≡ (script_of bs).refusal
  last-refusal = sym (ap (λ (p : Script). p.refusal) over) ∙ going.refusal

  pub ends_so : ending k t s ≡ (done n (script_of bs)).ending
  ends_so =
      ap (λ (j : ℕ). ending j t s) last-refusal
      ∙ ap (λ (x : Totals). ending (script_of bs).refusal x s) all-totals
      ∙ ap (λ (w : World). ending (script_of bs).refusal (totals_of n (script_of bs).calls) w.store) ended

  lines-so : going.sofar ≡ answer_lines 1 (answers (fresh n) (script_of bs).calls)
  unfolding answers answer_lines
  lines-so =
      sym (append-nil going.sofar)
      ∙ sym (ap (λ (p : Script). going.sofar ++ answer_lines (t.records + 1) (answers s p.calls)) over)
      ∙ going.text

  -- the records' lines, thirty bytes each at the most, and the last two
  pub text-so : k < 100 → length bs ≤ 65536 → length (text_of (done n (script_of bs))) ≤ longest
  unfolding text_of
  text-so small fits =
      let e = (done n (script_of bs)).ending in
      let lines = answer_lines 1 (answers (fresh n) (script_of bs).calls) in
      let both = length-append lines (end_text e.refusal e.number e.totals) in
      let ends = end_short k (ending k t s).number t small (number-low k t.records (omega (arith, going.ahead, going.within)))
      (few-below t.records t going.few (omega (arith, going.ahead, going.within))) in
      let same = ap (λ (x : Ending). length (end_text x.refusal x.number x.totals)) ends_so in
      let so = ap length lines-so in
      omega (arith, going.brief, going.ahead, going.within)

  pub prints-so : (q : Buffer) → q ≡ puts o (end_text k (ending k t s).number t) → q ≡ puts (buffer first 0) (text_of (done n (script_of bs)))
  unfolding text_of
  prints-so q e =
      e
      ∙ ap (λ (x : Ending). puts o (end_text x.refusal x.number x.totals)) ends_so
      ∙ ap (λ (x : Buffer). puts x (end_text (done n (script_of bs)).ending.refusal (done n (script_of bs)).ending.number (done n (script_of bs)).ending.totals)) (going.put-so ∙ ap (puts (buffer first 0)) lines-so)
      ∙ sym (puts-append (buffer first 0) (answer_lines 1 (answers (fresh n) (script_of bs).calls))
      (end_text (done n (script_of bs)).ending.refusal (done n (script_of bs)).ending.number (done n (script_of bs)).ending.totals))

-- ---- the loop

-- a record of a trace is one recovery line at the most
pub one-line-so : (bs : List ℕ) (at : ℕ) (c : Call) (bytes : ℕ) → found (drop at bs) ≡ does c bytes → OneLine c
one-line-so bs at c bytes = found-asks OneLine (drop at bs) c bytes lines-one

module _ {n : ℕ} {bs first : List ℕ} {s : Store} {t : Totals} {at : ℕ} {o : Buffer} (going : Going n bs first s t at o) (short : length bs ≤ 65536) where
  pub next-record : t.records < 65536
  next-record =
      let a = going.ahead in
      let b = going.within in
      omega arith

  pub few-records : Few 65536 t
  few-records = few-below t.records t going.few next-record
