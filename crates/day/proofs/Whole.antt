-- A whole replay: a header that is refused or rows that do not fit end it before anything is done; else the store is made fresh, and the records are done.
-- Of the row of records only the length counts: it is kept as it is, or changed whole.
use Prim.Native.Nat.{ℕ, ◌≤◌, ◌<◌}
use native.Mathlib.Omega.{arith}
use borrow.Author.Tests.{eq-eqb, eqb-true, not-false}
use mathlib.Core.Path.{◌≡◌, refl, sym, ap, subst, ◌∙◌}
use mathlib.Core.Bool.{Bool, true, false, not}
use mathlib.Core.List.{List, [], ◌∷◌}
use lib.ListN.{length, replicate, length-replicate}
use lib.Dec.{eqb}
use Rattle.std.specs.Prelude.{Result, Ok, Err, Some, None}
use Rattle.bits.specs.Marks.{pick}
use Rattle.dtml.specs.declared.Phase.TheVariants.{Fresh}
use Rattle.dtml.specs.declared.Tx.{Tx}
use Rattle.dtml.specs.Store.{Store, fresh, tx}
use Rattle.dtml.specs.First.{any_of}
use Rattle.dtml.proofs.Fit.{last, none}
use Rattle.machine.specs.declared.Held.{Held}
use Rattle.machine.specs.Given.{store_of}
use Rattle.machine.specs.Working.{fresh_held}
use Rattle.reader.specs.Said.{header_of}
use Rattle.reader.specs.Trace.{words_of, script_of}
use Rattle.reader.proofs.Scripts.{passed, refused, ok-not-err, err-is, ok-is, header-sound, header-taken, header_refused, refusal-small}
use Rattle.text.specs.Buffer.{buffer, puts}
use Rattle.day.specs.declared.Totals.{Totals}
use Rattle.day.specs.declared.ReplayRefusal.{ReplayRefusal}
use Rattle.day.specs.declared.ReplayRefusal.TheVariants.{Unfit, Trace}
use Rattle.day.specs.declared.Ended.{Ended}
use Rattle.day.specs.declared.Replayed.{Replayed}
use Rattle.day.specs.Replay.{totals, Replay, stopped, done, replay, answer_lines, end_text, text_of}
use Rattle.day.specs.Ends.{stop_number, misfit, begun_if, begun, begun_said, ending_of, longest, Ends, begins, EndsBeside}
use Rattle.day.specs.Counted.{Few}
use Rattle.day.proofs.Going.{end_short}

all_fit : (v p o t n : ℕ) → misfit v p o t n ≡ false → (v ≡ n) × (p ≡ n) × (o ≡ n) × (t ≡ 64)
all_fit v p o t n h =
    let a = none (not (eqb v n)) (any_of (not (eqb p n) ∷ not (eqb o n) ∷ not (eqb t 64) ∷ [])) h in
    let b = none (not (eqb p n)) (any_of (not (eqb o n) ∷ not (eqb t 64) ∷ [])) a.1 in
    let c = none (not (eqb o n)) (any_of (not (eqb t 64) ∷ [])) b.1 in
    let d = last (not (eqb t 64)) ∙ c.1 in
    (eqb-true v n (not-false _ a.0), eqb-true p n (not-false _ b.0), eqb-true o n (not-false _ c.0), eqb-true t 64 (not-false _ d))

begun-fits : (h : Result ℕ ℕ) (v p o t w : ℕ) → begun_if h v p o t ≡ Ok w → (h ≡ Ok w) × ((v ≡ w) × (p ≡ w) × (o ≡ w) × (t ≡ 64))
begun-fits (Ok n) v p o t w e = go (misfit v p o t n) refl e
  where
    go : (b : Bool) → misfit v p o t n ≡ b → pick b (refused 9) (passed n) ≡ Ok w → (passed n ≡ Ok w) × ((v ≡ w) × (p ≡ w) × (o ≡ w) × (t ≡ 64))
    go true q e = ok-not-err (sym e)
    go false q e = (e, all_fit v p o t w (subst (λ x. misfit v p o t x ≡ false) (ok-is e) q))
begun-fits (Err k) v p o t w e = ok-not-err (sym e)

-- ---- the store that has the records ts

-- an end before the first record
abbrev pub early : ReplayRefusal → Totals → ℕ → Held → Ended
early refusal z long held = record { stopped = Some (record { refusal = refusal; number = 0 }); totals = z; length = long; held = held }

stop-small : (refusal : ReplayRefusal) → stop_number refusal < 100
stop-small Unfit = omega arith
stop-small (Trace refusal) = refusal-small refusal

module _ (bs vol pers old out : List ℕ) (held : Held) (ts : List Tx) where
  stop-so : (refusal : ReplayRefusal) (z : Totals) (r : Ended) (out' : List ℕ)
      → replay bs (store_of vol pers old held ts) ≡ stopped (stop_number refusal) (store_of vol pers old held ts) → z ≡ totals 0 0 0 0 0
      → r ≡ early refusal z r.length held → buffer out' r.length ≡ puts (buffer out 0) (end_text (stop_number refusal) 0 z)
      → Ends (replay bs (store_of vol pers old held ts)) r vol pers old ts out out'
  unfolding text_of answer_lines
  stop-so refusal z r out' e f q o =
      let s = store_of vol pers old held ts in
      let k = stop_number refusal in
      let none : Few 65536 (totals 0 0 0 0 0) =
      record { records = omega arith; crashes = omega arith; lines = omega arith; cut = omega arith; committed = omega arith } in
      record {
        ending =
            ap (λ (x : Ended). ending_of x vol pers old ts) q
            ∙ ap (λ (x : Totals). record { refusal = k; number = 0; totals = x; store = s }) f
            ∙ sym (ap (λ (p : Replay). p.ending) e);
        text =
            o
            ∙ ap (λ (x : Totals). puts (buffer out 0) (end_text k 0 x)) f
            ∙ sym (ap (λ (p : Replay). puts (buffer out 0) (text_of p)) e);
        short =
            let brief = end_short k 0 (totals 0 0 0 0 0) (stop-small refusal) (omega arith) none in
            subst (λ (p : Replay). length (text_of p) ≤ longest) (sym e) (omega arith);
      }

  abbrev here : Store
  here = store_of vol pers old held ts

  -- a refusal before the first record: the store stays, and nothing begins
  refused-so : (k : ℕ) → begun bs (length vol) (length pers) (length old) (length ts) ≡ Err k → (replay bs here ≡ stopped k here) × (false ≡ begins bs here)
  unfolding replay
  refused-so k = go (header_of bs) refl
    where
      unfit : (b : Bool) (n : ℕ) → pick b (refused 9) (passed n) ≡ refused k → (pick b (stopped 9 here) (done (words_of bs) (script_of bs)) ≡ stopped k here) × (false ≡ pick b false true)
      unfit true n e = (ap (λ j. stopped j here) (err-is e), refl)
      unfit false n e = ok-not-err e

      go : (h : Result ℕ ℕ) → header_of bs ≡ h → begun_if h (length vol) (length pers) (length old) (length ts) ≡ refused k
          → (replay bs here ≡ stopped k here) × (false ≡ begins bs here)
      go (Ok n) taken e =
          let words = (header-sound bs n taken).0 in
          let test : ℕ → Bool = misfit (length vol) (length pers) (length old) (length ts) in
          let u = unfit (test (words_of bs)) n (ap (λ w. pick (test w) (refused 9) (passed n)) (sym words) ∙ e) in
          (header-taken bs n taken (λ k. stopped k here) _ ∙ u.0, u.1 ∙ sym (header-taken bs n taken (λ k. false) _))
      go (Err j) refused_as e =
          (header_refused bs j (λ k. stopped k here) _ refused_as ∙ ap (λ k. stopped k here) (err-is e), sym (header_refused bs j (λ k. false) _ refused_as))

  module _ (words : ℕ) (begun-with : begun bs (length vol) (length pers) (length old) (length ts) ≡ Ok words) where
    goes : (replay bs here ≡ done (length vol) (script_of bs)) × (true ≡ begins bs here)
    unfolding replay
    goes =
        let f = begun-fits (header_of bs) (length vol) (length pers) (length old) (length ts) words begun-with in
        let w = (header-sound bs words f.0).0 in (
          header-taken bs words f.0 (λ k. stopped k here) _ ∙ rw (f.1.0 ∙ w, f.1.1 ∙ w, f.1.2 ∙ w, f.1.3, eq-eqb (words_of bs) (words_of bs) refl),
          sym (header-taken bs words f.0 (λ k. false) _ ∙ rw (f.1.0 ∙ w, f.1.1 ∙ w, f.1.2 ∙ w, f.1.3, eq-eqb (words_of bs) (words_of bs) refl)),
        )

-- ---- beside a row of n records

module _ (bs vol pers old out : List ℕ) (held : Held) (n : ℕ) (got : Result ℕ ReplayRefusal) (said : begun_said got ≡ begun bs (length vol) (length pers) (length old) n) where
  abbrev says : Result ℕ ℕ → Type 0
  says h = (ts : List Tx) → length ts ≡ n → begun bs (length vol) (length pers) (length old) (length ts) ≡ h

  -- a refusal before the first record
  pub stops : (refusal : ReplayRefusal) → got ≡ Err refusal → (z : Totals) (e : Ended) (r : Replayed) (out' : List ℕ) → z ≡ totals 0 0 0 0 0
      → e ≡ early refusal z e.length held
      → buffer out' e.length ≡ puts (buffer out 0) (end_text (stop_number refusal) 0 z)
      → r ≡ record { ended = e; txs = None }
      → EndsBeside bs (store_of vol pers old held) n r vol pers old out out'
  stops refusal is z e r out' f q o kept =
      let so : says (Err (stop_number refusal)) = λ ts long. rw long (sym said ∙ ap begun_said is) in
      rw kept (
      record {
        ends = λ ts long. stop-so bs vol pers old out held ts refusal z e out' (refused-so bs vol pers old out held ts (stop_number refusal) (so ts long)).0 f q o;
        changed = λ ts long. (refused-so bs vol pers old out held ts (stop_number refusal) (so ts long)).1;
      }
      )

  module _ (words : ℕ) (is : got ≡ Ok words) where
    fits : (header_of bs ≡ Ok words) × ((length vol ≡ words) × (length pers ≡ words) × (length old ≡ words) × (n ≡ 64))
    fits = begun-fits (header_of bs) (length vol) (length pers) (length old) n words (sym said ∙ ap begun_said is)

    sound : (words ≡ words_of bs) × (0 < words_of bs) × (words_of bs ≤ 256) × (3 ≤ length bs) × (length bs ≤ 65536)
    sound = header-sound bs words fits.0

    -- the store, its rows zeroed, is fresh as the first record finds it
    module _ {vol' pers' old' : List ℕ} (a : vol' ≡ replicate (length vol) 0) (b : pers' ≡ replicate (length pers) 0) (d : old' ≡ replicate (length old) 0) where
      is-fresh : store_of vol' pers' old' fresh_held (replicate 64 (tx 0 Fresh)) ≡ fresh (length vol)
      unfolding fresh
      is-fresh = rw (a, b, d, fits.1.1 ∙ sym fits.1.0, fits.1.2 ∙ sym fits.1.0)

      pub fresh-long : length vol' ≡ length vol
      fresh-long = ap length a ∙ length-replicate (length vol) 0

      pub fresh-rows : (store_of vol' pers' old' fresh_held (replicate 64 (tx 0 Fresh)) ≡ fresh (length vol'))
          × (1 ≤ length vol') × (length vol' ≤ 256) × (3 ≤ length bs) × (length bs ≤ 65536)
      fresh-rows =
          let k = sound in
          let w : length vol' ≡ words_of bs = fresh-long ∙ fits.1.0 ∙ sound.0 in
          (is-fresh ∙ ap fresh (sym fresh-long), omega (arith, k.1), omega (arith, k.2), k.3, k.4)

    pub records-so : (m : ℕ) (r : Replayed) (ts' : List Tx) (vol' pers' old' out' : List ℕ) → m ≡ length vol
        → r.txs ≡ Some ts' → Ends (done m (script_of bs)) r.ended vol' pers' old' ts' out out'
        → EndsBeside bs (store_of vol pers old held) n r vol' pers' old' out out'
    records-so m r ts' vol' pers' old' out' e given f =
        let so : says (Ok words) = λ ts long. rw long (sym said ∙ ap begun_said is) in
        record {
          ends = λ ts long.
              let g = ap (λ (k : ℕ). done k (script_of bs)) e ∙ sym (goes bs vol pers old out held ts words (so ts long)).0 in
              rw (given, long, fits.1.3) (subst (λ (p : Replay). Ends p r.ended vol' pers' old' ts' out out') g f);
          changed = λ ts long. rw given (goes bs vol pers old out held ts words (so ts long)).1;
        }
