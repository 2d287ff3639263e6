-- The tests of the numbers, the work beside the records and what is put back, put together, are the call on the store that the numbers spell, spelled again:
-- numbers that spell no store are refused, and so is an unfit store, whose numbers spell it again; of a fit one each part is the part's of the store.
use Prim.Native.Nat.{ℕ, ◌*◌, ◌<◌}
use native.Mathlib.Omega.{arith}
use borrow.Author.Tests.{eq-eqb, ne_eqb}
use mathlib.Core.Path.{◌≡◌, refl, sym, ap, ◌∙◌}
use mathlib.Core.Bool.{Bool, true, false, not}
use mathlib.Core.List.{List, [], ◌∷◌}
use lib.ListN.{length, set, replicate}
use lib.Dec.{eqb}
use Rattle.std.specs.Prelude.{Option, Some, None, Result, Ok, Err}
use Rattle.bits.specs.Marks.{pick}
use Rattle.dtml.specs.declared.Answer.{Answer}
use Rattle.dtml.specs.declared.Answer.TheVariants.{Taken}
use Rattle.dtml.specs.declared.Refusal.{Refusal}
use Rattle.dtml.specs.declared.Refusal.TheVariants.{Unfit}
use Rattle.dtml.specs.declared.Phase.TheVariants.{Fresh}
use Rattle.dtml.specs.declared.Tx.{Tx}
use Rattle.dtml.specs.Table.{Reply, says, reply}
use Rattle.dtml.specs.Store.{Memory, memory, record_at, tx}
use Rattle.dtml.specs.Lines.{crash_txs}
use Rattle.dtml.specs.declared.Call.{Call}
use Rattle.dtml.specs.First.{any_of}
use Rattle.dtml.specs.Checks.{unfit, unfit_rows, unfit_memory, unfit_txs}
use Rattle.dtml.specs.Calls.{call}
use Rattle.dtml.specs.Handed.{slot_of, reach}
use Rattle.machine.specs.declared.After.{After}
use Rattle.machine.specs.declared.Held.{Held}
use Rattle.machine.specs.declared.work.Worked.{Worked}
use Rattle.machine.specs.Given.{outcome_of}
use Rattle.machine.specs.Working.{worked, worked_of, fresh_held, Renewed, renewed, renewed_of}
use Rattle.machine.proofs.Whole.{unfit-any, called-whole, fresh-made}
use Rattle.numbers.specs.Numbers.{Rows, rows, spell_txs, read_txs, spell_store, read_store, same, spells, Told, told, spell_outcome, refused_rows, call_numbers, unfit_lengths, fresh_numbers, given, gives}
use Rattle.numbers.specs.Ways.{put_tx, unfit_records, crash_numbers, held_spelt, spelled_held, spells_held}
use Rattle.numbers.proofs.Again.{txs-again}
use Rattle.numbers.proofs.Fours.{both, same_true, same_self, tx-put, read_length}

-- an answer whose value is not asked for
pub answers : {r : ℕ} {a : Reply} {x : Rows} {t : Told} → r ≡ a.number → told a x ≡ t → given r [] x ≡ gives [] t
answers {x = x} e f = ap (λ n. given n [] x) e ∙ ap (gives []) f

-- ---- records that are spelled

spelled-length : (ts : List Tx) → length (spell_txs ts) ≡ 4 * length ts
unfolding spell_txs
spelled-length [] = refl
spelled-length (t ∷ ts) = let e = spelled-length ts in omega arith

crash-spelled : (crashed : Bool) (ts : List Tx) → pick crashed (crash_numbers (spell_txs ts)) (spell_txs ts) ≡ spell_txs (reach crashed ts)
unfolding crash_numbers
crash-spelled true ts = ap (λ us. spell_txs (crash_txs us)) (txs-again ts)
crash-spelled false ts = refl

-- ---- what is refused

second : (a b d : Bool) → b ≡ true → any_of (a ∷ b ∷ d ∷ []) ≡ true
second true b d e = refl
second false b d e = rw e

third : (a b d : Bool) → d ≡ true → any_of (a ∷ b ∷ d ∷ []) ≡ true
third true b d e = refl
third false true d e = refl
third false false d e = rw e

either : (b u : Bool) → pick b u true ≡ true → b ≡ true → u ≡ true
either true u e h = e
either false u e h = cc

neither : (b u : Bool) → pick b u true ≡ false → (b ≡ true) × (u ≡ false)
neither true u e = (refl, e)
neither false u e = (sym e, cc)

module _ (x : Rows) where
  abbrev again : Bool
  again = same (spell_txs (read_txs x.records)) x.records

  each_same : spells x ≡ true → (spells_held x.held ≡ true) × (again ≡ true)
  unfolding spells spells_held
  each_same e = both (spells_held x.held) again e

  the_same : spells x ≡ true → spell_store (read_store x) ≡ x
  unfolding spells_held
  the_same e =
      let h = each_same e in
      ap (λ (hs : List ℕ). rows x.vol x.pers x.old hs (spell_txs (read_txs x.records))) (same_true _ x.held h.0)
      ∙ ap (λ (xs : List ℕ). rows x.vol x.pers x.old x.held xs) (same_true _ x.records h.1)

  not-64 : spells x ≡ true → (length x.records ≡ 256 → ⊥) → not (eqb (length (read_txs x.records)) 64) ≡ true
  not-64 e n =
      let h = each_same e in
      let long : length x.records ≡ 4 * length (read_txs x.records) =
      ap length (sym (same_true (spell_txs (read_txs x.records)) x.records h.1)) ∙ spelled-length (read_txs x.records) in
      ap not (ne_eqb (length (read_txs x.records)) 64 (λ k. n (omega arith)))

  pub held-refused : (c : Call) {r : Result Answer Refusal} → r ≡ Err Unfit → spells_held x.held ≡ false → told (reply r) x ≡ call_numbers x c
  unfolding call_numbers spells spells_held
  held-refused c is e = rw (is, e)

  -- an unfit store is refused, and its numbers spell it again
  refused-if : (c : Call) → (spells x ≡ true → unfit (read_store x) ≡ true) → refused_rows x ≡ call_numbers x c
  unfolding call_numbers
  refused-if c bad = go (spells x) refl
    where
      go : (b : Bool) → spells x ≡ b → refused_rows x ≡ pick (spells x) (spell_outcome (call (read_store x) c)) (refused_rows x)
      go true e = sym (rw e (ap spell_outcome (unfit-any (read_store x) c (bad e)) ∙ ap (told (says 9 0)) (the_same e)))
      go false e = rw e

  pub short-refused : (c : Call) {r : Result Answer Refusal} → r ≡ Err Unfit → (length x.records ≡ 256 → ⊥) → told (reply r) x ≡ call_numbers x c
  unfolding unfit
  short-refused c is n =
      ap (λ a. told (reply a) x) is
      ∙ refused-if c (λ e. second (unfit_memory (read_store x).mem (read_store x).rec) (not (eqb (length (read_txs x.records)) 64)) (unfit_txs (length x.vol) (read_txs x.records))
      (not-64 e n))

  pub unfit-refused : (c : Call) {xs : List ℕ} {b : Bool} → xs ≡ x.records → b ≡ unfit_records (length x.vol) xs → b ≡ true
      → told (says 9 0) (rows x.vol x.pers x.old x.held xs) ≡ call_numbers x c
  unfolding unfit unfit_records
  unfit-refused c is t u =
      ap (λ ys. told (says 9 0) (rows x.vol x.pers x.old x.held ys)) is
      ∙ refused-if c (λ e. third (unfit_memory (read_store x).mem (read_store x).rec) (not (eqb (length (read_txs x.records)) 64)) (unfit_txs (length x.vol) (read_txs x.records))
      (either again (unfit_txs (length x.vol) (read_txs x.records)) (ap (unfit_records (length x.vol)) (sym is) ∙ sym t ∙ u) (each_same e).1))

-- what is read of the eight numbers, if they spell it
module _ (h : List ℕ) {b : Option Held} (read : b ≡ pick (spells_held h) (Some (held_spelt h)) None) where
  pub not-spelled : b ≡ None → spells_held h ≡ false
  not-spelled e = go (spells_held h) refl
    where
      go : (s : Bool) → spells_held h ≡ s → spells_held h ≡ false
      go true f = let never : Some (held_spelt h) ≡ None = sym (read ∙ rw f) ∙ e in cc
      go false f = f

  pub spelled : {hd : Held} → b ≡ Some hd → (spells_held h ≡ true) × (hd ≡ held_spelt h)
  spelled {hd} e = go (spells_held h) refl
    where
      go : (s : Bool) → spells_held h ≡ s → (spells_held h ≡ true) × (hd ≡ held_spelt h)
      go true f = (f, let same : Some hd ≡ Some (held_spelt h) = sym e ∙ read ∙ rw f in cc)
      go false f = let never : Some hd ≡ None = sym e ∙ read ∙ rw f in (cc, cc)

  pub held-long : {hd : Held} → b ≡ Some hd → length h ≡ 8
  unfolding spells_held
  held-long e = ap length (sym (same_true (spelled_held (held_spelt h)) h (spelled e).0))

-- ---- what is carried out

record Fit (n : ℕ) (xs : List ℕ) : Type 0 where
  spelled-again : spell_txs (read_txs xs) ≡ xs
  records : unfit_txs n (read_txs xs) ≡ false

fit-records : (n : ℕ) (xs : List ℕ) → unfit_records n xs ≡ false → Fit n xs
unfolding unfit_records
fit-records n xs e =
    let a = neither (same (spell_txs (read_txs xs)) xs) (unfit_txs n (read_txs xs)) e in
    record { spelled-again = same_true (spell_txs (read_txs xs)) xs a.0; records = a.1 }

-- the rows that are lent are those of the memory at its end
pub with-rows : (m : Memory) {v p o hs xs : List ℕ} {a : Reply} {t : Told} → v ≡ m.vol → p ≡ m.pers → o ≡ m.old → told a (rows m.vol m.pers m.old hs xs) ≡ t
    → told a (rows v p o hs xs) ≡ t
with-rows m a b d e = rw (a, b, d) e

module _ (v p o h xs : List ℕ) (c : Call) where
  abbrev here : Rows
  here = rows v p o h xs

  spelled-both : spells_held h ≡ true → spell_txs (read_txs xs) ≡ xs → spells here ≡ true
  unfolding spells spells_held
  spelled-both e f = rw e (ap (same (spell_txs (read_txs xs))) (sym f) ∙ same_self (spell_txs (read_txs xs)))

  -- what is put back is spelled by what the store's records have become
  put_back : (i : ℕ) (t : Tx) (crashed : Bool) {xs₁ xs₂ : List ℕ} → length xs ≡ 256 → i < 64 → spell_txs (read_txs xs) ≡ xs → xs₁ ≡ put_tx xs i t
      → xs₂ ≡ pick crashed (crash_numbers xs₁) xs₁ → xs₂ ≡ spell_txs (reach crashed (set (read_txs xs) i t))
  put_back i t crashed long below fit put reached =
      let many : length (read_txs xs) ≡ 64 = read_length 64 xs long in
      reached
      ∙ ap (λ ys. pick crashed (crash_numbers ys) ys) (put ∙ ap (λ ys. put_tx ys i t) (sym fit) ∙ tx-put (read_txs xs) i t (omega arith))
      ∙ crash-spelled crashed (set (read_txs xs) i t)

  pub called : {hd : Held} {b : Option Held} {i : ℕ} {t : Tx} {bad : Bool} {m : Memory} {hs xs₁ xs₂ : List ℕ} (w : Worked)
      → b ≡ pick (spells_held h) (Some (held_spelt h)) None → b ≡ Some hd → length xs ≡ 256 → bad ≡ unfit_records (length v) xs → bad ≡ false
      → i ≡ slot_of c → i < 64 → t ≡ record_at (read_txs xs) i → worked_of w m ≡ worked (memory v p o hd.marks hd.glb) hd.recovery false t c
      → xs₁ ≡ put_tx xs i w.tx → xs₂ ≡ pick w.crashed (crash_numbers xs₁) xs₁ → hs ≡ spelled_held (record { marks = m.marks; glb = m.glb; recovery = w.recovery })
      → told (reply w.answer) (rows m.vol m.pers m.old hs xs₂) ≡ call_numbers here c
  unfolding call_numbers
  called {hd} {i = i} {t} {m = m} {hs} w read is long tested u at below got done put reached held =
      let fit = fit-records (length v) xs (sym tested ∙ u) in
      let spelt = spelled h read is in
      let many : length (read_txs xs) ≡ 64 = read_length 64 xs long in
      let found : false ≡ any_of (not (eqb (length (read_txs xs)) 64) ∷ unfit_txs (length v) (read_txs xs) ∷ []) =
      rw (eq-eqb (length (read_txs xs)) 64 many, fit.records) in
      ap (λ ys. told (reply w.answer) (rows m.vol m.pers m.old hs ys)) (put_back i w.tx w.crashed long below fit.spelled-again put reached)
      ∙ ap (λ hs. told (reply w.answer) (rows m.vol m.pers m.old hs (spell_txs (reach w.crashed (set (read_txs xs) i w.tx))))) held
      ∙ ap spell_outcome (called-whole (memory v p o (held_spelt h).marks (held_spelt h).glb) (held_spelt h).recovery (read_txs xs) c {m' = m} w at found got
      (done ∙ ap (λ (y : Held). worked (memory v p o y.marks y.glb) y.recovery false t c) spelt.1) refl refl)
      ∙ rw (spelled-both spelt.0 fit.spelled-again)

-- ---- making fresh

-- what a refused one leaves and answers
abbrev made_of : List ℕ → List ℕ → Renewed → Told
made_of h xs y = told (reply y.after.answer) (rows y.vol y.pers y.old h xs)

-- the first numbers of what is left of making fresh decide
module _ (v p o h xs : List ℕ) where
  pub held-short : (length h ≡ 8 → ⊥) → refused_rows (rows v p o h xs) ≡ fresh_numbers (rows v p o h xs)
  unfolding fresh_numbers
  held-short n =
      sym (rw (second (unfit_rows (length v) (length p) (length o)) (not (eqb (length h) 8)) (not (eqb (length xs) 256)) (ap not (ne_eqb (length h) 8 n))))

  pub records-short : (length xs ≡ 256 → ⊥) → refused_rows (rows v p o h xs) ≡ fresh_numbers (rows v p o h xs)
  unfolding fresh_numbers
  records-short n =
      sym (rw (third (unfit_rows (length v) (length p) (length o)) (not (eqb (length h) 8)) (not (eqb (length xs) 256)) (ap not (ne_eqb (length xs) 256 n))))

  module _ (hd : Held) {x : After} {v' p' o' : List ℕ} (done : renewed_of x v' p' o' ≡ renewed v p o hd 64) where
    pub rows-refused : {k : Refusal} → x.answer ≡ Err k → told (reply (Err k)) (rows v' p' o' h xs) ≡ fresh_numbers (rows v p o h xs)
    unfolding fresh_numbers renewed
    rows-refused {k} is = go (unfit_rows (length v) (length p) (length o)) refl
      where
        go : (b : Bool) → unfit_rows (length v) (length p) (length o) ≡ b → told (reply (Err k)) (rows v' p' o' h xs) ≡ fresh_numbers (rows v p o h xs)
        go true e = rw e (rw is at (ap (made_of h xs) (rw e at done)))
        go false e = let never : x.answer ≡ Ok (Taken 0) = ap (λ (y : Renewed). y.after.answer) (rw e at done) in cc

    fit-lengths : {a : Answer} → length h ≡ 8 → length xs ≡ 256 → x.answer ≡ Ok a → unfit_lengths (rows v p o h xs) ≡ false
    unfolding renewed
    fit-lengths held long is = go (unfit_rows (length v) (length p) (length o)) refl
      where
        go : (b : Bool) → unfit_rows (length v) (length p) (length o) ≡ b → unfit_lengths (rows v p o h xs) ≡ false
        go true e = let never : x.answer ≡ Err Unfit = ap (λ (y : Renewed). y.after.answer) (rw e at done) in cc
        go false e = rw (e, eq-eqb (length h) 8 held, eq-eqb (length xs) 256 long)

    -- what is held does not matter where all is made fresh
    made-so : {a : Answer} → x.answer ≡ Ok a → (k : Held)
        → (x ≡ record { answer = Ok (Taken 0); held = fresh_held }) × (renewed_of x v' p' o' ≡ renewed v p o k 64)
    unfolding renewed
    made-so is k = go (unfit_rows (length v) (length p) (length o)) refl
      where
        go : (b : Bool) → unfit_rows (length v) (length p) (length o) ≡ b
            → (x ≡ record { answer = Ok (Taken 0); held = fresh_held }) × (renewed_of x v' p' o' ≡ renewed v p o k 64)
        go true e = let never : x.answer ≡ Err Unfit = ap (λ (y : Renewed). y.after.answer) (rw e at done) in (cc, cc)
        go false e = (ap (λ (y : Renewed). y.after) (rw e at done), rw e (rw e at done))

    pub made-fresh : {a : Answer} {hs xs' : List ℕ} → length h ≡ 8 → length xs ≡ 256 → x.answer ≡ Ok a → hs ≡ replicate (length h) 0 → xs' ≡ replicate (length xs) 0
        → told (says 0 0) (rows v' p' o' hs xs') ≡ fresh_numbers (rows v p o h xs)
    unfolding fresh_numbers spell_txs
    made-fresh {hs = hs} {xs'} held long is zeroed cleared =
        let so = made-so is (held_spelt h) in
        let many : length (read_txs xs) ≡ 64 = read_length 64 xs long in
        let stored : replicate 64 (tx 0 Fresh) ≡ pick (eqb (length (read_txs xs)) 64) (replicate 64 (tx 0 Fresh)) (read_txs xs) = rw (eq-eqb (length (read_txs xs)) 64 many) in
        let fresh-row : xs' ≡ spell_txs (replicate 64 (tx 0 Fresh)) = cleared ∙ ap (λ n. replicate n 0) long in
        ap (λ ys. told (says 0 0) (rows v' p' o' hs ys)) fresh-row
        ∙ ap (λ hs. told (says 0 0) (rows v' p' o' hs (spell_txs (replicate 64 (tx 0 Fresh))))) (zeroed ∙ ap (λ n. replicate n 0) held)
        ∙ ap (λ (y : After). spell_outcome (outcome_of v' p' o' (replicate 64 (tx 0 Fresh)) y)) (sym so.0)
        ∙ ap spell_outcome (fresh-made v p o (held_spelt h) (read_txs xs) (so.1 ∙ ap (renewed v p o (held_spelt h)) (sym many)) is refl stored)
        ∙ rw (fit-lengths held long is)
