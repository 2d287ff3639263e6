-- A store as numbers: how it is spelled, and what a call and making fresh come to on such numbers.
use Rattle.std.specs.Prelude.{ℕ, ◌%◌, Bool, true, false, not, List, [], ◌∷◌, ◌++◌, length, get_or, eqb, leb}
use Rattle.bits.specs.Marks.{pick}
use Rattle.dtml.specs.declared.Tx.{Tx}
use Rattle.dtml.specs.declared.Recovery.{Recovery}
use Rattle.dtml.specs.Table.{Reply, says}
use Rattle.dtml.specs.Store.{Store, memory, store, tx}
use Rattle.dtml.specs.declared.Call.{Call}
use Rattle.dtml.specs.Asked.{Outcome}
use Rattle.dtml.specs.First.{any_of}
use Rattle.dtml.specs.Checks.{unfit_rows}
use Rattle.dtml.specs.Calls.{call, make_fresh}
use Rattle.spelling.specs.Spelling.{spelt, spell_phase, read_phase, spell_recovery, read_recovery}

-- ---- the records: four numbers each, loc, the number of the phase, its word and its value

abbrev pub spell_tx : Tx → List ℕ
spell_tx t =
    t.loc ∷ (spell_phase t.phase).number ∷ (spell_phase t.phase).word ∷ (spell_phase t.phase).value ∷ []

unfoldable pub spell_txs : List Tx → List ℕ
spell_txs [] = []
spell_txs (t ∷ ts) = spell_tx t ++ spell_txs ts

abbrev pub read_tx : ℕ → ℕ → ℕ → ℕ → Tx
read_tx loc n w v = tx loc (read_phase (spelt n w v))

unfoldable pub read_txs : List ℕ → List Tx
read_txs [] = []
read_txs (loc ∷ []) = []
read_txs (loc ∷ n ∷ []) = []
read_txs (loc ∷ n ∷ w ∷ []) = []
read_txs (loc ∷ n ∷ w ∷ v ∷ xs) = read_tx loc n w v ∷ read_txs xs

-- ---- what the store holds beside its rows: eight numbers, the four marks, the count, recovery's line, its word and its value

abbrev pub at : List ℕ → ℕ → ℕ
at xs i = get_or xs i 0

abbrev pub spell_held : List ℕ → ℕ → Recovery → List ℕ
spell_held k g r =
    at k 0 ∷ at k 1 ∷ at k 2 ∷ at k 3 ∷ g ∷ (spell_recovery r).number ∷ (spell_recovery r).word ∷ (spell_recovery r).value ∷ []

abbrev pub read_marks : List ℕ → List ℕ
read_marks h = at h 0 ∷ at h 1 ∷ at h 2 ∷ at h 3 ∷ []

-- the count, a word and a value have 32 bits
abbrev pub low : ℕ → ℕ
low n = n % 4294967296

abbrev pub read_glb : List ℕ → ℕ
read_glb h = low (at h 4)

abbrev pub read_rec : List ℕ → Recovery
read_rec h = read_recovery (spelt (low (at h 5)) (low (at h 6)) (low (at h 7)))

-- ---- a store

pub record Rows : Type 0 where
  pub vol : List ℕ
  pub pers : List ℕ
  pub old : List ℕ
  pub held : List ℕ
  pub records : List ℕ

abbrev pub rows : List ℕ → List ℕ → List ℕ → List ℕ → List ℕ → Rows
rows v p o h xs = record { vol = v; pers = p; old = o; held = h; records = xs }

abbrev pub spell_store : Store → Rows
spell_store s =
    rows s.mem.vol s.mem.pers s.mem.old (spell_held s.mem.marks s.mem.glb s.rec) (spell_txs s.txs)

abbrev pub read_store : Rows → Store
read_store x =
    store (memory x.vol x.pers x.old (read_marks x.held) (read_glb x.held)) (read_rec x.held) (read_txs x.records)

unfoldable pub same : List ℕ → List ℕ → Bool
same [] [] = true
same [] (y ∷ ys) = false
same (x ∷ xs) [] = false
same (x ∷ xs) (y ∷ ys) = pick (eqb x y) (same xs ys) false

abbrev pub same_rows : Rows → Rows → Bool
same_rows x y = pick (same x.held y.held) (same x.records y.records) false

-- Numbers spell a store if what is read is spelled by the same numbers: then their lengths are right, each number is one that there is, what is not used is 0,
-- and all fits its width.
unfoldable pub spells : Rows → Bool
spells x = same_rows (spell_store (read_store x)) x

-- ---- a call

pub record Told : Type 0 where
  pub reply : Reply
  pub rows : Rows

abbrev pub told : Reply → Rows → Told
told a x = record { reply = a; rows = x }

abbrev pub spell_outcome : Outcome → Told
spell_outcome o = told o.reply (spell_store o.store)

-- numbers that are refused stay as they came
abbrev pub refused_rows : Rows → Told
refused_rows x = told (says 9 0) x

-- numbers that spell no store are an unfit store
unfoldable pub call_numbers : Rows → Call → Told
call_numbers x c = pick (spells x) (spell_outcome (call (read_store x) c)) (refused_rows x)

-- the conditions on the lengths: what the numbers were does not matter
abbrev pub unfit_lengths : Rows → Bool
unfit_lengths x =
    any_of (unfit_rows (length x.vol) (length x.pers) (length x.old) ∷ not (eqb (length x.held) 8) ∷ not (eqb (length x.records) 256) ∷ [])

unfoldable pub fresh_numbers : Rows → Told
fresh_numbers x = pick (unfit_lengths x) (refused_rows x) (spell_outcome (make_fresh (read_store x)))

-- ---- what the code gives back: the answer's number; the value of a call that is not refused stands in the first number of a further row, if there is one

pub record Given : Type 0 where
  pub number : ℕ
  pub value : List ℕ
  pub rows : Rows

abbrev pub given : ℕ → List ℕ → Rows → Given
given n value x = record { number = n; value = value; rows = x }

-- a refused call, which is one answered 9 or above, leaves that row as it was
abbrev pub valued : List ℕ → Reply → List ℕ
valued [] a = []
valued (v ∷ vs) a = pick (leb 9 a.number) v a.value ∷ vs

abbrev pub gives : List ℕ → Told → Given
gives value t = given t.reply.number (valued value t.reply) t.rows
