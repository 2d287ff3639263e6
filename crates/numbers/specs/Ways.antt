-- What the parts of a call on numbers come to.
use Rattle.std.specs.Prelude.{ℕ, ◌*◌, Bool, true, List, ◌++◌, take, drop}
use Rattle.bits.specs.Marks.{pick}
use Rattle.dtml.specs.declared.Tx.{Tx}
use Rattle.dtml.specs.Lines.{crash_txs}
use Rattle.dtml.specs.Checks.{unfit_tx, unfit_txs}
use Rattle.machine.specs.declared.Held.{Held}
use Rattle.numbers.specs.Numbers.{at, spell_tx, read_tx, spell_txs, read_txs, spell_held, read_marks, read_glb, read_rec, same}

-- ---- the records

-- the record that four numbers spell
abbrev pub tx_of : List ℕ → Tx
tx_of r = read_tx (at r 0) (at r 1) (at r 2) (at r 3)

-- the row with record i put back
abbrev pub put_tx : List ℕ → ℕ → Tx → List ℕ
put_tx xs i t = take (4 * i) xs ++ (spell_tx t ++ drop 4 (drop (4 * i) xs))

-- the numbers spell no record, or an unfit one
unfoldable pub unfit_numbers : ℕ → List ℕ → Bool
unfit_numbers n r = pick (same (spell_tx (tx_of r)) r) (unfit_tx n (tx_of r)) true

-- a row spells no records, or an unfit one
unfoldable pub unfit_records : ℕ → List ℕ → Bool
unfit_records n xs = pick (same (spell_txs (read_txs xs)) xs) (unfit_txs n (read_txs xs)) true

unfoldable pub crash_numbers : List ℕ → List ℕ
crash_numbers xs = spell_txs (crash_txs (read_txs xs))

-- ---- what is held

abbrev pub held_spelt : List ℕ → Held
held_spelt h = record { marks = read_marks h; glb = read_glb h; recovery = read_rec h }

abbrev pub spelled_held : Held → List ℕ
spelled_held h = spell_held h.marks h.glb h.recovery

unfoldable pub spells_held : List ℕ → Bool
spells_held h = same (spelled_held (held_spelt h)) h
