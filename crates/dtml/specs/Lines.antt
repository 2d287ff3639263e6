-- Figure 1 of document 000, as document 01, "The lines", has it: what each numbered line does, and a flush and a crash.
use Rattle.std.specs.Prelude.{ℕ, ◌+◌, ◌%◌, Bool, true, false, not, List, map, get_or, set, eqb}
use Rattle.bits.specs.Marks.{pick, is_marked, mark_of, unmark_of, clear_of, count_of, lowest_of}
use Rattle.dtml.specs.declared.Tx.{Tx}
use Rattle.dtml.specs.declared.Phase.{Phase}
use Rattle.dtml.specs.declared.Phase.TheVariants.{Fresh, Ready, Committed, Aborted, B1, B2, R1, R2, W1, W2, W3, W4, W5, W6, W7, E1, E2, E3}
use Rattle.dtml.specs.declared.Stage.{Stage}
use Rattle.dtml.specs.declared.Recovery.{Recovery}
use Rattle.dtml.specs.declared.Recovery.TheVariants.{Idle, C1, C2, C3, C4, C5, C6}
use Rattle.dtml.specs.Table.{says}
use Rattle.dtml.specs.Store.{Memory, memory, tx}
use Rattle.dtml.specs.Asked.{Did, did, RecoveryDid, recovery_did}

-- ---- one act on the memory

abbrev pub with_glb : Memory → ℕ → Memory
with_glb m g = memory m.vol m.pers m.old m.marks g

abbrev pub with_marks : Memory → List ℕ → Memory
with_marks m k = memory m.vol m.pers m.old k m.glb

-- the volatile word
abbrev pub word : Memory → ℕ → ℕ
word m w = get_or m.vol w 0

-- volatile word := value
abbrev pub store_word : Memory → ℕ → ℕ → Memory
store_word m w v = memory (set m.vol w v) m.pers m.old m.marks m.glb

-- old := volatile word, and mark it, as one act
abbrev pub enter : Memory → ℕ → Memory
enter m w = memory m.vol m.pers (set m.old w (word m w)) (mark_of m.marks w) m.glb

-- a flush of word w: the persistent words, from the volatile and the persistent words
unfoldable pub flush_of : List ℕ → List ℕ → ℕ → List ℕ
flush_of vol pers w = set pers w (get_or vol w 0)

abbrev pub flush_word : Memory → ℕ → Memory
flush_word m w = memory m.vol (flush_of m.vol m.pers w) m.old m.marks m.glb

-- ---- the lines of a transaction

-- fresh, ready, committed and aborted records have no line to do
abbrev pub stage : Phase → Stage
stage Fresh = Stage.Fresh
stage Ready = Stage.Ready
stage Committed = Stage.Over
stage Aborted = Stage.Over
stage B1 = Stage.AtLine
stage B2 = Stage.AtLine
stage (R1 w) = Stage.AtLine
stage (R2 v) = Stage.AtLine
stage (W1 w v) = Stage.AtLine
stage (W2 w v) = Stage.AtLine
stage (W3 w v) = Stage.AtLine
stage (W4 w v) = Stage.AtLine
stage (W5 w v) = Stage.AtLine
stage (W6 w v) = Stage.AtLine
stage (W7 w) = Stage.AtLine
stage E1 = Stage.AtLine
stage E2 = Stage.AtLine
stage E3 = Stage.AtLine

-- to the next line, with nothing to report
abbrev pub to : Memory → ℕ → Phase → Did
to m loc p = did (says 0 0) m (tx loc p)

abbrev pub abort : Memory → ℕ → Did
abort m loc = did (says 5 0) m (tx loc Aborted)

abbrev pub even : ℕ → Bool
even n = eqb (n % 2) 0

-- the line at which a transaction with this loc stands
unfoldable pub line_at : Memory → ℕ → Phase → Did
line_at m loc B1 = to m m.glb B2
line_at m loc B2 = pick (even loc) (did (says 1 0) m (tx loc Ready)) (to m loc B1)
line_at m loc (R1 w) = to m loc (R2 (word m w))
line_at m loc (R2 v) = pick (eqb m.glb loc) (did (says 2 v) m (tx loc Ready)) (abort m loc)
line_at m loc (W1 w v) = pick (even loc) (to m loc (W2 w v)) (to m loc (W4 w v))
line_at m loc (W2 w v) = pick (eqb m.glb loc) (to (with_glb m (m.glb + 1)) loc (W3 w v)) (abort m loc)
line_at m loc (W3 w v) = to m (loc + 1) (W4 w v)
line_at m loc (W4 w v) = pick (is_marked m.marks w) (to m loc (W6 w v)) (to m loc (W5 w v))
line_at m loc (W5 w v) = to (enter m w) loc (W6 w v)
line_at m loc (W6 w v) = to (store_word m w v) loc (W7 w)
line_at m loc (W7 w) = did (says 3 0) (flush_word m w) (tx loc Ready)
line_at m loc E1 = pick (even loc) (did (says 4 0) m (tx loc Committed)) (to m loc E2)
line_at m loc E2 = to (with_marks m (clear_of m.marks)) loc E3
line_at m loc E3 = did (says 4 0) (with_glb m (loc + 1)) (tx loc Committed)
line_at m loc Fresh = to m loc Fresh
line_at m loc Ready = to m loc Ready
line_at m loc Committed = to m loc Committed
line_at m loc Aborted = to m loc Aborted

abbrev pub line : Memory → Tx → Did
line m t = line_at m t.loc t.phase

-- ---- the lines of recovery

abbrev pub recover_to : Memory → Recovery → RecoveryDid
recover_to m r = recovery_did (says 0 0) m r

abbrev pub any_mark : List ℕ → Bool
any_mark k = not (eqb (count_of k) 0)

-- the lowest marked word with its old word (the figure allows any)
abbrev pub choose : Memory → Recovery
choose m = C3 (lowest_of m.marks) (get_or m.old (lowest_of m.marks) 0)

-- The line at which recovery stands. (Idle has none.)
unfoldable pub recovery_line : Memory → Recovery → RecoveryDid
recovery_line m C1 = pick (any_mark m.marks) (recover_to m C2) (recover_to m C6)
recovery_line m C2 = recover_to m (choose m)
recovery_line m (C3 w v) = recover_to (store_word m w v) (C4 w v)
recovery_line m (C4 w v) = recover_to (flush_word m w) (C5 w v)
recovery_line m (C5 w v) = recover_to (with_marks m (unmark_of m.marks w)) C1
recovery_line m C6 = recovery_did (says 6 0) (with_glb m 0) Idle
recovery_line m Idle = recover_to m Idle

-- ---- a crash

-- volatile := persistent for every word, and glb := 0; persistent, old and marks stay
abbrev pub crash_memory : Memory → Memory
crash_memory m = memory m.pers m.pers m.old m.marks 0

-- each record that is not fresh, committed or aborted becomes aborted
abbrev pub is_live : Stage → Bool
is_live Stage.Fresh = false
is_live Stage.Ready = true
is_live Stage.AtLine = true
is_live Stage.Over = false

abbrev pub crash_phase : Phase → Phase
crash_phase p = pick (is_live (stage p)) Aborted p

-- every loc stays
abbrev pub crash_tx : Tx → Tx
crash_tx t = tx t.loc (crash_phase t.phase)

unfoldable pub crash_txs : List Tx → List Tx
crash_txs ts = map crash_tx ts
