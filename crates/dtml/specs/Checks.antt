-- Document 01, "Numbers that come back": what is unfit, and each call's order of checks.
use Rattle.std.specs.Prelude.{ℕ, Bool, true, false, not, List, [], ◌∷◌, length, eqb, leb, ltb}
use Rattle.bits.specs.Marks.{pick, count_of, stands_from}
use Rattle.dtml.specs.declared.Tx.{Tx}
use Rattle.dtml.specs.declared.Phase.{Phase}
use Rattle.dtml.specs.declared.Phase.TheVariants.{Fresh, Ready, Committed, Aborted, B1, B2, R1, R2, W1, W2, W3, W4, W5, W6, W7, E1, E2, E3}
use Rattle.dtml.specs.declared.Stage.{Stage}
use Rattle.dtml.specs.declared.Recovery.{Recovery}
use Rattle.dtml.specs.declared.Recovery.TheVariants.{Idle, C1, C2, C3, C4, C5, C6}
use Rattle.dtml.specs.Store.{Memory, Store, size, record_at}
use Rattle.dtml.specs.Asked.{Ask, begin, read, write, commit, step, Sys, flush, crash, recover, recover_up_to, Call, on, sys}
use Rattle.dtml.specs.First.{any_of, Check, ◌⇒◌}
use Rattle.dtml.specs.Lines.{stage}

-- ---- unfit

-- the three word rows differ in length, or N, which is that length, is 0 or above 256
unfoldable pub unfit_rows : ℕ → ℕ → ℕ → Bool
unfit_rows vol pers old = any_of (not (eqb vol pers) ∷ not (eqb vol old) ∷ eqb vol 0 ∷ ltb 256 vol ∷ [])

-- a phase names a word
abbrev pub names_word : Phase → Bool
names_word Fresh = false
names_word Ready = false
names_word Committed = false
names_word Aborted = false
names_word B1 = false
names_word B2 = false
names_word (R1 w) = true
names_word (R2 v) = false
names_word (W1 w v) = true
names_word (W2 w v) = true
names_word (W3 w v) = true
names_word (W4 w v) = true
names_word (W5 w v) = true
names_word (W6 w v) = true
names_word (W7 w) = true
names_word E1 = false
names_word E2 = false
names_word E3 = false

-- the word that it names, or 0
abbrev pub word_of : Phase → ℕ
word_of Fresh = 0
word_of Ready = 0
word_of Committed = 0
word_of Aborted = 0
word_of B1 = 0
word_of B2 = 0
word_of (R1 w) = w
word_of (R2 v) = 0
word_of (W1 w v) = w
word_of (W2 w v) = w
word_of (W3 w v) = w
word_of (W4 w v) = w
word_of (W5 w v) = w
word_of (W6 w v) = w
word_of (W7 w) = w
word_of E1 = 0
word_of E2 = 0
word_of E3 = 0

-- a phase names a word at N or above
abbrev pub phase_past : ℕ → Phase → Bool
phase_past n p = pick (names_word p) (leb n (word_of p)) false

-- recovery names a word at N or above, or is at C2 with no mark
abbrev pub unfit_recovery : ℕ → List ℕ → Recovery → Bool
unfit_recovery n k Idle = false
unfit_recovery n k C1 = false
unfit_recovery n k C2 = eqb (count_of k) 0
unfit_recovery n k (C3 w v) = leb n w
unfit_recovery n k (C4 w v) = leb n w
unfit_recovery n k (C5 w v) = leb n w
unfit_recovery n k C6 = false

-- a loc is above 65,535, or a phase names a word at N or above
unfoldable pub unfit_tx : ℕ → Tx → Bool
unfit_tx n t = any_of (ltb 65535 t.loc ∷ phase_past n t.phase ∷ [])

unfoldable pub unfit_txs : ℕ → List Tx → Bool
unfit_txs n [] = false
unfit_txs n (t ∷ ts) = pick (unfit_tx n t) true (unfit_txs n ts)

-- all that is unfit without a look at the records, from the three rows' lengths, the marks, the count and recovery
unfoldable pub unfit_beside : ℕ → ℕ → ℕ → List ℕ → ℕ → Recovery → Bool
unfit_beside vol pers old k g r =
    any_of (unfit_rows vol pers old ∷ stands_from k vol ∷ ltb 65535 g ∷ unfit_recovery vol k r ∷ [])

abbrev pub unfit_memory : Memory → Recovery → Bool
unfit_memory m r = unfit_beside (length m.vol) (length m.pers) (length m.old) m.marks m.glb r

-- the same with one record
unfoldable pub unfit_one : ℕ → ℕ → ℕ → List ℕ → ℕ → Recovery → Tx → Bool
unfit_one vol pers old k g r t = any_of (unfit_beside vol pers old k g r ∷ unfit_tx vol t ∷ [])

unfoldable pub unfit : Store → Bool
unfit s =
    any_of (unfit_memory s.mem s.rec ∷ not (eqb (length s.txs) 64) ∷ unfit_txs (size s.mem) s.txs ∷ [])

-- ---- the checks

abbrev pub not_idle : Recovery → Bool
not_idle Idle = false
not_idle C1 = true
not_idle C2 = true
not_idle (C3 w v) = true
not_idle (C4 w v) = true
not_idle (C5 w v) = true
not_idle C6 = true

abbrev pub is_fresh : Stage → Bool
is_fresh Stage.Fresh = true
is_fresh Stage.Ready = false
is_fresh Stage.AtLine = false
is_fresh Stage.Over = false

abbrev pub is_ready : Stage → Bool
is_ready Stage.Fresh = false
is_ready Stage.Ready = true
is_ready Stage.AtLine = false
is_ready Stage.Over = false

abbrev pub is_at_line : Stage → Bool
is_at_line Stage.Fresh = false
is_at_line Stage.Ready = false
is_at_line Stage.AtLine = true
is_at_line Stage.Over = false

-- the checks of a record's call that follow 9 and 11
abbrev pub ask_checks : ℕ → Recovery → Tx → Ask → List Check
ask_checks n r t begin = not_idle r ⇒ 12 ∷ not (is_fresh (stage t.phase)) ⇒ 13 ∷ []
ask_checks n r t (read w) = leb n w ⇒ 10 ∷ not_idle r ⇒ 12 ∷ not (is_ready (stage t.phase)) ⇒ 14 ∷ []
ask_checks n r t (write w v) = leb n w ⇒ 10 ∷ not_idle r ⇒ 12 ∷ not (is_ready (stage t.phase)) ⇒ 14 ∷ []
ask_checks n r t commit = not_idle r ⇒ 12 ∷ not (is_ready (stage t.phase)) ⇒ 14 ∷ []
ask_checks n r t step = not_idle r ⇒ 12 ∷ not (is_at_line (stage t.phase)) ⇒ 15 ∷ []

-- the checks of the other calls that follow 9
abbrev pub sys_checks : ℕ → Recovery → Sys → List Check
sys_checks n r (flush w) = leb n w ⇒ 10 ∷ []
sys_checks n r crash = []
sys_checks n r recover = not (not_idle r) ⇒ 16 ∷ []
sys_checks n r (recover_up_to b) = not (not_idle r) ⇒ 16 ∷ []

abbrev pub checks : Store → Call → List Check
checks s (on t a) = unfit s ⇒ 9 ∷ leb 64 t ⇒ 11 ∷ ask_checks (size s.mem) s.rec (record_at s.txs t) a
checks s (sys k) = unfit s ⇒ 9 ∷ sys_checks (size s.mem) s.rec k
