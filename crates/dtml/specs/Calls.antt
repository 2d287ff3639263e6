-- What each call answers and leaves: its checks first, then an invocation, a line, a flush, a crash or recovery lines.
use Rattle.std.specs.Prelude.{ℕ, zero, suc, ◌+◌, not, List, [], ◌∷◌, length, set, eqb}
use Rattle.dtml.specs.declared.Tx.{Tx}
use Rattle.dtml.specs.declared.Phase.TheVariants.{B1, R1, W1, E1}
use Rattle.dtml.specs.declared.Recovery.{Recovery}
use Rattle.dtml.specs.declared.Recovery.TheVariants.{Idle, C1, C2, C3, C4, C5, C6}
use Rattle.dtml.specs.Table.{Reply, says}
use Rattle.dtml.specs.Store.{Memory, Store, store, size, record_at, fresh}
use Rattle.dtml.specs.Asked.{Ask, begin, read, write, commit, step, Sys, flush, crash, recover, recover_up_to, Call, on, sys, Did, RecoveryDid, recovery_did, Outcome, outcome}
use Rattle.dtml.specs.Lines.{to, line, recover_to, flush_word, recovery_line, crash_memory, crash_txs}
use Rattle.dtml.specs.First.{any_of, ◌⇒◌, first}
use Rattle.dtml.specs.Checks.{unfit_rows, checks}

-- ---- what is carried out

-- An invocation puts the record at its first line and answers 0; a step does one numbered line.
unfoldable pub ask : Memory → Tx → Ask → Did
ask m t begin = to m t.loc B1
ask m t (read w) = to m t.loc (R1 w)
ask m t (write w v) = to m t.loc (W1 w v)
ask m t commit = to m t.loc E1
ask m t step = line m t

-- one line more: its number stands, and the lines carried out rise by 1
abbrev pub one_more_line : (Reply → Memory → Recovery → RecoveryDid) → Reply → RecoveryDid → RecoveryDid
one_more_line rest a h = rest (says h.reply.number (a.value + 1)) h.mem h.rec

-- b recovery lines, or all that are left up to and with C6 if those are fewer, after what is answered so far: the last line's number, and the lines carried out
unfoldable pub up_to : ℕ → Reply → Memory → Recovery → RecoveryDid
up_to zero a m r = recovery_did a m r
up_to (suc b) a m Idle = recovery_did a m Idle
up_to (suc b) a m C1 = one_more_line (up_to b) a (recovery_line m C1)
up_to (suc b) a m C2 = one_more_line (up_to b) a (recovery_line m C2)
up_to (suc b) a m (C3 w v) = one_more_line (up_to b) a (recovery_line m (C3 w v))
up_to (suc b) a m (C4 w v) = one_more_line (up_to b) a (recovery_line m (C4 w v))
up_to (suc b) a m (C5 w v) = one_more_line (up_to b) a (recovery_line m (C5 w v))
up_to (suc b) a m C6 = one_more_line (up_to b) a (recovery_line m C6)

unfoldable pub system : Memory → Recovery → Sys → RecoveryDid
system m r (flush w) = recover_to (flush_word m w) r
system m r crash = recover_to (crash_memory m) C1
system m r recover = recovery_line m r
system m r (recover_up_to b) = up_to b (says 0 0) m r

-- only a crash reaches the records
abbrev pub system_txs : Sys → List Tx → List Tx
system_txs (flush w) ts = ts
system_txs crash ts = crash_txs ts
system_txs recover ts = ts
system_txs (recover_up_to b) ts = ts

-- ---- a call on a whole store

-- a refused call changes nothing, and its value is 0
abbrev pub refused : Store → ℕ → Outcome
refused s n = outcome (says n 0) s

abbrev pub placed : Store → ℕ → Did → Outcome
placed s t d = outcome d.reply (store d.mem s.rec (set s.txs t d.tx))

abbrev pub settled : List Tx → RecoveryDid → Outcome
settled ts h = outcome h.reply (store h.mem h.rec ts)

unfoldable pub act : Store → Call → Outcome
act s (on t a) = placed s t (ask s.mem (record_at s.txs t) a)
act s (sys k) = settled (system_txs k s.txs) (system s.mem s.rec k)

unfoldable pub call : Store → Call → Outcome
call s c = first (checks s c) (refused s) (act s c)

-- Making a store fresh answers 0, or refuses rows of the wrong length with 9.
unfoldable pub make_fresh : Store → Outcome
make_fresh s =
    first
    (any_of (unfit_rows (length s.mem.vol) (length s.mem.pers) (length s.mem.old) ∷ not (eqb (length s.txs) 64) ∷ []) ⇒ 9 ∷ [])
    (refused s)
    (outcome (says 0 0) (fresh (size s.mem)))
