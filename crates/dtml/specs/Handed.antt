-- A call on what it is handed, without the other records: the code of a call equals this, and what it leaves of a fit store is what the whole call leaves.
use Rattle.std.specs.Prelude.{ℕ, Bool, true, false, List, ◌∷◌, length, set, leb}
use Rattle.bits.specs.Marks.{pick}
use Rattle.dtml.specs.declared.Tx.{Tx}
use Rattle.dtml.specs.declared.Recovery.{Recovery}
use Rattle.dtml.specs.declared.Recovery.TheVariants.{C1}
use Rattle.dtml.specs.Table.{Reply, says}
use Rattle.dtml.specs.Store.{Memory, Store, store, size}
use Rattle.dtml.specs.Asked.{Ask, Sys, flush, crash, recover, recover_up_to, Call, on, sys, Did, RecoveryDid, Outcome, outcome}
use Rattle.dtml.specs.Lines.{flush_word, recovery_line, crash_memory, crash_txs}
use Rattle.dtml.specs.First.{◌⇒◌, first}
use Rattle.dtml.specs.Checks.{unfit_one, unfit_memory, ask_checks, sys_checks}
use Rattle.dtml.specs.Calls.{ask, up_to}

-- ---- what is left of it, by what was changed

-- by a call on one record: it was refused, and nothing is changed, or it went
pub data Turned : Type 0 where
  no-turn : Reply → Memory → Turned
  a_turn : Did → Turned

-- by a call on none: it was refused; or it was a flush; or a crash, after which recovery is at C1; or so many recovery lines
pub data Happened : Type 0 where
  nothing : Reply → Memory → Happened
  a-flush : Memory → Happened
  a-crash : Memory → Happened
  some-lines : ℕ → RecoveryDid → Happened

-- ---- the calls

-- 01's order of checks; of the records only the one that is handed over is tested for fitness
unfoldable pub call_one : Memory → Recovery → Tx → ℕ → Ask → Turned
call_one m r t i a =
    first
    (unfit_one (length m.vol) (length m.pers) (length m.old) m.marks m.glb r t ⇒ 9 ∷ leb 64 i ⇒ 11 ∷ ask_checks (size m) r t a)
    (λ n. no-turn (says n 0) m)
    (a_turn (ask m t a))

abbrev pub happens : Memory → Recovery → Sys → Happened
happens m r (flush w) = a-flush (flush_word m w)
happens m r crash = a-crash (crash_memory m)
happens m r recover = some-lines 1 (recovery_line m r)
happens m r (recover_up_to b) = some-lines (up_to b (says 0 0) m r).reply.value (up_to b (says 0 0) m r)

-- no record is tested
unfoldable pub call_system : Memory → Recovery → Sys → Happened
call_system m r k = first (unfit_memory m r ⇒ 9 ∷ sys_checks (size m) r k) (λ n. nothing (says n 0) m) (happens m r k)

-- ---- the whole of it

-- the reply, and what is left of the memory, of recovery and of the record
pub record Left : Type 0 where
  pub reply : Reply
  pub mem : Memory
  pub rec : Recovery
  pub tx : Tx

abbrev pub left : Reply → Memory → Recovery → Tx → Left
left a m r t = record { reply = a; mem = m; rec = r; tx = t }

abbrev pub turn_left : Recovery → Tx → Turned → Left
turn_left r t (no-turn a m) = left a m r t
turn_left r t (a_turn d) = left d.reply d.mem r d.tx

abbrev pub event_left : Recovery → Tx → Happened → Left
event_left r t (nothing a m) = left a m r t
event_left r t (a-flush m) = left (says 0 0) m r t
event_left r t (a-crash m) = left (says 0 0) m C1 t
event_left r t (some-lines k h) = left h.reply h.mem h.rec t

unfoldable pub carry : Memory → Recovery → Tx → Call → Left
carry m r t (on i a) = turn_left r t (call_one m r t i a)
carry m r t (sys k) = event_left r t (call_system m r k)

-- the record that a call is handed: that of its identifier; record 0, which stays as it is, where there is none
abbrev pub place_of : ℕ → ℕ
place_of i = pick (leb 64 i) 0 i

abbrev pub slot_of : Call → ℕ
slot_of (on i a) = place_of i
slot_of (sys k) = 0

-- only a crash reaches the other records
abbrev pub is_crash : Happened → Bool
is_crash (nothing a m) = false
is_crash (a-flush m) = false
is_crash (a-crash m) = true
is_crash (some-lines k h) = false

abbrev pub crashed : Memory → Recovery → Call → Bool
crashed m r (on i a) = false
crashed m r (sys k) = is_crash (call_system m r k)

-- the whole store with what is left put back
abbrev pub reach : Bool → List Tx → List Tx
reach b ts = pick b (crash_txs ts) ts

abbrev pub put_back : Store → Call → Left → Outcome
put_back s c l = outcome l.reply (store l.mem l.rec (reach (crashed s.mem s.rec c) (set s.txs (slot_of c) l.tx)))
