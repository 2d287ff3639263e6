-- What a call of this crate gives back, as the definitions have it.
use Rattle.std.specs.Prelude.{Bool, Result, Ok, Err, not}
use Rattle.bits.specs.Marks.{pick}
use Rattle.dtml.specs.declared.Answer.{Answer}
use Rattle.dtml.specs.declared.Refusal.{Refusal}
use Rattle.dtml.specs.declared.Refusal.TheVariants.{Unfit, Idle}
use Rattle.dtml.specs.declared.Recovery.{Recovery}
use Rattle.dtml.specs.Table.{reply}
use Rattle.dtml.specs.Store.{Memory}
use Rattle.dtml.specs.Asked.{RecoveryDid, recovery_did}
use Rattle.dtml.specs.Checks.{not_idle}
use Rattle.dtml.specs.Handed.{Happened, nothing, a-flush, a-crash, some-lines}
use Rattle.system.specs.declared.Event.{Event}
use Rattle.system.specs.declared.recovery.RecoveryTurn.{RecoveryTurn}

-- a line of recovery, or some
abbrev pub recovery_turn_of : Answer → Recovery → RecoveryTurn
recovery_turn_of a r = record { answer = a; recovery = r }

abbrev pub recovery_did_of : RecoveryTurn → Memory → RecoveryDid
recovery_did_of h m = recovery_did (reply (Ok h.answer)) m h.recovery

-- why a recovery call is refused; bad says that what it is handed is unfit
abbrev pub refused_in : Bool → Recovery → Result (Unit {0}) Refusal
refused_in bad r = pick bad (Err Unfit) (pick (not (not_idle r)) (Err Idle) (Ok tt))

-- a call
abbrev pub happened_of : Result Event Refusal → Memory → Happened
happened_of (Ok Event.Flushed) m = a-flush m
happened_of (Ok Event.Crashed) m = a-crash m
happened_of (Ok (Event.RecoveryLines a k r)) m = some-lines k (recovery_did (reply (Ok a)) m r)
happened_of (Err k) m = nothing (reply (Err k)) m
