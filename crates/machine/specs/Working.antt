-- What a call does to all of the store but the row of records, from what was found of that row.
use Rattle.std.specs.Prelude.{Bool, true, false, not, List, [], ◌∷◌, ℕ, Result, Ok, Err, length, replicate, eqb}
use Rattle.bits.specs.Marks.{pick}
use Rattle.dtml.specs.declared.Answer.TheVariants.{Taken}
use Rattle.dtml.specs.declared.Refusal.{Refusal}
use Rattle.dtml.specs.declared.Refusal.TheVariants.{Unfit}
use Rattle.dtml.specs.declared.Recovery.{Recovery}
use Rattle.dtml.specs.declared.Recovery.TheVariants.{Idle, C1}
use Rattle.dtml.specs.declared.Tx.{Tx}
use Rattle.dtml.specs.Table.{says, reply}
use Rattle.dtml.specs.Store.{Memory}
use Rattle.dtml.specs.declared.Call.{Call}
use Rattle.dtml.specs.First.{any_of}
use Rattle.dtml.specs.Checks.{unfit_rows}
use Rattle.dtml.specs.Handed.{Left, left, carry, crashed}
use Rattle.lines.specs.declared.turn.Turn.{Turn}
use Rattle.system.specs.declared.Event.{Event}
use Rattle.machine.specs.declared.After.{After}
use Rattle.machine.specs.declared.Held.{Held}
use Rattle.machine.specs.declared.work.Worked.{Worked}

-- ---- a call

-- what is left of the memory, of recovery and of the record named, and whether the other records are reached
pub record Work : Type 0 where
  pub left : Left
  pub crashed : Bool

abbrev pub work_of : Left → Bool → Work
work_of l b = record { left = l; crashed = b }

-- an unfit row of records is refused before anything else; what else is unfit the call itself refuses
unfoldable pub worked : Memory → Recovery → Bool → Tx → Call → Work
worked m r bad t c = pick bad (work_of (left (says 9 0) m r t) false) (work_of (carry m r t c) (crashed m r c))

abbrev pub worked_of : Worked → Memory → Work
worked_of x m = work_of (left (reply x.answer) m x.recovery x.tx) x.crashed

-- the same of what a call on one record, or on none, gave back
abbrev pub turn_worked : Result Turn Refusal → Recovery → Tx → Worked
turn_worked (Ok u) r t = record { answer = Ok u.answer; recovery = r; tx = u.tx; crashed = false }
turn_worked (Err k) r t = record { answer = Err k; recovery = r; tx = t; crashed = false }

abbrev pub event_worked : Result Event Refusal → Recovery → Tx → Worked
event_worked (Ok Event.Flushed) r t = record { answer = Ok (Taken 0); recovery = r; tx = t; crashed = false }
event_worked (Ok Event.Crashed) r t = record { answer = Ok (Taken 0); recovery = C1; tx = t; crashed = true }
event_worked (Ok (Event.RecoveryLines a n r')) r t = record { answer = Ok a; recovery = r'; tx = t; crashed = false }
event_worked (Err k) r t = record { answer = Err k; recovery = r; tx = t; crashed = false }

-- ---- making fresh

pub record Renewed : Type 0 where
  pub vol : List ℕ
  pub pers : List ℕ
  pub old : List ℕ
  pub after : After

abbrev pub renewed_of : After → List ℕ → List ℕ → List ℕ → Renewed
renewed_of x vol pers old = record { vol = vol; pers = pers; old = old; after = x }

abbrev pub fresh_held : Held
fresh_held = record { marks = replicate 4 0; glb = 0; recovery = Idle }

unfoldable pub renewed : List ℕ → List ℕ → List ℕ → Held → ℕ → Renewed
renewed vol pers old h records =
    pick (any_of (unfit_rows (length vol) (length pers) (length old) ∷ not (eqb records 64) ∷ []))
    (renewed_of (record { answer = Err Unfit; held = h }) vol pers old)
    (renewed_of (record { answer = Ok (Taken 0); held = fresh_held }) (replicate (length vol) 0) (replicate (length pers) 0) (replicate (length old) 0))
