-- A recovery call is refused where `recovers` says so, with the number that the definition gives, and is carried out where it does not: the two tests are looked at
-- one by one.
use mathlib.Core.Path.{◌≡◌, refl}
use mathlib.Core.Bool.{Bool, true, false}
use Rattle.std.specs.Prelude.{Result, Ok, Err}
use Rattle.bits.specs.Marks.{pick}
use Rattle.dtml.specs.declared.Refusal.{Refusal}
use Rattle.dtml.specs.declared.Refusal.TheVariants.{Unfit, Idle}
use Rattle.dtml.specs.Table.{says, reply}
use Rattle.dtml.specs.Store.{Memory}
use Rattle.dtml.specs.Handed.{Happened, nothing}

abbrev tested : Bool → Bool → Result (Unit {0}) Refusal
tested bad idle = pick bad (Err Unfit) (pick idle (Err Idle) (Ok tt))

pub refused-so : (bad idle : Bool) (m : Memory) (z : Happened) (e : Refusal) → tested bad idle ≡ Err e
    → nothing (reply (Err e)) m ≡ pick bad (nothing (says 9 0) m) (pick idle (nothing (says 16 0) m) z)
refused-so true idle m z e h = let q : Unfit ≡ e = cc in rw (← q)
refused-so false true m z e h = let q : Idle ≡ e = cc in rw (← q)
refused-so false false m z e h = cc

pub taken-so : (bad idle : Bool) (m : Memory) (z : Happened) {u : Unit {0}} → tested bad idle ≡ Ok u
    → z ≡ pick bad (nothing (says 9 0) m) (pick idle (nothing (says 16 0) m) z)
taken-so true idle m z h = cc
taken-so false true m z h = cc
taken-so false false m z h = refl
