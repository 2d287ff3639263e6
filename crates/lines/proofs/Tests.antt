-- A test between two things given back is a test inside what the call is: true and false are looked at one by one.
use Prim.Native.Nat.{ℕ}
use mathlib.Core.Path.{◌≡◌, refl}
use mathlib.Core.Bool.{Bool, true, false}
use mathlib.Core.List.{List}
use Rattle.std.specs.Prelude.{Ok}
use Rattle.bits.specs.Marks.{pick}
use Rattle.dtml.specs.Table.{reply}
use Rattle.dtml.specs.Store.{Memory, memory}
use Rattle.dtml.specs.Asked.{Did, did}
use Rattle.dtml.specs.Handed.{a_turn}
use Rattle.lines.specs.declared.turn.Turn.{Turn}
use Rattle.lines.specs.Turning.{turned_of}

abbrev did_of : Turn → Memory → Did
did_of u m = did (reply (Ok u.answer)) m u.tx

pub turned-pick : (b : Bool) (x y : Turn) (m : Memory) → turned_of (Ok (pick b x y)) m ≡ a_turn (pick b (did_of x m) (did_of y m))
turned-pick true x y m = refl
turned-pick false x y m = refl

-- the same where the count goes by the test as well
pub turned-pick-glb : (b : Bool) (x y : Turn) (v p o k : List ℕ) (g h : ℕ)
    → turned_of (Ok (pick b x y)) (memory v p o k (pick b g h)) ≡ a_turn (pick b (did_of x (memory v p o k g)) (did_of y (memory v p o k h)))
turned-pick-glb true x y v p o k g h = refl
turned-pick-glb false x y v p o k g h = refl
