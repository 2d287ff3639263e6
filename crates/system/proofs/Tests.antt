-- A test inside what a call gives back is a test between two things given back: true and false are looked at one by one.
use Prim.Native.Nat.{ℕ}
use mathlib.Core.Path.{◌≡◌, refl}
use mathlib.Core.Bool.{Bool, true, false}
use Rattle.bits.specs.Marks.{pick}
use Rattle.std.specs.Prelude.{Ok}
use Rattle.dtml.specs.declared.Answer.TheVariants.{Taken, Recovered}
use Rattle.dtml.specs.declared.Recovery.{Recovery}
use Rattle.dtml.specs.Table.{reply, says}
use Rattle.dtml.specs.Store.{Memory}
use Rattle.dtml.specs.Lines.{recover_to}

pub recover-to-pick : (b : Bool) (r s : Recovery) (m : Memory) → recover_to m (pick b r s) ≡ pick b (recover_to m r) (recover_to m s)
recover-to-pick true r s m = refl
recover-to-pick false r s m = refl

pub reply-pick : (b : Bool) (n : ℕ) → reply (Ok (pick b (Taken n) (Recovered n))) ≡ says (pick b 0 6) n
reply-pick true n = refl
reply-pick false n = refl
