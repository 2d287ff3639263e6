-- What is unfit beside the records, with recovery apart: the other three tests are those for an idle recovery, which adds nothing to them.
use Prim.Native.Nat.{ℕ}
use mathlib.Core.Path.{◌≡◌, refl}
use mathlib.Core.Bool.{Bool, true, false}
use mathlib.Core.List.{List, [], ◌∷◌}
use lib.Dec.{ltb}
use Rattle.bits.specs.Marks.{pick, stands_from}
use Rattle.dtml.specs.declared.Recovery.{Recovery}
use Rattle.dtml.specs.declared.Recovery.TheVariants.{Idle}
use Rattle.dtml.specs.First.{any_of}
use Rattle.dtml.specs.Checks.{unfit_rows, unfit_recovery, unfit_beside}

pub last-but-false : (b : Bool) → b ≡ any_of (b ∷ false ∷ [])
last-but-false true = refl
last-but-false false = refl

apart : (a b d e : Bool) → any_of (a ∷ b ∷ d ∷ e ∷ []) ≡ pick (any_of (a ∷ b ∷ d ∷ false ∷ [])) true e
apart true b d e = refl
apart false true d e = refl
apart false false true e = refl
apart false false false true = refl
apart false false false false = refl

pub over-idle : (vol pers old : ℕ) (k : List ℕ) (g : ℕ) (r : Recovery)
    → unfit_beside vol pers old k g r ≡ pick (unfit_beside vol pers old k g Idle) true (unfit_recovery vol k r)
unfolding unfit_beside
over-idle vol pers old k g r = apart (unfit_rows vol pers old) (stands_from k vol) (ltb 65535 g) (unfit_recovery vol k r)
