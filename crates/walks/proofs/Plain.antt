-- Numbers, flags and the unit value in a walk: they are of their types, and what their types own is had for nothing.
use mathlib.Core.Path.{refl}
use Prim.Native.Nat.{ℕ, ◌<◌, ◌^◌}
use mathlib.Core.Bool.{Bool}
use mathlib.Core.List.{List, [], ◌∷◌}
use lib.Dec.{T}
use seplogic.Ra.Ura.{Ura}
use mir.Syntax.{Ty, w64, ty_int}
use mir.Val.{vunit, vint, vbool, has_ty, WT}
use types.Logic.{Logic}
use types.Kit.{Item, ‵, Goal, Step}
use denote.Laws.{Is}
use denote.Steps.{owned}
use denote.Plain.{uint_Makes, bool_Makes, Nothing-Makes}
use denote.Builtin.{usize, bool, unit}

abbrev pub word : Ty
word = ty_int w64

pub word_ok : {n : ℕ} → n < 2 ^ 64 → T (has_ty word (vint w64 n)) × WT (vint w64 n)
word_ok l = (tt, record { fits = l })

module _ {M : Type 1} {𝓤 : Ura M} {𝓛 : Logic 𝓤} {K : Type 0} {Γ : List (Item 𝓤)} {G : Goal 𝓤 𝓛.H} where
  pub owns-word : K → (n : ℕ) → n < 2 ^ 64 → Step K 𝓛 (‵ (usize.own_val n (vint w64 n ∷ [])) ∷ Γ) G Γ G
  owns-word t n l = owned t usize (Is usize) (uint_Makes 𝓛 w64) n (vint w64 n ∷ []) (refl, l)

  pub owns-flag : K → (z : Bool) → Step K 𝓛 (‵ (bool.own_val z (vbool z ∷ [])) ∷ Γ) G Γ G
  owns-flag t z = owned t bool (Is bool) (bool_Makes 𝓛) z (vbool z ∷ []) refl

  pub owns-unit : K → Step K 𝓛 (‵ (unit.own_val tt (vunit ∷ [])) ∷ Γ) G Γ G
  owns-unit t = owned t unit (Is unit) (Nothing-Makes 𝓛) tt (vunit ∷ []) refl
