-- A row that is lent again for a call, and comes back with its token as the callee left it; and a reference so.
use Prim.Native.Nat.{ℕ}
use mathlib.Core.Path.{◌≡◌, subst}
use mathlib.Core.List.{List, [], ◌∷◌}
use lib.ListN.{length}
use seplogic.Ra.Ura.{Ura}
use base.Fraction.{full_share}
use mir.Syntax.{Lifetime}
use base.Logic.{SProp, ent, sep, ex}
use base.Fml.{Lft, GName, Share, Fml, fsep, flft, fres}
use types.Logic.{Logic, sem}
use types.Kit.{‵, ◌⊛◌, some, later, ◌$◌, ◌∵◌, !, qed, move, use2, use3, split, pick, await, updating, now as at_once, show, done}
use types.Tokens.{lft_new, lft_end}
use denote.RattleType.{RattleType}
use denote.Ref.{MutBor, at_last, MutRef, mut_vals}
use denote.Lend.{LentAgain as OneLentAgain, lends_again as one-lends-again, comes_back as one-comes-back}
use denote.Slice.{slice_val, mut_slice_vals, MutSlice, Room, finally}
use Rattle.walks.proofs.Again.{LentAgain, lends_again, comes_back}

-- a row, with the lifetime and the share of the token at which it is lent
pub record Row (R : RattleType) : Type 0 where
  pub κ : Lft
  pub q : Share
  pub x : MutBor (List R.Denot)
  pub room : Room R (length x.now)

-- what is had of it when it is ts
abbrev pub Has : {R : RattleType} → Lifetime → Row R → List R.Denot → Fml
Has {R} ℓ z ts = fsep ((MutSlice ℓ z.κ R).own_val (at_last z.x ts) (mut_slice_vals z.x)) (flft z.κ z.q)

module _ {R : RattleType} (z : Row R) (ts : List R.Denot) where
  -- under another name, and what is kept meanwhile
  abbrev pub again : GName → MutBor (List R.Denot)
  again δ = record { ref_ptr = z.x.ref_ptr; ghost_name = δ; now = ts }

  abbrev pub Lender : ℕ → GName → Fml
  Lender ν δ = LentAgain R z.κ (ν ∷ []) z.q z.x.ghost_name z.x.ref_ptr.0 z.x.ref_ptr.1 δ ts

  module _ (ℓ ℓ' : Lifetime) {M : Type 1} {𝓤 : Ura M} (𝓛 : Logic 𝓤) (e : length ts ≡ length z.x.now) where
    open 𝓛 use {H, A}

    abbrev Own : ℕ → List R.Denot → Fml
    Own n us = (MutSlice ℓ z.κ R).own_val (at_last z.x us) (slice_val z.x.ref_ptr n ∷ [])

    abbrev Lent : ℕ → ℕ → GName → SProp 𝓤
    Lent n ν δ = sep 𝓤 (A.lft (ν ∷ []) full_share) (sep 𝓤 (sem 𝓛 ((MutSlice ℓ' (ν ∷ []) R).own_val (again δ) (slice_val z.x.ref_ptr n ∷ []))) (sem 𝓛 (Lender ν δ)))

    pub goes-out : ent 𝓤 (sem 𝓛 (Has ℓ z ts)) (H.⇛ (ex 𝓤 (λ (ν : ℕ). ex 𝓤 (Lent (length z.x.now) ν))))
    goes-out = subst (λ (n : ℕ). ent 𝓤 (sem 𝓛 (fsep (Own n ts) (flft z.κ z.q))) (H.⇛ (ex 𝓤 (λ (ν : ℕ). ex 𝓤 (Lent n ν))))) e
        (qed 𝓛 (‵ (Own (length ts) ts) ∷ ‵ (flft z.κ z.q) ∷ []) ∵ updating ! $ lft_new ! tt (λ ν. move ! (1 ∷ 2 ∷ []) $
        use2 𝓛 (later (some (λ (δ : GName). ‵ ((MutSlice ℓ' (ν ∷ []) R).own_val (again δ) (slice_val z.x.ref_ptr (length ts) ∷ [])) ⊛ ‵ (Lender ν δ))))
        (lends_again R z.κ (ν ∷ []) z.q z.x.ghost_name z.x.ref_ptr.0 z.x.ref_ptr.1 𝓛 ℓ ℓ' ts) $ await ! tt $ pick ! (λ δ. split ! $ move ! (2 ∷ 0 ∷ 1 ∷ []) $
        at_once ! $ show ! (λ (ν : ℕ). ex 𝓤 (Lent (length ts) ν)) ν $ show ! (Lent (length ts) ν) δ $ done !)))

    pub comes-in : (ν : ℕ) (δ : GName) (zs : List R.Denot) → length zs ≡ length ts
        → ent 𝓤 (sep 𝓤 (A.lft (ν ∷ []) full_share) (sep 𝓤 (sem 𝓛 (Lender ν δ)) (sem 𝓛 (finally R δ zs)))) (H.⇛ (sem 𝓛 (Has ℓ z zs)))
    comes-in ν δ zs l = subst (λ (n : ℕ). Room R n → ent 𝓤 (sep 𝓤 (A.lft (ν ∷ []) full_share) (sep 𝓤 (sem 𝓛 (Lender ν δ)) (sem 𝓛 (finally R δ zs))))
        (H.⇛ (sem 𝓛 (fsep (Own n zs) (flft z.κ z.q))))) e
        (λ room. qed 𝓛 (‵ (flft (ν ∷ []) full_share) ∷ ‵ (Lender ν δ) ∷ ‵ (finally R δ zs) ∷ []) ∵ updating ! $ lft_end ! tt $
        use3 𝓛 (later (‵ (Own (length ts) zs) ⊛ ‵ (flft z.κ z.q)))
        (comes_back R z.κ (ν ∷ []) z.q z.x.ghost_name z.x.ref_ptr.0 z.x.ref_ptr.1 𝓛 ℓ ℓ' ts δ zs room l) $
        await ! tt $ split ! $ at_once ! $ done !) z.room

-- ---- a reference, with the lifetime and the share of the token at which it is lent
pub record Lone (R : RattleType) : Type 0 where
  pub κ : Lft
  pub q : Share
  pub x : MutBor R.Denot

-- what is had of it when its value is v
abbrev pub HasOne : {R : RattleType} → Lifetime → Lone R → R.Denot → Fml
HasOne {R} ℓ z v = fsep ((MutRef ℓ z.κ R).own_val (at_last z.x v) (mut_vals z.x)) (flft z.κ z.q)

module _ {R : RattleType} (z : Lone R) (v : R.Denot) where
  abbrev pub one_again : GName → MutBor R.Denot
  one_again δ = record { ref_ptr = z.x.ref_ptr; ghost_name = δ; now = v }

  abbrev pub OneLender : ℕ → GName → Fml
  OneLender ν δ = OneLentAgain R z.κ (ν ∷ []) z.q z.x.ghost_name z.x.ref_ptr.0 z.x.ref_ptr.1 δ v

  module _ (ℓ ℓ' : Lifetime) {M : Type 1} {𝓤 : Ura M} (𝓛 : Logic 𝓤) where
    open 𝓛 use {H, A}

    abbrev OneLent : ℕ → GName → SProp 𝓤
    OneLent ν δ = sep 𝓤 (A.lft (ν ∷ []) full_share) (sep 𝓤 (sem 𝓛 ((MutRef ℓ' (ν ∷ []) R).own_val (one_again δ) (mut_vals z.x))) (sem 𝓛 (OneLender ν δ)))

    pub one-goes-out : ent 𝓤 (sem 𝓛 (HasOne ℓ z v)) (H.⇛ (ex 𝓤 (λ (ν : ℕ). ex 𝓤 (OneLent ν))))
    one-goes-out =
        qed 𝓛 (‵ ((MutRef ℓ z.κ R).own_val (at_last z.x v) (mut_vals z.x)) ∷ ‵ (flft z.κ z.q) ∷ []) ∵ updating ! $ lft_new ! tt (λ ν. move ! (1 ∷ 2 ∷ []) $
        use2 𝓛 (later (some (λ (δ : GName). ‵ ((MutRef ℓ' (ν ∷ []) R).own_val (one_again δ) (mut_vals z.x)) ⊛ ‵ (OneLender ν δ))))
        (one-lends-again 𝓛 R ℓ z.κ (ν ∷ []) z.q z.x.ghost_name z.x.ref_ptr.0 z.x.ref_ptr.1 ℓ' v) $ await ! tt $ pick ! (λ δ. split ! $ move ! (2 ∷ 0 ∷ 1 ∷ []) $
        at_once ! $ show ! (λ (ν : ℕ). ex 𝓤 (OneLent ν)) ν $ show ! (OneLent ν) δ $ done !))

    pub one-comes-in : (ν : ℕ) (δ : GName) (w : R.Denot)
        → ent 𝓤 (sep 𝓤 (A.lft (ν ∷ []) full_share) (sep 𝓤 (sem 𝓛 (OneLender ν δ)) (sem 𝓛 (fres δ (R.coded.code w))))) (H.⇛ (sem 𝓛 (HasOne ℓ z w)))
    one-comes-in ν δ w =
        qed 𝓛 (‵ (flft (ν ∷ []) full_share) ∷ ‵ (OneLender ν δ) ∷ ‵ (fres δ (R.coded.code w)) ∷ []) ∵ updating ! $ lft_end ! tt $
        use3 𝓛 (later (‵ ((MutRef ℓ z.κ R).own_val (at_last z.x w) (mut_vals z.x)) ⊛ ‵ (flft z.κ z.q)))
        (one-comes-back 𝓛 R ℓ z.κ (ν ∷ []) z.q z.x.ghost_name z.x.ref_ptr.0 z.x.ref_ptr.1 δ v w) $
        await ! tt $ split ! $ at_once ! $ done !
