-- A row of any type in memory. One's own, a local array, is lent as a slice for a call, at a lifetime made for the call, and taken back as the callee left it;
-- one that is lent to a function is opened, and is then as one's own until it is closed.
use mathlib.Core.Path.{◌≡◌, refl, sym, ap, subst}
use Prim.Native.Nat.{ℕ}
use mathlib.Core.List.{List, [], ◌∷◌}
use lib.ListN.{length}
use seplogic.Ra.Ura.{Ura}
use base.Fraction.{full_share}
use mir.Syntax.{Lifetime, ty_array}
use mir.Val.{Val}
use base.Logic.{SProp, ent, sep, ex, guard}
use base.Fml.{Lft, GName, Share, Fml, ftrue, fat, flft, fsep, fobs, fauth, flent, fobor}
use types.Logic.{Logic, sem}
use types.Kit.{Item, ‵, raw, ◌⊛◌, some, given, later, Goal, Soaks, Step, step, ◌$◌, ◌∵◌, !, qed, by, move, use1, use3, drop, split, pick, learn, check, rewrite, fsplit, fjoin, fpick, fpack, feq_i, await, updating, now as at_once, show, done}
use types.Share.{arr_parts}
use types.SemTy.{cells, Arr}
use types.Tokens.{lft_new, lft_end}
use denote.RattleType.{RattleType}
use denote.Shadow.{pure_i}
use denote.Laws.{Is, Tells, Makes, shows}
use denote.Memory.{mem, cell_at, part_at, part_of, shares, lone}
use denote.Array.{Array, array_vals, Array-Tells, Array-Makes}
use denote.ArrayMemory.{Single, Array-apart, Array-whole}
use denote.Ref.{MutBor}
use denote.Slice.{slice_val, MutSlice, Room, finally, heres, coded_holeys, mut_slice_at}
use denote.Lend.{Held, lends_slice, slice_back}
use denote.Index.{row, whole_in, whole_out, opens_slice, closes_slice}
use denote.Steps.{only, owned, peeks}

-- the loan: its lifetime, and the name of the reference
abbrev pub Loan : Type 0
Loan = ℕ × GName

module _ (R : RattleType) (b o : ℕ) where
  -- the reference that is lent
  abbrev pub lent-as : Loan → List R.Denot → MutBor (List R.Denot)
  lent-as ν ys = record { ref_ptr = (b, o); ghost_name = ν.1; now = ys }

  -- what the lender keeps
  abbrev pub Lender : Loan → ℕ → Fml
  Lender ν n = flent (ν.0 ∷ []) (Held R n b o ν.1)

  -- what the callee has of it, and the token of the loan's lifetime
  abbrev pub Lent : Lifetime → Loan → List R.Denot → Fml
  Lent ℓ ν ys = fsep ((MutSlice ℓ (ν.0 ∷ []) R).own_val (lent-as ν ys) (slice_val (b, o) (length ys) ∷ [])) (flft (ν.0 ∷ []) full_share)

  module _ {M : Type 1} {𝓤 : Ura M} (𝓛 : Logic 𝓤) where
    open 𝓛 use {H, A}

    abbrev On-loan : Lifetime → List R.Denot → Loan → SProp 𝓤
    On-loan ℓ ys ν = sep 𝓤 (sem 𝓛 (Lent ℓ ν ys)) (sem 𝓛 (Lender ν (length ys)))

    pub lends-own : (ℓ : Lifetime) (ys : List R.Denot) → Room R (length ys) → ent 𝓤 (sem 𝓛 (row R full_share ys b o)) (H.⇛ (ex 𝓤 (On-loan ℓ ys)))
    lends-own ℓ ys room =
        qed 𝓛 (‵ (row R full_share ys b o) ∷ []) ∵ updating ! $ use1 𝓛 (‵ (cells (mem R) ys b o)) (whole_in 𝓛 R ys b o) $
        lft_new ! tt (λ ν. move ! (1 ∷ []) $
        use1 𝓛 (later (some (λ (γ : GName). ‵ ((MutSlice ℓ (ν ∷ []) R).own_val (lent-as (ν, γ) ys) (slice_val (b, o) (length ys) ∷ [])) ⊛ ‵ (Lender (ν, γ) (length ys)))))
        (lends_slice 𝓛 R ℓ (ν ∷ []) ys b o room) $ await ! tt $ pick ! (λ γ. split ! $ move ! (0 ∷ 2 ∷ []) $ fjoin ! $ at_once ! $ show ! (On-loan ℓ ys) (ν, γ) $ done !))

    pub takes_back : (ν : Loan) (n : ℕ) (zs : List R.Denot)
        → ent 𝓤 (sep 𝓤 (A.lft (ν.0 ∷ []) full_share) (sep 𝓤 (sem 𝓛 (Lender ν n)) (sem 𝓛 (finally R ν.1 zs)))) (H.⇛ (sem 𝓛 (row R full_share zs b o)))
    takes_back ν n zs =
        qed 𝓛 (‵ (flft (ν.0 ∷ []) full_share) ∷ ‵ (Lender ν n) ∷ ‵ (finally R ν.1 zs) ∷ []) ∵ updating ! $ lft_end ! tt $
        use3 𝓛 (later (‵ ((Arr (mem R) n).own_at zs b o))) (slice_back 𝓛 R (ν.0 ∷ []) ν.1 zs n b o) $ await ! tt $ fsplit ! $ drop ! $
        use1 𝓛 (‵ (row R full_share zs b o)) (whole_out 𝓛 R zs b o) $ at_once ! $ done !

    -- an array by value, where it lies, is such a row
    pub array_row : Single R.mir → Makes 𝓛 R (Is R) → (n : ℕ) (xs : List R.Denot) (v : Val) → Is (Array R n) xs (v ∷ [])
        → ent 𝓤 (H.at full_share (ty_array (lone R.mir) n) b o v) (sem 𝓛 (row R full_share xs b o))
    unfolding part_of
    array_row one makes n xs v ix =
        qed 𝓛 (‵ (fat full_share (ty_array (lone R.mir) n) b o v) ∷ []) ∵
        use1 𝓛 (‵ (cell_at full_share (Array R n).mir (v ∷ []) b o)) (𝓛.laws.at_raw full_share (ty_array (lone R.mir) n) b o v) $
        owned ! (Array R n) (Is (Array R n)) (Array-Makes 𝓛 R makes n) xs (v ∷ []) ix $ move ! (1 ∷ 0 ∷ []) $
        fjoin ! $ fpack ! (List Val) (λ vs. fsep (cell_at full_share (Array R n).mir vs b o) ((Array R n).own_val xs vs)) (v ∷ []) $
        use1 𝓛 (‵ ((arr_parts (shares R) n).part full_share xs b o)) (Array-apart 𝓛 R full_share one n xs b o) $ fsplit ! $ drop ! $ done !

    -- and such a row is the array by value again, or leaves the array's room
    pub row-array : (vals : R.Denot → List Val) → Tells R (Is R) vals → (n : ℕ) (xs : List R.Denot) → length xs ≡ n
        → ent 𝓤 (sem 𝓛 (row R full_share xs b o))
        (guard 𝓤 (Is (Array R n) xs (array_vals vals xs)) (H.at full_share (ty_array (lone R.mir) n) b o (only (array_vals vals xs))))
    unfolding part_of
    row-array vals tells n xs e =
        qed 𝓛 (‵ (row R full_share xs b o) ∷ []) ∵ feq_i ! ℕ (length xs) n e $ fjoin ! $
        use1 𝓛 (‵ (part_at (Array R n) full_share xs b o)) (Array-whole 𝓛 R full_share n xs b o) $
        fpick ! (λ vs. fsplit ! $ move ! (1 ∷ []) $ peeks ! (Array R n) (Is (Array R n)) (shows 𝓛 (Array R n)) xs vs (λ ir. drop ! $
        let same = Array-Tells R vals tells n xs vs ir in
        rewrite ! 0 (λ (us : List Val). ‵ (cell_at full_share (Array R n).mir us b o)) same refl $
        check ! (subst (λ (us : List Val). Is (Array R n) xs us) same ir) $
        use1 𝓛 (raw (H.at full_share (ty_array (lone R.mir) n) b o (only (array_vals vals xs))))
        (𝓛.laws.raw_at full_share (ty_array (lone R.mir) n) b o (only (array_vals vals xs))) $ done !))

    pub row_room : (vals : R.Denot → List Val) → Tells R (Is R) vals → (n : ℕ) (xs : List R.Denot) → length xs ≡ n
        → ent 𝓤 (sem 𝓛 (row R full_share xs b o)) (H.room (ty_array (lone R.mir) n) b o)
    row_room vals tells n xs e =
        qed 𝓛 (‵ (row R full_share xs b o) ∷ []) ∵
        use1 𝓛 (given (Is (Array R n) xs (array_vals vals xs)) (raw (H.at full_share (ty_array (lone R.mir) n) b o (only (array_vals vals xs)))))
        (row-array vals tells n xs e) $ learn ! (λ _. by ! (𝓛.laws.at_room (ty_array (lone R.mir) n) b o (only (array_vals vals xs))))

-- ---- a row that is lent to a function as `&mut`, where it was lent with ys and is now at zs: it is opened as the function is entered, and closed at the end
module _ (R : RattleType) (ℓ : Lifetime) (κ : Lft) (b o : ℕ) (γ : GName) where
  abbrev ref : List R.Denot → MutBor (List R.Denot)
  ref zs = record { ref_ptr = (b, o); ghost_name = γ; now = zs }

  -- what the reference owns
  abbrev pub Mut : List R.Denot → List R.Denot → Fml
  Mut ys zs = (MutSlice ℓ κ R).own_val (ref zs) (slice_val (b, o) (length ys) ∷ [])

  -- what closes it
  abbrev pub Closes : Share → List R.Denot → Fml
  Closes q ys = fsep (fobor κ q (Held R (length ys) b o γ)) (fsep (fobs γ ((coded_holeys R).code (heres R ys))) (fauth γ ((coded_holeys R).code (heres R ys))))

  module _ {M : Type 1} {𝓤 : Ura M} {𝓛 : Logic 𝓤} {K : Type 0} {Γ : List (Item 𝓤)} {G : Goal 𝓤 𝓛.H} where
    pub opens : K → Soaks G → (q : Share) (ys : List R.Denot) {Q : Fml}
        → Step K 𝓛 (‵ (row R full_share ys b o) ∷ ‵ (Closes q ys) ∷ Γ) G ((‵ (flft κ q) ⊛ ‵ ftrue) ∷ ‵ (fsep (Mut ys ys) Q) ∷ Γ) G
    opens t z q ys = step (λ s. split t $ move t (2 ∷ []) $ fsplit t $ fsplit t $ drop t $ fsplit t $ move t (0 ∷ 1 ∷ 3 ∷ []) $
        opens_slice t z R ys b o $ move t (4 ∷ 5 ∷ []) $ drop t $ drop t $ move t (2 ∷ 3 ∷ []) $ fjoin t $ move t (2 ∷ 0 ∷ []) $ fjoin t $
        move t (1 ∷ 0 ∷ []) $ s)

    pub closes : K → Soaks G → (q : Share) (ys zs : List R.Denot) → length zs ≡ length ys → Room R (length ys)
        → Step K 𝓛 (‵ (Mut ys zs) ∷ ‵ (flft κ q) ∷ Γ) G (‵ (row R full_share zs b o) ∷ ‵ (Closes q ys) ∷ Γ) G
    closes t z q ys zs e room = step (λ s. move t (1 ∷ []) $ fsplit t $ move t (1 ∷ []) $ fsplit t $ move t (3 ∷ 2 ∷ []) $
        closes_slice t z R ys zs e b o $ fjoin t $ pure_i t (mut_slice_at R (ref zs) (slice_val (b, o) (length ys) ∷ [])) (tt, (tt, tt))
        (ap (λ (m : ℕ). slice_val (b, o) m ∷ []) (sym e), subst (Room R) (sym e) room) $ fjoin t $ s)
