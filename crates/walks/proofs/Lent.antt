-- A row of records in memory, as the walks have it: a lent one is opened and closed, a record is read and stored to where it lies, and an array by value is
-- such a row too.
use mathlib.Core.Path.{◌≡◌, refl, sym, subst}
use Prim.Native.Nat.{ℕ, ◌+◌, ◌*◌, ◌<◌, ◌^◌}
use native.Mathlib.Omega.{arith}
use mathlib.Core.List.{List, [], ◌∷◌}
use lib.ListN.{length, set}
use lib.Dec.{T, lit<}
use seplogic.Ra.Ura.{Ura}
use base.Fraction.{full_share}
use mir.Syntax.{Mutability, Ty, named, ty_ref, ty_array, copy, place, deref, rv_opd, seq, assign, Body}
use mir.Val.{Val, vptr, has_ty, WT}
use base.Logic.{SProp, ent, sep, wand, ex, ex_i, guard, via, guard_i, mono_l, fst∗, apply∗}
use base.Fml.{Lft, GName, Share, Fml, ftrue, fsep, fat, froom, flft}
use prog.Memory.{size}
use prog.Wp.{Env, Calls, Loops, spot_of}
use types.Logic.{Logic, sem}
use contract.Monad.{fact, fact_i, fact_use}
use types.Kit.{Item, ‵, raw, ◌⊛◌, mean, ⋆, nth, del, put, pull, unpull, fill, Post, Goal, runs, Soaks, Seq, Step, step, ◌$◌, ◌∵◌, !, qed, by, move, drop, use1, use2, split, join, rewrite, fsplit, fjoin, frame, assume, done}
use types.Run.{Reads, Writes, look, init, hop, stop, from, load, of_opd, assigns}
use denote.RattleType.{RattleType}
use denote.Laws.{Is, shows}
use denote.Memory.{cell_at, pointee}
use denote.Array.{Array, array_vals, Array-Typed, Array-Makes}
use denote.Ref.{Bor, MutBor}
use denote.Slice.{slice_ty, slice_val, ShrSlice, Room as RoomOf, shr_slice_at}
use denote.Index.{row, place_is, elem_out, elem_back, elem_put, looks_slice, shuts_slice}
use denote.Steps.{only, owned}
use denote.Opens.{Shut}
use denote.Shadow.{pure_l, pure_i}
use denote.Struct.Laws as LL
use denote.Enum.Laws as EL
use Rattle.dtml.specs.declared.Tx.{Tx}
use Rattle.dtml.specs.declared.Phase.TheVariants.{Fresh}
use Rattle.dtml.specs.Store.{tx, record_at}
use Rattle.dtml.specs.contracts.Tx as R
use Rattle.dtml.proofs.Tx.TheLaws as R'
use Rattle.dtml.specs.contracts.Phase as P
use Rattle.dtml.proofs.Phase.TheLaws as P'
use Rattle.walks.proofs.Calling.{Passed, of}
use Rattle.walks.proofs.Own as own
use Rattle.walks.proofs.Own.{array_row, row-array, row_room}

-- ---- values
abbrev pub vals : Tx → List Val
vals = LL.vals R.the_type R'.the_laws

abbrev pub val : Tx → Val
val = LL.val R.the_type R'.the_laws

-- t is what its machine value says
abbrev pub Fits : Tx → Type 0
Fits t = Is R.the_row t (vals t)

pub fresh-fits : Fits (tx 0 Fresh)
fresh-fits = LL.owes R.the_type R'.the_laws (tx 0 Fresh) ((refl, lit< tt), (EL.owes P.the_type P'.the_laws Fresh tt, tt))

-- 64 records by value
abbrev pub Row : RattleType
Row = Array R.the_row 64

-- its machine value
abbrev pub array-of : List Tx → Val
array-of xs = only (array_vals vals xs)

-- the bytes of a record, as its type is laid out: in the code it is a numeral, which this computes to
abbrev pub bytes : ℕ
bytes = size R'.mir

-- n records have room
abbrev pub Room : ℕ → Type 0
Room n = RoomOf R.the_row n

-- how far record i of n lies from the first, as a number of the machine
pub within-room : {i n : ℕ} → i < n → Room n → i * bytes < 2 ^ 64
within-room l room = omega (arith, room.1)

-- the MIR types of the locals
abbrev pub slice : Mutability → Ty
slice m = slice_ty (ty_ref (named 0) m (pointee (R.the_row).written))

abbrev pub array : Ty
array = ty_array R'.mir 64

pub slice-ok : (m : Mutability) (b o n : ℕ) → Room n → T (has_ty (slice m) (slice_val (b, o) n)) × WT (slice_val (b, o) n)
slice-ok m b o n room = (tt, (tt, (record { fits = room.0 }, tt)))

-- ---- a row
-- a share of the records ys, from (b, o) on
abbrev pub records : Share → List Tx → ℕ → ℕ → Fml
records q ys b o = row R.the_row q ys b o

module _ (b o : ℕ) (γ : GName) where
  -- the reference as `&mut`, when its row is zs
  abbrev pub mut_ref : List Tx → MutBor (List Tx)
  mut_ref zs = record { ref_ptr = (b, o); ghost_name = γ; now = zs }

  -- what it owns, where it was lent with ys and is now at zs
  abbrev pub Mut : Lft → List Tx → List Tx → Fml
  Mut κ ys zs = own.Mut R.the_row (named 0) κ b o γ ys zs

  -- what closes it
  abbrev pub Closes : Lft → Share → List Tx → Fml
  Closes κ q ys = own.Closes R.the_row (named 0) κ b o γ q ys

module _ (b o : ℕ) where
  -- the reference as `&`
  abbrev pub ref : List Tx → Bor (List Tx)
  ref zs = record { ref_ptr = (b, o); now = zs }

  -- what it owns
  abbrev pub Shr : Lft → List Tx → Fml
  Shr κ ys = (ShrSlice (named 0) κ R.the_row).own_val (ref ys) (slice_val (b, o) (length ys) ∷ [])

  -- what shuts it: the way back of the token of κ, for the share q' of the records, and the reference
  abbrev pub Shuts : {M : Type 1} {𝓤 : Ura M} → Logic 𝓤 → Lft → Share → List Tx → Share → Item 𝓤
  Shuts 𝓛 κ q ys q' = Shut 𝓛 κ q (records q' ys b o) ⊛ ‵ (Shr κ ys)

-- a record, passed by value
abbrev pub a-record : {M : Type 1} {𝓤 : Ura M} (𝓛 : Logic 𝓤) (t : Tx) → Fits t → Passed 𝓛 R.the_row
a-record 𝓛 t g = of 𝓛 R.the_row (LL.makes R.the_type R'.the_plain 𝓛) t (val t) g

module _ {M : Type 1} {𝓤 : Ura M} (𝓛 : Logic 𝓤) where
  open 𝓛 use {H}

  pub typed : (t : Tx) → Fits t → T (has_ty R'.mir (val t)) × WT (val t)
  typed t g = ((LL.lawful R.the_type R'.the_laws 𝓛).typed t (vals t) g).0

  pub typed-array : (xs : List Tx) (v : Val) → Is Row xs (v ∷ []) → T (has_ty array v) × WT v
  typed-array xs v ix = (Array-Typed R.the_row (LL.lawful R.the_type R'.the_laws 𝓛).typed 64 xs (v ∷ []) ix).0

  -- record i of a row lies at i * bytes + o
  module _ (q : Share) (ys : List Tx) (i b o : ℕ) (l : i < length ys) where
    abbrev Cell : ℕ → Fml
    Cell p = cell_at q (R.the_row).mir (vals (record_at ys i)) b p

    abbrev There : SProp 𝓤
    There = H.at q R'.mir b (i * bytes + o) (val (record_at ys i))

    fits-there : ent 𝓤 (sem 𝓛 (records q ys b o)) (fact 𝓤 (Fits (record_at ys i)))
    fits-there =
        qed 𝓛 (‵ (records q ys b o) ∷ []) ∵
        elem_out ! R.the_row (Is R.the_row) (shows 𝓛 R.the_row) vals (LL.tells R.the_type R'.the_laws) q ys i (tx 0 Fresh) b o l
        (λ g. by ! (fact_i 𝓤 (Fits (record_at ys i)) _ g))

    takes_out : ent 𝓤 (sem 𝓛 (records q ys b o)) (sep 𝓤 There (wand 𝓤 There (sem 𝓛 (records q ys b o))))
    takes_out =
        qed 𝓛 (‵ (records q ys b o) ∷ []) ∵
        elem_out ! R.the_row (Is R.the_row) (shows 𝓛 R.the_row) vals (LL.tells R.the_type R'.the_laws) q ys i (tx 0 Fresh) b o l (λ g.
        rewrite ! 0 (λ (p : ℕ). ‵ (Cell p)) (place_is bytes o i) refl $ use1 𝓛 (raw There) (𝓛.laws.raw_at q R'.mir b (i * bytes + o) (val (record_at ys i))) $
        frame ! $ assume ! (raw There) $ use1 𝓛 (‵ (Cell (i * bytes + o))) (𝓛.laws.at_raw q R'.mir b (i * bytes + o) (val (record_at ys i))) $
        rewrite ! 0 (λ (p : ℕ). ‵ (Cell p)) (sym (place_is bytes o i)) refl $ elem_back ! R.the_row q ys i (tx 0 Fresh) (vals (record_at ys i)) b o l $ done !)

  module _ (ys : List Tx) (i b o : ℕ) (t : Tx) (l : i < length ys) (g : Fits t) where
    abbrev There' : SProp 𝓤
    There' = H.at full_share R'.mir b (i * bytes + o) (val t)

    puts-in : ent 𝓤 (sem 𝓛 (records full_share ys b o)) (sep 𝓤 (H.room R'.mir b (i * bytes + o))
        (wand 𝓤 There' (sem 𝓛 (records full_share (set ys i t) b o))))
    puts-in =
        qed 𝓛 (‵ (records full_share ys b o) ∷ []) ∵
        elem_out ! R.the_row (Is R.the_row) (shows 𝓛 R.the_row) vals (LL.tells R.the_type R'.the_laws) full_share ys i (tx 0 Fresh) b o l (λ _.
        rewrite ! 0 (λ (p : ℕ). ‵ (Cell full_share ys i b o l p)) (place_is bytes o i) refl $
        use1 𝓛 (raw (H.room R'.mir b (i * bytes + o)))
        (via 𝓤 (There full_share ys i b o l) (𝓛.laws.raw_at full_share R'.mir b (i * bytes + o) (val (record_at ys i)))
        (𝓛.laws.at_room R'.mir b (i * bytes + o) (val (record_at ys i)))) $
        frame ! $ drop ! $ assume ! (raw There') $
        use1 𝓛 (‵ (cell_at full_share (R.the_row).mir (vals t) b (i * bytes + o))) (𝓛.laws.at_raw full_share R'.mir b (i * bytes + o) (val t)) $
        rewrite ! 0 (λ (p : ℕ). ‵ (cell_at full_share (R.the_row).mir (vals t) b p)) (sym (place_is bytes o i)) refl $
        owned ! R.the_row (Is R.the_row) (LL.makes R.the_type R'.the_plain 𝓛) t (vals t) g $ move ! (1 ∷ 0 ∷ []) $
        elem_put ! R.the_row full_share ys i t (vals t) b o l $ done !)

  -- an array by value, in its local, is a row, and such a row is the array again, or leaves the local's room
  pub array-records : (xs : List Tx) (v : Val) → Is Row xs (v ∷ []) → (l : ℕ) → ent 𝓤 (H.at full_share array l 0 v) (sem 𝓛 (records full_share xs l 0))
  array-records xs v ix l = array_row R.the_row l 0 𝓛 tt (LL.makes R.the_type R'.the_plain 𝓛) 64 xs v ix

  pub whole-array : (xs : List Tx) → length xs ≡ 64 → (l : ℕ)
      → ent 𝓤 (sem 𝓛 (records full_share xs l 0)) (guard 𝓤 (Is Row xs (array-of xs ∷ [])) (H.at full_share array l 0 (array-of xs)))
  whole-array xs e l = row-array R.the_row l 0 𝓛 vals (LL.tells R.the_type R'.the_laws) 64 xs e

  pub records-room : (xs : List Tx) → length xs ≡ 64 → (l : ℕ) → ent 𝓤 (sem 𝓛 (records full_share xs l 0)) (H.room array l 0)
  records-room xs e l = row_room R.the_row l 0 𝓛 vals (LL.tells R.the_type R'.the_laws) 64 xs e

module _ {M : Type 1} {𝓤 : Ura M} {𝓛 : Logic 𝓤} {K : Type 0} {Γ : List (Item 𝓤)} where
  -- ---- one record of the row that is entry n is read, and stored to
  open 𝓛 use {H}

  look-elem : K → (n : ℕ) (q : Share) (ys : List Tx) (i b o : ℕ) → nth 𝓛 n Γ ≡ ‵ (records q ys b o) → i < length ys
      → Reads K 𝓛 Γ R'.mir b (i * bytes + o) (val (record_at ys i))
  look-elem t n q ys i b o e l = record {
    go = λ Kt h.
        via 𝓤 (sep 𝓤 There₁ (wand 𝓤 There₁ (Kt (val (record_at ys i)))))
        (via 𝓤 (sep 𝓤 (sep 𝓤 There₁ (wand 𝓤 There₁ Whole)) Rest)
        (via 𝓤 (sep 𝓤 Whole Rest) (subst (λ (j : Item 𝓤). ent 𝓤 (⋆ 𝓛 Γ) (sep 𝓤 (mean 𝓛 j) Rest)) e (pull 𝓛 n Γ))
        (mono_l 𝓤 Rest (takes_out 𝓛 q ys i b o l)))
        (qed 𝓛 ((raw There₁ ⊛ raw (wand 𝓤 There₁ Whole)) ∷ raw Rest ∷ []) ∵ split ! $ frame ! $ assume ! (raw There₁) $ move ! (0 ∷ 1 ∷ []) $
        use2 𝓛 (raw Whole) (apply∗ 𝓤 There₁ Whole) $
        by ! (via 𝓤 (⋆ 𝓛 Γ) (subst (λ (j : Item 𝓤). ent 𝓤 (sep 𝓤 (mean 𝓛 j) Rest) (⋆ 𝓛 Γ)) e (unpull 𝓛 n Γ)) h)))
        (via 𝓤 (ex 𝓤 (λ (u : Val). sep 𝓤 (At q u) (wand 𝓤 (At q u) (Kt u))))
        (ex_i 𝓤 (λ (u : Val). sep 𝓤 (At q u) (wand 𝓤 (At q u) (Kt u))) (val (record_at ys i)))
        (ex_i 𝓤 (λ (s : Share). ex 𝓤 (λ (u : Val). sep 𝓤 (At s u) (wand 𝓤 (At s u) (Kt u)))) q));
  }
    where
      At : Share → Val → SProp 𝓤
      At s u = H.at s R'.mir b (i * bytes + o) u

      There₁ : SProp 𝓤
      There₁ = At q (val (record_at ys i))

      Whole : SProp 𝓤
      Whole = sem 𝓛 (records q ys b o)

      Rest : SProp 𝓤
      Rest = ⋆ 𝓛 (del 𝓛 n Γ)

  pub store-elem : K → (n : ℕ) (ys : List Tx) (i b o : ℕ) (u : Tx) → nth 𝓛 n Γ ≡ ‵ (records full_share ys b o) → i < length ys → Fits u
      → Writes K 𝓛 Γ R'.mir b (i * bytes + o) (val u) (put 𝓛 n (‵ (records full_share (set ys i u) b o)) Γ)
  store-elem t n ys i b o u e l g = record {
    go = λ Pr h.
        via 𝓤 (sep 𝓤 Free (wand 𝓤 There₁ Pr))
        (via 𝓤 (sep 𝓤 (sep 𝓤 Free (wand 𝓤 There₁ (sem 𝓛 Whole))) Rest)
        (via 𝓤 (sep 𝓤 (sem 𝓛 (records full_share ys b o)) Rest) (subst (λ (j : Item 𝓤). ent 𝓤 (⋆ 𝓛 Γ) (sep 𝓤 (mean 𝓛 j) Rest)) e (pull 𝓛 n Γ))
        (mono_l 𝓤 Rest (puts-in 𝓛 ys i b o u l g)))
        (qed 𝓛 ((raw Free ⊛ raw (wand 𝓤 There₁ (sem 𝓛 Whole))) ∷ raw Rest ∷ []) ∵ split ! $ frame ! $ assume ! (raw There₁) $ move ! (0 ∷ 1 ∷ []) $
        use2 𝓛 (‵ Whole) (apply∗ 𝓤 There₁ (sem 𝓛 Whole)) $ by ! (via 𝓤 (⋆ 𝓛 (put 𝓛 n (‵ Whole) Γ)) (fill 𝓛 n (‵ Whole) Γ) h)))
        (guard_i 𝓤 (T (has_ty R'.mir (val u)) × WT (val u)) (sep 𝓤 Free (wand 𝓤 There₁ Pr)) (typed 𝓛 u g));
  }
    where
      Free : SProp 𝓤
      Free = H.room R'.mir b (i * bytes + o)

      There₁ : SProp 𝓤
      There₁ = H.at full_share R'.mir b (i * bytes + o) (val u)

      Whole : Fml
      Whole = records full_share (set ys i u) b o

      Rest : SProp 𝓤
      Rest = ⋆ 𝓛 (del 𝓛 n Γ)

  -- what lies in a row is records
  fits : K → {G : Goal 𝓤 H} (n : ℕ) (q : Share) (ys : List Tx) (i b o : ℕ) → nth 𝓛 n Γ ≡ ‵ (records q ys b o) → i < length ys
      → (Fits (record_at ys i) → Seq K 𝓛 Γ G) → Seq K 𝓛 Γ G
  fits t n q ys i b o e l k = record {
    prf = fact_use 𝓤 (Fits (record_at ys i))
        (via 𝓤 (sem 𝓛 (records q ys b o)) (via 𝓤 (sep 𝓤 (sem 𝓛 (records q ys b o)) (⋆ 𝓛 (del 𝓛 n Γ)))
        (subst (λ (j : Item 𝓤). ent 𝓤 (⋆ 𝓛 Γ) (sep 𝓤 (mean 𝓛 j) (⋆ 𝓛 (del 𝓛 n Γ)))) e (pull 𝓛 n Γ))
        (fst∗ 𝓤 (sem 𝓛 (records q ys b o)) (⋆ 𝓛 (del 𝓛 n Γ)))) (fits-there 𝓛 q ys i b o l))
        (λ g. (k g).prf);
  }

  module _ {E : Env 𝓤 H} where
    -- record i of the row that is entry n is copied into the local at entry k, through the pointer at entry j
    pub fetches : K → {C : Calls 𝓤 H} {Λ : Loops 𝓤 H} {rest : Body} {q₀ : Post 𝓤 H} (n : ℕ) (q : Share) (ys : List Tx) (i b o : ℕ)
        → nth 𝓛 n Γ ≡ ‵ (records q ys b o) → i < length ys
        → {p d : ℕ} (j : ℕ) {s : Share} → nth 𝓛 j Γ ≡ ‵ (fat s (spot_of 𝓤 H E p).0 (spot_of 𝓤 H E p).1 0 (vptr b (i * bytes + o)))
        → (k : ℕ) → nth 𝓛 k Γ ≡ ‵ (froom (spot_of 𝓤 H E d).0 (spot_of 𝓤 H E d).1 0) → (spot_of 𝓤 H E d).0 ≡ R'.mir
        → (Fits (record_at ys i) → Seq K 𝓛 (put 𝓛 k (‵ (fat full_share (spot_of 𝓤 H E d).0 (spot_of 𝓤 H E d).1 0 (val (record_at ys i)))) Γ)
        (runs C Λ E rest q₀))
        → Seq K 𝓛 Γ (runs C Λ E (seq (assign (place d []) (rv_opd (copy (place p (deref R'.mir ∷ []))))) rest) q₀)
    fetches t n q ys i b o e l j at k to is-record s = fits t n q ys i b o e l (λ g.
        assigns t (of_opd t (load t (from t (hop t (look t j at) (stop t))) (look-elem t n q ys i b o e l))) (from t (stop t))
        (init t k to (subst (λ (τ : Ty). T (has_ty τ (val (record_at ys i))) × WT (val (record_at ys i))) (sym is-record) (typed 𝓛 (record_at ys i) g))) $
        s g)

  module _ {G : Goal 𝓤 H} where
    -- ---- a row that is lent as `&mut` is opened as the function is entered, and closed at zs
    pub opens : K → Soaks G → (κ : Lft) (q : Share) (b o : ℕ) (γ : GName) (ys : List Tx) {Q : Fml}
        → Step K 𝓛 (‵ (records full_share ys b o) ∷ ‵ (Closes b o γ κ q ys) ∷ Γ) G ((‵ (flft κ q) ⊛ ‵ ftrue) ∷ ‵ (fsep (Mut b o γ κ ys ys) Q) ∷ Γ) G
    opens t z κ q b o γ ys = own.opens R.the_row (named 0) κ b o γ t z q ys

    pub closes : K → Soaks G → (κ : Lft) (q : Share) (b o : ℕ) (γ : GName) (ys zs : List Tx) → length zs ≡ length ys → Room (length ys)
        → Step K 𝓛 (‵ (Mut b o γ κ ys zs) ∷ ‵ (flft κ q) ∷ Γ) G (‵ (records full_share zs b o) ∷ ‵ (Closes b o γ κ q ys) ∷ Γ) G
    closes t z κ q b o γ ys zs e room = own.closes R.the_row (named 0) κ b o γ t z q ys zs e room

    -- one that is lent as `&` is looked into, and shut
    pub looks : K → Soaks G → (κ : Lft) (q : Share) (b o : ℕ) (ys : List Tx) {Q : Fml}
        → ((q' : Share) → Seq K 𝓛 (‵ (records q' ys b o) ∷ Shuts b o 𝓛 κ q ys q' ∷ Γ) G)
        → Seq K 𝓛 ((‵ (flft κ q) ⊛ ‵ ftrue) ∷ ‵ (fsep (Shr b o κ ys) Q) ∷ Γ) G
    looks t z κ q b o ys k = split t $ move t (2 ∷ []) $ fsplit t $ fsplit t $
        pure_l t (shr_slice_at R.the_row (ref b o ys) (slice_val (b, o) (length ys) ∷ [])) (λ at.
        move t (0 ∷ 2 ∷ []) $ looks_slice t z R.the_row (LL.copied R.the_type R'.the_copy 𝓛) ys b o (λ q'.
        move t (3 ∷ 4 ∷ []) $ drop t $ drop t $ move t (2 ∷ []) $
        pure_i t (shr_slice_at R.the_row (ref b o ys) (slice_val (b, o) (length ys) ∷ [])) (tt, (tt, tt)) at $ fjoin t $ move t (2 ∷ 0 ∷ []) $ join t $
        move t (1 ∷ 0 ∷ []) $ k q'))

    pub shuts : K → Soaks G → (κ : Lft) (q : Share) (b o : ℕ) (ys : List Tx) (q' : Share)
        → Step K 𝓛 (‵ (Shr b o κ ys) ∷ ‵ (flft κ q) ∷ Γ) G (‵ (records q' ys b o) ∷ Shuts b o 𝓛 κ q ys q' ∷ Γ) G
    shuts t z κ q b o ys q' = step (λ s. move t (1 ∷ []) $ split t $ move t (2 ∷ 0 ∷ []) $ shuts_slice t z R.the_row q' ys b o $ move t (1 ∷ 0 ∷ []) $ s)

    -- ---- what records own is had for nothing
    pub owns-record : K → (r : Tx) → Fits r → Step K 𝓛 (‵ ((R.the_row).own_val r (vals r)) ∷ Γ) G Γ G
    owns-record t r g = owned t R.the_row (Is R.the_row) (LL.makes R.the_type R'.the_plain 𝓛) r (vals r) g

    pub owns-array : K → (xs : List Tx) (v : Val) → Is Row xs (v ∷ []) → Step K 𝓛 (‵ (Row.own_val xs (v ∷ [])) ∷ Γ) G Γ G
    owns-array t xs v ix = owned t Row (Is Row) (Array-Makes 𝓛 R.the_row (LL.makes R.the_type R'.the_plain 𝓛) 64) xs (v ∷ []) ix
