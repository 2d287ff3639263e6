-- A call as one step of a walk by hand. What the callee needs stands at the head of the context; once it has returned, there stands what it hands back, with
-- the result's machine value written out and what the callee promises in hand.
use Prim.Native.Nat.{ℕ, zero, ◌+◌, ◌<◌, ◌^◌}
use mathlib.Core.Path.{◌≡◌, refl, sym, ap, subst, ◌∙◌}
use mathlib.Core.Bool.{Bool, true, false}
use mathlib.Core.Option.{Option, none, some as found}
use mathlib.Core.List.{List, [], ◌∷◌}
use lib.Dec.{T, ltb, lit<}
use seplogic.Ra.Ura.{Ura}
use base.Fraction.{full_share}
use mir.Syntax.{Sym, Tys, ty_struct, Ty, Callee as Called, Lifetime, Mutability, Place, Opd as Operand, Body, mut, w64, ty_ref, place, field, deref, copy, int, addr_of, aggregate, seq, assign, call}
use mir.Val.{Val, vint, vbool, vptr, vstruct, Vals, has_ty}
use mir.Fields.{get_v}
use base.Logic.{SProp, ent, sep, ex, guard, emp, id⊢, via, mono∗, emp∗}
use base.Fml.{Share, fat, froom}
use prog.Memory.{field_at}
use prog.Wp.{Env, Spot, Calls, Loops, spot_of}
use types.Logic.{Logic, sem}
use sound.WpLaws.{FmC}
use contract.Monad.{Fun, Fm, fm→mono, fact}
use contract.Lifetimes.{Lfts}
use types.Kit.{Item, ‵, raw, ◌⊛◌, some, given, later, mean, nth, put, Post, Go, Seq, prop, Step, step, runs, lands, ◌$◌, ◌∵◌, !, qed, by, move, drop, use0, use1, split, join, pick, learn, regoal, await, updating, now as at_once, check, show, done}
use types.Part.{Part, agg, whole, sub, look_in}
use types.Run.{Walks, Opd, Opds, look, init, stop, hop, fld, from, load, lit, addr, and_then, no_more, assigns, calls}
use denote.RattleType.{RattleType, Denots, Valss, flat, owns}
use denote.Laws.{Is, Tells, Makes, shows}
use denote.Plain.{uint_Makes, bool_Makes}
use denote.Builtin.{usize, bool}
use denote.Slice.{slice_val, slice_ty}
use denote.Signature.{Slot, plain, type_at, types_at}
use denote.Steps.{only, nothing, peeks, heard}
use denote.Exit.{yes}
use denote.Triple.Entry.{Args, Res, alive}
use denote.Triple.End.{Kepts}
use denote.Triple.Spec.{triple_of}
use denote.Triple.Statement.{Contract, Triple}
use denote.Triple.Clauses.{Ended, Lasts, AtExit, at_exit, lasts, closing}
use denote.Triple.Walked.{says}

-- from F a run on the values vs returns: with some x of which φ holds, the value `val x` is returned, and B x is had
pub record Comes {M : Type 1} {𝓤 : Ura M} (𝓛 : Logic 𝓤) (run : Fun 𝓤) (F : Item 𝓤) (vs : List Val)
    (X : Type 0) (val : X → Val) (φ : X → Type 0) (B : X → Item 𝓤) : Type 1 where
  pub go : ent 𝓤 (mean 𝓛 F) (𝓛.H.⇛ (run vs (λ v. 𝓛.H.⇛ (ex 𝓤 (λ (x : X). guard 𝓤 ((v ≡ val x) × φ x) (mean 𝓛 (B x)))))))

-- the step: the operands are read behind the head
pub comes : {M : Type 1} {𝓤 : Ura M} {𝓛 : Logic 𝓤} {K : Type 0} {Γ : List (Item 𝓤)} {E : Env 𝓤 𝓛.H} {C : Calls 𝓤 𝓛.H}
    {Λ : Loops 𝓤 𝓛.H} {q : Post 𝓤 𝓛.H}
    → K → FmC 𝓤 𝓛.H 𝓛.laws C → {f : Called} {xs : List Operand} {d : Place} {rest : Body} {F : Item 𝓤} {vs : List Val}
    {X : Type 0} {val : X → Val} {φ : X → Type 0} {B : X → Item 𝓤}
    → Comes 𝓛 (C f) F vs X val φ B → ((i : Item 𝓤) → Opds K 𝓛 (i ∷ Γ) E xs vs) → ((x : X) → φ x → Seq K 𝓛 (B x ∷ Γ) (lands C Λ E d (val x) rest q))
    → Seq K 𝓛 (F ∷ Γ) (runs C Λ E (seq (call f xs d) rest) q)
comes {𝓤 = 𝓤} {𝓛 = 𝓛} {E = E} {C = C} {Λ = Λ} {q = q} t fm {f} {xs} {d} {rest} {F} {vs} {X} {val} {φ} {B} known os k =
    use1 𝓛 (later (raw (C f vs (λ v. 𝓛.H.⇛ (ex 𝓤 (λ (x : X). guard 𝓤 ((v ≡ val x) × φ x) (mean 𝓛 (B x)))))))) known.go $ await t tt $
    calls t fm (λ v. later (some (λ (x : X). given ((v ≡ val x) × φ x) (B x)))) (os _) (λ v. await t tt $ pick t (λ x. learn t (λ e.
    regoal t (λ u. lands C Λ E d u rest q) e.0 refl $ k x e.1)))

-- ---- a slice that is passed on

-- a local with room, and with a value
abbrev Bare : {M : Type 1} {𝓤 : Ura M} → Ty × ℕ × ℕ → Item 𝓤
Bare sp = ‵ (froom sp.0 sp.1 0)

abbrev Has : {M : Type 1} {𝓤 : Ura M} → Ty × ℕ × ℕ → Val → Item 𝓤
Has sp v = ‵ (fat full_share sp.0 sp.1 0 v)

-- a local that holds v, as a place of which a part is read
within : {M : Type 1} {𝓤 : Ura M} {𝓛 : Logic 𝓤} {K : Type 0} {q : Share} {τ : Ty} {l : ℕ} {v : Val} → K → {i : Item 𝓤}
    → i ≡ ‵ (fat q τ l 0 v) → Part K 𝓛 i q τ l 0 v (λ u. ‵ (fat q τ l 0 u))
within {𝓛 = 𝓛} {K = K} {q = q} {τ = τ} {l = l} {v = v} t e = subst (λ (j : Item _). Part K 𝓛 j q τ l 0 v (λ u. ‵ (fat q τ l 0 u))) (sym e) (whole t)

-- there is such a field
abbrev there : Option (Ty × ℕ) → Bool
there none = false
there (found f) = true

there-is : (o : Option (Ty × ℕ)) → T (there o) → (f : Ty × ℕ) × (o ≡ found f)
there-is none h = absurd h
there-is (found f) h = (f, refl)

module _ {M : Type 1} {𝓤 : Ura M} {𝓛 : Logic 𝓤} {K : Type 0} {Γ : List (Item 𝓤)} {E : Env 𝓤 𝓛.H} {s : ℕ} where
  -- field k of the struct in local s, which is entry n
  open 𝓛 use {H}

  pub field_of : K → (n k : ℕ) {q : Share} {ν : Sym} {τs : Tys} {l : ℕ} {vs : Vals} → spot_of 𝓤 H E s ≡ (ty_struct ν τs, l, 0)
      → nth 𝓛 n Γ ≡ ‵ (fat q (ty_struct ν τs) l 0 (vstruct vs)) → T (there (field_at zero τs k)) → Opd K 𝓛 Γ E (copy (place s (field k ∷ []))) (get_v vs k)
  field_of t n k {τs = τs} {l = l} at e h = let f = there-is (field_at zero τs k) h in
      load t (from t (subst (λ (sp : Spot 𝓤 H). Walks K 𝓛 Γ E sp (field k ∷ []) (f.0.0, l, 0 + f.0.1)) (sym at) (fld t f.1 (stop t))))
      (look_in t n (sub t k f.1 (within t e)))

  -- where the slice in it begins, and how many elements it has
  module _ {ℓ : Lifetime} {μ : Mutability} {σ : Ty} {l : ℕ} {q : Share} {p : ℕ × ℕ} {c : ℕ} where
    pub start : K → (n : ℕ) → spot_of 𝓤 H E s ≡ (slice_ty (ty_ref ℓ μ σ), l, 0) → nth 𝓛 n Γ ≡ ‵ (fat q (slice_ty (ty_ref ℓ μ σ)) l 0 (slice_val p c))
        → Opd K 𝓛 Γ E (copy (place s (field 0 ∷ []))) (vptr p.0 p.1)
    start t n at e = field_of t n 0 at e tt

    pub count : K → (n : ℕ) → spot_of 𝓤 H E s ≡ (slice_ty (ty_ref ℓ μ σ), l, 0) → nth 𝓛 n Γ ≡ ‵ (fat q (slice_ty (ty_ref ℓ μ σ)) l 0 (slice_val p c))
        → Opd K 𝓛 Γ E (copy (place s (field 1 ∷ []))) (vint w64 c)
    count t n at e = field_of t n 1 at e tt

module _ {M : Type 1} {𝓤 : Ura M} {𝓛 : Logic 𝓤} {K : Type 0} {Γ : List (Item 𝓤)} {E : Env 𝓤 𝓛.H} {s : ℕ} {ℓ : Lifetime}
    {σ : Ty} {l : ℕ} {p : ℕ × ℕ} {c : ℕ} where
  -- a reference to the first element of the slice in local s goes to local r, and the slice that has it to local u. The three are the entries n, m and k
  open 𝓛 use {H}

  pub relends : K → {r u : ℕ} {τ : Ty} {rest : Body} {C : Calls 𝓤 H} {Λ : Loops 𝓤 H} {q : Post 𝓤 H} (n m k : ℕ)
      → spot_of 𝓤 H E s ≡ (slice_ty (ty_ref ℓ mut σ), l, 0)
      → let Γ' = put 𝓛 m (Has (spot_of 𝓤 H E r) (vptr p.0 p.1)) Γ in
      ◌≡◌ {A = Item 𝓤 × Item 𝓤 × Item 𝓤 × Item 𝓤 × Item 𝓤} (nth 𝓛 n Γ, nth 𝓛 m Γ, nth 𝓛 n Γ', nth 𝓛 m Γ', nth 𝓛 k Γ') (
        ‵ (fat full_share (slice_ty (ty_ref ℓ mut σ)) l 0 (slice_val p c)),
        Bare (spot_of 𝓤 H E r),
        ‵ (fat full_share (slice_ty (ty_ref ℓ mut σ)) l 0 (slice_val p c)),
        Has (spot_of 𝓤 H E r) (vptr p.0 p.1),
        Bare (spot_of 𝓤 H E u),
      )
      → T (has_ty (spot_of 𝓤 H E r).0 (vptr p.0 p.1)) → T (has_ty (spot_of 𝓤 H E u).0 (slice_val p c)) → c < 2 ^ 64
      → Step K 𝓛 (put 𝓛 k (Has (spot_of 𝓤 H E u) (slice_val p c)) Γ') (runs C Λ E rest q) Γ
      (runs C Λ E (seq (assign (place r []) (addr_of (place s (field 0 ∷ deref τ ∷ []))))
      (seq (assign (place u []) (aggregate (copy (place r []) ∷ copy (place s (field 1 ∷ [])) ∷ []))) rest)) q)
  relends t {τ = τ} n m k at es w₁ w₂ fits = step (λ z.
      assigns t (addr t (from t (subst (λ (sp : Spot 𝓤 H). Walks K 𝓛 Γ E sp (field 0 ∷ deref τ ∷ []) (τ, p.0, p.1)) (sym at)
      (fld t refl (hop t (look_in t n (sub t 0 refl (within t (ap (λ e. e.0) es)))) (stop t)))))) (from t (stop t)) (init t m (ap (λ e. e.1) es) (w₁, tt)) $
      assigns t (agg t (and_then t (load t (from t (stop t)) (look t m (ap (λ e. e.3) es))) (and_then t (count t n at (ap (λ e. e.2) es)) (no_more t))))
      (from t (stop t)) (init t k (ap (λ e. e.4) es) (w₂, (tt, (record { fits = fits }, tt)))) $ z)

module _ {M : Type 1} {𝓤 : Ura M} {𝓛 : Logic 𝓤} {K : Type 0} {Γ : List (Item 𝓤)} {E : Env 𝓤 𝓛.H} where
  -- a reference to the array in local i goes to local r, and the slice of its c elements to local u: the entries m and k
  open 𝓛 use {H}

  pub borrows : K → {i r u c : ℕ} {rest : Body} {C : Calls 𝓤 H} {Λ : Loops 𝓤 H} {q : Post 𝓤 H} (m k : ℕ)
      → let p = spot_of 𝓤 H E i in
      let Γ' = put 𝓛 m (Has (spot_of 𝓤 H E r) (vptr p.1 p.2)) Γ in
      ◌≡◌ {A = Item 𝓤 × Item 𝓤 × Item 𝓤} (nth 𝓛 m Γ, nth 𝓛 m Γ', nth 𝓛 k Γ')
      (Bare (spot_of 𝓤 H E r), Has (spot_of 𝓤 H E r) (vptr p.1 p.2), Bare (spot_of 𝓤 H E u))
      → T (has_ty (spot_of 𝓤 H E r).0 (vptr p.1 p.2)) → T (has_ty (spot_of 𝓤 H E u).0 (slice_val (p.1, p.2) c)) → T (ltb c (2 ^ 64))
      → Step K 𝓛 (put 𝓛 k (Has (spot_of 𝓤 H E u) (slice_val (p.1, p.2) c)) Γ') (runs C Λ E rest q) Γ
      (runs C Λ E (seq (assign (place r []) (addr_of (place i []))) (seq (assign (place u []) (aggregate (copy (place r []) ∷ int w64 c ∷ []))) rest)) q)
  borrows t m k es w₁ w₂ fits = step (λ z.
      assigns t (addr t (from t (stop t))) (from t (stop t)) (init t m (ap (λ e. e.0) es) (w₁, tt)) $
      assigns t (agg t (and_then t (load t (from t (stop t)) (look t m (ap (λ e. e.1) es))) (and_then t (lit t fits) (no_more t))))
      (from t (stop t)) (init t k (ap (λ e. e.2) es) (w₂, (tt, (record { fits = lit< fits }, tt)))) $ z)

-- ---- plain data that is passed by value

-- a value of R and its machine value: what R owns of it is had for nothing
pub record Passed {M : Type 1} {𝓤 : Ura M} (𝓛 : Logic 𝓤) (R : RattleType) : Type 1 where
  pub it : R.Denot
  pub value : Val
  pub made : ent 𝓤 (emp 𝓤) (sem 𝓛 (R.own_val it (value ∷ [])))

module _ (n : ℕ) where
  abbrev pub slots : List RattleType → List (Slot n)
  slots [] = []
  slots (R ∷ Rs) = plain (λ _. R) ∷ slots Rs

  abbrev pub all-kept : (Rs : List RattleType) → Kepts (slots Rs)
  all-kept [] = tt
  all-kept (R ∷ Rs) = (yes, all-kept Rs)

  -- the values, whatever the lifetimes
  abbrev pub plainly : (Rs : List RattleType) (κs : Lfts n) → Denots (types_at (slots Rs) κs) → Denots Rs
  plainly [] κs a = tt
  plainly (R ∷ Rs) κs a = (a.0, plainly Rs κs a.1)

module _ {M : Type 1} {𝓤 : Ura M} (𝓛 : Logic 𝓤) where
  abbrev pub Passeds : List RattleType → Type 1
  Passeds [] = Unit {1}
  Passeds (R ∷ Rs) = Passed 𝓛 R × Passeds Rs

  abbrev pub these : (Rs : List RattleType) → Passeds Rs → Denots Rs
  these [] g = tt
  these (R ∷ Rs) g = (g.0.it, these Rs g.1)

  abbrev pub values : (Rs : List RattleType) → Passeds Rs → List Val
  values [] g = []
  values (R ∷ Rs) g = g.0.value ∷ values Rs g.1

  -- as a callee's parameters, at its lifetimes
  module _ (n : ℕ) (κs : Lfts n) where
    abbrev pub args : (Rs : List RattleType) → Passeds Rs → Denots (types_at (slots n Rs) κs)
    args [] g = tt
    args (R ∷ Rs) g = (g.0.it, args Rs g.1)

    abbrev pub vss : (Rs : List RattleType) → Passeds Rs → Valss (types_at (slots n Rs) κs)
    vss [] g = tt
    vss (R ∷ Rs) g = (g.0.value ∷ [], vss Rs g.1)

    pub flat-is : (Rs : List RattleType) (g : Passeds Rs) → flat (types_at (slots n Rs) κs) (vss Rs g) ≡ values Rs g
    flat-is [] g = refl
    flat-is (R ∷ Rs) g = ap (λ vs. g.0.value ∷ vs) (flat-is Rs g.1)

    pub these-are : (Rs : List RattleType) (g : Passeds Rs) → plainly n Rs κs (args Rs g) ≡ these Rs g
    these-are [] g = refl
    these-are (R ∷ Rs) g = λ i. (g.0.it, these-are Rs g.1 i)

    pub owns-all : (Rs : List RattleType) (g : Passeds Rs) → ent 𝓤 (emp 𝓤) (sem 𝓛 (owns (types_at (slots n Rs) κs) (args Rs g) (vss Rs g)))
    owns-all [] g = id⊢ 𝓤 (emp 𝓤)
    owns-all (R ∷ Rs) g = via 𝓤 (sep 𝓤 (emp 𝓤) (emp 𝓤)) (emp∗ 𝓤 (emp 𝓤)) (mono∗ 𝓤 g.0.made (owns-all Rs g.1))

  abbrev pub of : (R : RattleType) → Makes 𝓛 R (Is R) → (x : R.Denot) (v : Val) → Is R x (v ∷ []) → Passed 𝓛 R
  of R makes x v is = record { it = x; value = v; made = makes x (v ∷ []) is }

  abbrev pub word : (m : ℕ) → m < 2 ^ 64 → Passed 𝓛 usize
  word m l = of usize (uint_Makes 𝓛 w64) m (vint w64 m) (refl, l)

  abbrev pub flag : (z : Bool) → Passed 𝓛 bool
  flag z = of bool (bool_Makes 𝓛) z (vbool z) refl

-- ---- what a callee promises, over what is lent to it at entry and at exit and over the plain data that is passed
pub record Callee (In Out : Type 0) : Type 2 where
  pub Rs : List RattleType
  pub Q : RattleType
  pub vals : Q.Denot → List Val
  pub tells : Tells Q (Is Q) vals
  pub says : In → Denots Rs → Q.Denot → Out → Type 0

module _ {M : Type 1} {𝓤 : Ura M} (𝓛 : Logic 𝓤) (T : Ended) (Ψ : (κs : Lfts T.signature.lifetimes) → Args T.signature κs → SProp 𝓤)
    (Φ : (κs : Lfts T.signature.lifetimes) (a : Args T.signature κs) → Res T.signature κs → AtExit T κs → Type 0) where
  -- a contract that asks for Ψ and promises a fact
  open 𝓛 use {H}

  abbrev pub agreed : Contract 𝓤
  agreed = triple_of 𝓛 T.signature (closing 𝓛 T
      (λ κs a. record { ghost = Unit {0}; requires = λ _. Ψ κs a; ensures = λ _ r e. fact 𝓤 (Φ κs a r e) }))

  module _ (run : Fun 𝓤) (fm : (vs : List Val) → Fm 𝓤 (run vs)) (met : Triple 𝓤 run agreed) (y : agreed.Ghost)
      (vals : Res T.signature y.0.0 → List Val)
      (tells : Tells (type_at T.signature.result y.0.0) (Is (type_at T.signature.result y.0.0)) vals) where
    abbrev κs : Lfts T.signature.lifetimes
    κs = y.0.0

    abbrev a : Args T.signature κs
    a = y.0.3

    abbrev R : RattleType
    R = type_at T.signature.result κs

    abbrev End : Type 0
    End = R.Denot × Lasts T κs a

    abbrev Holds : End → Type 0
    Holds x = Is R x.0 (only (vals x.0) ∷ []) × Φ κs a x.0 (at_exit T κs a x.1)

    abbrev Left : End → Item 𝓤
    Left x = raw (alive 𝓛 T.signature κs y.0.1) ⊛ ‵ (lasts T κs a x.1)

    -- what is had once such a function has returned v
    abbrev pub Heard : Val → Item 𝓤
    Heard v = later (some (λ (x : End). given ((v ≡ only (vals x.0)) × Holds x) (Left x)))

    pub hears : ent 𝓤 (agreed.pre y) (run (agreed.args y) (λ v. mean 𝓛 (Heard v)))
    hears = via 𝓤 _ (met y) (fm→mono 𝓤 (run (agreed.args y)) (fm (agreed.args y)) _ _ (λ v.
        qed 𝓛 (later (some (λ (r : R.Denot). (raw (alive 𝓛 T.signature κs y.0.1) ⊛ ‵ (R.own_val r (v ∷ [])))
        ⊛ some (λ (ws : Lasts T κs a). ‵ (lasts T κs a ws) ⊛ raw (fact 𝓤 (Φ κs a r (at_exit T κs a ws)))))) ∷ []) ∵
        updating ! $ await ! tt $ pick ! (λ r. split ! $ split ! $ move ! (1 ∷ []) $ peeks ! R (Is R) (shows 𝓛 R) r (v ∷ []) (λ is. drop ! $
        move ! (1 ∷ []) $ pick ! (λ ws. split ! $ move ! (1 ∷ []) $ heard ! _ (λ e.
        at_once ! $ show ! (λ (x : End). guard 𝓤 ((v ≡ only (vals x.0)) × Holds x) (mean 𝓛 (Left x))) (r, ws) $
        check ! (ap only (tells r (v ∷ []) is), (subst (λ (u : Val). Is R r (u ∷ [])) (ap only (tells r (v ∷ []) is)) is, e)) $ move ! (1 ∷ 0 ∷ []) $
        join ! $ done !))))))

    -- as a step: what the callee needs is all that stands at the head
    pub told : Comes 𝓛 run (raw (agreed.pre y)) (agreed.args y) End (λ x. only (vals x.0)) Holds Left
    told = record { go = via 𝓤 _ hears (𝓛.laws.⇛_intro _) }

    -- beside what is kept, with what is of use to the caller
    pub told-as : {X : Type 0} {val : X → Val} {φ : X → Type 0} {F : Item 𝓤} {B : X → Item 𝓤} (kept : Item 𝓤) (to : End → X)
        → ((x : End) → Holds x → (only (vals x.0) ≡ val (to x)) × φ (to x))
        → Seq (Go {0}) 𝓛 (F ∷ []) (prop (sep 𝓤 (agreed.pre y) (mean 𝓛 kept))) → ((x : End) → Seq (Go {0}) 𝓛 (Left x ∷ kept ∷ []) (prop (mean 𝓛 (B (to x)))))
        → Comes 𝓛 run F (agreed.args y) X val φ B
    told-as {X} {val} {φ} {F} {B} kept to is enter leave = record {
      go =
          qed 𝓛 (F ∷ []) ∵ updating ! $ use1 𝓛 (raw (agreed.pre y) ⊛ kept) enter.prf $ split ! $ use1 𝓛 (raw (run (agreed.args y) (λ v. mean 𝓛 (Heard v)))) hears $
          at_once ! $ by ! (fm (agreed.args y) _ (λ v. H.⇛ (ex 𝓤 (After v))) (mean 𝓛 kept) (λ v.
          qed 𝓛 (Heard v ∷ kept ∷ []) ∵ updating ! $ await ! tt $ pick ! (λ x. learn ! (λ e. at_once ! $ show ! (After v) (to x) $
          check ! (e.0 ∙ (is x e.1).0, (is x e.1).1) $ by ! (leave x).prf))));
    }
      where
        After : Val → X → SProp 𝓤
        After v x = guard 𝓤 ((v ≡ val x) × φ x) (mean 𝓛 (B x))

-- it asks for nothing, or for a fact
module _ {M : Type 1} (𝓤 : Ura M) (T : Ended) where
  abbrev pub free : (κs : Lfts T.signature.lifetimes) → Args T.signature κs → SProp 𝓤
  free _ _ = emp 𝓤

  abbrev pub owed : ((κs : Lfts T.signature.lifetimes) → Args T.signature κs → Type 0) → (κs : Lfts T.signature.lifetimes) → Args T.signature κs → SProp 𝓤
  owed Ψ κs a = fact 𝓤 (Ψ κs a)

module _ {M : Type 1} {𝓤 : Ura M} (𝓛 : Logic 𝓤) (T : Ended) where
  abbrev pub promised : ((κs : Lfts T.signature.lifetimes) (a : Args T.signature κs) → Res T.signature κs → AtExit T κs → Type 0) → Contract 𝓤
  promised Φ = agreed 𝓛 T (free 𝓤 T) Φ

  module _ (Ψ : (κs : Lfts T.signature.lifetimes) → Args T.signature κs → Type 0)
      (Φ : (κs : Lfts T.signature.lifetimes) (a : Args T.signature κs) → Res T.signature κs → AtExit T κs → Type 0) where
    abbrev pub asked : Contract 𝓤
    asked = agreed 𝓛 T (owed 𝓤 T Ψ) Φ

    -- the fact shown, the rest is what the types own
    pub asks-so : (y : asked.Ghost) → let κs = y.0.0 in let a = y.0.3 in Ψ κs a
        → ent 𝓤 (sep 𝓤 (alive 𝓛 T.signature κs y.0.1) (sem 𝓛 (owns (types_at T.signature.params κs) a y.0.4))) (asked.pre y)
    asks-so y φ = qed 𝓛 (raw (alive 𝓛 T.signature y.0.0 y.0.1) ∷ ‵ (owns (types_at T.signature.params y.0.0) y.0.3 y.0.4) ∷ []) ∵ says ! φ $ done !

-- ---- a function of plain data: the head stays as it is
module _ (c : Callee (Unit {0}) (Unit {0})) where
  abbrev Of-values : Ended
  Of-values = record { signature = record { lifetimes = 0; outlives = []; params = slots 0 c.Rs; result = plain (λ _. c.Q) }; kept = all-kept 0 c.Rs }

  abbrev Says-of-values : (κs : Lfts 0) (a : Args Of-values.signature κs) → c.Q.Denot → AtExit Of-values κs → Type 0
  Says-of-values κs a r e = c.says tt (plainly 0 c.Rs κs a) r tt

  module _ {M : Type 1} {𝓤 : Ura M} (𝓛 : Logic 𝓤) where
    abbrev pub ByValue : Contract 𝓤
    ByValue = promised 𝓛 Of-values Says-of-values

    module _ (run : Fun 𝓤) (fm : (vs : List Val) → Fm 𝓤 (run vs)) (met : Triple 𝓤 run ByValue) (F : Item 𝓤) (g : Passeds 𝓛 c.Rs) where
      abbrev given_so : ByValue.Ghost
      given_so = ((tt, tt, tt, args 𝓛 0 tt c.Rs g, vss 𝓛 0 tt c.Rs g), tt)

      pub by_value : Comes 𝓛 run F (values 𝓛 c.Rs g) c.Q.Denot (λ r. only (c.vals r))
          (λ r. Is c.Q r (only (c.vals r) ∷ []) × c.says tt (these 𝓛 c.Rs g) r tt) (λ _. F)
      by_value = subst (λ (vs : List Val). Comes 𝓛 run F vs c.Q.Denot (λ r. only (c.vals r))
          (λ r. Is c.Q r (only (c.vals r) ∷ []) × c.says tt (these 𝓛 c.Rs g) r tt) (λ _. F)) (flat-is 𝓛 0 tt c.Rs g)
          (told-as 𝓛 Of-values (free 𝓤 Of-values) Says-of-values run fm met given_so c.vals c.tells F (λ x. x.0)
          (λ x h. (refl, (h.0, subst (λ a. c.says tt a x.0 tt) (these-are 𝓛 0 tt c.Rs g) h.1)))
          (use0 𝓛 (‵ (owns (types_at (slots 0 c.Rs) tt) (args 𝓛 0 tt c.Rs g) (vss 𝓛 0 tt c.Rs g)))
          (owns-all 𝓛 0 tt c.Rs g) $ nothing ! $ join ! $ nothing ! $ move ! (1 ∷ 0 ∷ []) $ join ! $ done !) (λ x. drop ! $ done !))
