-- Rules that the walks share, beside the kit's: a context in which local i of a function stands at i, and that it dies at n + i, n being their number;
-- and a loop that counts.
use mathlib.Core.Path.{◌≡◌, refl, sym, subst, ◌∙◌}
use Prim.Native.Nat.{ℕ, zero, suc, ◌+◌, ◌<◌}
use native.Mathlib.Nat.{add-zero, zero-add}
use native.Mathlib.Omega.{arith}
use mathlib.Core.List.{List, [], ◌∷◌, ◌++◌}
use lib.ListN.{take, drop, take-append-drop}
use seplogic.Ra.Ura.{Ura}
use base.Fraction.{full_share}
use lib.Dec.{T, ltb}
use borrow.Author.Tests.{lt-ltb, le-ltb}
use mathlib.Core.Bool.{Bool, true, false, ◌&&◌}
use mir.Syntax.{Ty, Body, Rv as RValue, skip, seq, copy, place, assign, block, loop, cond, exit, Local, local, Fn}
use mir.Val.{Val, vbool, has_ty, WT}
use base.Logic.{SProp, ent, sep, via, id⊢, comm∗, mono∗, mono_l, mono_r, fst∗}
use base.Fml.{Share, Fml, fat, froom, fdies}
use prog.Wp.{Heap, Out, next, at_return, Env, Calls, Loops, Tables, Wp, WpFn, spot_of, after_seq, after_block, after_turn}
use types.Logic.{Logic}
use types.Kit.{Item, ‵, raw, mean, ⋆, push, pop, pull, fill, nth, del, put, ++⊢, ⊢++, Post, post, any_q, at_ret, Goal, runs, lands, allocs, frees, aim, Seq, Step, step, ◌$◌, ◌∵◌, !, qed, by, move, use1, use2, join, suffices, frame, done}
use types.Run.{Opd, Rv, look, init, stop, from, load, assigns, land, stays, leaves_loop, alloc1, alloc0}
use sound.Loop.{unroll}
use sound.WpLaws.{WpFn-mono}
use contract.Lifetimes.{Lfts, Shares, AllOutlive}
use denote.RattleType.{flat}
use denote.Laws.{Are, Ises, Spells, valss, Tellss}
use denote.Signature.{types_at}
use denote.Triple.Entry.{Args, on_entry}
use denote.Triple.Spec.{Meets}
use denote.Triple.Clauses.{Clauses, Ended, closing}
use denote.Triple.Walked.{Stays, AllGo, walk_of, walked, walk_Meets}

-- ---- a function's locals
-- how a local stands: with room, whatever lies there; with a value; or as something else that owns its block
pub data Cell : Type 1 where
  bare : Cell
  has : Val → Cell
  lies : (ℕ → Fml) → Cell

module _ {M : Type 1} {𝓤 : Ura M} where
  abbrev pub cell : Ty × ℕ → Cell → Item 𝓤
  cell e bare = ‵ (froom e.0 e.1 0)
  cell e (has v) = ‵ (fat full_share e.0 e.1 0 v)
  cell e (lies F) = ‵ (F e.1)

  -- those past the end of the list are bare
  abbrev pub cells : List (Ty × ℕ) → List Cell → List (Item 𝓤)
  cells [] cs = []
  cells (e ∷ E) [] = cell e bare ∷ cells E []
  cells (e ∷ E) (c ∷ cs) = cell e c ∷ cells E cs

  abbrev pub dying : List (Ty × ℕ) → List (Item 𝓤)
  dying [] = []
  dying (e ∷ E) = ‵ (fdies e.0 e.1) ∷ dying E

-- room or a value, so that it can be freed
abbrev frees-as : Cell → Bool
frees-as bare = true
frees-as (has v) = true
frees-as (lies F) = false

abbrev pub freeable : List Cell → Bool
freeable [] = true
freeable (c ∷ cs) = frees-as c && freeable cs

and-fst : (x y : Bool) → T (x && y) → T x
and-fst true y h = tt
and-fst false y h = h

and-snd : (x y : Bool) → T (x && y) → T y
and-snd true y h = h
and-snd false y h = absurd h

module _ {M : Type 1} {𝓤 : Ura M} (𝓛 : Logic 𝓤) where
  open 𝓛 use {H}

  as_room : (e : Ty × ℕ) (c : Cell) → T (frees-as c) → ent 𝓤 (mean 𝓛 (cell e c)) (H.room e.0 e.1 0)
  as_room e bare h = id⊢ 𝓤 (H.room e.0 e.1 0)
  as_room e (has v) h = 𝓛.laws.at_room e.0 e.1 0 v
  as_room e (lies F) h = absurd h

  -- two entries in front go to the ends of two lists within
  abbrev Takes : (List (Item 𝓤) → List (Item 𝓤) → List (Item 𝓤)) → Type 2
  Takes F = (i j : Item 𝓤) (R D : List (Item 𝓤)) → ent 𝓤 (⋆ 𝓛 (i ∷ j ∷ F R D)) (⋆ 𝓛 (F (R ++ (i ∷ [])) (D ++ (j ∷ []))))

  takes : (Γ : List (Item 𝓤)) → Takes (λ R D. R ++ (D ++ Γ))
  takes Γ i j R D =
      via 𝓤 (sep 𝓤 (mean 𝓛 i) (sep 𝓤 (mean 𝓛 j) (sep 𝓤 (⋆ 𝓛 R) (sep 𝓤 (⋆ 𝓛 D) (⋆ 𝓛 Γ)))))
      (mono_r 𝓤 (mean 𝓛 i) (via 𝓤 (sep 𝓤 (mean 𝓛 j) (⋆ 𝓛 (R ++ (D ++ Γ)))) (pop 𝓛 j (R ++ (D ++ Γ)))
      (mono_r 𝓤 (mean 𝓛 j) (via 𝓤 (sep 𝓤 (⋆ 𝓛 R) (⋆ 𝓛 (D ++ Γ))) (⊢++ 𝓛 R (D ++ Γ)) (mono_r 𝓤 (⋆ 𝓛 R) (⊢++ 𝓛 D Γ))))))
      (qed 𝓛 (i ∷ j ∷ raw (⋆ 𝓛 R) ∷ raw (⋆ 𝓛 D) ∷ raw (⋆ 𝓛 Γ) ∷ []) ∵
      suffices ! (sep 𝓤 (⋆ 𝓛 (R ++ (i ∷ []))) (⋆ 𝓛 ((D ++ (j ∷ [])) ++ Γ))) (++⊢ 𝓛 (R ++ (i ∷ [])) ((D ++ (j ∷ [])) ++ Γ)) $
      move ! (2 ∷ 0 ∷ []) $ use2 𝓛 (raw (⋆ 𝓛 (R ++ (i ∷ [])))) (++⊢ 𝓛 R (i ∷ [])) $ frame ! $
      suffices ! (sep 𝓤 (⋆ 𝓛 (D ++ (j ∷ []))) (⋆ 𝓛 Γ)) (++⊢ 𝓛 (D ++ (j ∷ [])) Γ) $
      move ! (1 ∷ 0 ∷ []) $ use2 𝓛 (raw (⋆ 𝓛 (D ++ (j ∷ [])))) (++⊢ 𝓛 D (j ∷ [])) $ done !)

  -- a local is let go, whatever it holds, out of the front of two lists
  lets_go : (e : Ty × ℕ) (c : Cell) → T (frees-as c) → (R D : List (Item 𝓤))
      → ent 𝓤 (⋆ 𝓛 (cell e c ∷ R ++ ‵ (fdies e.0 e.1) ∷ D))
      (sep 𝓤 (sep 𝓤 (H.room e.0 e.1 0) (H.dies e.0 e.1)) (⋆ 𝓛 (R ++ D)))
  lets_go e c h R D =
      via 𝓤 (sep 𝓤 (mean 𝓛 (cell e c)) (sep 𝓤 (⋆ 𝓛 R) (sep 𝓤 (H.dies e.0 e.1) (⋆ 𝓛 D))))
      (via 𝓤 (sep 𝓤 (mean 𝓛 (cell e c)) (⋆ 𝓛 (R ++ ‵ (fdies e.0 e.1) ∷ D))) (pop 𝓛 (cell e c) (R ++ ‵ (fdies e.0 e.1) ∷ D))
      (mono_r 𝓤 (mean 𝓛 (cell e c)) (via 𝓤 (sep 𝓤 (⋆ 𝓛 R) (⋆ 𝓛 (‵ (fdies e.0 e.1) ∷ D))) (⊢++ 𝓛 R (‵ (fdies e.0 e.1) ∷ D))
      (mono_r 𝓤 (⋆ 𝓛 R) (pop 𝓛 (‵ (fdies e.0 e.1)) D)))))
      (qed 𝓛 (cell e c ∷ raw (⋆ 𝓛 R) ∷ ‵ (fdies e.0 e.1) ∷ raw (⋆ 𝓛 D) ∷ []) ∵
      use1 𝓛 (‵ (froom e.0 e.1 0)) (as_room e c h) $ move ! (0 ∷ 2 ∷ []) $ join ! $ frame ! $ by ! (++⊢ 𝓛 R D))

module _ {M : Type 1} {𝓤 : Ura M} (K : Type 0) (𝓛 : Logic 𝓤) where
  -- what is to be shown once the locals are allocated, over their blocks
  open 𝓛 use {H}

  abbrev Entered : List Local → (Env 𝓤 H → List (Item 𝓤) → List (Item 𝓤) → Type 1) → Type 1
  Entered [] k = k [] [] []
  Entered (local τ h ∷ ls) k = (l : ℕ) → Entered ls (λ E R D. k ((τ, l) ∷ E) (‵ (froom τ l 0) ∷ R) (‵ (fdies τ l) ∷ D))

  begun : K → (ls : List Local) (F : List (Item 𝓤) → List (Item 𝓤) → List (Item 𝓤)) → Takes 𝓛 F → (Kt : Env 𝓤 H → Goal 𝓤 H)
      → Entered ls (λ E R D. Seq K 𝓛 (F R D) (Kt E)) → Seq K 𝓛 (F [] []) (allocs ls Kt)
  begun t [] F p Kt s = alloc0 t $ s
  begun t (local τ h ∷ ls) F p Kt s =
      alloc1 t (λ l. record {
        prf = via 𝓤 (⋆ 𝓛 (F (‵ (froom τ l 0) ∷ []) (‵ (fdies τ l) ∷ []))) (p (‵ (froom τ l 0)) (‵ (fdies τ l)) [] [])
            (begun t ls (λ R D. F (‵ (froom τ l 0) ∷ R) (‵ (fdies τ l) ∷ D)) (λ i j R D. p i j (‵ (froom τ l 0) ∷ R) (‵ (fdies τ l) ∷ D))
            (λ E. Kt ((τ, l) ∷ E)) (s l)).prf;
      })

  freed : (E : Env 𝓤 H) (cs : List Cell) → T (freeable cs) → (Γ : List (Item 𝓤)) (g : Goal 𝓤 H) → Seq K 𝓛 Γ g
      → ent 𝓤 (⋆ 𝓛 (cells E cs ++ (dying E ++ Γ))) (aim 𝓤 H (frees E g))
  freed [] cs h Γ g s = s.prf
  freed (e ∷ E) [] h Γ g s =
      via 𝓤 (sep 𝓤 (sep 𝓤 (H.room e.0 e.1 0) (H.dies e.0 e.1)) (⋆ 𝓛 (cells E [] ++ (dying E ++ Γ))))
      (lets_go 𝓛 e bare tt (cells E []) (dying E ++ Γ))
      (mono_r 𝓤 (sep 𝓤 (H.room e.0 e.1 0) (H.dies e.0 e.1)) (freed E [] h Γ g s))
  freed (e ∷ E) (c ∷ cs) h Γ g s =
      via 𝓤 (sep 𝓤 (sep 𝓤 (H.room e.0 e.1 0) (H.dies e.0 e.1)) (⋆ 𝓛 (cells E cs ++ (dying E ++ Γ))))
      (lets_go 𝓛 e c (and-fst (frees-as c) (freeable cs) h) (cells E cs) (dying E ++ Γ))
      (mono_r 𝓤 (sep 𝓤 (H.room e.0 e.1 0) (H.dies e.0 e.1)) (freed E cs (and-snd (frees-as c) (freeable cs) h) Γ g s))

  -- the locals from n on are bare again, whatever they hold
  bared : (E : Env 𝓤 H) (n : ℕ) (cs : List Cell) → T (freeable (drop n cs)) → (Γ : List (Item 𝓤))
      → ent 𝓤 (⋆ 𝓛 (cells E cs ++ Γ)) (⋆ 𝓛 (cells E (take n cs) ++ Γ))
  bared [] n cs h Γ = id⊢ 𝓤 (⋆ 𝓛 Γ)
  bared (e ∷ E) zero [] h Γ = id⊢ 𝓤 _
  bared (e ∷ E) (suc n) [] h Γ = id⊢ 𝓤 _
  bared (e ∷ E) zero (c ∷ cs) h Γ =
      via 𝓤 (sep 𝓤 (mean 𝓛 (cell e c)) (⋆ 𝓛 (cells E cs ++ Γ))) (pop 𝓛 (cell e c) (cells E cs ++ Γ))
      (via 𝓤 (sep 𝓤 (H.room e.0 e.1 0) (⋆ 𝓛 (cells E [] ++ Γ)))
      (mono∗ 𝓤 (as_room 𝓛 e c (and-fst (frees-as c) (freeable cs) h)) (bared E zero cs (and-snd (frees-as c) (freeable cs) h) Γ))
      (push 𝓛 (cell e bare) (cells E [] ++ Γ)))
  bared (e ∷ E) (suc n) (c ∷ cs) h Γ =
      via 𝓤 (sep 𝓤 (mean 𝓛 (cell e c)) (⋆ 𝓛 (cells E cs ++ Γ))) (pop 𝓛 (cell e c) (cells E cs ++ Γ))
      (via 𝓤 (sep 𝓤 (mean 𝓛 (cell e c)) (⋆ 𝓛 (cells E (take n cs) ++ Γ))) (mono_r 𝓤 (mean 𝓛 (cell e c)) (bared E n cs h Γ))
      (push 𝓛 (cell e c) (cells E (take n cs) ++ Γ)))

module _ {M : Type 1} {𝓤 : Ura M} (𝓛 : Logic 𝓤) where
  nth-put : (n : ℕ) (Γ : List (Item 𝓤)) (i : Item 𝓤) {τ : Ty} {b o : ℕ} → nth 𝓛 n Γ ≡ ‵ (froom τ b o) → nth 𝓛 n (put 𝓛 n i Γ) ≡ i
  nth-put n [] i e = cc
  nth-put zero (j ∷ Γ) i e = refl
  nth-put (suc n) (j ∷ Γ) i e = nth-put n Γ i e

-- where a loop is left that is a block of its own
abbrev pub Left : {M : Type 1} (𝓤 : Ura M) (H : Heap 𝓤) (𝓣 : Tables 𝓤 H) → Env 𝓤 H → Body → Post 𝓤 H → Out → SProp 𝓤
Left 𝓤 H 𝓣 E rest q = after_block 𝓤 H (after_seq 𝓤 H (Wp 𝓤 H 𝓣.C 𝓣.Λ E rest (post 𝓤 H q)) (post 𝓤 H q))

module _ {M : Type 1} {𝓤 : Ura M} {𝓛 : Logic 𝓤} {K : Type 0} {Γ : List (Item 𝓤)} where
  -- the locals are allocated, and stand in front, in order, and after them that each dies
  open 𝓛 use {H}

  pub begins : K → {ls : List Local} {Kt : Env 𝓤 H → Goal 𝓤 H} → Entered K 𝓛 ls (λ E R D. Seq K 𝓛 (R ++ (D ++ Γ)) (Kt E)) → Seq K 𝓛 Γ (allocs ls Kt)
  begins t {ls} {Kt} s = begun K 𝓛 t ls (λ R D. R ++ (D ++ Γ)) (takes 𝓛 Γ) Kt s

  -- they are freed
  pub leaves : K → {E : Env 𝓤 H} {g : Goal 𝓤 H} (cs : List Cell) → T (freeable cs) → {Γ' : List (Item 𝓤)} → Γ ≡ cells E cs ++ (dying E ++ Γ')
      → Step K 𝓛 Γ' g Γ (frees E g)
  leaves t {E} {g} cs h {Γ'} e = step (λ s. record {
    prf = subst (λ (Δ : List (Item 𝓤)). ent 𝓤 (⋆ 𝓛 Δ) (aim 𝓤 H (frees E g))) (sym e)
        (freed K 𝓛 E cs h Γ' g s);
  })

  module _ {G : Goal 𝓤 H} where
    -- the first n entries go behind the others
    pub sinks : K → (n : ℕ) → Step K 𝓛 (drop n Γ ++ take n Γ) G Γ G
    sinks t n = step (λ s. record {
      prf = via 𝓤 (sep 𝓤 (⋆ 𝓛 (take n Γ)) (⋆ 𝓛 (drop n Γ)))
          (subst (λ (Δ : List (Item 𝓤)). ent 𝓤 (⋆ 𝓛 Δ) (sep 𝓤 (⋆ 𝓛 (take n Γ)) (⋆ 𝓛 (drop n Γ)))) (take-append-drop n Γ)
          (⊢++ 𝓛 (take n Γ) (drop n Γ)))
          (via 𝓤 (sep 𝓤 (⋆ 𝓛 (drop n Γ)) (⋆ 𝓛 (take n Γ))) (comm∗ 𝓤 (⋆ 𝓛 (take n Γ)) (⋆ 𝓛 (drop n Γ)))
          (via 𝓤 (⋆ 𝓛 (drop n Γ ++ take n Γ)) (++⊢ 𝓛 (drop n Γ) (take n Γ)) s.prf));
    })

    -- what the locals from n on hold is let go, whatever is to be shown
    pub forgets-of : K → (E : Env 𝓤 H) (n : ℕ) (cs : List Cell) → T (freeable (drop n cs)) → (Γ' : List (Item 𝓤)) → Γ ≡ cells E cs ++ Γ'
        → Step K 𝓛 (cells E (take n cs) ++ Γ') G Γ G
    forgets-of t E n cs h Γ' e = step (λ s. record {
      prf = via 𝓤 (⋆ 𝓛 (cells E (take n cs) ++ Γ'))
          (subst (λ (Δ : List (Item 𝓤)). ent 𝓤 (⋆ 𝓛 Δ) (⋆ 𝓛 (cells E (take n cs) ++ Γ'))) (sym e) (bared K 𝓛 E n cs h Γ')) s.prf;
    })

    -- entry n is replaced by what it entails
    pub becomes : K → (n : ℕ) {i : Item 𝓤} (k : Item 𝓤) → nth 𝓛 n Γ ≡ i → ent 𝓤 (mean 𝓛 i) (mean 𝓛 k) → Step K 𝓛 (put 𝓛 n k Γ) G Γ G
    becomes t n {i} k e h = step (λ s. record {
      prf = via 𝓤 (sep 𝓤 (mean 𝓛 i) (⋆ 𝓛 (del 𝓛 n Γ))) (subst
          (λ (j : Item 𝓤). ent 𝓤 (⋆ 𝓛 Γ) (sep 𝓤 (mean 𝓛 j) (⋆ 𝓛 (del 𝓛 n Γ)))) e (pull 𝓛 n Γ))
          (via 𝓤 (sep 𝓤 (mean 𝓛 k) (⋆ 𝓛 (del 𝓛 n Γ))) (mono_l 𝓤 (⋆ 𝓛 (del 𝓛 n Γ)) h)
          (via 𝓤 (⋆ 𝓛 (put 𝓛 n k Γ)) (fill 𝓛 n k Γ) s.prf));
    })

  module _ {E : Env 𝓤 H} where
    -- a local is read: entry n is its cell
    pub held : K → (n : ℕ) {i : ℕ} {q : Share} {v : Val} → nth 𝓛 n Γ ≡ ‵ (fat q (spot_of 𝓤 H E i).0 (spot_of 𝓤 H E i).1 0 v)
        → Opd K 𝓛 Γ E (copy (place i [])) v
    held t n e = load t (from t (stop t)) (look t n e)

    module _ {C : Calls 𝓤 H} {Λ : Loops 𝓤 H} {q : Post 𝓤 H} where
      -- a local gets its first value: entry n is room for it
      pub sets : K → {i : ℕ} {rv : RValue} {rest : Body} {v : Val} → Rv K 𝓛 Γ E rv v → (n : ℕ)
          → nth 𝓛 n Γ ≡ ‵ (froom (spot_of 𝓤 H E i).0 (spot_of 𝓤 H E i).1 0) → T (has_ty (spot_of 𝓤 H E i).0 v) × WT v
          → Step K 𝓛 (put 𝓛 n (‵ (fat full_share (spot_of 𝓤 H E i).0 (spot_of 𝓤 H E i).1 0 v)) Γ) (runs C Λ E rest q) Γ
          (runs C Λ E (seq (assign (place i []) rv) rest) q)
      sets t rv n e wt = assigns t rv (from t (stop t)) (init t n e wt)

      -- what the locals from n on hold is let go, in the midst of the code
      pub forgets : K → {b : Body} (n : ℕ) (cs : List Cell) → T (freeable (drop n cs)) → (Γ' : List (Item 𝓤)) → Γ ≡ cells E cs ++ Γ'
          → Step K 𝓛 (cells E (take n cs) ++ Γ') (runs C Λ E b q) Γ (runs C Λ E b q)
      forgets t n cs h Γ' e = forgets-of t E n cs h Γ' e

      -- a call's result is a local's first value
      pub gets : K → {i : ℕ} {r : Val} {rest : Body} (n : ℕ) → nth 𝓛 n Γ ≡ ‵ (froom (spot_of 𝓤 H E i).0 (spot_of 𝓤 H E i).1 0)
          → T (has_ty (spot_of 𝓤 H E i).0 r) × WT r
          → Step K 𝓛 (put 𝓛 n (‵ (fat full_share (spot_of 𝓤 H E i).0 (spot_of 𝓤 H E i).1 0 r)) Γ) (runs C Λ E rest q) Γ (lands C Λ E (place i []) r rest q)
      gets t n e wt = land t (from t (stop t)) (init t n e wt)

      -- a part of a sequence has nothing to do, or one statement: the rest follows, to the function's end
      pub skips-to : K → (b : Body) (Kf : Val → SProp 𝓤) → post 𝓤 H q ≡ after_seq 𝓤 H (Wp 𝓤 H C Λ E b (at_return 𝓤 H E Kf)) (at_return 𝓤 H E Kf)
          → Step K 𝓛 Γ (runs C Λ E b (at_ret E Kf)) Γ (runs C Λ E skip q)
      skips-to t b Kf e = step (λ s. record {
        prf = via 𝓤 (post 𝓤 H q next)
            (subst (λ (Q : Out → SProp 𝓤). ent 𝓤 (⋆ 𝓛 Γ) (Q next)) (sym e) s.prf) (𝓛.laws.⇛_intro (post 𝓤 H q next));
      })

      pub goes_on : K → {a : Body} (b : Body) (Kf : Val → SProp 𝓤) → post 𝓤 H q ≡ after_seq 𝓤 H (Wp 𝓤 H C Λ E b (at_return 𝓤 H E Kf))
          (at_return 𝓤 H E Kf) → Step K 𝓛 Γ (runs C Λ E (seq a b) (at_ret E Kf)) Γ (runs C Λ E a q)
      goes_on t {a} b Kf e = step (λ s. record { prf = subst (λ (Q : Out → SProp 𝓤). ent 𝓤 (⋆ 𝓛 Γ) (Wp 𝓤 H C Λ E a Q)) (sym e) s.prf })

-- `while i < n`, from i = 0, with i + 1 at the end of a turn: after i turns the locals stand as `cs i`, and the rest is `Δ i`. The test is put into the
-- local at entry k, and what is left to show is a turn's body after the test, and what follows the loop
module _ {M : Type 1} {𝓤 : Ura M} {𝓛 : Logic 𝓤} {K : Type 0} {Γ : List (Item 𝓤)} {E : Env 𝓤 𝓛.H} {q : Post 𝓤 𝓛.H} where
  open 𝓛 use {H}

  pub counts : K → (𝓣 : Tables 𝓤 H) (n : ℕ) (cs : ℕ → List Cell) (Δ : ℕ → List (Item 𝓤)) → Γ ≡ cells E (cs 0) ++ (dying E ++ Δ 0)
      → {d : ℕ} {x : RValue} {b rest : Body}
      → ((i : ℕ) → Rv K 𝓛 (cells E (cs i) ++ (dying E ++ Δ i)) E x (vbool (ltb i n))) → (k : ℕ)
      → ((i : ℕ) → nth 𝓛 k (cells E (cs i) ++ (dying E ++ Δ i)) ≡ ‵ (froom (spot_of 𝓤 H E d).0 (spot_of 𝓤 H E d).1 0))
      → ((z : Bool) → T (has_ty (spot_of 𝓤 H E d).0 (vbool z)))
      → ((i : ℕ) → i < n → Seq K 𝓛 (put 𝓛 k (‵ (fat full_share (spot_of 𝓤 H E d).0 (spot_of 𝓤 H E d).1 0 (vbool true)))
      (cells E (cs i) ++ (dying E ++ Δ i)))
      (runs 𝓣.C 𝓣.Λ E b (any_q (after_turn 𝓤 H (⋆ 𝓛 (cells E (cs (suc i)) ++ (dying E ++ Δ (suc i)))) (Left 𝓤 H 𝓣 E rest q)))))
      → Seq K 𝓛 (put 𝓛 k (‵ (fat full_share (spot_of 𝓤 H E d).0 (spot_of 𝓤 H E d).1 0 (vbool false))) (cells E (cs n) ++ (dying E ++ Δ n)))
      (runs 𝓣.C 𝓣.Λ E rest q)
      → Seq K 𝓛 Γ (runs 𝓣.C 𝓣.Λ E (seq (block (loop (seq (assign (place d []) x) (seq (cond (copy (place d [])) skip (exit 1)) b)))) rest) q)
  unfolding after_turn
  counts t 𝓣 n cs Δ e {d} {x} {b} {rest} test k room typed more ends = record {
    prf = subst (λ (Γ₀ : List (Item 𝓤)). ent 𝓤 (⋆ 𝓛 Γ₀) (Wp 𝓤 H 𝓣.C 𝓣.Λ E (loop Turn) (Left 𝓤 H 𝓣 E rest q))) (sym e)
        (via 𝓤 (𝓣.Λ Turn E (Left 𝓤 H 𝓣 E rest q)) (from-here n 0 (zero-add n)) (𝓛.laws.⇛_intro (𝓣.Λ Turn E (Left 𝓤 H 𝓣 E rest q))));
  }
    where
      Turn : Body
      Turn = seq (assign (place d []) x) (seq (cond (copy (place d [])) skip (exit 1)) b)

      At : ℕ → List (Item 𝓤)
      At i = cells E (cs i) ++ (dying E ++ Δ i)

      Told : Bool → Item 𝓤
      Told z = ‵ (fat full_share (spot_of 𝓤 H E d).0 (spot_of 𝓤 H E d).1 0 (vbool z))

      -- the test comes out as z
      tests : (i : ℕ) (z : Bool) → ltb i n ≡ z → {p : Post 𝓤 H} → Seq K 𝓛 (put 𝓛 k (Told z) (At i))
          (runs 𝓣.C 𝓣.Λ E (seq (cond (copy (place d [])) skip (exit 1)) b) p) → Seq K 𝓛 (At i) (runs 𝓣.C 𝓣.Λ E Turn p)
      tests i z z-is s = sets t (subst (λ (y : Bool). Rv K 𝓛 (At i) E x (vbool y)) z-is (test i)) k (room i) (typed z, tt) $ s

      from-here : (j i : ℕ) → i + j ≡ n → ent 𝓤 (⋆ 𝓛 (At i)) (𝓣.Λ Turn E (Left 𝓤 H 𝓣 E rest q))
      from-here zero i p = via 𝓤 (Wp 𝓤 H 𝓣.C 𝓣.Λ E Turn (after_turn 𝓤 H (𝓣.Λ Turn E (Left 𝓤 H 𝓣 E rest q)) (Left 𝓤 H 𝓣 E rest q)))
          (subst (λ (j : ℕ). ent 𝓤 (⋆ 𝓛 (At j)) (Wp 𝓤 H 𝓣.C 𝓣.Λ E Turn
          (after_turn 𝓤 H (𝓣.Λ Turn E (Left 𝓤 H 𝓣 E rest q)) (Left 𝓤 H 𝓣 E rest q)))) (sym p ∙ add-zero i)
          (tests n false (le-ltb n n (omega arith)) {p = any_q (after_turn 𝓤 H (𝓣.Λ Turn E (Left 𝓤 H 𝓣 E rest q)) (Left 𝓤 H 𝓣 E rest q))}
          (leaves_loop t (held t k (nth-put 𝓛 k (At n) (Told false) (room n))) $ record { prf = ends.prf })).prf)
          (unroll 𝓤 H 𝓛.laws 𝓣 E Turn (Left 𝓤 H 𝓣 E rest q) (𝓣.Λ Turn E (Left 𝓤 H 𝓣 E rest q)) (id⊢ 𝓤 (𝓣.Λ Turn E (Left 𝓤 H 𝓣 E rest q))))
      from-here (suc j) i p = via 𝓤 (Wp 𝓤 H 𝓣.C 𝓣.Λ E Turn (after_turn 𝓤 H (⋆ 𝓛 (At (suc i))) (Left 𝓤 H 𝓣 E rest q)))
          (tests i true (lt-ltb i n (omega (arith, p))) {p = any_q (after_turn 𝓤 H (⋆ 𝓛 (At (suc i))) (Left 𝓤 H 𝓣 E rest q))}
          (stays t (held t k (nth-put 𝓛 k (At i) (Told true) (room i))) $ more i (omega (arith, p)))).prf
          (unroll 𝓤 H 𝓛.laws 𝓣 E Turn (Left 𝓤 H 𝓣 E rest q) (⋆ 𝓛 (At (suc i))) (from-here j (suc i) (omega (arith, p))))

-- a function whose walk needs nothing but what its parameters' types own meets its contract
pub meets : {M : Type 1} {𝓤 : Ura M} (𝓛 : Logic 𝓤) (en : Ended) (hs : Stays en.signature.params en.kept)
    (c : Clauses 𝓤 en) (𝓣 : Tables 𝓤 𝓛.H) (fn : Fn)
    → AllGo 𝓛 en.signature.lifetimes en.signature.params en.kept hs
    → (sp : (κs : Lfts en.signature.lifetimes) → Spells (types_at en.signature.params κs))
    → ((κs : Lfts en.signature.lifetimes) → Tellss (types_at en.signature.params κs) (Ises (types_at en.signature.params κs)) (sp κs))
    → ((κs : Lfts en.signature.lifetimes) (qs : Shares en.signature.lifetimes)
    (bounds : AllOutlive en.signature.lifetimes en.signature.outlives κs) (a : Args en.signature κs) (g : (c κs a).ghost)
    → Are (types_at en.signature.params κs) (Ises (types_at en.signature.params κs)) a (valss (types_at en.signature.params κs) (sp κs) a)
    → ent 𝓤 (on_entry 𝓛 en.signature κs qs a (valss (types_at en.signature.params κs) (sp κs) a))
    (WpFn 𝓤 𝓛.H 𝓣.C 𝓣.Λ fn (flat (types_at en.signature.params κs) (valss (types_at en.signature.params κs) (sp κs) a))
    ((walk_of 𝓛 en hs c).post ((κs, qs, bounds, a, valss (types_at en.signature.params κs) (sp κs) a), g))))
    → Meets 𝓛 en.signature (WpFn 𝓤 𝓛.H 𝓣.C 𝓣.Λ fn) (closing 𝓛 en c)
meets {𝓤 = 𝓤} 𝓛 en hs c 𝓣 fn goes sp tl walk =
    walk_Meets 𝓛 en hs goes c (WpFn 𝓤 𝓛.H 𝓣.C 𝓣.Λ fn) (WpFn-mono 𝓤 𝓛.H 𝓛.laws 𝓣 fn)
    (walked 𝓛 en hs c (WpFn 𝓤 𝓛.H 𝓣.C 𝓣.Λ fn) sp tl (λ κs qs bounds a g are. via 𝓤 _ (fst∗ 𝓤 _ ((c κs a).requires g))
    (walk κs qs bounds a g are)))
