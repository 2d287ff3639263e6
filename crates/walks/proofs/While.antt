-- `while` over a state: at s the locals stand as `cs s`, and the rest is `Δ s`; the test says whether s goes on, and a turn ends at a state of a smaller measure.
use mathlib.Core.Path.{◌≡◌, refl, sym, subst}
use Prim.Native.Nat.{ℕ, ◌<◌}
use mathlib.Core.WellFounded.InvImage
use lib.WfN.{lt-wf_rel}
use mathlib.Core.Bool.{Bool, true, false}
use mathlib.Core.List.{List, [], ◌∷◌, ◌++◌}
use seplogic.Ra.Ura.{Ura}
use base.Fraction.{full_share}
use lib.Dec.{T}
use mir.Syntax.{Body, Rv as RValue, skip, seq, copy, place, assign, block, loop, cond, exit}
use mir.Val.{vbool, has_ty}
use base.Logic.{ent, sep, ex, guard, via, mono_l}
use base.Fml.{fat, froom}
use prog.Wp.{Env, Tables, Wp, spot_of, after_turn}
use types.Logic.{Logic}
use types.Kit.{Item, ‵, raw, given, mean, ⋆, nth, put, del, pull, fill, Post, any_q, Goal, runs, prop, Seq, show, check, learn, by, done, qed, ◌$◌, ◌∵◌, ! }
use types.Run.{Rv, stays, leaves_loop}
use sound.Loop.{loop_rule}
use Rattle.walks.proofs.Walk.{Cell, cells, dying, Left, held, sets}

module _ {M : Type 1} {𝓤 : Ura M} {𝓛 : Logic 𝓤} {K : Type 0} {Γ : List (Item 𝓤)} {E : Env 𝓤 𝓛.H} {q : Post 𝓤 𝓛.H} where
  open 𝓛 use {H}

  pub whiles : K → (𝓣 : Tables 𝓤 H) {S : Type 0} (μ : S → ℕ) (cs : S → List Cell) (Δ : S → List (Item 𝓤)) (s₀ : S) → Γ ≡ cells E (cs s₀) ++ (dying E ++ Δ s₀)
      → {d : ℕ} {x : RValue} {b rest : Body} (on : S → Bool)
      → ((s : S) → Rv K 𝓛 (cells E (cs s) ++ (dying E ++ Δ s)) E x (vbool (on s))) → (k : ℕ)
      → ((s : S) → nth 𝓛 k (cells E (cs s) ++ (dying E ++ Δ s)) ≡ ‵ (froom (spot_of 𝓤 H E d).0 (spot_of 𝓤 H E d).1 0))
      → ((s : S) (z : Bool) → nth 𝓛 k (put 𝓛 k (‵ (fat full_share (spot_of 𝓤 H E d).0 (spot_of 𝓤 H E d).1 0 (vbool z))) (cells E (cs s) ++ (dying E ++ Δ s)))
      ≡ ‵ (fat full_share (spot_of 𝓤 H E d).0 (spot_of 𝓤 H E d).1 0 (vbool z)))
      → ((z : Bool) → T (has_ty (spot_of 𝓤 H E d).0 (vbool z)))
      → ((s : S) → on s ≡ true
      → ((s' : S) → μ s' < μ s → Seq K 𝓛 (cells E (cs s') ++ (dying E ++ Δ s')) (prop (ex 𝓤 (λ (s' : S). guard 𝓤 (μ s' < μ s) (⋆ 𝓛 (cells E (cs s') ++ (dying E ++ Δ s')))))))
      → Seq K 𝓛 (put 𝓛 k (‵ (fat full_share (spot_of 𝓤 H E d).0 (spot_of 𝓤 H E d).1 0 (vbool true))) (cells E (cs s) ++ (dying E ++ Δ s)))
      (runs 𝓣.C 𝓣.Λ E b (any_q (after_turn 𝓤 H (ex 𝓤 (λ (s' : S). guard 𝓤 (μ s' < μ s) (⋆ 𝓛 (cells E (cs s') ++ (dying E ++ Δ s'))))) (Left 𝓤 H 𝓣 E rest q)))))
      → ((s : S) → on s ≡ false → Seq K 𝓛 (put 𝓛 k (‵ (fat full_share (spot_of 𝓤 H E d).0 (spot_of 𝓤 H E d).1 0 (vbool false))) (cells E (cs s) ++ (dying E ++ Δ s)))
      (runs 𝓣.C 𝓣.Λ E rest q))
      → Seq K 𝓛 Γ (runs 𝓣.C 𝓣.Λ E (seq (block (loop (seq (assign (place d []) x) (seq (cond (copy (place d [])) skip (exit 1)) b)))) rest) q)
  unfolding after_turn
  whiles t 𝓣 {S} μ cs Δ s₀ e {d} {x} {b} {rest} on test k room told typed more ends = record {
    prf = subst (λ (Γ₀ : List (Item 𝓤)). ent 𝓤 (⋆ 𝓛 Γ₀) (Wp 𝓤 H 𝓣.C 𝓣.Λ E (loop Turn) (Left 𝓤 H 𝓣 E rest q))) (sym e)
        (loop_rule 𝓤 H 𝓛.laws 𝓣 (λ (s' s : S). μ s' < μ s) (InvImage.wf μ lt-wf_rel.wf) E Turn (Left 𝓤 H 𝓣 E rest q) (λ s. ⋆ 𝓛 (At s)) (λ s. (turn s (on s) refl).prf) s₀);
  }
    where
      Turn : Body
      Turn = seq (assign (place d []) x) (seq (cond (copy (place d [])) skip (exit 1)) b)

      At : S → List (Item 𝓤)
      At s = cells E (cs s) ++ (dying E ++ Δ s)

      turn : (s : S) (z : Bool) → on s ≡ z → Seq K 𝓛 (At s) (runs 𝓣.C 𝓣.Λ E Turn
          (any_q (after_turn 𝓤 H (ex 𝓤 (λ (s' : S). guard 𝓤 (μ s' < μ s) (⋆ 𝓛 (At s')))) (Left 𝓤 H 𝓣 E rest q))))
      turn s true e = sets t (subst (λ (y : Bool). Rv K 𝓛 (At s) E x (vbool y)) e (test s)) k (room s) (typed true, tt) $
          stays t (held t k (told s true)) $ more s e (λ s' lt. show t (λ (s' : S). guard 𝓤 (μ s' < μ s) (⋆ 𝓛 (At s'))) s' $ check t lt $ done t)
      turn s false e = sets t (subst (λ (y : Bool). Rv K 𝓛 (At s) E x (vbool y)) e (test s)) k (room s) (typed false, tt) $
          leaves_loop t (held t k (told s false)) $ record { prf = (ends s e).prf }

-- entry n is replaced by what it entails, with a fact that is learned
pub knows : {M : Type 1} {𝓤 : Ura M} {𝓛 : Logic 𝓤} {K : Type 0} {Γ : List (Item 𝓤)} {G : Goal 𝓤 𝓛.H} → K → (n : ℕ) {i : Item 𝓤} {φ : Type 0} (k : Item 𝓤)
    → nth 𝓛 n Γ ≡ i → ent 𝓤 (mean 𝓛 i) (guard 𝓤 φ (mean 𝓛 k)) → (φ → Seq K 𝓛 (put 𝓛 n k Γ) G) → Seq K 𝓛 Γ G
knows {𝓤 = 𝓤} {𝓛 = 𝓛} {Γ = Γ} {G = G} t n {i} {φ} k e h s = record {
  prf = via 𝓤 (sep 𝓤 (mean 𝓛 i) (⋆ 𝓛 (del 𝓛 n Γ))) (subst (λ (j : Item 𝓤). ent 𝓤 (⋆ 𝓛 Γ) (sep 𝓤 (mean 𝓛 j) (⋆ 𝓛 (del 𝓛 n Γ)))) e (pull 𝓛 n Γ))
      (via 𝓤 (sep 𝓤 (guard 𝓤 φ (mean 𝓛 k)) (⋆ 𝓛 (del 𝓛 n Γ))) (mono_l 𝓤 (⋆ 𝓛 (del 𝓛 n Γ)) h)
      (qed 𝓛 (given φ k ∷ raw (⋆ 𝓛 (del 𝓛 n Γ)) ∷ []) ∵ learn ! (λ x. by ! (via 𝓤 (⋆ 𝓛 (put 𝓛 n k Γ)) (fill 𝓛 n k Γ) (s x).prf))));
}
