-- The machine's lines are those of the figure: each is one of its lines, and no other outcome is.
use Prim.Native.Nat.{ℕ, ◌+◌, ◌<◌}
use native.Mathlib.Omega.{arith}
use native.Mathlib.Decide.{dec_lt}
use borrow.Author.Tests.{eqb-true, eqb-false, eq-eqb, ne_eqb, not-true, not-false}
use mathlib.Core.Path.{◌≡◌, refl, sym, ap, ◌∙◌}
use mathlib.Core.Bool.{Bool, true, false, not}
use mathlib.Core.Logic.{◌⊎◌, inl, inr}
use mathlib.Core.List.{List}
use lib.ListN.{get_or}
use lib.Dec.{eqb}
use Rattle.bits.specs.Marks.{pick, is_marked, count_of, lowest_of}
use Rattle.bits.proofs.Laws.{laws}
use Rattle.dtml.specs.declared.Phase.{Phase}
use Rattle.dtml.specs.declared.Phase.TheVariants.{Fresh, Ready, Committed, Aborted, B1, B2, R1, R2, W1, W2, W3, W4, W5, W6, W7, E1, E2, E3}
use Rattle.dtml.specs.declared.Recovery.{Recovery}
use Rattle.dtml.specs.declared.Recovery.TheVariants.{Idle, C1, C2, C3, C4, C5, C6}
use Rattle.dtml.specs.Table.{says}
use Rattle.dtml.specs.Store.{Memory, memory, tx}
use Rattle.dtml.specs.Asked.{Did, did, RecoveryDid, recovery_did}
use Rattle.dtml.specs.Lines.{line_at, recovery_line, even, stage, any_mark, flush_of}
use Rattle.dtml.specs.Checks.{is_at_line, not_idle}
use Rattle.dtml.specs.Figure1.{Line, b1, b2-even, b2-odd, r1, r2-same, r2-other, w1-even, w1-odd, w2-same, w2-other, w3, w4-in, w4-out, w5, w6, w7, e1-odd, e1-even, e2, e3, RecoveryLine, c1-some, c1-none, c2, c3, c4, c5, c6}
use Rattle.dtml.proofs.Words.{same_or_not, true-not-false, pick-case, even-true, even-false, is-even, is_odd, none-marked}

pub in-figure : (m : Memory) (loc : ℕ) (p : Phase) → is_at_line (stage p) ≡ true → Line m loc p (line_at m loc p)
unfolding line_at flush_of
in-figure m loc Fresh h = absurd (true-not-false refl (sym h))
in-figure m loc Ready h = absurd (true-not-false refl (sym h))
in-figure m loc Committed h = absurd (true-not-false refl (sym h))
in-figure m loc Aborted h = absurd (true-not-false refl (sym h))
in-figure m loc B1 h = b1 refl refl
in-figure m loc B2 h = pick-case (Line m loc B2) (even loc) (λ e. b2-even refl (even-true loc e) refl) (λ e. b2-odd refl (even-false loc e) refl)
in-figure m loc (R1 w) h = r1 w refl refl
in-figure m loc (R2 v) h =
    pick-case (Line m loc (R2 v)) (eqb m.glb loc)
    (λ e. r2-same v refl (eqb-true m.glb loc e) refl)
    (λ e. r2-other v refl (eqb-false m.glb loc e) refl)
in-figure m loc (W1 w v) h =
    pick-case (Line m loc (W1 w v)) (even loc) (λ e. w1-even w v refl (even-true loc e) refl) (λ e. w1-odd w v refl (even-false loc e) refl)
in-figure m loc (W2 w v) h =
    pick-case (Line m loc (W2 w v)) (eqb m.glb loc)
    (λ e. let q = eqb-true m.glb loc e in
    w2-same w v refl q (ap (λ g. did (says 0 0) (memory m.vol m.pers m.old m.marks (g + 1)) (tx loc (W3 w v))) q))
    (λ e. w2-other w v refl (eqb-false m.glb loc e) refl)
in-figure m loc (W3 w v) h = w3 w v refl refl
in-figure m loc (W4 w v) h = pick-case (Line m loc (W4 w v)) (is_marked m.marks w) (λ e. w4-in w v refl e refl) (λ e. w4-out w v refl e refl)
in-figure m loc (W5 w v) h = w5 w v refl refl
in-figure m loc (W6 w v) h = w6 w v refl refl
in-figure m loc (W7 w) h = w7 w refl refl
in-figure m loc E1 h = pick-case (Line m loc E1) (even loc) (λ e. e1-even refl (even-true loc e) refl) (λ e. e1-odd refl (even-false loc e) refl)
in-figure m loc E2 h = e2 refl refl
in-figure m loc E3 h = e3 refl refl

picked-true : {A : Type 0} (b : Bool) (x y : A) → b ≡ true → x ≡ pick b x y
picked-true true x y h = refl
picked-true false x y h = absurd (true-not-false h refl)

picked-false : {A : Type 0} (b : Bool) (x y : A) → b ≡ false → y ≡ pick b x y
picked-false true x y h = absurd (true-not-false refl h)
picked-false false x y h = refl

-- any outcome that the figure allows is the machine's
pub only-figure : (m : Memory) (loc : ℕ) (p : Phase) (d : Did) → Line m loc p d → d ≡ line_at m loc p
unfolding line_at flush_of
only-figure m loc p d (b1 e q) = q ∙ ap (line_at m loc) (sym e)
only-figure m loc p d (b2-even e h q) = q ∙ picked-true (even loc) _ _ (is-even loc h) ∙ ap (line_at m loc) (sym e)
only-figure m loc p d (b2-odd e h q) = q ∙ picked-false (even loc) _ _ (is_odd loc h) ∙ ap (line_at m loc) (sym e)
only-figure m loc p d (r1 w e q) = q ∙ ap (line_at m loc) (sym e)
only-figure m loc p d (r2-same v e h q) = q ∙ picked-true (eqb m.glb loc) _ _ (eq-eqb _ _ h) ∙ ap (line_at m loc) (sym e)
only-figure m loc p d (r2-other v e h q) = q ∙ picked-false (eqb m.glb loc) _ _ (ne_eqb _ _ h) ∙ ap (line_at m loc) (sym e)
only-figure m loc p d (w1-even w v e h q) = q ∙ picked-true (even loc) _ _ (is-even loc h) ∙ ap (line_at m loc) (sym e)
only-figure m loc p d (w1-odd w v e h q) = q ∙ picked-false (even loc) _ _ (is_odd loc h) ∙ ap (line_at m loc) (sym e)
only-figure m loc p d (w2-same w v e h q) =
    q
    ∙ ap (λ g. did (says 0 0) (memory m.vol m.pers m.old m.marks (g + 1)) (tx loc (W3 w v))) (sym h)
    ∙ picked-true (eqb m.glb loc) _ _ (eq-eqb _ _ h)
    ∙ ap (line_at m loc) (sym e)
only-figure m loc p d (w2-other w v e h q) = q ∙ picked-false (eqb m.glb loc) _ _ (ne_eqb _ _ h) ∙ ap (line_at m loc) (sym e)
only-figure m loc p d (w3 w v e q) = q ∙ ap (line_at m loc) (sym e)
only-figure m loc p d (w4-in w v e h q) = q ∙ picked-true (is_marked m.marks w) _ _ h ∙ ap (line_at m loc) (sym e)
only-figure m loc p d (w4-out w v e h q) = q ∙ picked-false (is_marked m.marks w) _ _ h ∙ ap (line_at m loc) (sym e)
only-figure m loc p d (w5 w v e q) = q ∙ ap (line_at m loc) (sym e)
only-figure m loc p d (w6 w v e q) = q ∙ ap (line_at m loc) (sym e)
only-figure m loc p d (w7 w e q) = q ∙ ap (line_at m loc) (sym e)
only-figure m loc p d (e1-odd e h q) = q ∙ picked-false (even loc) _ _ (is_odd loc h) ∙ ap (line_at m loc) (sym e)
only-figure m loc p d (e1-even e h q) = q ∙ picked-true (even loc) _ _ (is-even loc h) ∙ ap (line_at m loc) (sym e)
only-figure m loc p d (e2 e q) = q ∙ ap (line_at m loc) (sym e)
only-figure m loc p d (e3 e q) = q ∙ ap (line_at m loc) (sym e)

-- ---- recovery

some-marked : (k : List ℕ) (w : ℕ) → is_marked k w ≡ true → count_of k ≡ 0 → ⊥
some-marked k w h c = true-not-false h (none-marked k c w)

pub all-unmarked : (k : List ℕ) → ((w : ℕ) → is_marked k w ≡ false) → count_of k ≡ 0
all-unmarked k h = go (same_or_not (count_of k) 0)
  where
    go : (count_of k ≡ 0) ⊎ (count_of k ≡ 0 → ⊥) → count_of k ≡ 0
    go (inl e) = e
    go (inr f) = absurd (true-not-false (laws.lowest-marked k f) (h (lowest_of k)))

-- a marked word with no marked word below it is the lowest
is-lowest : (k : List ℕ) (w : ℕ) → is_marked k w ≡ true → ((x : ℕ) → x < w → is_marked k x ≡ false) → w ≡ lowest_of k
is-lowest k w h below = go (dec_lt w (lowest_of k)) (dec_lt (lowest_of k) w)
  where
    go : Dec (w < lowest_of k) → Dec (lowest_of k < w) → w ≡ lowest_of k
    go (yes a) d = absurd (true-not-false h (laws.lowest-least k w a))
    go (no a) (yes b) = absurd (true-not-false (laws.lowest-marked k (some-marked k w h)) (below (lowest_of k) b))
    go (no a) (no b) = omega arith

-- recovery is not at C2 with no mark
pub in-figure-recovery : (m : Memory) (r : Recovery) → not_idle r ≡ true → (r ≡ C2 → count_of m.marks ≡ 0 → ⊥) → RecoveryLine m r (recovery_line m r)
unfolding recovery_line flush_of
in-figure-recovery m Idle h some = absurd (true-not-false refl (sym h))
in-figure-recovery m C1 h some =
    pick-case (RecoveryLine m C1) (any_mark m.marks)
    (λ e. c1-some (lowest_of m.marks) refl (laws.lowest-marked m.marks (eqb-false (count_of m.marks) 0 (not-true _ e))) refl)
    (λ e. c1-none refl (none-marked m.marks (eqb-true (count_of m.marks) 0 (not-false _ e))) refl)
in-figure-recovery m C2 h some = c2 (lowest_of m.marks) refl (laws.lowest-marked m.marks (some refl)) (laws.lowest-least m.marks) refl
in-figure-recovery m (C3 w v) h some = c3 w v refl refl
in-figure-recovery m (C4 w v) h some = c4 w v refl refl
in-figure-recovery m (C5 w v) h some = c5 w v refl refl
in-figure-recovery m C6 h some = c6 refl refl

pub only-figure-recovery : (m : Memory) (r : Recovery) (h : RecoveryDid) → RecoveryLine m r h → h ≡ recovery_line m r
unfolding recovery_line flush_of
only-figure-recovery m r h (c1-some w e s q) =
    q ∙ picked-true (any_mark m.marks) _ _ (ap not (ne_eqb _ _ (some-marked m.marks w s))) ∙ ap (recovery_line m) (sym e)
only-figure-recovery m r h (c1-none e s q) =
    q ∙ picked-false (any_mark m.marks) _ _ (ap not (eq-eqb _ _ (all-unmarked m.marks s))) ∙ ap (recovery_line m) (sym e)
only-figure-recovery m r h (c2 w e s below q) =
    q
    ∙ ap (λ x. recovery_did (says 0 0) m (C3 x (get_or m.old x 0))) (is-lowest m.marks w s below)
    ∙ ap (recovery_line m) (sym e)
only-figure-recovery m r h (c3 w v e q) = q ∙ ap (recovery_line m) (sym e)
only-figure-recovery m r h (c4 w v e q) = q ∙ ap (recovery_line m) (sym e)
only-figure-recovery m r h (c5 w v e q) = q ∙ ap (recovery_line m) (sym e)
only-figure-recovery m r h (c6 e q) = q ∙ ap (recovery_line m) (sym e)
