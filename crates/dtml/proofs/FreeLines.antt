-- A line of a transaction that holds no lock moves its own record alone, but for a W2 that takes the lock: there the count turns odd,
-- and no other transaction's loc, which is even, is the count any more.
use Prim.Native.Nat.{ℕ, ◌+◌, ◌%◌, ◌≤◌, ◌<◌}
use native.Mathlib.Nat.{le_refl}
use native.Mathlib.Omega.{arith}
use borrow.Author.Tests.{eqb-true}
use mathlib.Core.Path.{◌≡◌, refl, sym, ap, subst, ◌∙◌}
use mathlib.Core.Bool.{true, false}
use mathlib.Core.List.{List}
use lib.ListN.{length, set, length-set}
use lib.Dec.{eqb}
use Rattle.bits.specs.Marks.{is_marked, count_of}
use Rattle.dtml.specs.declared.Tx.{Tx}
use Rattle.dtml.specs.declared.Phase.{Phase}
use Rattle.dtml.specs.declared.Phase.TheVariants.{Fresh, Ready, Committed, Aborted, B1, B2, R1, R2, W1, W2, W3, W4, W5, W6, W7, E1, E2, E3}
use Rattle.dtml.specs.declared.Recovery.{Recovery}
use Rattle.dtml.specs.Store.{Memory, record_at, tx}
use Rattle.dtml.specs.Asked.{write, Did}
use Rattle.dtml.specs.Lines.{line_at, even, stage, with_glb, word}
use Rattle.dtml.specs.Checks.{not_idle, is_at_line}
use Rattle.dtml.specs.History.{Tale, Past, told, last, last_of, later_after, tale_at, sees, starts, closes}
use Rattle.dtml.specs.Demands.{OutOf}
use Rattle.dtml.proofs.Invariant.{Agree, Free, Plain, Lock, Owner, Each, EachBut, Mode, writing, Shape, Inv}
use Rattle.dtml.proofs.Words.{true-not-false, pick-case, even-true, is_odd, odd-other, none-marked}
use Rattle.dtml.proofs.Roles.{set_here, set_own}

-- a free transaction stays free while the count rises, if the new count is not its loc, whatever becomes of the committed memory
pub free_move : (n g g' : ℕ) (l l' : List ℕ) (loc : ℕ) (p : Phase) (k : Tale) → g ≤ g' → (even loc ≡ true → loc ≤ g → loc ≡ g' → ⊥)
    → Free n g l loc p k → Free n g' l' loc p k
free_move n g g' l l' loc Fresh k up f h = h
free_move n g g' l l' loc Committed k up f h = h
free_move n g g' l l' loc Aborted k up f h = h
free_move n g g' l l' loc B1 k up f h = h
free_move n g g' l l' loc B2 k up f h = (h.0, omega (arith, h.1), λ e q. absurd (f e h.1 q))
free_move n g g' l l' loc Ready k up f h = (h.0, (h.1.0, omega (arith, h.1.1), λ q. absurd (f h.1.0 h.1.1 q)))
free_move n g g' l l' loc (R1 w) k up f h = (h.0, (h.1.0, omega (arith, h.1.1), λ q. absurd (f h.1.0 h.1.1 q)), h.2, h.3)
free_move n g g' l l' loc (R2 v) k up f h =
    (h.0, (h.1.0, omega (arith, h.1.1), λ q. absurd (f h.1.0 h.1.1 q)), (h.2.0, h.2.1, h.2.2, λ q. absurd (f h.1.0 h.1.1 q)))
free_move n g g' l l' loc (W1 w v) k up f h = (h.0, (h.1.0, omega (arith, h.1.1), λ q. absurd (f h.1.0 h.1.1 q)), h.2, h.3)
free_move n g g' l l' loc (W2 w v) k up f h = (h.0, (h.1.0, omega (arith, h.1.1), λ q. absurd (f h.1.0 h.1.1 q)), h.2, h.3)
free_move n g g' l l' loc (W3 w v) k up f h = h
free_move n g g' l l' loc (W4 w v) k up f h = h
free_move n g g' l l' loc (W5 w v) k up f h = h
free_move n g g' l l' loc (W6 w v) k up f h = h
free_move n g g' l l' loc (W7 w) k up f h = h
free_move n g g' l l' loc E1 k up f h = (h.0, (h.1.0, omega (arith, h.1.1), λ q. absurd (f h.1.0 h.1.1 q)))
free_move n g g' l l' loc E2 k up f h = h
free_move n g g' l l' loc E3 k up f h = h

-- and so do all but one
pub others-move : (n g g' : ℕ) (l l' : List ℕ) (ts : List Tx) (ks : List Tale) (o : ℕ) → g ≤ g' → ((a : ℕ) → even a ≡ true → a ≤ g → a ≡ g' → ⊥)
    → EachBut o ts ks (Free n g l) → EachBut o ts ks (Free n g' l')
others-move n g g' l l' ts ks o up f all u hu fu =
    free_move n g g' l l' (record_at ts u).loc (record_at ts u).phase (tale_at ks u) up (f (record_at ts u).loc) (all u hu fu)

-- what is to be shown of a line of transaction t that did D
abbrev pub AfterLine : ℕ → Recovery → List Tx → List Tale → Past → ℕ → Phase → Tale → Did → Type 0
AfterLine n r ts ks past t p k d =
    Inv n d.mem r (set ts t d.tx) (set ks t (told (last past) p d.reply k)) (last_of past.first (later_after past p k))

module _ (n : ℕ) (m : Memory) (r : Recovery) (ts : List Tx) (ks : List Tale) (past : Past) (t : ℕ) (ht : t < 64) (i : not_idle r ≡ false)
    (inv : Inv n m r ts ks (last past)) where
  -- the rows of the memory keep their lengths, and one record and its tale are set
  pub reshape : (m' : Memory) (x : Tx) (k : Tale) → length m'.vol ≡ n → length m'.pers ≡ n → length m'.old ≡ n → length m'.marks ≡ 4
      → Shape n m' (set ts t x) (set ks t k) (last past)
  reshape m' x k a b c d = record {
    some = inv.shape.some;
    few = inv.shape.few;
    vol-long = a;
    pers-long = b;
    old-long = c;
    marks-long = d;
    last-long = inv.shape.last-long;
    txs-long = length-set ts t x ∙ inv.shape.txs-long;
    tales-long = length-set ks t k ∙ inv.shape.tales-long;
  }

  pub in-txs : t < length ts
  in-txs = rw inv.shape.txs-long ht

  pub in-tales : t < length ks
  in-tales = rw inv.shape.tales-long ht

  -- but for the count, the memory stays
  pub moved : (g : ℕ) (x : Tx) (k : Tale) → Mode n (with_glb m g) r (set ts t x) (set ks t k) (last past)
      → Inv n (with_glb m g) r (set ts t x) (set ks t k) (last past)
  moved g x k mode = record {
    shape = reshape (with_glb m g) x k inv.shape.vol-long inv.shape.pers-long inv.shape.old-long inv.shape.marks-long;
    durable = inv.durable;
    calm = inv.calm;
    marks-in = inv.marks-in;
    mode = mode;
  }

  -- with no mark both sides hold the committed memory
  pub unlogged-vol : count_of m.marks ≡ 0 → Agree n m.vol (last past)
  unlogged-vol c w h = inv.calm w h (none-marked m.marks c w)

  pub unlogged-pers : count_of m.marks ≡ 0 → Agree n m.pers (last past)
  unlogged-pers c w h =
      let u : is_marked m.marks w ≡ false = none-marked m.marks c w in
      rw u at (inv.durable w h)

  -- W2 takes the lock
  locked : (loc w v : ℕ) (k : Tale) → loc ≡ m.glb → even loc ≡ true → count_of m.marks ≡ 0 → Each ts ks (Free n m.glb (last past))
      → Plain k → Agree n k.start (last past) → k.asked ≡ write w v → w < n
      → Inv n (with_glb m (m.glb + 1)) r (set ts t (tx loc (W3 w v))) (set ks t k) (last past)
  unfolding sees
  locked loc w v k e ev c all pl ag ask hw =
      let o : m.glb % 2 ≡ 0 = rw e at (even-true loc ev) in
      moved (m.glb + 1) (tx loc (W3 w v)) k
      (writing t ht i (is_odd (m.glb + 1) (omega arith))
      (set_here ts ks t (tx loc (W3 w v)) k
      (λ a b d. Lock n (with_glb m (m.glb + 1)) (last past) d × Owner n (with_glb m (m.glb + 1)) (last past) a b d)
      in-txs in-tales (
        (pl.0, ag, ap length pl.2 ∙ sym c, λ x u. subst (λ xs. OutOf xs x) (sym pl.2) tt),
        (
          ap (λ (x : ℕ). x + 1) e,
          (λ x hx. (unlogged-vol c x hx ∙ sym (ap (λ xs. sees xs (last past) x) pl.1), unlogged-pers c x hx ∙ sym (unlogged-vol c x hx))),
          ask,
          hw,
        ),
      ))
      (set_own ts ks t (tx loc (W3 w v)) k (Free n (m.glb + 1) (last past))
      (others-move n m.glb (m.glb + 1) (last past) (last past) ts ks t (omega arith) (λ a ea _. odd-other a (m.glb + 1) (omega arith) ea) (λ u hu _. all u hu))))

  -- a line of a free transaction
  pub free-line : (loc : ℕ) (p : Phase) (k : Tale) → is_at_line (stage p) ≡ true → Free n m.glb (last past) loc p k
      → ((loc : ℕ) (p : Phase) (k : Tale) → Free n m.glb (last past) loc p k → Mode n m r (set ts t (tx loc p)) (set ks t k) (last past))
      → (even m.glb ≡ true → (count_of m.marks ≡ 0) × Each ts ks (Free n m.glb (last past)))
      → AfterLine n r ts ks past t p k (line_at m loc p)
  unfolding line_at told
  free-line loc Fresh k s h put nobody = absurd (true-not-false refl (sym s))
  free-line loc Ready k s h put nobody = absurd (true-not-false refl (sym s))
  free-line loc Committed k s h put nobody = absurd (true-not-false refl (sym s))
  free-line loc Aborted k s h put nobody = absurd (true-not-false refl (sym s))
  free-line loc B1 k s h put nobody = moved _ _ _ (put m.glb B2 (starts k (last past)) (h, le_refl _, λ _ _ w hw. refl))
  free-line loc B2 k s h put nobody =
      pick-case (AfterLine n r ts ks past t B2 k) (even loc)
      (λ e. moved _ _ _ (put loc Ready k (h.0, (e, h.1, h.2 e))))
      (λ e. moved _ _ _ (put loc B1 k h.0))
  free-line loc (R1 w) k s h put nobody =
      moved _ _ _ (put loc (R2 (word m w)) k
      (h.0, h.1, (w, h.2, h.3, λ q. unlogged-vol (nobody (rw q at h.1.0)).0 w h.3)))
  free-line loc (R2 v) k s h put nobody =
      pick-case (AfterLine n r ts ks past t (R2 v) k) (eqb m.glb loc)
      (λ e. moved _ _ _ (put loc Ready k (h.0, h.1)))
      (λ e. moved _ _ _ (put loc Aborted (closes k) refl))
  free-line loc (W1 w v) k s h put nobody =
      pick-case (AfterLine n r ts ks past t (W1 w v) k) (even loc)
      (λ e. moved _ _ _ (put loc (W2 w v) k h))
      (λ e. absurd (true-not-false h.1.0 e))
  free-line loc (W2 w v) k s h put nobody =
      pick-case (AfterLine n r ts ks past t (W2 w v) k) (eqb m.glb loc)
      (λ e. let q : loc ≡ m.glb = sym (eqb-true m.glb loc e) in
      let none = nobody (rw q at h.1.0) in
      locked loc w v k q h.1.0 none.0 none.1 h.0 (h.1.2 q) h.2 h.3)
      (λ e. moved _ _ _ (put loc Aborted (closes k) refl))
  free-line loc (W3 w v) k s h put nobody = absurd h
  free-line loc (W4 w v) k s h put nobody = absurd h
  free-line loc (W5 w v) k s h put nobody = absurd h
  free-line loc (W6 w v) k s h put nobody = absurd h
  free-line loc (W7 w) k s h put nobody = absurd h
  free-line loc E1 k s h put nobody =
      pick-case (AfterLine n r ts ks past t E1 k) (even loc)
      (λ e. moved _ _ _ (put loc Committed (closes k) refl))
      (λ e. absurd (true-not-false h.1.0 e))
  free-line loc E2 k s h put nobody = absurd h
  free-line loc E3 k s h put nobody = absurd h
