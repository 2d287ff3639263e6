-- A line of the transaction that writes, or is sealed. W5 saves the committed word before W6 overwrites it, W7 flushes it, so at E2 both sides hold what
-- the transaction sees, and clearing the log makes that the committed memory; E3 lets the others in with a count above every loc.
use Prim.Native.Nat.{ℕ, ◌+◌, ◌%◌, ◌<◌}
use native.Mathlib.Nat.{le_refl}
use native.Mathlib.Omega.{arith}
use borrow.Author.Tests.{eqb-false}
use mathlib.Core.Path.{◌≡◌, refl, sym, ap, ◌∙◌}
use mathlib.Core.Bool.{true, false}
use mathlib.Core.Logic.{◌⊎◌, inl, inr, ⊎_elim}
use mathlib.Core.List.{List}
use lib.ListN.{length, get_or, set, length-set}
use lib.Seq.{get_or-set_same, get_or-set_other}
use lib.Dec.{eqb}
use Rattle.bits.specs.Marks.{is_marked, count_of, mark_of, clear_of}
use Rattle.bits.specs.Laws.{room}
use Rattle.bits.proofs.Laws.{laws}
use Rattle.dtml.specs.declared.Tx.{Tx}
use Rattle.dtml.specs.declared.Phase.{Phase}
use Rattle.dtml.specs.declared.Phase.TheVariants.{Fresh, Ready, Committed, Aborted, B1, B2, R1, R2, W1, W2, W3, W4, W5, W6, W7, E1, E2, E3}
use Rattle.dtml.specs.declared.Recovery.{Recovery}
use Rattle.dtml.specs.Store.{Memory, memory, tx}
use Rattle.dtml.specs.Lines.{line_at, even, stage, with_glb, with_marks, word, enter, store_word, flush_word, flush_of}
use Rattle.dtml.specs.Checks.{not_idle, is_at_line}
use Rattle.dtml.specs.History.{Tale, Past, told, last, sees, over, asked_write, closes, enters, writes}
use Rattle.dtml.proofs.Invariant.{Free, Lock, Owner, Dirty, Ender, EachBut, Mode, quiet, writing, sealed, Inv}
use Rattle.dtml.specs.Demands.{overlaid}
use Rattle.dtml.proofs.Words.{same_or_not, true-not-false, pick-case, even-false, is-even, odd-other, over-length, over-sees, sees-same, sees-other}
use Rattle.dtml.proofs.Flush.{flush-copies, flush-length, flush-overlaid, flush-shared}
use Rattle.dtml.proofs.Roles.{set_here, set_own, set-each}
use Rattle.dtml.proofs.FreeLines.{AfterLine, others-move, reshape, in-txs, in-tales, moved}

module _ (n : ℕ) (m : Memory) (r : Recovery) (ts : List Tx) (ks : List Tale) (past : Past) (t : ℕ) (ht : t < 64) (i : not_idle r ≡ false)
    (inv : Inv n m r ts ks (last past)) (odd : even m.glb ≡ false) (others : EachBut t ts ks (Free n m.glb (last past))) where
  -- it goes on writing, in a memory with the same count
  goes_on : (v p o k : List ℕ) (loc : ℕ) (q : Phase) (d : Tale) → Lock n (memory v p o k m.glb) (last past) d
      → Owner n (memory v p o k m.glb) (last past) loc q d → Mode n (memory v p o k m.glb) r (set ts t (tx loc q)) (set ks t d) (last past)
  goes_on v p o k loc q d lock own =
      writing t ht i odd
      (set_here ts ks t (tx loc q) d (λ a b c. Lock n (memory v p o k m.glb) (last past) c × Owner n (memory v p o k m.glb) (last past) a b c)
      (in-txs n m r ts ks past t ht i inv) (in-tales n m r ts ks past t ht i inv) (lock, own))
      (set_own ts ks t (tx loc q) d (Free n m.glb (last past)) others)

  pub stays : (loc : ℕ) (q : Phase) (d : Tale) → Lock n m (last past) d → Owner n m (last past) loc q d → Inv n m r (set ts t (tx loc q)) (set ks t d) (last past)
  stays loc q d lock own = record {
    shape =
        reshape n m r ts ks past t ht i inv m (tx loc q) d inv.shape.vol-long inv.shape.pers-long inv.shape.old-long inv.shape.marks-long;
    durable = inv.durable;
    calm = inv.calm;
    marks-in = inv.marks-in;
    mode = goes_on m.vol m.pers m.old m.marks loc q d lock own;
  }

  in-marks : (w : ℕ) → w < n → w < room m.marks
  in-marks w h = let f = inv.shape.few in let e = inv.shape.marks-long in omega arith

  -- W5: the word's committed value is saved
  entered : (loc w v : ℕ) (k : Tale) → Lock n m (last past) k → Owner n m (last past) loc (W5 w v) k
      → Inv n (enter m w) r (set ts t (tx loc (W6 w v))) (set ks t (enters k)) (last past)
  entered loc w v k lock own = record {
    shape =
        reshape n m r ts ks past t ht i inv (enter m w) (tx loc (W6 w v)) (enters k)
        inv.shape.vol-long
        inv.shape.pers-long
        (length-set m.old w (word m w) ∙ inv.shape.old-long)
        (laws.mark-length m.marks w ∙ inv.shape.marks-long);
    durable = λ x hx. at-word x hx (same_or_not x w);
    calm = λ x hx u. inv.calm x hx (unmarked-before x u);
    marks-in = λ x hx. laws.mark-other m.marks w x (λ e. let z = own.3 in omega arith) ∙ inv.marks-in x hx;
    mode =
        goes_on m.vol m.pers (set m.old w (word m w)) (mark_of m.marks w) loc (W6 w v) (enters k)
        (lock.0, lock.1, more, λ x u. (new x u, lock.3 x (unmarked-before x u)))
        (own.0, own.1, own.2, own.3, laws.mark-same m.marks w (in-marks w own.3));
  }
    where
      more : length (enters k).entered ≡ count_of (mark_of m.marks w)
      more =
          let a = laws.count-mark m.marks w (in-marks w own.3) own.4 in
          let b = lock.2 in
          omega arith

      new : (x : ℕ) → is_marked (mark_of m.marks w) x ≡ false → x ≡ (asked_write k.asked).word → ⊥
      new x u e =
          let here : x ≡ w = e ∙ ap (λ a. (asked_write a).word) own.2 in
          true-not-false (laws.mark-same m.marks w (in-marks w own.3)) (rw here at u)

      unmarked-before : (x : ℕ) → is_marked (mark_of m.marks w) x ≡ false → is_marked m.marks x ≡ false
      unmarked-before x u =
          ⊎_elim
          (λ e. absurd (true-not-false (laws.mark-same m.marks w (in-marks w own.3)) (rw e at u)))
          (λ f. sym (laws.mark-other m.marks w x f) ∙ u)
          (same_or_not x w)

      at-word : (x : ℕ) → x < n → (x ≡ w) ⊎ (x ≡ w → ⊥) → overlaid (enter m w) x ≡ get_or (last past) x 0
      at-word x hx (inl e) =
          let s = laws.mark-same m.marks w (in-marks w own.3) in
          rw (e, s)
          (get_or-set_same m.old w (word m w) 0 (rw inv.shape.old-long own.3)
          ∙ inv.calm w own.3 own.4)
      at-word x hx (inr f) =
          rw (laws.mark-other m.marks w x f, get_or-set_other m.old w x (word m w) 0 f) (inv.durable x hx)

  -- W6: a marked word changes on the volatile side alone
  stored : (loc w v : ℕ) (k : Tale) → Lock n m (last past) k → Owner n m (last past) loc (W6 w v) k
      → Inv n (store_word m w v) r (set ts t (tx loc (W7 w))) (set ks t k) (last past)
  stored loc w v k lock own = record {
    shape =
        reshape n m r ts ks past t ht i inv (store_word m w v) (tx loc (W7 w)) k
        (length-set m.vol w v ∙ inv.shape.vol-long)
        inv.shape.pers-long
        inv.shape.old-long
        inv.shape.marks-long;
    durable = inv.durable;
    calm = λ x hx u. get_or-set_other m.vol w x v 0 (λ e. true-not-false own.4 (rw e at u)) ∙ inv.calm x hx u;
    marks-in = inv.marks-in;
    mode =
        goes_on (set m.vol w v) m.pers m.old m.marks loc (W7 w) k lock (
          own.0,
          own.3,
          own.4,
          (
            v,
            own.2,
            record {
              stored = get_or-set_same m.vol w v 0 (rw inv.shape.vol-long own.3);
              elsewhere = λ x hx f. (
                get_or-set_other m.vol w x v 0 f ∙ (own.1 x hx).0,
                (own.1 x hx).1 ∙ sym (get_or-set_other m.vol w x v 0 f),
              );
            },
          ),
        );
  }

  in-pers : (w : ℕ) → w < n → w < length m.pers
  in-pers w h = rw inv.shape.pers-long h

  -- W7: what the transaction sees stands on both sides again
  flushed : (loc w : ℕ) (k : Tale) → Lock n m (last past) k → Owner n m (last past) loc (W7 w) k
      → Inv n (flush_word m w) r (set ts t (tx loc Ready)) (set ks t (writes k)) (last past)
  flushed loc w k lock own = record {
    shape =
        reshape n m r ts ks past t ht i inv (flush_word m w) (tx loc Ready) (writes k)
        inv.shape.vol-long
        (flush-length m.vol m.pers w ∙ inv.shape.pers-long)
        inv.shape.old-long
        inv.shape.marks-long;
    durable = λ x hx. flush-overlaid m w x (get_or (last past) x 0) (in-pers x hx) (inv.calm x hx) (inv.durable x hx);
    calm = inv.calm;
    marks-in = inv.marks-in;
    mode =
        goes_on m.vol (flush_of m.vol m.pers w) m.old m.marks loc Ready (writes k) lock
        (own.0, λ x hx. at-word x hx (same_or_not x w));
  }
    where
      dirty : Dirty n m (last past) k w own.3.0
      dirty = own.3.2

      at-word : (x : ℕ) → x < n → (x ≡ w) ⊎ (x ≡ w → ⊥)
          → (get_or m.vol x 0 ≡ sees (writes k).wrote (last past) x) × (get_or (flush_of m.vol m.pers w) x 0 ≡ get_or m.vol x 0)
      at-word x hx (inl e) = (
        rw (e, own.3.1) (dirty.stored ∙ sym (sees-same k.wrote (last past) w own.3.0)),
        rw e (flush-copies m.vol m.pers w (in-pers w own.1)),
      )
      at-word x hx (inr f) = (
        rw own.3.1 ((dirty.elsewhere x hx f).0 ∙ sym (sees-other k.wrote (last past) w own.3.0 x f)),
        flush-shared m.vol m.pers w x (in-pers x hx) (dirty.elsewhere x hx f).1,
      )

  -- E2: what it sees is the committed memory
  committed : (loc : ℕ) (k : Tale) → Owner n m (last past) loc E2 k
      → Inv n (with_marks m (clear_of m.marks)) r (set ts t (tx loc E3)) (set ks t (closes k)) (over (last past) k.wrote)
  committed loc k own = record {
    shape = record {
      some = inv.shape.some;
      few = inv.shape.few;
      vol-long = inv.shape.vol-long;
      pers-long = inv.shape.pers-long;
      old-long = inv.shape.old-long;
      marks-long = laws.clear-length m.marks ∙ inv.shape.marks-long;
      last-long = over-length (last past) k.wrote ∙ inv.shape.last-long;
      txs-long = length-set ts t (tx loc E3) ∙ inv.shape.txs-long;
      tales-long = length-set ks t (closes k) ∙ inv.shape.tales-long;
    };
    durable = λ x hx. rw (laws.clear-any m.marks x) ((own.1 x hx).1 ∙ seen x hx);
    calm = λ x hx u. seen x hx;
    marks-in = λ x hx. laws.clear-any m.marks x;
    mode =
        sealed t ht i (laws.count-clear m.marks) odd
        (set_here ts ks t (tx loc E3) (closes k) (Ender m.glb (over (last past) k.wrote))
        (in-txs n m r ts ks past t ht i inv) (in-tales n m r ts ks past t ht i inv) (own.0, refl))
        (set_own ts ks t (tx loc E3) (closes k) (Free n m.glb (over (last past) k.wrote))
        (others-move n m.glb m.glb (last past) (over (last past) k.wrote) ts ks t (le_refl m.glb)
        (λ a ea _. odd-other a m.glb (even-false m.glb odd) ea) others));
  }
    where
      seen : (x : ℕ) → x < n → get_or m.vol x 0 ≡ get_or (over (last past) k.wrote) x 0
      seen x hx = (own.1 x hx).0 ∙ sym (over-sees (last past) k.wrote x (rw inv.shape.last-long hx))

  -- a line of the transaction that writes
  pub owner-line : (loc : ℕ) (p : Phase) (k : Tale) → is_at_line (stage p) ≡ true → Lock n m (last past) k → Owner n m (last past) loc p k
      → AfterLine n r ts ks past t p k (line_at m loc p)
  unfolding line_at told
  owner-line loc Fresh k s lock own = absurd own
  owner-line loc Ready k s lock own = absurd (true-not-false refl (sym s))
  owner-line loc Committed k s lock own = absurd own
  owner-line loc Aborted k s lock own = absurd own
  owner-line loc B1 k s lock own = absurd own
  owner-line loc B2 k s lock own = absurd own
  owner-line loc (R1 w) k s lock own = stays loc (R2 (word m w)) k lock (own.0, own.1, (w, own.2, own.3, (own.1 w own.3).0))
  owner-line loc (R2 v) k s lock own =
      pick-case (AfterLine n r ts ks past t (R2 v) k) (eqb m.glb loc)
      (λ e. stays loc Ready k lock (own.0, own.1))
      (λ e. absurd (eqb-false m.glb loc e (sym own.0)))
  owner-line loc (W1 w v) k s lock own =
      pick-case (AfterLine n r ts ks past t (W1 w v) k) (even loc)
      (λ e. absurd (true-not-false (rw own.0 at e) odd))
      (λ e. stays loc (W4 w v) k lock own)
  owner-line loc (W2 w v) k s lock own = absurd own
  owner-line loc (W3 w v) k s lock own = stays (loc + 1) (W4 w v) k lock own
  owner-line loc (W4 w v) k s lock own =
      pick-case (AfterLine n r ts ks past t (W4 w v) k) (is_marked m.marks w)
      (λ e. stays loc (W6 w v) k lock (own.0, own.1, own.2, own.3, e))
      (λ e. stays loc (W5 w v) k lock (own.0, own.1, own.2, own.3, e))
  owner-line loc (W5 w v) k s lock own = entered loc w v k lock own
  owner-line loc (W6 w v) k s lock own = stored loc w v k lock own
  owner-line loc (W7 w) k s lock own = flushed loc w k lock own
  owner-line loc E1 k s lock own =
      pick-case (AfterLine n r ts ks past t E1 k) (even loc)
      (λ e. absurd (true-not-false (rw own.0 at e) odd))
      (λ e. stays loc E2 k lock own)
  owner-line loc E2 k s lock own = committed loc k own
  owner-line loc E3 k s lock own = absurd own

  -- E3: the count passes every loc
  ended : (loc : ℕ) (k : Tale) → count_of m.marks ≡ 0 → Ender m.glb (last past) loc E3 k
      → Inv n (with_glb m (loc + 1)) r (set ts t (tx loc Committed)) (set ks t (closes k)) (last past)
  ended loc k c end =
      let o : m.glb % 2 ≡ 1 = even-false m.glb odd in
      let q : loc ≡ m.glb = end.0 in
      moved n m r ts ks past t ht i inv (loc + 1) (tx loc Committed) (closes k)
      (quiet i c (is-even (loc + 1) (omega arith))
      (set-each ts ks t (tx loc Committed) (closes k) (Free n (loc + 1) (last past))
      (in-txs n m r ts ks past t ht i inv) (in-tales n m r ts ks past t ht i inv) refl
      (others-move n m.glb (loc + 1) (last past) (last past) ts ks t (omega arith) (λ a _ la qa. omega arith) others)))

  -- a line of the transaction that is sealed
  pub ender-line : (loc : ℕ) (p : Phase) (k : Tale) → count_of m.marks ≡ 0 → Ender m.glb (last past) loc p k
      → AfterLine n r ts ks past t p k (line_at m loc p)
  unfolding line_at told
  ender-line loc Fresh k c end = absurd end
  ender-line loc Ready k c end = absurd end
  ender-line loc Committed k c end = absurd end
  ender-line loc Aborted k c end = absurd end
  ender-line loc B1 k c end = absurd end
  ender-line loc B2 k c end = absurd end
  ender-line loc (R1 w) k c end = absurd end
  ender-line loc (R2 v) k c end = absurd end
  ender-line loc (W1 w v) k c end = absurd end
  ender-line loc (W2 w v) k c end = absurd end
  ender-line loc (W3 w v) k c end = absurd end
  ender-line loc (W4 w v) k c end = absurd end
  ender-line loc (W5 w v) k c end = absurd end
  ender-line loc (W6 w v) k c end = absurd end
  ender-line loc (W7 w) k c end = absurd end
  ender-line loc E1 k c end = absurd end
  ender-line loc E2 k c end = absurd end
  ender-line loc E3 k c end = ended loc k c end
