-- A flush, a crash and the lines of recovery. An unmarked word is committed on both sides, so a flush and a crash leave what the log overlays;
-- recovery unmarks a word only after its committed value stands on both sides.
use Prim.Native.Nat.{ℕ, ◌≤◌, ◌<◌}
use native.Mathlib.Omega.{arith}
use native.Mathlib.Decide.{dec_lt}
use borrow.Author.Tests.{eqb-true, eqb-false, not-true, not-false}
use mathlib.Core.Path.{◌≡◌, refl, sym, ap, ◌∙◌}
use mathlib.Core.Bool.{true, false}
use mathlib.Core.Logic.{◌⊎◌, inl, inr}
use mathlib.Core.List.{List, map}
use lib.ListN.{length, get_or, length-set, length-map, get_or-map}
use lib.Seq.{get_or-set_same, get_or-set_other}
use Rattle.bits.specs.Marks.{is_marked, count_of, unmark_of, lowest_of}
use Rattle.bits.proofs.Laws.{laws}
use Rattle.dtml.specs.declared.Tx.{Tx}
use Rattle.dtml.specs.declared.Phase.{Phase}
use Rattle.dtml.specs.declared.Phase.TheVariants.{Fresh, Ready, Committed, Aborted, B1, B2, R1, R2, W1, W2, W3, W4, W5, W6, W7, E1, E2, E3}
use Rattle.dtml.specs.declared.Recovery.{Recovery}
use Rattle.dtml.specs.declared.Recovery.TheVariants.{Idle, C1, C2, C3, C4, C5, C6}
use Rattle.dtml.specs.Table.{Reply}
use Rattle.dtml.specs.Store.{Memory, record_at, tx}
use Rattle.dtml.specs.Asked.{RecoveryDid}
use Rattle.dtml.specs.Lines.{recovery_line, stage, is_live, with_glb, with_marks, store_word, flush_word, crash_memory, crash_phase, crash_tx, crash_txs, any_mark}
use Rattle.dtml.specs.Checks.{not_idle}
use Rattle.dtml.specs.Calls.{up_to}
use Rattle.dtml.specs.History.{Tale, tale_at, closes, untold}
use Rattle.dtml.proofs.Invariant.{Free, Owner, Clean, Dirty, Chosen, Recovers, Still, Each, Mode, quiet, writing, sealed, recovering, Shape, Inv}
use Rattle.dtml.specs.Demands.{overlaid}
use Rattle.dtml.proofs.Words.{same_or_not, true-not-false, pick-case}
use Rattle.dtml.proofs.Fit.{up-to-keeps}
use Rattle.dtml.proofs.Flush.{flush-copies, flush-length, flush-overlaid, flush-shared}

-- ---- facts that a mode states, after a flush

module _ (n : ℕ) (m : Memory) (l : List ℕ) (w : ℕ) (long : length m.pers ≡ n) where
  flush-clean : (k : Tale) → Clean n m l k → Clean n (flush_word m w) l k
  flush-clean k c x hx = ((c x hx).0, flush-shared m.vol m.pers w x (rw long hx) (c x hx).1)

  flush-owner : (loc : ℕ) (p : Phase) (k : Tale) → Owner n m l loc p k → Owner n (flush_word m w) l loc p k
  flush-owner loc Fresh k h = h
  flush-owner loc Committed k h = h
  flush-owner loc Aborted k h = h
  flush-owner loc B1 k h = h
  flush-owner loc B2 k h = h
  flush-owner loc Ready k h = (h.0, flush-clean k h.1)
  flush-owner loc (R1 x) k h = (h.0, flush-clean k h.1, h.2, h.3)
  flush-owner loc (R2 v) k h = (h.0, flush-clean k h.1, h.2)
  flush-owner loc (W1 x v) k h = (h.0, flush-clean k h.1, h.2, h.3)
  flush-owner loc (W2 x v) k h = h
  flush-owner loc (W3 x v) k h = (h.0, flush-clean k h.1, h.2, h.3)
  flush-owner loc (W4 x v) k h = (h.0, flush-clean k h.1, h.2, h.3)
  flush-owner loc (W5 x v) k h = (h.0, flush-clean k h.1, h.2, h.3, h.4)
  flush-owner loc (W6 x v) k h = (h.0, flush-clean k h.1, h.2, h.3, h.4)
  flush-owner loc (W7 x) k h =
      let d : Dirty n m l k x h.3.0 = h.3.2 in (
        h.0,
        h.1,
        h.2,
        (
          h.3.0,
          h.3.1,
          record {
            stored = d.stored;
            elsewhere = λ y hy f. ((d.elsewhere y hy f).0, flush-shared m.vol m.pers w y (rw long hy) (d.elsewhere y hy f).1);
          },
        ),
      )
  flush-owner loc E1 k h = (h.0, flush-clean k h.1)
  flush-owner loc E2 k h = (h.0, flush-clean k h.1)
  flush-owner loc E3 k h = h

  flush-recovers : (r : Recovery) → Recovers n m l r → Recovers n (flush_word m w) l r
  flush-recovers Idle h = h
  flush-recovers C1 h = h
  flush-recovers C2 h = h
  flush-recovers (C3 x v) h = h
  flush-recovers (C4 x v) h = h
  flush-recovers (C5 x v) h =
      (h.0, h.1, flush-shared m.vol m.pers w x (rw long h.0.0) (h.2 ∙ sym h.1) ∙ h.1)
  flush-recovers C6 h = h

  flush-mode : (r : Recovery) (ts : List Tx) (ks : List Tale) → Mode n m r ts ks l → Mode n (flush_word m w) r ts ks l
  flush-mode r ts ks (quiet i c e all) = quiet i c e all
  flush-mode r ts ks (writing o ho i e own others) =
      writing o ho i e (own.0, flush-owner (record_at ts o).loc (record_at ts o).phase (tale_at ks o) own.1) others
  flush-mode r ts ks (sealed o ho i c e end others) = sealed o ho i c e end others
  flush-mode r ts ks (recovering i h all) = recovering i (flush-recovers r h) all

-- ---- after a crash or recovery the records have no line

still-crashed : (p : Phase) (k : Tale) → Still (crash_phase p) (closes k)
still-crashed p k = (pick-case (λ q. is_live (stage q) ≡ false) (is_live (stage p)) {x = Aborted} {y = p} (λ _. refl) (λ e. e), refl)

pub still-free : (n g : ℕ) (l : List ℕ) (loc : ℕ) (p : Phase) (k : Tale) → Still p k → Free n g l loc p k
still-free n g l loc Fresh k h = h.1
still-free n g l loc Committed k h = h.1
still-free n g l loc Aborted k h = h.1
still-free n g l loc Ready k h = absurd (true-not-false refl h.0)
still-free n g l loc B1 k h = absurd (true-not-false refl h.0)
still-free n g l loc B2 k h = absurd (true-not-false refl h.0)
still-free n g l loc (R1 w) k h = absurd (true-not-false refl h.0)
still-free n g l loc (R2 v) k h = absurd (true-not-false refl h.0)
still-free n g l loc (W1 w v) k h = absurd (true-not-false refl h.0)
still-free n g l loc (W2 w v) k h = absurd (true-not-false refl h.0)
still-free n g l loc (W3 w v) k h = absurd (true-not-false refl h.0)
still-free n g l loc (W4 w v) k h = absurd (true-not-false refl h.0)
still-free n g l loc (W5 w v) k h = absurd (true-not-false refl h.0)
still-free n g l loc (W6 w v) k h = absurd (true-not-false refl h.0)
still-free n g l loc (W7 w) k h = absurd (true-not-false refl h.0)
still-free n g l loc E1 k h = absurd (true-not-false refl h.0)
still-free n g l loc E2 k h = absurd (true-not-false refl h.0)
still-free n g l loc E3 k h = absurd (true-not-false refl h.0)

-- ---- the calls

module _ (n : ℕ) (ts : List Tx) (ks : List Tale) (l : List ℕ) where
  reshaped : (m m' : Memory) → Shape n m ts ks l → length m'.vol ≡ n → length m'.pers ≡ n → length m'.marks ≡ 4 → m'.old ≡ m.old
      → Shape n m' ts ks l
  reshaped m m' sh a b d c = record {
    some = sh.some;
    few = sh.few;
    vol-long = a;
    pers-long = b;
    old-long = ap length c ∙ sh.old-long;
    marks-long = d;
    last-long = sh.last-long;
    txs-long = sh.txs-long;
    tales-long = sh.tales-long;
  }

  pub flush-inv : (m : Memory) (r : Recovery) (w : ℕ) → Inv n m r ts ks l → Inv n (flush_word m w) r ts ks l
  flush-inv m r w inv = record {
    shape =
        reshaped m (flush_word m w) inv.shape inv.shape.vol-long (flush-length m.vol m.pers w ∙ inv.shape.pers-long) inv.shape.marks-long refl;
    durable = λ x hx. flush-overlaid m w x (get_or l x 0) (rw inv.shape.pers-long hx) (inv.calm x hx) (inv.durable x hx);
    calm = inv.calm;
    marks-in = inv.marks-in;
    mode = flush-mode n m l w inv.shape.pers-long r ts ks inv.mode;
  }

  pub crash-inv : (m : Memory) (r : Recovery) → Inv n m r ts ks l → Inv n (crash_memory m) C1 (crash_txs ts) (map closes ks) l
  unfolding crash_txs
  crash-inv m r inv = record {
    shape = record {
      some = inv.shape.some;
      few = inv.shape.few;
      vol-long = inv.shape.pers-long;
      pers-long = inv.shape.pers-long;
      old-long = inv.shape.old-long;
      marks-long = inv.shape.marks-long;
      last-long = inv.shape.last-long;
      txs-long = length-map ts crash_tx ∙ inv.shape.txs-long;
      tales-long = length-map ks closes ∙ inv.shape.tales-long;
    };
    durable = inv.durable;
    calm = λ x hx u. rw u at (inv.durable x hx);
    marks-in = inv.marks-in;
    mode =
        recovering refl tt (λ t ht. rw (get_or-map crash_tx ts t (tx 0 Fresh), get_or-map closes ks t untold)
        (still-crashed (record_at ts t).phase (tale_at ks t)));
  }

  -- a recovery line, where recovery is not idle
  module _ (m : Memory) where
    pub in-recovery : (r : Recovery) → not_idle r ≡ true → Inv n m r ts ks l → Recovers n m l r × Each ts ks (λ _. Still)
    in-recovery r a inv = go inv.mode
      where
        go : Mode n m r ts ks l → Recovers n m l r × Each ts ks (λ _. Still)
        go (quiet i c e all) = absurd (true-not-false a i)
        go (writing o ho i e own others) = absurd (true-not-false a i)
        go (sealed o ho i c e end others) = absurd (true-not-false a i)
        go (recovering i h all) = (h, all)

    -- only recovery moves
    recovering-on : (r r' : Recovery) → not_idle r ≡ true → not_idle r' ≡ true → Inv n m r ts ks l → Recovers n m l r' → Inv n m r' ts ks l
    recovering-on r r' a b inv h = record {
      shape = inv.shape;
      durable = inv.durable;
      calm = inv.calm;
      marks-in = inv.marks-in;
      mode = recovering b h (in-recovery r a inv).1;
    }

    chosen : (r : Recovery) → Inv n m r ts ks l → (count_of m.marks ≡ 0 → ⊥) → Chosen n m l (lowest_of m.marks) (get_or m.old (lowest_of m.marks) 0)
    chosen r inv c = (here, laws.lowest-marked m.marks c, rw (laws.lowest-marked m.marks c) at (inv.durable (lowest_of m.marks) here))
      where
        here : lowest_of m.marks < n
        here = go (dec_lt (lowest_of m.marks) n)
          where
            go : Dec (lowest_of m.marks < n) → lowest_of m.marks < n
            go (yes h) = h
            go (no f) = absurd (true-not-false (laws.lowest-marked m.marks c) (inv.marks-in (lowest_of m.marks) (omega arith)))

    unmarked : (w v : ℕ) → Inv n m (C5 w v) ts ks l → Inv n (with_marks m (unmark_of m.marks w)) C1 ts ks l
    unmarked w v inv = record {
      shape =
          reshaped m (with_marks m (unmark_of m.marks w)) inv.shape inv.shape.vol-long inv.shape.pers-long
          (laws.unmark-length m.marks w ∙ inv.shape.marks-long) refl;
      durable = λ x hx. overlay x hx (same_or_not x w);
      calm = λ x hx. volatile x hx (same_or_not x w);
      marks-in = λ x hx. past x hx (same_or_not x w);
      mode = recovering refl tt (in-recovery (C5 w v) refl inv).1;
    }
      where
        held : Recovers n m l (C5 w v)
        held = (in-recovery (C5 w v) refl inv).0

        overlay : (x : ℕ) → x < n → (x ≡ w) ⊎ (x ≡ w → ⊥) → overlaid (with_marks m (unmark_of m.marks w)) x ≡ get_or l x 0
        overlay x hx (inl e) = rw (e, laws.unmark-same m.marks w) (held.2 ∙ held.0.2)
        overlay x hx (inr f) = rw (laws.unmark-other m.marks w x f) (inv.durable x hx)

        volatile : (x : ℕ) → x < n → (x ≡ w) ⊎ (x ≡ w → ⊥) → is_marked (unmark_of m.marks w) x ≡ false → get_or m.vol x 0 ≡ get_or l x 0
        volatile x hx (inl e) u = rw e (held.1 ∙ held.0.2)
        volatile x hx (inr f) u = inv.calm x hx (sym (laws.unmark-other m.marks w x f) ∙ u)

        past : (x : ℕ) → n ≤ x → (x ≡ w) ⊎ (x ≡ w → ⊥) → is_marked (unmark_of m.marks w) x ≡ false
        past x hx (inl e) = rw e (laws.unmark-same m.marks w)
        past x hx (inr f) = laws.unmark-other m.marks w x f ∙ inv.marks-in x hx

    restored : (w v : ℕ) → Inv n m (C3 w v) ts ks l → Inv n (store_word m w v) (C4 w v) ts ks l
    restored w v inv = record {
      shape =
          reshaped m (store_word m w v) inv.shape (length-set m.vol w v ∙ inv.shape.vol-long) inv.shape.pers-long inv.shape.marks-long refl;
      durable = inv.durable;
      calm = λ x hx u. get_or-set_other m.vol w x v 0 (λ e. true-not-false held.1 (rw e at u)) ∙ inv.calm x hx u;
      marks-in = inv.marks-in;
      mode = recovering refl (held, get_or-set_same m.vol w v 0 (rw inv.shape.vol-long held.0)) (in-recovery (C3 w v) refl inv).1;
    }
      where
        held : Chosen n m l w v
        held = (in-recovery (C3 w v) refl inv).0

    rewritten : (w v : ℕ) → Inv n m (C4 w v) ts ks l → Inv n (flush_word m w) (C5 w v) ts ks l
    rewritten w v inv = record {
      shape = next.shape;
      durable = next.durable;
      calm = next.calm;
      marks-in = next.marks-in;
      mode =
          recovering refl
          (held.0, held.1, flush-copies m.vol m.pers w (rw inv.shape.pers-long held.0.0) ∙ held.1)
          (in-recovery (C4 w v) refl inv).1;
    }
      where
        held : Recovers n m l (C4 w v)
        held = (in-recovery (C4 w v) refl inv).0

        next : Inv n (flush_word m w) (C4 w v) ts ks l
        next = flush-inv m (C4 w v) w inv

    recovered-all : Inv n m C6 ts ks l → Inv n (with_glb m 0) Idle ts ks l
    recovered-all inv = record {
      shape = reshaped m (with_glb m 0) inv.shape inv.shape.vol-long inv.shape.pers-long inv.shape.marks-long refl;
      durable = inv.durable;
      calm = inv.calm;
      marks-in = inv.marks-in;
      mode =
          quiet refl (in-recovery C6 refl inv).0 refl
          (λ t ht. still-free n 0 l (record_at ts t).loc (record_at ts t).phase (tale_at ks t) ((in-recovery C6 refl inv).1 t ht));
    }

    pub recovery-inv : (r : Recovery) → Inv n m r ts ks l → Inv n (recovery_line m r).mem (recovery_line m r).rec ts ks l
    unfolding recovery_line
    recovery-inv Idle inv = inv
    recovery-inv C1 inv =
        pick-case (λ (h : RecoveryDid). Inv n h.mem h.rec ts ks l) (any_mark m.marks)
        (λ e. recovering-on C1 C2 refl refl inv (eqb-false (count_of m.marks) 0 (not-true _ e)))
        (λ e. recovering-on C1 C6 refl refl inv (eqb-true (count_of m.marks) 0 (not-false _ e)))
    recovery-inv C2 inv = recovering-on C2 (C3 _ _) refl refl inv (chosen C2 inv (in-recovery C2 refl inv).0)
    recovery-inv (C3 w v) inv = restored w v inv
    recovery-inv (C4 w v) inv = rewritten w v inv
    recovery-inv (C5 w v) inv = unmarked w v inv
    recovery-inv C6 inv = recovered-all inv

  pub up_to-inv : (b : ℕ) (a : Reply) (m : Memory) (r : Recovery) → Inv n m r ts ks l → Inv n (up_to b a m r).mem (up_to b a m r).rec ts ks l
  up_to-inv b a m r inv = up-to-keeps (λ _ m r. Inv n m r ts ks l) (λ _ m r h. recovery-inv m r h) b a m r inv
