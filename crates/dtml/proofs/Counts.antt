-- What a call adds to the counts of demand 3. At most one live transaction has entered words, and then its words are the log's: so what a crash cuts
-- off is the log as it finds it, or nothing if recovery was under way.
use Prim.Native.Nat.{ℕ, zero, suc, ◌+◌, ◌<◌}
use native.Mathlib.Omega.{arith}
use mathlib.Core.Path.{◌≡◌, refl, ap, ◌∙◌}
use mathlib.Core.Bool.{false}
use mathlib.Core.List.{List, [], ◌∷◌}
use lib.ListN.{length}
use lib.Dec.{leb}
use Rattle.bits.specs.Marks.{pick, count_of}
use Rattle.dtml.specs.declared.Phase.{Phase}
use Rattle.dtml.specs.declared.Phase.TheVariants.{Fresh, Ready, Committed, Aborted, B1, B2, R1, R2, W1, W2, W3, W4, W5, W6, W7, E1, E2, E3}
use Rattle.dtml.specs.declared.Recovery.{Recovery}
use Rattle.dtml.specs.Table.{Reply}
use Rattle.dtml.specs.Store.{record_at}
use Rattle.dtml.specs.Asked.{Ask, begin, read, write, commit, step, flush, crash, recover, recover_up_to, Call, on, sys, stands_at}
use Rattle.dtml.specs.Checks.{unfit, not_idle}
use Rattle.dtml.specs.Calls.{system, act, call}
use Rattle.dtml.specs.Counting.{crashes_in, lines_in, cut_in}
use Rattle.dtml.specs.History.{Tale, Past, tale_at, last, live_words, noted, World, tell}
use Rattle.dtml.proofs.Invariant.{Free, Over, Plain, Ender, Mode, quiet, writing, sealed, recovering}
use Rattle.dtml.proofs.Words.{pick-case}
use Rattle.dtml.proofs.Worlds.{InvW}
use Rattle.dtml.proofs.Low.{LowW}
use Rattle.dtml.proofs.Fitness.{never-unfit}

-- ---- the words that live transactions have entered

abbrev share : Tale → ℕ
share k = pick k.live (length k.entered) 0

none-live : (ks : List Tale) → ((t : ℕ) → t < length ks → share (tale_at ks t) ≡ 0) → live_words ks ≡ 0
unfolding live_words
none-live [] h = refl
none-live (k ∷ ks) h = rw (h 0 (omega arith), none-live ks (λ t ht. h (suc t) (omega arith)))

one-live : (ks : List Tale) (o : ℕ) → o < length ks → ((t : ℕ) → t < length ks → (t ≡ o → ⊥) → share (tale_at ks t) ≡ 0) → live_words ks ≡ share (tale_at ks o)
unfolding live_words
one-live [] o ho h = absurd (let z : o < 0 = ho in omega arith)
one-live (k ∷ ks) zero ho h =
    let z : live_words ks ≡ 0 = none-live ks (λ t ht. h (suc t) (omega arith) (λ e. omega arith)) in
    omega arith
one-live (k ∷ ks) (suc o) ho h =
    let z : share k ≡ 0 = h 0 (omega arith) (λ e. omega arith) in
    let y : live_words ks ≡ share (tale_at ks o) = one-live ks o (omega arith) (λ t ht d. h (suc t) (omega arith) (λ e. d (omega arith))) in
    omega arith

over-share : (k : Tale) → Over k → share k ≡ 0
over-share k h = rw h

plain-share : (k : Tale) → Plain k → share k ≡ 0
plain-share k h = rw (h.0, h.2)

free-share : (n g : ℕ) (l : List ℕ) (loc : ℕ) (p : Phase) (k : Tale) → Free n g l loc p k → share k ≡ 0
free-share n g l loc Fresh k h = over-share k h
free-share n g l loc Ready k h = plain-share k h.0
free-share n g l loc Committed k h = over-share k h
free-share n g l loc Aborted k h = over-share k h
free-share n g l loc B1 k h = plain-share k h
free-share n g l loc B2 k h = plain-share k h.0
free-share n g l loc (R1 w) k h = plain-share k h.0
free-share n g l loc (R2 v) k h = plain-share k h.0
free-share n g l loc (W1 w v) k h = plain-share k h.0
free-share n g l loc (W2 w v) k h = plain-share k h.0
free-share n g l loc (W3 w v) k h = absurd h
free-share n g l loc (W4 w v) k h = absurd h
free-share n g l loc (W5 w v) k h = absurd h
free-share n g l loc (W6 w v) k h = absurd h
free-share n g l loc (W7 w) k h = absurd h
free-share n g l loc E1 k h = plain-share k h.0
free-share n g l loc E2 k h = absurd h
free-share n g l loc E3 k h = absurd h

ender-share : (g : ℕ) (l : List ℕ) (loc : ℕ) (p : Phase) (k : Tale) → Ender g l loc p k → share k ≡ 0
ender-share g l loc Fresh k h = absurd h
ender-share g l loc Ready k h = absurd h
ender-share g l loc Committed k h = absurd h
ender-share g l loc Aborted k h = absurd h
ender-share g l loc B1 k h = absurd h
ender-share g l loc B2 k h = absurd h
ender-share g l loc (R1 w) k h = absurd h
ender-share g l loc (R2 v) k h = absurd h
ender-share g l loc (W1 w v) k h = absurd h
ender-share g l loc (W2 w v) k h = absurd h
ender-share g l loc (W3 w v) k h = absurd h
ender-share g l loc (W4 w v) k h = absurd h
ender-share g l loc (W5 w v) k h = absurd h
ender-share g l loc (W6 w v) k h = absurd h
ender-share g l loc (W7 w) k h = absurd h
ender-share g l loc E1 k h = absurd h
ender-share g l loc E2 k h = absurd h
ender-share g l loc E3 k h = over-share k h.1

pub entered-words : (n : ℕ) (w : World) → InvW n w → live_words w.past.tales ≡ pick (not_idle w.store.rec) 0 (count_of w.store.mem.marks)
entered-words n w inv = go inv.mode
  where
    ks : List Tale
    ks = w.past.tales

    long : length ks ≡ 64
    long = inv.shape.tales-long

    free : (t : ℕ) → Free n w.store.mem.glb (last w.past) (record_at w.store.txs t).loc (record_at w.store.txs t).phase (tale_at ks t) → share (tale_at ks t) ≡ 0
    free t h = free-share n w.store.mem.glb (last w.past) (record_at w.store.txs t).loc (record_at w.store.txs t).phase (tale_at ks t) h

    go : Mode n w.store.mem w.store.rec w.store.txs ks (last w.past) → live_words ks ≡ pick (not_idle w.store.rec) 0 (count_of w.store.mem.marks)
    go (quiet i e ev all) = rw (i, e) (none-live ks (λ t ht. free t (all t (rw long at ht))))
    go (writing o ho i ev own others) =
        rw i
        (one-live ks o (rw long ho) (λ t ht d. free t (others t (rw long at ht) d))
        ∙ rw own.0.0 own.0.2)
    go (sealed o ho i e ev end others) =
        rw (i, e)
        (one-live ks o (rw long ho) (λ t ht d. free t (others t (rw long at ht) d)) ∙ ender-share w.store.mem.glb (last w.past) (record_at w.store.txs o).loc (record_at w.store.txs o).phase (tale_at ks o) end)
    go (recovering i h all) = rw i (none-live ks (λ t ht. over-share (tale_at ks t) (all t (rw long at ht)).1))

-- ---- what a call adds

-- the three counts of demand 3 after a call
pub record Adds (before after : Past) (c : Call) (r : Recovery) (k : List ℕ) (a : Reply) : Type 0 where
  pub crashes : after.crashes ≡ before.crashes + crashes_in c a
  pub lines : after.lines ≡ before.lines + lines_in c a
  pub cut : after.cut ≡ before.cut + cut_in c r k a

same : (p : Past) (c : Call) (r : Recovery) (k : List ℕ) (a : Reply) → crashes_in c a ≡ 0 → lines_in c a ≡ 0 → cut_in c r k a ≡ 0 → Adds p p c r k a
same p c r k a x y z = record { crashes = omega (arith, x); lines = omega (arith, y); cut = omega (arith, z) }

asked-adds : (p : Past) (l : Phase) (t : ℕ) (q : Ask) (r : Recovery) (k : List ℕ) (a : Reply) → Adds p (noted p l (on t q) a) (on t q) r k a
unfolding noted
asked-adds p l t begin r k a = record { crashes = omega arith; lines = omega arith; cut = omega arith }
asked-adds p l t (read w) r k a = record { crashes = omega arith; lines = omega arith; cut = omega arith }
asked-adds p l t (write w v) r k a = record { crashes = omega arith; lines = omega arith; cut = omega arith }
asked-adds p l t commit r k a = record { crashes = omega arith; lines = omega arith; cut = omega arith }
asked-adds p l t step r k a = record { crashes = omega arith; lines = omega arith; cut = omega arith }

crashes-now : (w : World) → unfit w.store ≡ false → call w.store (sys crash) ≡ act w.store (sys crash)
unfolding call
crashes-now w h = rw h

pub tell-adds : (n : ℕ) (w : World) (c : Call) → InvW n w → LowW w
    → Adds w.past (tell w c).past c w.store.rec w.store.mem.marks (call w.store c).reply
unfolding tell noted act system
tell-adds n w (on t q) inv low =
    pick-case (λ p. Adds w.past p (on t q) w.store.rec w.store.mem.marks a) (leb 9 a.number)
    (λ e. same w.past (on t q) _ _ a refl refl refl)
    (λ e. asked-adds w.past (stands_at w.store (on t q)) t q _ _ a)
  where
    a : Reply
    a = (call w.store (on t q)).reply
tell-adds n w (sys (flush x)) inv low =
    pick-case (λ p. Adds w.past p (sys (flush x)) w.store.rec w.store.mem.marks a) (leb 9 a.number)
    (λ e. same w.past (sys (flush x)) _ _ a refl refl refl)
    (λ e. same w.past (sys (flush x)) _ _ a refl refl refl)
  where
    a : Reply
    a = (call w.store (sys (flush x))).reply
tell-adds n w (sys crash) inv low =
    rw (crashes-now w (never-unfit n w inv low))
    (record { crashes = refl; lines = omega arith; cut = ap (λ x. w.past.cut + x) (entered-words n w inv) })
tell-adds n w (sys recover) inv low =
    pick-case (λ p. Adds w.past p (sys recover) w.store.rec w.store.mem.marks a) (leb 9 a.number)
    (λ e. same w.past (sys recover) _ _ a refl (rw e) refl)
    (λ e. record { crashes = omega arith; lines = rw e; cut = omega arith })
  where
    a : Reply
    a = (call w.store (sys recover)).reply
tell-adds n w (sys (recover_up_to b)) inv low =
    pick-case (λ p. Adds w.past p (sys (recover_up_to b)) w.store.rec w.store.mem.marks a) (leb 9 a.number)
    (λ e. same w.past (sys (recover_up_to b)) _ _ a refl (rw e) refl)
    (λ e. record { crashes = omega arith; lines = rw e; cut = omega arith })
  where
    a : Reply
    a = (call w.store (sys (recover_up_to b))).reply
