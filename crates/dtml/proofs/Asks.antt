-- An invocation moves the record of a fresh or a ready transaction to its first line, and its tale says what was asked.
use Prim.Native.Nat.{ℕ, ◌<◌}
use mathlib.Core.Path.{◌≡◌, refl, subst}
use mathlib.Core.Bool.{true, false}
use mathlib.Core.List.{List}
use lib.ListN.{set}
use Rattle.dtml.specs.declared.Tx.{Tx}
use Rattle.dtml.specs.declared.Phase.{Phase}
use Rattle.dtml.specs.declared.Phase.TheVariants.{Fresh, Ready, Committed, Aborted, B1, B2, R1, R2, W1, W2, W3, W4, W5, W6, W7, E1, E2, E3}
use Rattle.dtml.specs.declared.Recovery.{Recovery}
use Rattle.dtml.specs.Store.{Memory, record_at, tx}
use Rattle.dtml.specs.Lines.{stage}
use Rattle.dtml.specs.Asked.{Ask}
use Rattle.dtml.specs.Checks.{not_idle, is_fresh, is_ready}
use Rattle.dtml.specs.History.{Tale, Past, last, tale_at, starting, asked_for}
use Rattle.dtml.proofs.Invariant.{Free, Plain, Current, Owner, Clean, Ender, Inv}
use Rattle.dtml.proofs.Roles.{Role, free, owner, ender, role}
use Rattle.dtml.proofs.FreeLines.{moved}
use Rattle.dtml.proofs.OwnerLines.{stays}

pub fresh-only : (p : Phase) → is_fresh (stage p) ≡ true → p ≡ Fresh
fresh-only Fresh h = refl
fresh-only Ready h = cc
fresh-only Committed h = cc
fresh-only Aborted h = cc
fresh-only B1 h = cc
fresh-only B2 h = cc
fresh-only (R1 w) h = cc
fresh-only (R2 v) h = cc
fresh-only (W1 w v) h = cc
fresh-only (W2 w v) h = cc
fresh-only (W3 w v) h = cc
fresh-only (W4 w v) h = cc
fresh-only (W5 w v) h = cc
fresh-only (W6 w v) h = cc
fresh-only (W7 w) h = cc
fresh-only E1 h = cc
fresh-only E2 h = cc
fresh-only E3 h = cc

pub ready-only : (p : Phase) → is_ready (stage p) ≡ true → p ≡ Ready
ready-only Fresh h = cc
ready-only Ready h = refl
ready-only Committed h = cc
ready-only Aborted h = cc
ready-only B1 h = cc
ready-only B2 h = cc
ready-only (R1 w) h = cc
ready-only (R2 v) h = cc
ready-only (W1 w v) h = cc
ready-only (W2 w v) h = cc
ready-only (W3 w v) h = cc
ready-only (W4 w v) h = cc
ready-only (W5 w v) h = cc
ready-only (W6 w v) h = cc
ready-only (W7 w) h = cc
ready-only E1 h = cc
ready-only E2 h = cc
ready-only E3 h = cc

module _ (n : ℕ) (m : Memory) (r : Recovery) (ts : List Tx) (ks : List Tale) (past : Past) (t : ℕ) (ht : t < 64) (i : not_idle r ≡ false)
    (inv : Inv n m r ts ks (last past)) where
  pub begun : is_fresh (stage (record_at ts t).phase) ≡ true → Inv n m r (set ts t (tx (record_at ts t).loc B1)) (set ks t starting) (last past)
  begun s = go (fresh-only (record_at ts t).phase s) (role n m r ts ks (last past) t ht inv.shape inv.mode i)
    where
      go : (record_at ts t).phase ≡ Fresh → Role n m r ts ks (last past) t
          → Inv n m r (set ts t (tx (record_at ts t).loc B1)) (set ks t starting) (last past)
      go e (free f) = moved n m r ts ks past t ht i inv m.glb _ _ (f.put (record_at ts t).loc B1 starting (refl, refl, refl))
      go e (owner odd lock own others) =
          absurd (subst (λ p. Owner n m (last past) (record_at ts t).loc p (tale_at ks t)) e own)
      go e (ender c odd end others) =
          absurd (subst (λ p. Ender m.glb (last past) (record_at ts t).loc p (tale_at ks t)) e end)

  -- a ready transaction is asked for a, whose first line is p
  pub asked : (a : Ask) (p : Phase) → is_ready (stage (record_at ts t).phase) ≡ true
      → (Plain (tale_at ks t) → Current n m.glb (last past) (record_at ts t).loc (tale_at ks t)
      → Free n m.glb (last past) (record_at ts t).loc p (asked_for (tale_at ks t) a))
      → ((record_at ts t).loc ≡ m.glb → Clean n m (last past) (tale_at ks t) → Owner n m (last past) (record_at ts t).loc p (asked_for (tale_at ks t) a))
      → Inv n m r (set ts t (tx (record_at ts t).loc p)) (set ks t (asked_for (tale_at ks t) a)) (last past)
  asked a p s as-free as-owner = go (ready-only (record_at ts t).phase s) (role n m r ts ks (last past) t ht inv.shape inv.mode i)
    where
      go : (record_at ts t).phase ≡ Ready → Role n m r ts ks (last past) t
          → Inv n m r (set ts t (tx (record_at ts t).loc p)) (set ks t (asked_for (tale_at ks t) a)) (last past)
      go e (free f) =
          let h : Free n m.glb (last past) (record_at ts t).loc Ready (tale_at ks t) =
          subst (λ q. Free n m.glb (last past) (record_at ts t).loc q (tale_at ks t)) e f.is_free in
          moved n m r ts ks past t ht i inv m.glb _ _ (f.put (record_at ts t).loc p (asked_for (tale_at ks t) a) (as-free h.0 h.1))
      go e (owner odd lock own others) =
          let h : Owner n m (last past) (record_at ts t).loc Ready (tale_at ks t) =
          subst (λ q. Owner n m (last past) (record_at ts t).loc q (tale_at ks t)) e own in
          stays n m r ts ks past t ht i inv odd others (record_at ts t).loc p (asked_for (tale_at ks t) a) lock (as-owner h.0 h.1)
      go e (ender c odd end others) =
          absurd (subst (λ q. Ender m.glb (last past) (record_at ts t).loc q (tale_at ks t)) e end)
