-- While recovery is idle a transaction is free, or it is the one that writes, or the one that is sealed. Each case says what must be shown of its
-- record and tale after a line for the store's mode to hold again; the other transactions are looked at only here.
use Prim.Native.Nat.{ℕ, ◌<◌}
use mathlib.Core.Path.{◌≡◌, sym}
use mathlib.Core.Bool.{true, false}
use mathlib.Core.List.{List}
use mathlib.Core.Logic.{◌⊎◌, inl, inr}
use lib.ListN.{length, set}
use lib.Seq.{get_or-set_same, get_or-set_other}
use Rattle.bits.specs.Marks.{count_of}
use Rattle.dtml.specs.declared.Tx.{Tx}
use Rattle.dtml.specs.declared.Phase.{Phase}
use Rattle.dtml.specs.declared.Phase.TheVariants.{Fresh}
use Rattle.dtml.specs.declared.Recovery.{Recovery}
use Rattle.dtml.specs.Store.{Memory, record_at, tx}
use Rattle.dtml.specs.Lines.{even}
use Rattle.dtml.specs.Checks.{not_idle}
use Rattle.dtml.specs.History.{Tale, tale_at, untold}
use Rattle.dtml.proofs.Invariant.{Free, Owner, Lock, Ender, Each, EachBut, Mode, quiet, writing, sealed, recovering, Shape}
use Rattle.dtml.proofs.Words.{same_or_not, true-not-false}

-- ---- one record and its tale are set

module _ (ts : List Tx) (ks : List Tale) (t : ℕ) (x : Tx) (k : Tale) (P : ℕ → Phase → Tale → Type 0) where
  -- at the transaction itself
  pub set_here : t < length ts → t < length ks → P x.loc x.phase k
      → P (record_at (set ts t x) t).loc (record_at (set ts t x) t).phase (tale_at (set ks t k) t)
  set_here a b h = rw (get_or-set_same ts t x (tx 0 Fresh) a, get_or-set_same ks t k untold b) h

  -- at any other
  pub set_there : (u : ℕ) → (u ≡ t → ⊥) → P (record_at ts u).loc (record_at ts u).phase (tale_at ks u)
      → P (record_at (set ts t x) u).loc (record_at (set ts t x) u).phase (tale_at (set ks t k) u)
  set_there u f h = rw (get_or-set_other ts t u x (tx 0 Fresh) f, get_or-set_other ks t u k untold f) h

  pub set-each : t < length ts → t < length ks → P x.loc x.phase k → EachBut t ts ks P → Each (set ts t x) (set ks t k) P
  set-each a b h others u hu = go (same_or_not u t)
    where
      go : (u ≡ t) ⊎ (u ≡ t → ⊥) → P (record_at (set ts t x) u).loc (record_at (set ts t x) u).phase (tale_at (set ks t k) u)
      go (inl e) = rw e (set_here a b h)
      go (inr f) = set_there u f (others u hu f)

  pub set-each-but : (o : ℕ) → t < length ts → t < length ks → P x.loc x.phase k → EachBut o ts ks P → EachBut o (set ts t x) (set ks t k) P
  set-each-but o a b h others u hu fo = go (same_or_not u t)
    where
      go : (u ≡ t) ⊎ (u ≡ t → ⊥) → P (record_at (set ts t x) u).loc (record_at (set ts t x) u).phase (tale_at (set ks t k) u)
      go (inl e) = rw e (set_here a b h)
      go (inr f) = set_there u f (others u hu fo)

  -- the transaction itself may be left out
  pub set_own : EachBut t ts ks P → EachBut t (set ts t x) (set ks t k) P
  set_own others u hu f = set_there u f (others u hu f)

-- ---- the roles

pub record FreeRole (n : ℕ) (m : Memory) (r : Recovery) (ts : List Tx) (ks : List Tale) (l : List ℕ) (t : ℕ) : Type 0 where
  pub is_free : Free n m.glb l (record_at ts t).loc (record_at ts t).phase (tale_at ks t)
  -- what it does next leaves the mode, if it is still free
  pub put : (loc : ℕ) (p : Phase) (k : Tale) → Free n m.glb l loc p k → Mode n m r (set ts t (tx loc p)) (set ks t k) l
  -- an even count says that nobody writes
  pub nobody : even m.glb ≡ true → (count_of m.marks ≡ 0) × Each ts ks (Free n m.glb l)

pub data Role (n : ℕ) (m : Memory) (r : Recovery) (ts : List Tx) (ks : List Tale) (l : List ℕ) (t : ℕ) : Type 0 where
  free : FreeRole n m r ts ks l t → Role n m r ts ks l t
  owner : even m.glb ≡ false → Lock n m l (tale_at ks t) → Owner n m l (record_at ts t).loc (record_at ts t).phase (tale_at ks t)
      → EachBut t ts ks (Free n m.glb l) → Role n m r ts ks l t
  ender : count_of m.marks ≡ 0 → even m.glb ≡ false → Ender m.glb l (record_at ts t).loc (record_at ts t).phase (tale_at ks t)
      → EachBut t ts ks (Free n m.glb l) → Role n m r ts ks l t

module _ (n : ℕ) (m : Memory) (r : Recovery) (ts : List Tx) (ks : List Tale) (l : List ℕ) (t : ℕ) (ht : t < 64) (sh : Shape n m ts ks l) where
  in-ts : t < length ts
  in-ts = rw sh.txs-long ht

  in-ks : t < length ks
  in-ks = rw sh.tales-long ht

  pub role : Mode n m r ts ks l → not_idle r ≡ false → Role n m r ts ks l t
  role (quiet i c e all) _ =
      free (record {
        is_free = all t ht;
        put = λ loc p k h. quiet i c e (set-each ts ks t (tx loc p) k (Free n m.glb l) in-ts in-ks h (λ u hu f. all u hu));
        nobody = λ _. (c, all);
      })
  role (writing o ho i e own others) _ = go (same_or_not t o)
    where
      go : (t ≡ o) ⊎ (t ≡ o → ⊥) → Role n m r ts ks l t
      go (inl q) = rw q (owner e own.0 own.1 others)
      go (inr f) =
          free (record {
            is_free = others t ht f;
            put = λ loc p k h. writing o ho i e
                (set_there ts ks t (tx loc p) k (λ a b c. Lock n m l c × Owner n m l a b c) o (λ q. f (sym q)) own)
                (set-each-but ts ks t (tx loc p) k (Free n m.glb l) o in-ts in-ks h others);
            nobody = λ q. absurd (true-not-false q e);
          })
  role (sealed o ho i c e end others) _ = go (same_or_not t o)
    where
      go : (t ≡ o) ⊎ (t ≡ o → ⊥) → Role n m r ts ks l t
      go (inl q) = rw q (ender c e end others)
      go (inr f) =
          free (record {
            is_free = others t ht f;
            put = λ loc p k h. sealed o ho i c e
                (set_there ts ks t (tx loc p) k (Ender m.glb l) o (λ q. f (sym q)) end)
                (set-each-but ts ks t (tx loc p) k (Free n m.glb l) o in-ts in-ks h others);
            nobody = λ q. absurd (true-not-false q e);
          })
  role (recovering a h all) b = absurd (true-not-false a b)
