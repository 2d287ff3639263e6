-- What holds at every moment of every schedule from a fresh store, as predicates over the store's parts, so that what a line does not touch carries over.
-- The store is quiet, one transaction writes, one is sealed (past its E2, before its E3), or recovery is under way.
use Prim.Native.Nat.{ℕ, ◌+◌, ◌≤◌, ◌<◌}
use mathlib.Core.Path.{◌≡◌}
use mathlib.Core.Bool.{true, false}
use mathlib.Core.List.{List, []}
use lib.ListN.{length, get_or}
use Rattle.bits.specs.Marks.{is_marked, count_of}
use Rattle.dtml.specs.declared.Tx.{Tx}
use Rattle.dtml.specs.declared.Phase.{Phase}
use Rattle.dtml.specs.declared.Phase.TheVariants.{Fresh, Ready, Committed, Aborted, B1, B2, R1, R2, W1, W2, W3, W4, W5, W6, W7, E1, E2, E3}
use Rattle.dtml.specs.declared.Recovery.{Recovery}
use Rattle.dtml.specs.declared.Recovery.TheVariants.{Idle, C1, C2, C3, C4, C5, C6}
use Rattle.dtml.specs.Store.{Memory, record_at}
use Rattle.dtml.specs.Lines.{even, stage, is_live}
use Rattle.dtml.specs.Asked.{read, write}
use Rattle.dtml.specs.Checks.{not_idle}
use Rattle.dtml.specs.History.{sees, Tale, tale_at}
use Rattle.dtml.specs.Demands.{overlaid, OutOf}

-- two memories agree at every word
abbrev pub Agree : ℕ → List ℕ → List ℕ → Type 0
Agree n a b = (w : ℕ) → w < n → get_or a w 0 ≡ get_or b w 0

-- ---- a transaction that holds no lock

abbrev pub Over : Tale → Type 0
Over k = k.live ≡ false

abbrev pub Plain : Tale → Type 0
Plain k = (k.live ≡ true) × (k.wrote ≡ []) × (k.entered ≡ [])

-- past its B2: if the count is still its loc, the committed memory is still that of its B1
abbrev pub Current : ℕ → ℕ → List ℕ → ℕ → Tale → Type 0
Current n g l loc k = (even loc ≡ true) × (loc ≤ g) × (loc ≡ g → Agree n k.start l)

abbrev pub Free : ℕ → ℕ → List ℕ → ℕ → Phase → Tale → Type 0
Free n g l loc Fresh k = Over k
Free n g l loc Committed k = Over k
Free n g l loc Aborted k = Over k
Free n g l loc B1 k = Plain k
Free n g l loc B2 k = Plain k × (loc ≤ g) × (even loc ≡ true → loc ≡ g → Agree n k.start l)
Free n g l loc Ready k = Plain k × Current n g l loc k
Free n g l loc (R1 w) k = Plain k × Current n g l loc k × (k.asked ≡ read w) × (w < n)
Free n g l loc (R2 v) k = Plain k × Current n g l loc k × ((w : ℕ) × (k.asked ≡ read w) × (w < n) × (loc ≡ g → v ≡ get_or l w 0))
Free n g l loc (W1 w v) k = Plain k × Current n g l loc k × (k.asked ≡ write w v) × (w < n)
Free n g l loc (W2 w v) k = Plain k × Current n g l loc k × (k.asked ≡ write w v) × (w < n)
Free n g l loc (W3 w v) k = ⊥
Free n g l loc (W4 w v) k = ⊥
Free n g l loc (W5 w v) k = ⊥
Free n g l loc (W6 w v) k = ⊥
Free n g l loc (W7 w) k = ⊥
Free n g l loc E1 k = Plain k × Current n g l loc k
Free n g l loc E2 k = ⊥
Free n g l loc E3 k = ⊥

-- ---- the one that writes

-- what it sees stands on both sides
abbrev pub Clean : ℕ → Memory → List ℕ → Tale → Type 0
Clean n m l k = (w : ℕ) → w < n → (get_or m.vol w 0 ≡ sees k.wrote l w) × (get_or m.pers w 0 ≡ get_or m.vol w 0)

-- the same but for word x, which holds the value v on the volatile side
pub record Dirty (n : ℕ) (m : Memory) (l : List ℕ) (k : Tale) (x v : ℕ) : Type 0 where
  pub stored : get_or m.vol x 0 ≡ v
  pub elsewhere : (w : ℕ) → w < n → (w ≡ x → ⊥) → (get_or m.vol w 0 ≡ sees k.wrote l w) × (get_or m.pers w 0 ≡ get_or m.vol w 0)

-- a word that it entered is in the log
abbrev pub Lock : ℕ → Memory → List ℕ → Tale → Type 0
Lock n m l k = (k.live ≡ true) × Agree n k.start l × (length k.entered ≡ count_of m.marks)
    × ((w : ℕ) → is_marked m.marks w ≡ false → OutOf k.entered w)

abbrev pub Owner : ℕ → Memory → List ℕ → ℕ → Phase → Tale → Type 0
Owner n m l loc Fresh k = ⊥
Owner n m l loc Committed k = ⊥
Owner n m l loc Aborted k = ⊥
Owner n m l loc B1 k = ⊥
Owner n m l loc B2 k = ⊥
Owner n m l loc Ready k = (loc ≡ m.glb) × Clean n m l k
Owner n m l loc (R1 w) k = (loc ≡ m.glb) × Clean n m l k × (k.asked ≡ read w) × (w < n)
Owner n m l loc (R2 v) k = (loc ≡ m.glb) × Clean n m l k × ((w : ℕ) × (k.asked ≡ read w) × (w < n) × (v ≡ sees k.wrote l w))
Owner n m l loc (W1 w v) k = (loc ≡ m.glb) × Clean n m l k × (k.asked ≡ write w v) × (w < n)
Owner n m l loc (W2 w v) k = ⊥
Owner n m l loc (W3 w v) k = (loc + 1 ≡ m.glb) × Clean n m l k × (k.asked ≡ write w v) × (w < n)
Owner n m l loc (W4 w v) k = (loc ≡ m.glb) × Clean n m l k × (k.asked ≡ write w v) × (w < n)
Owner n m l loc (W5 w v) k = (loc ≡ m.glb) × Clean n m l k × (k.asked ≡ write w v) × (w < n) × (is_marked m.marks w ≡ false)
Owner n m l loc (W6 w v) k = (loc ≡ m.glb) × Clean n m l k × (k.asked ≡ write w v) × (w < n) × (is_marked m.marks w ≡ true)
Owner n m l loc (W7 w) k = (loc ≡ m.glb) × (w < n) × (is_marked m.marks w ≡ true) × ((v : ℕ) × (k.asked ≡ write w v) × Dirty n m l k w v)
Owner n m l loc E1 k = (loc ≡ m.glb) × Clean n m l k
Owner n m l loc E2 k = (loc ≡ m.glb) × Clean n m l k
Owner n m l loc E3 k = ⊥

-- ---- the one that is sealed

abbrev pub Ender : ℕ → List ℕ → ℕ → Phase → Tale → Type 0
Ender g l loc Fresh k = ⊥
Ender g l loc Committed k = ⊥
Ender g l loc Aborted k = ⊥
Ender g l loc B1 k = ⊥
Ender g l loc B2 k = ⊥
Ender g l loc Ready k = ⊥
Ender g l loc (R1 w) k = ⊥
Ender g l loc (R2 v) k = ⊥
Ender g l loc (W1 w v) k = ⊥
Ender g l loc (W2 w v) k = ⊥
Ender g l loc (W3 w v) k = ⊥
Ender g l loc (W4 w v) k = ⊥
Ender g l loc (W5 w v) k = ⊥
Ender g l loc (W6 w v) k = ⊥
Ender g l loc (W7 w) k = ⊥
Ender g l loc E1 k = ⊥
Ender g l loc E2 k = ⊥
Ender g l loc E3 k = (loc ≡ g) × Over k

-- ---- recovery

abbrev pub Chosen : ℕ → Memory → List ℕ → ℕ → ℕ → Type 0
Chosen n m l w v = (w < n) × (is_marked m.marks w ≡ true) × (v ≡ get_or l w 0)

abbrev pub Recovers : ℕ → Memory → List ℕ → Recovery → Type 0
Recovers n m l Idle = ⊥
Recovers n m l C1 = Unit {0}
Recovers n m l C2 = count_of m.marks ≡ 0 → ⊥
Recovers n m l (C3 w v) = Chosen n m l w v
Recovers n m l (C4 w v) = Chosen n m l w v × (get_or m.vol w 0 ≡ v)
Recovers n m l (C5 w v) = Chosen n m l w v × (get_or m.vol w 0 ≡ v) × (get_or m.pers w 0 ≡ v)
Recovers n m l C6 = count_of m.marks ≡ 0

abbrev pub Still : Phase → Tale → Type 0
Still p k = (is_live (stage p) ≡ false) × Over k

-- ---- the store

-- what holds of each record with its tale
abbrev pub Each : List Tx → List Tale → (ℕ → Phase → Tale → Type 0) → Type 0
Each ts ks P = (t : ℕ) → t < 64 → P (record_at ts t).loc (record_at ts t).phase (tale_at ks t)

abbrev pub EachBut : ℕ → List Tx → List Tale → (ℕ → Phase → Tale → Type 0) → Type 0
EachBut o ts ks P = (t : ℕ) → t < 64 → (t ≡ o → ⊥) → P (record_at ts t).loc (record_at ts t).phase (tale_at ks t)

pub data Mode (n : ℕ) (m : Memory) (r : Recovery) (ts : List Tx) (ks : List Tale) (l : List ℕ) : Type 0 where
  quiet : not_idle r ≡ false → count_of m.marks ≡ 0 → even m.glb ≡ true → Each ts ks (Free n m.glb l) → Mode n m r ts ks l
  writing : (o : ℕ) → o < 64 → not_idle r ≡ false → even m.glb ≡ false
      → Lock n m l (tale_at ks o) × Owner n m l (record_at ts o).loc (record_at ts o).phase (tale_at ks o)
      → EachBut o ts ks (Free n m.glb l) → Mode n m r ts ks l
  sealed : (o : ℕ) → o < 64 → not_idle r ≡ false → count_of m.marks ≡ 0 → even m.glb ≡ false
      → Ender m.glb l (record_at ts o).loc (record_at ts o).phase (tale_at ks o)
      → EachBut o ts ks (Free n m.glb l) → Mode n m r ts ks l
  recovering : not_idle r ≡ true → Recovers n m l r → Each ts ks (λ _. Still) → Mode n m r ts ks l

-- the rows' lengths
pub record Shape (n : ℕ) (m : Memory) (ts : List Tx) (ks : List Tale) (l : List ℕ) : Type 0 where
  pub some : 0 < n
  pub few : n ≤ 256
  pub vol-long : length m.vol ≡ n
  pub pers-long : length m.pers ≡ n
  pub old-long : length m.old ≡ n
  pub marks-long : length m.marks ≡ 4
  pub last-long : length l ≡ n
  pub txs-long : length ts ≡ 64
  pub tales-long : length ks ≡ 64

pub record Inv (n : ℕ) (m : Memory) (r : Recovery) (ts : List Tx) (ks : List Tale) (l : List ℕ) : Type 0 where
  pub shape : Shape n m ts ks l
  -- the persistent words overlaid by the undo log are the last committed memory
  pub durable : (w : ℕ) → w < n → overlaid m w ≡ get_or l w 0
  -- an unmarked word is the committed one on the volatile side too
  pub calm : (w : ℕ) → w < n → is_marked m.marks w ≡ false → get_or m.vol w 0 ≡ get_or l w 0
  pub marks-in : (w : ℕ) → n ≤ w → is_marked m.marks w ≡ false
  pub mode : Mode n m r ts ks l
