-- Document 01, "The store".
use Rattle.std.specs.Prelude.{ℕ, List, length, get_or, replicate}
use Rattle.dtml.specs.declared.Tx.{Tx}
use Rattle.dtml.specs.declared.Phase.{Phase}
use Rattle.dtml.specs.declared.Phase.TheVariants.{Fresh}
use Rattle.dtml.specs.declared.Recovery.{Recovery}
use Rattle.dtml.specs.declared.Recovery.TheVariants.{Idle}

-- the words on both sides, the log (a marked word is in it, with its old word) and the count, called glb in the figure
pub record Memory : Type 0 where
  pub vol : List ℕ
  pub pers : List ℕ
  pub old : List ℕ
  pub marks : List ℕ
  pub glb : ℕ

pub record Store : Type 0 where
  pub mem : Memory
  pub rec : Recovery
  pub txs : List Tx

abbrev pub memory : List ℕ → List ℕ → List ℕ → List ℕ → ℕ → Memory
memory v p o k g = record { vol = v; pers = p; old = o; marks = k; glb = g }

abbrev pub store : Memory → Recovery → List Tx → Store
store m r ts = record { mem = m; rec = r; txs = ts }

abbrev pub tx : ℕ → Phase → Tx
tx loc p = record { loc = loc; phase = p }

-- N, the number of words
abbrev pub size : Memory → ℕ
size m = length m.vol

abbrev pub record_at : List Tx → ℕ → Tx
record_at ts t = get_or ts t (tx 0 Fresh)

-- every word, mark, count and loc is 0, every record fresh, recovery idle
unfoldable pub fresh : ℕ → Store
fresh n =
    store (memory (replicate n 0) (replicate n 0) (replicate n 0) (replicate 4 0) 0) Idle (replicate 64 (tx 0 Fresh))
