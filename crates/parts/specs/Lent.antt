-- The memory that is lent, as the definitions have it.
use Rattle.std.specs.Prelude.{◌≡◌, ℕ, Bool, List, length}
use Rattle.std.specs.Borrow.{MutBor}
use Rattle.dtml.specs.declared.Recovery.{Recovery}
use Rattle.dtml.specs.declared.Tx.{Tx}
use Rattle.dtml.specs.Store.{Memory, memory}
use Rattle.dtml.specs.Checks.{unfit_one}
use Rattle.parts.specs.declared.memory.Memory.{Memory as Lent}

abbrev pub memory_of : Lent → Memory
memory_of m = memory m.vol.now m.pers.now m.old_words.now m.marks m.glb

-- a row is the one that was lent: the same place of memory, the same loan, and as long as it was
pub record SameRow (a b : MutBor (List ℕ)) : Type 0 where
  pub place : b.ref_ptr ≡ a.ref_ptr
  pub loan : b.ghost_name ≡ a.ghost_name
  pub long : length b.now ≡ length a.now

pub record SameRows (a b : Lent) : Type 0 where
  pub vol : SameRow a.vol b.vol
  pub pers : SameRow a.pers b.pers
  pub old : SameRow a.old_words b.old_words

-- unfit with one record
abbrev pub unfit_with : Memory → Recovery → Tx → Bool
unfit_with m r t = unfit_one (length m.vol) (length m.pers) (length m.old) m.marks m.glb r t
