-- What a call of this crate is lent and handed, and what it leaves and gives back, as the definitions have it.
use Rattle.std.specs.Prelude.{List, ℕ}
use Rattle.dtml.specs.declared.Tx.{Tx}
use Rattle.dtml.specs.Table.{reply}
use Rattle.dtml.specs.Store.{Store, memory, store}
use Rattle.dtml.specs.Asked.{Outcome, outcome}
use Rattle.machine.specs.declared.Held.{Held}
use Rattle.machine.specs.declared.After.{After}

-- the store that the word rows, the held values and the row of records make
abbrev pub store_of : List ℕ → List ℕ → List ℕ → Held → List Tx → Store
store_of vol pers old h ts = store (memory vol pers old h.marks h.glb) h.recovery ts

-- the outcome that the rows at exit and what is returned make
abbrev pub outcome_of : List ℕ → List ℕ → List ℕ → List Tx → After → Outcome
outcome_of vol pers old ts a = outcome (reply a.answer) (store_of vol pers old a.held ts)
