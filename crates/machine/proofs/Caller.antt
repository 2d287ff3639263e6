-- A caller that owns its rows: the store that they are with what is held beside them, and what a call left.
use Prim.Native.Nat.{ℕ}
use mathlib.Core.Path.{◌≡◌}
use mathlib.Core.List.{List}
use lib.ListN.{length}
use Rattle.dtml.specs.declared.Tx.{Tx}
use Rattle.dtml.specs.Store.{Store}
use Rattle.dtml.specs.Asked.{Outcome}
use Rattle.machine.specs.declared.Held.{Held}
use Rattle.machine.specs.declared.After.{After}
use Rattle.machine.specs.Given.{store_of, outcome_of}

pub record Rows : Type 0 where
  pub vol : List ℕ
  pub pers : List ℕ
  pub old : List ℕ
  pub txs : List Tx

abbrev pub these-rows : List ℕ → List ℕ → List ℕ → List Tx → Rows
these-rows v p o ts = record { vol = v; pers = p; old = o; txs = ts }

-- how long they are
pub record Long (n₀ n₁ n₂ n₃ : ℕ) (z : Rows) : Type 0 where
  pub vol : length z.vol ≡ n₀
  pub pers : length z.pers ≡ n₁
  pub old : length z.old ≡ n₂
  pub txs : length z.txs ≡ n₃

-- the store that they are with what is held, and what a call left
abbrev pub store-of : Rows → Held → Store
store-of z h = store_of z.vol z.pers z.old h z.txs

abbrev pub left_as : Rows → After → Outcome
left_as z a = outcome_of z.vol z.pers z.old z.txs a
