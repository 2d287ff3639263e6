-- What can be asked of a store, and what is left of it.
use Rattle.dtml.specs.declared.Tx.{Tx}
use Rattle.dtml.specs.declared.Phase.{Phase}
use Rattle.dtml.specs.declared.Phase.TheVariants.{Fresh}
use Rattle.dtml.specs.declared.Recovery.{Recovery}
pub use Rattle.dtml.specs.declared.Ask.{Ask}
pub use Rattle.dtml.specs.declared.Ask.TheVariants.{Begin as begin, Read as read, Write as write, Commit as commit, Step as step}
pub use Rattle.dtml.specs.declared.Sys.{Sys}
pub use Rattle.dtml.specs.declared.Sys.TheVariants.{Flush as flush, Crash as crash, Recover as recover, RecoverUpTo as recover_up_to}
pub use Rattle.dtml.specs.declared.Call.{Call}
pub use Rattle.dtml.specs.declared.Call.TheVariants.{On as on, Of as sys}
use Rattle.dtml.specs.Table.{Reply}
use Rattle.dtml.specs.Store.{Memory, Store, record_at}

-- where the record stands that a call is on
abbrev pub stands_at : Store → Call → Phase
stands_at s (on t a) = (record_at s.txs t).phase
stands_at s (sys k) = Fresh

-- what a line leaves: the reply, the memory and the transaction's record
pub record Did : Type 0 where
  pub reply : Reply
  pub mem : Memory
  pub tx : Tx

abbrev pub did : Reply → Memory → Tx → Did
did r m t = record { reply = r; mem = m; tx = t }

-- what a line of recovery leaves
pub record RecoveryDid : Type 0 where
  pub reply : Reply
  pub mem : Memory
  pub rec : Recovery

abbrev pub recovery_did : Reply → Memory → Recovery → RecoveryDid
recovery_did a m r = record { reply = a; mem = m; rec = r }

-- what a call leaves
pub record Outcome : Type 0 where
  pub reply : Reply
  pub store : Store

abbrev pub outcome : Reply → Store → Outcome
outcome a s = record { reply = a; store = s }
