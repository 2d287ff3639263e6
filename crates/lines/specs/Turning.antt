-- What a call on one record gives back, as the definitions have it.
use Rattle.std.specs.Prelude.{ℕ, Result, Ok, Err}
use Rattle.dtml.specs.declared.Answer.{Answer}
use Rattle.dtml.specs.declared.Refusal.{Refusal}
use Rattle.dtml.specs.declared.Phase.{Phase}
use Rattle.dtml.specs.Table.{reply}
use Rattle.dtml.specs.Store.{Memory, tx}
use Rattle.dtml.specs.Asked.{did}
use Rattle.dtml.specs.Handed.{Turned, no-turn, a_turn}
use Rattle.lines.specs.declared.turn.Turn.{Turn}

abbrev pub turn_of : Answer → ℕ → Phase → Turn
turn_of a loc p = record { answer = a; tx = tx loc p }

abbrev pub turned_of : Result Turn Refusal → Memory → Turned
turned_of (Ok u) m = a_turn (did (reply (Ok u.answer)) m u.tx)
turned_of (Err k) m = no-turn (reply (Err k)) m
