-- What a step is once what was handed in was found fit and recovery idle; and what any call is while recovery is under way.
use Rattle.std.specs.Prelude.{ℕ, Bool, false, not, [], ◌∷◌, leb}
use Rattle.bits.specs.Marks.{pick}
use Rattle.dtml.specs.declared.Ask.{Ask}
use Rattle.dtml.specs.declared.Ask.TheVariants.{Begin as begin, Read as read, Write as write, Commit as commit, Step as step}
use Rattle.dtml.specs.declared.Refusal.{Refusal}
use Rattle.dtml.specs.declared.Refusal.TheVariants.{Unfit, NoWord, NotIdle}
use Rattle.dtml.specs.declared.Tx.{Tx}
use Rattle.dtml.specs.Table.{says}
use Rattle.dtml.specs.Store.{Memory}
use Rattle.dtml.specs.Lines.{stage, line}
use Rattle.dtml.specs.First.{◌⇒◌, first}
use Rattle.dtml.specs.Checks.{is_at_line}
use Rattle.dtml.specs.Handed.{Turned, no-turn, a_turn}

-- the line at which the record stands, if there is one
abbrev pub step_of : Memory → Tx → Turned
step_of m t = first (not (is_at_line (stage t.phase)) ⇒ 15 ∷ []) (λ n. no-turn (says n 0) m) (a_turn (line m t))

-- a call names a word at N or above
abbrev pub ask_past : ℕ → Ask → Bool
ask_past n begin = false
ask_past n (read w) = leb n w
ask_past n (write w v) = leb n w
ask_past n commit = false
ask_past n step = false

-- the refusal of a call on a record while recovery is not idle, by whether what it was handed is unfit and the word is past the rows
abbrev pub refusal_of : Bool → Bool → Refusal
refusal_of bad past = pick bad Unfit (pick past NoWord NotIdle)
