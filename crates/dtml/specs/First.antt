-- Checks in an order, of which the first that applies refuses.
use Rattle.std.specs.Prelude.{ℕ, Bool, true, false, List, [], ◌∷◌}
use Rattle.bits.specs.Marks.{pick}

abbrev pub any_of : List Bool → Bool
any_of [] = false
any_of (b ∷ bs) = pick b true (any_of bs)

pub record Check : Type 0 where
  pub applies : Bool
  pub number : ℕ

infix 80 ◌⇒◌
abbrev pub ◌⇒◌ : Bool → ℕ → Check
b ⇒ n = record { applies = b; number = n }

-- first that applies: its number refuses; where none applies, the call is carried out
abbrev pub first : {A : Type 0} → List Check → (ℕ → A) → A → A
first [] refuse carried_out = carried_out
first (c ∷ cs) refuse carried_out = pick c.applies (refuse c.number) (first cs refuse carried_out)
