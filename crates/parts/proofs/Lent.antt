-- The rows that are lent stay the same through one call after another.
use mathlib.Core.Path.{refl, ◌∙◌}
use mathlib.Core.List.{List}
use Prim.Native.Nat.{ℕ}
use Rattle.std.specs.Borrow.{MutBor}
use Rattle.parts.specs.declared.memory.Memory.{Memory}
use Rattle.parts.specs.Lent.{SameRow, SameRows}

row-start : (a : MutBor (List ℕ)) → SameRow a a
row-start a = record { place = refl; loan = refl; long = refl }

row_then : {a b c : MutBor (List ℕ)} → SameRow a b → SameRow b c → SameRow a c
row_then p q = record { place = q.place ∙ p.place; loan = q.loan ∙ p.loan; long = q.long ∙ p.long }

pub same-start : (a : Memory) → SameRows a a
same-start a = record { vol = row-start a.vol; pers = row-start a.pers; old = row-start a.old_words }

pub same-then : {a b c : Memory} → SameRows a b → SameRows b c → SameRows a c
same-then p q = record { vol = row_then p.vol q.vol; pers = row_then p.pers q.pers; old = row_then p.old q.old }
