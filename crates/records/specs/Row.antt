-- What is stored over a lent row.
use Rattle.std.specs.Prelude.{List, Option, None, Some, length, eqb}
use Rattle.bits.specs.Marks.{pick}
use Rattle.dtml.specs.declared.Tx.{Tx}

-- the 64 records of row, if there are any, in place of those of a row of 64
abbrev pub stored_if : Option (List Tx) → List Tx → List Tx
stored_if None ts = ts
stored_if (Some row) ts = pick (eqb (length ts) 64) row ts
