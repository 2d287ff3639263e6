-- What a line asks of the memory and the record that it is handed.
use Rattle.std.specs.Prelude.{◌≤◌, ◌≡◌, false, length}
use Rattle.dtml.specs.declared.Tx.{Tx}
use Rattle.dtml.specs.Store.{Memory, size}
use Rattle.dtml.specs.Checks.{phase_past}

-- the rows are equally long, the count and loc can rise, and the phase names a word that is there
pub record Room (m : Memory) (t : Tx) : Type 0 where
  pub pers-long : length m.pers ≡ length m.vol
  pub old-long : length m.old ≡ length m.vol
  pub glb-low : m.glb ≤ 65535
  pub loc-low : t.loc ≤ 65535
  pub word-there : phase_past (size m) t.phase ≡ false
