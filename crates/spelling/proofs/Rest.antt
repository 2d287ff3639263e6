-- A number past the list of phases, or past that of recovery's lines, is read as the first of them.
use Prim.Native.Nat.{◌≤◌}
use mathlib.Core.Path.{◌≡◌}
use lib.ListN.{get_or-eq_default}
use Rattle.dtml.specs.declared.Phase.TheVariants.{Fresh}
use Rattle.dtml.specs.declared.Recovery.TheVariants.{Idle}
use Rattle.spelling.specs.declared.Spelt.{Spelt}
use Rattle.spelling.specs.Spelling.{phases, read_phase, recoveries, read_recovery}

pub no_phase : (s : Spelt) → 18 ≤ s.number → read_phase s ≡ Fresh
unfolding read_phase
no_phase s h = get_or-eq_default (phases s.word s.value) Fresh {n = s.number} h

pub no_line : (s : Spelt) → 7 ≤ s.number → read_recovery s ≡ Idle
unfolding read_recovery
no_line s h = get_or-eq_default (recoveries s.word s.value) Idle {n = s.number} h
