-- What is spelled is read again, for each phase and for recovery at each line.
use native.Mathlib.Omega.{arith}
use mathlib.Core.Path.{◌≡◌}
use Rattle.dtml.specs.declared.Phase.{Phase}
use Rattle.dtml.specs.declared.Recovery.{Recovery}
use Rattle.spelling.specs.Spelling.{spell_phase, read_phase, spell_recovery, read_recovery}

pub phase-again : (p : Phase) → read_phase (spell_phase p) ≡ p
unfolding read_phase
phase-again p = grind arith

pub recovery-again : (r : Recovery) → read_recovery (spell_recovery r) ≡ r
unfolding read_recovery
recovery-again r = grind arith
