-- How a phase and recovery are spelled as numbers.
use Rattle.std.specs.Prelude.{ℕ, Bool, false, List, [], ◌∷◌, get_or, eqb}
use Rattle.bits.specs.Marks.{pick}
use Rattle.dtml.specs.declared.Phase.{Phase}
use Rattle.dtml.specs.declared.Phase.TheVariants.{Fresh, Ready, Committed, Aborted, B1, B2, R1, R2, W1, W2, W3, W4, W5, W6, W7, E1, E2, E3}
use Rattle.dtml.specs.declared.Recovery.{Recovery}
use Rattle.dtml.specs.declared.Recovery.TheVariants.{Idle, C1, C2, C3, C4, C5, C6}
use Rattle.spelling.specs.declared.Spelt.{Spelt}

-- a number, a word and a value; the last two are 0 where there is none
abbrev pub spelt : ℕ → ℕ → ℕ → Spelt
spelt n w v = record { number = n; word = w; value = v }

abbrev pub spell_phase : Phase → Spelt
spell_phase Fresh = spelt 0 0 0
spell_phase Ready = spelt 1 0 0
spell_phase Committed = spelt 2 0 0
spell_phase Aborted = spelt 3 0 0
spell_phase B1 = spelt 4 0 0
spell_phase B2 = spelt 5 0 0
spell_phase (R1 w) = spelt 6 w 0
spell_phase (R2 v) = spelt 7 0 v
spell_phase (W1 w v) = spelt 8 w v
spell_phase (W2 w v) = spelt 9 w v
spell_phase (W3 w v) = spelt 10 w v
spell_phase (W4 w v) = spelt 11 w v
spell_phase (W5 w v) = spelt 12 w v
spell_phase (W6 w v) = spelt 13 w v
spell_phase (W7 w) = spelt 14 w 0
spell_phase E1 = spelt 15 0 0
spell_phase E2 = spelt 16 0 0
spell_phase E3 = spelt 17 0 0

-- recovery's line, 1 to 6 for C1 to C6
abbrev pub spell_recovery : Recovery → Spelt
spell_recovery Idle = spelt 0 0 0
spell_recovery C1 = spelt 1 0 0
spell_recovery C2 = spelt 2 0 0
spell_recovery (C3 w v) = spelt 3 w v
spell_recovery (C4 w v) = spelt 4 w v
spell_recovery (C5 w v) = spelt 5 w v
spell_recovery C6 = spelt 6 0 0

-- The phase and the recovery of a number. Any numbers can be read: those that spell nothing are other ones than what is read is spelled by.
abbrev pub phases : ℕ → ℕ → List Phase
phases w v =
    Fresh ∷ Ready ∷ Committed ∷ Aborted ∷ B1 ∷ B2 ∷ R1 w ∷ R2 v ∷ W1 w v ∷ W2 w v ∷ W3 w v ∷ W4 w v ∷ W5 w v ∷ W6 w v ∷ W7 w ∷ E1 ∷ E2 ∷ E3 ∷ []

unfoldable pub read_phase : Spelt → Phase
read_phase s = get_or (phases s.word s.value) s.number Fresh

abbrev pub recoveries : ℕ → ℕ → List Recovery
recoveries w v = Idle ∷ C1 ∷ C2 ∷ C3 w v ∷ C4 w v ∷ C5 w v ∷ C6 ∷ []

unfoldable pub read_recovery : Spelt → Recovery
read_recovery s = get_or (recoveries s.word s.value) s.number Idle

unfoldable pub same_spelling : Spelt → Spelt → Bool
same_spelling a b = pick (eqb a.number b.number) (pick (eqb a.word b.word) (eqb a.value b.value) false) false
