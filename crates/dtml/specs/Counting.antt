-- What one call adds to the numbers of the T line, from what a caller sees of it: the call, its answer, and recovery and the marks as it found them.
use Rattle.std.specs.Prelude.{ℕ, List, eqb, leb}
use Rattle.bits.specs.Marks.{pick, count_of}
use Rattle.dtml.specs.declared.Recovery.{Recovery}
use Rattle.dtml.specs.Table.{Reply}
use Rattle.dtml.specs.Asked.{flush, crash, recover, recover_up_to, Call, on, sys}
use Rattle.dtml.specs.Checks.{not_idle}

-- nothing, if the call is refused
abbrev pub unless_refused : Reply → ℕ → ℕ
unless_refused a k = pick (leb 9 a.number) 0 k

-- a crash
abbrev pub crashes_in : Call → Reply → ℕ
crashes_in (on t q) a = 0
crashes_in (sys (flush w)) a = 0
crashes_in (sys crash) a = unless_refused a 1
crashes_in (sys recover) a = 0
crashes_in (sys (recover_up_to b)) a = 0

-- a recovery line, or as many as an allowance call reports
abbrev pub lines_in : Call → Reply → ℕ
lines_in (on t q) a = 0
lines_in (sys (flush w)) a = 0
lines_in (sys crash) a = 0
lines_in (sys recover) a = unless_refused a 1
lines_in (sys (recover_up_to b)) a = unless_refused a a.value

-- the words in the log as a crash finds it, unless recovery is under way
abbrev pub cut_in : Call → Recovery → List ℕ → Reply → ℕ
cut_in (on t q) r k a = 0
cut_in (sys (flush w)) r k a = 0
cut_in (sys crash) r k a = unless_refused a (pick (not_idle r) 0 (count_of k))
cut_in (sys recover) r k a = 0
cut_in (sys (recover_up_to b)) r k a = 0

-- answers 4, which a call on a record alone is given
abbrev pub committed_in : Call → Reply → ℕ
committed_in (on t q) a = pick (eqb a.number 4) 1 0
committed_in (sys k) a = 0
