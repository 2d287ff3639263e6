-- The line of one record: none where the answer is 0, else its three numbers, in thirty bytes at the most.
use Prim.Native.Nat.{ℕ, ◌^◌, ◌≤◌, ◌<◌}
use native.Mathlib.Omega.{arith}
use borrow.Author.Tests.{eq-eqb}
use mathlib.Core.Path.{◌≡◌}
use mathlib.Core.List.{List, []}
use lib.ListN.{length}
use lib.Dec.{eqb}
use Rattle.std.specs.Prelude.{Result, Ok, Err}
use Rattle.dtml.specs.declared.Answer.{Answer}
use Rattle.dtml.specs.declared.Answer.TheVariants.{Taken, Begun, Read, Written, Committed, Aborted, Recovered}
use Rattle.dtml.specs.declared.Refusal.{Refusal}
use Rattle.dtml.specs.declared.Refusal.TheVariants.{Unfit, NoWord, NoRecord, NotIdle, NotFresh, NotReady, NoLine, Idle}
use Rattle.dtml.specs.Table.{reply}
use Rattle.dtml.proofs.Words.{pick-case}
use Rattle.text.proofs.Laws.{answer-short}
use Rattle.day.specs.Replay.{answer_text}

two_digits : (a : Result Answer Refusal) → (reply a).number < 100
two_digits (Ok (Taken n)) = omega arith
two_digits (Ok Begun) = omega arith
two_digits (Ok (Read v)) = omega arith
two_digits (Ok Written) = omega arith
two_digits (Ok Committed) = omega arith
two_digits (Ok Aborted) = omega arith
two_digits (Ok (Recovered n)) = omega arith
two_digits (Err Unfit) = omega arith
two_digits (Err NoWord) = omega arith
two_digits (Err NoRecord) = omega arith
two_digits (Err NotIdle) = omega arith
two_digits (Err NotFresh) = omega arith
two_digits (Err NotReady) = omega arith
two_digits (Err NoLine) = omega arith
two_digits (Err Idle) = omega arith

-- an answer 0 has no line
pub no_line : (k : ℕ) (a : Result Answer Refusal) → (reply a).number ≡ 0 → answer_text k (reply a) ≡ []
no_line k a z = rw (eq-eqb (reply a).number 0 z)

pub brief-line : (k : ℕ) (a : Result Answer Refusal) → (reply a).value < 2 ^ 64 → k < 100000 → length (answer_text k (reply a)) ≤ 30
brief-line k a wide few =
    pick-case (λ (x : List ℕ). length x ≤ 30) (eqb (reply a).number 0) (λ e. omega arith)
    (λ e. answer-short k (reply a).number (reply a).value few (two_digits a) wide)
