-- Document 01, "Numbers that come back": each answer is a number and a value.
use Rattle.std.specs.Prelude.{ℕ, Result, Ok, Err}
use Rattle.dtml.specs.declared.Answer.{Answer}
use Rattle.dtml.specs.declared.Answer.TheVariants.{Taken, Begun, Read, Written, Committed, Aborted, Recovered}
use Rattle.dtml.specs.declared.Refusal.{Refusal}
use Rattle.dtml.specs.declared.Refusal.TheVariants.{Unfit, NoWord, NoRecord, NotIdle, NotFresh, NotReady, NoLine, Idle}

pub record Reply : Type 0 where
  pub number : ℕ
  pub value : ℕ

abbrev pub says : ℕ → ℕ → Reply
says n v = record { number = n; value = v }

-- The value is 0 but for answer 2 and the allowance call, whose value is the lines it carried out.
abbrev pub reply : Result Answer Refusal → Reply
reply (Ok (Taken lines)) = says 0 lines
reply (Ok Begun) = says 1 0
reply (Ok (Read v)) = says 2 v
reply (Ok Written) = says 3 0
reply (Ok Committed) = says 4 0
reply (Ok Aborted) = says 5 0
reply (Ok (Recovered lines)) = says 6 lines
reply (Err Unfit) = says 9 0
reply (Err NoWord) = says 10 0
reply (Err NoRecord) = says 11 0
reply (Err NotIdle) = says 12 0
reply (Err NotFresh) = says 13 0
reply (Err NotReady) = says 14 0
reply (Err NoLine) = says 15 0
reply (Err Idle) = says 16 0
