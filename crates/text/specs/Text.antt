-- Document 01, "The trace": what is printed. Numbers are decimal, one space stands between fields, and each line ends in a line feed.
use Rattle.std.specs.Prelude.{ℕ, zero, suc, ◌+◌, ◌-◌, ◌*◌, ◌/◌, ◌%◌, List, [], ◌∷◌, ◌++◌, ltb}
use Rattle.bits.specs.Marks.{pick}

-- the last digits of n, at most so many, the most significant first; 48 is the digit 0
unfoldable pub digits : ℕ → ℕ → List ℕ
digits zero n = []
digits (suc most) n = pick (ltb n 10) ((48 + n) ∷ []) (digits most (n / 10) ++ ((48 + n % 10) ∷ []))

-- a number n has no more than n + 1 digits
unfoldable pub decimal : ℕ → List ℕ
decimal n = digits (suc n) n

-- the number that digits stand for, read from the left after v
unfoldable pub value_from : ℕ → List ℕ → ℕ
value_from v [] = v
value_from v (b ∷ text) = value_from (10 * v + (b - 48)) text

abbrev pub value_of : List ℕ → ℕ
value_of text = value_from 0 text

-- a line of fields, each a row of bytes: 32 is the space, 10 the line feed
unfoldable pub line_of : List ℕ → List (List ℕ) → List ℕ
line_of field [] = field ++ (10 ∷ [])
line_of field (next ∷ fields) = field ++ (32 ∷ line_of next fields)

-- record number, answer, value
unfoldable pub answer_line : ℕ → ℕ → ℕ → List ℕ
answer_line record-number answer value = line_of (decimal record-number) (decimal answer ∷ decimal value ∷ [])

-- `X`, refusal, record number
unfoldable pub stop_line : ℕ → ℕ → List ℕ
stop_line refusal record-number = line_of (88 ∷ []) (decimal refusal ∷ decimal record-number ∷ [])

-- `T`, records done, crashes, recovery lines carried out, words entered in transactions that a crash cut off, transactions committed
unfoldable pub totals_line : ℕ → ℕ → ℕ → ℕ → ℕ → List ℕ
totals_line records crashes lines cut committed =
    line_of (84 ∷ []) (decimal records ∷ decimal crashes ∷ decimal lines ∷ decimal cut ∷ decimal committed ∷ [])
