-- Document 01, "Worked histories". N is 4 and the store fresh unless said.
use Rattle.std.specs.Prelude.{ℕ, ◌≡◌, true, List, [], ◌∷◌, ◌++◌, replicate}
use Rattle.dtml.specs.Table.{Reply, says}
use Rattle.dtml.specs.declared.Ask.TheVariants.{Begin as begin, Read as read, Write as write, Commit as commit, Step as step}
use Rattle.dtml.specs.declared.Sys.TheVariants.{Crash as crash, Recover as recover}
use Rattle.dtml.specs.declared.Call.{Call}
use Rattle.dtml.specs.declared.Call.TheVariants.{On as on, Of as sys}
use Rattle.cases.specs.Cases.{given, trace, Claim, whole, replies, lines, word, logged, bound, History, all_hold}

abbrev pub history : ℕ → ℕ → List Call → List Claim → History
history name words calls claims = record { name = name; schedule = given words calls; claims = claims }

abbrev pub of_trace : ℕ → List ℕ → List Claim → History
of_trace name bytes claims = record { name = name; schedule = trace bytes; claims = claims }

-- ---- schedules

abbrev pub steps : ℕ → ℕ → List Call
steps t n = replicate n (on t step)

-- begins, and does B1 and B2
abbrev pub begun : ℕ → List Call
begun t = on t begin ∷ steps t 2

-- writes v to word w, a first word of a writer: seven lines
abbrev pub wrote : ℕ → ℕ → ℕ → List Call
wrote t w v = on t (write w v) ∷ steps t 7

abbrev pub recovers : ℕ → List Call
recovers n = replicate n (sys recover)

-- 0, as often as said
abbrev pub noughts : ℕ → List Reply
noughts n = replicate n (says 0 0)

-- ---- the trace of document 01, with and without its flush

abbrev opening : List ℕ
opening =
    1 ∷ 0 ∷ 4 ∷ 0 ∷ 2 ∷ 1 ∷ 3 ∷ 0 ∷ 2 ∷ 5 ∷ 3 ∷ 0 ∷ 2 ∷ 5 ∷ 3 ∷ 0 ∷ 7 ∷ 3 ∷ 3 ∷ 2 ∷ 0 ∷ 0 ∷ 0 ∷ 9 ∷ 0 ∷ 2 ∷ 5 ∷ 3 ∷ 0 ∷ 2 ∷ 5 ∷ 3 ∷ 0 ∷ 2 ∷ 5 ∷ 3 ∷ 0
    ∷ 2 ∷ 5 ∷ 3 ∷ 0 ∷ 2 ∷ 5 ∷ 3 ∷ 0 ∷ 2 ∷ 5 ∷ 3 ∷ []

abbrev flushed : List ℕ
flushed = 0 ∷ 2 ∷ 6 ∷ 2 ∷ []

abbrev closing : List ℕ
closing =
    0 ∷ 1 ∷ 7 ∷ 0 ∷ 1 ∷ 8 ∷ 0 ∷ 1 ∷ 8 ∷ 0 ∷ 1 ∷ 8 ∷ 0 ∷ 1 ∷ 8 ∷ 0 ∷ 1 ∷ 8 ∷ 0 ∷ 1 ∷ 8 ∷ 0 ∷ 1 ∷ 8 ∷ []

-- ---- the table

unfoldable pub table : List History
table =
    history 1 4 (begun 0) (replies 0 (says 0 0 ∷ says 0 0 ∷ says 1 0 ∷ []) ∷ [])
    ∷ history 2 4 (on 63 begin ∷ on 64 begin ∷ []) (replies 0 (says 0 0 ∷ says 11 0 ∷ []) ∷ [])
    ∷ history 3 4 (begun 0 ++ (on 0 (read 3) ∷ []) ++ begun 1 ++ (on 1 (read 4) ∷ [])) (replies 3 (says 0 0 ∷ []) ∷ replies 7 (says 10 0 ∷ []) ∷ [])
    ∷ of_trace 4 (opening ++ flushed ++ closing) (whole 4 19 ∷ word 0 0 ∷ word 1 0 ∷ word 2 0 ∷ word 3 0 ∷ logged 0 ∷ lines 7 ∷ [])
    ∷ of_trace 5 (opening ++ closing) (whole 4 18 ∷ word 0 0 ∷ word 1 0 ∷ word 2 0 ∷ word 3 0 ∷ logged 0 ∷ [])
    ∷ history 6 4 (begun 0 ++ wrote 0 1 5 ++ (on 0 commit ∷ steps 0 2) ++ (sys crash ∷ recovers 2)) (replies 14 (says 0 0 ∷ says 0 0 ∷ says 6 0 ∷ []) ∷ lines 2 ∷ bound 4 ∷ word 1 5 ∷ [])
    ∷ history 7 4 (begun 0 ++ wrote 0 1 5 ++ (on 0 commit ∷ steps 0 1) ++ (sys crash ∷ recovers 7)) (replies 14 (noughts 6 ++ (says 6 0 ∷ [])) ∷ lines 7 ∷ bound 9 ∷ word 1 0 ∷ [])
    ∷ history 8 4 (begun 0 ++ begun 1 ++ (on 1 (write 0 5) ∷ steps 1 2) ++ (on 0 (read 0) ∷ steps 0 2)) (replies 10 (says 0 0 ∷ says 5 0 ∷ []) ∷ [])
    ∷ history 9 4 (begun 0 ++ begun 1 ++ (on 1 (write 0 5) ∷ steps 1 1) ++ (on 0 (read 0) ∷ steps 0 2) ++ steps 1 1) (replies 9 (says 0 0 ∷ says 2 0 ∷ []) ∷ [])
    ∷ history 10 4 (begun 0 ++ begun 1 ++ (on 0 (write 0 5) ∷ on 1 (write 1 6) ∷ steps 0 2) ++ steps 1 2) (replies 8 (says 0 0 ∷ says 0 0 ∷ says 0 0 ∷ says 5 0 ∷ []) ∷ [])
    ∷ history 11 4 (begun 0 ++ (on 0 (write 0 5) ∷ steps 0 2) ++ begun 1 ++ steps 0 5 ++ (on 0 commit ∷ steps 0 3) ++ steps 1 2) (replies 7 (says 0 0 ∷ says 0 0 ∷ []) ∷ replies 17 (says 4 0 ∷ says 0 0 ∷ says 1 0 ∷ []) ∷ [])
    ∷ history 12 4 (sys recover ∷ []) (replies 0 (says 16 0 ∷ []) ∷ [])
    ∷ history 13 4 (begun 0 ++ wrote 0 1 5 ++ (sys crash ∷ recovers 4) ++ (sys crash ∷ recovers 7)) (replies 23 (says 6 0 ∷ []) ∷ lines 11 ∷ bound 13 ∷ word 1 0 ∷ [])
    ∷ history 14 4 ((sys crash ∷ []) ++ (on 0 begin ∷ []) ++ recovers 2 ++ (on 0 begin ∷ [])) (replies 1 (says 12 0 ∷ []) ∷ replies 3 (says 6 0 ∷ says 0 0 ∷ []) ∷ [])
    ∷ []

-- P1 to P14 hold.
abbrev pub WorkedHistories : Type 0
WorkedHistories = all_hold table ≡ true
