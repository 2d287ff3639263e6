-- A second table of histories, of ours: what document 01's fourteen leave out. It is held by the same definition as they are.
use Rattle.std.specs.Prelude.{ℕ, ◌≡◌, true, List, [], ◌∷◌, ◌++◌}
use Rattle.dtml.specs.Table.{says}
use Rattle.dtml.specs.declared.Ask.TheVariants.{Begin as begin, Read as read, Write as write, Commit as commit, Step as step}
use Rattle.dtml.specs.declared.Sys.TheVariants.{Flush as flush, Crash as crash, RecoverUpTo as recover_up_to}
use Rattle.dtml.specs.declared.Call.{Call}
use Rattle.dtml.specs.declared.Call.TheVariants.{On as on, Of as sys}
use Rattle.cases.specs.Cases.{replies, lines, word, logged, bound, History, all_hold}
use Rattle.cases.specs.Table.{history, steps, begun, wrote, recovers, noughts}

-- writes v to word w, a further word of a writer: five lines; a word that it has in the log: four
abbrev wrote_next : ℕ → ℕ → ℕ → List Call
wrote_next t w v = on t (write w v) ∷ steps t 5

abbrev wrote_again : ℕ → ℕ → ℕ → List Call
wrote_again t w v = on t (write w v) ∷ steps t 4

-- a join of three words, as far as its second word and whole
abbrev link_and_history : ℕ → List Call
link_and_history t = begun t ++ wrote t 0 41 ++ wrote_next t 1 42

abbrev join : ℕ → List Call
join t = link_and_history t ++ wrote_next t 2 43 ++ (on t commit ∷ steps t 3)

unfoldable pub further : List History
further =
    -- a whole join: each write ends with 3, the commit with 4
    history 1 4 (join 0) (replies 10 (says 3 0 ∷ []) ∷ replies 16 (says 3 0 ∷ []) ∷ replies 22 (says 3 0 ∷ []) ∷ replies 26 (says 4 0 ∷ []) ∷ word 0 41 ∷ word 1 42 ∷ word 2 43 ∷ logged 0 ∷ [])
    -- one cut between the history and the area, and the same join by another transaction: none of it, then all of it
    ∷ history 2 4 (link_and_history 0 ++ (sys crash ∷ recovers 12)) (replies 17 (noughts 12 ++ (says 6 0 ∷ [])) ∷ lines 12 ∷ bound 14 ∷ word 0 0 ∷ word 1 0 ∷ word 2 0 ∷ [])
    ∷ history 3 4 (link_and_history 0 ++ (sys crash ∷ recovers 12) ++ join 1) (word 0 41 ∷ word 1 42 ∷ word 2 43 ∷ logged 0 ∷ [])
    -- a second write to a logged word: four lines, and one word in the log
    ∷ history 4 4 (begun 0 ++ wrote 0 1 5 ++ wrote_again 0 1 6) (replies 12 (says 0 0 ∷ says 0 0 ∷ says 0 0 ∷ says 3 0 ∷ []) ∷ word 1 6 ∷ logged 1 ∷ [])
    -- a transaction reads its own write
    ∷ history 5 4 (begun 0 ++ wrote 0 1 5 ++ (on 0 (read 1) ∷ steps 0 2)) (replies 12 (says 0 0 ∷ says 2 5 ∷ []) ∷ [])
    -- a reader's commit is one line
    ∷ history 6 4 (begun 0 ++ (on 0 commit ∷ steps 0 1)) (replies 3 (says 0 0 ∷ says 4 0 ∷ []) ∷ [])
    -- 14 and 15: read, write and commit on a record that is not ready; a step on a fresh, a ready and a committed record
    ∷ history 7 4 (on 0 (read 0) ∷ on 0 (write 0 1) ∷ on 0 commit ∷ on 0 step ∷ []) (replies 0 (says 14 0 ∷ says 14 0 ∷ says 14 0 ∷ says 15 0 ∷ []) ∷ [])
    ∷ history 8 4 (begun 0 ++ (on 0 step ∷ on 0 begin ∷ on 0 commit ∷ on 0 commit ∷ on 0 step ∷ on 0 step ∷ on 0 (read 0) ∷ [])) (replies 3 (says 15 0 ∷ says 13 0 ∷ says 0 0 ∷ says 14 0 ∷ says 4 0 ∷ says 15 0 ∷ says 14 0 ∷ []) ∷ [])
    -- a record that a crash has cut is aborted: 13, 14, 14, 14, 15; another one begins
    ∷ history 9 4 (begun 0 ++ (sys crash ∷ recovers 2) ++ (on 0 begin ∷ on 0 (read 0) ∷ on 0 (write 0 1) ∷ on 0 commit ∷ on 0 step ∷ on 1 begin ∷ [])) (replies 6 (says 13 0 ∷ says 14 0 ∷ says 14 0 ∷ says 14 0 ∷ says 15 0 ∷ says 0 0 ∷ []) ∷ [])
    -- in recovery: a flush and a crash are taken, a read of word N answers 10, one of word 0 answers 12
    ∷ history 10 4 (sys crash ∷ sys (flush 0) ∷ sys (flush 4) ∷ on 0 (read 4) ∷ on 0 (read 0) ∷ on 64 (read 4) ∷ sys crash ∷ []) (replies 0 (says 0 0 ∷ says 0 0 ∷ says 10 0 ∷ says 10 0 ∷ says 12 0 ∷ says 11 0 ∷ says 0 0 ∷ []) ∷ [])
    -- an allowance of none, of some, of more than are left, and one while idle
    ∷ history 11 4 (begun 0 ++ wrote 0 1 5 ++ (sys crash ∷ sys (recover_up_to 0) ∷ sys (recover_up_to 3) ∷ sys (recover_up_to 9) ∷ sys (recover_up_to 9) ∷ [])) (replies 11 (says 0 0 ∷ says 0 0 ∷ says 0 3 ∷ says 6 4 ∷ says 16 0 ∷ []) ∷ lines 7 ∷ word 1 0 ∷ [])
    ∷ []

-- They hold as well.
abbrev pub FurtherHistories : Type 0
FurtherHistories = all_hold further ≡ true
