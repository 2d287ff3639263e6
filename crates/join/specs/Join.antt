-- The host's calls, and what it writes of them.
use Rattle.std.specs.Prelude.{ℕ, zero, suc, Bool, true, false, List, [], ◌∷◌, ◌++◌, get_or, eqb, ltb}
use Rattle.bits.specs.Marks.{pick}
use Rattle.dtml.specs.declared.Ask.{Ask}
use Rattle.dtml.specs.declared.Ask.TheVariants.{Begin as begin, Write as write, Commit as commit, Step as step}
use Rattle.dtml.specs.declared.Sys.{Sys}
use Rattle.dtml.specs.declared.Sys.TheVariants.{Flush as flush, Crash as crash, Recover as recover, RecoverUpTo as recover_up_to}
use Rattle.dtml.specs.declared.Call.{Call}
use Rattle.dtml.specs.declared.Call.TheVariants.{On as on, Of as sys}
use Rattle.dtml.specs.Table.{Reply}
use Rattle.dtml.specs.Store.{Store, fresh}
use Rattle.dtml.specs.Asked.{Outcome}
use Rattle.dtml.specs.Calls.{call}
use Rattle.text.specs.Buffer.{Buffer, buffer, puts}
use Rattle.text.specs.Text.{decimal}

-- ---- the calls, by their place: an operation is asked for, and then its lines are done

-- of a record
unfoldable pub ask_at : ℕ → Ask
ask_at i =
    pick (eqb i 0) begin
    (pick (eqb i 3) (write 0 41)
    (pick (eqb i 11) (write 1 42)
    (pick (eqb i 19) begin
    (pick (eqb i 22) (write 0 41)
    (pick (eqb i 30) (write 1 42)
    (pick (eqb i 36) (write 2 43)
    (pick (eqb i 42) commit
    step)))))))

-- the power failure and recovery are calls 17 and 18; transaction 0 comes before, transaction 1 after
unfoldable pub asked_at : ℕ → Call
asked_at i = pick (eqb i 17) (sys crash) (pick (eqb i 18) (sys (recover_up_to 1000)) (on (pick (ltb i 17) 0 1) (ask_at i)))

-- ---- what is written of a call

-- "begin: ", "write: ", "commit: ", "recovery: ", "the power fails: "
abbrev pub begin_text : List ℕ
begin_text = 98 ∷ 101 ∷ 103 ∷ 105 ∷ 110 ∷ 58 ∷ 32 ∷ []

abbrev pub write_text : List ℕ
write_text = 119 ∷ 114 ∷ 105 ∷ 116 ∷ 101 ∷ 58 ∷ 32 ∷ []

abbrev pub commit_text : List ℕ
commit_text = 99 ∷ 111 ∷ 109 ∷ 109 ∷ 105 ∷ 116 ∷ 58 ∷ 32 ∷ []

abbrev pub recovery_text : List ℕ
recovery_text = 114 ∷ 101 ∷ 99 ∷ 111 ∷ 118 ∷ 101 ∷ 114 ∷ 121 ∷ 58 ∷ 32 ∷ []

abbrev pub crash_text : List ℕ
crash_text = 116 ∷ 104 ∷ 101 ∷ 32 ∷ 112 ∷ 111 ∷ 119 ∷ 101 ∷ 114 ∷ 32 ∷ 102 ∷ 97 ∷ 105 ∷ 108 ∷ 115 ∷ 58 ∷ 32 ∷ []

-- "persistent: link ", ", history ", ", area "
abbrev pub link_text : List ℕ
link_text = 112 ∷ 101 ∷ 114 ∷ 115 ∷ 105 ∷ 115 ∷ 116 ∷ 101 ∷ 110 ∷ 116 ∷ 58 ∷ 32 ∷ 108 ∷ 105 ∷ 110 ∷ 107 ∷ 32 ∷ []

abbrev pub history_text : List ℕ
history_text = 44 ∷ 32 ∷ 104 ∷ 105 ∷ 115 ∷ 116 ∷ 111 ∷ 114 ∷ 121 ∷ 32 ∷ []

abbrev pub area_text : List ℕ
area_text = 44 ∷ 32 ∷ 97 ∷ 114 ∷ 101 ∷ 97 ∷ 32 ∷ []

-- a name, and the answer's number and value; 32 is the space, 10 the line feed
unfoldable pub line : List ℕ → ℕ → ℕ → List ℕ
line name n v = (name ++ decimal n) ++ (((32 ∷ []) ++ decimal v) ++ (10 ∷ []))

-- an operation that is done is written; of its lines before the last nothing is
unfoldable pub answered : ℕ → ℕ → List ℕ
answered n v =
    pick (eqb n 1) (line begin_text n v)
    (pick (eqb n 3) (line write_text n v) (pick (eqb n 4) (line commit_text n v) (pick (eqb n 6) (line recovery_text n v) [])))

-- the three persistent words
unfoldable pub words : List ℕ → List ℕ
words pers =
    (link_text ++ decimal (get_or pers 0 0)) ++ ((history_text ++ decimal (get_or pers 1 0)) ++ ((area_text ++ decimal (get_or pers 2 0)) ++ (10 ∷ [])))

-- they are written at a crash, and after a commit and recovery
unfoldable pub tells : Bool → ℕ → ℕ → List ℕ → List ℕ
tells crashed n v pers =
    pick crashed (words pers ++ line crash_text n v) (pick (ltb n 4) (answered n v) (answered n v ++ words pers))

abbrev pub is_crash : Sys → Bool
is_crash (flush w) = false
is_crash crash = true
is_crash recover = false
is_crash (recover_up_to b) = false

abbrev pub power_fails : Call → Bool
power_fails (on i a) = false
power_fails (sys k) = is_crash k

abbrev pub told : Call → Reply → List ℕ → List ℕ
told c a pers = tells (power_fails c) a.number a.value pers

-- ---- after the first i calls: the store, and the text in a buffer

unfoldable pub store_at : ℕ → Store
store_at zero = fresh 4
store_at (suc i) = (call (store_at i) (asked_at i)).store

abbrev pub outcome_at : ℕ → Outcome
outcome_at i = call (store_at i) (asked_at i)

unfoldable pub text_at : List ℕ → ℕ → Buffer
text_at out zero = buffer out 0
text_at out (suc i) = puts (text_at out i) (told (asked_at i) (outcome_at i).reply (outcome_at i).store.mem.pers)
