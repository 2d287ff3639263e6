-- The stores that the program makes, the calls on them, and what it prints of the last.
use Rattle.std.specs.Prelude.{ℕ, zero, suc, ◌^◌, List, get_or, set, replicate, eqb, ltb}
use Rattle.bits.specs.Marks.{pick, mark_of}
use Rattle.dtml.specs.declared.Phase.TheVariants.{Fresh}
use Rattle.dtml.specs.declared.Recovery.{Recovery}
use Rattle.dtml.specs.declared.Recovery.TheVariants.{Idle, C2}
use Rattle.dtml.specs.declared.Tx.{Tx}
use Rattle.dtml.specs.declared.Ask.TheVariants.{Step as step}
use Rattle.dtml.specs.declared.Call.{Call}
use Rattle.dtml.specs.declared.Call.TheVariants.{On as on}
use Rattle.dtml.specs.Table.{says}
use Rattle.dtml.specs.Store.{Store, memory, store, tx}
use Rattle.dtml.specs.Asked.{Outcome, outcome}
use Rattle.dtml.specs.Calls.{call}
use Rattle.text.specs.Text.{answer_line}
use Rattle.pace.specs.declared.Kind.{Kind}
use Rattle.pace.specs.declared.Kind.TheVariants.{Fresh as fresh, ShortOldRow as short_old_row, MarkPastTheRows as mark_past_the_rows, HighCount as high_count, NoMarkAtC2 as no_mark_at_C2, HighLoc as high_loc}

-- ---- the stores: 0 is fresh, and so is any number that is not named here. Each of the others is unfit by one thing

unfoldable pub kind_of : ℕ → Kind
kind_of k =
    pick (eqb k 1) short_old_row
    (pick (eqb k 2) mark_past_the_rows (pick (eqb k 3) high_count (pick (eqb k 4) no_mark_at_C2 (pick (eqb k 5) high_loc fresh))))

-- word 255 is marked, and the rows end before it
abbrev pub words_of : Kind → ℕ
words_of mark_past_the_rows = 255
words_of _ = 256

abbrev pub marks_of : Kind → List ℕ
marks_of mark_past_the_rows = mark_of (replicate 4 0) 255
marks_of _ = replicate 4 0

-- the old row is one word short
abbrev pub old_words_of : Kind → ℕ
old_words_of short_old_row = 255
old_words_of k = words_of k

abbrev pub count_of : Kind → ℕ
count_of high_count = 65536
count_of _ = 0

-- recovery is at C2, and no word is marked
abbrev pub recovery_of : Kind → Recovery
recovery_of no_mark_at_C2 = C2
recovery_of _ = Idle

-- of the last record
abbrev pub records_of : Kind → List Tx
records_of high_loc = set (replicate 64 (tx 0 Fresh)) 63 (tx 65536 Fresh)
records_of _ = replicate 64 (tx 0 Fresh)

unfoldable pub store_of : Kind → Store
store_of k =
    store (memory (replicate (words_of k) 0) (replicate (words_of k) 0) (replicate (old_words_of k) 0) (marks_of k) (count_of k)) (recovery_of k) (records_of k)

-- ---- the calls

-- so many times the same call, each on the store that the one before it left
unfoldable pub calls : ℕ → Call → Outcome → Outcome
calls zero c o = o
calls (suc n) c o = call (calls n c o).store c

-- 2 to the power e, and above 2 to the power 30 only one
abbrev pub times_of : ℕ → ℕ
times_of e = pick (ltb 30 e) 1 (2 ^ e)

-- a step of transaction 0, on a store of which nothing is answered yet
abbrev pub last_of : Kind → ℕ → Outcome
last_of k n = calls n (on 0 step) (outcome (says 0 0) (store_of k))

-- ---- what is printed: the number of calls, and the last answer's number and value

abbrev pub line_of : ℕ → Outcome → List ℕ
line_of n o = answer_line n o.reply.number o.reply.value

-- the first byte says which store, the second how many calls; a byte that is not there is 0
unfoldable pub printed : List ℕ → List ℕ
printed bytes = line_of (times_of (get_or bytes 1 0)) (last_of (kind_of (get_or bytes 0 0)) (times_of (get_or bytes 1 0)))
