-- What is printed over plain values. So many calls and one more are the call on what so many left. The rows that are lent are parts of arrays of 256 zeros, as long as
-- the definition's, so the store is the definition's; and the buffer has room for any line of three numbers, so all of it stands there.
use Prim.Native.Nat.{ℕ, ◌+◌, ◌≤◌, ◌<◌, ◌^◌}
use native.Mathlib.Numerals.{add-one}
use native.Mathlib.Omega.{arith}
use mathlib.Core.Path.{◌≡◌, sym, ap, ◌∙◌}
use mathlib.Core.List.{List, ◌++◌}
use lib.ListN.{length, take, drop, replicate, length-append}
use lib.Seq.{length-take-le}
use Rattle.std.proofs.lemmas.List.{take-replicate}
use Rattle.std.specs.Prelude.{Ok}
use Rattle.io.specs.Counts.{IsPrefixLen}
use Rattle.dtml.specs.declared.Answer.TheVariants.{Taken}
use Rattle.dtml.specs.Table.{says}
use Rattle.dtml.specs.declared.Call.{Call}
use Rattle.dtml.specs.Asked.{Outcome, outcome}
use Rattle.dtml.specs.Calls.{call}
use Rattle.machine.specs.Given.{outcome_of}
use Rattle.text.specs.Buffer.{Buffer, buffer, puts}
use Rattle.text.specs.Text.{answer_line, line_of}
use Rattle.text.proofs.Laws.{puts-fits, decimal-short}
use Rattle.pace.specs.declared.Kind.{Kind}
use Rattle.pace.specs.declared.Kind.TheVariants.{ShortOldRow, MarkPastTheRows}
use Rattle.pace.specs.Pace.{words_of, marks_of, old_words_of, count_of, recovery_of, records_of, store_of, calls}

-- ---- the calls

pub one_more : (n : ℕ) (c : Call) (o : Outcome) → calls (n + 1) c o ≡ call (calls n c o).store c
unfolding calls
one_more n c o = ap (λ (k : ℕ). calls k c o) (add-one n)

-- ---- the rows

few : (k : Kind) → words_of k ≤ 256
few MarkPastTheRows = omega arith
few _ = omega arith

few-old : (k : Kind) → old_words_of k ≤ 256
few-old ShortOldRow = omega arith
few-old k = few k

pub lent : (k : Kind)
    → outcome_of (take (words_of k) (replicate 256 0)) (take (words_of k) (replicate 256 0)) (take (old_words_of k) (replicate 256 0)) (records_of k)
    (record { answer = Ok (Taken 0); held = record { marks = marks_of k; glb = count_of k; recovery = recovery_of k } }) ≡ outcome (says 0 0) (store_of k)
unfolding store_of
lent k = rw (take-replicate {X = ℕ} (words_of k) 256 0 (few k), take-replicate {X = ℕ} (old_words_of k) 256 0 (few-old k))

-- ---- the line
short : (r a v : ℕ) → r < 2 ^ 64 → a < 2 ^ 64 → v < 2 ^ 64 → length (answer_line r a v) ≤ 63
unfolding answer_line line_of
short r a v h i j =
    simp length-append (omega (arith, decimal-short 20 r (omega arith) (omega arith), decimal-short 20 a (omega arith) (omega arith), decimal-short 20 v (omega arith) (omega arith)))

pub stands : (out out' line : List ℕ) (at r a v : ℕ) → length out ≡ 64 → r < 2 ^ 64 → a < 2 ^ 64 → v < 2 ^ 64 → answer_line r a v ≡ line
    → buffer out' at ≡ puts (buffer out 0) (answer_line r a v) → (out' ≡ line ++ drop at out) × (at ≡ length line) × IsPrefixLen at out'
stands out out' line at r a v room h i j is put =
    let fits : length line ≤ length out = omega (arith, ap length is, short r a v h i j, room) in
    let laid : buffer out' at ≡ buffer (line ++ drop (length line) out) (length line) = put ∙ ap (puts (buffer out 0)) is ∙ puts-fits out line fits in
    let place : at ≡ length line = ap (λ (b : Buffer). b.at) laid in
    let all = ap (λ (b : Buffer). length b.bytes) laid in
    let both = length-append line (drop (length line) out) in
    let within : at ≤ length out' = omega arith in
    (ap (λ (b : Buffer). b.bytes) laid ∙ ap (λ (j : ℕ). line ++ drop j out) (sym place), place, (within, sym (length-take-le at out' within)))
