-- Who lends as much of each row as the header names words gets the text that hangs on the trace alone.
use Prim.Native.Nat.{ℕ, ◌≤◌}
use mathlib.Core.Path.{◌≡◌, refl, sym, ap, subst, ◌∙◌}
use native.Mathlib.Omega.{arith}
use mathlib.Core.List.{List, ◌++◌}
use lib.ListN.{length, replicate, drop, length-append}
use Rattle.std.specs.Prelude.{Result, Ok, Err}
use Rattle.std.specs.Result.{result_unwrap_or}
use Rattle.dtml.specs.declared.Phase.TheVariants.{Fresh}
use Rattle.dtml.specs.Store.{tx}
use Rattle.machine.specs.declared.Held.{Held}
use Rattle.machine.specs.Given.{store_of}
use Rattle.reader.specs.declared.TraceRefusal.{TraceRefusal}
use Rattle.reader.specs.Said.{header_of, header_said}
use Rattle.reader.specs.Trace.{words_of}
use Rattle.reader.proofs.Scripts.{ok-not-err, header-sound}
use Rattle.text.specs.Buffer.{Buffer, buffer, puts}
use Rattle.text.proofs.Laws.{puts-fits}
use Rattle.day.specs.declared.Replayed.{Replayed}
use Rattle.day.specs.Replay.{replay, text_of, printed}
use Rattle.day.specs.Ends.{longest, EndsBeside}
use Rattle.day.proofs.Printed.{prints}

-- the words that a program lends: as many as the header names, and none if it is refused
abbrev Lends : List ℕ → ℕ → Type 0
Lends bs n = (n ≤ 256) × ((w : ℕ) → header_of bs ≡ Ok w → n ≡ words_of bs)

lends : (bs : List ℕ) (head : Result ℕ TraceRefusal) → header_said head ≡ header_of bs → Lends bs (result_unwrap_or head 0)
lends bs (Ok w) said = let k = header-sound bs w (sym said) in (omega arith, λ v taken. k.0)
lends bs (Err refusal) said = (omega arith, λ w taken. ok-not-err (sym (said ∙ taken)))

module _ (bs : List ℕ) (head : Result ℕ TraceRefusal) (said : header_said head ≡ header_of bs) (n : ℕ) (words : n ≡ result_unwrap_or head 0) where
  lent : Lends bs n
  lent = subst (Lends bs) (sym words) (lends bs head said)

  pub few_words : n ≤ 256
  few_words = lent.0

  module _ (vol pers old : List ℕ) (held : Held) (v : n ≡ length vol) (p : n ≡ length pers) (o : n ≡ length old) where
    pub same_text : text_of (replay bs (store_of vol pers old held (replicate 64 (tx 0 Fresh)))) ≡ printed bs
    same_text =
        prints bs (store_of vol pers old held (replicate 64 (tx 0 Fresh)))
        (λ w taken. record { vol = sym v ∙ lent.1 w taken; pers = sym p ∙ lent.1 w taken; old = sym o ∙ lent.1 w taken; txs = refl })

    pub shown : (out out' vol' pers' old' : List ℕ) (r : Replayed) → EndsBeside bs (store_of vol pers old held) 64 r vol' pers' old' out out'
        → (buffer out' r.ended.length ≡ puts (buffer out 0) (printed bs)) × (length (printed bs) ≤ longest)
    shown out out' vol' pers' old' r beside =
        let e = beside.ends (replicate 64 (tx 0 Fresh)) refl in
        (e.text ∙ ap (puts (buffer out 0)) same_text, subst (λ (t : List ℕ). length t ≤ longest) same_text e.short)

-- In a buffer that has room for any text all of it stands, from the start.
pub stands : (bs out out' : List ℕ) (r : ℕ) → length out ≡ longest → (buffer out' r ≡ puts (buffer out 0) (printed bs)) × (length (printed bs) ≤ longest)
    → (out' ≡ printed bs ++ drop r out) × (r ≡ length (printed bs)) × (r ≤ length out')
stands bs out out' r room told =
    let short : length (printed bs) ≤ longest = told.1 in
    let laid : buffer out' r ≡ buffer (printed bs ++ drop (length (printed bs)) out) (length (printed bs)) = told.0 ∙ puts-fits out (printed bs) (rw room short) in
    let place : r ≡ length (printed bs) = ap (λ (b : Buffer). b.at) laid in
    let all = ap (λ (b : Buffer). length b.bytes) laid in
    let both = length-append (printed bs) (drop (length (printed bs)) out) in
    (ap (λ (b : Buffer). b.bytes) laid ∙ ap (λ (k : ℕ). printed bs ++ drop k out) (sym place), place, omega arith)
