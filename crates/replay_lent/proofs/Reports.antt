-- The program's buffer has room for any text, so all that is printed of a trace stands in it.
use Prim.Native.Nat.{ℕ, ◌≤◌}
use mathlib.Core.Path.{◌≡◌, sym, ap, subst, ◌∙◌}
use mathlib.Core.List.{List, ◌++◌}
use lib.ListN.{length, drop, replicate}
use lib.Seq.{length-take-le}
use Rattle.std.specs.Prelude.{Result}
use Rattle.std.specs.Result.{result_unwrap_or}
use Rattle.io.specs.Counts.{IsPrefixLen}
use Rattle.dtml.specs.declared.Phase.TheVariants.{Fresh}
use Rattle.dtml.specs.Store.{tx}
use Rattle.machine.specs.declared.Held.{Held}
use Rattle.machine.specs.Given.{store_of}
use Rattle.reader.specs.declared.TraceRefusal.{TraceRefusal}
use Rattle.reader.specs.Said.{header_of, header_said}
use Rattle.text.specs.Buffer.{buffer, puts}
use Rattle.day.specs.Replay.{replay, text_of, printed}
use Rattle.day.specs.Ends.{longest}
use Rattle.day.proofs.Shown.{same_text, stands}

module _ (bs : List ℕ) (head : Result ℕ TraceRefusal) (said : header_said head ≡ header_of bs) (n : ℕ) (words : n ≡ result_unwrap_or head 0) where
  pub reports : (vol pers old : List ℕ) (held : Held) → n ≡ length vol → n ≡ length pers → n ≡ length old → (out out' : List ℕ) (r : ℕ) → length out ≡ longest
      → (buffer out' r ≡ puts (buffer out 0) (text_of (replay bs (store_of vol pers old held (replicate 64 (tx 0 Fresh))))))
      × (length (text_of (replay bs (store_of vol pers old held (replicate 64 (tx 0 Fresh))))) ≤ longest)
      → (out' ≡ printed bs ++ drop r out) × (r ≡ length (printed bs)) × IsPrefixLen r out'
  reports vol pers old held v p o out out' r room e =
      let text = same_text bs head said n words vol pers old held v p o in
      let told = stands bs out out' r room (e.0 ∙ ap (puts (buffer out 0)) text, subst (λ (t : List ℕ). length t ≤ longest) text e.1) in
      (told.0, told.1, (told.2, sym (length-take-le r out' told.2)))
