-- The program's buffer has room for any text, so all that is printed of a trace stands in it.
use Prim.Native.Nat.{ℕ, ◌≤◌}
use mathlib.Core.Path.{◌≡◌, sym}
use mathlib.Core.List.{List, ◌++◌}
use lib.ListN.{length, drop}
use lib.Seq.{length-take-le}
use Rattle.io.specs.Counts.{IsPrefixLen}
use Rattle.text.specs.Buffer.{buffer, puts}
use Rattle.day.specs.Replay.{printed}
use Rattle.day.specs.Ends.{longest}
use Rattle.day.proofs.Shown.{stands}

pub reports : (bs out out' : List ℕ) (r : ℕ) → length out ≡ longest → (buffer out' r ≡ puts (buffer out 0) (printed bs)) × (length (printed bs) ≤ longest)
    → (out' ≡ printed bs ++ drop r out) × (r ≡ length (printed bs)) × IsPrefixLen r out'
reports bs out out' r room shown =
    let told = stands bs out out' r room shown in
    (told.0, told.1, (told.2, sym (length-take-le r out' told.2)))
