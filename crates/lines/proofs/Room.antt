-- What a line asks of the memory it is handed, from the test that it is fit: each bound is a part of that test.
use Prim.Native.Nat.{ℕ, ◌<◌}
use mathlib.Core.Path.{◌≡◌, sym, ◌∙◌}
use mathlib.Core.Bool.{false}
use native.Mathlib.Omega.{arith}
use borrow.Author.Tests.{leb-false}
use lib.Dec.{leb}
use lib.ListN.{length}
use Rattle.dtml.specs.declared.Phase.{Phase}
use Rattle.dtml.specs.declared.Recovery.TheVariants.{Idle}
use Rattle.dtml.specs.declared.Tx.{Tx}
use Rattle.dtml.specs.Store.{Memory, size}
use Rattle.dtml.specs.Checks.{phase_past, unfit_memory, unfit_tx}
use Rattle.dtml.proofs.Fit.{fits, tx-fits}
use Rattle.lines.specs.Room.{Room}

pub room : (m : Memory) (t : Tx) → unfit_memory m Idle ≡ false → unfit_tx (size m) t ≡ false → Room m t
room m t beside own =
    let f = fits (length m.vol) (length m.pers) (length m.old) m.marks m.glb Idle beside in
    let u = tx-fits (size m) t own in
    record {
      pers-long = f.pers-long;
      old-long = f.old-long;
      glb-low = f.glb-low;
      loc-low = u.loc-low;
      word-there = u.word_in;
    }

-- the word that the phase names, where its test is that one
pub word_in : {m : Memory} {t : Tx} (p : Phase) (w : ℕ) → Room m t
    → t.phase ≡ p → phase_past (size m) p ≡ leb (size m) w → (w < length m.vol) × (w < length m.pers) × (w < length m.old)
word_in {m} p w r is test =
    let there : w < size m = leb-false (size m) w (sym test ∙ (rw is at r.word-there)) in
    omega arith
