-- The word that a recovery line names or chooses is there, from the test that what is handed in is fit.
use Prim.Native.Nat.{ℕ, ◌<◌}
use mathlib.Core.Path.{◌≡◌, sym, ◌∙◌}
use mathlib.Core.Bool.{false}
use mathlib.Core.List.{List}
use native.Mathlib.Omega.{arith}
use borrow.Author.Tests.{leb-false}
use lib.Dec.{leb}
use lib.ListN.{length}
use Rattle.bits.specs.Marks.{lowest_of}
use Rattle.dtml.specs.declared.Recovery.{Recovery}
use Rattle.dtml.specs.declared.Recovery.TheVariants.{C2}
use Rattle.dtml.specs.Checks.{unfit_recovery, unfit_beside}
use Rattle.dtml.proofs.Fit.{FitBeside, fits, lowest-in}
use Rattle.dtml.specs.Lines.{flush_of}
use Rattle.parts.specs.Flush.{flush_in}
use Rattle.parts.proofs.InRows.{in_rows}

pub chosen-in : (vol pers old : ℕ) (k : List ℕ) (g : ℕ) → unfit_beside vol pers old k g C2 ≡ false → (lowest_of k < old) × (lowest_of k < 256)
chosen-in vol pers old k g h =
    let f : FitBeside vol pers old k g C2 = fits vol pers old k g C2 h in
    let low : lowest_of k < vol = lowest-in k vol f.marks-in f.recovery-in in
    omega arith

-- the word that recovery names, where its test is that one
pub named_in : (vol pers old : ℕ) (k : List ℕ) (g : ℕ) (r : Recovery) (w : ℕ) → unfit_recovery vol k r ≡ leb vol w
    → unfit_beside vol pers old k g r ≡ false → (w < vol) × (w < pers)
named_in vol pers old k g r w test h =
    let f : FitBeside vol pers old k g r = fits vol pers old k g r h in
    let there : w < vol = leb-false vol w (sym test ∙ f.recovery-in) in
    omega arith

-- a word that is there is flushed as the definition says
pub flush-in : (vol pers old : List ℕ) (k : List ℕ) (g : ℕ) (r : Recovery) (w : ℕ) → unfit_beside (length vol) (length pers) (length old) k g r ≡ false
    → w < length vol → flush_in vol pers w ≡ flush_of vol pers w
flush-in vol pers old k g r w h there =
    let f = fits (length vol) (length pers) (length old) k g r h in
    in_rows vol pers w there (omega arith)
