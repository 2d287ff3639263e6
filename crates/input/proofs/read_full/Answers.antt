-- `input::read_full` meets its contract: what a read puts behind what is filled is what the reader gave next.
use Rattle.std.proofs.Common.{◌≡◌, ℕ, ◌+◌, ◌-◌, ◌≤◌, List, ◌++◌, arith, length, take, drop, sym, ap, ◌∙◌, subst, le_refl, drop_at, length-take-le}
use Rattle.std.proofs.lemmas.Slice.{take-put_mid_below}
use Rattle.std.specs.Io.KnownBytes.{Consumes}
use Rattle.std.proofs.KnownBytes.{Consumes-trans}
use borrow.Rule.Slice.PartMut.{put_mid, post_of}
use lib.Seq.{take-add, take-append-le}
use Rattle.input.proofs.read_full.Goals as goal

take-filled : (a k n : ℕ) (xs ys : List ℕ) → a ≤ length xs → n ≤ length ys → take (a + n) (put_mid a k xs ys) ≡ take a xs ++ take n ys
take-filled a k n xs ys within fits =
    let after = post_of a k xs in
    take-add a n (put_mid a k xs ys)
    ∙ ap (λ l. l ++ take n (drop a (put_mid a k xs ys))) (take-put_mid_below a k xs ys a (le_refl a) within)
    ∙ ap (λ l. take a xs ++ take n l) (drop_at (take a xs) (ys ++ after) a (length-take-le a xs within))
    ∙ ap (λ l. take a xs ++ l) (take-append-le n ys after fits)

pub loop-got-preserved : goal.loop-got-preserved
loop-got-preserved g c =
    let got = c.loop-got.got in
    let room = length c.loop-got.bytes - got in
    let filled = take-filled got room c.in-Ok.n c.loop-got.bytes c.read.new.buf c.loop-got.invariant.within c.in-Ok.ensures.bound.0 in
    record {
      within = omega (arith, c.in-Ok.ensures.bound.0, c.read.auto.buf, c.loop-got.invariant.within);
      read = subst (Consumes _ _) (sym filled) (Consumes-trans _ _ _ _ _ c.loop-got.invariant.read c.in-Ok.ensures.bytes.0);
    }
