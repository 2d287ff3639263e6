-- `put_digits` meets its contract: each turn sets the last digit that is still to come, and after the last turn none is.
use Prim.Native.Nat.{ℕ, suc, ◌+◌, ◌-◌, ◌%◌}
use mathlib.Core.Path.{◌≡◌, refl, ap, ◌∙◌}
use mathlib.Core.List.{List}
use native.Mathlib.Omega.{arith}
use lib.ListN.{length-set}
use lib.Seq.{sets}
use Rattle.text.proofs.Backwards.{last_digits, backwards-all, backwards-one, backwards-end, narrow}
use Rattle.text.proofs.Page.put_digits.Goals as goal

pub loop-i-init : goal.loop-i-init
loop-i-init c =
    let out : List ℕ = c.args.self.now.bytes.now in
    let at : ℕ = c.args.self.now.at in
    let width = c.digit_count-width.ensures in
    record {
      same = (refl, refl);
      long = refl;
      room = omega (arith, width, c.requires, narrow c.args.n c.ranges.n.fits);
      digits = ap (λ (i : ℕ). sets out at (last_digits i c.args.n)) width ∙ backwards-all out at c.args.n;
    }

pub loop-i-preserved : goal.loop-i-preserved
loop-i-preserved c =
    let turn = c.loop-i in
    let out : List ℕ = turn.self.bytes.now in
    let at : ℕ = c.args.self.now.at in
    let last : suc (turn.i - 1) ≡ turn.i = omega arith in
    let one = backwards-one out at (turn.i - 1) turn.rest ∙ ap (λ (k : ℕ). sets out at (last_digits k turn.rest)) last in
    record {
      same = turn.invariant.same;
      long = length-set out (at + (turn.i - 1)) (48 + turn.rest % 10) ∙ turn.invariant.long;
      room = turn.invariant.room;
      digits = one ∙ turn.invariant.digits;
    }

pub returns-clause-text : goal.returns-clause-text
returns-clause-text c =
    let none : c.loop-i.i ≡ 0 = omega arith in
    backwards-end _ _ _ _ _ c.loop-i.rest c.digit_count-width.ensures c.loop-i.invariant.room (rw none at c.loop-i.invariant.digits)
