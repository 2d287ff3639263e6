-- `reader::trace::seen_at` meets its contract: the place after a record lies inside the trace, so it fits.
use mathlib.Core.Path.{◌≡◌, sym, ap, ◌∙◌}
use native.Mathlib.Omega.{arith}
use Rattle.std.proofs.Common.{rules, Some, Ok}
use Rattle.reader.specs.Said.{item}
use Rattle.reader.proofs.Scripts.{after-inside}
use Rattle.reader.proofs.trace.seen_at.Goals as goal

pub overflow_add-after : goal.overflow_add-after
overflow_add-after c =
    let args = c.args in
    let here = c.in-Some-Ok.«record» in
    let here_is : c.item_at-item.result ≡ Some (Ok here) = search rules in
    let z = after-inside args.trace.now args.at here.call here.bytes (sym c.item_at-item.ensures ∙ ap item here_is) in
    omega arith
