-- `numbers::held::read_held` meets its contract: eight numbers spell what is held exactly if the last four are those that it is spelled by.
use Rattle.std.proofs.Common.{rules, ◌≡◌, ap, sym, length, ◌∙◌}
use Rattle.numbers.specs.Ways.{spells_held}
use Rattle.numbers.proofs.Beside.{tested}
use Rattle.numbers.proofs.held.read_held.Goals as goal

pub returns-then-ne : goal.returns-then-ne
returns-then-ne c =
    let numbers = c.in_ok-numbers.field-0.now in
    let here : numbers ≡ c.args.held.now = search rules in
    let long : length numbers ≡ 8 = search rules in
    rw (ap spells_held (sym here) ∙ tested numbers {r = c.held_of-read.result} long (search rules) c.spell_recovery-s.ensures c.if-ne.ensures)

pub returns : goal.returns
returns c =
    let numbers = c.in_ok-numbers.field-0.now in
    let here : numbers ≡ c.args.held.now = search rules in
    let long : length numbers ≡ 8 = search rules in
    rw (ap spells_held (sym here) ∙ tested numbers {r = c.held_of-read.result} long (search rules) c.spell_recovery-s.ensures c.if-ne.ensures) (search rules)
