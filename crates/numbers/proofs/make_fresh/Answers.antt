-- `numbers::make_fresh` meets its contract: each return is the law on the way that led there, over what the functions called promise.
use Rattle.numbers.proofs.Whole.{answers, held-short, records-short, rows-refused, made-fresh}
use Rattle.numbers.proofs.make_fresh.Goals as goal

pub returns-then-held-ne8 : goal.returns-then-held-ne8
returns-then-held-ne8 c = answers c.number.ensures (held-short _ _ _ _ _ c.if-held-ne8.true)

pub returns-then-records-ne256 : goal.returns-then-records-ne256
returns-then-records-ne256 c = answers c.number-then-records-ne256.ensures (records-short _ _ _ _ _ c.if-records-ne256.true)

pub returns-in-Ok : goal.returns-in-Ok
returns-in-Ok c =
    answers c.number-in-Ok.ensures
    (made-fresh _ _ _ _ _ _ c.renew.ensures c.if-held-ne8.false c.if-records-ne256.false c.in-Ok.is (c.fill.ensures.after (λ y e. e)) (c.fill-in-Ok.ensures.after (λ y e. e)))

pub returns-in-Err : goal.returns-in-Err
returns-in-Err c = answers c.number-in-Err.ensures (rows-refused _ _ _ _ _ _ c.renew.ensures c.in-Err.is)
