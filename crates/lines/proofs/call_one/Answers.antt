-- `lines::call_one` meets its contract: where there is no record the answer is `nobody`'s, and where there is one, its identifier makes no difference.
use mathlib.Core.Path.{◌∙◌}
use borrow.Author.Tests.{le-leb}
use Rattle.lines.proofs.Called.{no_record, any-there}
use Rattle.lines.proofs.call_one.Goals as goal

pub returns-then-id-ge64-clause-left : goal.returns-then-id-ge64-clause-left
returns-then-id-ge64-clause-left c = rw c.nobody.ensures (no_record _ _ _ _ _ (le-leb _ _ c.if-id-ge64.true))

pub returns-clause-left : goal.returns-clause-left
returns-clause-left c = c.call_there.ensures.left ∙ any-there _ _ _ _ _ c.if-id-ge64.false
