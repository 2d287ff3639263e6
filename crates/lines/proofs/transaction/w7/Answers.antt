-- `lines::transaction::w7` meets its contract: the word is in both rows, so the flush is the definition's.
use Rattle.parts.proofs.InRows.{in_rows}
use Rattle.lines.proofs.transaction.w7.Goals as goal

pub returns-clause-flushed : goal.returns-clause-flushed
returns-clause-flushed c = rw (c.flush_word.ensures.flushed, in_rows _ _ _ c.requires.0 c.requires.1)
