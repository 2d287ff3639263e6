-- `parts::words::flush_word` meets its contract: the tests are those of the definition, and where both hold the word is copied.
use Rattle.parts.specs.Flush.{flush_in}
use Rattle.dtml.specs.Lines.{flush_of}
use borrow.Author.Tests.{lt-ltb, le-ltb}
use Rattle.parts.proofs.words.flush_word.Goals as goal

pub returns-then-word-pers : goal.returns-then-word-pers
unfolding flush_in flush_of
returns-then-word-pers c = rw (lt-ltb _ _ c.if-word-vol.true, lt-ltb _ _ c.if-word-pers.true)

pub returns-else-word-pers : goal.returns-else-word-pers
unfolding flush_in
returns-else-word-pers c = rw (lt-ltb _ _ c.if-word-vol.true, le-ltb _ _ c.if-word-pers.false)

pub returns-else-word-vol : goal.returns-else-word-vol
unfolding flush_in
returns-else-word-vol c = rw (le-ltb _ _ c.if-word-vol.false)
