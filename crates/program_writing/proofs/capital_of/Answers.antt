use borrow.Author.Tests.{lt-ltb, le-ltb}
use Rattle.program_writing.specs.Texts.{capital}
use Rattle.program_writing.proofs.capital_of.Goals as goal

pub returns-then-digit-lt10 : goal.returns-then-digit-lt10
unfolding capital
returns-then-digit-lt10 c = rw (lt-ltb _ _ c.if-digit-lt10.true)

pub returns-else-digit-lt10 : goal.returns-else-digit-lt10
unfolding capital
returns-else-digit-lt10 c = rw (le-ltb _ _ c.if-digit-lt10.false)
