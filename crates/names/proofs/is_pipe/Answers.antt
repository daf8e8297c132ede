use Rattle.std.proofs.Common.{◌<◌, length, sym, arith}
use borrow.Author.Tests.{lt-leb}
use Rattle.words.proofs.Tests.{otherwise, same_test}
use Rattle.names.proofs.Pipe.{pipe_long, spells, spelled}
use Rattle.names.proofs.is_pipe.Goals as goal

pub returns-then-name-ge-UNDERSCORE_AT : goal.returns-then-name-ge-UNDERSCORE_AT
returns-then-name-ge-UNDERSCORE_AT c =
    let l = c.if-name-ge-UNDERSCORE_AT.true in
    same_test _ _ (λ h. spells _ l (c.eq_ignore_ascii_case.ensures.test.0 h)) (λ h. c.eq_ignore_ascii_case.ensures.test.1 (spelled _ l h))

pub returns-else-name-ge-UNDERSCORE_AT : goal.returns-else-name-ge-UNDERSCORE_AT
returns-else-name-ge-UNDERSCORE_AT c =
    let s : length c.args.name.now < 4 = c.if-name-ge-UNDERSCORE_AT.false in
    rw (lt-leb 4 _ s) (sym (otherwise _ (λ h. let l = pipe_long _ h in omega arith)))
