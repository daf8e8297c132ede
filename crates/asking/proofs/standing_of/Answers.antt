use native.Mathlib.Omega.{arith}
use Rattle.asking.specs.Ask.{standing}
use lib.IntN.{pos}
use Rattle.words.proofs.Signed.{bits_same, bits_differ}
use Rattle.asking.proofs.standing_of.Goals as goal

pub returns-then-timeout_of-eq0 : goal.returns-then-timeout_of-eq0
unfolding standing
returns-then-timeout_of-eq0 c =
    let t = c.timeout_of in
    rw (rw t.ensures at (bits_same t.result (pos 0) (record { sfits = t.type_inv }) (record { sfits = omega arith }) c.if-timeout_of-eq0.true), c.field_of-priority.ensures) (omega arith)

pub returns : goal.returns
unfolding standing
returns c =
    let t = c.timeout_of in
    rw (rw t.ensures at (bits_differ t.result (pos 0) (record { sfits = t.type_inv }) (record { sfits = omega arith }) c.if-timeout_of-eq0.false), c.field_of-priority.ensures)
