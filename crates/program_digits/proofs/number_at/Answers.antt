use Rattle.std.proofs.Common.{sym, ◌∙◌, arith}
use Rattle.program_digits.proofs.Reader.{digits_at, digits_inside, number_more, number_none, power_more, seven}
use Rattle.program_digits.proofs.number_at.Goals as goal

pub loop-k-init : goal.loop-k-init
loop-k-init c = (sym (number_none _ _), omega arith)

pub overflow_mul-value : goal.overflow_mul-value
overflow_mul-value c = omega (arith, seven c.loop-k.k _ (omega arith) c.loop-k.invariant.1)

pub overflow_add-place : goal.overflow_add-place
overflow_add-place c = omega (arith, digits_inside _ _ _ c.loop-k.k c.requires.good c.loop-k-test.true)

pub bounds-text-place : goal.bounds-text-place
bounds-text-place c = digits_inside _ _ _ c.loop-k.k c.requires.good c.loop-k-test.true

pub worth_of-requires : goal.worth_of-requires
worth_of-requires c = digits_at _ _ _ c.loop-k.k c.requires.good c.loop-k-test.true

pub overflow_add-value : goal.overflow_add-value
overflow_add-value c = omega (arith, seven c.loop-k.k _ (omega arith) c.loop-k.invariant.1)

pub loop-k-preserved : goal.loop-k-preserved
loop-k-preserved c =
    let d = c.loop-k in
    let w = c.worth_of.ensures in
    (sym (number_more _ _ _ ∙ rw (← d.invariant.0, ← w.value)), power_more d.k _ _ d.invariant.1 w.small)
