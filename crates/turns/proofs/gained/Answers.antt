use native.Mathlib.Omega.{arith}
use Rattle.turns.proofs.gained.Goals as goal

pub returns-then-accumulated-ge-HOLD : goal.returns-then-accumulated-ge-HOLD
returns-then-accumulated-ge-HOLD c = omega arith

pub overflow_sub-accumulated : goal.overflow_sub-accumulated
overflow_sub-accumulated c = omega arith

pub returns-then-accumulated-priority : goal.returns-then-accumulated-priority
returns-then-accumulated-priority c = omega arith

pub overflow_add-result : goal.overflow_add-result
overflow_add-result c = omega arith

pub returns : goal.returns
returns c = omega arith
