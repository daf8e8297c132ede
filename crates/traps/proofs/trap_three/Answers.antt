use Rattle.calls.specs.Call.{outcome}
use Rattle.traps.specs.Traps.{trap_three}
use Rattle.calls.proofs.Outcome.{meets_refuse}
use borrow.Author.Tests.{ne_eqb}
use native.Mathlib.Omega.{arith}
use Rattle.traps.proofs.trap_three.Goals as goal

pub returns-in-0 : goal.returns-in-0
unfolding trap_three outcome
returns-in-0 c = rw c.in-0.is c.pending.ensures

pub returns-in-1 : goal.returns-in-1
unfolding trap_three outcome
returns-in-1 c = rw c.in-1.is c.fetch.ensures

pub returns-in-5 : goal.returns-in-5
unfolding trap_three outcome
returns-in-5 c = rw c.in-5.is c.send.ensures

pub returns-in_default : goal.returns-in_default
unfolding trap_three outcome
returns-in_default c = meets_refuse _ _ _ _ (rw (ne_eqb c.args.code 0x0 (λ e. omega arith), ne_eqb c.args.code 0x1 (λ e. omega arith), ne_eqb c.args.code 0x5 (λ e. omega arith)))
