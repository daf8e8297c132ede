use Rattle.calls.specs.Call.{outcome}
use Rattle.traps.specs.Traps.{trap_two}
use Rattle.calls.proofs.Outcome.{meets_refuse}
use borrow.Author.Tests.{ne_eqb}
use native.Mathlib.Omega.{arith}
use Rattle.traps.proofs.trap_two.Goals as goal

pub returns-in-1 : goal.returns-in-1
unfolding trap_two outcome
returns-in-1 c = rw c.in-1.is c.open_channel.ensures

pub returns-in-2 : goal.returns-in-2
unfolding trap_two outcome
returns-in-2 c = rw c.in-2.is c.close_channel.ensures

pub returns-in_default : goal.returns-in_default
unfolding trap_two outcome
returns-in_default c = meets_refuse _ _ _ _ (rw (ne_eqb c.args.code 0x1 (λ e. omega arith), ne_eqb c.args.code 0x2 (λ e. omega arith)))
