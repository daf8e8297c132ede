use Rattle.calls.specs.Call.{outcome}
use Rattle.traps.specs.Traps.{trap_one}
use Rattle.calls.proofs.Outcome.{meets_refuse}
use borrow.Author.Tests.{ne_eqb}
use native.Mathlib.Omega.{arith}
use Rattle.traps.proofs.trap_one.Goals as goal

pub returns-in-0 : goal.returns-in-0
unfolding trap_one outcome
returns-in-0 c = rw c.in-0.is c.information.ensures

pub returns-in-1 : goal.returns-in-1
unfolding trap_one outcome
returns-in-1 c = rw c.in-1.is c.create.ensures

pub returns-in-2 : goal.returns-in-2
unfolding trap_one outcome
returns-in-2 c = rw c.in-2.is c.ask.ensures

pub returns-in-4 : goal.returns-in-4
unfolding trap_one outcome
returns-in-4 c = rw c.in-4.is c.remove.ensures

pub returns-in-5 : goal.returns-in-5
unfolding trap_one outcome
returns-in-5 c = rw c.in-5.is c.force_remove.ensures

pub returns-in-6 : goal.returns-in-6
unfolding trap_one outcome
returns-in-6 c = rw c.in-6.is c.longest_room.ensures

pub returns-in-8 : goal.returns-in-8
unfolding trap_one outcome
returns-in-8 c = rw c.in-8.is c.suspend.ensures

pub returns-in-9 : goal.returns-in-9
unfolding trap_one outcome
returns-in-9 c = rw c.in-9.is c.release.ensures

pub returns-in-10 : goal.returns-in-10
unfolding trap_one outcome
returns-in-10 c = rw c.in-10.is c.activate.ensures

pub returns-in-11 : goal.returns-in-11
unfolding trap_one outcome
returns-in-11 c = rw c.in-11.is c.set_priority.ensures

pub returns-in-24 : goal.returns-in-24
unfolding trap_one outcome
returns-in-24 c = rw c.in-24.is c.take.ensures

pub returns-in-25 : goal.returns-in-25
unfolding trap_one outcome
returns-in-25 c = rw c.in-25.is c.give_back.ensures

pub returns-in_default : goal.returns-in_default
unfolding trap_one outcome
returns-in_default c = meets_refuse _ _ _ _ (rw (ne_eqb c.args.code 0x0 (λ e. omega arith), ne_eqb c.args.code 0x1 (λ e. omega arith), ne_eqb c.args.code 0x2 (λ e. omega arith), ne_eqb c.args.code 0x4 (λ e. omega arith), ne_eqb c.args.code 0x5 (λ e. omega arith), ne_eqb c.args.code 0x6 (λ e. omega arith), ne_eqb c.args.code 0x8 (λ e. omega arith), ne_eqb c.args.code 0x9 (λ e. omega arith), ne_eqb c.args.code 0xA (λ e. omega arith), ne_eqb c.args.code 0xB (λ e. omega arith), ne_eqb c.args.code 0x18 (λ e. omega arith), ne_eqb c.args.code 0x19 (λ e. omega arith)))
