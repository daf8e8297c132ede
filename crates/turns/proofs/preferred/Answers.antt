use native.Mathlib.Omega.{arith}
use Rattle.turns.proofs.Pick.{idle_passed, first_taken, more_taken, less_passed}
use mathlib.Core.Path.{sym, ◌∙◌}
use Rattle.turns.proofs.preferred.Goals as goal

pub returns-then-not-is_ready : goal.returns-then-not-is_ready
returns-then-not-is_ready c =
    let a = c.args in
    idle_passed a.p.now a.m a.k (sym c.is_ready.ensures ∙ c.if-not-is_ready.true)

pub returns-then-m-eq-JOBS : goal.returns-then-m-eq-JOBS
returns-then-m-eq-JOBS c =
    let a = c.args in
    first_taken a.p.now a.m a.k (sym c.is_ready.ensures ∙ c.if-not-is_ready.false) c.if-m-eq-JOBS.true

pub returns-then-field_of : goal.returns-then-field_of
returns-then-field_of c =
    let a = c.args in
    more_taken a.p.now a.m a.k (sym c.is_ready.ensures ∙ c.if-not-is_ready.false) c.if-m-eq-JOBS.false (omega (arith, c.field_of.ensures, c.field_of-2.ensures))

pub returns : goal.returns
returns c =
    let a = c.args in
    less_passed a.p.now a.m a.k (sym c.is_ready.ensures ∙ c.if-not-is_ready.false) c.if-m-eq-JOBS.false (omega (arith, c.field_of.ensures, c.field_of-2.ensures))
