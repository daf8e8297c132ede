use Rattle.turns.proofs.Pick.{picked_has_none, idle_keeps, ready_gains}
use mathlib.Core.Path.{sym, ◌∙◌}
use Rattle.turns.proofs.accumulated_after.Goals as goal

pub returns-then-k-m : goal.returns-then-k-m
returns-then-k-m c =
    let a = c.args in
    sym (picked_has_none a.p.now a.m a.k c.if-k-m.true)

pub returns-then-not-is_ready : goal.returns-then-not-is_ready
returns-then-not-is_ready c =
    let a = c.args in
    c.field_of-accumulated.ensures ∙ sym (idle_keeps a.p.now a.m a.k c.if-k-m.false (sym c.is_ready.ensures ∙ c.if-not-is_ready.true))

pub returns : goal.returns
returns c =
    let a = c.args in
    c.gained.ensures ∙ rw (c.field_of-accumulated.ensures, c.field_of.ensures) (sym (ready_gains a.p.now a.m a.k c.if-k-m.false (sym c.is_ready.ensures ∙ c.if-not-is_ready.false)))
