use mathlib.Core.Path.{sym, ◌∙◌}
use Rattle.calls.proofs.Outcome.{meets_refuse, meets_succeed}
use Rattle.calls.specs.Call.{outcome}
use Rattle.channels.proofs.Found.{channel_named}
use Rattle.channels.specs.Calls.{pending}
use Rattle.channels.proofs.pending.Goals as goal

pub returns-in_default : goal.returns-in_default
unfolding pending outcome
returns-in_default c = meets_refuse _ _ _ _ (rw (sym c.channel_named.ensures ∙ c.in_default.is))

pub returns-then-not-is_immediate : goal.returns-then-not-is_immediate
unfolding pending outcome
returns-then-not-is_immediate c =
    let f = (channel_named _ _ _ (sym c.channel_named.ensures ∙ c.in-Some.is)) in
    meets_refuse _ _ _ _ (rw (f.finds, sym c.is_immediate.ensures ∙ c.if-not-is_immediate.true))

pub queue_at-requires : goal.queue_at-requires
queue_at-requires c = (channel_named _ _ _ (sym c.channel_named.ensures ∙ c.in-Some.is)).below

pub returns-then-not-is_waiting : goal.returns-then-not-is_waiting
unfolding pending outcome
returns-then-not-is_waiting c =
    let f = (channel_named _ _ _ (sym c.channel_named.ensures ∙ c.in-Some.is)) in
    meets_refuse _ _ _ _ (rw (f.finds, sym c.is_immediate.ensures ∙ c.if-not-is_immediate.false, rw c.queue_at.ensures.0 at (sym c.is_waiting.ensures ∙ c.if-not-is_waiting.true)))

pub returns : goal.returns
unfolding pending outcome
returns c =
    let f = (channel_named _ _ _ (sym c.channel_named.ensures ∙ c.in-Some.is)) in
    meets_succeed _ _ _ (rw (f.finds, sym c.is_immediate.ensures ∙ c.if-not-is_immediate.false, rw c.queue_at.ensures.0 at (sym c.is_waiting.ensures ∙ c.if-not-is_waiting.false)))
