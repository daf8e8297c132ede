use native.Mathlib.Omega.{arith}
use Rattle.queues.specs.Ring.{Ring}
use mathlib.Core.Path.{sym, ◌∙◌, subst}
use Rattle.calls.proofs.Outcome.{meets_refuse, meets_succeed}
use Rattle.calls.specs.Call.{outcome}
use Rattle.channels.proofs.Found.{channel_named, named_queue}
use Rattle.channels.specs.Calls.{fetch}
use Rattle.channels.proofs.fetch.Goals as goal

pub returns-in_default : goal.returns-in_default
unfolding fetch outcome
returns-in_default c = meets_refuse _ _ _ _ (rw (sym c.channel_named.ensures ∙ c.in_default.is))

pub returns-then-not-is_immediate : goal.returns-then-not-is_immediate
unfolding fetch outcome
returns-then-not-is_immediate c =
    let f = (channel_named _ _ _ (sym c.channel_named.ensures ∙ c.in-Some.is)) in
    meets_refuse _ _ _ _ (rw (f.finds, sym c.is_immediate.ensures ∙ c.if-not-is_immediate.true))

pub queue_at-i-requires : goal.queue_at-i-requires
queue_at-i-requires c = (channel_named _ _ _ (sym c.channel_named.ensures ∙ c.in-Some.is)).below

pub returns-then-not-is_waiting : goal.returns-then-not-is_waiting
unfolding fetch outcome
returns-then-not-is_waiting c =
    let f = (channel_named _ _ _ (sym c.channel_named.ensures ∙ c.in-Some.is)) in
    meets_refuse _ _ _ _ (rw (f.finds, sym c.is_immediate.ensures ∙ c.if-not-is_immediate.false, rw c.queue_at-i.ensures.0 at (sym c.is_waiting.ensures ∙ c.if-not-is_waiting.true)))

pub take_oldest-requires : goal.take_oldest-requires
take_oldest-requires c = (omega (arith, c.queue_at-i.ensures.1), (subst (Ring c.args.p.now) (sym c.queue_at-i.ensures.0) (named_queue c.args.p.now _ _ c.requires (channel_named _ _ _ (sym c.channel_named.ensures ∙ c.in-Some.is))).ring, sym c.is_waiting.ensures ∙ c.if-not-is_waiting.false))

pub returns : goal.returns
unfolding fetch outcome
returns c =
    let f = (channel_named _ _ _ (sym c.channel_named.ensures ∙ c.in-Some.is)) in
    rw (c.take_oldest.ensures, c.put.ensures, c.oldest_of.ensures, c.queue_at-i.ensures.0) (meets_succeed _ _ _ (rw (f.finds, sym c.is_immediate.ensures ∙ c.if-not-is_immediate.false, rw c.queue_at-i.ensures.0 at (sym c.is_waiting.ensures ∙ c.if-not-is_waiting.false))))
