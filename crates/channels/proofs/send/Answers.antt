use native.Mathlib.Omega.{arith}
use Rattle.queues.specs.Ring.{Ring}
use mathlib.Core.Path.{sym, ◌∙◌, subst}
use Rattle.calls.proofs.Outcome.{meets_refuse, meets_succeed}
use Rattle.calls.specs.Call.{outcome}
use Rattle.channels.proofs.Found.{channel_named, named_queue}
use Rattle.channels.specs.Calls.{send}
use Rattle.channels.proofs.send.Goals as goal

pub returns-in_default : goal.returns-in_default
unfolding send outcome
returns-in_default c = meets_refuse _ _ _ _ (rw (sym c.channel_named.ensures ∙ c.in_default.is))

pub returns-then-not-is_immediate : goal.returns-then-not-is_immediate
unfolding send outcome
returns-then-not-is_immediate c =
    let f = (channel_named _ _ _ (sym c.channel_named.ensures ∙ c.in-Some.is)) in
    meets_refuse _ _ _ _ (rw (f.finds, sym c.is_immediate.ensures ∙ c.if-not-is_immediate.true))

pub queue_at-i-requires : goal.queue_at-i-requires
queue_at-i-requires c = (channel_named _ _ _ (sym c.channel_named.ensures ∙ c.in-Some.is)).below

pub returns-then-is_full : goal.returns-then-is_full
unfolding send outcome
returns-then-is_full c =
    let f = (channel_named _ _ _ (sym c.channel_named.ensures ∙ c.in-Some.is)) in
    meets_refuse _ _ _ _ (rw (f.finds, sym c.is_immediate.ensures ∙ c.if-not-is_immediate.false, rw c.queue_at-i.ensures.0 at (sym c.is_full.ensures ∙ c.if-is_full.true)))

pub add_newest-requires : goal.add_newest-requires
add_newest-requires c = ((omega (arith, c.queue_at-i.ensures.1), omega arith), (subst (Ring c.args.p.now) (sym c.queue_at-i.ensures.0) (named_queue c.args.p.now _ _ c.requires (channel_named _ _ _ (sym c.channel_named.ensures ∙ c.in-Some.is))).ring, sym c.is_full.ensures ∙ c.if-is_full.false))

pub returns : goal.returns
unfolding send outcome
returns c =
    let f = (channel_named _ _ _ (sym c.channel_named.ensures ∙ c.in-Some.is)) in
    rw (c.add_newest.ensures, c.word.ensures, c.queue_at-i.ensures.0) (meets_succeed _ _ _ (rw (f.finds, sym c.is_immediate.ensures ∙ c.if-not-is_immediate.false, rw c.queue_at-i.ensures.0 at (sym c.is_full.ensures ∙ c.if-is_full.false))))
