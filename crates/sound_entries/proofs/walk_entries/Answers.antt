use Rattle.sound_entries.proofs.Passed.{passed_blank, passed_live, not_blank, not_live, not_once, passed_all}
use mathlib.Core.Path.{sym, ◌∙◌}
use native.Mathlib.Omega.{arith}
use Rattle.sound_entries.proofs.walk_entries.Goals as goal

pub returns-then-not-is_blank_fine : goal.returns-then-not-is_blank_fine
returns-then-not-is_blank_fine c = not_blank _ _ _ (rw c.positions_of-k-end.ensures at c.loop-k-test.true) (sym c.is_used.ensures ∙ c.if-not-is_used.true) (sym c.is_blank_fine.ensures ∙ c.if-not-is_blank_fine.true)

pub loop-k-preserved-then-not-is_used : goal.loop-k-preserved-then-not-is_used
loop-k-preserved-then-not-is_used c = passed_blank _ _ _ _ _ c.loop-k.invariant (sym c.is_used.ensures ∙ c.if-not-is_used.true) (sym c.is_blank_fine.ensures ∙ c.if-not-is_blank_fine.false)

pub returns-then-not-is_live_fine : goal.returns-then-not-is_live_fine
returns-then-not-is_live_fine c = not_live _ _ _ (rw c.positions_of-k-end.ensures at c.loop-k-test.true) (sym c.is_used.ensures ∙ c.if-not-is_used.false) (sym c.is_live_fine.ensures ∙ c.if-not-is_live_fine.true)

pub returns-then-not-is_tag_once : goal.returns-then-not-is_tag_once
returns-then-not-is_tag_once c = not_once _ _ _ _ (rw c.positions_of-k-end.ensures at c.loop-k-test.true) (sym c.is_used.ensures ∙ c.if-not-is_used.false) (sym c.is_tag_once.ensures.value ∙ c.if-not-is_tag_once.true)

pub loop-k-preserved : goal.loop-k-preserved
loop-k-preserved c =
    rw c.is_tag_once.ensures.seen_after (passed_live _ _ _ _ _ _ c.loop-k.invariant (sym c.is_used.ensures ∙ c.if-not-is_used.false) (sym c.is_live_fine.ensures ∙ c.if-not-is_live_fine.false) (sym c.is_tag_once.ensures.value ∙ c.if-not-is_tag_once.false) (rw c.first_of-first.ensures at c.from-entries.ensures))

pub returns : goal.returns
returns c = passed_all _ _ _ _ _ c.loop-k.invariant (omega (arith, c.positions_of-k-end.ensures, c.loop-k-test.false, c.loop-k.auto.k-end))
