use mathlib.Core.Path.{refl, sym, ◌∙◌}
use borrow.Author.Tests.{ltb-false}
use Rattle.program_lines.proofs.Ends.{end_beyond}
use native.Mathlib.Omega.{arith}
use Rattle.program_lines.proofs.feeds.skip.Goals as goal

pub loop-i-init : goal.loop-i-init
loop-i-init c = (c.requires, refl)

pub returns-then-has_feed : goal.returns-then-has_feed
returns-then-has_feed c = c.loop-i.invariant

pub loop-i-preserved : goal.loop-i-preserved
loop-i-preserved c =
    let d = c.loop-i in
    (omega arith, d.invariant.1 ∙ end_beyond _ _ 8 (ltb-false _ _ (sym c.has_feed.ensures ∙ c.if-has_feed.false)))

pub returns : goal.returns
returns c = c.loop-i.invariant
