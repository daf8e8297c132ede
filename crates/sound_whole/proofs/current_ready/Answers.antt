use Rattle.picture.proofs.Numbers.{live_is}
use Rattle.picture.proofs.Records.{used_below}
use Rattle.sound_whole.specs.Whole.{current_ready}
use borrow.Author.Tests.{eq-eqb, ne_eqb}
use mathlib.Core.Path.{sym, ◌∙◌}
use Rattle.sound_whole.proofs.current_ready.Goals as goal

pub returns-then-n : goal.returns-then-n
unfolding current_ready
returns-then-n c = rw (eq-eqb _ _ (rw c.word-n.ensures at c.if-n.true))

pub returns-then-not-is_live : goal.returns-then-not-is_live
unfolding current_ready
returns-then-not-is_live c = rw (ne_eqb _ _ (rw c.word-n.ensures at c.if-n.false), rw c.word-n.ensures at (sym c.is_live.ensures ∙ c.if-not-is_live.true))

pub is_ready-requires : goal.is_ready-requires
is_ready-requires c = rw c.position_of.ensures.0 (used_below _ _ _ (live_is _ _ _ (sym c.is_live.ensures ∙ c.if-not-is_live.false)).used)

pub returns : goal.returns
unfolding current_ready
returns c = rw (ne_eqb _ _ (rw c.word-n.ensures at c.if-n.false), rw c.word-n.ensures at (sym c.is_live.ensures ∙ c.if-not-is_live.false), c.is_ready.ensures, c.position_of.ensures.0, c.word-n.ensures)
