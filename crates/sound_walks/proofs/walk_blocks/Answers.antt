use Rattle.sound_walks.proofs.Left.{fine_within, fine_next, left_first, left_next, left_broken, left_counted}
use Rattle.blocks.proofs.Walk.{next_up, next_le, next_falls}
use mathlib.Core.Path.{sym, ◌∙◌}
use native.Mathlib.Omega.{arith}
use Rattle.sound_walks.proofs.walk_blocks.Goals as goal

pub loop-i-init : goal.loop-i-init
loop-i-init c = left_first _ _ _ _

pub returns-then-not-is_block_fine : goal.returns-then-not-is_block_fine
returns-then-not-is_block_fine c = left_broken _ _ _ _ _ _ c.loop-i.invariant c.loop-i-test.true (sym c.is_block_fine.ensures ∙ c.if-not-is_block_fine.true)

pub word_at-requires : goal.word_at-requires
word_at-requires c =
    let w = fine_within c.args.p.now c.args.t c.args.e c.loop-i.i (sym c.is_block_fine.ensures ∙ c.if-not-is_block_fine.false) in
    omega (arith, c.requires.0)

pub word_at-requires-in-loop-i : goal.word_at-requires-in-loop-i
word_at-requires-in-loop-i c = omega (arith, c.requires.0, c.loop-i-test.true)

pub overflow_add-i-in-loop-i : goal.overflow_add-i-in-loop-i
overflow_add-i-in-loop-i c =
    let a = c.args in
    let z = fine_next a.p.now a.t a.e c.loop-i.i c.word_at-in-loop-i.result c.word_at-in-loop-i.ensures (sym c.is_block_fine.ensures ∙ c.if-not-is_block_fine.false) in
    let n = next_le a.p.now c.loop-i.i a.e in
    omega (arith, c.requires.1)

pub loop-i-smaller : goal.loop-i-smaller
loop-i-smaller c =
    let a = c.args in
    next_falls _ _ _ _ (fine_next a.p.now a.t a.e c.loop-i.i c.word_at-in-loop-i.result c.word_at-in-loop-i.ensures (sym c.is_block_fine.ensures ∙ c.if-not-is_block_fine.false)) c.loop-i-test.true

pub loop-i-preserved : goal.loop-i-preserved
loop-i-preserved c =
    let a = c.args in
    let z = fine_next a.p.now a.t a.e c.loop-i.i c.word_at-in-loop-i.result c.word_at-in-loop-i.ensures (sym c.is_block_fine.ensures ∙ c.if-not-is_block_fine.false) in
    let u = next_up a.p.now c.loop-i.i a.e c.loop-i-test.true in
    left_next _ _ _ _ _ _ _ _ c.loop-i.invariant c.loop-i-test.true (sym c.is_block_fine.ensures ∙ c.if-not-is_block_fine.false)
    (rw (c.word_at.ensures, c.kind_of-kind.ensures) at c.from-found.ensures) z (rw z u.0)

pub returns : goal.returns
returns c = left_counted _ _ _ _ _ _ c.loop-i.invariant c.loop-i-test.false
