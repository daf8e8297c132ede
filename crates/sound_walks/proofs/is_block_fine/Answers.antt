use mathlib.Core.Path.{sym, ◌∙◌}
use native.Mathlib.Omega.{arith}
use Rattle.sound_walks.proofs.Left.{header_within}
use Rattle.sound_walks.proofs.is_block_fine.Goals as goal

pub word_at-requires : goal.word_at-requires
word_at-requires c =
    let h = header_within c.args.p.now c.args.e c.args.i (sym (rw c.longwords-longwords.ensures.same at c.length_whole.ensures) ∙ c.if-not-length_whole.false) (sym (rw c.longwords-longwords.ensures.same at c.is_within.ensures) ∙ c.if-not-is_within.false) in
    omega (arith, c.requires.1.0)

pub is_free_fine-requires : goal.is_free_fine-requires
is_free_fine-requires c =
    let h = header_within c.args.p.now c.args.e c.args.i (sym (rw c.longwords-longwords.ensures.same at c.length_whole.ensures) ∙ c.if-not-length_whole.false) (sym (rw c.longwords-longwords.ensures.same at c.is_within.ensures) ∙ c.if-not-is_within.false) in
    rw c.longwords-longwords.ensures.same (omega (arith, c.requires.1.0), (c.requires.0, c.requires.1.1))

pub is_held_fine-requires : goal.is_held_fine-requires
is_held_fine-requires c =
    let h = header_within c.args.p.now c.args.e c.args.i (sym (rw c.longwords-longwords.ensures.same at c.length_whole.ensures) ∙ c.if-not-length_whole.false) (sym (rw c.longwords-longwords.ensures.same at c.is_within.ensures) ∙ c.if-not-is_within.false) in
    (omega (arith, c.requires.1.0), omega (arith, c.requires.0, c.requires.1.1))
