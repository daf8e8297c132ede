use native.Mathlib.Omega.{arith}
use mathlib.Core.Path.{sym, ◌∙◌}
use Rattle.picture.specs.declared.Area.TheVariants.{Heap}
use Rattle.calls.proofs.Outcome.{meets_refuse}
use Rattle.rooms.proofs.Sizes.{areas_lie_in_a_sound_picture, placed_in_a_sound_picture}
use Rattle.memory.proofs.Ways.{take_bad, take_dead, take_nowhere, take_there, length_small}
use Rattle.memory.proofs.take.Goals as goal

pub returns-then-not-is_length : goal.returns-then-not-is_length
returns-then-not-is_length c = meets_refuse _ _ _ _ (take_bad _ _ (sym (rw c.word-n.ensures at c.is_length.ensures) ∙ c.if-not-is_length.true))

pub returns-in_default : goal.returns-in_default
returns-in_default c = meets_refuse _ _ _ _ (take_dead _ _ (sym (rw c.word-n.ensures at c.is_length.ensures) ∙ c.if-not-is_length.false) (rw (c.number_meant-owner.ensures, c.word.ensures) at (sym c.entry_at.ensures ∙ c.in_default.is)))

pub place_in-requires : goal.place_in-requires
place_in-requires c = (areas_lie_in_a_sound_picture _ c.requires Heap).inside

pub returns-in_default-place_in : goal.returns-in_default-place_in
returns-in_default-place_in c =
    let good = sym (rw c.word-n.ensures at c.is_length.ensures) ∙ c.if-not-is_length.false in
    let alive = rw (c.number_meant-owner.ensures, c.word.ensures) at (sym c.entry_at.ensures ∙ c.in-Some.is) in
    let long = rw c.word-n.ensures at c.block_length-length.ensures in
    let owner = rw c.word.ensures at c.number_meant-owner.ensures in
    take_nowhere _ _ _ _ _ good alive long owner _ c.place_in.ensures.leaves (sym c.place_in.ensures.answers ∙ c.in_default-place_in.is)

pub overflow_cast-length : goal.overflow_cast-length
overflow_cast-length c = let good = sym c.is_length.ensures ∙ c.if-not-is_length.false in omega (arith, c.block_length-length.ensures, length_small _ good)

pub answer_room-requires : goal.answer_room-requires
answer_room-requires c = placed_in_a_sound_picture _ c.requires Heap _ _ (sym c.place_in.ensures.answers ∙ c.in-Some-place_in.is)

pub returns : goal.returns
returns c =
    let good = sym (rw c.word-n.ensures at c.is_length.ensures) ∙ c.if-not-is_length.false in
    let alive = rw (c.number_meant-owner.ensures, c.word.ensures) at (sym c.entry_at.ensures ∙ c.in-Some.is) in
    let long = rw c.word-n.ensures at c.block_length-length.ensures in
    let owner = rw c.word.ensures at c.number_meant-owner.ensures in
    take_there _ _ _ _ _ good alive long owner _ c.place_in.ensures.leaves _ _ (sym c.place_in.ensures.answers ∙ c.in-Some-place_in.is) c.answer_room.ensures
