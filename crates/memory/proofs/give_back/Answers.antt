use native.Mathlib.Omega.{arith}
use mathlib.Core.Path.{sym, ◌∙◌}
use Rattle.picture.specs.declared.Area.TheVariants.{Heap}
use Rattle.calls.proofs.Outcome.{meets_refuse, meets_succeed}
use Rattle.rooms.proofs.Sizes.{areas_lie_in_a_sound_picture}
use Rattle.memory.specs.Memory.{given_back}
use Rattle.memory.proofs.Ways.{give_back_bad, give_back_done}
use Rattle.memory.proofs.give_back.Goals as goal

pub returns-then-not-is_plain_room : goal.returns-then-not-is_plain_room
returns-then-not-is_plain_room c = meets_refuse _ _ _ _ (give_back_bad _ _ (sym (rw c.word-a.ensures at c.is_plain_room.ensures) ∙ c.if-not-is_plain_room.true))

pub sweep-requires : goal.sweep-requires
sweep-requires c = omega (arith, c.area_upto-e.ensures.0, (areas_lie_in_a_sound_picture _ c.requires Heap).small)

pub returns : goal.returns
unfolding given_back
returns c =
    let good = sym (rw c.word-a.ensures at c.is_plain_room.ensures) ∙ c.if-not-is_plain_room.false in
    rw (c.sweep.ensures, c.clear_registers.ensures, c.block_before.ensures, c.area_upto-e.ensures.0, c.area_from-base.ensures.0, c.word-a.ensures) (meets_succeed _ _ _ (give_back_done _ _ good))
