use Rattle.sound.proofs.Room.{sound_tables}
use Rattle.manager.specs.Turn.{pick_answer, pick_picture}
use mathlib.Core.Path.{sym, ◌∙◌}
use Rattle.manager.proofs.pick.Goals as goal

pub returns-then-not-may_pick : goal.returns-then-not-may_pick
unfolding pick_answer pick_picture
returns-then-not-may_pick c = let s = sym c.is_sound-may_pick.ensures ∙ c.if-not-may_pick.true in (rw s, rw s)

pub pick_turn-requires : goal.pick_turn-requires
pick_turn-requires c = sound_tables _ (sym c.is_sound-may_pick.ensures ∙ c.if-not-may_pick.false)

pub returns : goal.returns
unfolding pick_answer pick_picture
returns c =
    let s = sym c.is_sound-may_pick.ensures ∙ c.if-not-may_pick.false in
    (rw s c.pick_turn.ensures.value, rw s c.pick_turn.ensures.p_after)
