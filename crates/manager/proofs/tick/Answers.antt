use Rattle.sound.proofs.Room.{sound_tables}
use Rattle.manager.specs.Turn.{tick_key, ticking}
use mathlib.Core.Path.{sym, ◌∙◌}
use Rattle.manager.proofs.tick.Goals as goal

pub returns-then-not-may_tick : goal.returns-then-not-may_tick
unfolding tick_key ticking
returns-then-not-may_tick c = let s = sym c.is_sound-may_tick.ensures ∙ c.if-not-may_tick.true in (rw s, rw s)

pub tick_frame-requires : goal.tick_frame-requires
tick_frame-requires c = sound_tables _ (sym c.is_sound-may_tick.ensures ∙ c.if-not-may_tick.false)

pub returns : goal.returns
unfolding tick_key ticking
returns c =
    let s = sym c.is_sound-may_tick.ensures ∙ c.if-not-may_tick.false in
    (rw s, rw s c.tick_frame.ensures)
