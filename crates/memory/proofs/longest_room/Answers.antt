use mathlib.Core.Path.{refl}
use Rattle.calls.proofs.Outcome.{meets_succeed}
use Rattle.calls.specs.Call.{outcome}
use Rattle.memory.specs.Memory.{longest_room}
use Rattle.memory.proofs.longest_room.Goals as goal

pub returns : goal.returns
unfolding longest_room outcome
returns c = rw (c.put.ensures, c.room_of.ensures, c.clear_registers.ensures, c.longest_free-length.ensures, c.area_upto-e.ensures.0, c.area_from-base.ensures.0) (meets_succeed _ _ _ refl)
