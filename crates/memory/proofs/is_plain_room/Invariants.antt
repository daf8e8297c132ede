use Rattle.std.proofs.Common.{◌≡◌}
use Rattle.words.specs.Each.{any}
use Rattle.picture.specs.Layout.{from, upto}
use Rattle.picture.specs.declared.Area.TheVariants.{Heap}
use Rattle.blocks.specs.Walk.{blocks, left}
use Rattle.blocks.proofs.Starts.{Rising}
use Rattle.memory.specs.Memory.{plain_room}
use Rattle.memory.proofs.is_plain_room.Given as goal

abbrev pub invariant-loop-i : goal.invariant-loop-i
invariant-loop-i l =
    (goal.iterator-loop-i).can_next l.i-iterator × (goal.iterator-loop-i).is_finite l.i-iterator × Rising (from l.p Heap) (upto l.p Heap) (left l.i-iterator)
    × (any (plain_room l.p l.a) (blocks l.p Heap) ≡ any (plain_room l.p l.a) (left l.i-iterator))
