use Rattle.std.proofs.Common.{◌≡◌}
use Rattle.blocks.specs.Walk.{starts, left}
use Rattle.blocks.proofs.Starts.{Rising}
use Rattle.placing.specs.Place.{longest_of}
use Rattle.placing.proofs.longest_free.Given as goal

abbrev pub invariant-loop-i : goal.invariant-loop-i
invariant-loop-i l =
    (goal.iterator-loop-i).can_next l.i-iterator × (goal.iterator-loop-i).is_finite l.i-iterator × Rising l.base l.e (left l.i-iterator)
    × (longest_of l.p 0 (starts l.p l.base l.e) ≡ longest_of l.p l.best (left l.i-iterator))
