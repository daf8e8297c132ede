use Rattle.std.proofs.Common.{◌≡◌}
use Rattle.blocks.specs.Walk.{starts, left}
use Rattle.blocks.proofs.Starts.{Rising}
use Rattle.placing.specs.Place.{fits, first}
use Rattle.placing.proofs.choose.Given as goal

abbrev pub invariant-loop-i : goal.invariant-loop-i
invariant-loop-i l =
    (goal.iterator-loop-i).can_next l.i-iterator × (goal.iterator-loop-i).is_finite l.i-iterator × (l.at ≡ l.e) × Rising l.base l.e (left l.i-iterator)
    × (first (fits l.p l.n) l.e (starts l.p l.base l.e) ≡ first (fits l.p l.n) l.e (left l.i-iterator))
