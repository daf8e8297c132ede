use Rattle.words.specs.Words.{clear}
use mathlib.Core.Path.{◌≡◌}
use Prim.Native.Nat.{◌-◌}
use Rattle.words.proofs.clear.Given as goal

abbrev pub invariant-loop-i : goal.invariant-loop-i
invariant-loop-i l = clear (l.upto - l.from) l.initial.p l.from ≡ clear (l.upto - l.i) l.p l.i
