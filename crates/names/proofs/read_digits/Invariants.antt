use Rattle.names.specs.Names.{digit, worth}
use Rattle.words.specs.Each.{all}
use lib.ListN.{drop}
use mathlib.Core.Path.{◌≡◌}
use Prim.Native.Nat.{◌^◌, ◌<◌}
use Rattle.names.proofs.read_digits.Given as goal

abbrev pub invariant-loop-b : goal.invariant-loop-b
invariant-loop-b l = (l.n < 10 ^ l.b-index) × (all digit l.digits ≡ all digit (drop l.b-index l.digits)) × (worth 0 l.digits ≡ worth l.n (drop l.b-index l.digits))
