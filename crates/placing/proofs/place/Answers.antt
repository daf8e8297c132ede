use native.Mathlib.Omega.{arith}
use Rattle.placing.proofs.Chosen.{chosen_is_free_and_enough}
use Rattle.placing.specs.Place.{chosen}
use Prim.Native.Nat.{◌<◌}
use Rattle.placing.proofs.place.Goals as goal

pub overflow_cast-n : goal.overflow_cast-n
overflow_cast-n c =
    let l : chosen c.args.p.now c.args.base c.args.e c.args.n < c.args.e = rw (← c.choose-at.ensures) c.if-at-e.true in
    let h = (chosen_is_free_and_enough _ _ _ _ l).enough in
    grind arith
