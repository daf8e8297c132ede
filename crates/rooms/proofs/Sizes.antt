-- The areas of a sound picture lie in it.
use Prim.Native.Nat.{ℕ, ◌≤◌, ◌<◌}
use mathlib.Core.Path.{◌≡◌}
use mathlib.Core.Bool.{true}
use mathlib.Core.List.{List}
use lib.ListN.{length}
use native.Mathlib.Omega.{arith}
use Rattle.std.proofs.Common.{Some}
use Rattle.picture.specs.Layout.{heap_base, greatest_size, from, upto}
use Rattle.picture.specs.declared.Area.{Area}
use Rattle.picture.specs.declared.Area.TheVariants.{Heap, Transient}
use Rattle.sound.specs.Sound.{sound}
use Rattle.sound_facts.proofs.Sound.{Sizes}
use Rattle.sound_facts.proofs.View.{view}
use Rattle.placing.specs.Place.{answer}
use Rattle.rooms.proofs.Room.{placed_there}

-- an area of a picture: where it starts, where it stops, and that it lies behind the tables and in the picture
pub record Lies (p : List ℕ) (a : Area) : Type 0 where
  pub behind : heap_base ≤ from p a
  pub forward : from p a ≤ upto p a
  pub inside : upto p a ≤ length p
  pub small : upto p a ≤ greatest_size

sizes_lie : (p : List ℕ) → Sizes p → (a : Area) → Lies p a
sizes_lie p s Heap =
    let m = s.most in
    let h = s.heap_most in
    record { behind = omega arith; forward = omega arith; inside = omega arith; small = omega arith }
sizes_lie p s Transient =
    let m = s.most in
    let h = s.heap_most in
    let l = s.long in
    record { behind = omega arith; forward = omega arith; inside = omega arith; small = omega arith }

pub areas_lie_in_a_sound_picture : (p : List ℕ) → sound p ≡ true → (a : Area) → Lies p a
areas_lie_in_a_sound_picture p h a = sizes_lie p (view p h).sizes a

-- a block that is placed starts in the picture
pub placed_in_a_sound_picture : (p : List ℕ) → sound p ≡ true → (a : Area) (n i : ℕ) → answer p (from p a) (upto p a) n ≡ Some i → i < greatest_size
placed_in_a_sound_picture p s a n i h = let t = (placed_there p a n i h).1.1 in let l = (areas_lie_in_a_sound_picture p s a).small in omega arith
