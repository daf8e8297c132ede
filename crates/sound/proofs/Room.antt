-- A sound picture has its tables.
use Prim.Native.Nat.{ℕ, ◌≤◌}
use mathlib.Core.Path.{◌≡◌}
use mathlib.Core.Bool.{true}
use mathlib.Core.List.{List}
use native.Mathlib.Omega.{arith}
use lib.ListN.{length}
use Rattle.picture.specs.Layout.{heap_base}
use Rattle.sound_whole.proofs.Room.{size_known}
use Rattle.sound.specs.Rule.{Rule}
use Rattle.sound.specs.Sound.{sound}
use Rattle.sound.proofs.Holds.{sound_holds}

pub sound_tables : (p : List ℕ) → sound p ≡ true → heap_base ≤ length p
sound_tables p s = let l = (size_known p (sound_holds p s Rule.size_stated)).1 in omega arith
