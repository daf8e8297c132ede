-- An entry in use has a block, but for job 0.
use Prim.Native.Nat.{ℕ}
use mathlib.Core.Path.{◌≡◌, refl}
use mathlib.Core.Bool.{Bool, true, false, ◌&&◌}
use mathlib.Core.List.{List}
use lib.Dec.{leb}
use Rattle.picture.specs.Records.{used}
use Rattle.picture.specs.declared.Table.{Table}
use Rattle.sound_matching.specs.Match.{first, has_block}

pub has_block_used : (p : List ℕ) (t : Table) (k : ℕ) → used p t k ≡ true → has_block p t k ≡ leb (first t) k
unfolding has_block
has_block_used p t k u = rw u (go (leb (first t) k))
  where
    go : (b : Bool) → b && true ≡ b
    go true = refl
    go false = refl
