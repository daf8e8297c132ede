-- Giving back in an area of 16 longwords, worked out.
use Prim.Native.Nat.{ℕ}
use mathlib.Core.Path.{◌≡◌, refl}
use mathlib.Core.List.{List, [], ◌∷◌}
use Rattle.blocks.specs.Walk.{good, next, starts, starts_within}
use Rattle.headers.specs.Header.{header}
use Rattle.freeing.specs.Sweep.{goes, freed, absorbed, joined, run, swept}

-- three plain blocks, of owners 5, 6 and 5, and a free one
area : List ℕ
area = 16 ∷ 1 ∷ 5 ∷ 0 ∷ 16 ∷ 1 ∷ 6 ∷ 0 ∷ 16 ∷ 1 ∷ 5 ∷ 0 ∷ 16 ∷ 0 ∷ 0 ∷ 0 ∷ []

one_block_goes : swept area 0 16 0 8 ≡ 16 ∷ 1 ∷ 5 ∷ 0 ∷ 16 ∷ 1 ∷ 6 ∷ 0 ∷ 32 ∷ 0 ∷ 0 ∷ 0 ∷ 0 ∷ 0 ∷ 0 ∷ 0 ∷ []
unfolding area swept goes freed absorbed joined run header starts starts_within next good
one_block_goes = refl

the_blocks_of_an_owner_go : swept area 0 16 32 99 ≡ 16 ∷ 0 ∷ 0 ∷ 0 ∷ 16 ∷ 1 ∷ 6 ∷ 0 ∷ 32 ∷ 0 ∷ 0 ∷ 0 ∷ 0 ∷ 0 ∷ 0 ∷ 0 ∷ []
unfolding area swept goes freed absorbed joined run header starts starts_within next good
the_blocks_of_an_owner_go = refl

neighbours_become_one_block : swept area 0 16 96 99 ≡ 64 ∷ 0 ∷ 0 ∷ 0 ∷ 0 ∷ 0 ∷ 0 ∷ 0 ∷ 0 ∷ 0 ∷ 0 ∷ 0 ∷ 0 ∷ 0 ∷ 0 ∷ 0 ∷ []
unfolding area swept goes freed absorbed joined run header starts starts_within next good
neighbours_become_one_block = refl
