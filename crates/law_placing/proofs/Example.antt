-- Placing in an area of 16 longwords, worked out.
use Prim.Native.Nat.{ℕ}
use mathlib.Core.Path.{◌≡◌, refl}
use mathlib.Core.List.{List, [], ◌∷◌}
use Rattle.std.proofs.Common.{Some, None}
use Rattle.words.specs.Words.{clear}
use Rattle.blocks.specs.Walk.{good, next, starts, starts_within}
use Rattle.headers.specs.Header.{header}
use Rattle.placing.specs.Place.{fits, chosen, split, placed, answer, after, longer, longest}

-- one free block of 64 bytes, its room full of old bytes
area : List ℕ
area = 64 ∷ 0 ∷ 0 ∷ 0 ∷ 7 ∷ 7 ∷ 7 ∷ 7 ∷ 7 ∷ 7 ∷ 7 ∷ 7 ∷ 7 ∷ 7 ∷ 7 ∷ 7 ∷ []

-- the same with a plain block of 32 bytes for owner 5 at its low end
with_a_block : List ℕ
with_a_block = 32 ∷ 1 ∷ 5 ∷ 0 ∷ 0 ∷ 0 ∷ 0 ∷ 0 ∷ 32 ∷ 0 ∷ 0 ∷ 0 ∷ 7 ∷ 7 ∷ 7 ∷ 7 ∷ []

the_low_end_is_taken : after area 0 16 32 1 5 0 ≡ with_a_block
unfolding area with_a_block after chosen fits placed split header clear starts starts_within next good
the_low_end_is_taken = refl

a_whole_block_is_taken : answer with_a_block 0 16 32 ≡ Some 8
unfolding with_a_block answer chosen fits starts starts_within next good
a_whole_block_is_taken = refl

more_is_nowhere : answer with_a_block 0 16 48 ≡ None
unfolding with_a_block answer chosen fits starts starts_within next good
more_is_nowhere = refl

the_rest_is_the_longest : longest with_a_block 0 16 ≡ 32
unfolding with_a_block longest longer starts starts_within next good
the_rest_is_the_longest = refl
