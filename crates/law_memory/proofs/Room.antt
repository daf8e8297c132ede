-- What $6 says of room: the longest that the transient area has.
use Prim.Native.Nat.{ℕ, ◌-◌, ◌≤◌, ◌<◌}
use mathlib.Core.Path.{◌≡◌, ap}
use mathlib.Core.Bool.{true}
use mathlib.Core.Logic.{⊎_elim, ◌⊎◌, inl, inr}
use mathlib.Core.List.{List}
use native.Mathlib.Omega.{arith}
use lib.ListN.{length}
use lib.Seq.{get_or-set_same}
use Rattle.words.specs.Each.{In}
use Rattle.words.proofs.Words.{length_clear}
use Rattle.picture.specs.Layout.{from, upto}
use Rattle.picture.specs.declared.Area.TheVariants.{Transient}
use Rattle.blocks.specs.Header.{size, free}
use Rattle.blocks.specs.Walk.{blocks}
use Rattle.placing.specs.Place.{longest}
use Rattle.law_placing.proofs.Longest.{no_free_block_is_longer, the_longest_is_a_free_block, no_room_above_the_longest, where_there_is_no_room_the_longest_is_shorter}
use Rattle.rooms.specs.Room.{block_length}
use Rattle.rooms.proofs.Room.{Without}
use Rattle.calls.specs.Call.{outcome}
use Rattle.calls.specs.Registers.{D1, cleared}
use Rattle.memory.specs.Memory.{longest_room}

-- what $6 answers is the room of a free block, and no free block has more
module _ (p d : List ℕ) (eight : 1 < length d) where
  answered : D1 (outcome longest_room p d).registers ≡ longest p (from p Transient) (upto p Transient) - 16
  unfolding longest_room outcome
  answered = get_or-set_same (cleared d) 1 (longest p (from p Transient) (upto p Transient) - 16) 0 (rw (length_clear 7 d 1) eight)

  pub no_free_block_has_more_room : (i : ℕ) → In i (blocks p Transient) → free p i ≡ true → size p i - 16 ≤ D1 (outcome longest_room p d).registers
  no_free_block_has_more_room i m f = let l = no_free_block_is_longer p (from p Transient) (upto p Transient) i m f in rw answered (omega arith)

  pub a_free_block_has_that_room : (D1 (outcome longest_room p d).registers ≡ 0) ⊎ ((i : ℕ) × (In i (blocks p Transient) × ((free p i ≡ true) × (size p i - 16 ≡ D1 (outcome longest_room p d).registers))))
  a_free_block_has_that_room = rw answered (⊎_elim
      (λ (z : longest p (from p Transient) (upto p Transient) ≡ 0). inl (omega arith))
      (λ (w : (i : ℕ) × (In i (blocks p Transient) × ((free p i ≡ true) × (size p i ≡ longest p (from p Transient) (upto p Transient))))).
      inr (w.0, (w.1.0, (w.1.1.0, ap (λ (x : ℕ). x - 16) w.1.1.1))))
      (the_longest_is_a_free_block p (from p Transient) (upto p Transient)))

-- n bytes find no room in the transient area exactly when their block is longer than its longest free one
pub without_room_exactly_above_the_longest : (p : List ℕ) (n : ℕ)
    → (Without p Transient (block_length n) → longest p (from p Transient) (upto p Transient) < block_length n) × (longest p (from p Transient) (upto p Transient) < block_length n → Without p Transient (block_length n))
without_room_exactly_above_the_longest p n =
    (where_there_is_no_room_the_longest_is_shorter p (from p Transient) (upto p Transient) (block_length n) (omega arith), no_room_above_the_longest p (from p Transient) (upto p Transient) (block_length n))
