-- Room is answered exactly when some free block of the area is long enough, whichever area it is.
use Prim.Native.Nat.{ℕ, ◌<◌}
use mathlib.Core.Path.{◌≡◌, refl, sym, ap}
use mathlib.Core.Bool.{Bool, true, false, cond}
use mathlib.Core.List.{List}
use native.Mathlib.Omega.{arith}
use lib.Dec.{ltb}
use borrow.Author.Tests.{ltb-true, ltb-false, lt-ltb, le-ltb}
use lib.IntN.{ℤ}
use Rattle.std.proofs.Common.{Option, Some, None}
use Rattle.words.proofs.Tests.{false_true}
use Rattle.picture.specs.Keys.{done, out_of_memory}
use Rattle.picture.specs.Layout.{from, upto}
use Rattle.picture.specs.declared.Area.{Area}
use Rattle.placing.specs.Place.{chosen, answer}
use Rattle.placing.proofs.Chosen.{Chosen, NoRoom, chosen_is_free_and_enough, chosen_is_not_past_the_end, none_is_chosen_where_all_are_shorter, all_are_shorter_where_none_is_chosen}
use Rattle.placing.proofs.Answer.{answer_at}
use Rattle.rooms.specs.Room.{room_at, room_check, room_place, spot}

-- the block that placing chooses in the area
abbrev choice : List ℕ → Area → ℕ → ℕ
choice p a n = chosen p (from p a) (upto p a) n

-- some free block of the area is long enough for n bytes
unfoldable pub has_room : List ℕ → Area → ℕ → Bool
has_room p a n = ltb (choice p a n) (upto p a)

-- every free block of the area is shorter than n bytes
abbrev pub Without : List ℕ → Area → ℕ → Type 0
Without p a n = NoRoom p (from p a) (upto p a) n

module _ (p : List ℕ) (a : Area) (n : ℕ) where
  -- no room exactly when no free block of the area is long enough
  pub no_room_without_a_long_enough_block : Without p a n → has_room p a n ≡ false
  unfolding has_room
  no_room_without_a_long_enough_block f =
      let z = none_is_chosen_where_all_are_shorter p (from p a) (upto p a) n f in
      le-ltb (choice p a n) (upto p a) (omega arith)

  pub without_a_long_enough_block_where_no_room : has_room p a n ≡ false → Without p a n
  unfolding has_room
  without_a_long_enough_block_where_no_room h =
      let l = ltb-false (choice p a n) (upto p a) h in
      let u = chosen_is_not_past_the_end p (from p a) (upto p a) n in
      all_are_shorter_where_none_is_chosen p (from p a) (upto p a) n (omega arith)

  -- where there is room the spot is the block that is chosen
  pub room_stands : has_room p a n ≡ true → spot p a n ≡ chosen p (from p a) (upto p a) n
  unfolding has_room answer
  room_stands h = rw h

  -- so it is a free block that is long enough
  pub spot_is_free_and_enough : has_room p a n ≡ true → Chosen p (from p a) (upto p a) n (spot p a n)
  unfolding has_room
  spot_is_free_and_enough h = rw (room_stands h) (chosen_is_free_and_enough p (from p a) (upto p a) n (ltb-true _ _ h))

  pub spot_below : has_room p a n ≡ true → spot p a n < upto p a
  unfolding has_room
  spot_below h = rw (room_stands h) (ltb-true _ _ h)

  -- the check for room passes exactly where there is room
  pub there_is_room_where_the_check_passes : (room_check (room_at p a n)).0 ≡ true → has_room p a n ≡ true
  unfolding has_room answer
  there_is_room_where_the_check_passes h = go (has_room p a n) h
    where
      go : (b : Bool) → (room_check (cond b (Some (choice p a n)) None)).0 ≡ true → b ≡ true
      go true e = refl
      go false e = e

  pub the_check_passes_where_there_is_room : has_room p a n ≡ true → room_check (room_at p a n) ≡ (true, done)
  unfolding has_room answer
  the_check_passes_where_there_is_room h = rw h

  pub the_check_fails_where_there_is_no_room : has_room p a n ≡ false → room_check (room_at p a n) ≡ (false, out_of_memory)
  unfolding has_room answer
  the_check_fails_where_there_is_no_room h = rw h

  -- what an answer of placing in the area says
  pub placed_there : (i : ℕ) → answer p (from p a) (upto p a) n ≡ Some i → (has_room p a n ≡ true) × ((spot p a n ≡ i) × (i < upto p a))
  unfolding has_room
  placed_there i h =
      let r = answer_at p (from p a) (upto p a) n i h in
      let l = r.0 in
      let z = r.1 in
      (lt-ltb _ _ l, (ap room_place h, omega arith))

-- the check for room gives no other key than its own
pub room_check_gives_no_other : (k : ℤ) (r : Option ℕ) → (out_of_memory ≡ k → ⊥) → (room_check r).0 ≡ false → (room_check r).1 ≡ k → ⊥
room_check_gives_no_other k (Some i) n f e = false_true (sym f)
room_check_gives_no_other k None n f e = n e
