-- The ways out of the calls, one law each.
use Prim.Native.Nat.{ℕ, ◌<◌}
use mathlib.Core.Path.{◌≡◌, ◌∙◌}
use mathlib.Core.Bool.{true, false}
use mathlib.Core.List.{List}
use lib.Dec.{leb, ltb}
use borrow.Author.Tests.{ltb-true}
use Rattle.std.proofs.Common.{Some, None}
use Rattle.words.proofs.Tests.{both}
use Rattle.picture.specs.Layout.{from, upto}
use Rattle.picture.specs.Numbers.{job_at}
use Rattle.picture.specs.Keys.{done, invalid_job, out_of_memory, bad_parameter}
use Rattle.picture.specs.declared.Area.TheVariants.{Heap}
use Rattle.blocks.specs.Header.{plain_kind}
use Rattle.placing.specs.Place.{answer, after}
use Rattle.placing.proofs.Answer.{after_at, after_nowhere}
use Rattle.rooms.specs.Room.{spot, room_at}
use Rattle.rooms.proofs.Room.{placed_there}
use Rattle.calls.specs.Outcome.{refuse, succeed, Meets}
use Rattle.calls.specs.Call.{outcome}
use Rattle.calls.specs.Registers.{D1, D2, A0, cleared, meant}
use Rattle.calls.proofs.Outcome.{meets_refuse, meets_succeed}
use Rattle.memory.specs.Memory.{length_good, taken_length, room_registers, taken, take, is_plain_room, given_back, give_back}

module _ (p d : List ℕ) where
  pub take_bad : length_good (D1 d) ≡ false → outcome take p d ≡ refuse bad_parameter p d
  unfolding take outcome
  take_bad h = rw h

  pub take_dead : length_good (D1 d) ≡ true → job_at p (meant p (D2 d)) ≡ None → outcome take p d ≡ refuse invalid_job p d
  unfolding take outcome
  take_dead h l = rw (h, l)

  pub take_full : (k : ℕ) → length_good (D1 d) ≡ true → job_at p (meant p (D2 d)) ≡ Some k → room_at p Heap (taken_length d) ≡ None → outcome take p d ≡ refuse out_of_memory p d
  unfolding take outcome
  take_full k h l r = rw (h, l, r)

  pub take_done : (k i : ℕ) → length_good (D1 d) ≡ true → job_at p (meant p (D2 d)) ≡ Some k → room_at p Heap (taken_length d) ≡ Some i
      → outcome take p d ≡ succeed (taken p d) (room_registers (taken_length d) (spot p Heap (taken_length d)) d)
  unfolding take outcome
  take_done k i h l r = rw (h, l, r)

  -- the same, from what placing answers
  module _ (n o k : ℕ) (good : length_good (D1 d) ≡ true) (alive : job_at p (meant p (D2 d)) ≡ Some k) (long : n ≡ taken_length d) (owner : o ≡ meant p (D2 d)) (q : List ℕ)
      (leaves : q ≡ after p (from p Heap) (upto p Heap) n plain_kind o 0) where
    pub take_nowhere : answer p (from p Heap) (upto p Heap) n ≡ None → Meets (outcome take p d) out_of_memory q d
    take_nowhere h =
        rw (leaves, after_nowhere p (from p Heap) (upto p Heap) n plain_kind o 0 h)
        (meets_refuse _ _ _ _ (take_full k good alive (rw long at h)))

    pub take_there : (e : List ℕ) (i : ℕ) → answer p (from p Heap) (upto p Heap) n ≡ Some i → e ≡ room_registers n i d → Meets (outcome take p d) done q e
    unfolding taken
    take_there e i h g =
        let r = placed_there p Heap n i h in
        rw (leaves, after_at p (from p Heap) (upto p Heap) n i plain_kind o 0 h, g)
        (meets_succeed _ _ _ (take_done k i good alive (rw long at h) ∙ rw (← long, r.1.0, owner)))

  pub give_back_bad : is_plain_room p (A0 d) ≡ false → outcome give_back p d ≡ refuse bad_parameter p d
  unfolding give_back outcome
  give_back_bad h = rw h

  pub give_back_done : is_plain_room p (A0 d) ≡ true → outcome give_back p d ≡ succeed (given_back p (A0 d)) (cleared d)
  unfolding give_back outcome
  give_back_done h = rw h

-- a length that can be taken is small
pub length_small : (n : ℕ) → length_good n ≡ true → n < 2147483648
unfolding length_good
length_small n h = ltb-true n 2147483648 (both (leb 1 n) (ltb n 2147483648) h).1
