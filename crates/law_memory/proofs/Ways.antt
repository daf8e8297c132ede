-- What holds of every refusal, and of what a call does where its checks pass, holds of the call; of the call that answers 0 what it does is enough.
use Prim.Native.Nat.{ℕ}
use mathlib.Core.Path.{◌≡◌}
use mathlib.Core.Bool.{true}
use mathlib.Core.List.{List}
use lib.IntN.{ℤ}
use Rattle.picture.specs.Numbers.{live}
use Rattle.picture.specs.Keys.{done}
use Rattle.picture.specs.declared.Table.TheVariants.{Jobs}
use Rattle.picture.specs.declared.Area.TheVariants.{Heap}
use Rattle.rooms.specs.Room.{spot}
use Rattle.rooms.proofs.Room.{has_room, there_is_room_where_the_check_passes, room_check_gives_no_other}
use Rattle.calls.specs.Outcome.{Outcome, refuse, succeed}
use Rattle.calls.specs.Call.{outcome}
use Rattle.calls.specs.Registers.{D1, D2, A0, cleared, meant}
use Rattle.calls.proofs.Call.{Passed, success, of_each_way, refusals}
use Rattle.calls.proofs.Found.{job_that_passes_is_live, job_check_gives_no_other}
use Rattle.memory.specs.Memory.{length_good, taken_length, room_registers, taken, take, is_plain_room, given_back, give_back}
use Rattle.law_blocks.proofs.Cases.{where_done}

module _ (P : Outcome → Type 0) (p d : List ℕ) where
  -- what $18 does where its checks pass
  abbrev Taken : Type 0
  Taken = length_good (D1 d) ≡ true → live p Jobs (meant p (D2 d)) ≡ true → has_room p Heap (taken_length d) ≡ true → P (succeed (taken p d) (room_registers (taken_length d) (spot p Heap (taken_length d)) d))

  take_passed : Taken → Passed (take p d).checks → P (success (take p d))
  unfolding take
  take_passed f h = f (search) (job_that_passes_is_live p (meant p (D2 d)) (search)) (there_is_room_where_the_check_passes p Heap (taken_length d) (search))

  pub take_ways : ((k : ℤ) → P (refuse k p d)) → Taken → P (outcome take p d)
  take_ways refused f = of_each_way take p d P refused (take_passed f)

  pub take_where_done : Taken → (outcome take p d).key ≡ done → P (outcome take p d)
  unfolding take
  take_where_done f = where_done P take p d (search (refusals, job_check_gives_no_other, room_check_gives_no_other) depth 12) (take_passed f)

  -- what $19 does where its check passes
  abbrev GivenBack : Type 0
  GivenBack = is_plain_room p (A0 d) ≡ true → P (succeed (given_back p (A0 d)) (cleared d))

  pub give_back_ways : ((k : ℤ) → P (refuse k p d)) → GivenBack → P (outcome give_back p d)
  unfolding give_back
  give_back_ways refused f = of_each_way give_back p d P refused (λ h. f (search))

  pub give_back_where_done : GivenBack → (outcome give_back p d).key ≡ done → P (outcome give_back p d)
  unfolding give_back
  give_back_where_done f = where_done P give_back p d (search refusals depth 12) (λ h. f (search))
