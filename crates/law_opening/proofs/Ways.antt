-- What holds of every refusal, and of what opening a channel does where its checks pass, holds of the call; of the call that answers 0 what it does is enough.
use Prim.Native.Nat.{ℕ}
use mathlib.Core.Path.{◌≡◌, sym}
use mathlib.Core.Bool.{true, false}
use mathlib.Core.List.{List}
use lib.IntN.{ℤ}
use Rattle.words.proofs.Tests.{false_true}
use Rattle.picture.specs.Keys.{done}
use Rattle.picture.specs.Numbers.{live}
use Rattle.picture.specs.declared.Table.TheVariants.{Jobs, Channels}
use Rattle.picture.specs.declared.Area.TheVariants.{Heap}
use Rattle.calls.specs.Outcome.{Outcome, refuse, succeed}
use Rattle.calls.specs.Call.{outcome}
use Rattle.calls.specs.Registers.{D1, meant}
use Rattle.calls.proofs.Call.{Passed, success, of_each_way, not_found_refuses, bad_name_refuses, bad_parameter_refuses, refusals}
use Rattle.calls.proofs.Found.{job_that_passes_is_live, job_check_gives_no_other}
use Rattle.rooms.proofs.Room.{has_room, there_is_room_where_the_check_passes, room_check_gives_no_other}
use Rattle.law_blocks.proofs.Cases.{where_done}
use Rattle.entering.specs.Entry.{has_position, has_tag, next_number}
use Rattle.names.specs.Names.{key_of, good, number_in, named}
use Rattle.std.proofs.Common.{Result, Ok, Err}
use Rattle.names.specs.declared.NameFault.{NameFault}
use Rattle.names.specs.declared.NameFault.TheVariants.{Foreign, Unnumbered, Bare}
use Rattle.opening.specs.Effects.{queue_bytes, opened, channel_registers}
use Rattle.opening.specs.Calls.{open_channel}

-- every test has passed
pub record Checked (p d s : List ℕ) : Type 0 where
  pub lives : live p Jobs (meant p (D1 d)) ≡ true
  pub fair : good (named s) ≡ true
  pub place : has_position p Channels ≡ true
  pub tagged : has_tag p Channels ≡ true
  pub room : has_room p Heap (queue_bytes (number_in (named s))) ≡ true

-- a bad name's key is that of a refusal
a_bad_name_is_refused : (n : Result ℕ NameFault) → good n ≡ false → key_of n ≡ done → ⊥
unfolding good key_of
a_bad_name_is_refused (Ok n) f = λ e. absurd (false_true (sym f))
a_bad_name_is_refused (Err Foreign) f = not_found_refuses
a_bad_name_is_refused (Err Unnumbered) f = bad_name_refuses
a_bad_name_is_refused (Err Bare) f = bad_parameter_refuses

-- what opening does where its checks pass
module _ (P : Outcome → Type 0) (p d s : List ℕ) where
  abbrev Opened : Type 0
  Opened = Checked p d s → P (succeed (opened p (meant p (D1 d)) (number_in (named s))) (channel_registers (meant p (D1 d)) (next_number p Channels) d))

  opens : Opened → Passed (open_channel s p d).checks → P (success (open_channel s p d))
  unfolding open_channel
  opens f h = f (record {
    lives = job_that_passes_is_live p (meant p (D1 d)) (search);
    fair = search;
    place = search;
    tagged = search;
    room = there_is_room_where_the_check_passes p Heap (queue_bytes (number_in (named s))) (search);
  })

  pub open_channel_ways : ((k : ℤ) → P (refuse k p d)) → Opened → P (outcome (open_channel s) p d)
  open_channel_ways refused f = of_each_way (open_channel s) p d P refused (opens f)

  pub open_channel_where_done : Opened → (outcome (open_channel s) p d).key ≡ done → P (outcome (open_channel s) p d)
  unfolding open_channel
  open_channel_where_done f = where_done P (open_channel s) p d
      (search (refusals, job_check_gives_no_other, a_bad_name_is_refused, room_check_gives_no_other) depth 14) (opens f)
