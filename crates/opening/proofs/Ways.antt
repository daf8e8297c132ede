-- The ways out of opening a channel, one law each.
use Prim.Native.Nat.{ℕ, ◌+◌, ◌≤◌, ◌<◌}
use mathlib.Core.Path.{◌≡◌}
use mathlib.Core.Bool.{true, false}
use mathlib.Core.List.{List}
use borrow.Author.Tests.{lt-ltb, le-ltb}
use Rattle.std.proofs.Common.{Some, None, Ok, Err}
use Rattle.words.specs.Words.{word, put}
use Rattle.picture.specs.Keys.{done, invalid_job, out_of_memory, channel_not_open}
use Rattle.picture.specs.Layout.{last_word, greatest_tag, positions, from, upto}
use Rattle.picture.specs.Numbers.{job_at, free_position}
use Rattle.picture.specs.declared.Table.TheVariants.{Channels}
use Rattle.picture.specs.declared.Area.TheVariants.{Heap}
use Rattle.blocks.specs.Header.{queue_kind}
use Rattle.placing.specs.Place.{after}
use Rattle.placing.proofs.Answer.{after_at, after_nowhere}
use Rattle.calls.specs.Outcome.{refuse, succeed, Meets}
use Rattle.calls.specs.Call.{outcome}
use Rattle.calls.specs.Registers.{D1, meant}
use Rattle.calls.proofs.Outcome.{meets_refuse, meets_succeed}
use Rattle.rooms.specs.Room.{room_at}
use Rattle.rooms.proofs.Room.{placed_there}
use Rattle.entering.specs.Entry.{has_position, has_tag, next_number}
use Rattle.names.specs.Names.{key_of, good, number_in, named}
use Rattle.names.specs.declared.NameFault.{NameFault}
use Rattle.opening.specs.Effects.{queue_bytes, queued, channelled, opened, channel_registers}
use Rattle.opening.specs.Calls.{open_channel}

module _ (p d s : List ℕ) where
  pub open_dead : job_at p (meant p (D1 d)) ≡ None → outcome (open_channel s) p d ≡ refuse invalid_job p d
  unfolding open_channel outcome
  open_dead h = rw h

  module _ (j : ℕ) (lives : job_at p (meant p (D1 d)) ≡ Some j) where
    pub open_misnamed : (fault : NameFault) → named s ≡ Err fault → outcome (open_channel s) p d ≡ refuse (key_of (Err fault)) p d
    unfolding open_channel outcome good
    open_misnamed fault h = rw (lives, h)

    module _ (n : ℕ) (fair : named s ≡ Ok n) where
      pub open_no_position : positions Channels ≤ free_position p Channels → outcome (open_channel s) p d ≡ refuse channel_not_open p d
      unfolding open_channel has_position outcome good
      open_no_position h = rw (lives, fair, le-ltb _ _ h)

      module _ (free : free_position p Channels < positions Channels) where
        pub open_no_tag : greatest_tag ≤ word p (last_word Channels) → outcome (open_channel s) p d ≡ refuse channel_not_open p d
        unfolding open_channel has_position has_tag outcome good
        open_no_tag h = rw (lives, fair, lt-ltb _ _ free, le-ltb _ _ h)

        -- from what placing answers
        module _ (tagged : word p (last_word Channels) < greatest_tag) (o b : ℕ) (owner : o ≡ meant p (D1 d)) (long : b ≡ queue_bytes n) (q : List ℕ)
            (leaves : q ≡ after p (from p Heap) (upto p Heap) b queue_kind o 0) where
          open_full : room_at p Heap (queue_bytes n) ≡ None → outcome (open_channel s) p d ≡ refuse out_of_memory p d
          unfolding open_channel has_position has_tag outcome good number_in
          open_full h = rw (lives, fair, lt-ltb _ _ free, lt-ltb _ _ tagged, h)

          open_done : (i : ℕ) → room_at p Heap (queue_bytes n) ≡ Some i
              → outcome (open_channel s) p d ≡ succeed (opened p (meant p (D1 d)) n) (channel_registers (meant p (D1 d)) (next_number p Channels) d)
          unfolding open_channel has_position has_tag outcome good number_in
          open_done i h = rw (lives, fair, lt-ltb _ _ free, lt-ltb _ _ tagged, h)

          pub open_nowhere : room_at p Heap b ≡ None → Meets (outcome (open_channel s) p d) out_of_memory q d
          open_nowhere h =
              rw (leaves, after_nowhere p (from p Heap) (upto p Heap) b queue_kind o 0 h)
              (meets_refuse _ _ _ _ (open_full (rw long at h)))

          pub open_there : (i : ℕ) (r e : List ℕ) → room_at p Heap b ≡ Some i
              → r ≡ channelled (put q (i + 4) n) (free_position p Channels) (word p (last_word Channels) + 1) o i
              → e ≡ channel_registers o (next_number p Channels) d → Meets (outcome (open_channel s) p d) done r e
          unfolding opened queued
          open_there i r e h x y =
              let t = placed_there p Heap b i h in
              rw (x, y, leaves, after_at p (from p Heap) (upto p Heap) b i queue_kind o 0 h, ← t.1.0, long, owner)
              (meets_succeed _ _ _ (open_done i (rw long at h)))
