-- Document 01: trap 2 $1 (rule 90).
use Rattle.std.specs.Prelude.{ℕ, List, [], ◌∷◌}
use Rattle.picture.specs.Keys.{channel_not_open}
use Rattle.picture.specs.Numbers.{job_at}
use Rattle.picture.specs.declared.Table.TheVariants.{Channels}
use Rattle.picture.specs.declared.Area.TheVariants.{Heap}
use Rattle.calls.specs.Call.{Call}
use Rattle.calls.specs.Found.{job_check}
use Rattle.calls.specs.Registers.{D1, meant}
use Rattle.rooms.specs.Room.{room_at, room_check}
use Rattle.entering.specs.Entry.{has_position, has_tag, next_number}
use Rattle.names.specs.Names.{name_check, number_in, named}
use Rattle.opening.specs.Effects.{queue_bytes, opened, channel_registers}

-- "Trap 2 $1: job D1; name PIPE_n, either case ..; position (lowest), tag, room for 32 + n rounded up to 16. D1 owner, A0 channel." The name is s.
unfoldable pub open_channel : List ℕ → Call
open_channel s p d = record {
  checks =
      job_check (job_at p (meant p (D1 d))) ∷
      name_check (named s) ∷
      (has_position p Channels, channel_not_open) ∷
      (has_tag p Channels, channel_not_open) ∷
      room_check (room_at p Heap (queue_bytes (number_in (named s)))) ∷ [];
  picture = opened p (meant p (D1 d)) (number_in (named s));
  registers = channel_registers (meant p (D1 d)) (next_number p Channels) d;
}
