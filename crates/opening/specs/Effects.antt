-- What opening a channel does to the picture and the registers (rule 90).
use Rattle.std.specs.Prelude.{ℕ, ◌+◌, List}
use Rattle.picture.specs.Records.{with_ending}
use Rattle.picture.specs.Numbers.{free_position}
use Rattle.picture.specs.declared.Table.TheVariants.{Channels}
use Rattle.picture.specs.declared.Area.TheVariants.{Heap}
use Rattle.blocks.specs.Header.{queue_kind, with_queue_length, rounded}
use Rattle.placing.specs.Place.{placed}
use Rattle.calls.specs.Registers.{with_D1, with_A0}
use Rattle.rooms.specs.Room.{spot, header_byte}
use Rattle.entering.specs.Entry.{next_tag, entered}

-- "room for 32 + n rounded up to 16"
abbrev pub queue_bytes : ℕ → ℕ
queue_bytes n = rounded (32 + n)

-- an empty queue of length n, owned by o, placed at i: of "length n .., index of the oldest byte .., count .., 0" all but n are 0
unfoldable pub queued : List ℕ → ℕ → ℕ → ℕ → List ℕ
queued p i o n = with_queue_length (placed p i (queue_bytes n) queue_kind o 0) i n

-- the entry with tag g at position k, of owner o, for the queue at i: "Channel record: number, owner, block base, 1"
unfoldable pub channelled : List ℕ → ℕ → ℕ → ℕ → ℕ → List ℕ
channelled p k g o i = with_ending (entered p Channels k g o (header_byte i)) k 1

-- a channel of owner o with a queue of length n
unfoldable pub opened : List ℕ → ℕ → ℕ → List ℕ
opened p o n = channelled (queued p (spot p Heap (queue_bytes n)) o n) (free_position p Channels) (next_tag p Channels) o (spot p Heap (queue_bytes n))

-- "D1 owner, A0 channel"
unfoldable pub channel_registers : ℕ → ℕ → List ℕ → List ℕ
channel_registers o c d = with_A0 c (with_D1 o d)
