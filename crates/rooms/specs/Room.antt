-- Room in one of the two areas: whether there is any, where, and the byte offsets of a block.
use Rattle.std.specs.Prelude.{ℕ, ◌+◌, ◌*◌, true, false, List, Option, Some, None}
use Rattle.picture.specs.Layout.{from, upto}
use Rattle.picture.specs.Keys.{done, out_of_memory}
use Rattle.picture.specs.declared.Area.{Area}
use Rattle.blocks.specs.Header.{rounded}
use Rattle.placing.specs.Place.{answer}
use Rattle.calls.specs.Call.{Check}

-- rule 68: the length of a block with n bytes of room: 16 + n, "rounded up to 16"
abbrev pub block_length : ℕ → ℕ
block_length n = rounded (16 + n)

-- rule 72: where n bytes find room in the area
abbrev pub room_at : List ℕ → Area → ℕ → Option ℕ
room_at p a n = answer p (from p a) (upto p a) n

-- rule 72: "no free block of that area is long enough": -3
abbrev pub room_check : Option ℕ → Check
room_check (Some i) = (true, done)
room_check None = (false, out_of_memory)

-- the block where room is found; where there is none the call is refused, and 0 stands for it
abbrev pub room_place : Option ℕ → ℕ
room_place (Some i) = i
room_place None = 0

-- the block of the area in which n bytes are placed
abbrev pub spot : List ℕ → Area → ℕ → ℕ
spot p a n = room_place (room_at p a n)

-- rule 3: the byte offset of the header of the block at i
abbrev pub header_byte : ℕ → ℕ
header_byte i = 4 * i

-- rule 77: the byte offset of its first byte of room
abbrev pub first_byte : ℕ → ℕ
first_byte i = header_byte i + 16
