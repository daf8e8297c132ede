-- Document 01: the calls $6, $18 and $19.
use Rattle.std.specs.Prelude.{ℕ, ◌-◌, ◌/◌, Bool, ◌&&◌, List, [], ◌∷◌, leb, ltb, eqb}
use Rattle.words.specs.Each.{any}
use Rattle.picture.specs.Layout.{from, upto}
use Rattle.picture.specs.Numbers.{job_at}
use Rattle.picture.specs.Keys.{bad_parameter}
use Rattle.picture.specs.declared.Area.TheVariants.{Heap, Transient}
use Rattle.blocks.specs.Header.{kind, plain_kind}
use Rattle.blocks.specs.Walk.{blocks}
use Rattle.placing.specs.Place.{placed, longest}
use Rattle.freeing.specs.Sweep.{swept}
use Rattle.rooms.specs.Room.{block_length, spot, room_at, room_check, first_byte}
use Rattle.calls.specs.Call.{Call}
use Rattle.calls.specs.Found.{job_check}
use Rattle.calls.specs.Registers.{D1, D2, A0, with_D1, with_A0, cleared, meant}

-- rule 82: "$6: D1 longest free transient block less 16, or 0; D2 to A3 become 0."
unfoldable pub longest_room : Call
longest_room p d = record {
  checks = [];
  picture = p;
  registers = with_D1 (longest p (from p Transient) (upto p Transient) - 16) (cleared d);
}

-- rule 88: "$18: D1 1 to 2^31 - 1"
unfoldable pub length_good : ℕ → Bool
length_good n = leb 1 n && ltb n 2147483648

-- rules 68 and 88: "room for 16 + D1 rounded up to 16"
abbrev pub taken_length : List ℕ → ℕ
taken_length d = block_length (D1 d)

-- rule 88: "D1 usable bytes, A0 first of them; D2, D3, A1 to A3 become 0": of the block of this length at i
unfoldable pub room_registers : ℕ → ℕ → List ℕ → List ℕ
room_registers length i d = with_A0 (first_byte i) (with_D1 (length - 16) (cleared d))

-- a plain block of that length, of the owner meant
unfoldable pub taken : List ℕ → List ℕ → List ℕ
taken p d = placed p (spot p Heap (taken_length d)) (taken_length d) plain_kind (meant p (D2 d)) 0

unfoldable pub take : Call
take p d = record {
  checks =
      (length_good (D1 d), bad_parameter) ∷
      job_check (job_at p (meant p (D2 d))) ∷
      room_check (room_at p Heap (taken_length d)) ∷ [];
  picture = taken p d;
  registers = room_registers (taken_length d) (spot p Heap (taken_length d)) d;
}

-- rule 89: "$19: A0 is the first byte after a plain block's header": of the block at i
unfoldable pub plain_room : List ℕ → ℕ → ℕ → Bool
plain_room p a i = eqb (kind p i) plain_kind && eqb (first_byte i) a

-- of a block that the walk of the heap meets
unfoldable pub is_plain_room : List ℕ → ℕ → Bool
is_plain_room p a = any (plain_room p a) (blocks p Heap)

-- the block whose first byte of room is at the byte offset a
abbrev pub block_before : ℕ → ℕ
block_before a = a / 4 - 4

-- the heap with that block given back
unfoldable pub given_back : List ℕ → ℕ → List ℕ
given_back p a = swept p (from p Heap) (upto p Heap) 0 (block_before a)

-- rule 89: "else -15. D0 to A3 become 0."
unfoldable pub give_back : Call
give_back p d = record {
  checks = (is_plain_room p (A0 d), bad_parameter) ∷ [];
  picture = given_back p (A0 d);
  registers = cleared d;
}
