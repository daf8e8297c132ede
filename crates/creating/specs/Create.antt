-- Document 01: the call $1 (rules 76 and 77).
use Rattle.std.specs.Prelude.{ℕ, ◌+◌, Bool, true, false, cond, List, [], ◌∷◌, leb, Option, Some, None}
use Rattle.picture.specs.Layout.{nobody}
use Rattle.picture.specs.Numbers.{live, free_position}
use Rattle.picture.specs.Keys.{done, invalid_job, bad_parameter}
use Rattle.picture.specs.declared.Table.TheVariants.{Jobs}
use Rattle.picture.specs.declared.Area.TheVariants.{Transient}
use Rattle.blocks.specs.Header.{job_kind}
use Rattle.placing.specs.Place.{placed}
use Rattle.rooms.specs.Room.{block_length, spot, room_at, room_check, header_byte, first_byte}
use Rattle.calls.specs.Call.{Check, Call}
use Rattle.calls.specs.Registers.{D1, D2, D3, A1, with_D1, with_A0}
use Rattle.entering.specs.Entry.{has_position, has_tag, next_tag, next_number, entered}

-- rule 76: "D1 negative as a long"
abbrev pub negative : ℕ → Bool
negative n = leb 0x8000_0000 n

-- rule 76: "where D1 is negative the new job has no owner; otherwise D1 names its owner", a live job (-2)
unfoldable pub owner_found : List ℕ → ℕ → Option ℕ
owner_found p n = cond (negative n) (Some nobody) (cond (live p Jobs n) (Some n) None)

-- "D1 must be live (-2)"
abbrev pub owner_check : Option ℕ → Check
owner_check (Some o) = (true, done)
owner_check None = (false, invalid_job)

-- the owner's number; where none is found the call is refused, and nobody stands for it
abbrev pub owner_in : Option ℕ → ℕ
owner_in (Some o) = o
owner_in None = nobody

-- rule 76: "D3 below 4: -15"
abbrev pub least_data : ℕ
least_data = 4

-- rules 68 and 76: "room for 16 + D2 + D3 rounded up to 16"
abbrev pub job_length : List ℕ → ℕ
job_length d = block_length (D2 d + D3 d)

-- rule 77: "New job: all but number, owner and base 0; start A1"
unfoldable pub created : List ℕ → List ℕ → List ℕ
created p d = entered
    (placed p (spot p Transient (job_length d)) (job_length d) job_kind (owner_in (owner_found p (D1 d))) (A1 d))
    Jobs
    (free_position p Jobs)
    (next_tag p Jobs)
    (owner_in (owner_found p (D1 d)))
    (header_byte (spot p Transient (job_length d)))

-- rule 77: "D1 number, A0 first byte of room": of the block at i
unfoldable pub job_registers : ℕ → ℕ → List ℕ → List ℕ
job_registers number i d = with_A0 (first_byte i) (with_D1 number d)

unfoldable pub create : Call
create p d = record {
  checks =
      owner_check (owner_found p (D1 d)) ∷
      (leb least_data (D3 d), bad_parameter) ∷
      (has_position p Jobs, invalid_job) ∷
      (has_tag p Jobs, invalid_job) ∷
      room_check (room_at p Transient (job_length d)) ∷ [];
  picture = created p d;
  registers = job_registers (next_number p Jobs) (spot p Transient (job_length d)) d;
}
