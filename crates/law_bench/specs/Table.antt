-- "Desk bench examples" (rules 130 to 133 and 135): the cases marked * in a single table, through the door, all from the fresh picture of the session
-- but for the picks, whose picture is set up by hand.
use Rattle.std.specs.Prelude.{ℕ, zero, suc, ◌≡◌, true, List, [], ◌∷◌, ℤ}
use Rattle.picture.specs.Keys.{done, invalid_job, out_of_memory, bad_name, bad_parameter}
use Rattle.picture.specs.Layout.{greatest_priority, nobody}
use Rattle.picture.specs.Records.{owner, members}
use Rattle.picture.specs.Numbers.{number_of}
use Rattle.picture.specs.declared.Table.TheVariants.{Jobs}
use Rattle.blocks.specs.Header.{holder}
use Rattle.sound.specs.Sound.{sound}
use Rattle.fresh.specs.Fresh.{fresh}
use Rattle.calls.specs.Outcome.{Outcome}
use Rattle.calls.specs.Registers.{D1, A0}
use Rattle.law_picks.specs.Bench.{set_up, full_house}
use Rattle.manager.specs.Door.{called}
use Rattle.manager.specs.Turn.{pick_answer, pick_picture}

-- a call, and the key, D1 and A0 that it answers
pub record Case : Type 0 where
  pub comes_to : Outcome
  pub key : ℤ
  pub in_D1 : ℕ
  pub in_A0 : ℕ

abbrev pub case : Outcome → ℤ → ℕ → ℕ → Case
case o k x a = record { comes_to = o; key = k; in_D1 = x; in_A0 = a }

-- every call of a list answers so
abbrev pub Answered : List Case → Type 0
Answered [] = Unit {0}
Answered (c ∷ l) = ((c.comes_to.key ≡ c.key) × ((D1 c.comes_to.registers ≡ c.in_D1) × (A0 c.comes_to.registers ≡ c.in_A0))) × Answered l

-- "The picture starts fresh, N 1,024, H 256"
abbrev pub start : List ℕ
start = fresh 1024 256

-- the registers of a call: D0 to D3, and 0 in the others
abbrev pub asks : ℕ → ℕ → ℕ → ℕ → List ℕ
asks code x y z = code ∷ x ∷ y ∷ z ∷ 0 ∷ 0 ∷ 0 ∷ 0 ∷ []

-- $18 with n bytes for job 0, after the calls that led to p
abbrev pub taking : ℕ → List ℕ → Outcome
taking n p = called 1 p (asks 0x18 n 0 0) []

-- $1 with c bytes of code and n of data
abbrev pub creating : ℕ → ℕ → Outcome
creating c n = called 1 start (asks 0x1 0 c n) []

-- $1 with D1 n, no code and 4 bytes of data, after the calls that led to p
abbrev pub creating_for : ℕ → List ℕ → Outcome
creating_for n p = called 1 p (asks 0x1 n 0 4) []

-- $B with this priority for job 0
abbrev pub prioritizing : ℕ → Outcome
prioritizing u = called 1 start (asks 0xB 0 u 0) []

-- trap 2 $1 for job 0, with the name PIPE_3276 and one digit more
abbrev pub opening : ℕ → Outcome
opening digit = called 2 start (asks 0x1 0 0 0) (80 ∷ 73 ∷ 80 ∷ 69 ∷ 95 ∷ 51 ∷ 50 ∷ 55 ∷ 54 ∷ digit ∷ [])

-- the pictures after the first take, and after the second
abbrev pub taken_100 : List ℕ
taken_100 = (taking 100 start).picture

abbrev pub taken_101 : List ℕ
taken_101 = (taking 1 taken_100).picture

abbrev pub cases : List Case
cases =
    -- "Take 100: A0 1,584, D1 112."
    case (taking 100 start) done 112 1584 ∷
    -- "Then take 1: A0 1,712, D1 16."
    case (taking 1 taken_100) done 16 1712 ∷
    -- "Then take 848: A0 1,744."
    case (taking 848 taken_101) done 848 1744 ∷
    -- "Instead 849: -3."
    case (taking 849 taken_101) out_of_memory 849 0 ∷
    -- "$6 answers 1,488."
    case (called 1 start (asks 0x6 0 0 0) []) done 1488 0 ∷
    -- "Create with 1,428 and 60: accepted, number $00010001, A0 2,608."
    case (creating 1428 60) done 65537 2608 ∷
    -- "With 1,429: -3."
    case (creating 1429 60) out_of_memory 0 0 ∷
    -- "D3 of 3: -15."
    case (creating 1428 3) bad_parameter 0 0 ∷
    -- "Priority 127 is accepted, 128 is -15."
    case (prioritizing 127) done 0 32 ∷
    case (prioritizing 128) bad_parameter 0 0 ∷
    -- "PIPE_32766 passes the name check": there is no room for it. "PIPE_32767 is -12."
    case (opening 54) out_of_memory 0 0 ∷
    case (opening 55) bad_name 0 0 ∷ []

-- "Positions 0, 1, 2 ready at 32, 64, 127, all accumulated 0"
abbrev pub ready_at : List ℕ
ready_at = set_up 32 (64 ∷ 127 ∷ [])

-- the numbers that n picks in a row answer
unfoldable pub picks : ℕ → List ℕ → List ℕ
picks zero p = []
picks (suc n) p = (pick_answer p).number ∷ picks n (pick_picture p)

-- the job at position 1, and the job at position 2
abbrev pub one : ℕ
one = number_of 1 1

abbrev pub two : ℕ
two = number_of 2 2

-- the pictures after job 0 has created desk four, and a helper for it
abbrev pub desk : List ℕ
desk = (creating 60 40).picture

abbrev pub helped : List ℕ
helped = (creating_for one desk).picture

-- the picture after a helper that nobody owns, and after desk four was ended, with its helper, and job 0 was picked
abbrev pub unowned : List ℕ
unowned = (creating_for 0x8000_0000 desk).picture

abbrev pub desk_ended : List ℕ
desk_ended = pick_picture (called 1 helped (asks 0x5 one 0 0) []).picture

abbrev pub helper_cases : List Case
helper_cases =
    -- "Create for it, D1 $00010001, with 0 and 4: number $00020002, A0 2,736"
    case (creating_for one desk) done two 2736 ∷
    -- "With D1 $0000FFFF: -2."
    case (creating_for 0xFFFF desk) invalid_job 0xFFFF 0 ∷
    -- "Without desk four: -2."
    case (creating_for one start) invalid_job one 0 ∷
    -- "End desk four, pick: job 0 alone is left, and $6 answers 1,488."
    case (called 1 desk_ended (asks 0x6 0 0 0) []) done 1488 0 ∷ []

-- "longword 25, of the record, and longword 682, of the header": the owner of the job at position 2, and that of the block at byte 2,720
abbrev pub owner_told : List ℕ → List ℕ
owner_told p = owner p Jobs 2 ∷ holder p 680 ∷ []

-- a helper for desk four: the calls; both longwords "are $00010001", and "with D1 $80000000 both are $FFFFFFFF"; job 0 alone is left when desk four has ended
pub record Helper : Type 0 where
  pub calls : Answered helper_cases
  pub desk_told : owner_told helped ≡ one ∷ one ∷ []
  pub nobody_told : owner_told unowned ≡ nobody ∷ nobody ∷ []
  pub job_zero_left : members desk_ended Jobs ≡ 1

-- THE TABLE: the calls; the picks, "0, 2, 1, 2, 0, 1, 2, 0"; their picture is sound, and so is the full house in which a job waits as long as demand 3 lets it;
-- the helper
pub record Table : Type 0 where
  pub calls : Answered cases
  pub picked : picks 8 ready_at ≡ 0 ∷ two ∷ one ∷ two ∷ 0 ∷ one ∷ two ∷ 0 ∷ []
  pub ready_sound : sound ready_at ≡ true
  pub full_sound : sound (full_house greatest_priority) ≡ true
  pub helper : Helper
