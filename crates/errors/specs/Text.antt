-- Document 01 (rules 110 to 112): "Error text: two texts are lent, the system's (21 strings for keys -1 to -21) and the driver's."
use Rattle.std.specs.Prelude.{◌≡◌, Bool, cond, List, ℕ, zero, suc, ◌+◌, ◌*◌, leb, ltb, ℤ, pos, negsuc, length, get_or, take, drop, Option, Some, None, option_map, option_and_then}
use Rattle.std.specs.Borrow.{Bor}
use Rattle.picture.specs.Keys.{done, not_found}
use Rattle.errors.specs.declared.Part.{Part}
use Rattle.errors.specs.declared.Spot.{Spot}
use Rattle.errors.specs.declared.Spot.TheVariants.{System, Driver}

-- rule 110: "A string is a length word, high byte first, and its characters; strings follow without padding"
abbrev pub length_word : List ℕ → ℕ → ℕ
length_word s at = get_or s at 0 * 256 + get_or s (at + 1) 0

-- the string whose length word stands at `at` lies whole in the text
abbrev pub whole_at : List ℕ → ℕ → Bool
whole_at s at = leb (at + 2 + length_word s at) (length s)

abbrev pub string_at : List ℕ → ℕ → Option Part
string_at s at = cond (whole_at s at) (Some (record { start = at + 2; count = length_word s at })) None

-- past a string
abbrev pub past : Part → ℕ
past part = part.start + part.count

-- where the length word of string n stands; nowhere where a string before it is cut
abbrev pub nth_at : List ℕ → ℕ → Option ℕ
nth_at s zero = Some 0
nth_at s (suc n) = option_map past (option_and_then (string_at s) (nth_at s n))

-- rule 111: "A negative key picks a system string by order; a positive key is the offset of a length word in the driver's text."
-- rule 112: "Cut short, key below -21, or key 0": nowhere
abbrev pub system_strings : ℕ
system_strings = 21

abbrev pub spot_of : ℤ → List ℕ → List ℕ → Option Spot
spot_of (pos zero) system driver = None
spot_of (pos (suc k)) system driver = option_map Driver (string_at driver (suc k))
spot_of (negsuc n) system driver = cond (ltb n system_strings) (option_map System (option_and_then (string_at system) (nth_at system n))) None

-- r is the part of the text t from `at`, `count` bytes long: the same bytes, and in the same place
pub record Lies (t : Bor (List ℕ)) (at count : ℕ) (r : Bor (List ℕ)) : Type 0 where
  pub bytes : r.now ≡ take count (drop at t.now)
  pub block : r.ref_ptr.0 ≡ t.ref_ptr.0
  pub place : r.ref_ptr.1 ≡ t.ref_ptr.1 + at

-- rules 111 and 112: "The answer is that part of the lent text itself": or "the empty part at the start of the system's text"
abbrev pub Answer : Option Spot → Bor (List ℕ) → Bor (List ℕ) → Bor (List ℕ) → Type 0
Answer (Some (System part)) system driver r = Lies system part.start part.count r
Answer (Some (Driver part)) system driver r = Lies driver part.start part.count r
Answer None system driver r = Lies system 0 0 r

-- rules 111 and 112: "the characters alone, with key 0"; nowhere: -7
abbrev pub spot_key : Option Spot → ℤ
spot_key (Some spot) = done
spot_key None = not_found

unfoldable pub error_key : ℤ → List ℕ → List ℕ → ℤ
error_key key system driver = spot_key (spot_of key system driver)
