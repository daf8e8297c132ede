-- An error's text for a hub in C, which can't be handed a part of a slice (rule 129): where its characters start, and how many they are.
use Rattle.std.specs.Prelude.{cond, List, ℕ, zero, suc, ℤ, pos, negsuc, Option, Some, None}
use Rattle.std.specs.Borrow.{Bor}
use Rattle.words.specs.Signed.{eq_z}
use Rattle.picture.specs.Keys.{done}
use Rattle.errors.specs.Text.{Lies, Answer, spot_of, error_key}
use Rattle.errors.specs.declared.Spot.{Spot}
use Rattle.errors.specs.declared.Spot.TheVariants.{System, Driver}
use Rattle.errors.specs.declared.Part.{Part}

-- the part of its text: where it starts, and how many characters it has; nowhere is the empty part at the start
abbrev pub part_of : Option Spot → Part
part_of (Some (System part)) = part
part_of (Some (Driver part)) = part
part_of None = record { start = 0; count = 0 }

-- which text a hub takes the part from: the driver's where the key asked about is positive and the answer is 0, the system's otherwise
abbrev pub text_for : ℤ → ℤ → Bor (List ℕ) → Bor (List ℕ) → Bor (List ℕ)
text_for (pos zero) answer system driver = system
text_for (pos (suc k)) answer system driver = cond (eq_z answer done) driver system
text_for (negsuc n) answer system driver = system

-- the part that a hub is told is the one that error_text answers
unfoldable pub SamePart : Type 0
SamePart =
    (key : ℤ) (system driver r : Bor (List ℕ)) →
    Answer (spot_of key system.now driver.now) system driver r →
    Lies
    (text_for key (error_key key system.now driver.now) system driver)
    (part_of (spot_of key system.now driver.now)).start
    (part_of (spot_of key system.now driver.now)).count
    r
