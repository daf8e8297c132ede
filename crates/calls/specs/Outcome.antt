-- What a call comes to: its key, and the picture and the registers after it. D0 gets the key afterwards, in one place for all calls.
use Rattle.std.specs.Prelude.{◌≡◌, List, ℕ, ℤ}
use Rattle.picture.specs.Keys.{done}

pub record Outcome : Type 0 where
  pub key : ℤ
  pub picture : List ℕ
  pub registers : List ℕ

-- rule 65: "A refusal writes D0 only"
abbrev pub refuse : ℤ → List ℕ → List ℕ → Outcome
refuse k p d = record { key = k; picture = p; registers = d }

-- rule 66: "success sets D0 to 0"
abbrev pub succeed : List ℕ → List ℕ → Outcome
succeed p d = record { key = done; picture = p; registers = d }

-- a key r, a picture p and registers d are those of an outcome
pub record Meets (o : Outcome) (r : ℤ) (p d : List ℕ) : Type 0 where
  pub answers : r ≡ o.key
  pub leaves : p ≡ o.picture
  pub gives : d ≡ o.registers
