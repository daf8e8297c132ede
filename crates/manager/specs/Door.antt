-- Document 01 (rules 64 to 66): "Order: registers not 8 (-15 is answered, nothing written), picture, nobody current,
-- unknown trap or call (all 32 bits of D0 count), then as listed per call. A refusal writes D0 only; success sets D0 to 0."
use Rattle.std.specs.Prelude.{ℕ, not, cond, List, ◌∷◌, length, eqb}
use Rattle.words.specs.Words.{put}
use Rattle.words.specs.Signed.{bits}
use Rattle.picture.specs.Layout.{nobody}
use Rattle.picture.specs.Keys.{invalid_job, bad_parameter, not_sound}
use Rattle.sound.specs.Sound.{sound}
use Rattle.calls.specs.Outcome.{Outcome, refuse}
use Rattle.calls.specs.Call.{Call, outcome}
use Rattle.calls.specs.Registers.{caller}
use Rattle.traps.specs.Traps.{call_named}

-- the picture, then nobody current, then the call's own checks
unfoldable pub checked : ℕ → List ℕ → Call
checked trap name p d = record {
  checks =
      (sound p, not_sound) ∷
      (not (eqb (caller p) nobody), invalid_job) ∷ (call_named trap name p d).checks;
  picture = (call_named trap name p d).picture;
  registers = (call_named trap name p d).registers;
}

-- D0 gets the key
abbrev pub with_key : Outcome → Outcome
with_key o = record { key = o.key; picture = o.picture; registers = put o.registers 0 (bits o.key) }

-- a trap call
unfoldable pub called : ℕ → List ℕ → List ℕ → List ℕ → Outcome
called trap p d name = cond (eqb (length d) 8) (with_key (outcome (checked trap name) p d)) (refuse bad_parameter p d)
