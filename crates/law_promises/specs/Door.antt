-- Demands 1 and 2, of one call: "Any memory picture, any registers, any call number gets an answer. .. A refusal gives its error key
-- and changes nothing else, in the picture or in the registers."
use Rattle.std.specs.Prelude.{ℕ, ◌≡◌, true, false, List, length}
use Rattle.words.specs.Words.{put}
use Rattle.words.specs.Signed.{bits}
use Rattle.picture.specs.Keys.{done, bad_parameter, not_sound}
use Rattle.sound.specs.Sound.{sound}
use Rattle.calls.specs.Outcome.{Outcome, refuse}
use Rattle.manager.specs.Door.{called}
use Rattle.manager.specs.Turn.{pick_picture, ticking}

-- a refusal changes D0 and nothing else, for every call at once
pub record OnlyKeyWritten (o : Outcome) (p d : List ℕ) : Type 0 where
  pub picture : o.picture ≡ p
  pub registers : o.registers ≡ put d 0 (bits o.key)

abbrev pub RefusalWritesOnlyD0 : Type 0
RefusalWritesOnlyD0 = (trap : ℕ) (p d name : List ℕ) → length d ≡ 8 → ((called trap p d name).key ≡ done → ⊥) → OnlyKeyWritten (called trap p d name) p d

-- registers not 8: -15 is answered, nothing written
abbrev pub OtherRegistersRefused : Type 0
OtherRegistersRefused = (trap : ℕ) (p d name : List ℕ) → (length d ≡ 8 → ⊥) → called trap p d name ≡ refuse bad_parameter p d

-- an unsound picture is answered -16 and unchanged
pub record Unsound (o : Outcome) (p d : List ℕ) : Type 0 where
  pub key : o.key ≡ not_sound
  pub written : OnlyKeyWritten o p d

abbrev pub UnsoundIsRefused : Type 0
UnsoundIsRefused = (trap : ℕ) (p d name : List ℕ) → length d ≡ 8 → sound p ≡ false → Unsound (called trap p d name) p d

-- every call, pick and tick keeps a sound picture sound
abbrev pub CallKeepsSound : Type 0
CallKeepsSound = (trap : ℕ) (p d name : List ℕ) → sound p ≡ true → sound (called trap p d name).picture ≡ true

abbrev pub PickKeepsSound : Type 0
PickKeepsSound = (p : List ℕ) → sound p ≡ true → sound (pick_picture p) ≡ true

abbrev pub TickKeepsSound : Type 0
TickKeepsSound = (p : List ℕ) → sound p ≡ true → sound (ticking p) ≡ true
