-- Demand 2: "Out of memory is said exactly when no free block is long enough and the checks before it have passed."
use Rattle.std.specs.Prelude.{ℕ, ◌<◌, ◌≡◌, true, List, length}
use Rattle.words.specs.Words.{word}
use Rattle.words.specs.Each.{In}
use Rattle.picture.specs.Keys.{out_of_memory}
use Rattle.picture.specs.Layout.{nobody}
use Rattle.picture.specs.declared.Area.{Area}
use Rattle.picture.specs.declared.Area.TheVariants.{Heap, Transient}
use Rattle.blocks.specs.Header.{size, free}
use Rattle.blocks.specs.Walk.{blocks}
use Rattle.sound.specs.Sound.{sound}
use Rattle.calls.specs.Registers.{caller}
use Rattle.manager.specs.Door.{called}
use Rattle.law_causes.specs.Faults.{Wrong}
use Rattle.law_causes.specs.Reasons.{Reason, NoneOf, create_before, create_bytes, take_before, take_bytes, open_before, open_bytes}

-- The call is $1, $18 or the opening of a channel: it asks for so many bytes, header and all, in that area, once these faults are not there.
pub data Asks (p d s : List ℕ) : ℕ → Area → ℕ → List Reason → Type 0 where
  creating : word d 0 ≡ 0x1 → Asks p d s 1 Transient (create_bytes p d s) (create_before p d s)
  taking : word d 0 ≡ 0x18 → Asks p d s 1 Heap (take_bytes p d s) (take_before p d s)
  opening : word d 0 ≡ 0x1 → Asks p d s 2 Heap (open_bytes p d s) (open_before p d s)

-- Registers, picture and current job pass, the call asks for room, its checks before that pass, and every free block of the area is shorter.
pub record OutOfMemory (trap : ℕ) (p d s : List ℕ) : Type 0 where
  pub eight : length d ≡ 8
  pub picture : sound p ≡ true
  pub somebody : caller p ≡ nobody → ⊥
  pub area : Area
  pub bytes : ℕ
  pub before : List Reason
  pub asks : Asks p d s trap area bytes before
  pub passed : NoneOf (Wrong p d s) before
  pub shorter : (i : ℕ) → In i (blocks p area) → free p i ≡ true → size p i < bytes

-- -3 EXACTLY
abbrev pub OutOfMemoryExactly : Type 0
OutOfMemoryExactly = (trap : ℕ) (p d s : List ℕ) → ((called trap p d s).key ≡ out_of_memory → OutOfMemory trap p d s) × (OutOfMemory trap p d s → (called trap p d s).key ≡ out_of_memory)
