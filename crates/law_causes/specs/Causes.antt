-- "Each key is given only for its cause": for every key of a trap call, the exact condition, both ways.
use Rattle.std.specs.Prelude.{ℕ, ◌≡◌, List, ℤ}
use Rattle.manager.specs.Door.{called}
use Rattle.law_causes.specs.Faults.{Wrong}
use Rattle.law_causes.specs.Reasons.{Because, reasons}

-- a call answers the key of the first fault that is there, and 0 where none is
abbrev pub KeyOnlyForItsCause : Type 0
KeyOnlyForItsCause = (trap : ℕ) (p d s : List ℕ) (k : ℤ)
    → ((called trap p d s).key ≡ k → Because (Wrong p d s) k (reasons p d s trap)) × (Because (Wrong p d s) k (reasons p d s trap) → (called trap p d s).key ≡ k)
