-- What the calls $8 to $B do to the record of the job at position k, and what they answer.
use Rattle.std.specs.Prelude.{ℕ, ◌*◌, ◌%◌, Bool, true, false, not, ◌&&◌, cond, List, leb, eqb, ℤ, pos, Option, Some, None}
use Rattle.words.specs.Signed.{eq_z}
use Rattle.picture.specs.Records.{slot, timeout, with_priority, with_accumulated, with_timeout, with_wait, with_key}
use Rattle.picture.specs.declared.Table.TheVariants.{Jobs}
use Rattle.picture.specs.Layout.{greatest_priority, without_end}
use Rattle.timeouts.specs.declared.Timeout.{Timeout}
use Rattle.timeouts.specs.declared.Timeout.TheVariants.{Zero, Frames, Endless}
use Rattle.calls.specs.Registers.{with_D1, with_A0}

-- rule 87: "$8 to $B also: D1 the number, A0 the record's offset"
unfoldable pub naming : ℕ → ℕ → List ℕ → List ℕ
naming n k d = with_A0 (4 * slot Jobs k) (with_D1 n d)

-- rule 83: "D3's low word 1 to 32,767 or -1"
abbrev pub suspends : Option Timeout → Bool
suspends (Some Zero) = false
suspends (Some (Frames z)) = true
suspends (Some Endless) = true
suspends None = false

-- rule 83: "Sets the timeout, ends any wait, clears accumulated and key."
unfoldable pub suspended : List ℕ → ℕ → ℤ → List ℕ
suspended p k z = with_key (with_accumulated (with_wait (with_timeout p k z) k 0) k 0) k 0

-- rule 84: "Suspended: timeout, wait and key become 0."
unfoldable pub released : List ℕ → ℕ → List ℕ
released p k = cond (eq_z (timeout p k) (pos 0)) p (with_key (with_wait (with_timeout p k (pos 0)) k 0) k 0)

-- rule 69: "D2's low byte"
abbrev pub low_byte : ℕ → ℕ
low_byte register = register % 256

-- rule 86: "low byte of D2 at most 127", and rule 85: "1 to 127"
abbrev pub priority_good : ℕ → Bool
priority_good u = leb u greatest_priority

abbrev pub activity_good : ℕ → Bool
activity_good u = leb 1 u && leb u greatest_priority

-- rules 85 and 86: "Sets priority, clears accumulated."
unfoldable pub prioritized : List ℕ → ℕ → ℕ → List ℕ
prioritized p k u = with_accumulated (with_priority p k u) k 0

-- rule 85: "D3's low word 0 or -1, and not -1 for job 0"
abbrev pub may_wait : Option Timeout → ℕ → Bool
may_wait (Some Zero) n = true
may_wait (Some (Frames z)) n = false
may_wait (Some Endless) n = not (eqb n 0)
may_wait None n = false

-- "-1"
abbrev pub endless : Option Timeout → Bool
endless (Some Zero) = false
endless (Some (Frames z)) = false
endless (Some Endless) = true
endless None = false

-- rule 85: "With -1 the caller has timeout -1, accumulated 0, and waits": the caller at position c, for the job with number n
unfoldable pub waiting : List ℕ → Option Timeout → ℕ → ℕ → List ℕ
waiting p t c n = cond (endless t) (with_wait (with_accumulated (with_timeout p c without_end) c 0) c n) p
