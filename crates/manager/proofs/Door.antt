-- The checks of the door, one after the other.
use Prim.Native.Nat.{ℕ}
use mathlib.Core.Path.{◌≡◌}
use mathlib.Core.Bool.{true, false}
use mathlib.Core.List.{List}
use lib.IntN.{ℤ}
use lib.ListN.{length}
use mir.Syntax.{w32}
use mir.Val.{of_z}
use borrow.Author.Tests.{eq-eqb, ne_eqb}
use Rattle.words.specs.Words.{word, put}
use Rattle.picture.specs.Layout.{nobody}
use Rattle.picture.specs.Keys.{invalid_job, bad_parameter, not_sound}
use Rattle.sound.specs.Sound.{sound}
use Rattle.calls.specs.Outcome.{Outcome, refuse, Meets}
use Rattle.calls.specs.Call.{outcome}
use Rattle.calls.specs.Registers.{caller}
use Rattle.traps.specs.Traps.{trap_one, trap_two, trap_three, call_named}
use Rattle.manager.specs.Door.{checked, with_key, called}

module _ (trap : ℕ) (p d name : List ℕ) where
  pub checked_unsound : sound p ≡ false → outcome (checked trap name) p d ≡ refuse not_sound p d
  unfolding checked outcome
  checked_unsound s = rw s

  pub checked_nobody : sound p ≡ true → caller p ≡ nobody → outcome (checked trap name) p d ≡ refuse invalid_job p d
  unfolding checked outcome
  checked_nobody s n = rw (s, eq-eqb (caller p) nobody n)

  pub checked_named : sound p ≡ true → (caller p ≡ nobody → ⊥) → outcome (checked trap name) p d ≡ outcome (call_named trap name) p d
  unfolding checked outcome
  checked_named s n = rw (s, ne_eqb (caller p) nobody n)

  pub named_one : trap ≡ 1 → outcome (call_named trap name) p d ≡ outcome (trap_one (word d 0)) p d
  unfolding call_named outcome
  named_one e = rw e

  pub named_two : trap ≡ 2 → outcome (call_named trap name) p d ≡ outcome (trap_two (word d 0) name) p d
  unfolding call_named outcome
  named_two e = rw e

  pub named_three : trap ≡ 3 → outcome (call_named trap name) p d ≡ outcome (trap_three (word d 0)) p d
  unfolding call_named outcome
  named_three e = rw e

  pub named_unknown : (trap ≡ 1 → ⊥) → (trap ≡ 2 → ⊥) → (trap ≡ 3 → ⊥) → outcome (call_named trap name) p d ≡ refuse bad_parameter p d
  unfolding call_named outcome
  named_unknown a b c = rw (ne_eqb trap 1 a, ne_eqb trap 2 b, ne_eqb trap 3 c)

  pub called_otherwise : (length d ≡ 8 → ⊥) → called trap p d name ≡ refuse bad_parameter p d
  unfolding called
  called_otherwise n = rw (ne_eqb (length d) 8 n)

  pub called_with_eight : length d ≡ 8 → called trap p d name ≡ with_key (outcome (checked trap name) p d)
  unfolding called
  called_with_eight e = rw (eq-eqb (length d) 8 e)

-- what meets an outcome meets one that equals it
pub meets_equal : (o u : Outcome) (r : ℤ) (p d : List ℕ) → o ≡ u → Meets u r p d → Meets o r p d
meets_equal o u r p d e m = rw e m

-- once D0 has the key
pub meets_with_key : (o : Outcome) (r : ℤ) (p d : List ℕ) → Meets o r p d → Meets (with_key o) r p (put d 0 (of_z w32 r))
meets_with_key o r p d m = record { answers = m.answers; leaves = m.leaves; gives = rw (m.gives, m.answers) }
