-- Whatever meets an outcome is equal to it, so two that meet one are equal.
use mathlib.Core.Path.{◌≡◌, sym, ap, ◌∙◌}
use mathlib.Core.List.{List}
use Prim.Native.Nat.{ℕ}
use lib.IntN.{ℤ}
use Rattle.picture.specs.Keys.{done}
use Rattle.calls.specs.Outcome.{Outcome, refuse, succeed, Meets}

-- from an equation of outcomes, what a way out of a call's code has to show
pub meets_refuse : (o : Outcome) (k : ℤ) (p d : List ℕ) → o ≡ refuse k p d → Meets o k p d
meets_refuse o k p d e = record { answers = sym (ap (λ (x : Outcome). x.key) e); leaves = sym (ap (λ (x : Outcome). x.picture) e); gives = sym (ap (λ (x : Outcome). x.registers) e) }

pub meets_succeed : (o : Outcome) (p d : List ℕ) → o ≡ succeed p d → Meets o done p d
meets_succeed o p d e = record { answers = sym (ap (λ (x : Outcome). x.key) e); leaves = sym (ap (λ (x : Outcome). x.picture) e); gives = sym (ap (λ (x : Outcome). x.registers) e) }

-- two answers to one call are equal: key, picture and registers
pub record Same (r s : ℤ) (p q d e : List ℕ) : Type 0 where
  pub keys : r ≡ s
  pub pictures : p ≡ q
  pub registers : d ≡ e

pub whatever_meets_is_equal : (o : Outcome) (r s : ℤ) (p q d e : List ℕ) → Meets o r p d → Meets o s q e → Same r s p q d e
whatever_meets_is_equal o r s p q d e m n = record { keys = m.answers ∙ sym n.answers; pictures = m.leaves ∙ sym n.leaves; registers = m.gives ∙ sym n.gives }
