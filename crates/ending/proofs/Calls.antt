-- The ways out of $4 and $5, as the code takes them.
use Prim.Native.Nat.{ℕ, ◌≤◌}
use mathlib.Core.Path.{◌≡◌}
use mathlib.Core.Bool.{true, false}
use mathlib.Core.List.{List}
use native.Mathlib.Omega.{arith}
use borrow.Author.Tests.{eq-eqb, ne_eqb}
use Rattle.picture.specs.Layout.{greatest_size, upto}
use Rattle.picture.specs.Numbers.{job_at}
use Rattle.picture.specs.Keys.{not_complete, invalid_job, bad_parameter}
use Rattle.picture.specs.declared.Area.TheVariants.{Heap, Transient}
use Rattle.std.proofs.Common.{Some, None}
use Rattle.sound.specs.Sound.{sound}
use Rattle.sound_facts.proofs.View.{view}
use Rattle.calls.specs.Outcome.{refuse, succeed}
use Rattle.calls.specs.Call.{outcome}
use Rattle.calls.specs.Registers.{D1, D3, cleared, meant}
use Rattle.tree.specs.Tree.{tree}
use Rattle.ending.specs.Ended.{ended}
use Rattle.ending.specs.Remove.{inactive, removal, remove, force_remove}

-- the areas of a sound picture end within it
pub areas_within : (p : List ℕ) → sound p ≡ true → (upto p Heap ≤ greatest_size) × (upto p Transient ≤ greatest_size)
areas_within p s = let z = (view p s).sizes in let l = z.long in let m = z.most in let h = z.heap_most in (omega arith, omega arith)

module _ (p d : List ℕ) where
  pub remove_no_job : job_at p (meant p (D1 d)) ≡ None → outcome remove p d ≡ refuse invalid_job p d
  unfolding remove removal outcome
  remove_no_job a = rw a

  pub force_remove_no_job : job_at p (meant p (D1 d)) ≡ None → outcome force_remove p d ≡ refuse invalid_job p d
  unfolding force_remove removal outcome
  force_remove_no_job a = rw a

  module _ (t : ℕ) (a : job_at p (meant p (D1 d)) ≡ Some t) where
    pub remove_job_0 : t ≡ 0 → outcome remove p d ≡ refuse bad_parameter p d
    unfolding remove removal outcome
    remove_job_0 z = rw (a, eq-eqb t 0 z)

    pub remove_active : (t ≡ 0 → ⊥) → inactive p (tree p t) ≡ false → outcome remove p d ≡ refuse not_complete p d
    unfolding remove removal outcome
    remove_active z i = rw (a, ne_eqb t 0 z, i)

    pub remove_ends : (t ≡ 0 → ⊥) → inactive p (tree p t) ≡ true → (q e : List ℕ) → q ≡ ended p t (D3 d) → e ≡ cleared d → outcome remove p d ≡ succeed q e
    unfolding remove removal outcome
    remove_ends z i q e x y = rw (a, ne_eqb t 0 z, i, x, y)

    pub force_remove_job_0 : t ≡ 0 → outcome force_remove p d ≡ refuse bad_parameter p d
    unfolding force_remove removal outcome
    force_remove_job_0 z = rw (a, eq-eqb t 0 z)

    pub force_remove_ends : (t ≡ 0 → ⊥) → (q e : List ℕ) → q ≡ ended p t (D3 d) → e ≡ cleared d → outcome force_remove p d ≡ succeed q e
    unfolding force_remove removal outcome
    force_remove_ends z q e x y = rw (a, ne_eqb t 0 z, x, y)
