-- The job that D1 means, as the code finds it.
use Prim.Native.Nat.{ℕ, ◌<◌}
use mathlib.Core.Path.{◌≡◌, sym, ap, ◌∙◌}
use mathlib.Core.List.{List}
use Rattle.picture.specs.Layout.{positions}
use Rattle.picture.specs.Numbers.{job_at}
use Rattle.picture.specs.declared.Table.TheVariants.{Jobs}
use Rattle.std.proofs.Common.{Option}
use Rattle.std.proofs.Common.{Some, None}
use Rattle.calls.specs.Registers.{D1, meant}
use Rattle.calls.specs.Found.{job_place, job_position}
use Rattle.calls.proofs.Found.{job_found}
use Rattle.jobs.specs.Calls.{job}

-- the code's number m and position k are those of the job that D1 means, which is live
pub record Found (p d : List ℕ) (m k : ℕ) : Type 0 where
  pub means : m ≡ job p d
  pub finds : job_at p (job p d) ≡ Some k
  pub placed : k ≡ job_position p d
  pub below : k < positions Jobs

module _ (p d : List ℕ) (w m : ℕ) (r : Option ℕ) (reads : w ≡ D1 d) (means : m ≡ meant p w) (finds : r ≡ job_at p m) where
  named : m ≡ job p d
  named = means ∙ ap (meant p) reads

  pub found : (k : ℕ) → r ≡ Some k → Found p d m k
  found k e =
      let f = sym (finds ∙ ap (job_at p) named) ∙ e in
      let a = job_found p (job p d) k f in
      record { means = named; finds = f; placed = sym (ap job_place f); below = a.within }

  pub lost : r ≡ None → job_at p (job p d) ≡ None
  lost e = sym (finds ∙ ap (job_at p) named) ∙ e
