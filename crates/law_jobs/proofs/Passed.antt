-- What holds of every refusal, and of what a call does where its checks pass, holds of the call: a law for each call, with what its checks say.
use Prim.Native.Nat.{ℕ}
use mathlib.Core.Path.{◌≡◌}
use mathlib.Core.Bool.{true, false, ◌&&◌}
use mathlib.Core.List.{List}
use lib.Dec.{eqb}
use lib.IntN.{ℤ}
use borrow.Author.Tests.{not-true}
use Rattle.picture.specs.Records.{active}
use Rattle.picture.specs.Numbers.{position, live}
use Rattle.picture.specs.declared.Table.TheVariants.{Jobs}
use Rattle.timeouts.specs.Timeout.{timeout_in, value}
use Rattle.calls.specs.Found.{job_position}
use Rattle.calls.specs.Outcome.{Outcome, refuse, succeed}
use Rattle.calls.specs.Call.{outcome}
use Rattle.calls.specs.Registers.{D2, D3, A1, caller}
use Rattle.calls.specs.Writes.{with_nobody}
use Rattle.calls.proofs.Call.{of_each_way}
use Rattle.calls.proofs.Found.{job_stands, job_that_passes_is_live}
use Rattle.effects.specs.Effects.{naming, suspends, suspended, released, low_byte, priority_good, activity_good, prioritized, may_wait, waiting}
use Rattle.jobs.specs.Calls.{job, suspend, release, activate, set_priority}

-- where the live job that D1 means stands
abbrev pub stand : List ℕ → List ℕ → ℕ
stand p d = position (job p d)

module _ (P : Outcome → Type 0) (p d : List ℕ) (refused : (k : ℤ) → P (refuse k p d)) where
  abbrev Lives : Type 0
  Lives = live p Jobs (job p d) ≡ true

  abbrev Leaves : List ℕ → Type 0
  Leaves q = P (succeed (with_nobody q) (naming (job p d) (stand p d) d))

  pub suspend_ways : (Lives → suspends (timeout_in (D3 d)) && eqb (A1 d) 0 ≡ true → Leaves (suspended p (stand p d) (value (timeout_in (D3 d))))) → P (outcome suspend p d)
  unfolding suspend
  suspend_ways f = of_each_way suspend p d P refused (λ h. let l = job_that_passes_is_live p (job p d) (search) in rw (job_stands p (job p d) l) (f l (search)))

  pub release_ways : (Lives → Leaves (released p (stand p d))) → P (outcome release p d)
  unfolding release
  release_ways f = of_each_way release p d P refused (λ h. let l = job_that_passes_is_live p (job p d) (search) in rw (job_stands p (job p d) l) (f l))

  pub activate_ways : (Lives → active p (stand p d) ≡ false → activity_good (low_byte (D2 d)) ≡ true → may_wait (timeout_in (D3 d)) (job p d) ≡ true
      → Leaves (waiting (prioritized p (stand p d) (low_byte (D2 d))) (timeout_in (D3 d)) (position (caller p)) (job p d))) → P (outcome activate p d)
  unfolding activate
  activate_ways f = of_each_way activate p d P refused (λ h.
      let l = job_that_passes_is_live p (job p d) (search) in
      let idle : active p (job_position p d) ≡ false = not-true (active p (job_position p d)) (search) in
      rw (job_stands p (job p d) l) (f l (rw (job_stands p (job p d) l) at idle) (search) (search)))

  pub set_priority_ways : (Lives → priority_good (low_byte (D2 d)) ≡ true → Leaves (prioritized p (stand p d) (low_byte (D2 d)))) → P (outcome set_priority p d)
  unfolding set_priority
  set_priority_ways f = of_each_way set_priority p d P refused (λ h. let l = job_that_passes_is_live p (job p d) (search) in rw (job_stands p (job p d) l) (f l (search)))
