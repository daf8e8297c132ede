-- The ways out of each call, as its code takes them.
use Prim.Native.Nat.{ℕ, ◌%◌, ◌≤◌, ◌<◌}
use mathlib.Core.Path.{◌≡◌, sym, ap, ◌∙◌}
use mathlib.Core.Bool.{Bool, true, false, not, ◌&&◌}
use mathlib.Core.List.{List}
use lib.Dec.{leb, eqb}
use borrow.Author.Tests.{le-leb, lt-leb, not-true, not-false}
use Rattle.picture.specs.Keys.{done, not_complete, invalid_job, bad_parameter}
use Rattle.picture.specs.Records.{active}
use Rattle.picture.specs.Numbers.{position, job_at}
use Rattle.std.proofs.Common.{None}
use Rattle.picture.specs.Layout.{greatest_priority}
use Rattle.std.proofs.Common.{Option}
use Rattle.timeouts.specs.Timeout.{timeout_in, value}
use Rattle.timeouts.specs.declared.Timeout.{Timeout}
use Rattle.calls.specs.Found.{job_position}
use Rattle.calls.specs.Outcome.{Outcome, succeed, Meets}
use Rattle.calls.specs.Call.{outcome}
use Rattle.calls.specs.Registers.{D2, D3, A1, caller}
use Rattle.calls.specs.Writes.{with_nobody}
use Rattle.calls.proofs.Outcome.{meets_refuse}
use Rattle.effects.specs.Effects.{naming, suspends, suspended, released, low_byte, activity_good, prioritized, may_wait, waiting}
use Rattle.jobs.specs.Calls.{job, suspend, release, activate, set_priority}
use Rattle.jobs.proofs.Found.{Found}

-- an outcome that succeeds, with the code's names for its parts
meets_done : (o : Outcome) (p d q e : List ℕ) → o ≡ succeed p d → q ≡ p → e ≡ d → Meets o done q e
meets_done o p d q e s a b = record { answers = sym (ap (λ (x : Outcome). x.key) s); leaves = a ∙ sym (ap (λ (x : Outcome). x.picture) s); gives = b ∙ sym (ap (λ (x : Outcome). x.registers) s) }

module _ (p d : List ℕ) where
  module _ (h : job_at p (job p d) ≡ None) where
    pub suspend_lost : Meets (outcome suspend p d) invalid_job p d
    unfolding suspend outcome
    suspend_lost = meets_refuse _ invalid_job p d (rw h)

    pub release_lost : Meets (outcome release p d) invalid_job p d
    unfolding release outcome
    release_lost = meets_refuse _ invalid_job p d (rw h)

    pub activate_lost : Meets (outcome activate p d) invalid_job p d
    unfolding activate outcome
    activate_lost = meets_refuse _ invalid_job p d (rw h)

    pub set_priority_lost : Meets (outcome set_priority p d) invalid_job p d
    unfolding set_priority outcome
    set_priority_lost = meets_refuse _ invalid_job p d (rw h)

  module _ (m k : ℕ) (F : Found p d m k) where
    names : naming m k d ≡ naming (job p d) (job_position p d) d
    names = rw (F.means, F.placed)

    -- $8
    module _ (t : Option Timeout) (s : Bool) (a : ℕ) (times : t ≡ timeout_in (D3 d)) (tests : s ≡ suspends t) (flags : a ≡ A1 d) where
      suspend_test : s && eqb a 0 ≡ suspends (timeout_in (D3 d)) && eqb (A1 d) 0
      suspend_test = rw (tests, times, flags)

      pub suspend_bad : not (s && eqb a 0) ≡ true → Meets (outcome suspend p d) bad_parameter p d
      unfolding suspend outcome
      suspend_bad h = meets_refuse _ bad_parameter p d (rw (F.finds, sym suspend_test ∙ not-true _ h))

      pub suspend_done : (q e : List ℕ) → not (s && eqb a 0) ≡ false → q ≡ with_nobody (suspended p k (value t)) → e ≡ naming m k d → Meets (outcome suspend p d) done q e
      unfolding suspend outcome
      suspend_done q e h l g = meets_done _ (with_nobody (suspended p (job_position p d) (value (timeout_in (D3 d))))) (naming (job p d) (job_position p d) d) q e
          (rw (F.finds, sym suspend_test ∙ not-false _ h))
          (l ∙ rw (F.placed, times))
          (g ∙ names)

    -- $9
    pub release_done : (q e : List ℕ) → q ≡ with_nobody (released p k) → e ≡ naming m k d → Meets (outcome release p d) done q e
    unfolding release outcome
    release_done q e l g = meets_done _ (with_nobody (released p (job_position p d))) (naming (job p d) (job_position p d) d) q e (rw F.finds) (l ∙ rw F.placed) (g ∙ names)

    -- $B
    module _ (w : ℕ) (reads : w ≡ D2 d) where
      pub set_priority_bad : greatest_priority < w % 256 → Meets (outcome set_priority p d) bad_parameter p d
      unfolding set_priority outcome
      set_priority_bad h = meets_refuse _ bad_parameter p d (rw (F.finds, lt-leb (low_byte (D2 d)) greatest_priority (rw reads at h)))

      pub set_priority_done : (q e : List ℕ) → w % 256 ≤ greatest_priority → q ≡ with_nobody (prioritized p k (w % 256)) → e ≡ naming m k d → Meets (outcome set_priority p d) done q e
      unfolding set_priority outcome
      set_priority_done q e h l g = meets_done _ (with_nobody (prioritized p (job_position p d) (low_byte (D2 d)))) (naming (job p d) (job_position p d) d) q e
          (rw (F.finds, le-leb (low_byte (D2 d)) greatest_priority (rw reads at h)))
          (l ∙ rw (F.placed, reads))
          (g ∙ names)

    -- $A
    module _ (b : Bool) (acts : b ≡ active p k) where
      pub activate_active : b ≡ true → Meets (outcome activate p d) not_complete p d
      unfolding activate outcome
      activate_active h = meets_refuse _ not_complete p d (rw (F.finds, sym acts ∙ h))

      module _ (w : ℕ) (reads : w ≡ D2 d) (idle : b ≡ false) where
        activity : leb 1 (w % 256) && leb (w % 256) greatest_priority ≡ activity_good (low_byte (D2 d))
        activity = rw reads

        pub activate_bad : not (leb 1 (w % 256) && leb (w % 256) greatest_priority) ≡ true → Meets (outcome activate p d) bad_parameter p d
        unfolding activate outcome
        activate_bad h = meets_refuse _ bad_parameter p d (rw (F.finds, sym acts ∙ idle, sym activity ∙ not-true _ h))

        module _ (t : Option Timeout) (s : Bool) (times : t ≡ timeout_in (D3 d)) (tests : s ≡ may_wait t m) (good : not (leb 1 (w % 256) && leb (w % 256) greatest_priority) ≡ false) where
          activate_test : s ≡ may_wait (timeout_in (D3 d)) (job p d)
          activate_test = tests ∙ rw (times, F.means)

          pub activate_bad_wait : not s ≡ true → Meets (outcome activate p d) bad_parameter p d
          unfolding activate outcome
          activate_bad_wait h = meets_refuse _ bad_parameter p d (rw (F.finds, sym acts ∙ idle, sym activity ∙ not-false _ good, sym activate_test ∙ not-true _ h))

          pub activate_done : (q e : List ℕ) → not s ≡ false → q ≡ with_nobody (waiting (prioritized p k (w % 256)) t (position (caller p)) m) → e ≡ naming m k d → Meets (outcome activate p d) done q e
          unfolding activate outcome
          activate_done q e h l g = meets_done _ (with_nobody (waiting (prioritized p (job_position p d) (low_byte (D2 d))) (timeout_in (D3 d)) (position (caller p)) (job p d))) (naming (job p d) (job_position p d) d) q e
              (rw (F.finds, sym acts ∙ idle, sym activity ∙ not-false _ good, sym activate_test ∙ not-false _ h))
              (l ∙ rw (F.placed, reads, times, F.means))
              (g ∙ names)
