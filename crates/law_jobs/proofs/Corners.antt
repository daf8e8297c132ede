-- Corners of $A that document 01 settles by its other sentences.
use Prim.Native.Nat.{ℕ}
use mathlib.Core.Path.{◌≡◌, sym, subst}
use mathlib.Core.Bool.{true}
use mathlib.Core.Logic.{⊎_elim, ◌⊎◌}
use mathlib.Core.List.{List}
use lib.Dec.{leb}
use borrow.Author.Tests.{le-leb}
use Rattle.picture.specs.Layout.{nobody}
use Rattle.picture.specs.Keys.{not_complete}
use Rattle.picture.specs.Records.{priority, ready, active}
use Rattle.picture.specs.Numbers.{position, live}
use Rattle.picture.specs.declared.Table.TheVariants.{Jobs}
use Rattle.picture.proofs.Timeout.{ready_has}
use Rattle.sound.specs.Sound.{sound}
use Rattle.sound_facts.proofs.Sound.{Sound, Current}
use Rattle.sound_facts.proofs.View.{view}
use Rattle.calls.specs.Outcome.{refuse}
use Rattle.calls.specs.Call.{outcome}
use Rattle.calls.specs.Registers.{caller}
use Rattle.calls.proofs.Found.{job_stands, live_job_passes}
use Rattle.jobs.specs.Calls.{job, activate}

-- the caller activating itself is -1: "longword 1 is nobody or a ready job", and a ready job is active
pub caller_activating_itself_is_refused : (p d : List ℕ) → sound p ≡ true → (caller p ≡ nobody → ⊥) → job p d ≡ caller p → outcome activate p d ≡ refuse not_complete p d
unfolding activate active outcome
caller_activating_itself_is_refused p d h n e = ⊎_elim
    (λ z. absurd (n z))
    (λ (z : (live p Jobs (caller p) ≡ true) × (ready p (position (caller p)) ≡ true)).
    let l : live p Jobs (job p d) ≡ true = subst (λ (x : ℕ). live p Jobs x ≡ true) (sym e) z.0 in
    let a : leb 1 (priority p (position (job p d))) ≡ true = subst (λ (x : ℕ). leb 1 (priority p (position x)) ≡ true) (sym e) (le-leb 1 (priority p (position (caller p))) (ready_has p (position (caller p)) z.1).0) in
    rw (live_job_passes p (job p d) l, job_stands p (job p d) l, a))
    (view p h).current
