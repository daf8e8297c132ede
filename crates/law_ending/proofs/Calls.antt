-- $4 and $5: a sound picture stays sound, and tags rise.
use Prim.Native.Nat.{ℕ, ◌≤◌}
use mathlib.Core.Path.{◌≡◌, sym, ◌∙◌, subst}
use mathlib.Core.Bool.{true}
use mathlib.Core.Logic.{inl}
use mathlib.Core.List.{List, []}
use lib.IntN.{ℤ}
use native.Mathlib.Omega.{arith}
use lib.Dec.{eqb}
use borrow.Author.Tests.{eqb-false, not-true}
use Rattle.words.specs.Words.{word}
use Rattle.picture.specs.Keys.{done}
use Rattle.picture.specs.Layout.{last_word}
use Rattle.picture.specs.Records.{used}
use Rattle.picture.specs.Numbers.{position, live, job_at}
use Rattle.picture.specs.declared.Table.{Table}
use Rattle.picture.specs.declared.Table.TheVariants.{Jobs, Channels}
use Rattle.picture.proofs.Numbers.{live_is}
use Rattle.picture.proofs.Members.{spares_last}
use Rattle.sound.specs.Sound.{sound}
use Rattle.sound_facts.proofs.View.{view}
use Rattle.sound_facts.proofs.Ages.{Ages, ages_still}
use Rattle.calls.specs.Found.{job_position}
use Rattle.calls.specs.Outcome.{Outcome, refuse, succeed}
use Rattle.calls.specs.Call.{Check, outcome}
use Rattle.calls.specs.Registers.{D1, D3, cleared, meant}
use Rattle.calls.proofs.Call.{Never, of_each_way, where_all_pass, done_only_where_all_pass, not_complete_refuses, invalid_job_refuses, bad_parameter_refuses}
use Rattle.calls.proofs.Found.{job_stands, job_that_passes_is_live, job_check_gives_no_other}
use Rattle.tree.specs.Tree.{tree}
use Rattle.emptying.specs.Taken.{channels_of}
use Rattle.ending.specs.Ended.{ended}
use Rattle.ending.specs.Remove.{removal, remove, force_remove}
use Rattle.law_ending.proofs.Taken.{Taken}
use Rattle.law_ending.proofs.Sound.{ended_tables, ended_is_no_newer, ending_keeps_sound}

-- what holds of every refusal, and of what the call does where its checks pass, holds of the call
module _ (p d : List ℕ) (P : Outcome → Type 0) (refused : (k : ℤ) → P (refuse k p d))
    (ends : used p Jobs (job_position p d) ≡ true → (job_position p d ≡ 0 → ⊥) → P (succeed (ended p (job_position p d) (D3 d)) (cleared d))) where
  of_removal : (still : List Check) → P (outcome (removal still) p d)
  unfolding removal
  of_removal still = of_each_way (removal still) p d P refused
      (λ h.
      let l = job_that_passes_is_live p (meant p (D1 d)) (search) in
      ends (rw (job_stands p (meant p (D1 d)) l) (live_is p Jobs (meant p (D1 d)) l).used) (eqb-false (job_position p d) 0 (not-true (eqb (job_position p d) 0) (search))))

  pub of_remove : P (outcome remove p d)
  unfolding remove outcome
  of_remove = of_removal _

  pub of_force_remove : P (outcome force_remove p d)
  unfolding force_remove outcome
  of_force_remove = of_removal []

-- of the call that answers 0, what it does is enough
module _ (p d : List ℕ) (P : Outcome → Type 0)
    (ends : live p Jobs (meant p (D1 d)) ≡ true → (position (meant p (D1 d)) ≡ 0 → ⊥) → P (succeed (ended p (position (meant p (D1 d))) (D3 d)) (cleared d))) where
  removal_where_done : (still : List Check) → Never done still → (outcome (removal still) p d).key ≡ done → P (outcome (removal still) p d)
  unfolding removal
  removal_where_done still n e =
      let never : Never done (removal still p d).checks = (job_check_gives_no_other done (job_at p (meant p (D1 d))) invalid_job_refuses, ((λ _ z. bad_parameter_refuses z), n)) in
      let h = done_only_where_all_pass (removal still) p d never e in
      let l = job_that_passes_is_live p (meant p (D1 d)) h.0 in
      let z = job_stands p (meant p (D1 d)) l in
      subst P (sym (where_all_pass (removal still) p d h)) (rw z (ends l (λ x. eqb-false (job_position p d) 0 (not-true (eqb (job_position p d) 0) h.1.0) (z ∙ x))))

  pub remove_where_done : (outcome remove p d).key ≡ done → P (outcome remove p d)
  unfolding remove outcome
  remove_where_done = removal_where_done _ ((λ _ z. not_complete_refuses z), tt)

  pub force_remove_where_done : (outcome force_remove p d).key ≡ done → P (outcome force_remove p d)
  unfolding force_remove outcome
  force_remove_where_done = removal_where_done [] tt

module _ (p d : List ℕ) where
  -- a sound picture stays sound
  module _ (s : sound p ≡ true) where
    pub remove_keeps_sound : sound (outcome remove p d).picture ≡ true
    remove_keeps_sound = of_remove p d (λ (o : Outcome). sound o.picture ≡ true) (λ k. s) (λ u z. ending_keeps_sound p (job_position p d) (D3 d) s u z)

    pub force_remove_keeps_sound : sound (outcome force_remove p d).picture ≡ true
    force_remove_keeps_sound = of_force_remove p d (λ (o : Outcome). sound o.picture ≡ true) (λ k. s) (λ u z. ending_keeps_sound p (job_position p d) (D3 d) s u z)

    -- tags rise
    ended_ages : (t : Table) → used p Jobs (job_position p d) ≡ true → (job_position p d ≡ 0 → ⊥) → Ages p (ended p (job_position p d) (D3 d)) t
    ended_ages t u z = record { rises = same t; newer = λ n l. inl (ended_is_no_newer p (view p s) (job_position p d) (D3 d) u z t n l) }
      where
        T : Taken p (ended p (job_position p d) (D3 d)) (tree p (job_position p d)) (channels_of p (tree p (job_position p d))) (D3 d)
        T = ended_tables p (view p s) (job_position p d) (D3 d) u z

        same : (t : Table) → word p (last_word t) ≤ word (ended p (job_position p d) (D3 d)) (last_word t)
        same Jobs = rw (T.head (last_word Jobs) (omega arith) (λ z. omega arith) (λ t. spares_last t Jobs)) (omega arith)
        same Channels = rw (T.head (last_word Channels) (omega arith) (λ z. omega arith) (λ t. spares_last t Channels)) (omega arith)

    pub remove_ages : (t : Table) → Ages p (outcome remove p d).picture t
    remove_ages t = of_remove p d (λ (o : Outcome). Ages p o.picture t) (λ k. ages_still p t) (ended_ages t)

    pub force_remove_ages : (t : Table) → Ages p (outcome force_remove p d).picture t
    force_remove_ages t = of_force_remove p d (λ (o : Outcome). Ages p o.picture t) (λ k. ages_still p t) (ended_ages t)
