-- A pick keeps a sound picture sound, and every live number.
use Prim.Native.Nat.{ℕ, ◌+◌, ◌*◌, ◌≤◌, ◌<◌}
use mathlib.Core.Path.{◌≡◌, refl, sym, ap, ◌∙◌, subst}
use mathlib.Core.Bool.{Bool, true, false}
use mathlib.Core.Logic.{⊎_elim, ◌⊎◌, inl, inr, by_cases, ◌≢◌}
use mathlib.Core.List.{List}
use native.Mathlib.Omega.{arith}
use native.Mathlib.Decide.{ℕ_discrete}
use lib.ListN.{length}
use lib.Seq.{get_or-set_other}
use Rattle.words.specs.Words.{word}
use Rattle.words.proofs.Tests.{false_true, lt_or_ge}
use Rattle.picture.specs.Layout.{nobody, current_word, positions, width, first_record}
use Rattle.picture.specs.Records.{slot, field, number, priority, accumulated, timeout, waited_for, delivered, used, ready, priority_field, key_field, wait_field, accumulated_field}
use Rattle.picture.specs.Numbers.{position, live}
use Rattle.picture.specs.declared.Table.{Table}
use Rattle.picture.specs.declared.Table.TheVariants.{Jobs, Channels}
use Rattle.picture.proofs.Numbers.{is_live}
use Rattle.picture.specs.Layout.{greatest_priority, hold}
use Rattle.picture.proofs.Timeout.{Timely}
use Rattle.sound.specs.Sound.{sound}
use Rattle.sound_facts.proofs.Sound.{Sound, Waits, Current}
use Rattle.sound_facts.proofs.View.{view, sound_again}
use Rattle.sound_facts.proofs.Ages.{Ages}
use Rattle.law_steady.proofs.Steady.{Steady, Turning, Left, steady_sound, steady_ages, steady_live, steady_used}
use Rattle.turns.specs.Pick.{chosen_job, accumulated_after, picked}
use Rattle.law_picks.specs.Stretch.{Orderly, Chosen}
use Rattle.law_picks.proofs.Rule.{chosen_is_who_the_rule_picks, ready_is_used}
use Rattle.turns.proofs.Pick.{idle_keeps}
use Rattle.law_picks.proofs.Given.{pick_changes_only, pick_keeps_the_length, pick_keeps_the_head, pick_keeps_the_rest, pick_gives_a_turn, nobody_picked_leaves}
use Rattle.law_picks.proofs.Kept.{pick_keeps_fields, pick_keeps_the_number, pick_keeps_the_priority, pick_keeps_the_timeout, pick_keeps_who_is_ready, pick_accumulates, pick_holds_accumulated, pick_keeps_orderly, pick_leaves_a_ready_job_current}

-- a sound picture is orderly
pub sound_is_orderly : (p : List ℕ) → Sound p → Orderly p
sound_is_orderly p S = record {
  whole = let l = S.sizes.least in omega arith;
  idle = λ i l e. ⊎_elim (λ z. z) (λ r. absurd (false_true (sym e ∙ r))) (S.jobs.idle i l);
  low = S.jobs.urgent;
}

-- a ready job's position is in use
pub ready_used : (p : List ℕ) → Sound p → (k : ℕ) → k < positions Jobs → ready p k ≡ true → used p Jobs k ≡ true
ready_used p S k l r = ready_is_used p k (λ u. S.jobs.entries.unused k priority_field l (omega arith) u) r

module _ (p : List ℕ) (S : Sound p) where
  orderly : Orderly p
  orderly = sound_is_orderly p S

  idle_unused : (k : ℕ) → k < positions Jobs → used p Jobs k ≡ false → ready p k ≡ false
  idle_unused k l u = go (ready p k) refl
    where
      go : (b : Bool) → ready p k ≡ b → b ≡ false
      go true r = absurd (false_true (sym u ∙ ready_used p S k l r))
      go false r = refl

  -- the job chosen is in use
  chosen_used : chosen_job p < positions Jobs → used p Jobs (chosen_job p) ≡ true
  chosen_used l = ⊎_elim
      (λ w. absurd (omega (arith, w.0)))
      (λ (c : Chosen p (positions Jobs) (chosen_job p)). ready_used p S (chosen_job p) l c.is_ready)
      (chosen_is_who_the_rule_picks p)

  unused_kept : (k f : ℕ) → k < positions Jobs → f < width Jobs → used p Jobs k ≡ false → field (picked p) Jobs k f ≡ field p Jobs k f
  unused_kept k f l m u = by_cases (ℕ_discrete f accumulated_field)
      (λ (e : f ≡ accumulated_field). subst (λ (g : ℕ). field (picked p) Jobs k g ≡ field p Jobs k g) (sym e) (pick_accumulates p orderly.whole k l ∙ gains_nothing))
      (λ a. by_cases (ℕ_discrete f key_field)
      (λ (e : f ≡ key_field). subst (λ (g : ℕ). field (picked p) Jobs k g ≡ field p Jobs k g) (sym e) key_stays)
      (λ d. pick_keeps_fields p k f m a d))
    where
      not_chosen : chosen_job p < positions Jobs → k ≢ chosen_job p
      not_chosen c e = false_true (sym u ∙ subst (λ (x : ℕ). used p Jobs x ≡ true) (sym e) (chosen_used c))

      other : k ≢ chosen_job p
      other e = not_chosen (omega arith) e

      gains_nothing : accumulated_after p (chosen_job p) k ≡ accumulated p k
      gains_nothing = idle_keeps p (chosen_job p) k other (idle_unused k l u)

      key_stays : delivered (picked p) k ≡ delivered p k
      key_stays = ⊎_elim
          (λ w. ap (λ (q : List ℕ). delivered q k) (nobody_picked_leaves p w.0) ∙ get_or-set_other p current_word (slot Jobs k + key_field) nobody 0 (λ e. omega arith))
          (λ (c : Chosen p (positions Jobs) (chosen_job p)). (pick_gives_a_turn p orderly.whole c.inside).other_keys k other)
          (chosen_is_who_the_rule_picks p)

  pub pick_is_steady : Steady p (picked p)
  pick_is_steady = record {
    long = pick_keeps_the_length p;
    before = λ i l n. pick_keeps_the_head p i l n;
    fields = λ k f l m. pick_keeps_fields p k f (omega arith) (λ e. omega arith) (λ e. omega arith);
    unused = unused_kept;
    after = λ i l. pick_keeps_the_rest p i (omega arith);
  }

  same_field : (k f : ℕ) → f < width Jobs → f ≢ 4 → f ≢ 7 → field (picked p) Jobs k f ≡ field p Jobs k f
  same_field k f l a d = pick_keeps_fields p k f l a d

  waits_kept : (k : ℕ) → k < positions Jobs → (waited_for p k ≡ 0) ⊎ Waits p k → (waited_for (picked p) k ≡ 0) ⊎ Waits (picked p) k
  waits_kept k l w =
      let same-wait = same_field k wait_field (omega arith) (λ e. omega arith) (λ e. omega arith) in
      ⊎_elim
      (λ e. inl (same-wait ∙ e))
      (λ (v : Waits p k). inr (record {
        alive = rw same-wait (steady_live p (picked p) pick_is_steady Jobs (waited_for p k) ∙ v.alive);
        other = λ e. v.other (sym same-wait ∙ e ∙ pick_keeps_the_number p k);
        forever = pick_keeps_the_timeout p k ∙ v.forever;
      }))
      w

  turning : (k : ℕ) → k < positions Jobs → Turning (picked p) k
  turning k l =
      let o = pick_keeps_orderly p orderly in
      record {
        urgent = rw (pick_keeps_the_priority p k) (S.jobs.urgent k l);
        gained = pick_holds_accumulated p orderly.whole k l (S.jobs.gained k l);
        frames = subst Timely (sym (pick_keeps_the_timeout p k)) (S.jobs.frames k l);
        waits = waits_kept k l (S.jobs.waits k l);
        idle = go (ready (picked p) k) refl (λ e. o.idle k l e);
      }
    where
      go : (b : Bool) → ready (picked p) k ≡ b → (ready (picked p) k ≡ false → accumulated (picked p) k ≡ 0) → (accumulated (picked p) k ≡ 0) ⊎ (ready (picked p) k ≡ true)
      go true e h = inr e
      go false e h = inl (h e)

  current : Current (picked p)
  current = ⊎_elim
      inl
      (λ c.
      let j = c.0 in
      let u : used (picked p) Jobs j ≡ true = steady_used p (picked p) pick_is_steady Jobs j ∙ ready_used p S j c.1 (sym (pick_keeps_who_is_ready p j) ∙ c.2) in
      let h : position (number (picked p) Jobs j) ≡ j = ap position (pick_keeps_the_number p j) ∙ S.jobs.entries.place j (sym (steady_used p (picked p) pick_is_steady Jobs j) ∙ u) in
      inr (rw c.3 (is_live (picked p) Jobs (number (picked p) Jobs j) (record { used = rw h u; names = rw h refl }), rw h c.2)))
      (pick_leaves_a_ready_job_current p orderly.whole)

pub pick_keeps_sound : (p : List ℕ) → sound p ≡ true → sound (picked p) ≡ true
pick_keeps_sound p s = let S = view p s in sound_again (picked p) (steady_sound p (picked p) (pick_is_steady p S) S (record { each = turning p S; current = current p S }))

pub pick_ages : (p : List ℕ) → sound p ≡ true → (t : Table) → Ages p (picked p) t
pick_ages p s t = steady_ages p (picked p) (pick_is_steady p (view p s)) t
