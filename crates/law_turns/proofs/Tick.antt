-- A tick keeps a sound picture sound, and every live number.
use Prim.Native.Nat.{ℕ, ◌+◌, ◌*◌, ◌<◌}
use mathlib.Core.Path.{◌≡◌, refl, sym, ap, ◌∙◌, subst}
use mathlib.Core.Bool.{Bool, true, false}
use mathlib.Core.Logic.{⊎_elim, ◌⊎◌, inl, inr, by_cases, ◌≢◌}
use mathlib.Core.List.{List}
use native.Mathlib.Omega.{arith}
use native.Mathlib.Decide.{ℕ_discrete}
use lib.ListN.{length}
use Rattle.words.specs.Words.{word}
use Rattle.words.proofs.Tests.{false_true}
use Rattle.picture.specs.Layout.{current_word, positions, width, first_record}
use Rattle.picture.specs.Records.{slot, field, number, priority, accumulated, timeout, waited_for, used, ready, timeout_field, wait_field}
use Rattle.picture.specs.Numbers.{position, live}
use Rattle.picture.specs.declared.Table.{Table}
use Rattle.picture.specs.declared.Table.TheVariants.{Jobs, Channels}
use Rattle.picture.proofs.Records.{used_below}
use Rattle.picture.proofs.Numbers.{Live, live_is}
use Rattle.picture.proofs.Timeout.{Timely, timeout_zero, zero_timeout}
use Rattle.sound.specs.Sound.{sound}
use Rattle.sound_facts.proofs.Sound.{Sound, Waits, Current}
use Rattle.sound_facts.proofs.View.{view, sound_again}
use Rattle.sound_facts.proofs.Ages.{Ages}
use Rattle.law_steady.proofs.Steady.{Steady, Turning, Left, steady_sound, steady_ages, steady_live, steady_used}
use Rattle.turns.specs.Tick.{fallen, ticked}
use Rattle.law_picks.specs.Stretch.{Orderly}
use Rattle.turns.proofs.Tick.{none_stays, negative_stays, timely_falls, tick_keeps_the_head, tick_keeps_the_rest, tick_keeps_the_length, tick_keeps_other_fields, tick_keeps_the_number, tick_keeps_the_priority, tick_keeps_accumulated, tick_lets_timeouts_fall}
use Rattle.law_picks.proofs.Kept.{tick_keeps_ready, tick_keeps_orderly}
use Rattle.law_turns.proofs.Pick.{sound_is_orderly}

module _ (p : List ℕ) (S : Sound p) where
  orderly : Orderly p
  orderly = sound_is_orderly p S

  falls : (k : ℕ) → k < positions Jobs → timeout (ticked p) k ≡ fallen (timeout p k)
  falls k l = (tick_lets_timeouts_fall p orderly.whole).falls k l

  none_kept : (k : ℕ) → k < positions Jobs → field p Jobs k timeout_field ≡ 0 → field (ticked p) Jobs k timeout_field ≡ field p Jobs k timeout_field
  none_kept k l e = let z = timeout_zero p k e in zero_timeout (ticked p) k (falls k l ∙ none_stays (timeout p k) z ∙ z) ∙ sym e

  unused_kept : (k f : ℕ) → k < positions Jobs → f < width Jobs → used p Jobs k ≡ false → field (ticked p) Jobs k f ≡ field p Jobs k f
  unused_kept k f l m u = by_cases (ℕ_discrete f timeout_field)
      (λ (e : f ≡ timeout_field). subst (λ (g : ℕ). field (ticked p) Jobs k g ≡ field p Jobs k g) (sym e) (none_kept k l (S.jobs.entries.unused k timeout_field l (omega arith) u)))
      (λ n. tick_keeps_other_fields p k f m n)

  pub tick_is_steady : Steady p (ticked p)
  tick_is_steady = record {
    long = tick_keeps_the_length p;
    before = λ i l n. tick_keeps_the_head p i l;
    fields = λ k f l m. tick_keeps_other_fields p k f (omega arith) (λ e. omega arith);
    unused = unused_kept;
    after = λ i l. tick_keeps_the_rest p i (omega arith);
  }

  frames : (k : ℕ) → k < positions Jobs → Timely (timeout (ticked p) k)
  frames k l = subst Timely (sym (falls k l)) (timely_falls (timeout p k) (S.jobs.frames k l))

  waits_kept : (k : ℕ) → k < positions Jobs → (waited_for p k ≡ 0) ⊎ Waits p k → (waited_for (ticked p) k ≡ 0) ⊎ Waits (ticked p) k
  waits_kept k l w =
      let same-wait = tick_keeps_other_fields p k wait_field (omega arith) (λ e. omega arith) in
      ⊎_elim
      (λ e. inl (same-wait ∙ e))
      (λ (v : Waits p k). inr (record {
        alive = rw same-wait (steady_live p (ticked p) tick_is_steady Jobs (waited_for p k) ∙ v.alive);
        other = λ e. v.other (sym same-wait ∙ e ∙ tick_keeps_the_number p k);
        forever = falls k l ∙ negative_stays (timeout p k) 0 v.forever ∙ v.forever;
      }))
      w

  idle : (k : ℕ) → k < positions Jobs → (accumulated (ticked p) k ≡ 0) ⊎ (ready (ticked p) k ≡ true)
  idle k l = ⊎_elim (λ e. inl (tick_keeps_accumulated p k ∙ e)) (λ r. inr (tick_keeps_ready p k l orderly.whole r)) (S.jobs.idle k l)

  current : Current (ticked p)
  current =
      let one = tick_keeps_the_head p current_word (omega arith) in
      rw one (⊎_elim
      inl
      (λ c. inr (steady_live p (ticked p) tick_is_steady Jobs (word p current_word) ∙ c.0, tick_keeps_ready p (position (word p current_word)) (used_below p Jobs _ (live_is p Jobs (word p current_word) c.0).used) orderly.whole c.1))
      S.current)

pub tick_keeps_sound : (p : List ℕ) → sound p ≡ true → sound (ticked p) ≡ true
tick_keeps_sound p s =
    let S = view p s in
    sound_again (ticked p) (steady_sound p (ticked p) (tick_is_steady p S) S (record {
      each = λ k l. record {
        urgent = rw (tick_keeps_the_priority p k) (S.jobs.urgent k l);
        gained = rw (tick_keeps_accumulated p k) (S.jobs.gained k l);
        frames = frames p S k l;
        waits = waits_kept p S k l (S.jobs.waits k l);
        idle = idle p S k l;
      };
      current = current p S;
    }))

pub tick_ages : (p : List ℕ) → sound p ≡ true → (t : Table) → Ages p (ticked p) t
tick_ages p s t = steady_ages p (ticked p) (tick_is_steady p (view p s)) t
