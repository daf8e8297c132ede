-- What leaves the jobs' records alone keeps what soundness says of them.
use Prim.Native.Nat.{ℕ, ◌<◌}
use mathlib.Core.Path.{◌≡◌, sym, ◌∙◌, subst}
use mathlib.Core.Bool.{true}
use mathlib.Core.Logic.{⊎_elim, ◌⊎◌, inl, inr}
use mathlib.Core.List.{List}
use native.Mathlib.Omega.{arith}
use Rattle.words.specs.Words.{word}
use Rattle.picture.specs.Layout.{current_word, last_word, positions, width}
use Rattle.picture.specs.Records.{field, waited_for, used, ready, accumulated_field, base_field, number_field, owner_field, priority_field, timeout_field, wait_field, members}
use Rattle.picture.specs.Numbers.{position, live}
use Rattle.picture.specs.declared.Table.TheVariants.{Jobs}
use Rattle.picture.proofs.Timeout.{Timely, timeout_same, ready_same}
use Rattle.picture.proofs.Records.{used_below}
use Rattle.picture.proofs.Numbers.{Live, live_is}
use Rattle.sound_facts.proofs.Sound.{Waits, Entries, Jobs_fine, Current}
use Rattle.sound_facts.proofs.Same.{used_same, live_same, Lives, EntriesSame, entries_same}
use Rattle.sound_facts.proofs.Ages.{Ages, ages_same}

pub record JobsSame (p q : List ℕ) : Type 0 where
  pub fields : (k f : ℕ) → k < positions Jobs → f < width Jobs → field q Jobs k f ≡ field p Jobs k f
  pub mask : members q Jobs ≡ members p Jobs
  pub last : word q (last_word Jobs) ≡ word p (last_word Jobs)
  pub current : word q current_word ≡ word p current_word

module _ (p q : List ℕ) (s : JobsSame p q) where
  pub jobs_live : Lives p q
  jobs_live n h = live_same p q Jobs s.mask (λ k l. s.fields k number_field l (omega arith)) n ∙ h

  pub jobs_age : Ages p q Jobs
  jobs_age = ages_same p q Jobs s.last s.mask (λ k l. s.fields k number_field l (omega arith))

  ready_stays : (k : ℕ) → k < positions Jobs → ready q k ≡ ready p k
  ready_stays k l = ready_same p q k (s.fields k priority_field l (omega arith)) (timeout_same p q k (s.fields k timeout_field l (omega arith)))

  pub jobs_kept : Jobs_fine p → Jobs_fine q
  jobs_kept J =
      let F = s.fields in
      let u : (k : ℕ) → used q Jobs k ≡ true → used p Jobs k ≡ true = λ k h. sym (used_same p q Jobs s.mask k) ∙ h in
      record {
        entries = entries_same p q Jobs
            (record { mask = s.mask; last = s.last; numbers = λ k l. F k number_field l (omega arith); owners = λ k l. F k owner_field l (omega arith) })
            jobs_live
            (λ k f l m v. F k f l m ∙ J.entries.unused k f l m (sym (used_same p q Jobs s.mask k) ∙ v))
            J.entries;
        zero_lives = used_same p q Jobs s.mask 0 ∙ J.zero_lives;
        zero_number = F 0 number_field (omega arith) (omega arith) ∙ J.zero_number;
        zero_base = F 0 base_field (omega arith) (omega arith) ∙ J.zero_base;
        zero_unowned = F 0 owner_field (omega arith) (omega arith) ∙ J.zero_unowned;
        urgent = λ k l. rw (F k priority_field l (omega arith)) (J.urgent k l);
        gained = λ k l. rw (F k accumulated_field l (omega arith)) (J.gained k l);
        frames = λ k l. subst Timely (sym (timeout_same p q k (F k timeout_field l (omega arith)))) (J.frames k l);
        older = λ k h. let l = used_below q Jobs k h in rw (F k owner_field l (omega arith), F k number_field l (omega arith)) (J.older k (u k h));
        waits = λ k l. ⊎_elim
            (λ (e : waited_for p k ≡ 0). inl (F k wait_field l (omega arith) ∙ e))
            (λ (w : Waits p k). inr (record {
              alive = rw (F k wait_field l (omega arith)) (jobs_live (waited_for p k) w.alive);
              other = λ e. w.other (sym (F k wait_field l (omega arith)) ∙ e ∙ F k number_field l (omega arith));
              forever = timeout_same p q k (F k timeout_field l (omega arith)) ∙ w.forever;
            }))
            (J.waits k l);
        idle = λ k l. rw (F k accumulated_field l (omega arith), ready_stays k l) (J.idle k l);
      }

  pub current_kept : Current p → Current q
  current_kept h =
      let w = s.current in
      ⊎_elim
      (λ e. inl (w ∙ e))
      (λ (e : (live p Jobs (word p current_word) ≡ true) × (ready p (position (word p current_word)) ≡ true)).
      let l = used_below p Jobs (position (word p current_word)) (live_is p Jobs (word p current_word) e.0).used in
      inr (rw w (jobs_live (word p current_word) e.0, ready_stays (position (word p current_word)) l ∙ e.1)))
      h
