-- What the effects of $8 to $B write: each changes one record, and that record is fine again.
use Prim.Native.Nat.{ℕ, ◌+◌, ◌*◌, ◌%◌, ◌≤◌, ◌<◌}
use mathlib.Core.Path.{◌≡◌, refl, sym, ap, ◌∙◌, subst}
use mathlib.Core.Bool.{Bool, true, false, cond, not, ◌&&◌}
use mathlib.Core.Logic.{⊎_elim, inl, inr}
use mathlib.Core.List.{List}
use native.Mathlib.Omega.{arith}
use lib.ListN.{length}
use lib.Seq.{get_or-set_other}
use lib.Dec.{T, ltb, eqb, ltb→lt}
use lib.IntN.{ℤ, pos}
use borrow.Author.Tests.{eq-eqb}
use Rattle.words.specs.Words.{word}
use Rattle.words.specs.Signed.{bits, eq_z}
use Rattle.words.proofs.Tests.{false_true}
use Rattle.picture.specs.Layout.{current_word, heap_base, positions, width, without_end}
use Rattle.picture.specs.Records.{slot, field, number, priority, accumulated, timeout, waited_for, used, accumulated_field, key_field, number_field, priority_field, timeout_field, wait_field, with_accumulated, with_field, with_key, with_priority, with_timeout, with_wait}
use Rattle.picture.specs.Numbers.{position, live}
use Rattle.picture.specs.declared.Table.TheVariants.{Jobs}
use Rattle.picture.proofs.Records.{used_below}
use Rattle.picture.specs.Layout.{greatest_priority, hold}
use Rattle.picture.proofs.Timeout.{Timely, timely_zero, timely_endless, timely_fits, timeout_same, timeout_zero, timeout_stored, ready_not}
use Rattle.sound_facts.proofs.Sound.{Sizes, Waits, Jobs_fine, Sound}
use Rattle.law_steady.proofs.Steady.{first_turning, Steady, Turning, steady_live, waits_kept, sound_turning}
use Rattle.law_steady.proofs.Writes.{field_kept, Written, written_none, written_field, written_reads}
use Rattle.effects.specs.Effects.{suspended, released, prioritized}

module _ (p : List ℕ) (S : Sound p) (k : ℕ) (u : used p Jobs k ≡ true) where
  below : k < positions Jobs
  below = used_below p Jobs k u

  room : heap_base ≤ length p
  room = let l = S.sizes.least in omega arith

  start : Written p p k
  start = written_none p k u

  write : (q : List ℕ) (f v : ℕ) → first_turning ≤ f → f < width Jobs → Written p q k → Written p (with_field q Jobs k f v) k
  write q f v a b w = written_field p q k f v a b w

  -- another field is the same behind a write
  kept : (q : List ℕ) (f g v : ℕ) → T (ltb f (width Jobs)) → T (ltb g (width Jobs)) → T (not (eqb f g)) → field (with_field q Jobs k g v) Jobs k f ≡ field q Jobs k f
  kept q f g v l m n = field_kept q k k f g v (ltb→lt f (width Jobs) l) (ltb→lt g (width Jobs) m) (λ e. apart f g n e)
    where
      apart : (f g : ℕ) → T (not (eqb f g)) → f ≡ g → ⊥
      apart f g n e = subst (λ (b : Bool). T (not b)) (eq-eqb f g e) n

  -- $8
  module _ (t : ℤ) where
    abbrev s1 : List ℕ
    s1 = with_timeout p k t

    abbrev s2 : List ℕ
    s2 = with_wait s1 k 0

    abbrev s3 : List ℕ
    s3 = with_accumulated s2 k 0

    abbrev s4 : List ℕ
    s4 = with_key s3 k 0

    w1 : Written p s1 k
    w1 = write p timeout_field (bits t) (omega arith) (omega arith) start

    w2 : Written p s2 k
    w2 = write s1 wait_field 0 (omega arith) (omega arith) w1

    pub suspended_written : Written p (suspended p k t) k
    unfolding suspended
    suspended_written = write s3 key_field 0 (omega arith) (omega arith) (write s2 accumulated_field 0 (omega arith) (omega arith) w2)

    pub suspended_turning : Timely t → Turning (suspended p k t) k
    unfolding suspended
    suspended_turning h =
        let frames : timeout s4 k ≡ t =
        timeout_stored s4 k t (timely_fits t h) (kept s3 timeout_field key_field 0 tt tt tt ∙ kept s2 timeout_field accumulated_field 0 tt tt tt ∙ kept s1 timeout_field wait_field 0 tt tt tt
        ∙ written_reads p p k timeout_field (bits t) room (omega arith) start) in
        let none : waited_for s4 k ≡ 0 =
        kept s3 wait_field key_field 0 tt tt tt ∙ kept s2 wait_field accumulated_field 0 tt tt tt ∙ written_reads p s1 k wait_field 0 room (omega arith) w1 in
        let nought : accumulated s4 k ≡ 0 = kept s3 accumulated_field key_field 0 tt tt tt ∙ written_reads p s2 k accumulated_field 0 room (omega arith) w2 in
        let same : priority s4 k ≡ priority p k =
        kept s3 priority_field key_field 0 tt tt tt ∙ kept s2 priority_field accumulated_field 0 tt tt tt ∙ kept s1 priority_field wait_field 0 tt tt tt
        ∙ kept p priority_field timeout_field (bits t) tt tt tt in
        record { urgent = rw same (S.jobs.urgent k below); gained = omega arith; frames = subst Timely (sym frames) h; waits = inl none; idle = inl nought }

  -- $9
  abbrev r1 : List ℕ
  r1 = with_timeout p k (pos 0)

  abbrev r2 : List ℕ
  r2 = with_wait r1 k 0

  abbrev r3 : List ℕ
  r3 = with_key r2 k 0

  x1 : Written p r1 k
  x1 = write p timeout_field 0 (omega arith) (omega arith) start

  pub released_written : Written p (released p k) k
  unfolding released
  released_written = go (eq_z (timeout p k) (pos 0))
    where
      go : (b : Bool) → Written p (cond b p r3) k
      go true = start
      go false = write r2 key_field 0 (omega arith) (omega arith) (write r1 wait_field 0 (omega arith) (omega arith) x1)

  -- a job that is suspended has nothing accumulated
  idle_nought : eq_z (timeout p k) (pos 0) ≡ false → accumulated p k ≡ 0
  idle_nought h = ⊎_elim (λ e. e) (λ r. absurd (false_true (sym (ready_not p k h) ∙ r))) (S.jobs.idle k below)

  pub released_turning : Turning (released p k) k
  unfolding released
  released_turning = go (eq_z (timeout p k) (pos 0)) refl
    where
      loose : eq_z (timeout p k) (pos 0) ≡ false → Turning r3 k
      loose h =
          let frames : timeout r3 k ≡ pos 0 =
          timeout_zero r3 k (kept r2 timeout_field key_field 0 tt tt tt ∙ kept r1 timeout_field wait_field 0 tt tt tt ∙ written_reads p p k timeout_field 0 room (omega arith) start) in
          let none : waited_for r3 k ≡ 0 = kept r2 wait_field key_field 0 tt tt tt ∙ written_reads p r1 k wait_field 0 room (omega arith) x1 in
          let nought : accumulated r3 k ≡ 0 =
          kept r2 accumulated_field key_field 0 tt tt tt ∙ kept r1 accumulated_field wait_field 0 tt tt tt ∙ kept p accumulated_field timeout_field 0 tt tt tt
          ∙ idle_nought h in
          let same : priority r3 k ≡ priority p k =
          kept r2 priority_field key_field 0 tt tt tt ∙ kept r1 priority_field wait_field 0 tt tt tt ∙ kept p priority_field timeout_field 0 tt tt tt in
          record { urgent = rw same (S.jobs.urgent k below); gained = omega arith; frames = subst Timely (sym frames) timely_zero; waits = inl none; idle = inl nought }

      go : (b : Bool) → eq_z (timeout p k) (pos 0) ≡ b → Turning (cond b p r3) k
      go true h = sound_turning p p start.steady S k below
      go false h = loose h

  -- $A, $B
  module _ (v : ℕ) where
    abbrev v1 : List ℕ
    v1 = with_priority p k v

    abbrev v2 : List ℕ
    v2 = with_accumulated v1 k 0

    y1 : Written p v1 k
    y1 = write p priority_field v (omega arith) (omega arith) start

    pub prioritized_written : Written p (prioritized p k v) k
    unfolding prioritized
    prioritized_written = write v1 accumulated_field 0 (omega arith) (omega arith) y1

    pub prioritized_turning : v ≤ greatest_priority → Turning (prioritized p k v) k
    unfolding prioritized
    prioritized_turning h =
        let given : priority v2 k ≡ v = kept v1 priority_field accumulated_field 0 tt tt tt ∙ written_reads p p k priority_field v room (omega arith) start in
        let nought : accumulated v2 k ≡ 0 = written_reads p v1 k accumulated_field 0 room (omega arith) y1 in
        let frames : timeout v2 k ≡ timeout p k = timeout_same p v2 k (kept v1 timeout_field accumulated_field 0 tt tt tt ∙ kept p timeout_field priority_field v tt tt tt) in
        let awaits : waited_for v2 k ≡ waited_for p k = kept v1 wait_field accumulated_field 0 tt tt tt ∙ kept p wait_field priority_field v tt tt tt in
        record {
          urgent = rw given h;
          gained = omega arith;
          frames = subst Timely (sym frames) (S.jobs.frames k below);
          waits = waits_kept p v2 prioritized_steady.steady k below awaits frames (S.jobs.waits k below);
          idle = inl nought;
        }
      where
        prioritized_steady : Written p v2 k
        prioritized_steady = write v1 accumulated_field 0 (omega arith) (omega arith) y1

    -- the current job's number stays
    pub prioritized_current : word (prioritized p k v) current_word ≡ word p current_word
    unfolding prioritized
    prioritized_current = get_or-set_other v1 (slot Jobs k + accumulated_field) current_word 0 0 (λ e. omega arith) ∙ get_or-set_other p (slot Jobs k + priority_field) current_word v 0 (λ e. omega arith)

  -- $A: the caller waits for the live job n, which is not the caller
  module _ (n : ℕ) where
    abbrev c1 : List ℕ
    c1 = with_timeout p k without_end

    abbrev c2 : List ℕ
    c2 = with_accumulated c1 k 0

    abbrev c3 : List ℕ
    c3 = with_wait c2 k n

    z1 : Written p c1 k
    z1 = write p timeout_field (bits without_end) (omega arith) (omega arith) start

    z2 : Written p c2 k
    z2 = write c1 accumulated_field 0 (omega arith) (omega arith) z1

    pub awaiting_written : Written p c3 k
    awaiting_written = write c2 wait_field n (omega arith) (omega arith) z2

    pub awaiting_turning : live p Jobs n ≡ true → (n ≡ number p Jobs k → ⊥) → Turning c3 k
    awaiting_turning lives other =
        let frames : timeout c3 k ≡ without_end =
        timeout_stored c3 k without_end (timely_fits without_end timely_endless) (kept c2 timeout_field wait_field n tt tt tt ∙ kept c1 timeout_field accumulated_field 0 tt tt tt ∙ written_reads p p k timeout_field (bits without_end) room (omega arith) start) in
        let nought : accumulated c3 k ≡ 0 = kept c2 accumulated_field wait_field n tt tt tt ∙ written_reads p c1 k accumulated_field 0 room (omega arith) z1 in
        let same : priority c3 k ≡ priority p k =
        kept c2 priority_field wait_field n tt tt tt ∙ kept c1 priority_field accumulated_field 0 tt tt tt ∙ kept p priority_field timeout_field (bits without_end) tt tt tt in
        let awaits : waited_for c3 k ≡ n = written_reads p c2 k wait_field n room (omega arith) z2 in
        let s = awaiting_written.steady in
        record {
          urgent = rw same (S.jobs.urgent k below);
          gained = omega arith;
          frames = subst Timely (sym frames) timely_endless;
          waits = inr (record { alive = rw awaits (steady_live p c3 s Jobs n ∙ lives); other = λ e. other (sym awaits ∙ e ∙ s.fields k number_field below (omega arith)); forever = frames });
          idle = inl nought;
        }
