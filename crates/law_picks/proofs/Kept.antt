-- A pick and a tick keep a picture orderly and a job standing, and hold what is accumulated.
use Prim.Native.Nat.{ℕ, ◌+◌, ◌<◌, ◌≤◌}
use native.Mathlib.Decide.{ℕ_discrete}
use native.Mathlib.Omega.{arith}
use mathlib.Core.Path.{◌≡◌, refl, sym, ◌∙◌, ap}
use mathlib.Core.Logic.{◌≢◌, ◌⊎◌, inl, inr, ⊎_elim, by_cases}
use mathlib.Core.Bool.{Bool, true, false, false≢true}
use mathlib.Core.List.{List}
use lib.ListN.{length}
use lib.Seq.{get_or-set_same, get_or-set_other}
use Rattle.words.specs.Words.{word}
use Rattle.picture.specs.Layout.{nobody, current_word, positions, width}
use Rattle.picture.specs.Records.{slot, field, number, priority, accumulated, timeout, ready, accumulated_field, key_field, number_field, priority_field, timeout_field}
use Rattle.picture.specs.declared.Table.TheVariants.{Jobs}
use Rattle.picture.specs.Layout.{hold}
use Rattle.picture.proofs.Timeout.{timeout_same, ready_same, ready_has}
use Rattle.turns.specs.Pick.{chosen_job, accumulated_after, picked}
use Rattle.turns.specs.Tick.{ticked}
use Rattle.law_picks.specs.Stretch.{Orderly, Stands}
use Rattle.turns.proofs.Pick.{picked_has_none, idle_keeps, ready_gains}
use Rattle.law_picks.proofs.Rule.{chosen_is_who_the_rule_picks}
use Rattle.law_picks.proofs.Given.{pick_changes_only, pick_keeps_the_length, pick_gives_a_turn, nobody_picked_leaves}
use Rattle.turns.proofs.Tick.{none_stays, tick_keeps_the_number, tick_keeps_the_priority, tick_keeps_accumulated, tick_keeps_the_length, tick_lets_timeouts_fall}
use Rattle.law_picks.proofs.Quiet.{kept_record_stands}

-- a pick keeps every field of every job but accumulated and the key to deliver
pub pick_keeps_fields : (p : List ℕ) (k f : ℕ) → f < width Jobs → f ≢ accumulated_field → f ≢ key_field → field (picked p) Jobs k f ≡ field p Jobs k f
pick_keeps_fields p k f l a d = pick_changes_only p (slot Jobs k + f) (omega arith) (λ j m. (λ e. a (omega arith), λ e. d (omega arith)))

pub pick_keeps_the_number : (p : List ℕ) (k : ℕ) → number (picked p) Jobs k ≡ number p Jobs k
pick_keeps_the_number p k = pick_keeps_fields p k number_field (omega arith) (omega arith) (omega arith)

pub pick_keeps_the_priority : (p : List ℕ) (k : ℕ) → priority (picked p) k ≡ priority p k
pick_keeps_the_priority p k = pick_keeps_fields p k priority_field (omega arith) (omega arith) (omega arith)

pub pick_keeps_the_timeout : (p : List ℕ) (k : ℕ) → timeout (picked p) k ≡ timeout p k
pick_keeps_the_timeout p k = timeout_same p (picked p) k (pick_keeps_fields p k timeout_field (omega arith) (omega arith) (omega arith))

-- who is ready stays so, and a job that stands stays standing
pub pick_keeps_who_is_ready : (p : List ℕ) (k : ℕ) → ready (picked p) k ≡ ready p k
pick_keeps_who_is_ready p k = ready_same p (picked p) k (pick_keeps_the_priority p k) (pick_keeps_the_timeout p k)

pub pick_keeps_standing : (n j g : ℕ) (p : List ℕ) → Stands n j g p → Stands n j g (picked p)
pick_keeps_standing n j g p s = kept_record_stands n j g p (picked p) (pick_keeps_the_number p j) (pick_keeps_the_priority p j) (pick_keeps_the_timeout p j) s

-- what each position has accumulated after a pick, whoever is picked
pub pick_accumulates : (p : List ℕ) → slot Jobs (positions Jobs) ≤ length p → (k : ℕ) → k < positions Jobs → accumulated (picked p) k ≡ accumulated_after p (chosen_job p) k
pick_accumulates p whole k l =
    ⊎_elim
    (λ w.
    ap (λ (q : List ℕ). accumulated q k) (nobody_picked_leaves p w.0)
    ∙ get_or-set_other p current_word (slot Jobs k + accumulated_field) nobody 0 (omega arith)
    ∙ sym (idle_keeps p (chosen_job p) k (omega (arith, w.0)) (not_ready (ready p k) (w.1 k l))))
    (λ w. (pick_gives_a_turn p whole w.inside).gains k l)
    (chosen_is_who_the_rule_picks p)
  where
    not_ready : (b : Bool) → (b ≡ true → ⊥) → b ≡ false
    not_ready true h = absurd (h refl)
    not_ready false h = refl

-- no gain passes the hold
gain_held : (p : List ℕ) (m k : ℕ) → accumulated p k ≤ hold → accumulated_after p m k ≤ hold
gain_held p m k h = by_cases (ℕ_discrete k m) (λ e. omega (arith, picked_has_none p m k e)) (λ ne. by_ready (ready p k) refl ne)
  where
    by_ready : (b : Bool) → ready p k ≡ b → k ≢ m → accumulated_after p m k ≤ hold
    by_ready true e ne = omega (arith, ready_gains p m k ne e)
    by_ready false e ne = omega (arith, idle_keeps p m k ne e)

-- what is held stays held
pub pick_holds_accumulated : (p : List ℕ) → slot Jobs (positions Jobs) ≤ length p → (k : ℕ) → k < positions Jobs → accumulated p k ≤ hold → accumulated (picked p) k ≤ hold
pick_holds_accumulated p whole k l h = omega (arith, pick_accumulates p whole k l, gain_held p (chosen_job p) k h)

-- accumulated stays 0 unless ready
pub pick_keeps_orderly : (p : List ℕ) → Orderly p → Orderly (picked p)
pick_keeps_orderly p ok =
    record {
      whole = omega (arith, pick_keeps_the_length p, ok.whole);
      idle = λ i l e. pick_accumulates p ok.whole i l ∙ idle_has_none i l (sym (pick_keeps_who_is_ready p i) ∙ e);
      low = λ i l. omega (arith, pick_keeps_the_priority p i, ok.low i l);
    }
  where
    idle_has_none : (i : ℕ) → i < positions Jobs → ready p i ≡ false → accumulated_after p (chosen_job p) i ≡ 0
    idle_has_none i l e =
        by_cases (ℕ_discrete i (chosen_job p)) (λ q. picked_has_none p (chosen_job p) i q) (λ ne. idle_keeps p (chosen_job p) i ne e ∙ ok.idle i l e)

-- a ready job has no timeout, so a tick leaves it ready
pub tick_keeps_ready : (p : List ℕ) (k : ℕ) → k < positions Jobs → slot Jobs (positions Jobs) ≤ length p → ready p k ≡ true → ready (ticked p) k ≡ true
tick_keeps_ready p k l whole e =
    ready_same p (ticked p) k (tick_keeps_the_priority p k) ((tick_lets_timeouts_fall p whole).falls k l ∙ none_stays (timeout p k) (ready_has p k e).1) ∙ e

pub tick_keeps_standing : (n j g : ℕ) (p : List ℕ) → j < positions Jobs → slot Jobs (positions Jobs) ≤ length p → Stands n j g p → Stands n j g (ticked p)
tick_keeps_standing n j g p l whole s =
    record {
      names = tick_keeps_the_number p j ∙ s.names;
      is_ready = tick_keeps_ready p j l whole s.is_ready;
      at = tick_keeps_the_priority p j ∙ s.at;
    }

pub tick_keeps_orderly : (p : List ℕ) → Orderly p → Orderly (ticked p)
tick_keeps_orderly p ok =
    record {
      whole = omega (arith, tick_keeps_the_length p, ok.whole);
      idle = λ i l e. tick_keeps_accumulated p i ∙ ok.idle i l (was_idle i l e);
      low = λ i l. omega (arith, tick_keeps_the_priority p i, ok.low i l);
    }
  where
    was_idle : (i : ℕ) → i < positions Jobs → ready (ticked p) i ≡ false → ready p i ≡ false
    was_idle i l e = by_ready (ready p i) refl
      where
        by_ready : (x : Bool) → ready p i ≡ x → ready p i ≡ false
        by_ready true q = absurd (false≢true (sym e ∙ tick_keeps_ready p i l ok.whole q))
        by_ready false q = q

-- longword 1 is nobody or a ready job after a pick
pub pick_leaves_a_ready_job_current : (p : List ℕ) → slot Jobs (positions Jobs) ≤ length p → (word (picked p) current_word ≡ nobody) ⊎ ((j : ℕ) × (j < positions Jobs) × (ready (picked p) j ≡ true) × (word (picked p) current_word ≡ number (picked p) Jobs j))
pick_leaves_a_ready_job_current p whole =
    ⊎_elim
    (λ w. inl (ap (λ (q : List ℕ). word q current_word) (nobody_picked_leaves p w.0) ∙ get_or-set_same p current_word nobody 0 (omega arith)))
    (λ w.
    inr (
      chosen_job p,
      w.inside,
      pick_keeps_who_is_ready p (chosen_job p) ∙ w.is_ready,
      (pick_gives_a_turn p whole w.inside).becomes_current ∙ sym (pick_keeps_the_number p (chosen_job p)),
    ))
    (chosen_is_who_the_rule_picks p)
