-- The keys of a fresh picture, of an error's text, of the pick and of the tick: each exactly for its cause.
use Prim.Native.Nat.{ℕ, zero, suc, ◌+◌, ◌%◌}
use mathlib.Core.Path.{◌≡◌, refl, sym, ap, ◌∙◌}
use mathlib.Core.Bool.{Bool, true, false, cond, ◌&&◌}
use mathlib.Core.List.{List}
use mathlib.Core.Logic.{⊎_elim}
use native.Mathlib.Omega.{arith}
use lib.IntN.{ℤ, pos, negsuc}
use lib.ListN.{length}
use lib.Dec.{eqb, ltb}
use borrow.Author.Tests.{eqb-true, eq-eqb, leb-true, le-leb, ltb-true, lt-ltb}
use Rattle.std.specs.Option.{is_some}
use Rattle.std.proofs.Common.{Option, Some, None, option_map, option_and_then}
use Rattle.std.proofs.lemmas.Option.{none-some, same_Some}
use Rattle.words.proofs.Tests.{both, false_true}
use Rattle.picture.specs.Keys.{done, out_of_range, not_found, not_sound}
use Rattle.picture.specs.Layout.{nobody, least_size, greatest_size, heap_base, positions}
use Rattle.picture.specs.Numbers.{position}
use Rattle.picture.specs.declared.Table.TheVariants.{Jobs}
use Rattle.sound.specs.Sound.{sound}
use Rattle.sound_facts.proofs.View.{view}
use Rattle.calls.proofs.Call.{keys_differ}
use Rattle.fresh.specs.Fresh.{fresh_good, fresh_key}
use Rattle.errors.specs.Text.{length_word, whole_at, string_at, past, nth_at, spot_key, error_key}
use Rattle.errors.specs.declared.Part.{Part}
use Rattle.errors.specs.declared.Spot.TheVariants.{System, Driver}
use Rattle.turns.specs.Pick.{chosen_job, picked_number, picked_key}
use Rattle.law_picks.specs.Stretch.{Chosen}
use Rattle.law_picks.proofs.Rule.{NobodyReady, chosen_is_who_the_rule_picks}
use Rattle.law_picks.proofs.Given.{pick_answers_the_number, pick_answers_nobody}
use Rattle.law_turns.proofs.Pick.{ready_used}
use Rattle.manager.specs.Turn.{pick_answer, tick_key}
use Rattle.law_causes.specs.Others.{KeyExactly, GoodSizes, FreshOnlyForItsCause, Whole, StringStands, first, next, HasText, system's, driver's, TextOnlyForItsCause, TurnKeys, TurnsOnlyForTheirCause}

-- fresh
good_says : (l n h : ℕ) → fresh_good l n h ≡ true → GoodSizes l n h
unfolding fresh_good
good_says l n h g =
    let a = both (eqb l n) _ g in
    let b = both _ _ a.1 in
    let c = both _ _ b.0 in
    let e = both _ _ c.1 in
    let f = both _ _ b.1 in
    let i = both _ _ f.1 in
    record {
      lent = eqb-true l n a.0;
      least = leb-true least_size n c.0;
      most = leb-true n greatest_size e.0;
      fours = eqb-true (n % 4) 0 e.1;
      heap_fours = eqb-true (h % 4) 0 f.0;
      heap_least = leb-true 4 h i.0;
      transient_least = leb-true (heap_base + h + 4) n i.1;
    }

says_good : (l n h : ℕ) → GoodSizes l n h → fresh_good l n h ≡ true
unfolding fresh_good
says_good l n h G = rw (eq-eqb l n G.lent, le-leb least_size n G.least, le-leb n greatest_size G.most, eq-eqb (n % 4) 0 G.fours, eq-eqb (h % 4) 0 G.heap_fours, le-leb 4 h G.heap_least, le-leb (heap_base + h + 4) n G.transient_least)

-- a key that a test decides, and what the test tells
exactly_by : (good : Type 0) (key refusal : ℤ) (b : Bool) → (done ≡ refusal → ⊥) → key ≡ cond b done refusal → (b ≡ true → good) → (good → b ≡ true) → KeyExactly good key refusal
exactly_by good key refusal true n e f g = record { done_where = λ _. e; done_only = λ _. f refl; refused_where = λ w. absurd (w (f refl)); refused_only = λ k _. n (sym e ∙ k) }
exactly_by good key refusal false n e f g = record { done_where = λ x. absurd (false_true (g x)); done_only = λ k. absurd (n (sym k ∙ e)); refused_where = λ _. e; refused_only = λ _ x. false_true (g x) }

pub fresh_only_for_its_cause : FreshOnlyForItsCause
unfolding fresh_key
fresh_only_for_its_cause p n h = exactly_by _ _ out_of_range (fresh_good (length p) n h) (keys_differ done out_of_range (λ z. omega arith)) refl (good_says (length p) n h) (says_good (length p) n h)

-- a job that is picked has a number of its own, and where nobody is ready the key is 0
refusal_is_none : (p : List ℕ) → sound p ≡ true → picked_number p ≡ nobody → picked_key p ≡ not_sound → ⊥
refusal_is_none p h n k = ⊎_elim
    (λ (x : (chosen_job p ≡ positions Jobs) × NobodyReady p (positions Jobs)). keys_differ done not_sound (λ z. omega arith) (sym (pick_answers_nobody p x.0).1 ∙ k))
    (λ (C : Chosen p (positions Jobs) (chosen_job p)).
    let S = view p h in
    let u = ready_used p S (chosen_job p) C.inside C.is_ready in
    let e : position nobody ≡ chosen_job p = ap position (sym n ∙ pick_answers_the_number p C.inside) ∙ S.jobs.entries.place (chosen_job p) u in
    let l = C.inside in
    absurd (omega arith))
    (chosen_is_who_the_rule_picks p)

tick_tells : (p : List ℕ) → tick_key p ≡ cond (sound p) done not_sound
unfolding tick_key
tick_tells p = refl

-- the keys of the pick and of the tick
pub turns_only_for_their_cause : TurnsOnlyForTheirCause
unfolding pick_answer
turns_only_for_their_cause p = go (sound p) refl
  where
    ticks : KeyExactly (sound p ≡ true) (tick_key p) not_sound
    ticks = exactly_by (sound p ≡ true) (tick_key p) not_sound (sound p) (keys_differ done not_sound (λ z. omega arith)) (tick_tells p) (λ e. e) (λ e. e)

    go : (b : Bool) → sound p ≡ b → TurnKeys p
    go true e = record {
      pick_refuses = λ z. absurd (false_true (sym z ∙ e));
      pick_refuses_only = λ n k. absurd (refusal_is_none p e (rw e at n) (rw e at k));
      tick = ticks;
    }
    go false e = record { pick_refuses = λ _. rw e (refl, refl); pick_refuses_only = λ _ _. e; tick = ticks }

-- the text of a key
whole_says : (text : List ℕ) (at : ℕ) → whole_at text at ≡ true → Whole text at
whole_says text at e = leb-true (at + 2 + length_word text at) (length text) e

module _ (text : List ℕ) where
  -- strings one by one
  stands_at : (n at : ℕ) → StringStands text n at → nth_at text n ≡ Some at
  stands_at n at first = refl
  stands_at n at (next {n = m} {at = b} S w) = rw (stands_at m b S, le-leb (b + 2 + length_word text b) (length text) w)

  at_stands : (n at : ℕ) → nth_at text n ≡ Some at → StringStands text n at
  at_stands zero at e = rw (← same_Some 0 at e) first
  at_stands (suc n) at e = go (nth_at text n) e (λ b. at_stands n b)
    where
      past_it : (b : ℕ) (c : Bool) → whole_at text b ≡ c → option_map past (cond c (Some (record { start = b + 2; count = length_word text b })) None) ≡ Some at → StringStands text n b → StringStands text (suc n) at
      past_it b true w f S = rw (← same_Some _ at f) (next S (whole_says text b w))
      past_it b false w f S = absurd (none-some at f)

      go : (q : Option ℕ) → option_map past (option_and_then (string_at text) q) ≡ Some at → ((b : ℕ) → q ≡ Some b → StringStands text n b) → StringStands text (suc n) at
      go None f again = absurd (none-some at f)
      go (Some b) f again = past_it b (whole_at text b) refl f (again b refl)

  -- string n, where it stands
  string_stands : (n : ℕ) → is_some (option_and_then (string_at text) (nth_at text n)) ≡ true → (at : ℕ) × StringStands text n at × Whole text at
  string_stands n e = go (nth_at text n) refl e
    where
      go : (q : Option ℕ) → nth_at text n ≡ q → is_some (option_and_then (string_at text) q) ≡ true → (at : ℕ) × StringStands text n at × Whole text at
      go None f g = absurd (false_true g)
      go (Some at) f g = (at, at_stands n at f, whole_says text at (part_is_whole at g))
        where
          part_is_whole : (at : ℕ) → is_some (string_at text at) ≡ true → whole_at text at ≡ true
          part_is_whole at g = by (whole_at text at) g
            where
              by : (b : Bool) → is_some {T = Part} (cond b (Some (record { start = at + 2; count = length_word text at })) None) ≡ true → b ≡ true
              by true h = refl
              by false h = absurd (false_true h)

system_key : (system driver : List ℕ) (n : ℕ) → error_key (negsuc n) system driver ≡ cond (ltb n 21 && is_some (option_and_then (string_at system) (nth_at system n))) done not_found
unfolding error_key
system_key system driver n = go (ltb n 21) (option_and_then (string_at system) (nth_at system n))
  where
    go : (a : Bool) (q : Option Part) → spot_key (cond a (option_map System q) None) ≡ cond (a && is_some q) done not_found
    go true (Some part) = refl
    go true None = refl
    go false q = refl

driver_key : (system driver : List ℕ) (n : ℕ) → error_key (pos (suc n)) system driver ≡ cond (whole_at driver (suc n)) done not_found
unfolding error_key
driver_key system driver n = go (whole_at driver (suc n))
  where
    go : (b : Bool) → spot_key (option_map Driver (cond b (Some (record { start = suc n + 2; count = length_word driver (suc n) })) None)) ≡ cond b done not_found
    go true = refl
    go false = refl

system_back : (system driver : List ℕ) (n : ℕ) → HasText system driver (negsuc n) → ltb n 21 && is_some (option_and_then (string_at system) (nth_at system n)) ≡ true
system_back system driver n (system's {at = at} l S w) = rw (lt-ltb n 21 l, stands_at system n at S, le-leb (at + 2 + length_word system at) (length system) w)

driver_back : (system driver : List ℕ) (n : ℕ) → HasText system driver (pos (suc n)) → whole_at driver (suc n) ≡ true
driver_back system driver n (driver's w) = le-leb (suc n + 2 + length_word driver (suc n)) (length driver) w

zero_has_none : (system driver : List ℕ) (key : ℤ) → HasText system driver key → key ≡ pos 0 → ⊥
zero_has_none system driver key (system's {n = n} l S w) e = keys_differ (negsuc n) (pos 0) (λ z. omega arith) e
zero_has_none system driver key (driver's {n = n} w) e = keys_differ (pos (suc n)) (pos 0) (λ z. omega arith) e

text_by : (key : ℤ) (system driver : List ℕ) (b : Bool) → error_key key system driver ≡ cond b done not_found → (b ≡ true → HasText system driver key) → (HasText system driver key → b ≡ true) → KeyExactly (HasText system driver key) (error_key key system driver) not_found
text_by key system driver b = exactly_by (HasText system driver key) (error_key key system driver) not_found b (keys_differ done not_found (λ z. omega arith))

pub text_only_for_its_cause : TextOnlyForItsCause
unfolding error_key
text_only_for_its_cause (pos zero) system driver = text_by (pos 0) system driver false refl (λ z. absurd (false_true z)) (λ T. absurd (zero_has_none system driver (pos 0) T refl))
text_only_for_its_cause (pos (suc n)) system driver = text_by (pos (suc n)) system driver (whole_at driver (suc n)) (driver_key system driver n) (λ z. driver's (whole_says driver (suc n) z)) (driver_back system driver n)
text_only_for_its_cause (negsuc n) system driver = text_by (negsuc n) system driver (ltb n 21 && is_some (option_and_then (string_at system) (nth_at system n))) (system_key system driver n)
    (λ z.
    let b = both (ltb n 21) (is_some (option_and_then (string_at system) (nth_at system n))) z in
    let w = string_stands system n b.1 in
    system's (ltb-true n 21 b.0) w.1 w.2)
    (system_back system driver n)
