-- What a pick changes, longword by longword: the current job, the key to deliver of the one picked, and accumulated of every job.
use Prim.Native.Nat.{ℕ, ◌+◌, ◌<◌, ◌≤◌}
use native.Mathlib.Omega.{arith}
use mathlib.Core.Path.{◌≡◌, refl, ◌∙◌, ap}
use mathlib.Core.Logic.{◌≢◌, ⊎_elim}
use mathlib.Core.List.{List}
use lib.ListN.{length, length-set}
use lib.Seq.{get_or-set_same, get_or-set_other}
use borrow.Author.Tests.{eq-eqb, ne_eqb}
use mir.Syntax.{w32}
use mir.Val.{to_z}
use Rattle.words.specs.Words.{word, put}
use Rattle.picture.specs.Layout.{nobody, current_word, positions, width, first_record}
use Rattle.picture.specs.Keys.{done}
use Rattle.picture.specs.Records.{slot, field, number, accumulated, delivered, accumulated_field, key_field}
use Rattle.picture.specs.declared.Table.TheVariants.{Jobs}
use Rattle.turns.specs.Fields.{set_each}
use Rattle.turns.specs.Pick.{chosen_job, accumulated_after, turn_given, picked, picked_number, picked_key}
use Rattle.turns.proofs.Fields.{length_set_each, set_each_other, set_each_at}
use Rattle.law_picks.proofs.Rule.{chosen_is_who_the_rule_picks}

-- what a pick of the job at m makes of p
pub record Given (p : List ℕ) (m : ℕ) (q : List ℕ) : Type 0 where
  pub long : length q ≡ length p
  pub becomes_current : word q current_word ≡ number p Jobs m
  pub gains : (k : ℕ) → k < positions Jobs → accumulated q k ≡ accumulated_after p m k
  pub key_cleared : delivered q m ≡ 0
  pub other_keys : (k : ℕ) → k ≢ m → delivered q k ≡ delivered p k
  pub other_fields : (k f : ℕ) → f < width Jobs → f ≢ accumulated_field → f ≢ key_field → field q Jobs k f ≡ field p Jobs k f
  pub elsewhere : (i : ℕ) → i ≢ current_word → i ≢ slot Jobs m + key_field → ((k : ℕ) → k < positions Jobs → i ≢ slot Jobs k + accumulated_field) → word q i ≡ word p i

module _ (p : List ℕ) (m : ℕ) where
  gained : List ℕ
  gained = set_each p accumulated_field (accumulated_after p m) (positions Jobs)

  cleared : List ℕ
  cleared = put gained (slot Jobs m + key_field) 0

  gained_long : length gained ≡ length p
  unfolding gained
  gained_long = length_set_each p accumulated_field (accumulated_after p m) (positions Jobs)

  -- of the three writes only the first reaches i
  only_gained : (i : ℕ) → i ≢ current_word → i ≢ slot Jobs m + key_field → word (turn_given p m) i ≡ word gained i
  unfolding turn_given cleared gained
  only_gained i a b =
      get_or-set_other cleared current_word i (number p Jobs m) 0 a ∙ get_or-set_other gained (slot Jobs m + key_field) i 0 0 b

  pub turn_elsewhere : (i : ℕ) → i ≢ current_word → i ≢ slot Jobs m + key_field → ((k : ℕ) → k < positions Jobs → i ≢ slot Jobs k + accumulated_field) → word (turn_given p m) i ≡ word p i
  unfolding gained
  turn_elsewhere i a b h = only_gained i a b ∙ set_each_other p accumulated_field (accumulated_after p m) (positions Jobs) i h

  given_long : length (turn_given p m) ≡ length p
  unfolding turn_given gained
  given_long = simp length-set gained_long

  module _ (whole : slot Jobs (positions Jobs) ≤ length p) (inside : m < positions Jobs) where
    given_gains : (k : ℕ) → k < positions Jobs → accumulated (turn_given p m) k ≡ accumulated_after p m k
    unfolding gained
    given_gains k l =
        only_gained (slot Jobs k + accumulated_field) (omega arith) (omega arith)
        ∙ set_each_at p accumulated_field (accumulated_after p m) (omega arith) (positions Jobs) k l whole

    given_current : word (turn_given p m) current_word ≡ number p Jobs m
    unfolding turn_given cleared gained
    given_current = get_or-set_same cleared current_word (number p Jobs m) 0 (simp length-set (omega (arith, gained_long)))

    given_key : delivered (turn_given p m) m ≡ 0
    unfolding turn_given cleared gained
    given_key =
        get_or-set_other cleared current_word (slot Jobs m + key_field) (number p Jobs m) 0 (omega arith)
        ∙ get_or-set_same gained (slot Jobs m + key_field) 0 0 (omega (arith, gained_long))

    pub turn_gives : Given p m (turn_given p m)
    turn_gives =
        record {
          long = given_long;
          becomes_current = given_current;
          gains = given_gains;
          key_cleared = given_key;
          other_keys = λ k ne. turn_elsewhere (slot Jobs k + key_field) (omega arith) (λ e. ne (omega arith)) (λ j l e. omega arith);
          other_fields = λ k f l a d. turn_elsewhere (slot Jobs k + f) (omega arith) (λ e. d (omega arith)) (λ j n e. a (omega arith));
          elsewhere = turn_elsewhere;
        }

-- nobody is ready: only longword 1 moves
pub nobody_picked_leaves : (p : List ℕ) → chosen_job p ≡ positions Jobs → picked p ≡ put p current_word nobody
unfolding picked
nobody_picked_leaves p e = rw (eq-eqb (chosen_job p) (positions Jobs) e)

-- somebody is ready: what the pick is
someone_picked : (p : List ℕ) → chosen_job p < positions Jobs → picked p ≡ turn_given p (chosen_job p)
unfolding picked
someone_picked p l = rw (ne_eqb (chosen_job p) (positions Jobs) (omega arith))

-- somebody is ready: the pick gives a turn to the job chosen
pub pick_gives_a_turn : (p : List ℕ) → slot Jobs (positions Jobs) ≤ length p → chosen_job p < positions Jobs → Given p (chosen_job p) (picked p)
pick_gives_a_turn p whole l = rw (someone_picked p l) (turn_gives p (chosen_job p) whole l)

-- the answer is the number of the one picked and its key to deliver, or nobody and key 0
pub pick_answers_the_number : (p : List ℕ) → chosen_job p < positions Jobs → picked_number p ≡ number p Jobs (chosen_job p)
unfolding picked_number
pick_answers_the_number p l = rw (ne_eqb (chosen_job p) (positions Jobs) (omega arith))

pub pick_answers_the_key : (p : List ℕ) → chosen_job p < positions Jobs → picked_key p ≡ to_z w32 (delivered p (chosen_job p))
unfolding picked_key
pick_answers_the_key p l = rw (ne_eqb (chosen_job p) (positions Jobs) (omega arith))

pub pick_answers_nobody : (p : List ℕ) → chosen_job p ≡ positions Jobs → (picked_number p ≡ nobody) × (picked_key p ≡ done)
unfolding picked_number picked_key
pick_answers_nobody p e = rw (eq-eqb (chosen_job p) (positions Jobs) e) (refl, refl)

-- on any picture a pick changes nothing but the current job, accumulated and keys to deliver
pub pick_changes_only : (p : List ℕ) (i : ℕ) → i ≢ current_word → ((k : ℕ) → k < positions Jobs → (i ≢ slot Jobs k + accumulated_field) × (i ≢ slot Jobs k + key_field)) → word (picked p) i ≡ word p i
pick_changes_only p i a h =
    ⊎_elim
    (λ w. ap (λ (q : List ℕ). word q i) (nobody_picked_leaves p w.0) ∙ get_or-set_other p current_word i nobody 0 a)
    (λ w.
    ap (λ (q : List ℕ). word q i) (someone_picked p w.inside)
    ∙ turn_elsewhere p (chosen_job p) i a (h (chosen_job p) w.inside).1 (λ k l. (h k l).0))
    (chosen_is_who_the_rule_picks p)

-- the picture is as long as it was
pub pick_keeps_the_length : (p : List ℕ) → length (picked p) ≡ length p
pick_keeps_the_length p =
    ⊎_elim
    (λ w. ap length (nobody_picked_leaves p w.0) ∙ simp length-set)
    (λ w. ap length (someone_picked p w.inside) ∙ given_long p (chosen_job p))
    (chosen_is_who_the_rule_picks p)

-- so it keeps longwords 0 and 2 to 7, and all behind the job records
pub pick_keeps_the_head : (p : List ℕ) (i : ℕ) → i < first_record Jobs → i ≢ current_word → word (picked p) i ≡ word p i
pick_keeps_the_head p i l ne = pick_changes_only p i ne (λ k m. (λ e. omega arith, λ e. omega arith))

pub pick_keeps_the_rest : (p : List ℕ) (i : ℕ) → slot Jobs (positions Jobs) ≤ i → word (picked p) i ≡ word p i
pick_keeps_the_rest p i l = pick_changes_only p i (omega arith) (λ k m. (λ e. omega arith, λ e. omega arith))
