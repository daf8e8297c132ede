-- Laws of specs/Pick.antt that the code's proofs cite.
use Prim.Native.Nat.{ℕ, ◌+◌, ◌≤◌, ◌<◌, min}
use native.Mathlib.Numerals.{add-one}
use native.Mathlib.Omega.{arith}
use mathlib.Core.Path.{◌≡◌, refl, ap, ◌∙◌}
use mathlib.Core.Bool.{Bool, true, false, cond, ◌&&◌, ◌||◌}
use mathlib.Core.Logic.{◌≢◌}
use mathlib.Core.List.{List}
use lib.Dec.{ltb, eqb}
use borrow.Author.Tests.{eq-eqb, ne_eqb, lt-ltb, le-ltb}
use lib.IntN.{ℤ}
use mir.Syntax.{w32}
use mir.Val.{to_z}
use Rattle.words.specs.Words.{put}
use Rattle.picture.specs.Layout.{nobody, current_word, positions, width}
use Rattle.picture.specs.Keys.{done}
use Rattle.picture.specs.Records.{field, number, priority, accumulated, delivered, ready, accumulated_field, priority_field, timeout_field}
use Rattle.picture.specs.declared.Table.TheVariants.{Jobs}
use Rattle.picture.proofs.Timeout.{timeout_same, ready_same}
use Rattle.picture.specs.Layout.{hold}
use Rattle.turns.specs.Fields.{set_each}
use Rattle.turns.specs.Pick.{preferred, chosen_below, chosen_job, accumulated_after, turn_given, picked, picked_number, picked_key, answer}
use Rattle.turns.specs.declared.Picked.{Picked}
use Rattle.turns.proofs.Fields.{later_record_stays}

-- the one preferred is at a position, or is nobody
one_of : (t : Bool) (k m : ℕ) → k < positions Jobs → m ≤ positions Jobs → cond t k m ≤ positions Jobs
one_of true k m l h = omega arith
one_of false k m l h = h

pub preferred_within : (p : List ℕ) (m k : ℕ) → k < positions Jobs → m ≤ positions Jobs → preferred p m k ≤ positions Jobs
unfolding preferred
preferred_within p m k l h = one_of (ready p k && (eqb m (positions Jobs) || ltb (accumulated p m) (accumulated p k))) k m l h

-- one step of the walk
module _ (p : List ℕ) (m k : ℕ) where
  pub idle_passed : ready p k ≡ false → m ≡ preferred p m k
  unfolding preferred
  idle_passed e = rw e

  pub first_taken : ready p k ≡ true → m ≡ positions Jobs → k ≡ preferred p m k
  unfolding preferred
  first_taken e h = rw (e, eq-eqb m (positions Jobs) h)

  pub more_taken : ready p k ≡ true → m ≢ positions Jobs → accumulated p m < accumulated p k → k ≡ preferred p m k
  unfolding preferred
  more_taken e h l = rw (e, ne_eqb m (positions Jobs) h, lt-ltb (accumulated p m) (accumulated p k) l)

  pub less_passed : ready p k ≡ true → m ≢ positions Jobs → accumulated p k ≤ accumulated p m → m ≡ preferred p m k
  unfolding preferred
  less_passed e h l = rw (e, ne_eqb m (positions Jobs) h, le-ltb (accumulated p m) (accumulated p k) l)

-- the walk that chooses, a position at a time
pub chosen_none : (p : List ℕ) → positions Jobs ≡ chosen_below p 0
unfolding chosen_below
chosen_none p = refl

pub chosen_next : (p : List ℕ) (m k r : ℕ) → m ≡ chosen_below p k → r ≡ preferred p m k → r ≡ chosen_below p (k + 1)
unfolding chosen_below
chosen_next p m k r e f = rw add-one (f ∙ ap (λ (x : ℕ). preferred p x k) e)

-- what each position has accumulated after a pick of the job at m
module _ (p : List ℕ) (m k : ℕ) where
  pub picked_has_none : k ≡ m → accumulated_after p m k ≡ 0
  unfolding accumulated_after
  picked_has_none e = rw (eq-eqb k m e)

  pub idle_keeps : k ≢ m → ready p k ≡ false → accumulated_after p m k ≡ accumulated p k
  unfolding accumulated_after
  idle_keeps h e = rw (ne_eqb k m h, e)

  pub ready_gains : k ≢ m → ready p k ≡ true → accumulated_after p m k ≡ min hold (accumulated p k + priority p k)
  unfolding accumulated_after
  ready_gains h e = rw (ne_eqb k m h, e)

-- what is accumulated after a pick only depends on the record
pub accumulated_after_same : (p q : List ℕ) (m k : ℕ) → ready q k ≡ ready p k → accumulated q k ≡ accumulated p k → priority q k ≡ priority p k → accumulated_after q m k ≡ accumulated_after p m k
unfolding accumulated_after
accumulated_after_same p q m k r a g = rw (r, a, g)

-- the records that the gains have not reached give what they gave
pub gain_ahead : (p q : List ℕ) (m k : ℕ) → q ≡ set_each p accumulated_field (accumulated_after p m) k → accumulated_after q m k ≡ accumulated_after p m k
gain_ahead p q m k e =
    ap (λ (x : List ℕ). accumulated_after x m k) e
    ∙ accumulated_after_same p (set_each p accumulated_field (accumulated_after p m) k) m k
    (ready_same p (set_each p accumulated_field (accumulated_after p m) k) k (same priority_field (omega arith)) (timeout_same p (set_each p accumulated_field (accumulated_after p m) k) k (same timeout_field (omega arith))))
    (same accumulated_field (omega arith))
    (same priority_field (omega arith))
  where
    same : (g : ℕ) → g < width Jobs → field (set_each p accumulated_field (accumulated_after p m) k) Jobs k g ≡ field p Jobs k g
    same g gw = later_record_stays p accumulated_field (accumulated_after p m) (omega arith) k k g gw (omega arith)

-- the whole pick, by its two ways out
module _ (p : List ℕ) (m : ℕ) (e : m ≡ chosen_job p) where
  abbrev pub Leaves : List ℕ → ℕ → ℤ → Type 0
  Leaves q n key = (q ≡ picked p) × (◌≡◌ {A = Picked} (record { number = n; key = key }) (answer p))

  pub nobody_picked : m ≡ positions Jobs → Leaves (put p current_word nobody) nobody done
  unfolding picked picked_number picked_key
  nobody_picked f = rw (← e, eq-eqb m (positions Jobs) f) (refl, refl)

  pub job_picked : m ≢ positions Jobs → Leaves (turn_given p m) (number p Jobs m) (to_z w32 (delivered p m))
  unfolding picked picked_number picked_key
  job_picked f = rw (← e, ne_eqb m (positions Jobs) f) (refl, refl)
