-- Laws of specs/Tick.antt: what a tick changes.
use Prim.Native.Nat.{ℕ, zero, suc, ◌+◌, ◌-◌, ◌<◌, ◌≤◌, ◌^◌}
use native.Mathlib.Omega.{arith}
use mathlib.Core.Path.{◌≡◌, refl, sym, ap, subst}
use mathlib.Core.Bool.{true, false, true≢false, false≢true}
use mathlib.Core.Logic.{◌≢◌, ◌⊎◌, inl, inr}
use mathlib.Core.List.{List}
use lib.IntN.{ℤ, pos, negsuc, nat_abs, ◌-ℤ◌}
use lib.ListN.{length}
use lib.Signed.{le_z, non_neg}
use borrow.Author.Tests.{le-leb, le-ltb, leb-true}
use mir.Syntax.{w32}
use mir.Val.{SFits}
use Rattle.words.specs.Words.{word}
use Rattle.words.specs.Signed.{bits}
use Rattle.words.proofs.Signed.{signed_fits}
use Rattle.picture.specs.Layout.{positions, width, first_record, greatest_timeout}
use Rattle.picture.specs.Records.{slot, field, number, priority, accumulated, timeout, accumulated_field, number_field, priority_field, timeout_field}
use Rattle.picture.specs.declared.Table.TheVariants.{Jobs}
use Rattle.picture.proofs.Timeout.{Timely, timeout_stored}
use Rattle.turns.specs.Tick.{fallen, ticked}
use Rattle.turns.proofs.Fields.{length_set_each, set_each_other, set_each_at, other_field_stays}

-- 0 and a negative timeout stay, a positive one falls by 1
pub none_stays : (t : ℤ) → t ≡ pos 0 → fallen t ≡ t
unfolding fallen
none_stays t e = subst (λ (z : ℤ). fallen z ≡ z) (sym e) refl

pub negative_stays : (t : ℤ) (n : ℕ) → t ≡ negsuc n → fallen t ≡ t
unfolding fallen
negative_stays t n e = subst (λ (z : ℤ). fallen z ≡ z) (sym e) refl

pub positive_falls : (t : ℤ) (n : ℕ) → t ≡ pos (suc n) → fallen t ≡ pos n
unfolding fallen
positive_falls t n e = rw e

-- the same, by the code's test and its subtraction
pub at_most_zero : (t : ℤ) → le_z t (pos 0) ≡ true → t ≡ fallen t
unfolding fallen
at_most_zero (pos zero) e = refl
at_most_zero (pos (suc n)) e = absurd (let l : suc n ≤ 0 = leb-true (suc n) 0 e in omega arith)
at_most_zero (negsuc n) e = refl

pub above_zero : (t : ℤ) → le_z t (pos 0) ≡ false → t -ℤ pos 1 ≡ fallen t
unfolding fallen
above_zero (pos zero) e = absurd (true≢false e)
above_zero (pos (suc n)) e = let z : suc n - 1 ≡ n = omega arith in rw (le-ltb (suc n) 1 (omega arith)) (ap pos z)
above_zero (negsuc n) e = absurd (true≢false e)

-- a timeout that is none afterwards was none, or had one frame left
pub ran_out : (t : ℤ) → fallen t ≡ pos 0 → (t ≡ pos 0) ⊎ (t ≡ pos 1)
unfolding fallen
ran_out (pos zero) e = inl refl
ran_out (pos (suc n)) e = inr (ap (λ (m : ℕ). pos (suc m)) (ap nat_abs e))
ran_out (negsuc n) e = absurd (false≢true (ap non_neg e))

-- a timeout that may stand in a record stays so
pub timely_falls : (t : ℤ) → Timely t → Timely (fallen t)
unfolding fallen
timely_falls (pos zero) h = h
timely_falls (pos (suc n)) h = (refl, le-leb n greatest_timeout (let l : suc n ≤ greatest_timeout = leb-true (suc n) greatest_timeout h.1 in omega arith))
timely_falls (negsuc n) h = h

pub fallen_fits : (t : ℤ) → SFits w32 t → SFits w32 (fallen t)
unfolding fallen
fallen_fits (pos zero) f = f
fallen_fits (pos (suc n)) f = let l : suc n < 2 ^ 31 = f.sfits in record { sfits = omega arith }
fallen_fits (negsuc n) f = f

-- what a tick makes of p
pub record Ticked (p q : List ℕ) : Type 0 where
  pub long : length q ≡ length p
  pub falls : (k : ℕ) → k < positions Jobs → timeout q k ≡ fallen (timeout p k)
  pub other_fields : (k f : ℕ) → f < width Jobs → f ≢ timeout_field → field q Jobs k f ≡ field p Jobs k f
  pub elsewhere : (i : ℕ) → ((k : ℕ) → k < positions Jobs → i ≢ slot Jobs k + timeout_field) → word q i ≡ word p i

module _ (p : List ℕ) where
  after : ℕ → ℕ
  after k = bits (fallen (timeout p k))

  -- on any picture a tick changes nothing but timeouts
  pub tick_changes_only : (i : ℕ) → ((k : ℕ) → k < positions Jobs → i ≢ slot Jobs k + timeout_field) → word (ticked p) i ≡ word p i
  unfolding ticked after
  tick_changes_only = set_each_other p timeout_field after (positions Jobs)

  -- so it keeps longwords 0 to 7, and all behind the job records
  pub tick_keeps_the_head : (i : ℕ) → i < first_record Jobs → word (ticked p) i ≡ word p i
  tick_keeps_the_head i l = tick_changes_only i (λ k m e. omega arith)

  pub tick_keeps_the_rest : (i : ℕ) → slot Jobs (positions Jobs) ≤ i → word (ticked p) i ≡ word p i
  tick_keeps_the_rest i l = tick_changes_only i (λ k m e. omega arith)

  pub tick_keeps_the_length : length (ticked p) ≡ length p
  unfolding ticked after
  tick_keeps_the_length = length_set_each p timeout_field after (positions Jobs)

  -- every field but the timeout is kept
  pub tick_keeps_other_fields : (k f : ℕ) → f < width Jobs → f ≢ timeout_field → field (ticked p) Jobs k f ≡ field p Jobs k f
  unfolding ticked after
  tick_keeps_other_fields = other_field_stays p timeout_field after (omega arith) (positions Jobs)

  pub tick_keeps_the_number : (k : ℕ) → number (ticked p) Jobs k ≡ number p Jobs k
  tick_keeps_the_number k = tick_keeps_other_fields k number_field (omega arith) (omega arith)

  pub tick_keeps_the_priority : (k : ℕ) → priority (ticked p) k ≡ priority p k
  tick_keeps_the_priority k = tick_keeps_other_fields k priority_field (omega arith) (omega arith)

  pub tick_keeps_accumulated : (k : ℕ) → accumulated (ticked p) k ≡ accumulated p k
  tick_keeps_accumulated k = tick_keeps_other_fields k accumulated_field (omega arith) (omega arith)

  -- every timeout falls, where all job records are there
  pub tick_lets_timeouts_fall : slot Jobs (positions Jobs) ≤ length p → Ticked p (ticked p)
  unfolding ticked after
  tick_lets_timeouts_fall whole =
      record {
        long = tick_keeps_the_length;
        falls = λ k l. timeout_stored (ticked p) k (fallen (timeout p k)) (fallen_fits (timeout p k) (signed_fits (field p Jobs k timeout_field))) (set_each_at p timeout_field after (omega arith) (positions Jobs) k l whole);
        other_fields = tick_keeps_other_fields;
        elsewhere = tick_changes_only;
      }
