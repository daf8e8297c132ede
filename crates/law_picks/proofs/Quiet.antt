-- What is quiet for a job, and what keeps it standing: the forms in which a call shows it.
use Prim.Native.Nat.{ℕ, ◌+◌, ◌<◌}
use native.Mathlib.Decide.{ℕ_discrete}
use native.Mathlib.Omega.{arith}
use mathlib.Core.Path.{◌≡◌, sym, ◌∙◌, ap}
use mathlib.Core.Logic.{◌≢◌, ◌⊎◌, ⊎_elim, by_cases}
use mathlib.Core.List.{List}
use lib.ListN.{length}
use lib.Seq.{get_or-set_same, get_or-set_other}
use Rattle.words.specs.Words.{put}
use Rattle.picture.specs.Layout.{positions}
use Rattle.picture.specs.Records.{slot, number, priority, accumulated, timeout, accumulated_field}
use Rattle.picture.specs.declared.Table.TheVariants.{Jobs}
use Rattle.law_picks.specs.Stretch.{Stands, Quiet, Stretch, quiet}
use Rattle.turns.specs.Tick.{ticked}
use Rattle.picture.proofs.Timeout.{ready_same}
use Rattle.turns.proofs.Tick.{tick_keeps_accumulated}

-- what is quiet: nothing, and one quiet thing after another
pub nothing_is_quiet : (j : ℕ) (p : List ℕ) → Quiet j p p
nothing_is_quiet j p = record { own = omega arith; others = λ i l ne. omega arith }

pub quiet_after_quiet : (j : ℕ) (p q r : List ℕ) → Quiet j p q → Quiet j q r → Quiet j p r
quiet_after_quiet j p q r a b = record { own = omega (arith, a.own, b.own); others = λ i l ne. omega (arith, a.others i l ne, b.others i l ne) }

-- what is quiet: each other job's accumulated is kept or cleared, and the job's own is kept
pub kept_or_cleared_is_quiet : (j : ℕ) (p q : List ℕ) → accumulated q j ≡ accumulated p j → ((i : ℕ) → i < positions Jobs → i ≢ j → (accumulated q i ≡ accumulated p i) ⊎ (accumulated q i ≡ 0)) → Quiet j p q
kept_or_cleared_is_quiet j p q own others =
    record { own = omega arith; others = λ i l ne. ⊎_elim (λ e. omega arith) (λ e. omega arith) (others i l ne) }

-- what is quiet: every accumulated is kept
pub kept_is_quiet : (j : ℕ) (p q : List ℕ) → ((i : ℕ) → accumulated q i ≡ accumulated p i) → Quiet j p q
kept_is_quiet j p q same = record { own = omega (arith, same j); others = λ i l ne. omega (arith, same i) }

-- what is quiet: a store to a longword that is no accumulated
pub store_elsewhere_is_quiet : (j : ℕ) (p : List ℕ) (at v : ℕ) → ((i : ℕ) → at ≢ slot Jobs i + accumulated_field) → Quiet j p (put p at v)
store_elsewhere_is_quiet j p at v h = kept_is_quiet j p (put p at v) (λ i. get_or-set_other p at (slot Jobs i + accumulated_field) v 0 (λ e. h i (sym e)))

-- what is quiet: another job's accumulated is cleared
pub clearing_another_is_quiet : (j k : ℕ) (p : List ℕ) → k ≢ j → slot Jobs k + accumulated_field < length p → Quiet j p (put p (slot Jobs k + accumulated_field) 0)
clearing_another_is_quiet j k p ne l =
    record {
      own = omega (arith, other j (λ e. ne (sym e)));
      others = λ i m ij. by_cases (ℕ_discrete i k) (λ e. omega (arith, ap (accumulated cleared) e, own)) (λ ik. omega (arith, other i ik));
    }
  where
    cleared : List ℕ
    cleared = put p (slot Jobs k + accumulated_field) 0

    own : accumulated (put p (slot Jobs k + accumulated_field) 0) k ≡ 0
    own = get_or-set_same p (slot Jobs k + accumulated_field) 0 0 l

    other : (i : ℕ) → i ≢ k → accumulated (put p (slot Jobs k + accumulated_field) 0) i ≡ accumulated p i
    other i ik = get_or-set_other p (slot Jobs k + accumulated_field) (slot Jobs i + accumulated_field) 0 0 (λ e. ik (omega arith))

-- the job stands as long as its number, priority and timeout are kept
pub kept_record_stands : (n j g : ℕ) (p q : List ℕ) → number q Jobs j ≡ number p Jobs j → priority q j ≡ priority p j → timeout q j ≡ timeout p j → Stands n j g p → Stands n j g q
kept_record_stands n j g p q a b c s = record { names = a ∙ s.names; is_ready = ready_same p q j b c ∙ s.is_ready; at = b ∙ s.at }

-- a tick is quiet for every job
pub tick_is_quiet : (j : ℕ) (p : List ℕ) → Quiet j p (ticked p)
tick_is_quiet j p = kept_is_quiet j p (ticked p) (tick_keeps_accumulated p)

-- so ticks may stand anywhere in a stretch
pub tick_in_a_stretch : {n j g : ℕ} {p numbers : List ℕ} → Stretch n j g (ticked p) numbers → Stretch n j g p numbers
tick_in_a_stretch {j = j} {p = p} rest = quiet (tick_is_quiet j p) rest
