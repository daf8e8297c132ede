-- The walk finds who the rule picks: of the positions seen so far, the one that is ready, has accumulated most, and is lowest on a tie.
use Prim.Native.Nat.{ℕ, zero, suc, ◌<◌, ◌≤◌}
use native.Mathlib.Nat.{eq-or-lt_of_le, le_of_suc-le-suc, not-suc-le-zero}
use native.Mathlib.Decide.{dec_lt}
use native.Mathlib.Omega.{arith}
use mathlib.Core.Path.{◌≡◌, refl, sym, ◌∙◌, subst}
use mathlib.Core.Logic.{◌≢◌, ◌⊎◌, inl, inr, ⊎_elim, by_cases}
use mathlib.Core.Bool.{Bool, true, false, false≢true}
use mathlib.Core.List.{List}
use Rattle.picture.specs.Layout.{positions}
use Rattle.picture.specs.Records.{priority, accumulated, used, ready}
use Rattle.picture.specs.declared.Table.TheVariants.{Jobs}
use Rattle.picture.proofs.Timeout.{ready_has}
use Rattle.turns.specs.Pick.{preferred, chosen_below, chosen_job}
use Rattle.law_picks.specs.Stretch.{Chosen}
use Rattle.turns.proofs.Pick.{idle_passed, first_taken, more_taken, less_passed}

abbrev pub NobodyReady : List ℕ → ℕ → Type 0
NobodyReady p n = (i : ℕ) → i < n → ready p i ≡ true → ⊥

abbrev pub Found : List ℕ → ℕ → ℕ → Type 0
Found p n m = ((m ≡ positions Jobs) × NobodyReady p n) ⊎ Chosen p n m

-- what holds of every position below n, and of n
more : (P : ℕ → Type 0) (n : ℕ) → ((i : ℕ) → i < n → P i) → P n → (i : ℕ) → i < suc n → P i
more P n h here i l = ⊎_elim (λ e. subst P (sym e) here) (λ l'. h i l') (eq-or-lt_of_le (le_of_suc-le-suc l))

module _ (p : List ℕ) (n : ℕ) (small : n < positions Jobs) where
  step_idle : (m : ℕ) → ready p n ≡ false → Found p n m → Found p (suc n) m
  step_idle m e (inl w) = inl (w.0, more (λ (i : ℕ). ready p i ≡ true → ⊥) n w.1 (λ t. false≢true (sym e ∙ t)))
  step_idle m e (inr w) =
      inr
      (record {
        inside = omega (arith, w.inside);
        is_ready = w.is_ready;
        most = more (λ (i : ℕ). ready p i ≡ true → accumulated p i ≤ accumulated p m) n w.most (λ t. absurd (false≢true (sym e ∙ t)));
        lowest = w.lowest;
      })

  step_ready : (m : ℕ) → ready p n ≡ true → Found p n m → Found p (suc n) (preferred p m n)
  step_ready m e (inl w) =
      subst (Found p (suc n)) (first_taken p m n e w.0)
      (inr
      (record {
        inside = omega arith;
        is_ready = e;
        most = more (λ (i : ℕ). ready p i ≡ true → accumulated p i ≤ accumulated p n) n (λ i l t. absurd (w.1 i l t)) (λ t. omega arith);
        lowest = λ i l t. absurd (w.1 i l t);
      }))
  step_ready m e (inr w) = by_cases (dec_lt (accumulated p m) (accumulated p n)) greater less
    where
      ne : m ≢ positions Jobs
      ne = omega (arith, w.inside)

      greater : accumulated p m < accumulated p n → Found p (suc n) (preferred p m n)
      greater l =
          subst (Found p (suc n)) (more_taken p m n e ne l)
          (inr
          (record {
            inside = omega arith;
            is_ready = e;
            most = more (λ (i : ℕ). ready p i ≡ true → accumulated p i ≤ accumulated p n) n (λ i k t. omega (arith, w.most i k t)) (λ t. omega arith);
            lowest = λ i k t. omega (arith, w.most i k t);
          }))

      less : ¬ (accumulated p m < accumulated p n) → Found p (suc n) (preferred p m n)
      less h =
          subst (Found p (suc n)) (less_passed p m n e ne (omega arith))
          (inr
          (record {
            inside = omega (arith, w.inside);
            is_ready = w.is_ready;
            most = more (λ (i : ℕ). ready p i ≡ true → accumulated p i ≤ accumulated p m) n w.most (λ t. omega arith);
            lowest = w.lowest;
          }))

  step : (m : ℕ) → Found p n m → (t : Bool) → ready p n ≡ t → Found p (suc n) (preferred p m n)
  step m f true e = step_ready m e f
  step m f false e = subst (Found p (suc n)) (idle_passed p m n e) (step_idle m e f)

found_below : (p : List ℕ) (n : ℕ) → n ≤ positions Jobs → Found p n (chosen_below p n)
unfolding chosen_below
found_below p zero h = inl (refl, λ i l. absurd (not-suc-le-zero l))
found_below p (suc n) h = step p n h (chosen_below p n) (found_below p n (omega arith)) (ready p n) refl

-- the job chosen is who the rule picks, or nobody is ready
pub chosen_is_who_the_rule_picks : (p : List ℕ) → Found p (positions Jobs) (chosen_job p)
unfolding chosen_job
chosen_is_who_the_rule_picks p = found_below p (positions Jobs) (omega arith)

-- where somebody is ready, the rule picks somebody
pub someone_is_chosen : (p : List ℕ) (j : ℕ) → j < positions Jobs → ready p j ≡ true → Chosen p (positions Jobs) (chosen_job p)
someone_is_chosen p j l e = ⊎_elim (λ w. absurd (w.1 j l e)) (λ w. w) (chosen_is_who_the_rule_picks p)

-- the rule picks at most one position
pub rule_picks_one : (p : List ℕ) (n m k : ℕ) → Chosen p n m → Chosen p n k → m ≡ k
rule_picks_one p n m k a b =
    let x : ¬ (m < k) = λ l. omega (arith, b.lowest m l a.is_ready, a.most k b.inside b.is_ready) in
    let y : ¬ (k < m) = λ l. omega (arith, a.lowest k l b.is_ready, b.most m a.inside a.is_ready) in
    omega arith

-- where unused records have no priority, as in a sound picture, a ready job is at a position in use
pub ready_is_used : (p : List ℕ) (k : ℕ) → (used p Jobs k ≡ false → priority p k ≡ 0) → ready p k ≡ true → used p Jobs k ≡ true
ready_is_used p k h e = by_used (used p Jobs k) refl
  where
    by_used : (b : Bool) → used p Jobs k ≡ b → used p Jobs k ≡ true
    by_used true q = q
    by_used false q = let z = h q in let l = (ready_has p k e).0 in absurd (omega arith)
