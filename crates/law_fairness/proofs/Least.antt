-- The law's figures are the least. All others gain g, and are picked round and round: when the one at m is picked, it has waited for all
-- others, and has accumulated g * (n - 2). So the last job is passed for as long as it has no more. Assumes nothing.
use mathlib.Core.Path.{◌≡◌, refl, ap, ◌∙◌}
use mathlib.Core.Bool.{cond}
use mathlib.Core.Logic.{◌≢◌, ◌⊎◌, inl, inr, ⊎_elim, by_cases}
use mathlib.Core.List.Memᴰ
use mathlib.Core.List.{List, [], ◌∷◌, Memᴰ}
use Prim.Native.Nat.{ℕ, zero, suc, ◌+◌, ◌*◌, ◌-◌, ◌/◌, ◌≤◌, ◌<◌, min}
use native.Mathlib.Nat.{le-div_iff_mul-le, mul-le-mul_left, mul-suc, suc-mul}
use native.Mathlib.Decide.{ℕ_discrete, dec_lt}
use native.Mathlib.Omega.{arith}
use lib.Dec.{ltb, eqb}
use lib.ListN.{length}
use borrow.Author.Tests.{lt-ltb, le-ltb, eq-eqb, ne_eqb}
use Rattle.law_fairness.specs.Turns.{Turn, Turns, none, turn}
use Rattle.law_fairness.specs.Law.{CanWait, LeastFigure, LeastHold}

-- how many picks position i has waited when m is next, of r that are picked round and round
waited : ℕ → ℕ → ℕ → ℕ
waited r m i = cond (ltb i m) (m - 1 - i) (r - 1 - (i - m))

-- who is next after m
next : ℕ → ℕ → ℕ
next r m = cond (eqb (m + 1) r) 0 (m + 1)

module _ (r m i : ℕ) where
  waited_low : i < m → waited r m i ≡ m - 1 - i
  unfolding waited
  waited_low l = rw (lt-ltb i m l)

  waited_high : m ≤ i → waited r m i ≡ r - 1 - (i - m)
  unfolding waited
  waited_high l = rw (le-ltb i m l)

module _ (r m : ℕ) (mr : m < r) where
  next_is : ((m + 1 ≡ r) × (next r m ≡ 0)) ⊎ ((m + 1 < r) × (next r m ≡ m + 1))
  unfolding next
  next_is = by_cases (ℕ_discrete (m + 1) r) (λ e. inl (e, rw (eq-eqb (m + 1) r e))) (λ ne. inr (omega arith, rw (ne_eqb (m + 1) r ne)))

  next_inside : next r m < r
  next_inside = ⊎_elim (λ w. omega (arith, w.1)) (λ w. omega (arith, w.0, w.1)) next_is

  waited_at : waited r m m ≡ r - 1
  waited_at = omega (arith, waited_high r m m (omega arith))

  waited_within : (i : ℕ) → i < r → waited r m i ≤ r - 1
  waited_within i l = by_cases (dec_lt i m) (λ a. omega (arith, waited_low r m i a)) (λ a. omega (arith, waited_high r m i (omega arith)))

  -- the one picked has waited for none, and any other for one more
  waited_none : waited r (next r m) m ≡ 0
  waited_none =
      ⊎_elim
      (λ w. omega (arith, w.0, w.1, waited_high r (next r m) m (omega (arith, w.1))))
      (λ w. omega (arith, w.0, w.1, waited_low r (next r m) m (omega (arith, w.1))))
      next_is

  waited_more : (i : ℕ) → i < r → i ≢ m → waited r (next r m) i ≡ suc (waited r m i)
  waited_more i l ne =
      by_cases (dec_lt i m)
      (λ a.
      ⊎_elim
      (λ w. omega (arith, w.0, w.1, waited_high r (next r m) i (omega (arith, w.1)), waited_low r m i a))
      (λ w. omega (arith, w.0, w.1, waited_low r (next r m) i (omega (arith, w.1)), waited_low r m i a))
      next_is)
      (λ a.
      ⊎_elim
      (λ w. absurd (omega (arith, w.0)))
      (λ w. omega (arith, w.0, w.1, waited_high r (next r m) i (omega (arith, w.1)), waited_high r m i (omega arith)))
      next_is)

-- what each position has accumulated: the r others g for each pick that they waited, the last x
shares : ℕ → ℕ → ℕ → ℕ → ℕ → ℕ
shares r g x m i = cond (ltb i r) (g * waited r m i) x

module _ (r g x m i : ℕ) where
  share_of : i < r → shares r g x m i ≡ g * waited r m i
  unfolding shares
  share_of l = rw (lt-ltb i r l)

  share_last : r ≤ i → shares r g x m i ≡ x
  unfolding shares
  share_last l = rw (le-ltb i r l)

module _ (n g h p : ℕ) (two : 2 ≤ n) where
  -- a pick that passes the last job, which has accumulated x before and y after it
  passed : (m x y : ℕ) → m < n - 1 → x ≤ g * (n - 2) → min h (x + p) ≤ y → Turn n g h (n - 1) p (shares (n - 1) g x m) m (shares (n - 1) g y (next (n - 1) m))
  passed m x y mr low gain =
      record {
        inside = omega arith;
        most = λ i l. by_cases (dec_lt i (n - 1)) (λ a. omega (arith, share_of (n - 1) g x m i a, top, mul-le-mul_left g (waited_within (n - 1) m mr i a), same)) (λ a. omega (arith, share_last (n - 1) g x m i (omega arith), top, same));
        spent = λ ne. share_of (n - 1) g y (next (n - 1) m) m mr ∙ ap (λ (w : ℕ). g * w) (waited_none (n - 1) m mr) ∙ zero_of;
        gains = λ i l ij im. let a : i < n - 1 = omega arith in omega (arith, share_of (n - 1) g x m i a, share_of (n - 1) g y (next (n - 1) m) i a, ap (λ (w : ℕ). g * w) (waited_more (n - 1) m mr i a im), mul-suc g (waited (n - 1) m i));
        ours = λ ne. omega (arith, share_last (n - 1) g x m (n - 1) (omega arith), share_last (n - 1) g y (next (n - 1) m) (n - 1) (omega arith));
      }
    where
      zero_of : g * 0 ≡ 0
      zero_of = omega arith

      top : shares (n - 1) g x m m ≡ g * (n - 1 - 1)
      top = share_of (n - 1) g x m m mr ∙ ap (λ (w : ℕ). g * w) (waited_at (n - 1) m mr)

      same : g * (n - 1 - 1) ≡ g * (n - 2)
      same = let e : n - 1 - 1 ≡ n - 2 = omega arith in ap (λ (w : ℕ). g * w) e

  -- w picks round and round from m on
  round : ℕ → ℕ → List ℕ
  round zero m = []
  round (suc w) m = m ∷ round w (next (n - 1) m)

  round_length : (w m : ℕ) → length (round w m) ≡ w
  unfolding round
  round_length zero m = refl
  round_length (suc w) m = ap suc (round_length w (next (n - 1) m))

  last_passed : (w m : ℕ) → m < n - 1 → Memᴰ (n - 1) (round w m) → ⊥
  unfolding round
  last_passed zero m l x = Memᴰ.not-nil x
  last_passed (suc w) m l x =
      ⊎_elim (λ e. omega arith) (λ y. last_passed w (next (n - 1) m) (next_inside (n - 1) m l) y) (Memᴰ.cases_cons x)

  rounds : (w m s : ℕ) → m < n - 1 → ((t : ℕ) → t < s + w → min h (t * p) ≤ g * (n - 2)) → Turns n g h (n - 1) p (shares (n - 1) g (min h (s * p)) m) (round w m)
  unfolding round
  rounds zero m s l low = none
  rounds (suc w) m s l low =
      turn (passed m (min h (s * p)) (min h (suc s * p)) l (low s (omega arith)) (omega (arith, suc-mul s p)))
      (rounds w (next (n - 1) m) (suc s) (next_inside (n - 1) m l) (λ t k. low t (omega arith)))

  waits : (w : ℕ) → ((t : ℕ) → t < w → min h (t * p) ≤ g * (n - 2)) → CanWait n g h p w
  waits w low = (shares (n - 1) g (min h (0 * p)) 0, round w 0, rounds w 0 0 (omega arith) (λ t l. low t (omega arith)), round_length w 0, last_passed w 0 (omega arith))

pub least_figure : LeastFigure
least_figure n g h p two p0 = waits n g h p two (1 + g * (n - 2) / p) (λ t l. omega (arith, within t l))
  where
    within : (t : ℕ) → t < 1 + g * (n - 2) / p → t * p ≤ g * (n - 2)
    within t l = let a : t ≤ g * (n - 2) / p = omega arith in (le-div_iff_mul-le p0).0 a

pub least_hold : LeastHold
least_hold n g h p two low w = waits n g h p two w (λ t l. omega arith)
