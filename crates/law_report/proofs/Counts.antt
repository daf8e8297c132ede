-- Counts of two tests that differ at one number alone.
use Prim.Native.Nat.{ℕ, zero, suc, ◌<◌, ◌≤◌}
use mathlib.Core.Path.{◌≡◌, sym, ap, ◌∙◌}
use mathlib.Core.Bool.{Bool, true, false}
use mathlib.Core.Logic.{⊎_elim}
use native.Mathlib.Omega.{arith}
use native.Mathlib.Nat.{eq-or-lt_of_le, le_of_suc-le-suc, not-suc-le-zero}
use Rattle.words.specs.Each.{one, count}
use Rattle.words.proofs.Each.{sum_same}

module _ (f g : ℕ → Bool) (m : ℕ) where
  -- below that number they count the same
  count_below : (n : ℕ) → n ≤ m → ((k : ℕ) → k < n → (k ≡ m → ⊥) → f k ≡ g k) → count f n ≡ count g n
  count_below n l h = sum_same (λ (k : ℕ). one (f k)) (λ (k : ℕ). one (g k)) n (λ k j. ap one (h k j (λ z. omega arith)))

  -- past it the one that passes there counts one more
  pub count_past : (n : ℕ) → m < n → f m ≡ true → g m ≡ false → ((k : ℕ) → k < n → (k ≡ m → ⊥) → f k ≡ g k) → count f n ≡ suc (count g n)
  count_past zero l a b h = absurd (not-suc-le-zero l)
  count_past (suc n) l a b h = ⊎_elim
      (λ (e : m ≡ n).
      let x : one (f n) ≡ 1 = ap one (ap f (sym e) ∙ a) in
      let y : one (g n) ≡ 0 = ap one (ap g (sym e) ∙ b) in
      let r = count_below n (omega arith) (λ k j. h k (omega arith)) in
      omega arith)
      (λ (j : m < n).
      let e : one (f n) ≡ one (g n) = ap one (h n (omega arith) (λ z. omega arith)) in
      let r = count_past n j a b (λ k i. h k (omega arith)) in
      omega arith)
      (eq-or-lt_of_le (le_of_suc-le-suc l))
