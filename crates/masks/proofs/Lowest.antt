-- The lowest position that isn't a member: the trailing zeros of the inverted mask.
use Prim.Native.Nat.{ℕ, zero, suc, ◌-◌, ◌*◌, ◌/◌, ◌%◌, ◌^◌, ◌≤◌, ◌<◌}
use mathlib.Core.Path.{◌≡◌, refl, sym, ap, ◌∙◌}
use mathlib.Core.Bool.{Bool, true, false, cond}
use lib.Count.{count_trailing_zeros, under}
use lib.Dec.{eqb}
use lib.Pow.{pow_pos}
use native.Mathlib.Nat.{pow-suc, div-div-eq-div-mul, mul_comm, not-suc-le-zero, le_of_suc-le-suc}
use native.Mathlib.Omega.{arith}
use borrow.Author.Tests.{eqb-true, eqb-false, eq-eqb, ne_eqb}
use Rattle.words.specs.Bits.{bit}
use Rattle.masks.specs.Masks.{lowest_clear}

-- the zeros at the low end of the complement are the ones at the low end of m
pub complement : (k m : ℕ) → m < 2 ^ k → count_trailing_zeros k ((2 ^ k - 1) - m) ≡ lowest_clear k m
unfolding count_trailing_zeros lowest_clear
complement zero m h = refl
complement (suc k) m h =
    let q : 2 ^ suc k ≡ 2 ^ k * 2 = pow-suc 2 k in
    let o = pow_pos k in
    let even : (2 ^ suc k - 1 - m) / 2 ≡ 2 ^ k - 1 - m / 2 = omega arith in
    let ih = complement k (m / 2) (omega arith) in
    go q o even ih (eqb (m % 2) 0) refl
  where
    go : 2 ^ suc k ≡ 2 ^ k * 2 → 0 < 2 ^ k → (2 ^ suc k - 1 - m) / 2 ≡ 2 ^ k - 1 - m / 2 → count_trailing_zeros k (2 ^ k - 1 - m / 2) ≡ lowest_clear k (m / 2) → (t : Bool) → eqb (m % 2) 0 ≡ t
        → under ((2 ^ suc k - 1 - m) % 2) (count_trailing_zeros k ((2 ^ suc k - 1 - m) / 2)) ≡ cond (eqb (m % 2) 0) 0 (suc (lowest_clear k (m / 2)))
    go q o e ih true z =
        let a = eqb-true (m % 2) 0 z in
        let w : (2 ^ suc k - 1 - m) % 2 ≡ 1 = omega arith in
        rw (w, z)
    go q o e ih false z =
        let a = eqb-false (m % 2) 0 z in
        let w : (2 ^ suc k - 1 - m) % 2 ≡ 0 = omega arith in
        rw (w, z, e) (ap suc ih)

-- what the lowest clear bit is: those below it are set, and it is clear
pub record Lowest (n m r : ℕ) : Type 0 where
  pub within : r ≤ n
  pub used : (k : ℕ) → k < r → bit m k ≡ true
  pub free : r < n → bit m r ≡ false

half_bit : (m j : ℕ) → bit m (suc j) ≡ bit (m / 2) j
half_bit m j = ap (λ (x : ℕ). eqb (m / x % 2) 1) (pow-suc 2 j ∙ mul_comm (2 ^ j) 2) ∙ ap (λ (x : ℕ). eqb (x % 2) 1) (sym (div-div-eq-div-mul m 2 (2 ^ j)))

low_bit : (m : ℕ) → bit m 0 ≡ eqb (m % 2) 1
low_bit m = let z : m / 1 % 2 ≡ m % 2 = omega arith in ap (λ (x : ℕ). eqb x 1) z

pub lowest_clear_is : (n m : ℕ) → Lowest n m (lowest_clear n m)
unfolding lowest_clear
lowest_clear_is zero m = record { within = omega arith; used = λ k l. absurd (not-suc-le-zero l); free = λ l. absurd (not-suc-le-zero l) }
lowest_clear_is (suc n) m = go (eqb (m % 2) 0) refl (lowest_clear_is n (m / 2))
  where
    go : (t : Bool) → eqb (m % 2) 0 ≡ t → Lowest n (m / 2) (lowest_clear n (m / 2)) → Lowest (suc n) m (cond t 0 (suc (lowest_clear n (m / 2))))
    go true z r =
        let e = eqb-true (m % 2) 0 z in
        record { within = omega arith; used = λ k l. absurd (not-suc-le-zero l); free = λ l. low_bit m ∙ ne_eqb (m % 2) 1 (λ q. omega arith) }
    go false z r =
        let e = eqb-false (m % 2) 0 z in
        let o : m % 2 ≡ 1 = omega arith in
        record {
          within = omega (arith, r.within);
          used = elim [ zero ↦ λ l. low_bit m ∙ eq-eqb (m % 2) 1 o | suc j ↦ λ l. half_bit m j ∙ r.used j (le_of_suc-le-suc l) ];
          free = λ l. half_bit m (lowest_clear n (m / 2)) ∙ r.free (le_of_suc-le-suc l);
        }

-- a mask of n bits has its lowest clear bit among n, or is followed by a clear one
pub lowest_clear_within : (n m : ℕ) (w : ℕ) → n ≤ w → m < 2 ^ n → lowest_clear w m ≡ lowest_clear n m
unfolding lowest_clear
lowest_clear_within zero m zero l h = refl
lowest_clear_within zero m (suc w) l h = let z : m % 2 ≡ 0 = omega arith in rw z
lowest_clear_within (suc n) m zero l h = absurd (omega arith)
lowest_clear_within (suc n) m (suc w) l h =
    let q : 2 ^ suc n ≡ 2 ^ n * 2 = pow-suc 2 n in
    let ih = lowest_clear_within n (m / 2) w (omega arith) (omega arith) in
    ap (λ (x : ℕ). cond (eqb (m % 2) 0) 0 (suc x)) ih
