-- Laws of specs/Masks.antt: taking a member in or out is seen at that member and at no other.
use Prim.Native.Nat.{ℕ, zero, suc, ◌+◌, ◌-◌, ◌*◌, ◌/◌, ◌%◌, ◌^◌, ◌≤◌, ◌<◌, min}
use mathlib.Core.Path.{◌≡◌, refl, sym, ap, ◌∙◌}
use mathlib.Core.Bool.{Bool, true, false, ◌&&◌, ◌||◌, not, cond}
use mathlib.Core.Logic.{⊎_elim}
use lib.Dec.{eqb}
use lib.Pow.{pow_pos, pow_mono, shl_exact}
use lib.Bits.{bit_and, bit_or, and_mask, and_step, and_shr, or_add_and}
use native.Mathlib.Nat.{pow-suc, pow-succ', div-div-eq-div-mul, mul_comm, one-mul, eq-or-lt_of_le, le_of_suc-le-suc, not-suc-le-zero, div-eq_of_lt}
use native.Mathlib.Numerals.{add-one}
use native.Mathlib.Omega.{arith}
use borrow.Author.Tests.{eqb-true, eqb-false, eq-eqb, ne_eqb}
use Rattle.words.specs.Bits.{bit}
use Rattle.masks.specs.Masks.{set_width, with_bit, without_bit, without, mask}

-- 1 shifted by k
pub one_shifted : (k : ℕ) → k < set_width → (1 * 2 ^ k) % 18446744073709551616 ≡ 2 ^ k
one_shifted k h = shl_exact {a = 1} 1 k set_width (omega arith) (omega arith) ∙ one-mul (2 ^ k)

-- bit k + 1 is bit k of the half
half_bit : (m k : ℕ) → m / 2 ^ suc k ≡ m / 2 / 2 ^ k
half_bit m k = ap (λ (x : ℕ). m / x) (pow-suc 2 k ∙ mul_comm (2 ^ k) 2) ∙ sym (div-div-eq-div-mul m 2 (2 ^ k))

-- adding 2 ^ k to a mask whose bit k is clear
added_here : (k m : ℕ) → m / 2 ^ k % 2 ≡ 0 → (m + 2 ^ k) / 2 ^ k % 2 ≡ 1
added_here zero m h = omega arith
added_here (suc k) m h =
    let q : 2 ^ suc k ≡ 2 ^ k * 2 = pow-suc 2 k in
    let a : (m + 2 ^ suc k) / 2 ≡ m / 2 + 2 ^ k = omega arith in
    rw (half_bit (m + 2 ^ suc k) k, a) (added_here k (m / 2) (rw (half_bit m k) at h))

added_other : (k j m : ℕ) → m / 2 ^ k % 2 ≡ 0 → (j ≡ k → ⊥) → (m + 2 ^ k) / 2 ^ j % 2 ≡ m / 2 ^ j % 2
added_other zero zero m h n = absurd (n refl)
added_other zero (suc j) m h n =
    let a : (m + 1) / 2 ≡ m / 2 = omega arith in
    rw (half_bit (m + 1) j, half_bit m j, a)
added_other (suc k) zero m h n = let q : 2 ^ suc k ≡ 2 ^ k * 2 = pow-suc 2 k in omega arith
added_other (suc k) (suc j) m h n =
    let q : 2 ^ suc k ≡ 2 ^ k * 2 = pow-suc 2 k in
    let a : (m + 2 ^ suc k) / 2 ≡ m / 2 + 2 ^ k = omega arith in
    rw (half_bit (m + 2 ^ suc k) j, half_bit m j, a) (added_other k j (m / 2) (rw (half_bit m k) at h) (λ e. n (ap suc e)))

-- a mask whose bit k is set holds 2 ^ k, and without it the bit is clear
pub held : (k m : ℕ) → m / 2 ^ k % 2 ≡ 1 → (2 ^ k ≤ m) × ((m - 2 ^ k) / 2 ^ k % 2 ≡ 0)
held zero m h = (omega arith, omega arith)
held (suc k) m h =
    let q : 2 ^ suc k ≡ 2 ^ k * 2 = pow-suc 2 k in
    let i = held k (m / 2) (rw (half_bit m k) at h) in
    let l = i.0 in
    let a : (m - 2 ^ suc k) / 2 ≡ m / 2 - 2 ^ k = omega arith in
    (omega arith, rw (half_bit (m - 2 ^ suc k) k, a) i.1)

-- a bit is 0 or 1
pub clear_is : (m k : ℕ) → bit m k ≡ false → m / 2 ^ k % 2 ≡ 0
clear_is m k h = let n = eqb-false (m / 2 ^ k % 2) 1 h in omega arith

pub sum_fits : (w k m : ℕ) → k < w → m < 2 ^ w → m / 2 ^ k % 2 ≡ 0 → m + 2 ^ k < 2 ^ w
sum_fits zero k m l h z = absurd (omega arith)
sum_fits (suc w) zero m l h z = let q : 2 ^ suc w ≡ 2 ^ w * 2 = pow-suc 2 w in omega arith
sum_fits (suc w) (suc k) m l h z =
    let q : 2 ^ suc w ≡ 2 ^ w * 2 = pow-suc 2 w in
    let r : 2 ^ suc k ≡ 2 ^ k * 2 = pow-suc 2 k in
    let i = sum_fits w k (m / 2) (omega arith) (omega arith) (rw (half_bit m k) at z) in
    omega arith

module _ (m k : ℕ) where
  pub with_bit_set : bit m k ≡ true → with_bit m k ≡ m
  unfolding with_bit
  with_bit_set h = rw h

  pub with_bit_added : bit m k ≡ false → with_bit m k ≡ m + 2 ^ k
  unfolding with_bit
  with_bit_added h = rw h

  pub without_bit_clear : bit m k ≡ false → without_bit m k ≡ m
  unfolding without_bit
  without_bit_clear h = rw h

  pub without_bit_taken : bit m k ≡ true → without_bit m k ≡ m - 2 ^ k
  unfolding without_bit
  without_bit_taken h = rw h

  -- the bit is set, every other stays
  pub with_bit_here : bit (with_bit m k) k ≡ true
  with_bit_here = go (bit m k) refl
    where
      go : (b : Bool) → bit m k ≡ b → bit (with_bit m k) k ≡ true
      go true h = ap (λ (x : ℕ). bit x k) (with_bit_set h) ∙ h
      go false h = ap (λ (x : ℕ). bit x k) (with_bit_added h) ∙ eq-eqb _ _ (added_here k m (clear_is m k h))

  pub with_bit_other : (j : ℕ) → (j ≡ k → ⊥) → bit (with_bit m k) j ≡ bit m j
  with_bit_other j n = go (bit m k) refl
    where
      go : (b : Bool) → bit m k ≡ b → bit (with_bit m k) j ≡ bit m j
      go true h = ap (λ (x : ℕ). bit x j) (with_bit_set h)
      go false h = ap (λ (x : ℕ). bit x j) (with_bit_added h) ∙ ap (λ (x : ℕ). eqb x 1) (added_other k j m (clear_is m k h) n)

  -- the bit is clear, every other stays
  pub without_bit_here : bit (without_bit m k) k ≡ false
  without_bit_here = go (bit m k) refl
    where
      go : (b : Bool) → bit m k ≡ b → bit (without_bit m k) k ≡ false
      go true h =
          let e = (held k m (eqb-true _ _ h)).1 in
          ap (λ (x : ℕ). bit x k) (without_bit_taken h) ∙ ne_eqb ((m - 2 ^ k) / 2 ^ k % 2) 1 (λ z. omega arith)
      go false h = ap (λ (x : ℕ). bit x k) (without_bit_clear h) ∙ h

  pub without_bit_other : (j : ℕ) → (j ≡ k → ⊥) → bit (without_bit m k) j ≡ bit m j
  without_bit_other j n = go (bit m k) refl
    where
      go : (b : Bool) → bit m k ≡ b → bit (without_bit m k) j ≡ bit m j
      go true h =
          let e = held k m (eqb-true _ _ h) in
          let l = e.0 in
          let back : m - 2 ^ k + 2 ^ k ≡ m = omega arith in
          ap (λ (x : ℕ). bit x j) (without_bit_taken h)
          ∙ ap (λ (x : ℕ). eqb x 1) (sym (added_other k j (m - 2 ^ k) e.1 n) ∙ ap (λ (x : ℕ). x / 2 ^ j % 2) back)
      go false h = ap (λ (x : ℕ). bit x j) (without_bit_clear h)

  -- both laws in one line each
  pub with_bit_at : (j : ℕ) → bit (with_bit m k) j ≡ eqb j k || bit m j
  with_bit_at j = go (eqb j k) refl
    where
      go : (b : Bool) → eqb j k ≡ b → bit (with_bit m k) j ≡ b || bit m j
      go true e = ap (bit (with_bit m k)) (eqb-true j k e) ∙ with_bit_here
      go false e = with_bit_other j (eqb-false j k e)

  pub without_bit_at : (j : ℕ) → bit (without_bit m k) j ≡ not (eqb j k) && bit m j
  without_bit_at j = go (eqb j k) refl
    where
      go : (b : Bool) → eqb j k ≡ b → bit (without_bit m k) j ≡ not b && bit m j
      go true e = ap (bit (without_bit m k)) (eqb-true j k e) ∙ without_bit_here
      go false e = without_bit_other j (eqb-false j k e)

-- a mask of w bits stays one
pub with_bit_fits : (w m k : ℕ) → k < w → m < 2 ^ w → with_bit m k < 2 ^ w
with_bit_fits w m k l h = go (bit m k) refl
  where
    go : (b : Bool) → bit m k ≡ b → with_bit m k < 2 ^ w
    go true e = rw (with_bit_set m k e) h
    go false e = rw (with_bit_added m k e) (sum_fits w k m l h (clear_is m k e))

pub without_bit_le : (m k : ℕ) → without_bit m k ≤ m
without_bit_le m k = go (bit m k) refl
  where
    go : (b : Bool) → bit m k ≡ b → without_bit m k ≤ m
    go true e = rw (without_bit_taken m k e) (omega arith)
    go false e = rw (without_bit_clear m k e) (omega arith)

-- the set of a test: as many bits as there are positions, and the members are those that pass
pub mask_more : (f : ℕ → Bool) (n : ℕ) → mask f (n + 1) ≡ cond (f n) (with_bit (mask f n) n) (mask f n)
unfolding mask
mask_more f n = rw (add-one n)

pub mask_lt : (f : ℕ → Bool) (n : ℕ) → mask f n < 2 ^ n
unfolding mask
mask_lt f zero = omega arith
mask_lt f (suc n) = go (f n) (let q : 2 ^ suc n ≡ 2 ^ n * 2 = pow-suc 2 n in let l = mask_lt f n in omega arith)
  where
    go : (b : Bool) → mask f n < 2 ^ suc n → cond b (with_bit (mask f n) n) (mask f n) < 2 ^ suc n
    go true l = with_bit_fits (suc n) (mask f n) n (omega arith) l
    go false l = l

pub mask_fits : (f : ℕ → Bool) (n : ℕ) → n ≤ set_width → mask f n < 2 ^ set_width
mask_fits f n l = let q = pow_mono {i = n} {j = set_width} l in omega (arith, mask_lt f n)

beyond : (m k : ℕ) → m < 2 ^ k → bit m k ≡ false
beyond m k l = ap (λ (x : ℕ). eqb (x % 2) 1) (div-eq_of_lt l)

pub mask_bit : (f : ℕ → Bool) (n k : ℕ) → k < n → bit (mask f n) k ≡ f k
unfolding mask
mask_bit f zero k l = absurd (not-suc-le-zero l)
mask_bit f (suc n) k l = ⊎_elim (λ (e : k ≡ n). rw e (here (f n))) (λ h. below h (f n) ∙ mask_bit f n k h) (eq-or-lt_of_le (le_of_suc-le-suc l))
  where
    here : (b : Bool) → bit (cond b (with_bit (mask f n) n) (mask f n)) n ≡ b
    here true = with_bit_here (mask f n) n
    here false = beyond (mask f n) n (mask_lt f n)

    below : k < n → (b : Bool) → bit (cond b (with_bit (mask f n) n) (mask f n)) k ≡ bit (mask f n) k
    below h true = with_bit_other (mask f n) n k (λ e. omega arith)
    below h false = refl

-- the members of n that aren't in m
inverted : (w k m : ℕ) → k < w → m < 2 ^ w → (2 ^ w - 1 - m) / 2 ^ k % 2 ≡ 1 - m / 2 ^ k % 2
inverted zero k m l h = absurd (omega arith)
inverted (suc w) zero m l h =
    let q : 2 ^ suc w ≡ 2 ^ w * 2 = pow-suc 2 w in
    let o = pow_pos w in
    omega arith
inverted (suc w) (suc k) m l h =
    let q : 2 ^ suc w ≡ 2 ^ w * 2 = pow-suc 2 w in
    let o = pow_pos w in
    let half : (2 ^ suc w - 1 - m) / 2 ≡ 2 ^ w - 1 - m / 2 = omega arith in
    let i = inverted w k (m / 2) (omega arith) (omega arith) in
    rw (pow-succ' 2 k, ← div-div-eq-div-mul (2 ^ suc w - 1 - m) 2 (2 ^ k), ← div-div-eq-div-mul m 2 (2 ^ k), half) i

pub without_at : (n m k : ℕ) → k < set_width → m < 2 ^ set_width → bit (without n m) k ≡ not (bit m k) && bit n k
unfolding without
without_at n m k l h =
    let c : (2 ^ set_width - 1 - m) / 2 ^ k % 2 ≡ 1 - m / 2 ^ k % 2 = inverted set_width k m l h in
    let s = and_step (n / 2 ^ k) ((2 ^ set_width - 1 - m) / 2 ^ k) in
    rw (and_shr n (2 ^ set_width - 1 - m) k) (go (eqb (m / 2 ^ k % 2) 1) refl ((2 ^ set_width - 1 - m) / 2 ^ k) c s)
  where
    go : (b : Bool) → bit m k ≡ b → (i : ℕ) → i % 2 ≡ 1 - m / 2 ^ k % 2
        → bit_and (n / 2 ^ k) i ≡ bit_and (n / 2 ^ k / 2) (i / 2) * 2 + min (n / 2 ^ k % 2) (i % 2)
        → eqb (bit_and (n / 2 ^ k) i % 2) 1 ≡ not b && bit n k
    go true z i c s = let y = eqb-true (m / 2 ^ k % 2) 1 z in ne_eqb (bit_and (n / 2 ^ k) i % 2) 1 (λ e. omega arith)
    go false z i c s =
        let y = eqb-false (m / 2 ^ k % 2) 1 z in
        let x : bit_and (n / 2 ^ k) i % 2 ≡ n / 2 ^ k % 2 = omega arith in
        rw x

-- of the set whose one member is k, m has what m has of k
shared : (k m : ℕ) → bit_and m (2 ^ k) ≡ cond (bit m k) (2 ^ k) 0
shared zero m = and_mask m 1 ∙ go (bit m 0) refl
  where
    go : (b : Bool) → bit m 0 ≡ b → m % 2 ≡ cond b 1 0
    go true e = let z = eqb-true (m / 1 % 2) 1 e in omega arith
    go false e = let z = clear_is m 0 e in omega arith
shared (suc k) m =
    let q : 2 ^ suc k ≡ 2 ^ k * 2 = pow-suc 2 k in
    let half : 2 ^ suc k / 2 ≡ 2 ^ k = omega arith in
    let even : 2 ^ suc k % 2 ≡ 0 = omega arith in
    let b : bit m (suc k) ≡ bit (m / 2) k = ap (λ (x : ℕ). eqb (x % 2) 1) (half_bit m k) in
    let s : bit_and m (2 ^ suc k) ≡ bit_and (m / 2) (2 ^ k) * 2 + min (m % 2) 0 = rw (half, even) at (and_step m (2 ^ suc k)) in
    rw (s, shared k (m / 2), b) (go q (bit (m / 2) k))
  where
    go : 2 ^ suc k ≡ 2 ^ k * 2 → (b : Bool) → cond b (2 ^ k) 0 * 2 + min (m % 2) 0 ≡ cond b (2 ^ suc k) 0
    go q true = omega arith
    go q false = omega arith

-- what m has of a set and of the others is all of m
digit : (x y : ℕ) → x < 2 → y < 2 → min x (1 - y) + min x y ≡ x
digit x y l h = omega arith

halves : (m x y a b c d : ℕ) → x ≡ a * 2 + c → y ≡ b * 2 + d → a + b ≡ m / 2 → c + d ≡ m % 2 → x + y ≡ m
halves m x y a b c d e f g h = omega arith

parted : (w m n : ℕ) → m < 2 ^ w → n < 2 ^ w → bit_and m (2 ^ w - 1 - n) + bit_and m n ≡ m
parted zero m n l h = let z : m ≡ 0 = omega arith in rw z
parted (suc w) m n l h =
    let q : 2 ^ suc w ≡ 2 ^ w * 2 = pow-suc 2 w in
    let o = pow_pos w in
    let half : (2 ^ suc w - 1 - n) / 2 ≡ 2 ^ w - 1 - n / 2 = omega arith in
    let low : (2 ^ suc w - 1 - n) % 2 ≡ 1 - n % 2 = omega arith in
    halves m _ _ _ _ _ _ (rw (half, low) at (and_step m (2 ^ suc w - 1 - n))) (and_step m n)
    (parted w (m / 2) (n / 2) (omega arith) (omega arith))
    (digit (m % 2) (n % 2) (omega arith) (omega arith))

-- a member is taken in and out by one step on all bits
pub with_bit_is : (m k : ℕ) → bit_or m (2 ^ k) ≡ with_bit m k
with_bit_is m k = go (bit m k) refl (rw (shared k m) at (or_add_and m (2 ^ k)))
  where
    go : (b : Bool) → bit m k ≡ b → bit_or m (2 ^ k) + cond (bit m k) (2 ^ k) 0 ≡ m + 2 ^ k → bit_or m (2 ^ k) ≡ with_bit m k
    go true e s = let r = rw e at s in omega arith ∙ sym (with_bit_set m k e)
    go false e s = let r = rw e at s in omega arith ∙ sym (with_bit_added m k e)

pub without_bit_is : (m k : ℕ) → k < set_width → m < 2 ^ set_width → without m (2 ^ k) ≡ without_bit m k
unfolding without
without_bit_is m k l h = go (bit m k) refl (rw (shared k m) at (parted set_width m (2 ^ k) h (pow_lt l)))
  where
    pow_lt : k < set_width → 2 ^ k < 2 ^ set_width
    pow_lt l = let q = pow_mono {i = suc k} {j = set_width} l in let r : 2 ^ suc k ≡ 2 ^ k * 2 = pow-suc 2 k in let o = pow_pos k in omega arith

    go : (b : Bool) → bit m k ≡ b → bit_and m (2 ^ set_width - 1 - 2 ^ k) + cond (bit m k) (2 ^ k) 0 ≡ m → bit_and m (2 ^ set_width - 1 - 2 ^ k) ≡ without_bit m k
    go true e s = let r = rw e at s in omega arith ∙ sym (without_bit_taken m k e)
    go false e s = let r = rw e at s in omega arith ∙ sym (without_bit_clear m k e)
