-- Laws of digits and numbers as they are read. Assumes nothing.
use mathlib.Core.Path.{◌≡◌, refl, sym, ap, ◌∙◌}
use mathlib.Core.Bool.{Bool, true, false, false≢true, ◌&&◌}
use mathlib.Core.List.{List, [], ◌∷◌, map}
use Prim.Native.Nat.{ℕ, zero, suc, ◌+◌, ◌-◌, ◌*◌, ◌/◌, ◌%◌, ◌^◌, ◌<◌, ◌≤◌, min}
use native.Mathlib.Nat.{pow-suc, pow-le-pow_right, mul-le-mul_left}
use native.Mathlib.Numerals.{add-one}
use native.Mathlib.Omega.{arith}
use borrow.Author.Tests.{ltb-true, ltb-false, leb-true, leb-false}
use lib.Dec.{leb, ltb}
use lib.ListN.{length, get_or, get_or-eq_default, set, take, drop}
use lib.Seq.{sets, set_out, drop-cons}
use Rattle.std.proofs.lemmas.Bool.Decides.{nat_tests}
use Rattle.std.specs.Char.{is_ascii_hexdigit}
use Rattle.std.specs.List.{list_all}
use Rattle.std.specs.Prelude.{Some, None, is_some, unwrap_or}
use Rattle.program_digits.specs.Digits.{pick, digit, digits, number, numbers}

-- a digit is below 16
pub digit_small : (c : ℕ) → unwrap_or (digit c) 0 < 16
unfolding digit
digit_small c = go (ltb c 48) (ltb c 58) (ltb c 65) (ltb c 71) (ltb c 97) (ltb c 103) refl refl refl
  where
    go : (a b d e f g : Bool) → ltb c 58 ≡ b → ltb c 71 ≡ e → ltb c 103 ≡ g →
        unwrap_or (pick a None (pick b (Some (c - 48)) (pick d None (pick e (Some (c - 55)) (pick f None (pick g (Some (c - 87)) None)))))) 0 < 16
    go true b d e f g p q r = omega arith
    go false true d e f g p q r = omega (arith, ltb-true c 58 p)
    go false false true e f g p q r = omega arith
    go false false false true f g p q r = omega (arith, ltb-true c 71 q)
    go false false false false true g p q r = omega arith
    go false false false false false true p q r = omega (arith, ltb-true c 103 r)
    go false false false false false false p q r = omega arith

-- a digit lies in one of three ranges
pub digit_ranges : (c : ℕ) → is_some (digit c) ≡ is_ascii_hexdigit c
unfolding digit
digit_ranges c = grind (arith, nat_tests)

-- a digit's value is its last four bits, and 9 more for a letter
pub digit_bits : (c : ℕ) → is_some (digit c) ≡ true → c % 16 + 9 * (c / 64) ≡ unwrap_or (digit c) 0
unfolding digit
digit_bits c = go (ltb c 48) (ltb c 58) (ltb c 65) (ltb c 71) (ltb c 97) (ltb c 103) refl refl refl refl refl refl
  where
    go : (a b d e f g : Bool) → ltb c 48 ≡ a → ltb c 58 ≡ b → ltb c 65 ≡ d → ltb c 71 ≡ e → ltb c 97 ≡ f → ltb c 103 ≡ g →
        is_some (pick a None (pick b (Some (c - 48)) (pick d None (pick e (Some (c - 55)) (pick f None (pick g (Some (c - 87)) None)))))) ≡ true →
        c % 16 + 9 * (c / 64) ≡ unwrap_or (pick a None (pick b (Some (c - 48)) (pick d None (pick e (Some (c - 55)) (pick f None (pick g (Some (c - 87)) None)))))) 0
    go true b d e f g p q r s t u h = absurd (false≢true h)
    go false true d e f g p q r s t u h = omega (arith, ltb-false c 48 p, ltb-true c 58 q)
    go false false true e f g p q r s t u h = absurd (false≢true h)
    go false false false true f g p q r s t u h = omega (arith, ltb-false c 65 r, ltb-true c 71 s)
    go false false false false true g p q r s t u h = absurd (false≢true h)
    go false false false false false true p q r s t u h = omega (arith, ltb-false c 97 t, ltb-true c 103 u)
    go false false false false false false p q r s t u h = absurd (false≢true h)

-- what is a digit lies in the text
digit_inside : (s : List ℕ) (i : ℕ) → is_some (digit (get_or s i 0)) ≡ true → i < length s
unfolding digit
digit_inside s i h = go (ltb i (length s)) refl
  where
    go : (b : Bool) → ltb i (length s) ≡ b → i < length s
    go true e = ltb-true i (length s) e
    go false e =
        let z : get_or s i 0 ≡ 0 = get_or-eq_default s 0 (ltb-false i (length s) e) in
        absurd (false≢true (rw z at h))

-- digits of two parts are digits of both
digits_split : (s : List ℕ) (i m n : ℕ) → digits s i (m + n) ≡ digits s i m && digits s (i + m) n
unfolding digits
digits_split s i zero n = let y : 0 + n ≡ n = omega arith in let z : i + 0 ≡ i = omega arith in rw (y, z)
digits_split s i (suc m) n =
    let y : suc m + n ≡ suc (m + n) = omega arith in
    let z : i + 1 + m ≡ i + suc m = omega arith in
    rw (y, digits_split s (i + 1) m n, z) (go (is_some (digit (get_or s i 0))))
  where
    go : (t : Bool) → pick t (digits s (i + 1) m && digits s (i + suc m) n) false ≡ pick t (digits s (i + 1) m) false && digits s (i + suc m) n
    go true = refl
    go false = refl

-- no characters are digits
pub digits_none : (s : List ℕ) (i n : ℕ) → n ≡ 0 → digits s i n ≡ true
unfolding digits
digits_none s i n e = rw e

-- what holds together holds each
both : (a b : Bool) → a && b ≡ true → (a ≡ true) × (b ≡ true)
both true b h = (refl, h)
both false b h = absurd (false≢true h)

-- a part of digits is digits
pub digits_part : (s : List ℕ) (i n j m : ℕ) → digits s i n ≡ true → j + m ≤ n → digits s (i + j) m ≡ true
digits_part s i n j m h l =
    let r = n - (j + m) in
    let z : j + (m + r) ≡ n = omega arith in
    let behind : digits s (i + j) (m + r) ≡ true = (both (digits s i j) _ (sym (digits_split s i j (m + r)) ∙ ap (digits s i) z ∙ h)).1 in
    (both _ (digits s (i + j + m) r) (sym (digits_split s (i + j) m r) ∙ behind)).0

-- each of them is one, and lies in the text
pub digits_at : (s : List ℕ) (i n k : ℕ) → digits s i n ≡ true → k < n → is_some (digit (get_or s (i + k) 0)) ≡ true
unfolding digits
digits_at s i n k h l = go (is_some (digit (get_or s (i + k) 0))) (digits_part s i n k 1 h (omega arith))
  where
    go : (t : Bool) → pick t true false ≡ true → t ≡ true
    go true e = refl
    go false e = e

pub digits_inside : (s : List ℕ) (i n k : ℕ) → digits s i n ≡ true → k < n → i + k < length s
digits_inside s i n k h l = digit_inside s (i + k) (digits_at s i n k h l)

-- characters past the end are no digits
pub digits_past : (s : List ℕ) (i n : ℕ) → 0 < n → length s < i + n → digits s i n ≡ false
digits_past s i n l m = go (digits s i n) refl
  where
    go : (t : Bool) → digits s i n ≡ t → t ≡ false
    go true e = let f : i + (n - 1) < length s = digits_inside s i n (n - 1) e (omega arith) in absurd (omega arith)
    go false e = refl

-- one digit more, no digit, eight digits more, and none left
module _ (s : List ℕ) (i k n : ℕ) where
  left_more : k < n → n - k ≡ suc (n - (k + 1))
  left_more l = omega arith

  pub digits_more : k < n → is_some (digit (get_or s (i + k) 0)) ≡ true → digits s (i + k) (n - k) ≡ digits s (i + (k + 1)) (n - (k + 1))
  unfolding digits
  digits_more l h = let z : i + k + 1 ≡ i + (k + 1) = omega arith in rw (left_more l, h, z)

  pub digits_not : k < n → is_some (digit (get_or s (i + k) 0)) ≡ false → digits s (i + k) (n - k) ≡ false
  unfolding digits
  digits_not l h = rw (left_more l, h)

  pub eight_more : 8 ≤ n - k → digits s (i + k) 8 ≡ true → digits s (i + k) (n - k) ≡ digits s (i + (k + 8)) (n - (k + 8))
  eight_more l h =
      let y : n - k ≡ 8 + (n - (k + 8)) = omega arith in
      let z : i + k + 8 ≡ i + (k + 8) = omega arith in
      ap (digits s (i + k)) y ∙ digits_split s (i + k) 8 (n - (k + 8)) ∙ rw (h, z)

  pub digits_end : n ≤ k → digits s (i + k) (n - k) ≡ true
  digits_end l = digits_none s (i + k) (n - k) (omega arith)

-- digits that lie in the text are a part of it of which each character is one
pub digits_all : (s : List ℕ) (i n : ℕ) → i + n ≤ length s → digits s i n ≡ list_all (λ c. is_some (digit c)) (take n (drop i s))
unfolding digits
digits_all s i zero l = refl
digits_all s i (suc n) l = rw (drop-cons s i 0 (omega arith), digits_all s (i + 1) n (omega arith), add-one i) (go (is_some (digit (get_or s i 0))))
  where
    go : (t : Bool) → pick t (list_all (λ c. is_some (digit c)) (take n (drop (suc i) s))) false ≡ t && list_all (λ c. is_some (digit c)) (take n (drop (suc i) s))
    go true = refl
    go false = refl

-- tests four and four, and one after the other
and_eight : (a b c d e f g h : Bool) → (((a && b) && c) && d) && (((e && f) && g) && h) ≡ a && (b && (c && (d && (e && (f && (g && (h && true)))))))
and_eight false b c d e f g h = refl
and_eight true false c d e f g h = refl
and_eight true true false d e f g h = refl
and_eight true true true false e f g h = refl
and_eight true true true true false f g h = refl
and_eight true true true true true false g h = refl
and_eight true true true true true true false h = refl
and_eight true true true true true true true false = refl
and_eight true true true true true true true true = refl

-- the character at a place is a digit
abbrev pub is_one : List ℕ → ℕ → Bool
is_one s i = is_some (digit (get_or s i 0))

-- eight digits are eight characters, each a digit
module _ (s : List ℕ) (i : ℕ) where
  next : (k n : ℕ) → digits s (i + k) (suc n) ≡ is_one s (i + k) && digits s (i + (k + 1)) n
  unfolding digits
  next k n = let z : i + k + 1 ≡ i + (k + 1) = omega arith in rw z (go (is_one s (i + k)))
    where
      go : (t : Bool) → pick t (digits s (i + (k + 1)) n) false ≡ t && digits s (i + (k + 1)) n
      go true = refl
      go false = refl

  chain : digits s i 8 ≡ is_one s i && (is_one s (i + 1) && (is_one s (i + 2) && (is_one s (i + 3) && (is_one s (i + 4) && (is_one s (i + 5) && (is_one s (i + 6) && (is_one s (i + 7) && true)))))))
  unfolding digits
  chain = let z : i + 0 ≡ i = omega arith in rw z at (next 0 7) ∙ rw (next 1 6, next 2 5, next 3 4, next 4 3, next 5 2, next 6 1, next 7 0)

  pub digits_eight : (((is_one s i && is_one s (i + 1)) && is_one s (i + 2)) && is_one s (i + 3)) && (((is_one s (i + 4) && is_one s (i + 5)) && is_one s (i + 6)) && is_one s (i + 7)) ≡ digits s i 8
  digits_eight = and_eight (is_one s i) (is_one s (i + 1)) (is_one s (i + 2)) (is_one s (i + 3)) (is_one s (i + 4)) (is_one s (i + 5)) (is_one s (i + 6)) (is_one s (i + 7)) ∙ sym chain

-- one digit more of a number
pub number_more : (s : List ℕ) (i k : ℕ) → number s i (k + 1) ≡ number s i k * 16 + unwrap_or (digit (get_or s (i + k) 0)) 0
unfolding number
number_more s i k = rw add-one

pub number_none : (s : List ℕ) (i : ℕ) → number s i 0 ≡ 0
unfolding number
number_none s i = refl

-- k digits more than v, of which there are fewer than 16 to the k
pub power_more : (k v d : ℕ) → v < 16 ^ k → d < 16 → v * 16 + d < 16 ^ (k + 1)
power_more k v d l m = rw (add-one, pow-suc) (omega arith)

-- a number of fewer than eight digits leaves room for one more
pub seven : (k v : ℕ) → k < 8 → v < 16 ^ k → v < 268435456
seven k v l m = let f : 16 ^ k ≤ 16 ^ 7 = pow-le-pow_right {n = 16} (omega arith) {i = k} {j = 7} (omega arith) in omega arith

-- so many numbers are read as are asked for
pub length_numbers : (s : List ℕ) (i w n : ℕ) → length (numbers s i w n) ≡ n
unfolding numbers
length_numbers s i w zero = refl
length_numbers s i w (suc n) = ap suc (length_numbers s (i + w) w n)

-- what is stored past the end is not stored
pub stores_past : {A : Type 0} (q : List A) (k : ℕ) (vs : List A) → length q ≤ k → sets q k vs ≡ q
stores_past q k [] l = refl
stores_past q k (v ∷ vs) l = rw (set_out q k v l) (stores_past q (suc k) vs (omega arith))

-- of n numbers of w digits each the one at k lies in the text, and is of digits
module _ (s : List ℕ) (i w n k : ℕ) (p : 0 < w) (l : k < n) (h : digits s i (w * n) ≡ true) where
  one_of : w * k + w ≤ w * n
  one_of = let m : w * (k + 1) ≤ w * n = mul-le-mul_left w (omega arith) in omega (arith, m)

  pub number_inside : i + (w * k + w) ≤ length s
  number_inside = let f : i + (w * k + (w - 1)) < length s = digits_inside s i (w * n) (w * k + (w - 1)) h (omega (arith, one_of)) in omega (arith, f)

  pub number_digits : digits s (i + w * k) w ≡ true
  number_digits = digits_part s i (w * n) (w * k) w h one_of

-- the numbers that are still to be stored, by their values: one more of them, and none where all are or the room is full
module _ {A : Type 0} (v : ℕ → A) (s : List ℕ) (i k w n : ℕ) (q : List A) where
  pub numbers_more : k < n → sets q k (map v (numbers s (i + w * k) w (n - k))) ≡ sets (set q k (v (number s (i + w * k) w))) (k + 1) (map v (numbers s (i + w * (k + 1)) w (n - (k + 1))))
  unfolding numbers
  numbers_more l = let z : i + w * (k + 1) ≡ i + w * k + w = omega arith in rw (left_more s i k n l, z, add-one)

  pub numbers_stored : min n (length q) ≤ k → sets q k (map v (numbers s (i + w * k) w (n - k))) ≡ q
  unfolding numbers
  numbers_stored l = go (leb n k) refl
    where
      go : (b : Bool) → leb n k ≡ b → sets q k (map v (numbers s (i + w * k) w (n - k))) ≡ q
      go true e = let m : n ≤ k = leb-true n k e in let z : n - k ≡ 0 = omega arith in rw z
      go false e = let m : k < n = leb-false n k e in stores_past q k (map v (numbers s (i + w * k) w (n - k))) (omega arith)
