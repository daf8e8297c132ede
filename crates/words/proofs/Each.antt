-- Laws of specs/Each.antt.
use Prim.Native.Nat.{ℕ, zero, suc, ◌+◌, ◌≤◌, ◌<◌}
use native.Mathlib.Nat.{eq-or-lt_of_le, le_of_suc-le-suc, not-suc-le-zero}
use native.Mathlib.Numerals.{add-one}
use mathlib.Core.Path.{◌≡◌, refl, sym, ap, ◌∙◌}
use mathlib.Core.Bool.{Bool, true, false, ◌||◌}
use mathlib.Core.Logic.{⊎_elim, inl, inr}
use mathlib.Core.List.{List, [], ◌∷◌}
use native.Mathlib.Omega.{arith}
use Rattle.words.specs.Each.{every, one, sum, count, all, any, total, In}
use Rattle.words.proofs.Tests.{both, either, false_true, fails_left, fails_right}

-- every: what it says of each, and the other way round
pub every_at : (f : ℕ → Bool) (n : ℕ) → every f n ≡ true → (k : ℕ) → k < n → f k ≡ true
every_at f zero h k l = absurd (not-suc-le-zero l)
every_at f (suc n) h k l =
    let b = both (every f n) (f n) h in
    ⊎_elim (λ (e : k ≡ n). ap f e ∙ b.1) (λ m. every_at f n b.0 k m) (eq-or-lt_of_le (le_of_suc-le-suc l))

pub every_by : (f : ℕ → Bool) (n : ℕ) → ((k : ℕ) → k < n → f k ≡ true) → every f n ≡ true
every_by f zero h = refl
every_by f (suc n) h = rw (every_by f n (λ k l. h k (omega arith)), h n (omega arith))

pub every_not : (f : ℕ → Bool) (n k : ℕ) → k < n → f k ≡ false → every f n ≡ false
every_not f zero k l h = absurd (not-suc-le-zero l)
every_not f (suc n) k l h = ⊎_elim
    (λ (e : k ≡ n). fails_right (every f n) (f n) (ap f (sym e) ∙ h))
    (λ m. fails_left (every f n) (f n) (every_not f n k m h))
    (eq-or-lt_of_le (le_of_suc-le-suc l))

-- a loop that tests one number after another
pub every_next : (f : ℕ → Bool) (k : ℕ) → every f k ≡ true → f k ≡ true → every f (k + 1) ≡ true
every_next f k h e = rw (add-one k, h, e)

pub every_same : (f g : ℕ → Bool) (n : ℕ) → ((k : ℕ) → k < n → f k ≡ g k) → every f n ≡ every g n
every_same f g zero h = refl
every_same f g (suc n) h = rw (every_same f g n (λ k l. h k (omega arith)), h n (omega arith))

-- all of a list
pub all_at : (f : ℕ → Bool) (l : List ℕ) → all f l ≡ true → (i : ℕ) → In i l → f i ≡ true
all_at f [] h i m = absurd m
all_at f (x ∷ l) h i (inl e) = ap f e ∙ (both (f x) (all f l) h).0
all_at f (x ∷ l) h i (inr m) = all_at f l (both (f x) (all f l) h).1 i m

pub all_by : (f : ℕ → Bool) (l : List ℕ) → ((i : ℕ) → In i l → f i ≡ true) → all f l ≡ true
all_by f [] h = refl
all_by f (x ∷ l) h = rw (h x (inl refl), all_by f l (λ i m. h i (inr m)))

-- some of a list
pub any_some : (f : ℕ → Bool) (l : List ℕ) → any f l ≡ true → (i : ℕ) × (In i l × (f i ≡ true))
any_some f [] h = absurd (false_true h)
any_some f (x ∷ l) h = ⊎_elim
    (λ e. (x, (inl refl, e)))
    (λ e. let s = any_some f l e in (s.0, (inr s.1.0, s.1.1)))
    (either (f x) (any f l) h)

pub some_any : (f : ℕ → Bool) (l : List ℕ) (i : ℕ) → In i l → f i ≡ true → any f l ≡ true
some_any f [] i m h = absurd m
some_any f (x ∷ l) i (inl e) h = rw (ap f (sym e) ∙ h)
some_any f (x ∷ l) i (inr m) h = go (f x) (some_any f l i m h)
  where
    go : (b : Bool) → any f l ≡ true → b || any f l ≡ true
    go true r = refl
    go false r = r

pub any_same : (f g : ℕ → Bool) (l : List ℕ) → ((i : ℕ) → In i l → f i ≡ g i) → any f l ≡ any g l
any_same f g [] h = refl
any_same f g (x ∷ l) h = rw (h x (inl refl), any_same f g l (λ i m. h i (inr m)))

-- sums
pub sum_zero : (n : ℕ) → sum (λ (k : ℕ). 0) n ≡ 0
sum_zero zero = refl
sum_zero (suc n) = let r = sum_zero n in omega arith

pub sum_add : (a b : ℕ → ℕ) (n : ℕ) → sum (λ (k : ℕ). a k + b k) n ≡ sum a n + sum b n
sum_add a b zero = omega arith
sum_add a b (suc n) = let r = sum_add a b n in omega arith

pub sum_le : (a b : ℕ → ℕ) (n : ℕ) → ((k : ℕ) → k < n → a k ≤ b k) → sum a n ≤ sum b n
sum_le a b zero h = omega arith
sum_le a b (suc n) h = let r = sum_le a b n (λ k l. h k (omega arith)) in let x = h n (omega arith) in omega arith

-- equal sums of terms that are at most others: the terms are equal
pub sum_squeeze : (a b : ℕ → ℕ) (n : ℕ) → ((k : ℕ) → k < n → a k ≤ b k) → sum a n ≡ sum b n → (k : ℕ) → k < n → a k ≡ b k
sum_squeeze a b zero h q k l = absurd (not-suc-le-zero l)
sum_squeeze a b (suc n) h q k l =
    let r = sum_le a b n (λ j m. h j (omega arith)) in
    let x = h n (omega arith) in
    ⊎_elim
    (λ (e : k ≡ n). ap a e ∙ (let f : a n ≡ b n = omega arith in f) ∙ ap b (sym e))
    (λ m. sum_squeeze a b n (λ j o. h j (omega arith)) (omega arith) k m)
    (eq-or-lt_of_le (le_of_suc-le-suc l))

pub sum_same : (a b : ℕ → ℕ) (n : ℕ) → ((k : ℕ) → k < n → a k ≡ b k) → sum a n ≡ sum b n
sum_same a b zero h = refl
sum_same a b (suc n) h = rw (sum_same a b n (λ k l. h k (omega arith)), h n (omega arith))

-- counts
one_le : (b : Bool) → one b ≤ 1
one_le true = omega arith
one_le false = omega arith

pub count_le : (f : ℕ → Bool) (n : ℕ) → count f n ≤ n
count_le f zero = omega arith
count_le f (suc n) = let r = count_le f n in let x = one_le (f n) in omega arith

-- a loop that counts one number after another
pub count_next : (f : ℕ → Bool) (k m r : ℕ) → m ≡ count f k → r ≡ one (f k) → m + r ≡ count f (k + 1)
count_next f k m r h e = rw (add-one k, h, e)

pub count_some : (f : ℕ → Bool) (n : ℕ) → 0 < count f n → (k : ℕ) × ((k < n) × (f k ≡ true))
count_some f zero h = absurd (omega arith)
count_some f (suc n) h = go (f n) refl (λ q. count_some f n q) h
  where
    go : (b : Bool) → f n ≡ b → (0 < count f n → (k : ℕ) × ((k < n) × (f k ≡ true))) → 0 < count f n + one b → (k : ℕ) × ((k < suc n) × (f k ≡ true))
    go true e r q = (n, (omega arith, e))
    go false e r q = let s = r (omega arith) in (s.0, (omega (arith, s.1.0), s.1.1))

pub count_at : (f : ℕ → Bool) (n k : ℕ) → k < n → f k ≡ true → 0 < count f n
count_at f zero k l h = absurd (not-suc-le-zero l)
count_at f (suc n) k l h = ⊎_elim
    (λ (e : k ≡ n). let z : one (f n) ≡ 1 = ap one (ap f (sym e) ∙ h) in omega arith)
    (λ m. let r = count_at f n k m h in omega arith)
    (eq-or-lt_of_le (le_of_suc-le-suc l))

pub count_two : (f : ℕ → Bool) (n j k : ℕ) → j < k → k < n → f j ≡ true → f k ≡ true → 2 ≤ count f n
count_two f zero j k a l g h = absurd (not-suc-le-zero l)
count_two f (suc n) j k a l g h = ⊎_elim
    (λ (e : k ≡ n). let z : one (f n) ≡ 1 = ap one (ap f (sym e) ∙ h) in let r = count_at f n j (omega arith) g in omega arith)
    (λ m. let r = count_two f n j k a m g h in omega arith)
    (eq-or-lt_of_le (le_of_suc-le-suc l))

-- a table of numbers, summed by rows or by columns
pub swap : (g : ℕ → ℕ → ℕ) (n : ℕ) (l : List ℕ) → total (λ (i : ℕ). sum (g i) n) l ≡ sum (λ (k : ℕ). total (λ (i : ℕ). g i k) l) n
swap g n [] = sym (sum_zero n)
swap g n (x ∷ l) = let r = swap g n l in let z = sum_add (g x) (λ (k : ℕ). total (λ (i : ℕ). g i k) l) n in omega arith

pub total_same : (a b : ℕ → ℕ) (l : List ℕ) → ((i : ℕ) → In i l → a i ≡ b i) → total a l ≡ total b l
total_same a b [] h = refl
total_same a b (x ∷ l) h = rw (h x (inl refl), total_same a b l (λ i m. h i (inr m)))
