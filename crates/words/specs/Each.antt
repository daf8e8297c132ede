-- Tests and counts over the numbers below n, and over a list.
use Rattle.std.specs.Prelude.{ℕ, zero, suc, ◌+◌, ◌≡◌, Bool, true, false, ◌&&◌, ◌||◌, ◌⊎◌, List, [], ◌∷◌}

-- every number below n passes f
abbrev pub every : (ℕ → Bool) → ℕ → Bool
every f zero = true
every f (suc n) = every f n && f n

-- 1 for a test that passes, 0 for one that fails
abbrev pub one : Bool → ℕ
one true = 1
one false = 0

-- the sum of g over the numbers below n
abbrev pub sum : (ℕ → ℕ) → ℕ → ℕ
sum g zero = 0
sum g (suc n) = sum g n + g n

-- how many numbers below n pass f
abbrev pub count : (ℕ → Bool) → ℕ → ℕ
count f n = sum (λ (k : ℕ). one (f k)) n

-- all of a list pass f
abbrev pub all : (ℕ → Bool) → List ℕ → Bool
all f [] = true
all f (i ∷ l) = f i && all f l

-- some of a list passes f
abbrev pub any : (ℕ → Bool) → List ℕ → Bool
any f [] = false
any f (i ∷ l) = f i || any f l

-- the sum of g over a list
abbrev pub total : (ℕ → ℕ) → List ℕ → ℕ
total g [] = 0
total g (i ∷ l) = g i + total g l

-- i is one of a list
abbrev pub In : ℕ → List ℕ → Type 0
In i [] = ⊥
In i (x ∷ l) = (i ≡ x) ⊎ In i l
