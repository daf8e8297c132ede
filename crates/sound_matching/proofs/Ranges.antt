-- `all` and `any` over the numbers below n, as `every` says it.
use Prim.Native.Nat.{ℕ, zero, suc, ◌+◌}
use mathlib.Core.Path.{◌≡◌, refl, sym, ap, ◌∙◌}
use mathlib.Core.Bool.{Bool, true, false, ◌&&◌, ◌||◌, not}
use mathlib.Core.List.{List, [], ◌∷◌}
use native.Mathlib.Omega.{arith}
use Rattle.std.specs.List.{list_all, list_any, range_with_len}
use Rattle.words.specs.Each.{every}
use Rattle.words.proofs.Each.{every_same}

and_true : (a : Bool) → a ≡ a && true
and_true true = refl
and_true false = refl

and_and : (a b c : Bool) → (a && b) && c ≡ a && (b && c)
and_and true b c = refl
and_and false b c = refl

-- the first of them taken apart
every_first : (f : ℕ → Bool) (n : ℕ) → every f (suc n) ≡ f 0 && every (λ (k : ℕ). f (suc k)) n
every_first f zero = and_true (f 0)
every_first f (suc n) = ap (λ (b : Bool). b && f (suc n)) (every_first f n) ∙ and_and (f 0) _ (f (suc n))

every_ranged : (f : ℕ → Bool) (a n : ℕ) → list_all f (range_with_len a n) ≡ every (λ (k : ℕ). f (a + k)) n
every_ranged f a zero = refl
every_ranged f a (suc n) =
    ap (λ (b : Bool). f a && b) (every_ranged f (a + 1) n ∙ every_same _ _ n (λ k l. ap f (omega arith)))
    ∙ sym (every_first (λ (k : ℕ). f (a + k)) n ∙ ap (λ (x : ℕ). f x && every (λ (k : ℕ). f (a + suc k)) n) (omega arith))

pub every_below : (f : ℕ → Bool) (n : ℕ) → list_all f (range_with_len 0 n) ≡ every f n
every_below f n = every_ranged f 0 n ∙ every_same _ _ n (λ k l. ap f (omega arith))

any_not_all : (f : ℕ → Bool) (l : List ℕ) → list_any f l ≡ not (list_all (λ (k : ℕ). not (f k)) l)
any_not_all f [] = refl
any_not_all f (x ∷ l) = go (f x) (any_not_all f l)
  where
    go : (b : Bool) → list_any f l ≡ not (list_all (λ (k : ℕ). not (f k)) l) → b || list_any f l ≡ not (not b && list_all (λ (k : ℕ). not (f k)) l)
    go true h = refl
    go false h = h

pub some_below : (f : ℕ → Bool) (n : ℕ) → list_any f (range_with_len 0 n) ≡ not (every (λ (k : ℕ). not (f k)) n)
some_below f n = any_not_all f (range_with_len 0 n) ∙ ap not (every_below (λ (k : ℕ). not (f k)) n)
