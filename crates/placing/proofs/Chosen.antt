-- The rule for choosing a block: all that placing rests on.
use Prim.Native.Nat.{ℕ, ◌≤◌, ◌<◌}
use mathlib.Core.Path.{◌≡◌, refl, ap, ◌∙◌}
use mathlib.Core.Bool.{Bool, true, false, cond, ◌&&◌}
use mathlib.Core.List.{List, [], ◌∷◌}
use mathlib.Core.Logic.{⊎_elim, ◌⊎◌, inl, inr}
use lib.Dec.{leb}
use native.Mathlib.Omega.{arith}
use borrow.Author.Tests.{leb-true, leb-false, lt-leb}
use Rattle.words.specs.Each.{In}
use Rattle.words.proofs.Tests.{both, false_true}
use Rattle.blocks.specs.Header.{size, free}
use Rattle.blocks.specs.Walk.{starts}
use Rattle.blocks.proofs.Starts.{starts_in}
use Rattle.placing.specs.Place.{fits, first, chosen}

-- the block at i can take n bytes
pub record Chosen (p : List ℕ) (base e n i : ℕ) : Type 0 where
  pub there : In i (starts p base e)
  pub is_free : free p i ≡ true
  pub enough : n ≤ size p i

-- no free block of the area is long enough for n bytes
abbrev pub NoRoom : List ℕ → ℕ → ℕ → ℕ → Type 0
NoRoom p base e n = (i : ℕ) → In i (starts p base e) → free p i ≡ true → size p i < n

first_passes : (f : ℕ → Bool) (e : ℕ) (l : List ℕ) → (first f e l ≡ e) ⊎ (In (first f e l) l × (f (first f e l) ≡ true))
first_passes f e [] = inl refl
first_passes f e (i ∷ l) = go (f i) refl (first_passes f e l)
  where
    go : (b : Bool) → f i ≡ b → (first f e l ≡ e) ⊎ (In (first f e l) l × (f (first f e l) ≡ true))
        → (cond b i (first f e l) ≡ e) ⊎ (In (cond b i (first f e l)) (i ∷ l) × (f (cond b i (first f e l)) ≡ true))
    go true z r = inr (inl refl, z)
    go false z (inl r) = inl r
    go false z (inr r) = inr (inr r.0, r.1)

first_of_none : (f : ℕ → Bool) (e : ℕ) (l : List ℕ) → ((i : ℕ) → In i l → f i ≡ false) → first f e l ≡ e
first_of_none f e [] h = refl
first_of_none f e (i ∷ l) h = rw (h i (inl refl)) (first_of_none f e l (λ j m. h j (inr m)))

none_passes : (f : ℕ → Bool) (e : ℕ) (l : List ℕ) → ((i : ℕ) → In i l → i < e) → first f e l ≡ e → (j : ℕ) → In j l → f j ≡ false
none_passes f e [] b h j m = absurd m
none_passes f e (i ∷ l) b h j m = go (f i) refl h m (λ q n. none_passes f e l (λ k o. b k (inr o)) q j n)
  where
    go : (t : Bool) → f i ≡ t → cond t i (first f e l) ≡ e → (j ≡ i) ⊎ In j l → (first f e l ≡ e → In j l → f j ≡ false) → f j ≡ false
    go true z q n r = absurd (let u = b i (inl refl) in omega arith)
    go false z q (inl y) r = ap f y ∙ z
    go false z q (inr y) r = r q y

pub not_fitting : (z : Bool) (n s : ℕ) → z && leb n s ≡ false → z ≡ true → s < n
not_fitting true n s h q = leb-false n s h
not_fitting false n s h q = absurd (false_true q)

pub not_fit : (z : Bool) (n s : ℕ) → (z ≡ true → s < n) → z && leb n s ≡ false
not_fit true n s h = lt-leb n s (h refl)
not_fit false n s h = refl

module _ (p : List ℕ) (base e n : ℕ) where
  pub chosen_is_free_and_enough : chosen p base e n < e → Chosen p base e n (chosen p base e n)
  unfolding chosen fits
  chosen_is_free_and_enough l = ⊎_elim
      (λ (z : first (fits p n) e (starts p base e) ≡ e). absurd (omega arith))
      (λ (r : In (first (fits p n) e (starts p base e)) (starts p base e) × (fits p n (first (fits p n) e (starts p base e)) ≡ true)).
      let b = both _ _ r.1 in
      record { there = r.0; is_free = b.0; enough = leb-true _ _ b.1 })
      (first_passes (fits p n) e (starts p base e))

  pub chosen_is_not_past_the_end : chosen p base e n ≤ e
  unfolding chosen
  chosen_is_not_past_the_end = ⊎_elim
      (λ (z : first (fits p n) e (starts p base e) ≡ e). omega arith)
      (λ (r : In (first (fits p n) e (starts p base e)) (starts p base e) × (fits p n (first (fits p n) e (starts p base e)) ≡ true)).
      let a = (starts_in p base e _ r.0).1 in omega arith)
      (first_passes (fits p n) e (starts p base e))

  pub none_is_chosen_where_all_are_shorter : NoRoom p base e n → chosen p base e n ≡ e
  unfolding chosen fits
  none_is_chosen_where_all_are_shorter h = first_of_none (fits p n) e (starts p base e) (λ i m. not_fit (free p i) n (size p i) (h i m))

  pub all_are_shorter_where_none_is_chosen : chosen p base e n ≡ e → NoRoom p base e n
  unfolding chosen fits
  all_are_shorter_where_none_is_chosen h i m =
      not_fitting (free p i) n (size p i) (none_passes (fits p n) e (starts p base e) (λ j o. (starts_in p base e j o).1) h i m)
