-- Where a block is placed: the walk goes upwards, so the first block that is enough is the lowest.
use Prim.Native.Nat.{ℕ, ◌+◌, ◌≤◌, ◌<◌}
use mathlib.Core.Path.{◌≡◌, refl, sym, ap, ◌∙◌, subst}
use mathlib.Core.Bool.{Bool, true, false, cond}
use mathlib.Core.List.{List, [], ◌∷◌}
use mathlib.Core.Logic.{⊎_elim, ◌⊎◌, inl, inr}
use native.Mathlib.Omega.{arith}
use borrow.Author.Tests.{lt-ltb, le-leb}
use Rattle.std.specs.Prelude.{Some}
use Rattle.words.specs.Each.{In}
use Rattle.words.proofs.Tests.{false_true}
use Rattle.blocks.specs.Header.{size, free}
use Rattle.blocks.specs.Walk.{starts}
use Rattle.blocks.proofs.Starts.{Rising, rising_in, starts_rising, starts_in}
use Rattle.placing.specs.Place.{fits, first, chosen, answer}
use Rattle.placing.proofs.Chosen.{not_fitting, not_fit}
use Rattle.placing.proofs.Answer.{answer_at, placed_at_a_chosen_block}
use Rattle.law_placing.specs.Rule.{LowestEnough, PlacedAtTheLowest}

-- of a rising list, none below the first that passes does
below_the_first : (f : ℕ → Bool) (lo e : ℕ) (l : List ℕ) → Rising lo e l → (j : ℕ) → In j l → j < first f e l → f j ≡ false
below_the_first f lo e [] R j m h = absurd m
below_the_first f lo e (i ∷ l) R j m h = go (f i) refl h (λ n g. below_the_first f (i + 1) e l R.1.1 j n g)
  where
    behind : (j ≡ i) ⊎ In j l → i ≤ j
    behind (inl z) = omega arith
    behind (inr n) = let r = (rising_in (i + 1) e l R.1.1 j n).0 in omega arith

    go : (b : Bool) → f i ≡ b → j < cond b i (first f e l) → (In j l → j < first f e l → f j ≡ false) → f j ≡ false
    go true q g again = let r = behind m in absurd (omega arith)
    go false q g again = ⊎_elim (λ (z : j ≡ i). ap f z ∙ q) (λ n. again n g) m

-- and a member that passes, with none below it that does, is the first
first_is : (f : ℕ → Bool) (lo e : ℕ) (l : List ℕ) → Rising lo e l → (i : ℕ) → In i l → f i ≡ true → ((j : ℕ) → In j l → j < i → f j ≡ false) → first f e l ≡ i
first_is f lo e [] R i m h n = absurd m
first_is f lo e (k ∷ l) R i m h n = go (f k) refl (λ o. first_is f (k + 1) e l R.1.1 i o h (λ j x. n j (inr x)))
  where
    go : (b : Bool) → f k ≡ b → (In i l → first f e l ≡ i) → cond b k (first f e l) ≡ i
    go true q again = ⊎_elim (λ (z : i ≡ k). sym z) (λ o. let r = (rising_in (k + 1) e l R.1.1 i o).0 in absurd (false_true (sym (n k (inl refl) (omega arith)) ∙ q))) m
    go false q again = ⊎_elim (λ (z : i ≡ k). absurd (false_true (sym q ∙ sym (ap f z) ∙ h))) again m

pub placed_at_the_lowest : PlacedAtTheLowest
unfolding chosen fits answer
placed_at_the_lowest p base e n i = (to, back)
  where
    to : answer p base e n ≡ Some i → LowestEnough p base e n i
    to h =
        let a = answer_at p base e n i h in
        let C = placed_at_a_chosen_block p base e n i h in
        record {
          there = C.there;
          is_free = C.is_free;
          enough = C.enough;
          lowest = λ j m l. not_fitting (free p j) n (size p j) (below_the_first (fits p n) base e (starts p base e) (starts_rising p base e) j m (subst (λ (x : ℕ). j < x) (sym a.1) l));
        }

    back : LowestEnough p base e n i → answer p base e n ≡ Some i
    back L =
        let z : first (fits p n) e (starts p base e) ≡ i =
        first_is (fits p n) base e (starts p base e) (starts_rising p base e) i L.there (rw (L.is_free, le-leb n (size p i) L.enough)) (λ j m l. not_fit (free p j) n (size p j) (L.lowest j m l)) in
        let b = (starts_in p base e i L.there).1 in
        rw (z, lt-ltb i e b)
