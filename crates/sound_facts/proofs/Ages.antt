-- Tags rise: the last tag given never falls, and what is newly live has a tag above the last one given before.
use Prim.Native.Nat.{ℕ, ◌≤◌, ◌<◌}
use mathlib.Core.Path.{◌≡◌, refl, sym, ◌∙◌}
use mathlib.Core.Bool.{Bool, true, false}
use mathlib.Core.Logic.{⊎_elim, ◌⊎◌, inl, inr}
use mathlib.Core.List.{List}
use native.Mathlib.Omega.{arith}
use Rattle.words.specs.Words.{word}
use Rattle.words.proofs.Tests.{false_true}
use Rattle.picture.specs.Layout.{last_word, positions}
use Rattle.picture.specs.Records.{number, members}
use Rattle.picture.specs.Numbers.{tag, live}
use Rattle.picture.specs.declared.Table.{Table}
use Rattle.sound_facts.proofs.Same.{live_same}

pub record Ages (p q : List ℕ) (t : Table) : Type 0 where
  pub rises : word p (last_word t) ≤ word q (last_word t)
  pub newer : (n : ℕ) → live q t n ≡ true → (live p t n ≡ true) ⊎ (word p (last_word t) < tag n)

pub ages_still : (p : List ℕ) (t : Table) → Ages p p t
ages_still p t = record { rises = omega arith; newer = λ n l. inl l }

pub ages_then : (p q r : List ℕ) (t : Table) → Ages p q t → Ages q r t → Ages p r t
ages_then p q r t a b =
    let x = a.rises in
    let y = b.rises in
    record {
      rises = omega arith;
      newer = λ n l. ⊎_elim (λ m. a.newer n m) (λ (m : word q (last_word t) < tag n). inr (omega arith)) (b.newer n l);
    }

-- a picture with the same mask, last tag and numbers has the same live numbers
pub ages_same : (p q : List ℕ) (t : Table) → word q (last_word t) ≡ word p (last_word t) → members q t ≡ members p t → ((k : ℕ) → k < positions t → number q t k ≡ number p t k) → Ages p q t
ages_same p q t l m s = record { rises = omega arith; newer = λ n h. inl (sym (live_same p q t m s n) ∙ h) }

-- a number that is dead, with a tag that was given, stays dead
pub stays_dead : (p q : List ℕ) (t : Table) (n : ℕ) → Ages p q t → tag n ≤ word p (last_word t) → live p t n ≡ false → live q t n ≡ false
stays_dead p q t n a l d = go (live q t n) refl
  where
    go : (b : Bool) → live q t n ≡ b → b ≡ false
    go true e = ⊎_elim (λ m. absurd (false_true (sym d ∙ m))) (λ (m : word p (last_word t) < tag n). absurd (omega arith)) (a.newer n e)
    go false e = refl
