-- The next member, as a loop finds it.
use Prim.Native.Nat.{ℕ, ◌+◌, ◌≤◌, ◌<◌}
use mathlib.Core.Path.{◌≡◌, refl, sym, ◌∙◌}
use mathlib.Core.Bool.{Bool, true, false, ◌&&◌}
use mathlib.Core.List.{List}
use native.Mathlib.Numerals.{add-one}
use borrow.Author.Tests.{lt-ltb, le-ltb, eq-eqb, ne_eqb}
use Rattle.words.specs.Bits.{bit}
use Rattle.words.proofs.Tests.{fails_behind}
use Rattle.picture.specs.Records.{number}
use Rattle.picture.specs.Numbers.{tag}
use Rattle.picture.specs.declared.Table.TheVariants.{Jobs}
use Rattle.asking.specs.Next.{nearer, next_below}

-- a loop over the positions
module _ (p : List ℕ) (m g i n : ℕ) (h : n ≡ next_below i p m g) where
  pub next_takes : nearer p m g n i ≡ true → number p Jobs i ≡ next_below (i + 1) p m g
  unfolding next_below
  next_takes e = rw (add-one i) (rw (← h, e))

  pub next_passes : nearer p m g n i ≡ false → n ≡ next_below (i + 1) p m g
  unfolding next_below
  next_passes e = rw (add-one i) (rw (← h, e))

and_true : (b : Bool) → b && true ≡ b
and_true true = refl
and_true false = refl

-- one position, whose tag is t
module _ (p : List ℕ) (m g n k t : ℕ) (e : t ≡ tag (number p Jobs k)) where
  pub not_greater : t ≤ g → false ≡ nearer p m g n k
  unfolding nearer
  not_greater l = rw (← e, le-ltb g t l) (fails_behind (bit m k) false refl)

  pub first_one : g < t → n ≡ 0 → (b : Bool) → b ≡ bit m k → b ≡ nearer p m g n k
  unfolding nearer
  first_one l z b f = f ∙ sym (rw (← e, lt-ltb g t l, eq-eqb n 0 z) (and_true (bit m k)))

  pub not_nearer : g < t → (n ≡ 0 → ⊥) → tag n ≤ t → false ≡ nearer p m g n k
  unfolding nearer
  not_nearer l z d = rw (← e, lt-ltb g t l, ne_eqb n 0 z, le-ltb t (tag n) d) (fails_behind (bit m k) false refl)

  pub a_nearer_one : g < t → (n ≡ 0 → ⊥) → t < tag n → (b : Bool) → b ≡ bit m k → b ≡ nearer p m g n k
  unfolding nearer
  a_nearer_one l z d b f = f ∙ sym (rw (← e, lt-ltb g t l, ne_eqb n 0 z, lt-ltb t (tag n) d) (and_true (bit m k)))
