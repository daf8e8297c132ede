-- A block agrees with some record: what that says, and how it is found.
use Prim.Native.Nat.{ℕ, zero, suc, ◌*◌, ◌<◌}
use mathlib.Core.Path.{◌≡◌, refl, sym, ap}
use mathlib.Core.Bool.{Bool, true, false, not}
use mathlib.Core.List.{List}
use native.Mathlib.Omega.{arith}
use borrow.Author.Tests.{ltb-true, not-true, eqb-true, eq-eqb}
use Rattle.words.specs.Each.{every}
use Rattle.words.proofs.Tests.{both, false_true}
use Rattle.words.proofs.Each.{every_not}
use Rattle.picture.specs.Layout.{positions}
use Rattle.picture.specs.Records.{owner, base}
use Rattle.picture.specs.declared.Table.{Table}
use Rattle.blocks.specs.Header.{holder}
use Rattle.sound_matching.specs.Agreed.{agrees, agreed, position_noted, agreed_as_noted}

-- not every number below n passes: one fails
pub some_fails : (f : ℕ → Bool) (n : ℕ) → every f n ≡ false → (k : ℕ) × ((k < n) × (f k ≡ false))
some_fails f zero h = absurd (false_true (sym h))
some_fails f (suc n) h = go (f n) refl (every f n) refl (λ q. some_fails f n q)
  where
    go : (b : Bool) → f n ≡ b → (a : Bool) → every f n ≡ a → (every f n ≡ false → (k : ℕ) × ((k < n) × (f k ≡ false))) → (k : ℕ) × ((k < suc n) × (f k ≡ false))
    go false e a q r = (n, (omega arith, e))
    go true e false q r = let s = r q in (s.0, (omega (arith, s.1.0), s.1.1))
    go true e true q r = absurd (false_true (sym (rw (q, e) at h)))

module _ (p : List ℕ) (t : Table) (i : ℕ) where
  pub agreed_at : (k : ℕ) → k < positions t → agrees p t k i ≡ true → agreed p t i ≡ true
  unfolding agreed
  agreed_at k l h = ap not (every_not (λ (k : ℕ). not (agrees p t k i)) (positions t) k l (ap not h))

  -- the position noted is one of the table's: what it says is true of some record
  pub noted_agreed : (l : List ℕ) → agreed_as_noted p t i l ≡ true → agreed p t i ≡ true
  unfolding agreed_as_noted
  noted_agreed l h = let b = both _ _ h in agreed_at (position_noted l i) (ltb-true _ _ b.0) b.1

  pub agreed_none : every (λ (k : ℕ). not (agrees p t k i)) (positions t) ≡ true → agreed p t i ≡ false
  unfolding agreed
  agreed_none h = ap not h

  -- the record that a block agrees with
  pub record Agreeing (k : ℕ) : Type 0 where
    pub below : k < positions t
    pub place : base p t k ≡ 4 * i
    pub held : owner p t k ≡ holder p i

  pub agreed_some : agreed p t i ≡ true → (k : ℕ) × Agreeing k
  unfolding agreed agrees
  agreed_some h =
      let s = some_fails (λ (k : ℕ). not (agrees p t k i)) (positions t) (not-true _ h) in
      let b = both _ _ (not_false_true _ s.1.1) in
      (s.0, record { below = s.1.0; place = eqb-true _ _ b.0; held = eqb-true _ _ b.1 })
    where
      not_false_true : (b : Bool) → not b ≡ false → b ≡ true
      not_false_true true h = refl
      not_false_true false h = absurd (false_true (sym h))

  pub some_agreed : (k : ℕ) → Agreeing k → agreed p t i ≡ true
  unfolding agrees
  some_agreed k m = agreed_at k m.below (rw (eq-eqb _ _ m.place, eq-eqb _ _ m.held))
