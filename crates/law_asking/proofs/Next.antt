-- The next member, in words.
use Prim.Native.Nat.{ℕ, zero, suc, ◌≤◌, ◌<◌}
use mathlib.Core.Path.{◌≡◌, refl, sym, subst}
use mathlib.Core.Bool.{Bool, true, false, ◌||◌, cond}
use mathlib.Core.Logic.{⊎_elim, ◌⊎◌, inl, inr}
use mathlib.Core.List.{List}
use lib.Dec.{eqb, ltb}
use native.Mathlib.Omega.{arith}
use native.Mathlib.Nat.{eq-or-lt_of_le, le_of_suc-le-suc, not-suc-le-zero}
use borrow.Author.Tests.{eqb-true, eqb-false, ltb-true, ltb-false, lt-ltb}
use Rattle.words.specs.Bits.{bit}
use Rattle.words.proofs.Tests.{both, either, false_true}
use Rattle.picture.specs.Layout.{positions}
use Rattle.picture.specs.Records.{number}
use Rattle.picture.specs.Numbers.{tag}
use Rattle.picture.specs.declared.Table.TheVariants.{Jobs}
use Rattle.asking.specs.Next.{nearer, next_below, next_member}

-- n is 0 and no member below i has a greater tag than g, or n is a member's number, with a greater tag, and no other such member's tag is smaller
pub record Next (p : List ℕ) (m g i n : ℕ) : Type 0 where
  pub some : (n ≡ 0) ⊎ ((k : ℕ) × ((k < i) × ((bit m k ≡ true) × ((n ≡ number p Jobs k) × (g < tag n)))))
  pub least : (k : ℕ) → k < i → bit m k ≡ true → g < tag (number p Jobs k) → (n ≡ 0 → ⊥) × (tag n ≤ tag (number p Jobs k))

tag_zero : (n g : ℕ) → g < tag n → n ≡ 0 → ⊥
tag_zero n g l e = omega arith

pub next_is : (p : List ℕ) (m g i : ℕ) → Next p m g i (next_below i p m g)
unfolding next_below nearer
next_is p m g zero = record { some = inl refl; least = λ k l. absurd (not-suc-le-zero l) }
next_is p m g (suc i) = go (next_below i p m g) (next_is p m g i) (nearer p m g (next_below i p m g) i) refl
  where
    go : (n : ℕ) → Next p m g i n → (b : Bool) → nearer p m g n i ≡ b → Next p m g (suc i) (cond b (number p Jobs i) n)
    go n N true e =
        let a = both _ _ e in
        let c = both _ _ a.1 in
        let x : g < tag (number p Jobs i) = ltb-true g _ c.0 in
        record {
          some = inr (i, (omega arith, (a.0, (refl, x))));
          least = λ k l b y. (
            tag_zero (number p Jobs i) g x,
            ⊎_elim
                (λ (z : k ≡ i). subst (λ (j : ℕ). tag (number p Jobs i) ≤ tag (number p Jobs j)) (sym z) (omega arith))
                (λ (z : k < i). let o = N.least k z b y in let w = o.1 in ⊎_elim
                (λ q. absurd (o.0 (eqb-true n 0 q)))
                (λ (q : ltb (tag (number p Jobs i)) (tag n) ≡ true). let v = ltb-true (tag (number p Jobs i)) (tag n) q in omega arith)
                (either _ _ c.1))
                (eq-or-lt_of_le (le_of_suc-le-suc l)),
          );
        }
    go n N false e = record {
      some = ⊎_elim inl (λ s. inr (s.0, (omega (arith, s.1.0), s.1.1))) N.some;
      least = λ k l b y. ⊎_elim
          (λ (z : k ≡ i). here (subst (λ (j : ℕ). bit m j ≡ true) z b) (subst (λ (j : ℕ). g < tag (number p Jobs j)) z y) k z)
          (λ (z : k < i). N.least k z b y)
          (eq-or-lt_of_le (le_of_suc-le-suc l));
    }
      where
        here : bit m i ≡ true → g < tag (number p Jobs i) → (k : ℕ) → k ≡ i → (n ≡ 0 → ⊥) × (tag n ≤ tag (number p Jobs k))
        here b y k z = subst (λ (j : ℕ). (n ≡ 0 → ⊥) × (tag n ≤ tag (number p Jobs j))) (sym z) (at (eqb n 0) (ltb (tag (number p Jobs i)) (tag n)) refl refl (rw (b, lt-ltb g (tag (number p Jobs i)) y) at e))
          where
            at : (s t : Bool) → eqb n 0 ≡ s → ltb (tag (number p Jobs i)) (tag n) ≡ t → s || t ≡ false → (n ≡ 0 → ⊥) × (tag n ≤ tag (number p Jobs i))
            at true t u v w = absurd (false_true (sym w))
            at false true u v w = absurd (false_true (sym w))
            at false false u v w = (eqb-false n 0 u, ltb-false (tag (number p Jobs i)) (tag n) v)

-- the answer of $2: the member with the next greater tag, or 0 where no member has a greater one
pub the_next_member_has_the_next_greater_tag : (p : List ℕ) (m g : ℕ) → Next p m g (positions Jobs) (next_member p m g)
unfolding next_member
the_next_member_has_the_next_greater_tag p m g = next_is p m g (positions Jobs)
