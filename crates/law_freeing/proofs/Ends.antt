-- Where the merged block starts and ends, in a tiled area with no two free neighbours.
use Prim.Native.Nat.{ℕ, zero, suc, ◌-◌, ◌≤◌, ◌<◌}
use mathlib.Core.Path.{◌≡◌, refl, sym, ◌∙◌, subst}
use mathlib.Core.Bool.{Bool, true, false, cond, ◌&&◌}
use mathlib.Core.List.{List, ◌∷◌}
use mathlib.Core.Logic.{⊎_elim, ◌⊎◌, inl, inr}
use lib.Dec.{eqb, ltb}
use native.Mathlib.Omega.{arith}
use borrow.Author.Tests.{eqb-true, eqb-false, lt-ltb, le-ltb}
use Rattle.words.specs.Each.{In}
use Rattle.words.proofs.Tests.{lt_or_ge, false_true}
use Rattle.blocks.specs.Header.{free}
use Rattle.blocks.specs.Walk.{next, starts}
use Rattle.blocks.proofs.Walk.{next_up, starts_end, starts_more}
use Rattle.blocks.proofs.Starts.{starts_in}
use Rattle.law_freeing.proofs.Neighbours.{blocks_in_order}
use Rattle.law_freeing.specs.Merge.{before, low_end, high_end}

-- the block before i in a walk: there is none, or it ends where i starts
abbrev pub Prior : List ℕ → ℕ → ℕ → ℕ → ℕ → ℕ → Type 0
Prior p base e i d k = ((k ≡ d) × (i ≡ base)) ⊎ (In k (starts p base e) × (next p k e ≡ i))

prior_by : (k : ℕ) (p : List ℕ) (x e i d : ℕ) → e - x ≤ k → In i (starts p x e) → Prior p x e i d (before i d (starts p x e))
prior_by zero p x e i d h m = absurd (subst (In i) (starts_end p x e (omega arith)) m)
prior_by (suc k) p x e i d h m = ⊎_elim
    (λ (l : x < e). let u = next_up p x e l in rw (starts_more p x e l) (go l (eqb x i) refl (rw (starts_more p x e l) at m) (λ n. prior_by k p (next p x e) e i x (omega arith) n)))
    (λ (l : e ≤ x). absurd (subst (In i) (starts_end p x e l) m))
    (lt_or_ge x e)
  where
    go : x < e → (b : Bool) → eqb x i ≡ b → (i ≡ x) ⊎ In i (starts p (next p x e) e)
        → (In i (starts p (next p x e) e) → Prior p (next p x e) e i x (before i x (starts p (next p x e) e)))
        → ((cond b d (before i x (starts p (next p x e) e)) ≡ d) × (i ≡ x))
        ⊎ (In (cond b d (before i x (starts p (next p x e) e))) (x ∷ starts p (next p x e) e) × (next p (cond b d (before i x (starts p (next p x e) e))) e ≡ i))
    go l true z m ih = inl (refl, sym (eqb-true x i z))
    go l false z (inl y) ih = absurd (eqb-false x i z (sym y))
    go l false z (inr n) ih = ⊎_elim
        (λ (v : (before i x (starts p (next p x e) e) ≡ x) × (i ≡ next p x e)). inr (inl v.0, rw v.0 (sym v.1)))
        (λ v. inr (inr v.0, v.1))
        (ih n)

pub prior : (p : List ℕ) (base e i d : ℕ) → In i (starts p base e) → Prior p base e i d (before i d (starts p base e))
prior p base e i d m = prior_by (e - base) p base e i d (omega arith) m

-- a walk's block ends above its start
module _ (p : List ℕ) (base e : ℕ) where
  pub ends_above : (c : ℕ) → In c (starts p base e) → c < next p c e
  ends_above c m = (next_up p c e (starts_in p base e c m).1).0

  pub one_ends_there : (c k i : ℕ) → In c (starts p base e) → In k (starts p base e) → next p c e ≡ i → next p k e ≡ i → c ≡ k
  one_ends_there c k i m n y z =
      let u = ends_above c m in
      let v = ends_above k n in
      ⊎_elim
      (λ (l : c < k). let h = blocks_in_order p base e c k m n l in absurd (omega arith))
      (λ (l : k ≤ c). ⊎_elim (λ (o : k < c). let h = blocks_in_order p base e k c n m o in absurd (omega arith)) (λ (o : c ≤ k). omega arith) (lt_or_ge k c))
      (lt_or_ge c k)

-- a is where the block at i, given back, starts
pub record Low (p : List ℕ) (base e i a : ℕ) : Type 0 where
  pub is : (a ≡ i) ⊎ (In a (starts p base e) × ((free p a ≡ true) × (next p a e ≡ i)))
  pub alone : (c : ℕ) → In c (starts p base e) → next p c e ≡ i → free p c ≡ true → c ≡ a

pub low_end_is : (p : List ℕ) (base e i : ℕ) → In i (starts p base e) → Low p base e i (low_end p base e i)
unfolding low_end
low_end_is p base e i m = ⊎_elim none some (prior p base e i e m)
  where
    k : ℕ
    k = before i e (starts p base e)

    none : (k ≡ e) × (i ≡ base) → Low p base e i (cond (ltb k e && free p k) k i)
    none v = rw (le-ltb k e (omega (arith, v.0))) (record {
      is = inl refl;
      alone = λ c n z f. let a = starts_in p base e c n in let u = ends_above p base e c n in absurd (omega (arith, v.1, a.0));
    })

    some : In k (starts p base e) × (next p k e ≡ i) → Low p base e i (cond (ltb k e && free p k) k i)
    some v = rw (lt-ltb k e (starts_in p base e k v.0).1) (go (free p k) refl)
      where
        go : (b : Bool) → free p k ≡ b → Low p base e i (cond b k i)
        go true f = record { is = inr (v.0, (f, v.1)); alone = λ c n z h. one_ends_there p base e c k i n v.0 z v.1 }
        go false f = record {
          is = inl refl;
          alone = λ c n z h. let y = one_ends_there p base e c k i n v.0 z v.1 in absurd (false_true (sym f ∙ (rw y at h)));
        }

-- b is where it ends; j is where the block behind it starts
abbrev pub High : List ℕ → ℕ → ℕ → ℕ → Type 0
High p e j b = ((b ≡ j) × (j < e → free p j ≡ false)) ⊎ ((j < e) × ((free p j ≡ true) × (b ≡ next p j e)))

pub high_end_is : (p : List ℕ) (e j : ℕ) → High p e j (high_end p e j)
unfolding high_end
high_end_is p e j = ⊎_elim
    (λ (l : j < e). rw (lt-ltb j e l) (go l (free p j) refl))
    (λ (l : e ≤ j). rw (le-ltb j e l) (inl (refl, λ y. absurd (omega arith))))
    (lt_or_ge j e)
  where
    go : j < e → (b : Bool) → free p j ≡ b → High p e j (cond b (next p j e) j)
    go l true f = inr (l, (f, refl))
    go l false f = inl (refl, λ y. f)
