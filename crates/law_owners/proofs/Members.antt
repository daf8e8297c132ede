-- The computed tree is the tree in words.
use Prim.Native.Nat.{ℕ, zero, suc, ◌-◌, ◌≤◌, ◌<◌, ◌/◌, ◌%◌}
use mathlib.Core.Path.{◌≡◌, refl, sym, ap, ◌∙◌, subst}
use mathlib.Core.Bool.{Bool, true, false, ◌&&◌}
use mathlib.Core.Logic.{⊎_elim, ◌⊎◌, inl, inr}
use mathlib.Core.List.{List}
use lib.Dec.{eqb, ltb}
use native.Mathlib.Omega.{arith}
use native.Mathlib.Nat.{eq-or-lt_of_le, le_of_suc-le-suc, not-suc-le-zero}
use borrow.Author.Tests.{eqb-true, eqb-false, lt-ltb, ltb-true}
use Rattle.words.specs.Bits.{bit}
use Rattle.words.specs.Each.{one, count}
use Rattle.words.proofs.Tests.{both, false_true}
use Rattle.words.proofs.Each.{count_le}
use Rattle.picture.specs.Layout.{nobody, positions}
use Rattle.picture.specs.Records.{number, owner, used}
use Rattle.picture.specs.Numbers.{tag, position, live}
use Rattle.picture.specs.declared.Table.TheVariants.{Jobs}
use Rattle.picture.proofs.Records.{used_below}
use Rattle.picture.proofs.Numbers.{live_is}
use Rattle.tree.specs.Tree.{climbs, in_tree, tree}
use Rattle.law_owners.specs.Under.{Under}
use Rattle.masks.proofs.Masks.{mask_bit}
use Rattle.tree.proofs.Climb.{climbs_here, climbs_ends, climbs_stops, climbs_up}
use Rattle.law_owners.proofs.Owners.{Owners, nobody_is_no_job}

-- of two tests of which one passes less often, the count is less
one_le : (x y : Bool) → (x ≡ true → y ≡ true) → one x ≤ one y
one_le true true h = omega arith
one_le true false h = absurd (false_true (h refl))
one_le false y h = omega arith

module _ (f g : ℕ → Bool) where
  fewer : (n : ℕ) → ((i : ℕ) → f i ≡ true → g i ≡ true) → count f n ≤ count g n
  fewer zero h = omega arith
  fewer (suc n) h = omega (arith, one_le (f n) (g n) (h n), fewer n h)

  less : (n : ℕ) → ((i : ℕ) → f i ≡ true → g i ≡ true) → (m : ℕ) → m < n → g m ≡ true → f m ≡ false → count f n < count g n
  less zero h m l t o = absurd (not-suc-le-zero l)
  less (suc n) h m l t o = ⊎_elim
      (λ (e : m ≡ n). let a : one (f n) ≡ 0 = ap one (ap f (sym e) ∙ o) in let b : one (g n) ≡ 1 = ap one (ap g (sym e) ∙ t) in omega (arith, fewer n h))
      (λ k. omega (arith, one_le (f n) (g n) (h n), less n h m k t o))
      (eq-or-lt_of_le (le_of_suc-le-suc l))

-- the job at i is live and has a smaller tag than the one at k
before : List ℕ → ℕ → ℕ → Bool
before p k i = used p Jobs i && ltb (tag (number p Jobs i)) (tag (number p Jobs k))

-- how many jobs have a smaller tag
rank : List ℕ → ℕ → ℕ
rank p k = count (before p k) (positions Jobs)

rank_within : (p : List ℕ) (k : ℕ) → rank p k ≤ positions Jobs
unfolding rank
rank_within p k = count_le (before p k) (positions Jobs)

rank_less : (p : List ℕ) (k j : ℕ) → used p Jobs j ≡ true → tag (number p Jobs j) < tag (number p Jobs k) → rank p j < rank p k
unfolding rank before
rank_less p k j u l = less (before p j) (before p k) (positions Jobs)
    (λ i t. let x = both (used p Jobs i) _ t in let y = ltb-true (tag (number p Jobs i)) (tag (number p Jobs j)) x.1 in rw x.0 (lt-ltb (tag (number p Jobs i)) (tag (number p Jobs k)) (omega arith)))
    j (used_below p Jobs j u) (rw u (lt-ltb _ _ l)) (rw u (never (tag (number p Jobs j))))
  where
    never : (x : ℕ) → ltb x x ≡ false
    never x = go (ltb x x) refl
      where
        go : (b : Bool) → ltb x x ≡ b → b ≡ false
        go true e = let y = ltb-true x x e in absurd (omega arith)
        go false e = refl

module _ (p : List ℕ) (O : Owners p) (t : ℕ) where
  -- an owner that a live job names: it stands at a live position, and is older
  owner_at : (k j : ℕ) → used p Jobs k ≡ true → used p Jobs j ≡ true → owner p Jobs k ≡ number p Jobs j → tag (number p Jobs j) < tag (number p Jobs k)
  owner_at k j u v e = ⊎_elim
      (λ n. absurd (nobody_is_no_job p j O v (sym e ∙ n)))
      (λ w. subst (λ (x : ℕ). tag x < tag (number p Jobs k)) e w.1)
      (O.older k u)

  -- as many owners as there are older jobs are enough
  climbs_all : (n k : ℕ) → used p Jobs k ≡ true → rank p k ≤ n → Under p t k → climbs n p t k ≡ true
  climbs_all n k u r (Under.top e) = climbs_here n p t k e
  climbs_all n k u r (Under.owned {j = j} v e w) =
      let f = rank_less p k j v (owner_at k j u v e) in
      let ih = climbs_all (n - 1) j v (omega arith) w in
      go f ih (eqb k t) refl
    where
      go : rank p j < rank p k → climbs (n - 1) p t j ≡ true → (b : Bool) → eqb k t ≡ b → climbs n p t k ≡ true
      go f ih true z = climbs_here n p t k (eqb-true k t z)
      go f ih false z = climbs_up n p t k (omega arith) (eqb-false k t z) (λ y. nobody_is_no_job p j O v (sym e ∙ y)) ∙ rw (e, O.place j v) ih

  climbs_under : (n k : ℕ) → used p Jobs k ≡ true → climbs n p t k ≡ true → Under p t k
  climbs_under zero k u h = Under.top (eqb-true k t (sym (climbs_ends zero p t k refl) ∙ h))
  climbs_under (suc n) k u h = go (climbs_under n) (eqb k t) refl
    where
      go : ((j : ℕ) → used p Jobs j ≡ true → climbs n p t j ≡ true → Under p t j) → (b : Bool) → eqb k t ≡ b → Under p t k
      go ih true z = Under.top (eqb-true k t z)
      go ih false z = ⊎_elim
          (λ e. absurd (false_true (sym (climbs_stops (suc n) p t k (omega arith) (eqb-false k t z) e) ∙ h)))
          (λ w.
          let l = live_is p Jobs (owner p Jobs k) w.0 in
          let z' : suc n - 1 ≡ n = omega arith in
          let up = climbs_up (suc n) p t k (omega arith) (eqb-false k t z) (λ y. nobody_is_no_job p (position (owner p Jobs k)) O l.used (l.names ∙ y)) in
          Under.owned l.used (sym l.names) (ih (position (owner p Jobs k)) l.used (rw z' at (sym up ∙ h))))
          (O.older k u)

  tree_bit : (k : ℕ) → k < positions Jobs → bit (tree p t) k ≡ in_tree p t k
  unfolding tree
  tree_bit k l = mask_bit (in_tree p t) (positions Jobs) k l

  -- a member is live and in the tree in words
  pub in_tree_says : (k : ℕ) → in_tree p t k ≡ true → (used p Jobs k ≡ true) × Under p t k
  unfolding in_tree
  in_tree_says k h = let x = both (used p Jobs k) _ h in (x.0, climbs_under (positions Jobs) k x.0 x.1)

  pub in_tree_has : (k : ℕ) → used p Jobs k ≡ true → Under p t k → in_tree p t k ≡ true
  unfolding in_tree
  in_tree_has k u w = rw u (climbs_all (positions Jobs) k u (rank_within p k) w)

  -- a bit of the tree: a live job of the tree, and nothing else
  pub tree_says : (k : ℕ) → k < positions Jobs → bit (tree p t) k ≡ true → (used p Jobs k ≡ true) × Under p t k
  tree_says k l h = in_tree_says k (sym (tree_bit k l) ∙ h)

  pub tree_has : (k : ℕ) → used p Jobs k ≡ true → Under p t k → bit (tree p t) k ≡ true
  tree_has k u w = tree_bit k (used_below p Jobs k u) ∙ in_tree_has k u w

  -- the job itself
  pub tree_top : used p Jobs t ≡ true → bit (tree p t) t ≡ true
  tree_top u = tree_has t u (Under.top refl)

  -- the jobs that a member owns
  pub tree_child : (k j : ℕ) → used p Jobs k ≡ true → used p Jobs j ≡ true → owner p Jobs k ≡ number p Jobs j → bit (tree p t) j ≡ true → bit (tree p t) k ≡ true
  tree_child k j u v e h = tree_has k u (Under.owned v e (tree_says j (used_below p Jobs j v) h).1)

  -- a member other than the job itself is owned by a member
  pub tree_owner : (k : ℕ) → k < positions Jobs → bit (tree p t) k ≡ true → (k ≡ t) ⊎ ((j : ℕ) × ((used p Jobs j ≡ true) × ((owner p Jobs k ≡ number p Jobs j) × (bit (tree p t) j ≡ true))))
  tree_owner k l h = go (tree_says k l h).1
    where
      go : Under p t k → (k ≡ t) ⊎ ((j : ℕ) × ((used p Jobs j ≡ true) × ((owner p Jobs k ≡ number p Jobs j) × (bit (tree p t) j ≡ true))))
      go (Under.top e) = inl e
      go (Under.owned {j = j} v e w) = inr (j, (v, (e, tree_has j v w)))

  -- an unowned job is in no tree but its own: job 0 stays
  pub tree_unowned : (k : ℕ) → k < positions Jobs → owner p Jobs k ≡ nobody → (k ≡ t → ⊥) → bit (tree p t) k ≡ false
  tree_unowned k l e n = go (bit (tree p t) k) refl
    where
      go : (b : Bool) → bit (tree p t) k ≡ b → b ≡ false
      go true z = absurd (⊎_elim n (λ o. nobody_is_no_job p o.0 O o.1.0 (sym o.1.1.0 ∙ e)) (tree_owner k l z))
      go false z = refl
