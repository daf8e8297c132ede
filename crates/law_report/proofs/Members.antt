-- The members of a tree in order of tag: how many are left behind one of them.
use Prim.Native.Nat.{ℕ, suc, ◌<◌, ◌≤◌}
use mathlib.Core.Path.{◌≡◌, refl, sym, ap, ◌∙◌, subst}
use mathlib.Core.Bool.{Bool, true, false, ◌&&◌}
use mathlib.Core.Logic.{⊎_elim, ◌⊎◌, inl, inr}
use mathlib.Core.List.{List}
use lib.Dec.{ltb}
use native.Mathlib.Omega.{arith}
use borrow.Author.Tests.{ltb-true, lt-ltb, le-ltb}
use Rattle.words.specs.Bits.{bit}
use Rattle.words.specs.Each.{count}
use Rattle.words.proofs.Tests.{both, same_test, fails_right, lt_or_ge}
use Rattle.words.proofs.Each.{count_some}
use Rattle.picture.specs.Layout.{positions}
use Rattle.picture.specs.Records.{number, owner, used}
use Rattle.picture.specs.Numbers.{tag, position}
use Rattle.picture.specs.declared.Table.TheVariants.{Jobs}
use Rattle.picture.proofs.Records.{used_below}
use Rattle.sound.specs.Sound.{sound}
use Rattle.sound_facts.proofs.View.{view}
use Rattle.tree.specs.Tree.{tree}
use Rattle.law_owners.specs.Under.{Under}
use Rattle.law_owners.proofs.Owners.{Owners, nobody_is_no_job, owners_in_order}
use Rattle.law_owners.proofs.Members.{tree_says, tree_has}
use Rattle.asking.specs.Next.{next_member}
use Rattle.law_asking.proofs.Answer.{next_of_the_tree}
use Rattle.report_lines.specs.Order.{size}
use Rattle.law_report.proofs.Counts.{count_past}

-- n is the number of a live job in the tree of the job at position t
pub record Member (p : List ℕ) (t n : ℕ) : Type 0 where
  pub lives : used p Jobs (position n) ≡ true
  pub names : number p Jobs (position n) ≡ n
  pub under : Under p t (position n)

-- the job at position k is of the set m and has a greater tag than g
unfoldable pub later : List ℕ → ℕ → ℕ → ℕ → Bool
later p m g k = bit m k && ltb g (tag (number p Jobs k))

-- how many of the tree of the job at position t have a greater tag than g
unfoldable pub left : List ℕ → ℕ → ℕ → ℕ
left p t g = count (later p (tree p t) g) (positions Jobs)

module _ (p : List ℕ) (s : sound p ≡ true) (t : ℕ) where
  O : Owners p
  O = owners_in_order p s

  -- an owner is older
  pub owner_older : (k j : ℕ) → used p Jobs k ≡ true → used p Jobs j ≡ true → owner p Jobs k ≡ number p Jobs j → tag (number p Jobs j) < tag (number p Jobs k)
  owner_older k j u v e = ⊎_elim
      (λ n. absurd (nobody_is_no_job p j O v (sym e ∙ n)))
      (λ w. subst (λ (x : ℕ). tag x < tag (number p Jobs k)) e w.1)
      (O.older k u)

  -- the top is the oldest
  pub top_oldest : (k : ℕ) → used p Jobs k ≡ true → Under p t k → (k ≡ t) ⊎ (tag (number p Jobs t) < tag (number p Jobs k))
  top_oldest k u (Under.top e) = inl e
  top_oldest k u (Under.owned {j = j} v e w) =
      let o = owner_older k j u v e in
      inr (⊎_elim
      (λ (z : j ≡ t). subst (λ (i : ℕ). tag (number p Jobs i) < tag (number p Jobs k)) z o)
      (λ l. omega arith)
      (top_oldest j v w))

  -- a job of the tree is a member by its number
  pub member_at : (k : ℕ) → used p Jobs k ≡ true → Under p t k → Member p t (number p Jobs k)
  member_at k u w = let e = sym (O.place k u) in record {
    lives = subst (λ (i : ℕ). used p Jobs i ≡ true) e u;
    names = ap (λ (i : ℕ). number p Jobs i) (sym e);
    under = subst (λ (i : ℕ). Under p t i) e w;
  }

  -- members with one tag are the same
  pub tag_names : (j k : ℕ) → used p Jobs j ≡ true → used p Jobs k ≡ true → tag (number p Jobs j) ≡ tag (number p Jobs k) → j ≡ k
  tag_names j k u v e = (view p s).jobs.entries.once j k u v e

  is_later : (g k : ℕ) → used p Jobs k ≡ true → Under p t k → g < tag (number p Jobs k) → later p (tree p t) g k ≡ true
  unfolding later
  is_later g k u w l = rw (tree_has p O t k u w, lt-ltb g (tag (number p Jobs k)) l)

  not_later : (g k : ℕ) → tag (number p Jobs k) ≤ g → later p (tree p t) g k ≡ false
  unfolding later
  not_later g k l = fails_right (bit (tree p t) k) _ (le-ltb g (tag (number p Jobs k)) l)

  later_says : (g k : ℕ) → k < positions Jobs → later p (tree p t) g k ≡ true → (used p Jobs k ≡ true) × (Under p t k × (g < tag (number p Jobs k)))
  unfolding later
  later_says g k l h = let b = both (bit (tree p t) k) _ h in let m = tree_says p O t k l b.0 in (m.0, (m.1, ltb-true g (tag (number p Jobs k)) b.1))

  abbrev next : ℕ → ℕ
  next g = next_member p (tree p t) g

  -- behind the last member none is left
  pub none_left : (g : ℕ) → next_member p (tree p t) g ≡ 0 → left p t g ≡ 0
  unfolding left
  none_left g z = ⊎_elim
      (λ (l : 0 < left p t g).
      let c = count_some (later p (tree p t) g) (positions Jobs) l in
      let m = later_says g c.0 c.1.0 c.1.1 in
      absurd (((next_of_the_tree p s t g).least c.0 m.0 m.1.0 m.1.1).0 z))
      (λ l. omega arith)
      (lt_or_ge 0 (left p t g))

  -- the next member, where there is one
  pub next_is_member : (g : ℕ) → (next_member p (tree p t) g ≡ 0 → ⊥) → Member p t (next_member p (tree p t) g) × (g < tag (next_member p (tree p t) g))
  next_is_member g n = ⊎_elim
      (λ z. absurd (n z))
      (λ w. (subst (λ (x : ℕ). Member p t x) (sym w.1.1.1.0) (member_at w.0 w.1.0 w.1.1.0), w.1.1.1.1))
      (next_of_the_tree p s t g).some

  -- and behind it one less is left
  pub one_less : (g : ℕ) → (next_member p (tree p t) g ≡ 0 → ⊥) → left p t g ≡ suc (left p t (tag (next_member p (tree p t) g)))
  unfolding left
  one_less g n =
      let M = next_is_member g n in
      let k = position (next g) in
      let e : tag (number p Jobs k) ≡ tag (next g) = ap tag M.0.names in
      count_past (later p (tree p t) g) (later p (tree p t) (tag (next g))) k (positions Jobs) (used_below p Jobs k M.0.lives)
      (is_later g k M.0.lives M.0.under (subst (λ (x : ℕ). g < x) (sym e) M.1))
      (not_later (tag (next g)) k (subst (λ (x : ℕ). tag (number p Jobs k) ≤ x) e (omega arith)))
      (λ j l d. same_test (later p (tree p t) g j) (later p (tree p t) (tag (next g)) j)
      (λ h. let m = later_says g j l h in is_later (tag (next g)) j m.0 m.1.0 (apart j m.0 d ((next_of_the_tree p s t g).least j m.0 m.1.0 m.1.1).1))
      (λ h. let m = later_says (tag (next g)) j l h in let a = M.1 in let b = m.1.1 in is_later g j m.0 m.1.0 (omega arith)))
    where
      apart : (j : ℕ) → used p Jobs j ≡ true → (j ≡ position (next g) → ⊥) → tag (next g) ≤ tag (number p Jobs j) → tag (next g) < tag (number p Jobs j)
      apart j u d l = ⊎_elim
          (λ x. x)
          (λ (x : tag (number p Jobs j) ≤ tag (next g)).
          let M = (next_is_member g n).0 in
          let q : tag (number p Jobs j) ≡ tag (next g) = omega arith in
          absurd (d (tag_names j (position (next g)) u M.lives (q ∙ ap tag (sym M.names)))))
          (lt_or_ge (tag (next g)) (tag (number p Jobs j)))

  -- the top and all that are left behind it are the tree
  pub size_is : used p Jobs t ≡ true → size (tree p t) ≡ suc (left p t (tag (number p Jobs t)))
  unfolding left size
  size_is u = count_past (bit (tree p t)) (later p (tree p t) (tag (number p Jobs t))) t (positions Jobs) (used_below p Jobs t u)
      (tree_has p O t t u (Under.top refl))
      (not_later (tag (number p Jobs t)) t (omega arith))
      (λ j l d. same_test (bit (tree p t) j) (later p (tree p t) (tag (number p Jobs t)) j)
      (λ h. let m = tree_says p O t j l h in is_later (tag (number p Jobs t)) j m.0 m.1 (⊎_elim (λ z. absurd (d z)) (λ x. x) (top_oldest j m.0 m.1)))
      (λ h. let m = later_says (tag (number p Jobs t)) j l h in tree_has p O t j m.0 m.1.0))
