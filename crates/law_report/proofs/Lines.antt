-- A run from the top on has the lines of the tree.
use Prim.Native.Nat.{ℕ, suc, ◌<◌, ◌≤◌}
use mathlib.Core.Path.{◌≡◌, refl, sym, ap, ◌∙◌, subst}
use mathlib.Core.Bool.{Bool, true, false, not}
use mathlib.Core.Logic.{⊎_elim}
use mathlib.Core.List.{List}
use lib.IntN.{pos}
use lib.ListN.{length}
use native.Mathlib.Omega.{arith}
use native.Mathlib.Nat.{eq-or-lt_of_le}
use Rattle.words.specs.Signed.{eq_z}
use Rattle.words.proofs.Signed.{eq_z_true, eq_eq_z}
use Rattle.words.proofs.Tests.{lt_or_ge}
use Rattle.picture.specs.Records.{number, owner, timeout, used}
use Rattle.picture.specs.Numbers.{tag, position, live}
use Rattle.picture.specs.declared.Table.TheVariants.{Jobs}
use Rattle.picture.proofs.Numbers.{live_is}
use Rattle.sound.specs.Sound.{sound}
use Rattle.tree.specs.Tree.{tree}
use Rattle.law_owners.specs.Under.{Under}
use Rattle.law_owners.proofs.Owners.{owners_in_order}
use Rattle.report_lines.specs.declared.JobLine.{JobLine}
use Rattle.report_lines.specs.Line.{depth, line}
use Rattle.report_lines.specs.Order.{size, lines_from}
use Rattle.report_lines.specs.Report.{tree_lines}
use Rattle.report_lines.proofs.Order.{length_lines}
use Rattle.law_report.specs.Lines.{at, Tells, Lines, LinesOfTheTree}
use Rattle.law_report.specs.Causes.{AsManyLinesAsMembers}
use Rattle.law_report.proofs.Members.{Member, left, owner_older, top_oldest, size_is}
use Rattle.law_report.proofs.Depth.{depth_of_top, depth_of_owned}
use Rattle.law_report.proofs.Run.{Run, runs, Of, run_of, run_first, run_rises, run_each}
use Rattle.law_report.proofs.Causes.{lines_told, report_only_for_its_cause}

-- what the line of a member tells
tells_line : (p : List ℕ) (t n : ℕ) → Member p t n → Tells p t (position n) (line p t n)
unfolding line
tells_line p t n M = record {
  lives = M.lives;
  under = M.under;
  its_number = sym M.names;
  its_owner = refl;
  its_priority = refl;
  awake = λ e. ap not (eq_eq_z (timeout p (position n)) (pos 0) e);
  suspended = λ d. go d (eq_z (timeout p (position n)) (pos 0)) refl;
}
  where
    go : (timeout p (position n) ≡ pos 0 → ⊥) → (b : Bool) → eq_z (timeout p (position n)) (pos 0) ≡ b → not b ≡ true
    go d true e = absurd (d (eq_z_true (timeout p (position n)) (pos 0) e))
    go d false e = refl

tells : (p : List ℕ) (t : ℕ) (l : JobLine) → Of p t l → Tells p t (position l.number) l
tells p t l o = subst (λ (x : JobLine). Tells p t (position l.number) x) (sym o.is_line) (tells_line p t l.number o.member)

-- its depth
depth_told : (p : List ℕ) (t : ℕ) (l : JobLine) → Of p t l → l.depth ≡ depth p t (position l.number)
unfolding line
depth_told p t l o = ap (λ (x : JobLine). x.depth) o.is_line

module _ (p : List ℕ) (s : sound p ≡ true) (t top : ℕ) (T : Member p t top) (z : position top ≡ t) (ls : List JobLine) (R : Run p t top ls) where
  first_number : (at ls 0).number ≡ top
  unfolding line
  first_number = ap (λ (x : JobLine). x.number) (run_first p t top ls R).1

  top_number : number p Jobs t ≡ top
  top_number = ap (λ (k : ℕ). number p Jobs k) (sym z) ∙ T.names

  first_depth : (at ls 0).depth ≡ 0
  unfolding line
  first_depth = ap (λ (x : JobLine). x.depth) (run_first p t top ls R).1 ∙ ap (λ (k : ℕ). depth p t k) z ∙ depth_of_top p s t

  each_line : (k : ℕ) → used p Jobs k ≡ true → Under p t k → (i : ℕ) × ((i < length ls) × ((at ls i).number ≡ number p Jobs k))
  each_line k u w = run_each p s t top ls R k u w (⊎_elim
      (λ (e : k ≡ t). let q : top ≡ number p Jobs k = sym (ap (λ (j : ℕ). number p Jobs j) e ∙ top_number) in omega (arith, ap tag q))
      (λ (l : tag (number p Jobs t) < tag (number p Jobs k)). omega (arith, ap tag top_number))
      (top_oldest p s t k u w))

  once_each : (i j : ℕ) → i < length ls → j < length ls → (at ls i).number ≡ (at ls j).number → i ≡ j
  once_each i j l m e = ⊎_elim
      (λ (x : i < j). absurd (omega (arith, run_rises p t top ls R i j x m, ap tag e)))
      (λ (x : j ≤ i). ⊎_elim
      (λ (y : j ≡ i). sym y)
      (λ (y : j < i). absurd (omega (arith, run_rises p t top ls R j i y l, ap tag e)))
      (eq-or-lt_of_le x))
      (lt_or_ge i j)

  -- the line of a smaller tag stands before
  before : (i j : ℕ) → i < length ls → j < length ls → tag (at ls j).number < tag (at ls i).number → j < i
  before i j l m x = ⊎_elim
      (λ y. y)
      (λ (y : i ≤ j). ⊎_elim
      (λ (e : i ≡ j). absurd (omega (arith, ap (λ (k : ℕ). tag (at ls k).number) e)))
      (λ (e : i < j). absurd (omega (arith, run_rises p t top ls R i j e m)))
      (eq-or-lt_of_le y))
      (lt_or_ge j i)

  deeper_by_one : (i : ℕ) → 0 < i → i < length ls → (j : ℕ) × ((j < i) × (((at ls i).owner ≡ (at ls j).number) × ((at ls i).depth ≡ suc (at ls j).depth)))
  deeper_by_one i l m = go T'.under
    where
      o : Of p t (at ls i)
      o = run_of p t top ls R i m

      T' : Tells p t (position (at ls i).number) (at ls i)
      T' = tells p t (at ls i) o

      not_top : position (at ls i).number ≡ t → ⊥
      not_top e = omega (arith, run_rises p t top ls R 0 i l m, ap tag first_number, ap tag (T'.its_number ∙ ap (λ (k : ℕ). number p Jobs k) e ∙ top_number))

      go : Under p t (position (at ls i).number) → (j : ℕ) × ((j < i) × (((at ls i).owner ≡ (at ls j).number) × ((at ls i).depth ≡ suc (at ls j).depth)))
      go (Under.top e) = absurd (not_top e)
      go (Under.owned {j = k} v e w) =
          let f = each_line k v w in
          let j = f.0 in
          let old = owner_older p s t (position (at ls i).number) k T'.lives v e in
          let q : position (at ls j).number ≡ k = ap position f.1.1 ∙ (owners_in_order p s).place k v in (
            j,
            (
              before i j m f.1.0 (omega (arith, ap tag f.1.1, ap tag T'.its_number)),
              (
                T'.its_owner ∙ e ∙ sym f.1.1,
                depth_told p t (at ls i) o
                    ∙ depth_of_owned p s t (position (at ls i).number) k not_top T'.lives T'.under v e
                    ∙ ap suc (ap (λ (x : ℕ). depth p t x) (sym q) ∙ sym (depth_told p t (at ls j) (run_of p t top ls R j f.1.0))),
              ),
            ),
          )

  lines_of_run : Lines p t ls
  lines_of_run = record {
    only = λ i l. (position (at ls i).number, tells p t (at ls i) (run_of p t top ls R i l));
    each = each_line;
    once = once_each;
    rising = run_rises p t top ls R;
    first = ((run_first p t top ls R).0, (first_number ∙ sym top_number, first_depth));
    deeper = deeper_by_one;
  }

-- a live job is the top of its tree
module _ (p : List ℕ) (top : ℕ) (s : sound p ≡ true) (l : live p Jobs top ≡ true) where
  pub top_member : Member p (position top) top
  top_member = let L = live_is p Jobs top l in record { lives = L.used; names = L.names; under = Under.top refl }

  pub tree_run : Run p (position top) top (tree_lines p (position top) top)
  unfolding tree_lines
  tree_run =
      let e : size (tree p (position top)) ≡ suc (left p (position top) (tag top)) = size_is p s (position top) top_member.lives ∙ ap (λ (n : ℕ). suc (left p (position top) (tag n))) top_member.names in
      subst (λ (i : ℕ). Run p (position top) top (lines_from i p (tree p (position top)) (position top) top)) (sym e) (runs p s (position top) (left p (position top) (tag top)) top top_member refl)

  tree_has_lines : Lines p (position top) (tree_lines p (position top) top)
  tree_has_lines = lines_of_run p s (position top) top top_member refl (tree_lines p (position top) top) tree_run

pub as_many_lines_as_members : AsManyLinesAsMembers
unfolding tree_lines
as_many_lines_as_members p top s l = (tree_has_lines p top s l, length_lines p (tree p (position top)) (position top) (size (tree p (position top))) top)

pub lines_of_the_tree : LinesOfTheTree
lines_of_the_tree p top lent e =
    let w = (report_only_for_its_cause p top lent).told.only e in
    rw (lines_told p top lent e w.1.0) (tree_has_lines p top w.0 w.1.0)
