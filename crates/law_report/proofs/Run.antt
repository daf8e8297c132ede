-- The lines from a member on, one behind the other.
use Prim.Native.Nat.{ℕ, zero, suc, ◌<◌, ◌≤◌}
use mathlib.Core.Path.{◌≡◌, refl, sym, ap, ◌∙◌}
use mathlib.Core.Bool.{Bool, true, false}
use mathlib.Core.Logic.{⊎_elim}
use mathlib.Core.List.{List, [], ◌∷◌}
use lib.Dec.{eqb}
use lib.ListN.{length}
use native.Mathlib.Omega.{arith}
use borrow.Author.Tests.{eqb-true, eqb-false}
use Rattle.words.proofs.Tests.{lt_or_ge}
use Rattle.picture.specs.Records.{number, used}
use Rattle.picture.specs.Numbers.{tag, position}
use Rattle.picture.specs.declared.Table.TheVariants.{Jobs}
use Rattle.sound.specs.Sound.{sound}
use Rattle.tree.specs.Tree.{tree}
use Rattle.law_owners.specs.Under.{Under}
use Rattle.law_asking.proofs.Answer.{next_of_the_tree}
use Rattle.report_lines.specs.declared.JobLine.{JobLine}
use Rattle.report_lines.specs.Line.{line}
use Rattle.report_lines.specs.Order.{next, lines_from}
use Rattle.law_report.specs.Lines.{at}
use Rattle.law_report.proofs.Members.{Member, left, tag_names, none_left, next_is_member, one_less}

-- the lines of the members from the job of number n on
pub data Run (p : List ℕ) (t : ℕ) : ℕ → List JobLine → Type 0 where
  last : {n : ℕ} → Member p t n → next p (tree p t) n ≡ 0 → Run p t n (line p t n ∷ [])
  more : {n : ℕ} {ls : List JobLine} → Member p t n → (next p (tree p t) n ≡ 0 → ⊥) → tag n < tag (next p (tree p t) n) → Run p t (next p (tree p t) n) ls → Run p t n (line p t n ∷ ls)

module _ (p : List ℕ) (s : sound p ≡ true) (t : ℕ) where
  -- a line for the member n and for each that is left behind it
  pub runs : (i n : ℕ) → Member p t n → i ≡ left p t (tag n) → Run p t n (lines_from (suc i) p (tree p t) t n)
  unfolding lines_from next
  runs zero n M e = go (eqb (next p (tree p t) n) 0) refl
    where
      go : (b : Bool) → eqb (next p (tree p t) n) 0 ≡ b → Run p t n (line p t n ∷ [])
      go true z = Run.last M (eqb-true _ 0 z)
      go false z = let x = one_less p s t (tag n) (eqb-false _ 0 z) in absurd (omega arith)
  runs (suc i) n M e = go (runs i (next p (tree p t) n)) (eqb (next p (tree p t) n) 0) refl
    where
      go : (Member p t (next p (tree p t) n) → i ≡ left p t (tag (next p (tree p t) n)) → Run p t (next p (tree p t) n) (lines_from (suc i) p (tree p t) t (next p (tree p t) n)))
          → (b : Bool) → eqb (next p (tree p t) n) 0 ≡ b → Run p t n (line p t n ∷ lines_from (suc i) p (tree p t) t (next p (tree p t) n))
      go again true z = let x = none_left p s t (tag n) (eqb-true _ 0 z) in absurd (omega arith)
      go again false z =
          let y = eqb-false _ 0 z in
          let x = one_less p s t (tag n) y in
          let N = next_is_member p s t (tag n) y in
          Run.more M y N.1 (again N.0 (omega arith))

-- a line of a run is a member's
pub record Of (p : List ℕ) (t : ℕ) (l : JobLine) : Type 0 where
  pub member : Member p t l.number
  pub is_line : l ≡ line p t l.number

module _ (p : List ℕ) (t : ℕ) where
  line_of : (n : ℕ) → Member p t n → Of p t (line p t n)
  unfolding line
  line_of n M = record { member = M; is_line = refl }

  pub run_of : (n : ℕ) (ls : List JobLine) → Run p t n ls → (i : ℕ) → i < length ls → Of p t (at ls i)
  run_of n ls (Run.last {n = m} M z) zero l = line_of m M
  run_of n ls (Run.last {n = m} M z) (suc i) l = absurd (omega arith)
  run_of n ls (Run.more {n = m} M z g R) zero l = line_of m M
  run_of n ls (Run.more {n = m} {ls = k} M z g R) (suc i) l = run_of _ k R i (omega arith)

  pub run_first : (n : ℕ) (ls : List JobLine) → Run p t n ls → (0 < length ls) × (at ls 0 ≡ line p t n)
  run_first n ls (Run.last M z) = (omega arith, refl)
  run_first n ls (Run.more M z g R) = (omega arith, refl)

  -- no tag is below the first one's
  run_floor : (n : ℕ) (ls : List JobLine) → Run p t n ls → (i : ℕ) → i < length ls → tag n ≤ tag (at ls i).number
  unfolding line
  run_floor n ls (Run.last M z) zero l = omega arith
  run_floor n ls (Run.last M z) (suc i) l = absurd (omega arith)
  run_floor n ls (Run.more M z g R) zero l = omega arith
  run_floor n ls (Run.more {ls = k} M z g R) (suc i) l = let r = run_floor _ k R i (omega arith) in omega arith

  pub run_rises : (n : ℕ) (ls : List JobLine) → Run p t n ls → (i j : ℕ) → i < j → j < length ls → tag (at ls i).number < tag (at ls j).number
  unfolding line
  run_rises n ls (Run.last M z) i j l m = absurd (omega arith)
  run_rises n ls (Run.more M z g R) i zero l m = absurd (omega arith)
  run_rises n ls (Run.more {ls = k} M z g R) zero (suc j) l m = let r = run_floor _ k R j (omega arith) in omega arith
  run_rises n ls (Run.more {ls = k} M z g R) (suc i) (suc j) l m = run_rises _ k R i j (omega arith) (omega arith)

-- each member from the first one's tag on has a line
module _ (p : List ℕ) (s : sound p ≡ true) (t : ℕ) where
  abbrev Has : List JobLine → ℕ → Type 0
  Has ls n = (i : ℕ) × ((i < length ls) × ((at ls i).number ≡ n))

  first_has : (n : ℕ) (ls : List JobLine) → Member p t n → (k : ℕ) → used p Jobs k ≡ true → tag (number p Jobs k) ≡ tag n → Has (line p t n ∷ ls) (number p Jobs k)
  unfolding line
  first_has n ls M k u e =
      let q = tag_names p s t k (position n) u M.lives (e ∙ ap tag (sym M.names)) in
      (0, (omega arith, sym M.names ∙ ap (λ (j : ℕ). number p Jobs j) (sym q)))

  pub run_each : (n : ℕ) (ls : List JobLine) → Run p t n ls → (k : ℕ) → used p Jobs k ≡ true → Under p t k → tag n ≤ tag (number p Jobs k) → Has ls (number p Jobs k)
  unfolding next
  run_each n ls (Run.last {n = m} M z) k u w l = ⊎_elim
      (λ (x : tag m < tag (number p Jobs k)). absurd (((next_of_the_tree p s t (tag m)).least k u w x).0 z))
      (λ (x : tag (number p Jobs k) ≤ tag m). first_has m [] M k u (omega arith))
      (lt_or_ge (tag m) (tag (number p Jobs k)))
  run_each n ls (Run.more {n = m} {ls = h} M z g R) k u w l = ⊎_elim
      (λ (x : tag m < tag (number p Jobs k)). let r = run_each _ h R k u w ((next_of_the_tree p s t (tag m)).least k u w x).1 in (suc r.0, (omega (arith, r.1.0), r.1.1)))
      (λ (x : tag (number p Jobs k) ≤ tag m). first_has m h M k u (omega arith))
      (lt_or_ge (tag m) (tag (number p Jobs k)))
