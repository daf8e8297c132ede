-- Where a report begins, by each way out of its checks.
use Prim.Native.Nat.{ℕ, ◌≤◌, ◌<◌}
use mathlib.Core.Path.{◌≡◌, refl, sym}
use mathlib.Core.Bool.{Bool, true, false}
use mathlib.Core.List.{List, []}
use lib.Dec.{leb}
use lib.ListN.{length}
use native.Mathlib.Omega.{arith}
use borrow.Author.Tests.{le-leb, lt-leb, leb-true, leb-false}
use Rattle.picture.specs.Keys.{done}
use Rattle.picture.specs.Numbers.{job_at}
use Rattle.picture.specs.declared.Refusal.TheVariants.{InvalidJob, BufferOverflow, NotSound}
use Rattle.std.proofs.Common.{Option, Some, None, Err}
use Rattle.sound.specs.Sound.{sound}
use Rattle.tree.specs.Tree.{tree}
use Rattle.report_lines.specs.Order.{size, lines_from}
use Rattle.report_lines.specs.Report.{tree_lines, report_checks, report_key, report_lines, Begins}
use Rattle.report_lines.proofs.Order.{length_lines}

module _ (p : List ℕ) (top lent : ℕ) where
  pub where_unsound : sound p ≡ false → Begins p top lent (Err NotSound)
  unfolding report_lines report_key report_checks
  where_unsound s = (rw s, rw s)

  pub where_dead : sound p ≡ true → job_at p top ≡ None → Begins p top lent (Err InvalidJob)
  unfolding report_lines report_key report_checks
  where_dead s d = (rw (s, d), rw (s, d))

  pub where_short : sound p ≡ true → (k : ℕ) → job_at p top ≡ Some k → lent < size (tree p k) → Begins p top lent (Err BufferOverflow)
  unfolding report_lines report_key report_checks
  where_short s k a l = (rw (s, a, lt-leb _ _ l), rw (s, a, lt-leb _ _ l))

  pub where_told : sound p ≡ true → (k : ℕ) → job_at p top ≡ Some k → size (tree p k) ≤ lent
      → (done ≡ report_key p top lent) × (size (tree p k) ≤ lent) × (lines_from (size (tree p k)) p (tree p k) k top ≡ report_lines p top lent)
  unfolding report_lines report_key report_checks tree_lines
  where_told s k a l = (rw (s, a, le-leb _ _ l), l, rw (s, a, le-leb _ _ l))

-- no more lines are written than are lent
pub lines_within : (p : List ℕ) (top lent : ℕ) → length (report_lines p top lent) ≤ lent
lines_within p top lent = by_soundness (sound p) refl
  where
    none : report_lines p top lent ≡ [] → length (report_lines p top lent) ≤ lent
    none z = rw z (omega arith)

    by_length : (k : ℕ) → sound p ≡ true → job_at p top ≡ Some k → (b : Bool) → leb (size (tree p k)) lent ≡ b → length (report_lines p top lent) ≤ lent
    by_length k s a true l = let b = where_told p top lent s k a (leb-true _ _ l) in rw (← b.2, length_lines p (tree p k) k (size (tree p k)) top) (leb-true _ _ l)
    by_length k s a false l = none (sym (where_short p top lent s k a (leb-false _ _ l)).1)

    by_job : sound p ≡ true → (j : Option ℕ) → job_at p top ≡ j → length (report_lines p top lent) ≤ lent
    by_job s (Some k) a = by_length k s a (leb (size (tree p k)) lent) refl
    by_job s None a = none (sym (where_dead p top lent s a).1)

    by_soundness : (b : Bool) → sound p ≡ b → length (report_lines p top lent) ≤ lent
    by_soundness true s = by_job s (job_at p top) refl
    by_soundness false s = none (sym (where_unsound p top lent s).1)
