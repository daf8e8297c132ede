-- The key of a report by its three tests, and what it has for lines.
use Prim.Native.Nat.{ℕ, ◌≤◌, ◌<◌}
use mathlib.Core.Path.{◌≡◌, refl, sym, ◌∙◌}
use mathlib.Core.Bool.{Bool, true, false, cond}
use mathlib.Core.List.{List, []}
use lib.IntN.{ℤ}
use lib.Dec.{leb}
use native.Mathlib.Omega.{arith}
use borrow.Author.Tests.{leb-true, leb-false}
use Rattle.words.specs.Signed.{eq_z}
use Rattle.words.proofs.Signed.{eq_z_true, eq_eq_z}
use Rattle.words.proofs.Tests.{false_true}
use Rattle.picture.specs.Keys.{done, invalid_job, buffer_overflow, not_sound}
use Rattle.picture.specs.Numbers.{position, live, job_at, entry_at}
use Rattle.picture.specs.declared.Table.TheVariants.{Jobs}
use Rattle.std.proofs.Common.{Option, Some, None}
use Rattle.sound.specs.Sound.{sound}
use Rattle.calls.specs.Found.{job_check, job_place}
use Rattle.calls.proofs.Call.{keys_differ}
use Rattle.calls.proofs.Found.{job_stands}
use Rattle.tree.specs.Tree.{tree}
use Rattle.report_lines.specs.Order.{size}
use Rattle.report_lines.specs.Report.{tree_lines, report_checks, report_key, report_lines}
use Rattle.law_report.specs.Causes.{Exactly, ReportKeys, ReportOnlyForItsCause}

-- where the cause is there, and where another key is given
here : (cause : Type 0) (key k : ℤ) → key ≡ k → cause → Exactly cause key k
here cause key k e c = record { given = λ _. e; only = λ _. c }

elsewhere : (cause : Type 0) (key j k : ℤ) → key ≡ j → (j ≡ k → ⊥) → (cause → ⊥) → Exactly cause key k
elsewhere cause key j k e d n = record { given = λ c. absurd (n c); only = λ z. absurd (d (sym e ∙ z)) }

module _ (p : List ℕ) (top lent : ℕ) where
  abbrev enough : Bool
  enough = leb (size (tree p (position top))) lent

  key_by_tests : report_key p top lent ≡ cond (sound p) (cond (live p Jobs top) (cond enough done buffer_overflow) invalid_job) not_sound
  unfolding report_key report_checks entry_at
  key_by_tests = go (live p Jobs top)
    where
      found : Bool → Option ℕ
      found b = cond b (Some (position top)) None

      go : (b : Bool) → cond (sound p) (cond (job_check (found b)).0 (cond (leb (size (tree p (job_place (found b)))) lent) done buffer_overflow) (job_check (found b)).1) not_sound
          ≡ cond (sound p) (cond b (cond enough done buffer_overflow) invalid_job) not_sound
      go true = refl
      go false = refl

  no_line_with : (report_key p top lent ≡ done → ⊥) → report_lines p top lent ≡ []
  unfolding report_lines
  no_line_with n = go (eq_z (report_key p top lent) done) refl
    where
      go : (b : Bool) → eq_z (report_key p top lent) done ≡ b → cond b (tree_lines p (job_place (job_at p top)) top) [] ≡ []
      go true e = absurd (n (eq_z_true (report_key p top lent) done e))
      go false e = refl

  -- each key exactly for its cause
  keys : (a b c : Bool) → sound p ≡ a → live p Jobs top ≡ b → enough ≡ c → report_key p top lent ≡ cond a (cond b (cond c done buffer_overflow) invalid_job) not_sound → ReportKeys p top lent
  keys false b c s l e k = record {
    unsound = here _ _ not_sound k s;
    dead = elsewhere _ _ not_sound invalid_job k (keys_differ not_sound invalid_job (λ z. omega arith)) (λ x. false_true (sym s ∙ x.0));
    short = elsewhere _ _ not_sound buffer_overflow k (keys_differ not_sound buffer_overflow (λ z. omega arith)) (λ x. false_true (sym s ∙ x.0));
    told = elsewhere _ _ not_sound done k (keys_differ not_sound done (λ z. omega arith)) (λ x. false_true (sym s ∙ x.0));
    no_line = no_line_with;
  }
  keys true false c s l e k = record {
    unsound = elsewhere _ _ invalid_job not_sound k (keys_differ invalid_job not_sound (λ z. omega arith)) (λ x. false_true (sym x ∙ s));
    dead = here _ _ invalid_job k (s, l);
    short = elsewhere _ _ invalid_job buffer_overflow k (keys_differ invalid_job buffer_overflow (λ z. omega arith)) (λ x. false_true (sym l ∙ x.1.0));
    told = elsewhere _ _ invalid_job done k (keys_differ invalid_job done (λ z. omega arith)) (λ x. false_true (sym l ∙ x.1.0));
    no_line = no_line_with;
  }
  keys true true false s l e k = let m : lent < size (tree p (position top)) = leb-false (size (tree p (position top))) lent e in record {
    unsound = elsewhere _ _ buffer_overflow not_sound k (keys_differ buffer_overflow not_sound (λ z. omega arith)) (λ x. false_true (sym x ∙ s));
    dead = elsewhere _ _ buffer_overflow invalid_job k (keys_differ buffer_overflow invalid_job (λ z. omega arith)) (λ x. false_true (sym x.1 ∙ l));
    short = here _ _ buffer_overflow k (s, (l, omega arith));
    told = elsewhere _ _ buffer_overflow done k (keys_differ buffer_overflow done (λ z. omega arith)) (λ x. omega arith);
    no_line = no_line_with;
  }
  keys true true true s l e k = let m : size (tree p (position top)) ≤ lent = leb-true (size (tree p (position top))) lent e in record {
    unsound = elsewhere _ _ done not_sound k (keys_differ done not_sound (λ z. omega arith)) (λ x. false_true (sym x ∙ s));
    dead = elsewhere _ _ done invalid_job k (keys_differ done invalid_job (λ z. omega arith)) (λ x. false_true (sym x.1 ∙ l));
    short = elsewhere _ _ done buffer_overflow k (keys_differ done buffer_overflow (λ z. omega arith)) (λ x. omega arith);
    told = here _ _ done k (s, (l, omega arith));
    no_line = no_line_with;
  }

  -- the lines of a report that answers 0 are those of the tree
  pub lines_told : report_key p top lent ≡ done → live p Jobs top ≡ true → report_lines p top lent ≡ tree_lines p (position top) top
  unfolding report_lines
  lines_told e l = rw (eq_eq_z (report_key p top lent) done e, job_stands p top l)

pub report_only_for_its_cause : ReportOnlyForItsCause
report_only_for_its_cause p top lent = keys p top lent (sound p) (live p Jobs top) (enough p top lent) refl refl refl (key_by_tests p top lent)
