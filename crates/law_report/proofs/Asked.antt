-- $2, asked for a member, tells what its line tells and answers the next member's number.
use Prim.Native.Nat.{ℕ, ◌+◌, ◌<◌, ◌/◌, ◌%◌}
use mathlib.Core.Path.{◌≡◌, refl, ap, ◌∙◌, subst}
use mathlib.Core.Bool.{Bool, true, false, not, cond}
use mathlib.Core.List.{List}
use lib.IntN.{pos}
use lib.ListN.{length}
use native.Mathlib.Omega.{arith}
use borrow.Author.Tests.{ne_eqb}
use Rattle.words.specs.Words.{word, put}
use Rattle.words.specs.Bits.{bit}
use Rattle.words.specs.Signed.{eq_z}
use Rattle.words.proofs.Signed.{eq_z_true, eq_z_false}
use Rattle.picture.specs.Layout.{nobody, positions}
use Rattle.picture.specs.Records.{number, owner, priority, timeout, used}
use Rattle.picture.specs.Numbers.{tag, position, live}
use Rattle.picture.specs.declared.Table.TheVariants.{Jobs}
use Rattle.picture.proofs.Records.{used_below}
use Rattle.picture.proofs.Numbers.{is_live}
use Rattle.sound.specs.Sound.{sound}
use Rattle.calls.specs.Outcome.{succeed}
use Rattle.calls.specs.Call.{Check, outcome}
use Rattle.calls.specs.Found.{place_of_job}
use Rattle.calls.specs.Registers.{D1, D2, D3, caller, meant}
use Rattle.calls.proofs.Call.{where_all_pass}
use Rattle.calls.proofs.Found.{job_stands, live_job_passes}
use Rattle.tree.specs.Tree.{tree}
use Rattle.law_owners.proofs.Owners.{owners_in_order}
use Rattle.law_owners.proofs.Members.{in_tree_has}
use Rattle.asking.specs.Next.{next_member}
use Rattle.asking.specs.Ask.{answered, ask}
use Rattle.law_asking.specs.Answer.{Answers}
use Rattle.law_asking.proofs.Answer.{told_in_D1, answers_so}
use Rattle.traps.specs.Traps.{trap_one}
use Rattle.manager.specs.Door.{with_key, called}
use Rattle.manager.proofs.Door.{called_with_eight, checked_named, named_one}
use Rattle.report_lines.specs.declared.JobLine.{JobLine}
use Rattle.report_lines.specs.Line.{line}
use Rattle.report_lines.specs.Order.{next}
use Rattle.law_report.specs.Asked.{Asks, Said, Answered, Meets, AskingMeetsTheLines}
use Rattle.law_report.proofs.Members.{Member}
use Rattle.law_report.proofs.Run.{Run}
use Rattle.law_report.proofs.Causes.{lines_told, report_only_for_its_cause}
use Rattle.law_report.proofs.Lines.{tree_run}

-- a number with a position of the table means itself
means_itself : (p : List ℕ) (n : ℕ) → position n < positions Jobs → meant p n ≡ n
unfolding meant
means_itself p n l = let e : bit n 15 ≡ false = ne_eqb (n / 32768 % 2) 1 (λ z. omega arith) in rw e

module _ (p : List ℕ) (s : sound p ≡ true) (t n : ℕ) (M : Member p t n) where
  -- what the registers say of a member
  said_of : (d : List ℕ) → length d ≡ 8 → Said p (line p t n) (next p (tree p t) n) (with_key (succeed p (answered p d t (position n))))
  unfolding line next
  said_of d l = record {
    is_done = refl;
    answer = told_in_D1 p s t (position n) 0 d l ∙ ap (λ (x : ℕ). next_member p (tree p t) (tag x)) M.names;
    its_owner = A.its_owner;
    standing = stands (eq_z (timeout p (position n)) (pos 0)) refl;
    picture = refl;
  }
    where
      A : Answers p t (position n) (put (answered p d t (position n)) 0 0)
      A = answers_so p s t (position n) 0 d l

      stands : (b : Bool) → eq_z (timeout p (position n)) (pos 0) ≡ b → D3 (put (answered p d t (position n)) 0 0) ≡ cond (not b) 0xFF00_0000 0 + priority p (position n)
      stands true e = A.awake (eq_z_true (timeout p (position n)) (pos 0) e) ∙ (omega arith)
      stands false e = A.suspended (eq_z_false (timeout p (position n)) (pos 0) e)

  module _ (top : ℕ) (z : position top ≡ t) (live-top : live p Jobs top ≡ true) (current : caller p ≡ nobody → ⊥) (d name : List ℕ) (Q : Asks top n d) where
    job_named : meant p (D1 d) ≡ n
    job_named = ap (meant p) Q.job ∙ means_itself p n (used_below p Jobs (position n) M.lives)

    top_lives : live p Jobs (D2 d) ≡ true
    top_lives = ap (live p Jobs) Q.tree ∙ live-top

    job_lives : live p Jobs (meant p (D1 d)) ≡ true
    job_lives = ap (live p Jobs) job_named ∙ is_live p Jobs n (record { used = M.lives; names = M.names })

    top_stands : place_of_job p (D2 d) ≡ t
    top_stands = job_stands p (D2 d) top_lives ∙ ap position Q.tree ∙ z

    the_job_stands : place_of_job p (meant p (D1 d)) ≡ position n
    the_job_stands = job_stands p (meant p (D1 d)) job_lives ∙ ap position job_named

    asked : outcome ask p d ≡ succeed p (answered p d t (position n))
    unfolding ask
    asked = where_all_pass ask p d (
      ap (λ (c : Check). c.0) (live_job_passes p (D2 d) top_lives),
      (
        ap (λ (c : Check). c.0) (live_job_passes p (meant p (D1 d)) job_lives),
        (rw (top_stands, the_job_stands) (in_tree_has p (owners_in_order p s) t (position n) M.lives M.under), tt),
      ),
    ) ∙ rw (top_stands, the_job_stands)

    by_code : outcome (trap_one (word d 0)) p d ≡ outcome ask p d
    unfolding trap_one outcome
    by_code = rw Q.code

    through_the_door : called 1 p d name ≡ with_key (outcome ask p d)
    through_the_door = called_with_eight 1 p d name Q.eight ∙ ap with_key (checked_named 1 p d name s current ∙ named_one 1 p d name refl ∙ by_code)

    says : Said p (line p t n) (next p (tree p t) n) (called 1 p d name)
    says = rw (through_the_door, asked) (said_of d Q.eight)

module _ (p : List ℕ) (s : sound p ≡ true) (top : ℕ) (live-top : live p Jobs top ≡ true) (current : caller p ≡ nobody → ⊥) where
  answered_for : (n : ℕ) → Member p (position top) n → Answered p top (line p (position top) n) (next p (tree p (position top)) n)
  unfolding line
  answered_for n M d name Q = says p s (position top) n M top refl live-top current d name Q

  its_number : (n : ℕ) → (line p (position top) n).number ≡ n
  unfolding line
  its_number n = refl

  meets_the_run : (n : ℕ) (ls : List JobLine) → Run p (position top) n ls → Meets p top n ls
  meets_the_run n ls (Run.last {n = m} M z) = Meets.last (its_number m) (subst (λ (y : ℕ). Answered p top (line p (position top) m) y) z (answered_for m M))
  meets_the_run n ls (Run.more {n = m} {ls = k} M z g R) = Meets.more (its_number m) (answered_for m M) z (meets_the_run _ k R)

pub asking_meets_the_lines : AskingMeetsTheLines
asking_meets_the_lines p top lent e current =
    let w = (report_only_for_its_cause p top lent).told.only e in
    rw (lines_told p top lent e w.1.0) (meets_the_run p w.0 top w.1.0 current top _ (tree_run p top w.0 w.1.0))
