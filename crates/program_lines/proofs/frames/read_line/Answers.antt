use Rattle.std.proofs.Common.{◌≢◌, length, eqb-true, sym, ◌∙◌, arith}
use Rattle.std.proofs.lemmas.Bool.{eqb-false}
use Rattle.program_lines.proofs.Meaning.{told_as, told_bad, empty_bad, long_bad, odd_bad, strange_bad, fair_called}
use Rattle.program_lines.proofs.frames.read_line.Goals as goal
use Rattle.program_lines.proofs.frames.read_line.Goals.{then-is_empty-via-then-is_empty, then-is_empty-via-else-is_empty+then-line-gt-LONGEST, then-is_empty-via-else-is_empty+else-line-gt-LONGEST+then-line-eq1}

pub returns-then-is_empty : goal.returns-then-is_empty
returns-then-is_empty c =
    told_bad _ _ _ (elim c.then-is_empty.branch [
      | then-is_empty-via-then-is_empty w ↦ empty_bad _ (eqb-true _ _ (sym c.is_empty.ensures ∙ w.if-is_empty.true))
      | then-is_empty-via-else-is_empty+then-line-gt-LONGEST w ↦ long_bad _ w.if-line-gt-LONGEST.true
      | then-is_empty-via-else-is_empty+else-line-gt-LONGEST+then-line-eq1 w ↦ odd_bad _ w.if-line-gt-LONGEST.false w.if-line-eq1.true
    ])

pub returns-then-not-are_digits : goal.returns-then-not-are_digits
returns-then-not-are_digits c = told_bad _ _ _ (strange_bad _ (eqb-false _ _ (sym c.is_empty.ensures ∙ c.if-is_empty.false)) c.if-line-gt-LONGEST.false c.if-line-eq1.false (sym c.are_digits.ensures ∙ c.if-not-are_digits.true))

pub read_call-requires : goal.read_call-requires
read_call-requires c = let z : length c.args.line.now ≢ 0 = eqb-false _ _ (sym c.is_empty.ensures ∙ c.if-is_empty.false) in record { two = omega arith; good = sym c.are_digits.ensures ∙ c.if-not-are_digits.false }

pub returns : goal.returns
returns c =
    told_as _ _ _ _ _ _ _ (fair_called _ (eqb-false _ _ (sym c.is_empty.ensures ∙ c.if-is_empty.false)) c.if-line-gt-LONGEST.false c.if-line-eq1.false (sym c.are_digits.ensures ∙ c.if-not-are_digits.false)) c.read_call.ensures
