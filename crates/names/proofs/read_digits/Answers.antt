use Rattle.names.proofs.Digits.{digits_more, digits_not, worth_more, digits_end, worth_end, digit_is, digits_fit, other_byte, too_small, too_great, just_right}
use Rattle.names.specs.Names.{digit, byte}
use mathlib.Core.Bool.{true}
use mathlib.Core.Path.{◌≡◌, sym, ◌∙◌}
use native.Mathlib.Numerals.{add-one}
use Rattle.names.proofs.read_digits.Goals as goal

pub returns-then-not-is_ascii_digit : goal.returns-then-not-is_ascii_digit
unfolding digit
returns-then-not-is_ascii_digit c = sym (other_byte _ (c.loop-b.invariant.1 ∙ digits_not _ _ c.loop-b-test.true (sym c.is_ascii_digit.ensures.value ∙ c.if-not-is_ascii_digit.true)))

pub loop-b-preserved : goal.loop-b-preserved
unfolding digit
loop-b-preserved c =
    let i = c.loop-b.invariant in
    let t = c.loop-b-test.true in
    let d : digit (byte c.args.digits.now c.loop-b.b-index) ≡ true = sym c.is_ascii_digit.ensures.value ∙ c.if-not-is_ascii_digit.false in
    (rw add-one (digits_fit c.loop-b.b-index c.loop-b.n _ i.0 (digit_is _ d)), i.1 ∙ digits_more _ _ t d, i.2 ∙ worth_more _ _ t c.loop-b.n)

pub returns-then-n-lt1 : goal.returns-then-n-lt1
returns-then-n-lt1 c = sym (too_small c.args.digits.now (rw (c.loop-b.invariant.2 ∙ worth_end _ _ _ c.loop-b-test.false) c.if-n-lt1.true))

pub returns-then-n-gt-LONGEST_QUEUE : goal.returns-then-n-gt-LONGEST_QUEUE
returns-then-n-gt-LONGEST_QUEUE c = sym (too_great c.args.digits.now (rw (c.loop-b.invariant.2 ∙ worth_end _ _ _ c.loop-b-test.false) c.if-n-gt-LONGEST_QUEUE.true))

pub returns : goal.returns
returns c =
    let w = c.loop-b.invariant.2 ∙ worth_end _ _ _ c.loop-b-test.false in
    sym (just_right _ c.if-digits-gt-MOST_DIGITS.false (c.loop-b.invariant.1 ∙ digits_end _ _ c.loop-b-test.false) (rw w c.if-n-lt1.false) (rw w c.if-n-gt-LONGEST_QUEUE.false) ∙ rw w)
