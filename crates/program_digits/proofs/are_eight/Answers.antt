use Rattle.program_digits.proofs.Reader.{digits_eight}
use Rattle.program_digits.proofs.are_eight.Goals as goal

pub returns : goal.returns
returns c =
    rw (c.is_digit-8.ensures, c.is_digit-7.ensures, c.is_digit-6.ensures, c.is_digit-5.ensures, c.is_digit-4.ensures, c.is_digit-3.ensures, c.is_digit-2.ensures, c.is_digit.ensures)
    (digits_eight _ _)
