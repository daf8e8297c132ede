use Rattle.std.proofs.Common.{arith}
use Rattle.std.proofs.lemmas.Bool.Decides.{nat_tests}
use Rattle.program_digits.specs.Digits.{read}
use Rattle.program_digits.proofs.read_number.Goals as goal

pub returns-then-are_digits : goal.returns-then-are_digits
unfolding read
returns-then-are_digits c = grind (arith, nat_tests)

pub returns-else-count-le8 : goal.returns-else-count-le8
unfolding read
returns-else-count-le8 c = grind (arith, nat_tests)
