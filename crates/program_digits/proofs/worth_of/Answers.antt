use Rattle.program_digits.proofs.Reader.{digit_bits, digit_small}
use Rattle.std.proofs.Common.{◌∙◌, arith}
use Rattle.program_digits.proofs.worth_of.Goals as goal

pub returns : goal.returns
returns c =
    let e = c.from.ensures ∙ digit_bits c.args.character c.requires in
    record { value = e; small = omega (arith, e, digit_small c.args.character) }
