use Rattle.std.proofs.Common.{sym, ◌∙◌, arith}
use Rattle.program_digits.proofs.Reader.{number_inside, number_digits, numbers_more, numbers_stored}
use Rattle.program_digits.proofs.read_numbers.Goals as goal

pub overflow_mul-WIDTH : goal.overflow_mul-WIDTH
overflow_mul-WIDTH g c =
    rw c.WIDTH.ensures (omega (arith, number_inside c.args.text.now c.args.place g.N.Spelled.WIDTH c.args.count c.loop-k.k g.met.N.Spelled.few.0 (omega arith) c.requires))

pub overflow_add-place : goal.overflow_add-place
overflow_add-place g c =
    rw c.WIDTH.ensures (omega (arith, number_inside c.args.text.now c.args.place g.N.Spelled.WIDTH c.args.count c.loop-k.k g.met.N.Spelled.few.0 (omega arith) c.requires))

pub number_at-requires-clause-good : goal.number_at-requires-clause-good
number_at-requires-clause-good g c =
    rw (c.WIDTH.ensures, c.WIDTH-in-loop-k.ensures) (number_digits c.args.text.now c.args.place g.N.Spelled.WIDTH c.args.count c.loop-k.k g.met.N.Spelled.few.0 (omega arith) c.requires)

pub loop-k-preserved : goal.loop-k-preserved
loop-k-preserved g c =
    let d = c.loop-k in
    rw (c.of.ensures, c.number_at.ensures.value, c.WIDTH.ensures, c.WIDTH-in-loop-k.ensures)
    (d.invariant ∙ numbers_more g.N.Spelled.value c.args.text.now c.args.place d.k g.N.Spelled.WIDTH c.args.count d.room (omega arith))

pub returns : goal.returns
returns g c =
    let d = c.loop-k in
    sym (d.invariant ∙ numbers_stored g.N.Spelled.value c.args.text.now c.args.place d.k g.N.Spelled.WIDTH c.args.count d.room (omega arith))
