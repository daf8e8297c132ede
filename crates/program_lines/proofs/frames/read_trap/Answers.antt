use Rattle.std.proofs.Common.{refl, sym, ap, Some, arith}
use Rattle.std.proofs.lemmas.List.{map-id}
use Rattle.program_digits.proofs.Reader.{digits_part, length_numbers}
use Rattle.program_lines.specs.declared.Line.TheVariants.{Trap}
use Rattle.program_lines.proofs.Meaning.{told_as, told_bad, trap_short, trap_named, trap_left_over, trap_whole}
use Rattle.program_lines.proofs.frames.read_trap.Goals as goal

-- `program_lines::frames::read_trap` meets its contract: one law of the meaning for each way out. Assumes nothing.
pub returns-then-line-lt-TRAP : goal.returns-then-line-lt-TRAP
returns-then-line-lt-TRAP c = told_bad _ _ _ (trap_short _ _ c.if-line-lt-TRAP.true)

pub read_numbers-requires : goal.read_numbers-requires
read_numbers-requires c = digits_part c.args.line.now 0 _ 2 64 c.requires (omega arith)

pub read_numbers-requires-then-trap-eq2 : goal.read_numbers-requires-then-trap-eq2
read_numbers-requires-then-trap-eq2 c = digits_part c.args.line.now 0 _ 66 _ c.requires (omega arith)

pub returns-then-trap-eq2 : goal.returns-then-trap-eq2
returns-then-trap-eq2 c =
    let a = c.args in
    told_as _ _ _ _ _ _ _ (trap_named a.trap a.line.now c.if-line-lt-TRAP.false c.if-trap-eq2.true)
    (record { kind = ap (λ k. Some (Trap a.trap k)) (sym (length_numbers a.line.now 66 2 _)); registers = rw map-id at c.read_numbers.ensures; name = rw map-id at c.read_numbers-then-trap-eq2.ensures })

pub returns-then-line-ne-TRAP : goal.returns-then-line-ne-TRAP
returns-then-line-ne-TRAP c = told_bad _ _ _ (trap_left_over _ _ c.if-line-lt-TRAP.false c.if-trap-eq2.false c.if-line-ne-TRAP.true)

pub read_numbers-requires-2 : goal.read_numbers-requires-2
read_numbers-requires-2 c = digits_part c.args.line.now 0 _ 2 64 c.requires (omega arith)

pub returns : goal.returns
returns c =
    let a = c.args in
    told_as _ _ _ _ _ _ _ (trap_whole a.trap a.line.now c.if-trap-eq2.false c.if-line-ne-TRAP.false) (record { kind = refl; registers = rw map-id at c.read_numbers-2.ensures; name = refl })
