use Rattle.std.proofs.Common.{◌≢◌, sym, ◌∙◌, arith}
use Rattle.program_digits.proofs.Reader.{digits_part}
use Rattle.program_lines.proofs.Meaning.{told_as, pick_called, tick_called, report_called, trap_called}
use Rattle.program_lines.proofs.frames.read_call.Goals as goal

pub number_at-requires-clause-good : goal.number_at-requires-clause-good
number_at-requires-clause-good c = digits_part _ 0 _ 0 2 c.requires.good c.requires.two

pub returns-in-240 : goal.returns-in-240
returns-in-240 c = pick_called _ _ _ _ _ (sym c.number_at.ensures.value ∙ c.in-240.is) c.read_alone.ensures

pub returns-in-241 : goal.returns-in-241
returns-in-241 c = tick_called _ _ _ _ _ (sym c.number_at.ensures.value ∙ c.in-241.is) c.read_alone-in-241.ensures

pub returns-in-242 : goal.returns-in-242
returns-in-242 c = report_called _ _ _ _ _ (sym c.number_at.ensures.value ∙ c.in-242.is) c.read_report.ensures

pub returns-in_default : goal.returns-in_default
returns-in_default c =
    let n = c.number_at.result in
    let e : n ≢ 0xF0 = omega arith in
    let f : n ≢ 0xF1 = omega arith in
    let g : n ≢ 0xF2 = omega arith in
    told_as _ _ _ _ _ _ _ (rw (← c.number_at.ensures.value) (trap_called n _ e f g)) c.read_trap.ensures
