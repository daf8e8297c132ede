use Rattle.std.proofs.Common.{sym, arith, length-take-le}
use Rattle.program_session.proofs.Answers.{kept_answers}
use Rattle.program_session.proofs.running.answer_part.Goals as goal

pub returns-then-kept-eq0 : goal.returns-then-kept-eq0
returns-then-kept-eq0 c = rw c.if-kept-eq0.true c.answer_line.ensures

pub slice_bounds-answer_line-end-2 : goal.slice_bounds-answer_line-end-2
slice_bounds-answer_line-end-2 c = let k = c.keep-whole in sym (length-take-le k.result k.new.line (omega (arith, k.ensures.value.1, k.auto.line)))

pub returns : goal.returns
returns c =
    let k = c.keep-whole in
    kept_answers c.args.line.now c.args.part.now c.args.p.now _ c.args.out.now c.args.kept c.args.used _ _ c.requires.roomy.for_line c.requires.kept_in_bounds (rw (k.ensures.line_after, k.ensures.value.0) at c.answer_line-2.ensures)
