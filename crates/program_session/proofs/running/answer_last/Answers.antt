use Rattle.std.proofs.Common.{◌≡◌, length, take, sym, ◌∙◌, arith, length-take-le}
use Rattle.program_session.proofs.Answers.{nothing_ends, line_ends}
use Rattle.program_session.proofs.running.answer_last.Goals as goal

-- `program_session::running::answer_last` meets its contract: what is kept lies in its room, and is answered where there is any. Assumes nothing.
pub returns-then-kept-eq0 : goal.returns-then-kept-eq0
returns-then-kept-eq0 c = rw c.if-kept-eq0.true (nothing_ends c.args.p.now c.args.out.now)

pub slice_bounds-answer_line-end : goal.slice_bounds-answer_line-end
slice_bounds-answer_line-end c = sym (length-take-le c.args.kept c.args.line.now c.requires.kept_in_bounds)

pub returns : goal.returns
returns c =
    let t = c.answer_line in
    let n : length (take c.args.kept c.args.line.now) ≡ c.args.kept = length-take-le c.args.kept c.args.line.now c.requires.kept_in_bounds in
    line_ends c.args.p.now (take c.args.kept c.args.line.now) _ t.new.out t.result (λ z. c.if-kept-eq0.false (sym n ∙ z)) (omega (arith, t.ensures.within, c.requires.roomy.for_answer, t.auto.out)) t.ensures.leaves t.ensures.puts
