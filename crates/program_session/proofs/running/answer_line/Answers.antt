use Rattle.std.proofs.Common.{◌≡◌, sym, replicate, arith, length-take-le}
use Rattle.program_lines.specs.Frames.{frame, reports}
use Rattle.program_replies.specs.Reply.{reply, Replied}
use Rattle.program_replies.proofs.Replies.{comes_longwords, comes_report}
use Rattle.program_session.proofs.Answers.{reply_answers, report_answers}
use Rattle.program_session.proofs.running.answer_line.Goals as goal

pub slice_bounds-registers-end : goal.slice_bounds-registers-end
slice_bounds-registers-end c = (comes_longwords (frame c.args.line.now) c.args.p.now _ (replicate 8 0) _ _ c.answer_frame.ensures _ c.in-Longwords.is).counts

pub slice_bounds-write_answer-end : goal.slice_bounds-write_answer-end
slice_bounds-write_answer-end c = sym (length-take-le _ _ (comes_longwords (frame c.args.line.now) c.args.p.now _ (replicate 8 0) _ _ c.answer_frame.ensures _ c.in-Longwords.is).counts)

pub returns-in-Longwords : goal.returns-in-Longwords
returns-in-Longwords c =
    let w = c.write_answer in
    let h : Replied (reply (frame c.args.line.now) c.args.p.now) c.in-Longwords.count c.answer_frame.new.p (replicate 8 0) c.answer_frame.new.registers = comes_longwords _ _ _ _ _ _ c.answer_frame.ensures _ c.in-Longwords.is in
    rw (w.ensures.text_after, w.ensures.value) (reply_answers c.args.line.now c.args.p.now c.answer_frame.new.p _ _ c.args.out.now c.in-Longwords.count c.args.used h (omega (arith, h.counts, c.answer_frame.auto.registers)) c.requires)

pub returns-in-Report : goal.returns-in-Report
returns-in-Report c =
    let w = c.write_report in
    let h : (frame c.args.line.now ≡ reports c.in-Report.top) × (c.answer_frame.new.p ≡ c.args.p.now) = comes_report _ _ _ (replicate 8 0) c.answer_frame.new.registers _ c.answer_frame.ensures _ c.in-Report.is in
    report_answers _ _ _ _ _ _ _ _ h w.ensures
