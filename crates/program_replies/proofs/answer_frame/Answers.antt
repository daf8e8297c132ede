use Rattle.std.proofs.Common.{refl, sym, ap, ◌∙◌, arith, length-take-le, None, Some}
use Rattle.program_lines.specs.Frames.{bad, frame}
use Rattle.program_lines.proofs.Meaning.{kind_says, trap_read}
use Rattle.program_replies.proofs.Replies.{lone_replied, trap_replied}
use Rattle.program_replies.proofs.answer_frame.Goals as goal

pub slice_bounds-name-end : goal.slice_bounds-name-end
slice_bounds-name-end c =
    let w = c.in-Some-Trap in
    let t = trap_read c.args.line.now w.trap w.count (sym c.read_line.ensures.kind ∙ w.is ∙ ap Some w.field-0-is) in
    omega (arith, t.short, c.read_line.auto.name)

pub slice_bounds-call-end : goal.slice_bounds-call-end
slice_bounds-call-end c =
    let w = c.in-Some-Trap in
    let t = trap_read c.args.line.now w.trap w.count (sym c.read_line.ensures.kind ∙ w.is ∙ ap Some w.field-0-is) in
    sym (length-take-le _ _ (omega (arith, t.short, c.read_line.auto.name)))

pub returns-in-None : goal.returns-in-None
returns-in-None c =
    let t = c.refuse in
    lone_replied (frame c.args.line.now) bad t.result c.args.p.now _ c.args.registers.now _ _ (kind_says (frame c.args.line.now) None (sym c.read_line.ensures.kind ∙ c.in-None.is)) refl c.read_line.ensures.registers (t.ensures c.args.p.now)

pub returns-in-Some-Trap : goal.returns-in-Some-Trap
returns-in-Some-Trap c =
    let w = c.in-Some-Trap in
    let r = c.read_line in
    trap_replied (frame c.args.line.now) _ _ c.args.p.now c.args.registers.now _ c.call.new.p c.call.new.d c.call.result
    (trap_read c.args.line.now w.trap w.count (sym r.ensures.kind ∙ w.is ∙ ap Some w.field-0-is))
    c.requires refl (rw (r.ensures.registers, r.ensures.name) at c.call.ensures) (omega (arith, c.requires, r.auto.registers, c.call.auto.d))
