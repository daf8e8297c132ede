use Rattle.std.proofs.Common.{sym, refl, ◌∙◌, arith}
use Rattle.program_session.proofs.Known.{known_first, known_after, known_part, known_reached}
use Rattle.program_session.proofs.running.answer_each.Goals as goal

pub loop-init : goal.loop-init
loop-init c = (omega arith, c.requires.roomy, known_first _ c.requires.p_value, refl, refl, refl, refl)

pub take_all-requires : goal.take_all-requires
take_all-requires c = let d = c.loop in record { kept_in_bounds = d.invariant.0; roomy = d.invariant.1; known = d.invariant.2 }

pub returns-in_err-kept : goal.returns-in_err-kept
returns-in_err-kept c = known_part _ _ _ c.loop.invariant.2 _ _ (rw c.in_err-kept.was at c.take_all.ensures)

pub loop-preserved : goal.loop-preserved
loop-preserved c =
    let d = c.loop in
    let t = c.take_all in
    let k = t.auto in
    let h = rw c.in_ok-kept.was at t.ensures in
    (h.0, record { for_line = d.invariant.1.for_line ∙ sym k.line; for_answer = omega (arith, d.invariant.1.for_answer, k.out) }, known_after _ _ _ d.invariant.2 _ _ _ _ h.1 h.2, k.p ∙ d.invariant.3, c.read_in.auto.room ∙ d.invariant.4, k.line ∙ d.invariant.5, k.out ∙ d.invariant.6)

pub finish-requires : goal.finish-requires
finish-requires c = let d = c.loop in record { kept_in_bounds = d.invariant.0; roomy = d.invariant.1; known = d.invariant.2 }
