use Rattle.std.proofs.Common.{ℕ, ◌<◌, ◌≤◌, ◌≢◌, sym, refl, ◌∙◌, arith}
use Rattle.program_session.proofs.Lines.{come_first, come_held, come_puts, rest_held, rest_puts}
use Rattle.program_session.proofs.running.take_lines.Goals as goal

-- a line feed found in a chunk lies inside it
feed_inside : (n e k : ℕ) → (n ≤ e) × (n ≤ k → e ≤ k) → n ≤ k → e ≢ k → (n ≤ e) × (e < k)
feed_inside n e k h l d = let m : e ≤ k = h.1 l in (h.0, omega arith)

pub loop-end-init : goal.loop-end-init
loop-end-init c = (come_first _ _ _ _ _ c.requires.kept_in_bounds c.requires.roomy, refl, refl, refl)

pub slice_bounds-answer_part-count : goal.slice_bounds-answer_part-count
slice_bounds-answer_part-count c =
    let i = feed_inside _ _ _ c.line_end-end.ensures.lower_bound c.loop-end.invariant.0.inside c.if-end-chunk.false in
    omega arith

pub answer_part-used-requires : goal.answer_part-used-requires
answer_part-used-requires c = let d = c.loop-end in record { kept_in_bounds = d.invariant.0.short; roomy = record { for_line = d.invariant.0.for_line; for_answer = omega (arith, d.invariant.0.room) }; longest_answer_in_bounds = d.invariant.0.room }

pub overflow_add-start : goal.overflow_add-start
overflow_add-start c =
    let i = feed_inside _ _ _ c.line_end-end.ensures.lower_bound c.loop-end.invariant.0.inside c.if-end-chunk.false in
    omega arith

pub overflow_sub-out : goal.overflow_sub-out
overflow_sub-out c = omega (arith, c.answer_part-used.ensures.within, c.loop-end.invariant.0.room, c.answer_part-used.auto.out)

pub returns-then-out-used-lt-LONGEST_ANSWER : goal.returns-then-out-used-lt-LONGEST_ANSWER
returns-then-out-used-lt-LONGEST_ANSWER c =
    let d = c.loop-end in
    let e = c.line_end-end in
    let t = c.answer_part-used in
    let i = feed_inside _ _ _ c.line_end-end.ensures.lower_bound c.loop-end.invariant.0.inside c.if-end-chunk.false in
    record {
      inside = omega arith;
      some = λ l. omega arith;
      short = omega arith;
      holds = come_held _ _ _ _ _ _ _ _ d.invariant.0 e.result e.ensures.value i.1 _ t.ensures.leaves;
      fits = omega (arith, t.ensures.within, d.invariant.0.room, t.auto.out);
      puts = come_puts _ _ _ _ _ _ _ _ d.invariant.0 e.result e.ensures.value i.1 _ t.ensures.puts;
    }

pub loop-end-smaller : goal.loop-end-smaller
loop-end-smaller c =
    let i = feed_inside _ _ _ c.line_end-end.ensures.lower_bound c.loop-end.invariant.0.inside c.if-end-chunk.false in
    omega arith

pub loop-end-preserved : goal.loop-end-preserved
loop-end-preserved c =
    let d = c.loop-end in
    let e = c.line_end-end in
    let t = c.answer_part-used in
    let i = feed_inside _ _ _ c.line_end-end.ensures.lower_bound c.loop-end.invariant.0.inside c.if-end-chunk.false in
    let k = t.auto in (
      record {
        inside = omega arith;
        short = omega arith;
        for_line = d.invariant.0.for_line ∙ sym k.line;
        room = omega arith;
        holds = come_held _ _ _ _ _ _ _ _ d.invariant.0 e.result e.ensures.value i.1 _ t.ensures.leaves;
        puts = come_puts _ _ _ _ _ _ _ _ d.invariant.0 e.result e.ensures.value i.1 _ t.ensures.puts;
      },
      k.p ∙ d.invariant.1,
      k.line ∙ d.invariant.2,
      k.out ∙ d.invariant.3,
    )

pub keep-requires : goal.keep-requires
keep-requires c = c.loop-end.invariant.0.short

pub returns : goal.returns
returns c =
    let d = c.loop-end in
    let k = c.keep in
    let x = sym c.line_end-end.ensures.value ∙ c.if-end-chunk.true in
    record {
      inside = omega arith;
      some = λ l. l;
      short = omega (arith, k.ensures.value.1, k.auto.line);
      holds = rest_held _ _ _ _ _ _ _ _ d.invariant.0 x _ _ k.ensures.value.0 k.ensures.line_after;
      fits = omega (arith, d.invariant.0.room);
      puts = rest_puts _ _ _ _ _ _ _ _ d.invariant.0 x;
    }
