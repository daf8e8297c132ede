use Rattle.std.proofs.Common.{sym, ◌∙◌, arith}
use Rattle.program_lines.proofs.Ends.{end_found, end_nowhere, end_bounds}
use Rattle.program_lines.proofs.feeds.line_end.Goals as goal

pub returns-then-text-from-clause-value : goal.returns-then-text-from-clause-value
returns-then-text-from-clause-value c = sym (end_nowhere _ _ c.if-text-from.true)

pub overflow_add-result : goal.overflow_add-result
overflow_add-result c =
    let e = end_found c.args.text.now c.skip-i.result c.unwrap_or.result c.skip-i.ensures.0 (rw c.feed_in.ensures at c.unwrap_or.ensures) in
    omega (arith, (end_bounds _ _ _ (sym e)).1 c.skip-i.ensures.0)

pub returns : goal.returns
returns c =
    let e = end_found c.args.text.now c.skip-i.result c.unwrap_or.result c.skip-i.ensures.0 (rw c.feed_in.ensures at c.unwrap_or.ensures) in
    let v = e ∙ sym c.skip-i.ensures.1 in
    record { value = v; lower_bound = end_bounds _ _ _ (sym v) }
