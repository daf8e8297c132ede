use Rattle.std.proofs.Common.{◌≡◌, sym, ap, ◌∙◌, ℕ, List, ◌++◌, length, take, drop, arith}
use borrow.Author.Rules.{rules}
use lib.ListN.{take-append-drop}
use lib.Seq.{sets, length-take-le}
use Rattle.report_lines.specs.declared.JobLine.{JobLine}
use Rattle.report_lines.specs.Report.{report_lines}
use Rattle.report_lines.proofs.Report.{lines_within}
use Rattle.report_table.specs.Answer.{report_answer}
use Rattle.report_table.proofs.Cut.{sets_front}
use Rattle.report_table.proofs.report_lent.Goals as goal

-- The report is that of the first part of the table, and what stands behind it stays.
whole : (p : List ℕ) (top n : ℕ) (xs : List JobLine) → length (take n xs) ≡ n
    → sets (take n xs) 0 (report_lines p top n) ++ drop n xs ≡ sets xs 0 (report_lines p top n)
whole p top n xs e =
    let w = lines_within p top n in
    sym (sets_front (report_lines p top n) (take n xs) (drop n xs) 0 (omega arith))
    ∙ ap (λ (ls : List JobLine). sets ls 0 (report_lines p top n)) (take-append-drop n xs)

pub returns : goal.returns
returns c =
    let p = c.args.p.now in
    let e : length (take c.args.lent c.args.lines) ≡ c.args.lent = length-take-le c.args.lent c.args.lines (search rules) in
    let r = c.report_tree-report.ensures in
    (r.0 ∙ ap (report_answer p c.args.top) e, ap (λ (ls : List JobLine). ls ++ drop c.args.lent c.args.lines) (r.1 ∙ ap (λ (m : ℕ). sets (take c.args.lent c.args.lines) 0 (report_lines p c.args.top m)) e) ∙ whole p c.args.top c.args.lent c.args.lines e)
