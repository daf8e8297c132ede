use native.Mathlib.Omega.{arith}
use mathlib.Core.Path.{sym, ◌∙◌}
use Rattle.calls.proofs.Found.{job_found}
use Rattle.calls.specs.Registers.{D1, meant}
use Rattle.calls.proofs.Outcome.{meets_refuse, meets_succeed}
use Rattle.asking.proofs.Bounds.{base_within, priority_within}
use Rattle.asking.proofs.Call.{ask_no_top, ask_no_job, ask_outside, ask_answers}
use Rattle.asking.proofs.ask.Goals as goal

pub returns-in_default : goal.returns-in_default
returns-in_default c = meets_refuse _ _ _ _ (ask_no_top c.args.p.now c.args.d.now (rw c.word.ensures at (sym c.entry_at.ensures ∙ c.in_default.is)))

pub returns-in_default-entry_at : goal.returns-in_default-entry_at
returns-in_default-entry_at c = meets_refuse _ _ _ _ (ask_no_job c.args.p.now c.args.d.now c.in-Some.t (rw c.word.ensures at (sym c.entry_at.ensures ∙ c.in-Some.is)) (rw (c.number_meant.ensures, c.word-2.ensures) at (sym c.entry_at-2.ensures ∙ c.in_default-entry_at.is)))

pub is_in_tree-requires : goal.is_in_tree-requires
is_in_tree-requires c = let l = (job_found c.args.p.now (meant c.args.p.now (D1 c.args.d.now)) c.in-Some-entry_at.k (rw (c.number_meant.ensures, c.word-2.ensures) at (sym c.entry_at-2.ensures ∙ c.in-Some-entry_at.is))).within in omega arith

pub returns-then-not-is_in_tree : goal.returns-then-not-is_in_tree
returns-then-not-is_in_tree c = meets_refuse _ _ _ _ (ask_outside c.args.p.now c.args.d.now c.in-Some.t c.in-Some-entry_at.k (rw c.word.ensures at (sym c.entry_at.ensures ∙ c.in-Some.is)) (rw (c.number_meant.ensures, c.word-2.ensures) at (sym c.entry_at-2.ensures ∙ c.in-Some-entry_at.is)) (sym c.is_in_tree.ensures ∙ c.if-not-is_in_tree.true))

pub answer-requires : goal.answer-requires
answer-requires c =
    let f = (job_found c.args.p.now (meant c.args.p.now (D1 c.args.d.now)) c.in-Some-entry_at.k (rw (c.number_meant.ensures, c.word-2.ensures) at (sym c.entry_at-2.ensures ∙ c.in-Some-entry_at.is))) in
    (f.within, (priority_within c.args.p.now c.in-Some-entry_at.k c.requires f.used, base_within c.args.p.now c.in-Some-entry_at.k c.requires f.used))

pub returns : goal.returns
returns c = meets_succeed _ _ _ (ask_answers c.args.p.now c.args.d.now c.in-Some.t c.in-Some-entry_at.k (rw c.word.ensures at (sym c.entry_at.ensures ∙ c.in-Some.is)) (rw (c.number_meant.ensures, c.word-2.ensures) at (sym c.entry_at-2.ensures ∙ c.in-Some-entry_at.is)) (sym c.is_in_tree.ensures ∙ c.if-not-is_in_tree.false) _ c.answer.ensures)
