use mathlib.Core.Path.{sym, ◌∙◌}
use Rattle.report_lines.proofs.Report.{where_unsound, where_dead, where_short, where_told}
use Rattle.report_lines.proofs.begin.Goals as goal

pub returns-then-not-is_sound : goal.returns-then-not-is_sound
returns-then-not-is_sound c = where_unsound _ _ _ (sym c.is_sound.ensures ∙ c.if-not-is_sound.true)

pub returns-in_default : goal.returns-in_default
returns-in_default c = where_dead _ _ _ (sym c.is_sound.ensures ∙ c.if-not-is_sound.false) (sym c.entry_at.ensures ∙ c.in_default.is)

pub returns-then-lent-count : goal.returns-then-lent-count
returns-then-lent-count c =
    where_short _ _ _ (sym c.is_sound.ensures ∙ c.if-not-is_sound.false) _ (sym c.entry_at.ensures ∙ c.in-Some.is)
    (rw (c.size_of-count.ensures, c.tree_of-members.ensures) at c.if-lent-count.true)

pub returns : goal.returns
returns c =
    let w = where_told _ _ _ (sym c.is_sound.ensures ∙ c.if-not-is_sound.false) _ (sym c.entry_at.ensures ∙ c.in-Some.is)
    (rw (c.size_of-count.ensures, c.tree_of-members.ensures) at c.if-lent-count.false) in
    rw (c.size_of-count.ensures, c.tree_of-members.ensures) (w.0, w.1, w.2, w.2)
