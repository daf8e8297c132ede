use mathlib.Core.Path.{ap, ◌∙◌}
use Rattle.picture.specs.Numbers.{tag}
use Rattle.asking.proofs.Next.{not_greater, first_one, not_nearer, a_nearer_one}
use Rattle.asking.proofs.is_nearer.Goals as goal

pub returns-then-own-tag : goal.returns-then-own-tag
returns-then-own-tag c = not_greater _ _ _ _ _ _ (c.tag_of-own.ensures ∙ ap tag c.field_of.ensures) c.if-own-tag.true

pub returns-then-n-eq0 : goal.returns-then-n-eq0
returns-then-n-eq0 c = first_one _ _ _ _ _ _ (c.tag_of-own.ensures ∙ ap tag c.field_of.ensures) c.if-own-tag.false c.if-n-eq0.true _ c.is_member.ensures

pub returns-then-tag_of-own : goal.returns-then-tag_of-own
returns-then-tag_of-own c = not_nearer _ _ _ _ _ _ (c.tag_of-own.ensures ∙ ap tag c.field_of.ensures) c.if-own-tag.false c.if-n-eq0.false (rw c.tag_of.ensures at c.if-tag_of-own.true)

pub returns : goal.returns
returns c = a_nearer_one _ _ _ _ _ _ (c.tag_of-own.ensures ∙ ap tag c.field_of.ensures) c.if-own-tag.false c.if-n-eq0.false (rw c.tag_of.ensures at c.if-tag_of-own.false) _ c.is_member-2.ensures
