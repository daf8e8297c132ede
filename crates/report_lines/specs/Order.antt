-- The members of a tree "in order of tag" (rule 107): the top, and behind each the member with the next greater tag, as $2 answers it.
use Rattle.std.specs.Prelude.{ℕ, zero, suc, List, [], ◌∷◌}
use Rattle.words.specs.Bits.{bit}
use Rattle.words.specs.Each.{count}
use Rattle.picture.specs.Layout.{positions}
use Rattle.picture.specs.Numbers.{tag}
use Rattle.picture.specs.declared.Table.TheVariants.{Jobs}
use Rattle.asking.specs.Next.{next_member}
use Rattle.report_lines.specs.declared.JobLine.{JobLine}
use Rattle.report_lines.specs.Line.{line}

-- rule 106: how many members a set has
unfoldable pub size : ℕ → ℕ
size m = count (bit m) (positions Jobs)

-- the member of m with the next greater tag than the job of number n
unfoldable pub next : List ℕ → ℕ → ℕ → ℕ
next p m n = next_member p m (tag n)

-- the lines of i members of m from the job of number n on, in the tree of the job at position t
unfoldable pub lines_from : ℕ → List ℕ → ℕ → ℕ → ℕ → List JobLine
lines_from zero p m t n = []
lines_from (suc i) p m t n = line p t n ∷ lines_from i p m t (next p m n)
