-- The tree of a job, computed (rule 73).
use Rattle.std.specs.Prelude.{ℕ, zero, suc, Bool, ◌&&◌, ◌||◌, not, List, eqb}
use Rattle.picture.specs.Layout.{nobody, positions}
use Rattle.picture.specs.Records.{owner, used}
use Rattle.picture.specs.Numbers.{position}
use Rattle.picture.specs.declared.Table.TheVariants.{Jobs}
use Rattle.masks.specs.Masks.{mask}

-- From position k one reaches position t by at most n owners, by their positions. In a sound picture an owner's whole number is that of the job at its position,
-- so that this is the tree in words: `in_tree_says` and `in_tree_has` (law_owners/proofs/Members.antt).
unfoldable pub climbs : ℕ → List ℕ → ℕ → ℕ → Bool
climbs zero p t k = eqb k t
climbs (suc n) p t k = eqb k t || (not (eqb (owner p Jobs k) nobody) && climbs n p t (position (owner p Jobs k)))

-- the job at position k is live and in the tree of the job at position t
unfoldable pub in_tree : List ℕ → ℕ → ℕ → Bool
in_tree p t k = used p Jobs k && climbs (positions Jobs) p t k

-- the positions of the tree of the job at position t: in plain words `Under` (law_owners/specs/Under.antt), by `tree_says` and `tree_has` (law_owners/proofs/Members.antt)
unfoldable pub tree : List ℕ → ℕ → ℕ
tree p t = mask (in_tree p t) (positions Jobs)
