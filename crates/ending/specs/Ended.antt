-- rule 80: "Takes the job and all descendants, with their blocks and channels. A job outside the tree waiting for one of them
-- has timeout and wait 0 and D3 as key to deliver."
use Rattle.std.specs.Prelude.{ℕ, ◌/◌, List}
use Rattle.picture.specs.Layout.{from, upto}
use Rattle.picture.specs.Records.{base}
use Rattle.picture.specs.declared.Table.TheVariants.{Jobs}
use Rattle.picture.specs.declared.Area.TheVariants.{Heap, Transient}
use Rattle.freeing.specs.Sweep.{swept}
use Rattle.tree.specs.Tree.{tree}
use Rattle.emptying.specs.Taken.{channels_of, taken}

-- no block starts at 0
abbrev pub no_block : ℕ
no_block = 0

-- "with their blocks": the blocks of the jobs of m are given back in both areas, and the top's own job block at a
unfoldable pub returned : List ℕ → ℕ → ℕ → List ℕ
returned p m a = swept (swept p (from p Heap) (upto p Heap) m no_block) (from p Transient) (upto p Transient) m a

-- the picture without the tree of the job at position t: in plain words `Leaves` and `Takes` (law_ending/specs/Promise.antt), by `ending_takes_the_tree_and_no_more`
-- (law_promises/proofs/Ending.antt)
unfoldable pub ended : List ℕ → ℕ → ℕ → List ℕ
ended p t key = taken (returned p (tree p t) (base p Jobs t / 4)) (tree p t) (channels_of p (tree p t)) key
