-- The tree of a job in words (rule 73): the job itself, and each job whose owner is in the tree.
use Rattle.std.specs.Prelude.{ℕ, ◌≡◌, true, List}
use Rattle.picture.specs.Records.{number, owner, used}
use Rattle.picture.specs.declared.Table.TheVariants.{Jobs}

-- the job at position k is in the tree of the job at position t
pub data Under (p : List ℕ) (t : ℕ) : ℕ → Type 0 where
  top : {k : ℕ} → k ≡ t → Under p t k
  owned : {k j : ℕ} → used p Jobs j ≡ true → owner p Jobs k ≡ number p Jobs j → Under p t j → Under p t k
