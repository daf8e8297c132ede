-- Trap 1 $4, ordinary removal, and $5, forced removal (rule 79): "live; job 0: -15; for $4, whole tree inactive. .. D1 to A3 become 0."
use Rattle.std.specs.Prelude.{ℕ, Bool, ◌&&◌, not, List, [], ◌∷◌, eqb}
use Rattle.words.specs.Bits.{bit}
use Rattle.words.specs.Each.{every}
use Rattle.picture.specs.Layout.{positions}
use Rattle.picture.specs.Records.{active}
use Rattle.picture.specs.Numbers.{job_at}
use Rattle.picture.specs.Keys.{not_complete, bad_parameter}
use Rattle.picture.specs.declared.Table.TheVariants.{Jobs}
use Rattle.calls.specs.Call.{Check, Call}
use Rattle.calls.specs.Found.{job_check, job_position}
use Rattle.calls.specs.Registers.{D1, D3, cleared, meant}
use Rattle.tree.specs.Tree.{tree}
use Rattle.ending.specs.Ended.{ended}

-- the job at position k is no active member of the set m
unfoldable pub at_rest : List ℕ → ℕ → ℕ → Bool
at_rest p m k = not (bit m k && active p k)

-- no member of the set m is active
unfoldable pub inactive : List ℕ → ℕ → Bool
inactive p m = every (at_rest p m) (positions Jobs)

-- what both are, where `still` is what $4 checks besides
unfoldable pub removal : List Check → Call
removal still p d = record {
  checks =
      job_check (job_at p (meant p (D1 d))) ∷
      (not (eqb (job_position p d) 0), bad_parameter) ∷ still;
  picture = ended p (job_position p d) (D3 d);
  registers = cleared d;
}

-- $4: "whole tree inactive"
unfoldable pub remove : Call
remove p d = removal ((inactive p (tree p (job_position p d)), not_complete) ∷ []) p d

-- $5
unfoldable pub force_remove : Call
force_remove = removal []
