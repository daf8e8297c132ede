-- Trap 1 $2 (rule 78): "D2 live, D1 live and in the tree of D2. D1 the member with the next greater tag, or 0; D2 owner;
-- D3 $FF000000 if suspended, plus priority; A0 first byte of room, 0 for job 0; A1 0."
use Rattle.std.specs.Prelude.{ℕ, ◌+◌, cond, List, [], ◌∷◌, eqb, pos}
use Rattle.words.specs.Signed.{eq_z}
use Rattle.picture.specs.Records.{number, owner, base, priority, timeout}
use Rattle.picture.specs.Numbers.{tag, job_at}
use Rattle.picture.specs.Keys.{invalid_job}
use Rattle.picture.specs.declared.Table.TheVariants.{Jobs}
use Rattle.calls.specs.Call.{Call}
use Rattle.calls.specs.Found.{job_check, place_of_job, job_position}
use Rattle.calls.specs.Registers.{D1, D2, with_D1, with_D2, with_D3, with_A0, with_A1, meant}
use Rattle.tree.specs.Tree.{in_tree, tree}
use Rattle.asking.specs.Next.{next_member}

-- "$FF000000 if suspended, plus priority"
abbrev pub suspended : ℕ
suspended = 0xFF00_0000

unfoldable pub standing : List ℕ → ℕ → ℕ
standing p k = cond (eq_z (timeout p k) (pos 0)) 0 suspended + priority p k

-- "first byte of room, 0 for job 0": a header has 16 bytes
abbrev pub header_bytes : ℕ
header_bytes = 16

unfoldable pub room : List ℕ → ℕ → ℕ
room p k = cond (eqb k 0) 0 (base p Jobs k + header_bytes)

-- the registers that answer for the job at position k in the tree of the job at position t
unfoldable pub answered : List ℕ → List ℕ → ℕ → ℕ → List ℕ
answered p d t k = with_A1 0 (with_A0 (room p k) (with_D3 (standing p k) (with_D2 (owner p Jobs k) (with_D1 (next_member p (tree p t) (tag (number p Jobs k))) d))))

-- where the job D2 stands
abbrev pub top_position : List ℕ → List ℕ → ℕ
top_position p d = place_of_job p (D2 d)

unfoldable pub ask : Call
ask p d = record {
  checks =
      job_check (job_at p (D2 d)) ∷
      job_check (job_at p (meant p (D1 d))) ∷
      (in_tree p (top_position p d) (job_position p d), invalid_job) ∷ [];
  picture = p;
  registers = answered p d (top_position p d) (job_position p d);
}
