-- Rule 78 in words: what $2 answers for a member of a tree.
use Rattle.std.specs.Prelude.{ℕ, ◌+◌, ◌≤◌, ◌<◌, ◌≡◌, true, ◌⊎◌, List, pos}
use Rattle.picture.specs.Records.{number, owner, base, priority, timeout, used}
use Rattle.picture.specs.Numbers.{tag}
use Rattle.picture.specs.declared.Table.TheVariants.{Jobs}
use Rattle.calls.specs.Registers.{D1, D2, D3, A0, A1}
use Rattle.law_owners.specs.Under.{Under}

-- of the tree of the job at position t, n is the number of the member with the next greater tag than g, or 0 where no member has a greater one
pub record NextMember (p : List ℕ) (t g n : ℕ) : Type 0 where
  pub some : (n ≡ 0) ⊎ ((k : ℕ) × ((used p Jobs k ≡ true) × (Under p t k × ((n ≡ number p Jobs k) × (g < tag n)))))
  pub least : (k : ℕ) → used p Jobs k ≡ true → Under p t k → g < tag (number p Jobs k) → (n ≡ 0 → ⊥) × (tag n ≤ tag (number p Jobs k))

-- the registers e answer for the job at position k in the tree of the job at position t
pub record Answers (p : List ℕ) (t k : ℕ) (e : List ℕ) : Type 0 where
  pub next : NextMember p t (tag (number p Jobs k)) (D1 e)
  pub its_owner : D2 e ≡ owner p Jobs k
  -- "D3 $FF000000 if suspended, plus priority"
  pub awake : timeout p k ≡ pos 0 → D3 e ≡ priority p k
  pub suspended : (timeout p k ≡ pos 0 → ⊥) → D3 e ≡ 0xFF00_0000 + priority p k
  -- "A0 first byte of room, 0 for job 0; A1 0"
  pub job_zero : k ≡ 0 → A0 e ≡ 0
  pub first_byte : (k ≡ 0 → ⊥) → A0 e ≡ base p Jobs k + 16
  pub nought : A1 e ≡ 0
