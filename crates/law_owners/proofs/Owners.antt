-- What a sound picture says of owners: a live job's number holds its position, and its owner is nobody or a live job with a smaller tag.
use Prim.Native.Nat.{ℕ, ◌<◌, ◌%◌}
use mathlib.Core.Path.{◌≡◌, subst}
use mathlib.Core.Bool.{true}
use mathlib.Core.Logic.{⊎_elim, ◌⊎◌, inl, inr}
use mathlib.Core.List.{List}
use native.Mathlib.Omega.{arith}
use Rattle.picture.specs.Layout.{nobody, positions}
use Rattle.picture.specs.Records.{number, owner, used}
use Rattle.picture.specs.Numbers.{tag, position, live}
use Rattle.picture.specs.declared.Table.TheVariants.{Jobs}
use Rattle.picture.proofs.Records.{used_below}
use Rattle.sound.specs.Sound.{sound}
use Rattle.sound_facts.proofs.Sound.{Jobs_fine}
use Rattle.sound_facts.proofs.View.{view}

pub record Owners (p : List ℕ) : Type 0 where
  pub place : (k : ℕ) → used p Jobs k ≡ true → position (number p Jobs k) ≡ k
  pub older : (k : ℕ) → used p Jobs k ≡ true → (owner p Jobs k ≡ nobody) ⊎ ((live p Jobs (owner p Jobs k) ≡ true) × (tag (owner p Jobs k) < tag (number p Jobs k)))

-- nobody is the number of no position
past : (n k : ℕ) → n ≡ nobody → position n ≡ k → k < positions Jobs → ⊥
past n k e q l = let z : position nobody ≡ k = subst (λ (x : ℕ). position x ≡ k) e q in omega arith

pub nobody_is_no_job : (p : List ℕ) (k : ℕ) → Owners p → used p Jobs k ≡ true → number p Jobs k ≡ nobody → ⊥
nobody_is_no_job p k O u e = past (number p Jobs k) k e (O.place k u) (used_below p Jobs k u)

-- the owners of a sound picture are so
pub owners_of : (p : List ℕ) → Jobs_fine p → Owners p
owners_of p J = record {
  place = J.entries.place;
  older = λ k u. ⊎_elim
      inl
      (λ (l : tag (owner p Jobs k) < tag (number p Jobs k)). ⊎_elim (λ e. inl e.1) (λ e. inr (e, l)) (J.entries.owned k u))
      (J.older k u);
}

pub owners_in_order : (p : List ℕ) → sound p ≡ true → Owners p
owners_in_order p s = owners_of p (view p s).jobs
