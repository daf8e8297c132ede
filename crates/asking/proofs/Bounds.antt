-- What a sound picture bounds: a live job's priority and the base of its block.
use Prim.Native.Nat.{ℕ, ◌*◌, ◌≤◌, ◌<◌}
use mathlib.Core.Path.{◌≡◌}
use mathlib.Core.Bool.{true}
use mathlib.Core.Logic.{⊎_elim}
use mathlib.Core.List.{List}
use native.Mathlib.Omega.{arith}
use borrow.Author.Tests.{le-leb}
use Rattle.words.proofs.Tests.{lt_or_ge}
use Rattle.picture.specs.Layout.{greatest_size, from, upto}
use Rattle.picture.specs.Records.{base, priority, used}
use Rattle.picture.specs.declared.Table.TheVariants.{Jobs}
use Rattle.picture.specs.declared.Area.TheVariants.{Transient}
use Rattle.picture.proofs.Records.{used_below}
use Rattle.blocks.proofs.Starts.{starts_in}
use Rattle.sound_matching.specs.Match.{has_block}
use Rattle.picture.specs.Layout.{greatest_priority}
use Rattle.sound.specs.Sound.{sound}
use Rattle.sound_facts.proofs.Sound.{Sound}
use Rattle.sound_facts.proofs.View.{view}

has_block_other : (p : List ℕ) (k : ℕ) → used p Jobs k ≡ true → 0 < k → has_block p Jobs k ≡ true
unfolding has_block
has_block_other p k u l = rw (le-leb 1 k l, u)

pub base_within : (p : List ℕ) (k : ℕ) → sound p ≡ true → used p Jobs k ≡ true → base p Jobs k < 4 * greatest_size
base_within p k s u = ⊎_elim
    (λ (l : 0 < k).
    let h = (S.matched Jobs).home k (used_below p Jobs k u) (has_block_other p k u l) in
    let q = h.1.1.place in
    let w = (starts_in p (from p Transient) (upto p Transient) h.0 h.1.0).1 in
    let n = S.sizes.long in
    let m = S.sizes.most in
    omega arith)
    (λ (l : k ≤ 0). let z : k ≡ 0 = omega arith in rw (z, S.jobs.zero_base) (omega arith))
    (lt_or_ge 0 k)
  where
    S : Sound p
    S = view p s

pub priority_within : (p : List ℕ) (k : ℕ) → sound p ≡ true → used p Jobs k ≡ true → priority p k ≤ greatest_priority
priority_within p k s u = (view p s).jobs.urgent k (used_below p Jobs k u)
