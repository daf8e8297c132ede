-- Blocks that tile an area: each longword of it lies in a block, and in no other.
use Prim.Native.Nat.{ℕ, zero, suc, ◌+◌, ◌-◌, ◌/◌, ◌≤◌, ◌<◌}
use mathlib.Core.Path.{◌≡◌, refl, subst}
use mathlib.Core.Logic.{⊎_elim, ◌⊎◌, inl, inr}
use mathlib.Core.List.{List}
use native.Mathlib.Omega.{arith}
use Rattle.words.specs.Each.{In}
use Rattle.words.proofs.Tests.{lt_or_ge}
use Rattle.blocks.specs.Header.{size}
use Rattle.blocks.specs.Walk.{next, starts}
use Rattle.blocks.proofs.Walk.{next_good, next_up, starts_end, starts_more}
use Rattle.blocks.proofs.Starts.{starts_in}
use Rattle.law_areas.specs.Area.{Tiled}

-- the longword k lies in the block at j
abbrev pub Lies : List ℕ → ℕ → ℕ → Type 0
Lies p j k = (j ≤ k) × (k < j + size p j / 4)

covered_by : (n : ℕ) (p : List ℕ) (b e k : ℕ) → e - b ≤ n → Tiled p b e → b ≤ k → k < e → (j : ℕ) × (In j (starts p b e) × Lies p j k)
covered_by zero p b e k h t l u = absurd (omega arith)
covered_by (suc n) p b e k h t l u =
    let o : b < e = omega arith in
    let first : In b (starts p b e) = rw (starts_more p b e o) (inl refl) in
    let x = next_up p b e o in
    let g = next_good p b e (t b first) in
    ⊎_elim
    (λ (y : k < next p b e). (b, (first, (l, omega arith))))
    (λ (y : next p b e ≤ k).
    let r = covered_by n p (next p b e) e k (omega arith) (λ j m. t j (rw (starts_more p b e o) (inr m))) y u in
    (r.0, (rw (starts_more p b e o) (inr r.1.0), r.1.1)))
    (lt_or_ge k (next p b e))

pub each_longword_lies_in_a_block : (p : List ℕ) (b e k : ℕ) → Tiled p b e → b ≤ k → k < e → (j : ℕ) × (In j (starts p b e) × Lies p j k)
each_longword_lies_in_a_block p b e k t l u = covered_by (e - b) p b e k (omega arith) t l u

one_by : (n : ℕ) (p : List ℕ) (b e i j k : ℕ) → e - b ≤ n → Tiled p b e → In i (starts p b e) → In j (starts p b e) → Lies p i k → Lies p j k → i ≡ j
one_by zero p b e i j k h t x y v w = absurd (subst (In i) (starts_end p b e (omega arith)) x)
one_by (suc n) p b e i j k h t x y v w = ⊎_elim
    (λ (o : b < e).
    let first : In b (starts p b e) = rw (starts_more p b e o) (inl refl) in
    let u = next_up p b e o in
    let g = next_good p b e (t b first) in
    go g (rw (starts_more p b e o) at x) (rw (starts_more p b e o) at y) (λ c d. one_by n p (next p b e) e i j k (omega arith) (λ m z. t m (rw (starts_more p b e o) (inr z))) c d v w))
    (λ (o : e ≤ b). absurd (subst (In i) (starts_end p b e o) x))
    (lt_or_ge b e)
  where
    go : next p b e ≡ b + size p b / 4 → (i ≡ b) ⊎ In i (starts p (next p b e) e) → (j ≡ b) ⊎ In j (starts p (next p b e) e)
        → (In i (starts p (next p b e) e) → In j (starts p (next p b e) e) → i ≡ j) → i ≡ j
    go g (inl c) (inl d) r = omega arith
    go g (inl c) (inr d) r = let a = (starts_in p (next p b e) e j d).0 in let z : k < b + size p b / 4 = subst (λ (s : ℕ). k < s + size p s / 4) c v.1 in absurd (omega (arith, w.0))
    go g (inr c) (inl d) r = let a = (starts_in p (next p b e) e i c).0 in let z : k < b + size p b / 4 = subst (λ (s : ℕ). k < s + size p s / 4) d w.1 in absurd (omega (arith, v.0))
    go g (inr c) (inr d) r = r c d

pub no_longword_lies_in_two_blocks : (p : List ℕ) (b e i j k : ℕ) → Tiled p b e → In i (starts p b e) → In j (starts p b e) → Lies p i k → Lies p j k → i ≡ j
no_longword_lies_in_two_blocks p b e i j k t x y v w = one_by (e - b) p b e i j k (omega arith) t x y v w
