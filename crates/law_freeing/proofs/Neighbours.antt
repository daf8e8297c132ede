-- Neighbours in the walk from base to e.
use Prim.Native.Nat.{ℕ, zero, suc, ◌-◌, ◌≤◌, ◌<◌}
use mathlib.Core.Path.{◌≡◌, refl}
use mathlib.Core.List.{List, ◌∷◌}
use mathlib.Core.Logic.{⊎_elim, inl, inr}
use native.Mathlib.Omega.{arith}
use Rattle.words.specs.Each.{In}
use Rattle.words.proofs.Tests.{lt_or_ge}
use Rattle.blocks.specs.Walk.{next, starts}
use Rattle.blocks.proofs.Walk.{next_up, starts_more}
use Rattle.blocks.proofs.Starts.{starts_in}
use Rattle.law_areas.proofs.Row.{in_second, in_either, parted_at}

module _ (p : List ℕ) (base e : ℕ) where
  pub first_block : base < e → In base (starts p base e)
  first_block l = rw (starts_more p base e l) (inl refl)

  -- the walk goes on with the block behind
  on_from : (i : ℕ) → In i (starts p base e) → starts p i e ≡ i ∷ starts p (next p i e) e
  on_from i m = starts_more p i e (starts_in p base e i m).1

  pub next_block : (i : ℕ) → In i (starts p base e) → next p i e < e → In (next p i e) (starts p base e)
  next_block i m l =
      let P = parted_at p base e i m in
      rw (P.parts p (λ w h. refl), on_from i m, starts_more p (next p i e) e l) (in_second P.lower (i ∷ (next p i e ∷ starts p (next p (next p i e) e) e)) (next p i e) (inr (inl refl)))

  -- a block ends before the next one starts
  pub blocks_in_order : (i j : ℕ) → In i (starts p base e) → In j (starts p base e) → i < j → next p i e ≤ j
  blocks_in_order i j m n l =
      let P = parted_at p base e i m in
      ⊎_elim
      (λ y. let b = P.below j y in absurd (omega arith))
      (λ y. ⊎_elim (λ (z : j ≡ i). absurd (omega arith)) (λ x. (starts_in p (next p i e) e j x).0) (rw (on_from i m) at y))
      (in_either P.lower (starts p i e) j (rw (P.parts p (λ w h. refl)) at n))

-- every longword of the area lies in a block
cover_by : (k : ℕ) (p : List ℕ) (i e w : ℕ) → e - i ≤ k → i ≤ w → w < e → (j : ℕ) × (In j (starts p i e) × ((j ≤ w) × (w < next p j e)))
cover_by zero p i e w h a b = absurd (omega arith)
cover_by (suc k) p i e w h a b =
    let u = next_up p i e (omega arith) in
    let s = starts_more p i e (omega arith) in
    ⊎_elim
    (λ (l : w < next p i e). (i, (rw s (inl refl), (a, l))))
    (λ (l : next p i e ≤ w). let r = cover_by k p (next p i e) e w (omega (arith, u.0)) l b in (r.0, (rw s (inr r.1.0), r.1.1)))
    (lt_or_ge w (next p i e))

pub in_some_block : (p : List ℕ) (base e w : ℕ) → base ≤ w → w < e → (j : ℕ) × (In j (starts p base e) × ((j ≤ w) × (w < next p j e)))
in_some_block p base e w a b = cover_by (e - base) p base e w (omega arith) a b
