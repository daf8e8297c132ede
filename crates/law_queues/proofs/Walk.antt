-- The walk depends on the lengths of its blocks only, and its blocks lie apart.
use Prim.Native.Nat.{ℕ, zero, suc, ◌-◌, ◌≤◌, ◌<◌}
use mathlib.Core.Path.{◌≡◌, refl, sym, ap, ◌∙◌, subst}
use mathlib.Core.Logic.{⊎_elim, ◌⊎◌, inl, inr}
use mathlib.Core.List.{List, [], ◌∷◌}
use native.Mathlib.Omega.{arith}
use Rattle.words.specs.Words.{word}
use Rattle.words.specs.Each.{In}
use Rattle.words.proofs.Tests.{lt_or_ge}
use Rattle.blocks.specs.Walk.{next, starts}
use Rattle.blocks.proofs.Walk.{next_up, starts_end, starts_more}
use Rattle.blocks.proofs.Starts.{starts_in, next_same}

walk_by : (n : ℕ) (p q : List ℕ) (b e : ℕ) → e - b ≤ n → ((j : ℕ) → In j (starts p b e) → word q j ≡ word p j) → starts q b e ≡ starts p b e
walk_by zero p q b e h s = starts_end q b e (omega arith) ∙ sym (starts_end p b e (omega arith))
walk_by (suc n) p q b e h s = ⊎_elim
    (λ (l : b < e).
    let u = next_up p b e l in
    starts_more q b e l ∙ ap (λ (x : ℕ). b ∷ starts q x e) (next_same p q b e (s b (rw (starts_more p b e l) (inl refl))))
    ∙ ap (λ (x : List ℕ). b ∷ x) (walk_by n p q (next p b e) e (omega arith) (λ j m. s j (rw (starts_more p b e l) (inr m))))
    ∙ sym (starts_more p b e l))
    (λ (l : e ≤ b). starts_end q b e l ∙ sym (starts_end p b e l))
    (lt_or_ge b e)

-- blocks whose lengths stay are the same blocks
pub walk_same : (p q : List ℕ) (b e : ℕ) → ((j : ℕ) → In j (starts p b e) → word q j ≡ word p j) → starts q b e ≡ starts p b e
walk_same p q b e s = walk_by (e - b) p q b e (omega arith) s

apart_by : (n : ℕ) (p : List ℕ) (b e i j : ℕ) → e - b ≤ n → In i (starts p b e) → In j (starts p b e) → i < j → next p i e ≤ j
apart_by zero p b e i j h x y l = absurd (subst (In i) (starts_end p b e (omega arith)) x)
apart_by (suc n) p b e i j h x y l = ⊎_elim
    (λ (o : b < e). let u = next_up p b e o in go o u (rw (starts_more p b e o) at x) (rw (starts_more p b e o) at y) (λ v w. apart_by n p (next p b e) e i j (omega arith) v w l))
    (λ (o : e ≤ b). absurd (subst (In i) (starts_end p b e o) x))
    (lt_or_ge b e)
  where
    go : b < e → (b < next p b e) × (next p b e ≤ e) → (i ≡ b) ⊎ In i (starts p (next p b e) e) → (j ≡ b) ⊎ In j (starts p (next p b e) e)
        → (In i (starts p (next p b e) e) → In j (starts p (next p b e) e) → next p i e ≤ j) → next p i e ≤ j
    go o u (inl v) (inl w) r = absurd (omega arith)
    go o u (inl v) (inr w) r = rw v (starts_in p (next p b e) e j w).0
    go o u (inr v) (inl w) r = let k = (starts_in p (next p b e) e i v).0 in absurd (omega arith)
    go o u (inr v) (inr w) r = r v w

-- a block ends before a later one starts
pub blocks_apart : (p : List ℕ) (b e i j : ℕ) → In i (starts p b e) → In j (starts p b e) → i < j → next p i e ≤ j
blocks_apart p b e i j x y l = apart_by (e - b) p b e i j (omega arith) x y l
