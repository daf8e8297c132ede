-- The blocks of a picture that was changed from the block at i on: those before i, and what stands from i on.
use Prim.Native.Nat.{ℕ, zero, suc, ◌-◌, ◌≤◌, ◌<◌}
use mathlib.Core.Path.{◌≡◌, sym, subst}
use mathlib.Core.Logic.{⊎_elim, ◌⊎◌, inl, inr}
use mathlib.Core.List.{List}
use lib.ListN.{get_or}
use native.Mathlib.Omega.{arith}
use Rattle.blocks.specs.Walk.{next, starts}
use Rattle.words.specs.Each.{In}
use Rattle.blocks.proofs.Walk.{starts_end, starts_more, next_up}
use Rattle.words.proofs.Tests.{lt_or_ge}
use Rattle.blocks.proofs.Starts.{starts_in, next_same}

pub record Cut (p q : List ℕ) (x e i : ℕ) : Type 0 where
  pub there : (j : ℕ) → In j (starts q x e) → ((j < i) × In j (starts p x e)) ⊎ In j (starts q i e)
  pub low : (j : ℕ) → In j (starts p x e) → j < i → In j (starts q x e)
  pub high : (j : ℕ) → In j (starts q i e) → In j (starts q x e)

cut_by : (k : ℕ) (p q : List ℕ) (x e i : ℕ) → e - x ≤ k → In i (starts p x e) → ((j : ℕ) → j < i → get_or q j 0 ≡ get_or p j 0) → Cut p q x e i
cut_by zero p q x e i h m s = absurd (subst (In i) (starts_end p x e (omega arith)) m)
cut_by (suc k) p q x e i h m s = ⊎_elim
    (λ (l : x < e). go (λ y n. cut_by k p q (next p x e) e i y n s) l (next_up p x e l) (rw (starts_more p x e l) at m))
    (λ (l : e ≤ x). absurd (subst (In i) (starts_end p x e l) m))
    (lt_or_ge x e)
  where
    go : (e - next p x e ≤ k → In i (starts p (next p x e) e) → Cut p q (next p x e) e i) → x < e → (x < next p x e) × (next p x e ≤ e) → (i ≡ x) ⊎ In i (starts p (next p x e) e) → Cut p q x e i
    go deeper l u (inl z) = record {
      there = λ j n. inr (subst (λ (y : ℕ). In j (starts q y e)) (sym z) n);
      low = λ j n a. let b = (starts_in p x e j n).0 in absurd (omega arith);
      high = λ j n. subst (λ (y : ℕ). In j (starts q y e)) z n;
    }
    go deeper l u (inr n) =
        let a = starts_in p (next p x e) e i n in
        let c = deeper (omega arith) n in
        let w = next_same p q x e (s x (omega (arith, a.0))) in
        record {
          there = λ j o. ⊎_elim
              (λ (z : j ≡ x). inl (omega (arith, a.0), rw (starts_more p x e l) (inl z)))
              (λ (y : In j (starts q (next q x e) e)). ⊎_elim (λ v. inl (v.0, rw (starts_more p x e l) (inr v.1))) inr (c.there j (rw w at y)))
              (rw (starts_more q x e l) at o);
          low = λ j o b. rw (starts_more q x e l, w) (⊎_elim (λ (z : j ≡ x). inl z) (λ (y : In j (starts p (next p x e) e)). inr (c.low j y b)) (rw (starts_more p x e l) at o));
          high = λ j o. rw (starts_more q x e l, w) (inr (c.high j o));
        }

pub cut : (p q : List ℕ) (x e i : ℕ) → In i (starts p x e) → ((j : ℕ) → j < i → get_or q j 0 ≡ get_or p j 0) → Cut p q x e i
cut p q x e i m s = cut_by (e - x) p q x e i (omega arith) m s
