-- The starts of blocks rise, lie in the area, and depend on the longwords from the first on.
use Prim.Native.Nat.{ℕ, zero, suc, ◌+◌, ◌-◌, ◌≤◌, ◌<◌}
use mathlib.Core.Path.{◌≡◌, sym, ap, ◌∙◌}
use mathlib.Core.Bool.{Bool, true, false}
use mathlib.Core.Logic.{⊎_elim, inl, inr}
use mathlib.Core.List.{List, [], ◌∷◌}
use native.Mathlib.Omega.{arith}
use lib.ListN.{get_or}
use Rattle.words.specs.Each.{all, total, In}
use Rattle.words.proofs.Tests.{lt_or_ge}
use Rattle.blocks.specs.Walk.{good, next, starts}
use Rattle.blocks.proofs.Walk.{starts_end, starts_more, next_up}

-- a walk over the blocks from i to e: at its end, and one step
module _ (p : List ℕ) (f : ℕ → Bool) (i e : ℕ) where
  pub all_end : e ≤ i → all f (starts p i e) ≡ true
  all_end h = rw (starts_end p i e h)

  pub all_not : i < e → f i ≡ false → all f (starts p i e) ≡ false
  all_not l h = rw (starts_more p i e l, h)

  pub all_more : i < e → f i ≡ true → all f (starts p i e) ≡ all f (starts p (next p i e) e)
  all_more l h = rw (starts_more p i e l, h)

module _ (p : List ℕ) (g : ℕ → ℕ) (i e : ℕ) where
  pub total_end : e ≤ i → total g (starts p i e) ≡ 0
  total_end h = rw (starts_end p i e h)

  pub total_more : i < e → total g (starts p i e) ≡ g i + total g (starts p (next p i e) e)
  total_more l = rw (starts_more p i e l)

-- the starts of blocks rise, and lie in the area
abbrev pub Rising : ℕ → ℕ → List ℕ → Type 0
Rising lo e [] = Unit {0}
Rising lo e (i ∷ l) = (lo ≤ i) × ((i < e) × Rising (i + 1) e l)

pub rising_weaker : (lo lo' e : ℕ) (l : List ℕ) → lo' ≤ lo → Rising lo e l → Rising lo' e l
rising_weaker lo lo' e [] h r = tt
rising_weaker lo lo' e (i ∷ l) h r = (omega (arith, r.0), r.1)

rising_by : (k : ℕ) (p : List ℕ) (i e : ℕ) → e - i ≤ k → Rising i e (starts p i e)
rising_by zero p i e h = rw (starts_end p i e (omega arith)) tt
rising_by (suc k) p i e h =
    ⊎_elim
    (λ l. let u = next_up p i e l in
    rw (starts_more p i e l) (omega arith, (l, rising_weaker (next p i e) (i + 1) e (starts p (next p i e) e) (omega arith) (rising_by k p (next p i e) e (omega arith)))))
    (λ l. rw (starts_end p i e l) tt)
    (lt_or_ge i e)

pub starts_rising : (p : List ℕ) (i e : ℕ) → Rising i e (starts p i e)
starts_rising p i e = rising_by (e - i) p i e (omega arith)

pub rising_in : (lo e : ℕ) (l : List ℕ) → Rising lo e l → (i : ℕ) → In i l → (lo ≤ i) × (i < e)
rising_in lo e [] r i m = absurd m
rising_in lo e (x ∷ l) r i (inl z) = (omega (arith, r.0), omega (arith, r.1.0))
rising_in lo e (x ∷ l) r i (inr m) = let s = rising_in (x + 1) e l r.1.1 i m in (omega (arith, r.0, s.0), s.1)

pub starts_in : (p : List ℕ) (b e i : ℕ) → In i (starts p b e) → (b ≤ i) × (i < e)
starts_in p b e i m = rising_in b e (starts p b e) (starts_rising p b e) i m

pub next_same : (p q : List ℕ) (i e : ℕ) → get_or q i 0 ≡ get_or p i 0 → next q i e ≡ next p i e
unfolding next good
next_same p q i e h = rw h

same_by : (k : ℕ) (p q : List ℕ) (i e : ℕ) → e - i ≤ k → ((j : ℕ) → i ≤ j → get_or q j 0 ≡ get_or p j 0) → starts q i e ≡ starts p i e
same_by zero p q i e h s = starts_end q i e (omega arith) ∙ sym (starts_end p i e (omega arith))
same_by (suc k) p q i e h s =
    ⊎_elim
    (λ l. let u = next_up p i e l in
    starts_more q i e l ∙ ap (λ (n : ℕ). i ∷ starts q n e) (next_same p q i e (s i (omega arith)))
    ∙ ap (λ (t : List ℕ). i ∷ t) (same_by k p q (next p i e) e (omega arith) (λ j a. s j (omega arith)))
    ∙ sym (starts_more p i e l))
    (λ l. starts_end q i e l ∙ sym (starts_end p i e l))
    (lt_or_ge i e)

-- the blocks from i on are the same where the longwords from i on are
pub starts_same : (p q : List ℕ) (i e : ℕ) → ((j : ℕ) → i ≤ j → get_or q j 0 ≡ get_or p j 0) → starts q i e ≡ starts p i e
starts_same p q i e s = same_by (e - i) p q i e (omega arith) s
