-- Laws of specs/Walk.antt: a walk moves up, and its starts come one after the other.
use Prim.Native.Nat.{ℕ, zero, suc, ◌+◌, ◌-◌, ◌/◌, ◌%◌, ◌≤◌, ◌<◌}
use mathlib.Core.Path.{◌≡◌, refl, sym, ap, ◌∙◌}
use mathlib.Core.Bool.{Bool, true, false}
use mathlib.Core.List.{List, [], ◌∷◌}
use mathlib.Core.Logic.{⊎_elim}
use native.Mathlib.Omega.{arith}
use borrow.Author.Tests.{le-ltb, lt-ltb, le-leb, eq-eqb, leb-true, eqb-true}
use Rattle.words.proofs.Tests.{both, lt_or_ge}
use Rattle.blocks.specs.Header.{size}
use Rattle.blocks.specs.Walk.{good, next, starts, starts_within}

-- what a good block's header says
pub record Good (p : List ℕ) (i e : ℕ) : Type 0 where
  pub whole : size p i % 16 ≡ 0
  pub least : 16 ≤ size p i
  pub within : size p i / 4 ≤ e - i

pub good_is : (p : List ℕ) (i e : ℕ) → Good p i e → good p i e ≡ true
unfolding good
good_is p i e g = simp (eq-eqb _ _ g.whole, le-leb _ _ g.least, le-leb _ _ g.within)

pub is_good : (p : List ℕ) (i e : ℕ) → good p i e ≡ true → Good p i e
unfolding good
is_good p i e h =
    let a = both _ _ h in
    let b = both _ _ a.1 in
    record { whole = eqb-true _ _ a.0; least = leb-true _ _ b.0; within = leb-true _ _ b.1 }

pub next_good : (p : List ℕ) (i e : ℕ) → good p i e ≡ true → next p i e ≡ i + size p i / 4
unfolding next
next_good p i e h = rw h

pub next_bad : (p : List ℕ) (i e : ℕ) → good p i e ≡ false → next p i e ≡ e
unfolding next
next_bad p i e h = rw h

-- a walk moves up, and not past the end
pub next_up : (p : List ℕ) (i e : ℕ) → i < e → (i < next p i e) × (next p i e ≤ e)
next_up p i e l = go (good p i e) refl
  where
    go : (b : Bool) → good p i e ≡ b → (i < next p i e) × (next p i e ≤ e)
    go true h = let g = is_good p i e h in rw (next_good p i e h) (omega arith)
    go false h = rw (next_bad p i e h) (omega arith)

fuel_end : (k : ℕ) (p : List ℕ) (i e : ℕ) → e ≤ i → starts_within k p i e ≡ []
unfolding starts_within
fuel_end zero p i e h = refl
fuel_end (suc k) p i e h = rw (le-ltb _ _ h)

-- as much fuel as there are longwords is enough
fuel_enough : (k j : ℕ) (p : List ℕ) (i e : ℕ) → e - i ≤ k → e - i ≤ j → starts_within k p i e ≡ starts_within j p i e
unfolding starts_within
fuel_enough zero j p i e h g = sym (fuel_end j p i e (omega arith))
fuel_enough (suc k) zero p i e h g = fuel_end (suc k) p i e (omega arith)
fuel_enough (suc k) (suc j) p i e h g =
    ⊎_elim
    (λ l. let u = next_up p i e l in rw (lt-ltb _ _ l) (ap (λ (t : List ℕ). i ∷ t) (fuel_enough k j p (next p i e) e (omega arith) (omega arith))))
    (λ l. fuel_end (suc k) p i e l ∙ sym (fuel_end (suc j) p i e l))
    (lt_or_ge i e)

pub starts_end : (p : List ℕ) (i e : ℕ) → e ≤ i → starts p i e ≡ []
unfolding starts
starts_end p i e h = fuel_end (e - i) p i e h

fuel_step : (k : ℕ) (p : List ℕ) (i e : ℕ) → i < e → starts_within (suc k) p i e ≡ i ∷ starts_within k p (next p i e) e
unfolding starts_within
fuel_step k p i e l = rw (lt-ltb _ _ l)

pub starts_more : (p : List ℕ) (i e : ℕ) → i < e → starts p i e ≡ i ∷ starts p (next p i e) e
unfolding starts
starts_more p i e l =
    let u = next_up p i e l in
    fuel_enough (e - i) (suc (e - (i + 1))) p i e (omega arith) (omega arith)
    ∙ fuel_step (e - (i + 1)) p i e l
    ∙ ap (λ (t : List ℕ). i ∷ t) (fuel_enough (e - (i + 1)) (e - next p i e) p (next p i e) e (omega arith) (omega arith))

-- the same, from what a call of `next_block` answers
pub next_falls : (p : List ℕ) (i e r : ℕ) → r ≡ next p i e → i < e → e - r < e - i
next_falls p i e r q l = let u = next_up p i e l in omega arith

-- a walk's next block never starts past the end
pub next_le : (p : List ℕ) (i e : ℕ) → next p i e ≤ e
next_le p i e = go (good p i e) refl
  where
    go : (b : Bool) → good p i e ≡ b → next p i e ≤ e
    go true h = let g = is_good p i e h in rw (next_good p i e h) (omega arith)
    go false h = rw (next_bad p i e h) (omega arith)
