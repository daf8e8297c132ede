-- Whole blocks in a row, and whole blocks in a row of which no two free ones touch.
use Prim.Native.Nat.{ℕ, zero, suc, ◌+◌, ◌-◌, ◌/◌, ◌%◌, ◌≤◌, ◌<◌}
use mathlib.Core.Path.{◌≡◌, refl, ◌∙◌, subst}
use mathlib.Core.Bool.{Bool, true, false, ◌&&◌}
use mathlib.Core.List.{List, ◌∷◌}
use mathlib.Core.Logic.{⊎_elim, inl, inr}
use native.Mathlib.Omega.{arith}
use Rattle.words.specs.Each.{In}
use Rattle.words.proofs.Tests.{lt_or_ge, false_true}
use Rattle.blocks.specs.Header.{size, free}
use Rattle.blocks.specs.Walk.{good, next, starts}
use Rattle.blocks.proofs.Walk.{is_good, good_is, next_good, next_up, starts_more, starts_end}
use Rattle.law_areas.specs.Area.{Tiled, Apart}

-- a whole block
pub record Whole (p : List ℕ) (i : ℕ) : Type 0 where
  pub whole : size p i % 16 ≡ 0
  pub least : 16 ≤ size p i

-- whole blocks from i up to e
pub data Row (p : List ℕ) (e : ℕ) : ℕ → Type 0 where
  done : {i : ℕ} → i ≡ e → Row p e i
  more : {i : ℕ} → Whole p i → Row p e (i + size p i / 4) → Row p e i

-- the same, no two free ones touching; f and g: the block before i, and the last one, is free
pub data Spaced (p : List ℕ) (g : Bool) (e : ℕ) : Bool → ℕ → Type 0 where
  done : {f : Bool} {i : ℕ} → f ≡ g → i ≡ e → Spaced p g e f i
  more : {f : Bool} {i : ℕ} → Whole p i → f && free p i ≡ false → Spaced p g e (free p i) (i + size p i / 4) → Spaced p g e f i

pub row_le : {p : List ℕ} {e i : ℕ} → Row p e i → i ≤ e
row_le (Row.done q) = omega arith
row_le (Row.more {i = i} B S) = let h = row_le S in omega arith

pub spaced_row : {p : List ℕ} {g : Bool} {e : ℕ} {f : Bool} {i : ℕ} → Spaced p g e f i → Row p e i
spaced_row (Spaced.done a r) = Row.done r
spaced_row (Spaced.more B A S) = Row.more B (spaced_row S)

pub spaced_le : {p : List ℕ} {g : Bool} {e : ℕ} {f : Bool} {i : ℕ} → Spaced p g e f i → i ≤ e
spaced_le S = row_le (spaced_row S)

-- a block of a row: it is good, and the walk goes on behind it
module _ {p : List ℕ} {e i : ℕ} (B : Whole p i) (h : i + size p i / 4 ≤ e) where
  pub row_good : good p i e ≡ true
  row_good = good_is p i e (record { whole = B.whole; least = B.least; within = omega arith })

  pub row_next : next p i e ≡ i + size p i / 4
  row_next = next_good p i e row_good

  pub row_starts : starts p i e ≡ i ∷ starts p (i + size p i / 4) e
  row_starts = let b = B.least in starts_more p i e (omega arith) ∙ rw row_next

-- blocks that tile an area are a row
row_by : (k : ℕ) (p : List ℕ) (i e : ℕ) → e - i ≤ k → i ≤ e → Tiled p i e → Row p e i
row_by zero p i e h l t = Row.done {i = i} (omega arith)
row_by (suc k) p i e h l t = ⊎_elim
    (λ (x : i < e).
    let m : In i (starts p i e) = rw (starts_more p i e x) (inl refl) in
    let g = is_good p i e (t i m) in
    let n = next_good p i e (t i m) in
    let u = next_up p i e x in
    let r = row_by k p (next p i e) e (omega arith) u.1 (λ j o. t j (rw (starts_more p i e x) (inr o))) in
    Row.more (record { whole = g.whole; least = g.least }) (subst (Row p e) n r))
    (λ (x : e ≤ i). Row.done {i = i} (omega arith))
    (lt_or_ge i e)

pub tiled_row : (p : List ℕ) (base e : ℕ) → base ≤ e → Tiled p base e → Row p e base
tiled_row p base e l t = row_by (e - base) p base e (omega arith) l t

-- and back
pub row_tiled : {p : List ℕ} {e i : ℕ} → Row p e i → Tiled p i e
row_tiled {p} {e} (Row.done {i = i} q) j m = absurd (subst (In j) (starts_end p i e (omega arith)) m)
row_tiled {p} {e} (Row.more {i = i} B S) j m = ⊎_elim
    (λ (z : j ≡ i). rw z (row_good B (row_le S)))
    (λ y. row_tiled S j y)
    (rw (row_starts B (row_le S)) at m)

-- the block after a free one
head_used : {p : List ℕ} {g : Bool} {e : ℕ} {f : Bool} {i : ℕ} → Spaced p g e f i → f ≡ true → i < e → free p i ≡ false
head_used (Spaced.done a r) z l = absurd (omega arith)
head_used (Spaced.more {f = true} B A S) z l = A
head_used (Spaced.more {f = false} B A S) z l = absurd (false_true z)

pub spaced_apart : {p : List ℕ} {g : Bool} {e : ℕ} {f : Bool} {i : ℕ} → Spaced p g e f i → Apart p i e
spaced_apart {p} {e = e} (Spaced.done {i = i} a r) j m z l = absurd (subst (In j) (starts_end p i e (omega arith)) m)
spaced_apart {p} {g} {e = e} (Spaced.more {i = i} B A S) j m z l = ⊎_elim
    (λ (y : j ≡ i). first j y z l)
    (λ y. spaced_apart S j y z l)
    (rw (row_starts B (spaced_le S)) at m)
  where
    first : (j : ℕ) → j ≡ i → free p j ≡ true → next p j e < e → free p (next p j e) ≡ false
    first j y z l =
        let n : next p j e ≡ i + size p i / 4 = rw (y, row_next B (spaced_le S)) in
        rw n (head_used S (rw y at z) (rw n at l))
