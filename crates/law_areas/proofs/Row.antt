-- The blocks of an area as a list: parts of it, sums over it, and the walk cut at one of its blocks.
use Prim.Native.Nat.{ℕ, zero, suc, ◌+◌, ◌-◌, ◌*◌, ◌/◌, ◌%◌, ◌≤◌, ◌<◌}
use mathlib.Core.Path.{◌≡◌, refl, sym, ap, ◌∙◌, subst}
use mathlib.Core.Bool.{Bool, true, false, cond}
use mathlib.Core.List.{List, [], ◌∷◌, ◌++◌}
use mathlib.Core.Logic.{⊎_elim, ◌⊎◌, inl, inr}
use native.Mathlib.Omega.{arith}
use Rattle.words.specs.Words.{word}
use Rattle.words.specs.Each.{In, total}
use Rattle.words.proofs.Tests.{lt_or_ge}
use Rattle.blocks.specs.Header.{size, free}
use Rattle.blocks.specs.Walk.{next, starts}
use Rattle.blocks.proofs.Walk.{is_good, next_good, next_up, starts_end, starts_more}
use Rattle.blocks.proofs.Starts.{starts_in, next_same}
use Rattle.law_areas.specs.Area.{Tiled, bytes, free_size, used_size, free_bytes, used_bytes}

-- members of two lists, one after the other
pub in_first : (l m : List ℕ) (j : ℕ) → In j l → In j (l ++ m)
in_first [] m j h = absurd h
in_first (x ∷ l) m j (inl z) = inl z
in_first (x ∷ l) m j (inr h) = inr (in_first l m j h)

pub in_second : (l m : List ℕ) (j : ℕ) → In j m → In j (l ++ m)
in_second [] m j h = h
in_second (x ∷ l) m j h = inr (in_second l m j h)

pub in_either : (l m : List ℕ) (j : ℕ) → In j (l ++ m) → In j l ⊎ In j m
in_either [] m j h = inr h
in_either (x ∷ l) m j (inl z) = inl (inl z)
in_either (x ∷ l) m j (inr h) = ⊎_elim (λ a. inl (inr a)) (λ a. inr a) (in_either l m j h)

pub total_parts : (g : ℕ → ℕ) (l m : List ℕ) → total g (l ++ m) ≡ total g l + total g m
total_parts g [] m = omega arith
total_parts g (x ∷ l) m = let r = total_parts g l m in omega arith

pub total_sum : (f g h : ℕ → ℕ) (l : List ℕ) → ((j : ℕ) → In j l → h j ≡ f j + g j) → total h l ≡ total f l + total g l
total_sum f g h [] s = refl
total_sum f g h (x ∷ l) s = let a = s x (inl refl) in let r = total_sum f g h l (λ j m. s j (inr m)) in omega arith

-- what a block of a tiled area is
pub record Block (p : List ℕ) (base e j : ℕ) : Type 0 where
  pub low : base ≤ j
  pub whole : size p j % 16 ≡ 0
  pub least : 16 ≤ size p j
  pub high : j + size p j / 4 ≤ e
  pub after : next p j e ≡ j + size p j / 4

pub block_of : (p : List ℕ) (base e : ℕ) → Tiled p base e → (j : ℕ) → In j (starts p base e) → Block p base e j
block_of p base e t j m =
    let a = starts_in p base e j m in
    let g = is_good p j e (t j m) in
    record { low = a.0; whole = g.whole; least = g.least; high = omega (arith, a.1, g.within); after = next_good p j e (t j m) }

-- the blocks of a tiled area fill it
fill_by : (k : ℕ) (p : List ℕ) (i e : ℕ) → e - i ≤ k → i ≤ e → Tiled p i e → bytes p i e ≡ (e - i) * 4
fill_by zero p i e h l t = rw (starts_end p i e (omega arith)) (omega arith)
fill_by (suc k) p i e h l t = ⊎_elim
    (λ (x : i < e).
    let B = block_of p i e t i (rw (starts_more p i e x) (inl refl)) in
    let u = next_up p i e x in
    let n = B.after in
    let r = fill_by k p (next p i e) e (omega arith) u.1 (λ j m. t j (rw (starts_more p i e x) (inr m))) in
    rw (starts_more p i e x, r) (omega arith))
    (λ (x : e ≤ i). rw (starts_end p i e x) (omega arith))
    (lt_or_ge i e)

pub blocks_fill_the_area : (p : List ℕ) (base e : ℕ) → base ≤ e → Tiled p base e → bytes p base e ≡ (e - base) * 4
blocks_fill_the_area p base e l t = fill_by (e - base) p base e (omega arith) l t

-- a block is free or in use
pub free_and_used : (p : List ℕ) (base e : ℕ) → bytes p base e ≡ free_bytes p base e + used_bytes p base e
free_and_used p base e = total_sum (free_size p) (used_size p) (size p) (starts p base e) (λ i m. go (free p i) (size p i))
  where
    go : (b : Bool) (n : ℕ) → n ≡ cond b n 0 + cond b 0 n
    go true n = omega arith
    go false n = omega arith

-- the walk from base to e, cut at its block at i: the blocks below i stand in every picture that is the same below i
pub record Parted (p : List ℕ) (base e i : ℕ) : Type 0 where
  pub lower : List ℕ
  pub parts : (q : List ℕ) → ((j : ℕ) → j < i → word q j ≡ word p j) → starts q base e ≡ lower ++ starts q i e
  pub first : (base ≡ i) ⊎ In base lower
  pub below : (j : ℕ) → In j lower → j < i
  pub onward : (j : ℕ) → In j lower → (next p j e ≡ i) ⊎ In (next p j e) lower

parted_by : (k : ℕ) (p : List ℕ) (x e i : ℕ) → e - x ≤ k → In i (starts p x e) → Parted p x e i
parted_by zero p x e i h m = absurd (subst (In i) (starts_end p x e (omega arith)) m)
parted_by (suc k) p x e i h m = ⊎_elim
    (λ (l : x < e). go (λ y n. parted_by k p (next p x e) e i y n) l (next_up p x e l) (rw (starts_more p x e l) at m))
    (λ (l : e ≤ x). absurd (subst (In i) (starts_end p x e l) m))
    (lt_or_ge x e)
  where
    go : (e - next p x e ≤ k → In i (starts p (next p x e) e) → Parted p (next p x e) e i) → x < e → (x < next p x e) × (next p x e ≤ e)
        → (i ≡ x) ⊎ In i (starts p (next p x e) e) → Parted p x e i
    go deeper l u (inl z) = record { lower = []; parts = λ q s. rw z; first = inl (sym z); below = λ j n. absurd n; onward = λ j n. absurd n }
    go deeper l u (inr n) =
        let a = starts_in p (next p x e) e i n in
        let d = deeper (omega arith) n in
        record {
          lower = x ∷ d.lower;
          parts = λ q s. starts_more q x e l ∙ ap (λ (y : List ℕ). x ∷ y) (rw (next_same p q x e (s x (omega (arith, a.0)))) (d.parts q s));
          first = inr (inl refl);
          below = λ j o. ⊎_elim (λ (z : j ≡ x). omega (arith, a.0)) (λ y. d.below j y) o;
          onward = λ j o. ⊎_elim (λ (z : j ≡ x). subst (λ (v : ℕ). (next p v e ≡ i) ⊎ In (next p v e) (x ∷ d.lower)) (sym z) (⊎_elim inl (λ w. inr (inr w)) d.first)) (λ y. ⊎_elim inl (λ w. inr (inr w)) (d.onward j y)) o;
        }

pub parted_at : (p : List ℕ) (base e i : ℕ) → In i (starts p base e) → Parted p base e i
parted_at p base e i m = parted_by (e - base) p base e i (omega arith) m
