-- A sweep of a row of whole blocks, from a block on to the end: what it leaves.
use Prim.Native.Nat.{ℕ, ◌+◌, ◌-◌, ◌*◌, ◌/◌, ◌%◌, ◌≤◌, ◌<◌}
use mathlib.Core.Path.{◌≡◌, refl, sym, ◌∙◌}
use mathlib.Core.Bool.{Bool, true, false, cond, ◌&&◌, ◌||◌}
use mathlib.Core.List.{List, [], ◌∷◌}
use mathlib.Core.Logic.{⊎_elim, ◌⊎◌, inl, inr}
use lib.ListN.{length}
use lib.Seq.{get_or-set_same, get_or-set_other}
use lib.Dec.{eqb}
use native.Mathlib.Omega.{arith}
use borrow.Author.Tests.{eq-eqb, eqb-true}
use Rattle.words.specs.Words.{word}
use Rattle.words.specs.Each.{In, total}
use Rattle.words.proofs.Tests.{false_true, lt_or_ge}
use Rattle.blocks.specs.Header.{size, kind, free}
use Rattle.blocks.specs.Walk.{next, starts}
use Rattle.blocks.proofs.Walk.{starts_end}
use Rattle.blocks.proofs.Starts.{next_same}
use Rattle.headers.specs.Header.{header}
use Rattle.law_areas.specs.Area.{free_size}
use Rattle.headers.proofs.Header.{length_header, header_all_zeros, header_zeros}
use Rattle.freeing.specs.Sweep.{goes, freed, absorbed, sweep}
use Rattle.freeing.proofs.Steps.{From, goes_same, freed_other, length_freed, length_absorbed, absorbed_other, sweep_end, sweep_used, sweep_first, sweep_absorb}
use Rattle.law_freeing.proofs.Rows.{Whole, Row, Spaced, row_le, spaced_le, row_next, row_starts}

-- the block at i is free, or it goes
unfoldable pub spare : List ℕ → ℕ → ℕ → ℕ → Bool
spare p m a i = free p i || goes p m a i

-- its bytes, if it is
abbrev pub spare_size : List ℕ → ℕ → ℕ → ℕ → ℕ
spare_size p m a i = cond (spare p m a i) (size p i) 0

-- of a list of blocks those that start a block after joining: all but each spare one behind a spare one; f: the block before is spare
abbrev pub heads : (ℕ → Bool) → Bool → List ℕ → List ℕ
heads s f [] = []
heads s f (i ∷ l) = let t = heads s (s i) l in cond (f && s i) t (i ∷ t)

-- the others
abbrev pub absorbs : (ℕ → Bool) → Bool → List ℕ → List ℕ
absorbs s f [] = []
absorbs s f (i ∷ l) = let t = absorbs s (s i) l in cond (f && s i) (i ∷ t) t

pub spare_false : (p : List ℕ) (m a i : ℕ) → spare p m a i ≡ false → (free p i ≡ false) × (goes p m a i ≡ false)
unfolding spare
spare_false p m a i h = go (free p i) (goes p m a i) h
  where
    go : (b c : Bool) → b || c ≡ false → (b ≡ false) × (c ≡ false)
    go true c h = absurd (false_true (sym h))
    go false c h = (refl, h)

pub false_spare : (p : List ℕ) (m a i : ℕ) → free p i ≡ false → goes p m a i ≡ false → spare p m a i ≡ false
unfolding spare
false_spare p m a i f g = rw (f, g)

-- y is x with the block at i free if it goes; from i on x is p
pub record Freed (p x y : List ℕ) (m a i : ℕ) : Type 0 where
  pub long : length y ≡ length x
  pub other : (k : ℕ) → (k ≤ i) ⊎ (i + 4 ≤ k) → word y k ≡ word x k
  pub tail : (k : ℕ) → i < k → k < i + 4 → word y k ≡ cond (goes p m a i) 0 (word p k)

freed_tail : (p x : List ℕ) (m a i : ℕ) → i + 4 ≤ length x → From i p x → (k : ℕ) → i < k → k < i + 4 → word (freed x m a i) k ≡ cond (goes p m a i) 0 (word p k)
unfolding freed
freed_tail p x m a i le X k lo hi = rw (goes_same p x m a i (X (i + 1) (omega arith)) (X (i + 2) (omega arith))) (go (goes p m a i))
  where
    go : (b : Bool) → word (cond b (header x i (size x i) 0 0 0) x) k ≡ cond b 0 (word p k)
    go true = header_zeros x i (size x i) k le lo hi
    go false = X k (omega arith)

pub freed_is : (p x : List ℕ) (m a i : ℕ) → i + 4 ≤ length x → From i p x → Freed p x (freed x m a i) m a i
freed_is p x m a i le X = record { long = length_freed x m a i; other = freed_other x m a i; tail = freed_tail p x m a i le X }

-- the block at i is free then just where it is spare
pub freed_free : (p x y : List ℕ) (m a i : ℕ) → Freed p x y m a i → free y i ≡ spare p m a i
unfolding spare
freed_free p x y m a i Y = rw (Y.tail (i + 1) (omega arith) (omega arith)) (go (goes p m a i) (free p i) refl)
  where
    go : (b c : Bool) → free p i ≡ c → eqb (cond b 0 (kind p i)) 0 ≡ c || b
    go true true z = refl
    go true false z = refl
    go false true z = z
    go false false z = z

-- a free block from r up to i, so far
pub record Open (x : List ℕ) (r i : ℕ) : Type 0 where
  pub block : Whole x r
  pub empty : kind x r ≡ 0
  pub ends : r + size x r / 4 ≡ i

abbrev pub State : Bool → List ℕ → ℕ → ℕ → ℕ → Type 0
State true x e r i = Open x r i
State false x e r i = r ≡ e

-- what a sweep from i on does: p is the picture at first, x now, q at the end; f: a run of spare blocks from r is open at i
pub record Rest (p x q : List ℕ) (m a : ℕ) (f : Bool) (e r i : ℕ) : Type 0 where
  pub long : length q ≡ length x
  pub row : (g : Bool) × Spaced q g e false (cond f r i)
  pub before : (k : ℕ) → k < i → (k ≡ cond f r i → ⊥) → word q k ≡ word x k
  pub above : (k : ℕ) → e ≤ k → word q k ≡ word x k
  pub blocks : starts q (cond f r i) e ≡ cond f (r ∷ heads (spare p m a) true (starts p i e)) (heads (spare p m a) false (starts p i e))
  pub sums : total (free_size q) (starts q (cond f r i) e) ≡ cond f (size x r) 0 + total (spare_size p m a) (starts p i e)
  pub keeps : (j : ℕ) → In j (starts p i e) → spare p m a j ≡ false → (k : ℕ) → j ≤ k → k < j + size p j / 4 → word q k ≡ word p k
  pub rooms : (j : ℕ) → In j (starts p i e) → (k : ℕ) → j + 4 ≤ k → k < j + size p j / 4 → word q k ≡ word p k
  pub tails : (j : ℕ) → In j (heads (spare p m a) f (starts p i e)) → (k : ℕ) → j < k → k < j + 4 → word q k ≡ cond (goes p m a j) 0 (word p k)
  pub zeros : (j : ℕ) → In j (absorbs (spare p m a) f (starts p i e)) → (k : ℕ) → j ≤ k → k < j + 4 → word q k ≡ 0

-- the ends of a walk
end_closed : (p x : List ℕ) (m a e r i : ℕ) → i ≡ e → Rest p x x m a false e r i
end_closed p x m a e r i q =
    let P = starts_end p i e (omega arith) in
    let X = starts_end x i e (omega arith) in
    record {
      long = refl;
      row = (false, Spaced.done refl q);
      before = λ k l n. refl;
      above = λ k l. refl;
      blocks = rw (P, X);
      sums = rw (P, X);
      keeps = λ j h. absurd (let z : In j [] = rw P at h in z);
      rooms = λ j h. absurd (let z : In j [] = rw P at h in z);
      tails = λ j h. absurd (let z : In j [] = rw P at h in z);
      zeros = λ j h. absurd (let z : In j [] = rw P at h in z);
    }

end_open : (p x : List ℕ) (m a e r i : ℕ) → i ≡ e → Open x r i → Rest p x x m a true e r i
end_open p x m a e r i q O =
    let P = starts_end p i e (omega arith) in
    let f : free x r ≡ true = eq-eqb _ _ O.empty in
    let S : Spaced x true e (free x r) (r + size x r / 4) = Spaced.done f (O.ends ∙ q) in
    let X = row_starts O.block (spaced_le S) in
    let Y = starts_end x (r + size x r / 4) e (omega (arith, O.ends)) in
    record {
      long = refl;
      row = (true, Spaced.more O.block refl S);
      before = λ k l n. refl;
      above = λ k l. refl;
      blocks = rw (P, X, Y);
      sums = rw (P, X, Y, f);
      keeps = λ j h. absurd (let z : In j [] = rw P at h in z);
      rooms = λ j h. absurd (let z : In j [] = rw P at h in z);
      tails = λ j h. absurd (let z : In j [] = rw P at h in z);
      zeros = λ j h. absurd (let z : In j [] = rw P at h in z);
    }

-- one block, and the rest
module _ (p : List ℕ) (m a e i : ℕ) (B : Whole p i) (S : Row p e (i + size p i / 4)) (x y q : List ℕ) (r : ℕ) (X : From i p x) (Y : Freed p x y m a i) where
  P : starts p i e ≡ i ∷ starts p (i + size p i / 4) e
  P = row_starts B (row_le S)

  same_size : size y i ≡ size p i
  same_size = Y.other i (inl (omega arith)) ∙ X i (omega arith)

  same_room : (k : ℕ) → i + 4 ≤ k → word y k ≡ word p k
  same_room k l = Y.other k (inr l) ∙ X k (omega arith)

  -- a block that is not spare
  module _ (f : spare p m a i ≡ false) (R : Rest p y q m a false e e (i + size p i / 4)) where
    used_same : (k : ℕ) → i ≤ k → k < i + size p i / 4 → word q k ≡ word p k
    used_same k lo hi = R.before k hi (λ z. omega arith) ∙ ⊎_elim
        (λ (l : k ≤ i). let z : k ≡ i = omega arith in rw z same_size)
        (λ (l : i < k). ⊎_elim
        (λ (u : k < i + 4). Y.tail k l u ∙ rw (spare_false p m a i f).1)
        (λ (u : i + 4 ≤ k). same_room k u)
        (lt_or_ge k (i + 4)))
        (⊎_elim inr inl (lt_or_ge i k))

    used_size : size q i ≡ size p i
    used_size = let b = B.least in used_same i (omega arith) (omega arith)

    used_free : free q i ≡ false
    used_free = let b = B.least in let z : kind q i ≡ kind p i = used_same (i + 1) (omega arith) (omega arith) in rw z (spare_false p m a i f).0

    used_whole : Whole q i
    used_whole = record { whole = rw used_size B.whole; least = rw used_size B.least }

    used_row : Spaced q R.row.0 e (free q i) (i + size q i / 4)
    used_row = rw (used_free, used_size) R.row.1

    used_walk : starts q i e ≡ i ∷ starts q (i + size q i / 4) e
    used_walk = row_starts used_whole (spaced_le used_row)

    used_keeps : (j : ℕ) → In j (starts p i e) → spare p m a j ≡ false → (k : ℕ) → j ≤ k → k < j + size p j / 4 → word q k ≡ word p k
    used_keeps j h u k lo hi = ⊎_elim
        (λ (w : j ≡ i). used_same k (rw w at lo) (rw w at hi))
        (λ v. R.keeps j v u k lo hi)
        (rw P at h)

    used_rooms : (j : ℕ) → In j (starts p i e) → (k : ℕ) → j + 4 ≤ k → k < j + size p j / 4 → word q k ≡ word p k
    used_rooms j h k lo hi = ⊎_elim
        (λ (w : j ≡ i). used_same k (omega arith) (rw w at hi))
        (λ v. R.rooms j v k lo hi)
        (rw P at h)

    used_tail : (j : ℕ) → j ≡ i → (k : ℕ) → j < k → k < j + 4 → word q k ≡ cond (goes p m a j) 0 (word p k)
    used_tail j w k lo hi = let b = B.least in rw (w, (spare_false p m a i f).1) (used_same k (omega arith) (omega arith))

    used_closed : Rest p x q m a false e r i
    used_closed = record {
      long = R.long ∙ Y.long;
      row = (R.row.0, Spaced.more used_whole refl used_row);
      before = λ k l n. R.before k (omega arith) (λ z. omega arith) ∙ Y.other k (inl (omega arith));
      above = λ k l. R.above k l ∙ Y.other k (inr (let h = row_le S in let b = B.least in omega arith));
      blocks = used_walk ∙ rw (used_size, P, f, R.blocks);
      sums = rw (used_walk, P, used_free, f, used_size, R.sums);
      keeps = used_keeps;
      rooms = used_rooms;
      tails = λ j h k lo hi. ⊎_elim (λ (w : j ≡ i). used_tail j w k lo hi) (λ v. R.tails j v k lo hi) (rw (P, f) at h);
      zeros = λ j h. R.zeros j (rw (P, f) at h);
    }

    module _ (O : Open y r i) where
      run_size : size q r ≡ size y r
      run_size = let b = B.least in let o = O.ends in let br = O.block.least in R.before r (omega arith) (λ z. omega arith)

      run_free : free q r ≡ true
      run_free =
          let b = B.least in
          let o = O.ends in
          let br = O.block.least in
          eq-eqb (kind q r) 0 (R.before (r + 1) (omega arith) (λ z. omega arith) ∙ O.empty)

      run_whole : Whole q r
      run_whole = record { whole = rw run_size O.block.whole; least = rw run_size O.block.least }

      run_row : Spaced q R.row.0 e (free q r) (r + size q r / 4)
      run_row = rw (run_free, run_size, O.ends) (Spaced.more {f = true} {i = i} used_whole (rw used_free) used_row)

      run_walk : starts q r e ≡ r ∷ starts q (r + size q r / 4) e
      run_walk = row_starts run_whole (spaced_le run_row)

      used_open : Rest p x q m a true e r i
      used_open = record {
        long = R.long ∙ Y.long;
        row = (R.row.0, Spaced.more run_whole refl run_row);
        before = λ k l n. R.before k (omega arith) (λ z. omega arith) ∙ Y.other k (inl (omega arith));
        above = λ k l. R.above k l ∙ Y.other k (inr (let h = row_le S in let b = B.least in omega arith));
        blocks = run_walk ∙ rw (run_size, O.ends, used_walk, used_size, P, f, R.blocks);
        sums =
            let o = O.ends in
            let br = O.block.least in
            let z : size y r ≡ size x r = Y.other r (inl (omega arith)) in
            rw (run_walk, run_free, run_size, O.ends, used_walk, P, used_free, f, used_size, R.sums, z) (omega arith);
        keeps = used_keeps;
        rooms = used_rooms;
        tails = λ j h k lo hi. ⊎_elim (λ (w : j ≡ i). used_tail j w k lo hi) (λ v. R.tails j v k lo hi) (rw (P, f) at h);
        zeros = λ j h. R.zeros j (rw (P, f) at h);
      }

  clash : {A : Type 0} → spare p m a i ≡ true → (j : ℕ) → spare p m a j ≡ false → j ≡ i → A
  clash f j u w = absurd (false_true (sym u ∙ rw w f))

  -- a spare block that starts a run
  free_closed : spare p m a i ≡ true → Rest p y q m a true e i (i + size p i / 4) → Rest p x q m a false e r i
  free_closed f R = record {
    long = R.long ∙ Y.long;
    row = R.row;
    before = λ k l n. R.before k (omega arith) n ∙ Y.other k (inl (omega arith));
    above = λ k l. R.above k l ∙ Y.other k (inr (let h = row_le S in let b = B.least in omega arith));
    blocks = rw (P, f) R.blocks;
    sums = R.sums ∙ rw (P, f, same_size) (omega arith);
    keeps = λ j h u k lo hi. ⊎_elim (λ (w : j ≡ i). clash f j u w) (λ v. R.keeps j v u k lo hi) (rw P at h);
    rooms = λ j h k lo hi. ⊎_elim (λ (w : j ≡ i). R.before k (rw w at hi) (λ z. omega arith) ∙ same_room k (omega arith)) (λ v. R.rooms j v k lo hi) (rw P at h);
    tails = λ j h k lo hi. ⊎_elim
        (λ (w : j ≡ i). let b = B.least in R.before k (omega arith) (λ z. omega arith) ∙ rw w (Y.tail k (rw w at lo) (rw w at hi)))
        (λ v. R.tails j v k lo hi)
        (rw (P, f) at h);
    zeros = λ j h. R.zeros j (rw (P, f) at h);
  }

-- a spare block behind a run: it is absorbed
module _ (p : List ℕ) (m a e i : ℕ) (B : Whole p i) (S : Row p e (i + size p i / 4)) (x y : List ℕ) (r : ℕ) (X : From i p x) (Y : Freed p x y m a i) (O : Open y r i) (le : e ≤ length y) where
  reach : next y i e ≡ i + size p i / 4
  reach = next_same p y i e (same_size p m a e i B S x y y r X Y) ∙ row_next B (row_le S)

  pub absorbed_zero : (k : ℕ) → i ≤ k → k < i + 4 → word (absorbed y e r i) k ≡ 0
  unfolding absorbed
  absorbed_zero k lo hi =
      let b = B.least in
      let o = O.ends in
      let ob = O.block.least in
      let h = row_le S in
      get_or-set_other (header y i 0 0 0 0) r k ((next y i e - r) * 4) 0 (λ z. omega arith) ∙ header_all_zeros y i k (omega arith) lo hi

  pub absorbed_size : size (absorbed y e r i) r ≡ (i + size p i / 4 - r) * 4
  unfolding absorbed
  absorbed_size =
      let b = B.least in
      let o = O.ends in
      let ob = O.block.least in
      let h = row_le S in
      get_or-set_same (header y i 0 0 0 0) r ((next y i e - r) * 4) 0 (rw (length_header y i 0 0 0 0) (omega arith)) ∙ rw reach

  pub absorbed_open : Open (absorbed y e r i) r (i + size p i / 4)
  absorbed_open =
      let b = B.least in
      let w = B.whole in
      let o = O.ends in
      let ob = O.block.least in
      let ow = O.block.whole in
      let s = absorbed_size in
      record {
        block = record { whole = rw s (sixteen (size y r) (size p i) ow w o); least = rw s (omega arith) };
        empty = absorbed_other y e r i (r + 1) (λ z. omega arith) (inl (omega arith)) ∙ O.empty;
        ends = rw s (omega arith);
      }
    where
      sixteen : (s t : ℕ) → s % 16 ≡ 0 → t % 16 ≡ 0 → r + s / 4 ≡ i → (i + t / 4 - r) * 4 % 16 ≡ 0
      sixteen s t a b c = let z : (i + t / 4 - r) * 4 ≡ s + t = omega arith in rw z (omega arith)

  pub absorbed_from : From (i + size p i / 4) p (absorbed y e r i)
  absorbed_from k l =
      let b = B.least in
      let o = O.ends in
      let ob = O.block.least in
      absorbed_other y e r i k (λ z. omega arith) (inr (omega arith)) ∙ same_room p m a e i B S x y y r X Y k (omega arith)

  free_open : (q : List ℕ) → spare p m a i ≡ true → Rest p (absorbed y e r i) q m a true e r (i + size p i / 4) → Rest p x q m a true e r i
  free_open q f R =
      let P = row_starts B (row_le S) in
      let b = B.least in
      let w = B.whole in
      let o = O.ends in
      let ob = O.block.least in
      let ow = O.block.whole in
      let h = row_le S in
      let s : size (absorbed y e r i) r ≡ size y r + size p i = absorbed_size ∙ omega arith in
      let z : size y r ≡ size x r = Y.other r (inl (omega arith)) in
      record {
        long = R.long ∙ length_absorbed y e r i ∙ Y.long;
        row = R.row;
        before = λ k l n. R.before k (omega arith) n ∙ absorbed_other y e r i k n (inl l) ∙ Y.other k (inl (omega arith));
        above = λ k l. R.above k l ∙ absorbed_other y e r i k (λ v. omega arith) (inr (omega arith)) ∙ Y.other k (inr (omega arith));
        blocks = rw (P, f) R.blocks;
        sums = R.sums ∙ rw (P, f, s, z) (omega arith);
        keeps = λ j t u k lo hi. ⊎_elim (λ (v : j ≡ i). clash p m a e i B S x y y r X Y f j u v) (λ v. R.keeps j v u k lo hi) (rw P at t);
        rooms = λ j t k lo hi. ⊎_elim
            (λ (v : j ≡ i). R.before k (rw v at hi) (λ c. omega arith) ∙ absorbed_other y e r i k (λ c. omega arith) (inr (omega arith)) ∙ same_room p m a e i B S x y y r X Y k (omega arith))
            (λ v. R.rooms j v k lo hi)
            (rw P at t);
        tails = λ j t. R.tails j (rw (P, f) at t);
        zeros = λ j t k lo hi. ⊎_elim
            (λ (v : j ≡ i). R.before k (omega arith) (λ c. omega arith) ∙ absorbed_zero k (omega arith) (omega arith))
            (λ v. R.zeros j v k lo hi)
            (rw (P, f) at t);
      }

open_freed : (p x y : List ℕ) (m a r i : ℕ) → Freed p x y m a i → Open x r i → Open y r i
open_freed p x y m a r i Y O =
    let o = O.ends in
    let b = O.block.least in
    let s : size y r ≡ size x r = Y.other r (inl (omega arith)) in
    record {
      block = record { whole = rw s O.block.whole; least = rw s O.block.least };
      empty = Y.other (r + 1) (inl (omega arith)) ∙ O.empty;
      ends = rw s O.ends;
    }

-- a sweep of whole blocks, from i on; x is the picture so far
pub sweep_rest : (p : List ℕ) (m a e : ℕ) (f : Bool) (x : List ℕ) (r : ℕ) {i : ℕ} → Row p e i → From i p x → e ≤ length x → State f x e r i → Rest p x (sweep x e m a r (starts x i e)) m a f e r i
sweep_rest p m a e true x r (Row.done {i = i} q) X le O = rw (sweep_end x e m a r i (omega arith)) (end_open p x m a e r i q O)
sweep_rest p m a e false x r (Row.done {i = i} q) X le O = rw (sweep_end x e m a r i (omega arith)) (end_closed p x m a e r i q)
sweep_rest p m a e f x r (Row.more {i = i} B S) X le O =
    go f O (spare p m a i) refl
    (λ s O'. sweep_rest p m a e true y s S from_y le_y O')
    (sweep_rest p m a e false y e S from_y le_y refl)
    (λ X' O'. sweep_rest p m a e true (absorbed y e r i) r S X' (rw (length_absorbed y e r i) le_y) O')
  where
    j : ℕ
    j = i + size p i / 4

    y : List ℕ
    y = freed x m a i

    in_area : i + 4 ≤ e
    in_area = let h = row_le S in let b = B.least in omega arith

    Y : Freed p x y m a i
    Y = freed_is p x m a i (let h = in_area in omega arith) X

    le_y : e ≤ length y
    le_y = rw Y.long le

    from_y : From j p y
    from_y k l = let b = B.least in Y.other k (inr (omega arith)) ∙ X k (omega arith)

    size_y : size y i ≡ size p i
    size_y = Y.other i (inl (omega arith)) ∙ X i (omega arith)

    n : next x i e ≡ j
    n = next_same p x i e (X i (omega arith)) ∙ row_next B (row_le S)

    go : (f : Bool) → State f x e r i → (b : Bool) → spare p m a i ≡ b
        → ((s : ℕ) → Open y s j → Rest p y (sweep y e m a s (starts y j e)) m a true e s j)
        → Rest p y (sweep y e m a e (starts y j e)) m a false e e j
        → (From j p (absorbed y e r i) → Open (absorbed y e r i) r j → Rest p (absorbed y e r i) (sweep (absorbed y e r i) e m a r (starts (absorbed y e r i) j e)) m a true e r j)
        → Rest p x (sweep x e m a r (starts x i e)) m a f e r i
    go true O true z h₁ h₂ h₃ =
        let O' = open_freed p x y m a r i Y O in
        let o = O.ends in
        let ob = O.block.least in
        let l = in_area in
        rw (sweep_absorb x e m a r i (omega arith) (freed_free p x y m a i Y ∙ z) (omega arith), n)
        (free_open p m a e i B S x y r X Y O' le_y _ z (h₃ (absorbed_from p m a e i B S x y r X Y O' le_y) (absorbed_open p m a e i B S x y r X Y O' le_y)))
    go true O false z h₁ h₂ h₃ =
        let l = in_area in
        rw (sweep_used x e m a r i (omega arith) (freed_free p x y m a i Y ∙ z), n) (used_open p m a e i B S x y _ r X Y z h₂ (open_freed p x y m a r i Y O))
    go false O true z h₁ h₂ h₃ =
        let l = in_area in
        let Oy : Open y i j = record {
          block = record { whole = rw size_y B.whole; least = rw size_y B.least };
          empty = eqb-true _ _ (freed_free p x y m a i Y ∙ z);
          ends = rw size_y;
        } in
        rw (sweep_first x e m a r i (omega arith) (freed_free p x y m a i Y ∙ z) (omega arith), n) (free_closed p m a e i B S x y _ r X Y z (h₁ i Oy))
    go false O false z h₁ h₂ h₃ =
        let l = in_area in
        rw (sweep_used x e m a r i (omega arith) (freed_free p x y m a i Y ∙ z), n) (used_closed p m a e i B S x y _ r X Y z h₂)
