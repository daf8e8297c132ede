-- A sweep, one block at a time.
use Prim.Native.Nat.{ℕ, ◌+◌, ◌-◌, ◌*◌, ◌≤◌, ◌<◌}
use mathlib.Core.Path.{◌≡◌, refl, sym, ◌∙◌}
use mathlib.Core.Bool.{Bool, true, false, cond, ◌&&◌}
use mathlib.Core.List.{List}
use mathlib.Core.Logic.{⊎_elim, ◌⊎◌, inr}
use lib.ListN.{length, length-set}
use lib.Seq.{get_or-set_other, set-get_or}
use lib.Dec.{ltb}
use native.Mathlib.Omega.{arith}
use borrow.Author.Tests.{ltb-true, lt-ltb, le-ltb}
use Rattle.words.specs.Words.{word, put}
use Rattle.blocks.specs.Header.{size, kind, free, holder}
use Rattle.blocks.specs.Walk.{good, next, starts}
use Rattle.blocks.proofs.Walk.{is_good, next_good, next_bad, starts_more, starts_end}
use Rattle.blocks.proofs.Starts.{starts_same}
use Rattle.headers.specs.Header.{header}
use Rattle.headers.proofs.Header.{length_header, length_either, header_other}
use Rattle.freeing.specs.Sweep.{goes, freed, absorbed, joined, run, sweep}

-- two pictures are the same from j on
abbrev pub From : ℕ → List ℕ → List ℕ → Type 0
From j p q = (k : ℕ) → j ≤ k → word q k ≡ word p k

pub goes_same : (p q : List ℕ) (m a i : ℕ) → kind q i ≡ kind p i → holder q i ≡ holder p i → goes q m a i ≡ goes p m a i
unfolding goes
goes_same p q m a i h g = rw (h, g)

-- a block that becomes free keeps its length
header_puts : (p : List ℕ) (i : ℕ) → header p i (size p i) 0 0 0 ≡ put (put (put p (i + 1) 0) (i + 2) 0) (i + 3) 0
unfolding header
header_puts p i = rw (set-get_or p i 0)

pub emptied_other : (p : List ℕ) (i k : ℕ) → (k ≤ i) ⊎ (i + 4 ≤ k) → word (header p i (size p i) 0 0 0) k ≡ word p k
emptied_other p i k h = rw (header_puts p i) (
    get_or-set_other (put (put p (i + 1) 0) (i + 2) 0) (i + 3) k 0 0 (λ z. no 3 (omega arith) (omega arith) z)
    ∙ get_or-set_other (put p (i + 1) 0) (i + 2) k 0 0 (λ z. no 2 (omega arith) (omega arith) z)
    ∙ get_or-set_other p (i + 1) k 0 0 (λ z. no 1 (omega arith) (omega arith) z))
  where
    no : (d : ℕ) → 0 < d → d < 4 → k ≡ i + d → ⊥
    no d a b z = ⊎_elim (λ x. omega arith) (λ x. omega arith) h

pub freed_other : (p : List ℕ) (m a i k : ℕ) → (k ≤ i) ⊎ (i + 4 ≤ k) → word (freed p m a i) k ≡ word p k
unfolding freed
freed_other p m a i k h = go (goes p m a i)
  where
    go : (b : Bool) → word (cond b (header p i (size p i) 0 0 0) p) k ≡ word p k
    go true = emptied_other p i k h
    go false = refl

pub length_freed : (p : List ℕ) (m a i : ℕ) → length (freed p m a i) ≡ length p
unfolding freed
length_freed p m a i = length_either (goes p m a i) _ _ _ (length_header _ _ _ _ _ _) refl

pub length_absorbed : (p : List ℕ) (e r i : ℕ) → length (absorbed p e r i) ≡ length p
unfolding absorbed
length_absorbed p e r i = simp (length-set, length_header)

pub length_joined : (p : List ℕ) (e r i : ℕ) → length (joined p e r i) ≡ length p
unfolding joined
length_joined p e r i = length_either (free p i && ltb r i) _ _ _ (length_absorbed p e r i) refl

pub absorbed_other : (p : List ℕ) (e r i k : ℕ) → (k ≡ r → ⊥) → (k < i) ⊎ (i + 4 ≤ k) → word (absorbed p e r i) k ≡ word p k
unfolding absorbed
absorbed_other p e r i k n h = get_or-set_other (header p i 0 0 0 0) r k ((next p i e - r) * 4) 0 n ∙ header_other p i 0 0 0 0 k h

joined_above : (p : List ℕ) (e r i k : ℕ) → i + 4 ≤ k → word (joined p e r i) k ≡ word p k
unfolding joined
joined_above p e r i k h = go (free p i) (ltb r i) refl
  where
    go : (b c : Bool) → ltb r i ≡ c → word (cond (b && c) (absorbed p e r i) p) k ≡ word p k
    go true true z = let l = ltb-true r i z in absorbed_other p e r i k (λ y. omega arith) (inr h)
    go true false z = refl
    go false c z = refl

-- what is written at a block stays below the next one
step_above : (p : List ℕ) (e m a r i : ℕ) → good p i e ≡ true → From (next p i e) p (joined (freed p m a i) e r i)
step_above p e m a r i g k h =
    let G = is_good p i e g in
    let n = next_good p i e g in
    let l = G.least in
    joined_above (freed p m a i) e r i k (omega arith) ∙ freed_other p m a i k (inr (omega arith))

rest_starts : (p : List ℕ) (e m a r i : ℕ) → starts (joined (freed p m a i) e r i) (next p i e) e ≡ starts p (next p i e) e
rest_starts p e m a r i = go (good p i e) refl
  where
    go : (b : Bool) → good p i e ≡ b → starts (joined (freed p m a i) e r i) (next p i e) e ≡ starts p (next p i e) e
    go true g = starts_same p (joined (freed p m a i) e r i) (next p i e) e (step_above p e m a r i g)
    go false g = let n = next_bad p i e g in starts_end (joined (freed p m a i) e r i) (next p i e) e (omega arith) ∙ sym (starts_end p (next p i e) e (omega arith))

-- at the end, and on by one block
module _ (p : List ℕ) (e m a r i : ℕ) where
  pub sweep_end : e ≤ i → sweep p e m a r (starts p i e) ≡ p
  sweep_end h = rw (starts_end p i e h)

  pub sweep_more : i < e → sweep p e m a r (starts p i e) ≡ sweep (joined (freed p m a i) e r i) e m a (run (freed p m a i) e r i) (starts (joined (freed p m a i) e r i) (next p i e) e)
  sweep_more l = rw (starts_more p i e l, rest_starts p e m a r i)

  -- the three ways of a step: a block in use that stays, the first block of a free run, a further one
  pub sweep_used : i < e → free (freed p m a i) i ≡ false
      → sweep p e m a r (starts p i e) ≡ sweep (freed p m a i) e m a e (starts (freed p m a i) (next p i e) e)
  unfolding joined run
  sweep_used l f = sweep_more l ∙ rw f

  pub sweep_first : i < e → free (freed p m a i) i ≡ true → i ≤ r
      → sweep p e m a r (starts p i e) ≡ sweep (freed p m a i) e m a i (starts (freed p m a i) (next p i e) e)
  unfolding joined run
  sweep_first l f h = sweep_more l ∙ rw (f, le-ltb r i h)

  pub sweep_absorb : i < e → free (freed p m a i) i ≡ true → r < i
      → sweep p e m a r (starts p i e) ≡ sweep (absorbed (freed p m a i) e r i) e m a r (starts (absorbed (freed p m a i) e r i) (next p i e) e)
  unfolding joined run
  sweep_absorb l f h = sweep_more l ∙ rw (f, lt-ltb r i h)
