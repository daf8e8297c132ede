-- An area in which blocks were placed or given back: the blocks in use are old ones with every longword, or new ones.
use Prim.Native.Nat.{ℕ, ◌+◌, ◌/◌, ◌≤◌, ◌<◌}
use mathlib.Core.Path.{◌≡◌, refl, sym, ◌∙◌, subst}
use mathlib.Core.Bool.{Bool, true, false}
use mathlib.Core.Logic.{⊎_elim, ◌⊎◌, inl, inr}
use mathlib.Core.List.{List}
use native.Mathlib.Omega.{arith}
use borrow.Author.Tests.{eqb-true, eqb-false, eq-eqb}
use Rattle.words.specs.Words.{word}
use Rattle.words.specs.Each.{In}
use Rattle.picture.specs.Layout.{nobody, from, upto}
use Rattle.picture.specs.Numbers.{live}
use Rattle.picture.specs.declared.Table.TheVariants.{Jobs}
use Rattle.picture.specs.declared.Area.{Area}
use Rattle.picture.specs.declared.Area.TheVariants.{Heap, Transient}
use Rattle.blocks.specs.Header.{size, kind, queue_kind, job_kind, free, holder, start, queue_length, queue_oldest, queue_count, queue_zero}
use Rattle.blocks.specs.Walk.{starts, blocks}
use Rattle.blocks.proofs.Walk.{is_good}
use Rattle.law_areas.specs.Area.{Apart, Blank}
use Rattle.law_areas.specs.Area as area
use Rattle.sound_facts.proofs.Sound.{Queue, Fits, Tiled}
use Rattle.sound_facts.proofs.Same.{Lives}

-- the block at i was in use before, and has every longword that it had
pub record Kept (p q : List ℕ) (a : Area) (i : ℕ) : Type 0 where
  pub there : In i (blocks p a)
  pub used : free p i ≡ false
  pub same : (w : ℕ) → i ≤ w → w < i + size p i / 4 → word q w ≡ word p w

-- what soundness says of a block in use
pub record Fine (q : List ℕ) (a : Area) (i : ℕ) : Type 0 where
  pub fits : Fits a (kind q i)
  pub starts_zero : (kind q i ≡ job_kind) ⊎ (start q i ≡ 0)
  pub queue : kind q i ≡ queue_kind → Queue q i
  pub held : ((kind q i ≡ job_kind) × (holder q i ≡ nobody)) ⊎ (live q Jobs (holder q i) ≡ true)

pub record Moved (p q : List ℕ) (a : Area) (New : ℕ → Type 0) : Type 0 where
  pub begins : from q a ≡ from p a
  pub ends : upto q a ≡ upto p a
  pub tiled : area.Tiled q (from p a) (upto p a)
  pub apart : Apart q (from p a) (upto p a)
  pub blank : Blank q (from p a) (upto p a)
  pub blocks_used : (i : ℕ) → In i (starts q (from p a) (upto p a)) → free q i ≡ false → Kept p q a i ⊎ New i

-- a block that is kept is as fine as it was
module _ (p q : List ℕ) (a : Area) (T : Tiled p a) (i : ℕ) (K : Kept p q a i) where
  long : 4 ≤ size p i / 4
  long = let g = is_good p i (upto p a) (T.whole i K.there) in let l = g.least in omega arith

  pub kept_size : size q i ≡ size p i
  kept_size = let l = long in K.same i (omega arith) (omega arith)

  pub kept_kind : kind q i ≡ kind p i
  kept_kind = let l = long in K.same (i + 1) (omega arith) (omega arith)

  pub kept_holder : holder q i ≡ holder p i
  kept_holder = let l = long in K.same (i + 2) (omega arith) (omega arith)

  kept_start : start q i ≡ start p i
  kept_start = let l = long in K.same (i + 3) (omega arith) (omega arith)

  kept_queue : Queue p i → Queue q i
  kept_queue u =
      let l : 8 ≤ size p i / 4 = let z = u.long in let o = u.least in rw z (omega arith) in
      let n : queue_length q i ≡ queue_length p i = K.same (i + 4) (omega arith) (omega arith) in
      let o : queue_oldest q i ≡ queue_oldest p i = K.same (i + 5) (omega arith) (omega arith) in
      let c : queue_count q i ≡ queue_count p i = K.same (i + 6) (omega arith) (omega arith) in
      let z : queue_zero q i ≡ queue_zero p i = K.same (i + 7) (omega arith) (omega arith) in
      record { least = rw n u.least; most = rw n u.most; long = rw (kept_size, n) u.long; oldest = rw (o, n) u.oldest; held = rw (c, n) u.held; nought = rw z u.nought }

  pub kept_fine : Lives p q → Fine q a i
  kept_fine l = record {
    fits = subst (Fits a) (sym kept_kind) (T.fits i K.there);
    starts_zero = rw (kept_kind, kept_start) (T.starts_zero i K.there);
    queue = λ e. kept_queue (T.queue i K.there (sym kept_kind ∙ e));
    held = rw (kept_kind, kept_holder) (⊎_elim
        (λ (e : kind p i ≡ 0). absurd (eqb-false _ _ K.used e))
        (λ x. ⊎_elim inl (λ y. inr (l (holder p i) y)) x)
        (T.held i K.there));
  }

free_fits : (a : Area) (k : ℕ) → k ≡ 0 → Fits a k
free_fits Heap k e = omega arith
free_fits Transient k e = inl e

pub moved_tiled : (p q : List ℕ) (a : Area) (New : ℕ → Type 0) → Moved p q a New → Tiled p a → Lives p q → ((i : ℕ) → New i → Fine q a i) → Tiled q a
moved_tiled p q a New m T l N =
    let E = m.ends in
    record {
      whole = λ i h. rw E (m.tiled i (here i h));
      fits = λ i h. ⊎_elim (λ z. free_fits a (kind q i) z) (λ f. (fine i (here i h) f).fits) (sort i);
      starts_zero = λ i h. ⊎_elim (λ (z : kind q i ≡ 0). inr (m.blank i (here i h) (eq-eqb _ _ z)).1) (λ f. (fine i (here i h) f).starts_zero) (sort i);
      free_zero = λ i h z. m.blank i (here i h) (eq-eqb _ _ z);
      queue = λ i h z. ⊎_elim (λ (y : kind q i ≡ 0). absurd (omega arith)) (λ f. (fine i (here i h) f).queue z) (sort i);
      lone = λ i h z n y. eqb-false _ _ (m.apart i (here i h) (eq-eqb _ _ z) (rw E at n)) (rw E at y);
      held = λ i h. ⊎_elim inl (λ f. inr (fine i (here i h) f).held) (sort i);
    }
  where
    here : (i : ℕ) → In i (blocks q a) → In i (starts q (from p a) (upto p a))
    here i h = rw (m.begins, m.ends) at h

    sort : (i : ℕ) → (kind q i ≡ 0) ⊎ (free q i ≡ false)
    sort i = go (free q i) refl
      where
        go : (b : Bool) → free q i ≡ b → (kind q i ≡ 0) ⊎ (b ≡ false)
        go true e = inl (eqb-true _ _ e)
        go false e = inr refl

    fine : (i : ℕ) → In i (starts q (from p a) (upto p a)) → free q i ≡ false → Fine q a i
    fine i h f = ⊎_elim (λ k. kept_fine p q a T i k l) (λ n. N i n) (m.blocks_used i h f)
