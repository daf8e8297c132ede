-- The areas after a tree's blocks were given back.
use Prim.Native.Nat.{ℕ, zero, suc, ◌+◌, ◌-◌, ◌*◌, ◌/◌, ◌%◌, ◌≤◌, ◌<◌}
use mathlib.Core.Path.{◌≡◌, refl, sym, ap, ◌∙◌, subst}
use mathlib.Core.Bool.{Bool, true, false, ◌&&◌, ◌||◌, not, cond}
use mathlib.Core.Logic.{⊎_elim, ◌⊎◌, inl, inr}
use mathlib.Core.List.{List}
use lib.ListN.{length}
use lib.Dec.{eqb}
use native.Mathlib.Omega.{arith}
use Rattle.words.specs.Words.{word}
use Rattle.words.specs.Each.{In, total}
use Rattle.words.proofs.Each.{total_same}
use Rattle.picture.specs.Layout.{size_word, heap_word, heap_base, from, upto}
use Rattle.picture.specs.declared.Area.{Area}
use Rattle.picture.specs.declared.Area.TheVariants.{Heap, Transient}
use Rattle.blocks.specs.Header.{header_width, kind_field, holder_field, start_field, size, kind, free, holder, start}
use Rattle.blocks.specs.Walk.{good, next, starts}
use Rattle.blocks.proofs.Starts.{starts_in, next_same}
use Rattle.headers.specs.Header.{Outside}
use Rattle.law_areas.specs.Area.{Tiled, Apart, Blank, free_size, free_bytes}
use Rattle.law_areas.proofs.Row.{Block, block_of}
use Rattle.sound_facts.proofs.Same.{starts_between}
use Rattle.sound_facts.proofs.Sound.{Sound}
use Rattle.freeing.specs.Sweep.{named, goes, swept}
use Rattle.freeing.proofs.Steps.{goes_same}
use Rattle.law_freeing.specs.Swept.{Swept, given_size, given_bytes}
use Rattle.law_freeing.proofs.Swept.{sweeping_keeps_the_area}
use Rattle.ending.specs.Ended.{no_block, returned}

-- the blocks in use of q, in the area from b to e, are those of p that do not go, with every longword; the area is tiled, and free blocks are apart and plain; the bytes of the blocks that go are free
pub record Kept (p q : List ℕ) (b e m a : ℕ) : Type 0 where
  pub tiled : Tiled q b e
  pub apart : Apart q b e
  pub blank : Blank p b e → Blank q b e
  pub stays : (i : ℕ) → In i (starts p b e) → free p i ≡ false → goes p m a i ≡ false → In i (starts q b e)
  pub keeps : (i : ℕ) → In i (starts p b e) → free p i ≡ false → goes p m a i ≡ false → (k : ℕ) → i ≤ k → k < i + size p i / 4 → word q k ≡ word p k
  pub only : (i : ℕ) → In i (starts q b e) → free q i ≡ false → In i (starts p b e) × ((free p i ≡ false) × (goes p m a i ≡ false))
  pub rooms : (i : ℕ) → In i (starts p b e) → (k : ℕ) → i + header_width ≤ k → k < i + size p i / 4 → word q k ≡ word p k
  pub more_free : free_bytes q b e ≡ free_bytes p b e + given_bytes p b e m a

good_same : (p q : List ℕ) (i e : ℕ) → word q i ≡ word p i → good q i e ≡ good p i e
unfolding good
good_same p q i e h = rw h

tiled_same : (p q : List ℕ) (b e : ℕ) → ((k : ℕ) → b ≤ k → k < e → word q k ≡ word p k) → Tiled p b e → Tiled q b e
tiled_same p q b e s T i m =
    let n : In i (starts p b e) = subst (In i) (starts_between p q b e s) m in
    let r = starts_in p b e i n in
    good_same p q i e (s i r.0 r.1) ∙ T i n

-- what is known of a swept area holds between pictures that agree with those before and after in the area
kept : (p x y q : List ℕ) (b e m a : ℕ) → Swept x y b e m a → Tiled p b e
    → ((k : ℕ) → b ≤ k → k < e → word x k ≡ word p k) → ((k : ℕ) → b ≤ k → k < e → word q k ≡ word y k) → Kept p q b e m a
kept p x y q b e m a S T X Y = record {
  tiled = tiled_same y q b e Y S.tiled;
  apart = aparts;
  blank = plains;
  stays = λ i h u g. subst (In i) (sym qs) (S.stays i (into i h) (fx i h ∙ u) (gx i h ∙ g));
  keeps = λ i h u g k lo hi.
      let B = block_of p b e T i h in
      let l = B.low in
      let r = B.high in
      Y k (omega arith) (omega arith) ∙ S.keeps i (into i h) (fx i h ∙ u) (gx i h ∙ g) k lo (rw (sx i h) hi) ∙ X k (omega arith) (omega arith);
  only = λ i n u.
      let v = subst (In i) qs n in
      let o = S.only i v (sym (fy i v) ∙ u) in
      let h : In i (starts p b e) = subst (In i) xs o.0 in
      (h, (sym (fx i h) ∙ o.1.0, sym (gx i h) ∙ o.1.1));
  rooms = λ i h k lo hi.
      let B = block_of p b e T i h in
      let l = B.low in
      let r = B.high in
      Y k (omega arith) (omega arith) ∙ S.rooms i (into i h) k lo (rw (sx i h) hi) ∙ X k (omega arith) (omega arith);
  more_free = after ∙ S.more_free ∙ ap (λ (n : ℕ). n + given_bytes x b e m a) before ∙ ap (λ (n : ℕ). free_bytes p b e + n) given;
}
  where
    xs : starts x b e ≡ starts p b e
    xs = starts_between p x b e X

    qs : starts q b e ≡ starts y b e
    qs = starts_between y q b e Y

    into : (i : ℕ) → In i (starts p b e) → In i (starts x b e)
    into i h = subst (In i) (sym xs) h

    sx : (i : ℕ) → In i (starts p b e) → size x i ≡ size p i
    sx i h = let r = starts_in p b e i h in X i r.0 r.1

    header_of : (i f : ℕ) → f < header_width → In i (starts p b e) → word x (i + f) ≡ word p (i + f)
    header_of i f l h =
        let B = block_of p b e T i h in
        let lo = B.low in
        let hi = B.high in
        let le = B.least in
        X (i + f) (omega arith) (omega arith)

    header_is : (i f : ℕ) → f < header_width → In i (starts y b e) → word q (i + f) ≡ word y (i + f)
    header_is i f l h =
        let B = block_of y b e S.tiled i h in
        let lo = B.low in
        let hi = B.high in
        let le = B.least in
        Y (i + f) (omega arith) (omega arith)

    fx : (i : ℕ) → In i (starts p b e) → free x i ≡ free p i
    fx i h = rw (header_of i kind_field (omega arith) h)

    fy : (i : ℕ) → In i (starts y b e) → free q i ≡ free y i
    fy i h = rw (header_is i kind_field (omega arith) h)

    gx : (i : ℕ) → In i (starts p b e) → goes x m a i ≡ goes p m a i
    gx i h = goes_same p x m a i (header_of i kind_field (omega arith) h) (header_of i holder_field (omega arith) h)

    after : free_bytes q b e ≡ free_bytes y b e
    after = ap (total (free_size q)) qs ∙ total_same (free_size q) (free_size y) (starts y b e) (λ i n. let r = starts_in y b e i n in rw (fy i n, Y i r.0 r.1))

    before : free_bytes x b e ≡ free_bytes p b e
    before = ap (total (free_size x)) xs ∙ total_same (free_size x) (free_size p) (starts p b e) (λ i n. rw (fx i n, sx i n))

    given : given_bytes x b e m a ≡ given_bytes p b e m a
    given = ap (total (given_size x m a)) xs ∙ total_same (given_size x m a) (given_size p m a) (starts p b e) (λ i n. rw (gx i n, sx i n))

    plains : Blank p b e → Blank q b e
    plains t i n u =
        let v = subst (In i) qs n in
        let o = S.blank (λ j n' u'. let h : In j (starts p b e) = subst (In j) xs n' in let z = t j h (sym (fx j h) ∙ u') in (header_of j holder_field (omega arith) h ∙ z.0, header_of j start_field (omega arith) h ∙ z.1)) i v (sym (fy i v) ∙ u) in
        (header_is i holder_field (omega arith) v ∙ o.0, header_is i start_field (omega arith) v ∙ o.1)

    aparts : Apart q b e
    aparts i n u l =
        let v = subst (In i) qs n in
        let r = starts_in y b e i v in
        let z : next q i e ≡ next y i e = next_same y q i e (Y i r.0 r.1) in
        let l' : next y i e < e = subst (λ (w : ℕ). w < e) z l in
        let s = S.apart i v (sym (fy i v) ∙ u) l' in
        let w = Rattle.sound_facts.proofs.Same.next_in y b e i v l' in
        rw z (fy (next y i e) w ∙ s)

-- the block that goes besides those of the owners of m
abbrev pub extra : ℕ → Area → ℕ
extra a Heap = no_block
extra a Transient = a

module _ (p : List ℕ) (S : Sound p) (m a : ℕ) where
  h : ℕ
  h = upto p Heap

  e : ℕ
  e = upto p Transient

  x : List ℕ
  x = swept p heap_base h m no_block

  y : List ℕ
  y = swept x h e m a

  low_h : heap_base ≤ h
  unfolding h
  low_h = omega arith

  h_e : h ≤ e
  unfolding h e
  h_e = let l = S.sizes.long in let m = S.sizes.heap_most in omega arith

  e_long : e ≤ length p
  unfolding e
  e_long = let l = S.sizes.long in omega arith

  S₁ : Swept p x heap_base h m no_block
  unfolding x h
  S₁ = sweeping_keeps_the_area p heap_base h m no_block low_h (let u = h_e in let v = e_long in omega arith) (S.tiled Heap).whole

  tiled_p : Tiled p h e
  unfolding h e
  tiled_p = (S.tiled Transient).whole

  S₂ : Swept x y h e m a
  unfolding y
  S₂ = sweeping_keeps_the_area x h e m a h_e (rw S₁.as_long e_long) (tiled_same p x h e (λ k l u. S₁.outside k (inr l)) tiled_p)

  long_y : length y ≡ length p
  long_y = S₂.as_long ∙ S₁.as_long

  low_y : (k : ℕ) → k < heap_base → word y k ≡ word p k
  low_y k l = let u = low_h in S₂.outside k (inl (omega arith)) ∙ S₁.outside k (inl l)

  pub returned_long : length (returned p m a) ≡ length p
  unfolding returned y x h e
  returned_long = long_y

  pub returned_low : (k : ℕ) → k < heap_base → word (returned p m a) k ≡ word p k
  unfolding returned y x h e
  returned_low k l = low_y k l

  module _ (q : List ℕ) (Q : (k : ℕ) → heap_base ≤ k → word q k ≡ word (returned p m a) k) where
    Qy : (k : ℕ) → heap_base ≤ k → word q k ≡ word y k
    unfolding y x h e returned
    Qy k l = Q k l

    heap_kept : Kept p q heap_base h m no_block
    unfolding h
    heap_kept = kept p p x q heap_base h m no_block S₁ (S.tiled Heap).whole (λ k l u. refl) (λ k l u. Qy k l ∙ S₂.outside k (inl u))

    rest_kept : Kept p q h e m a
    rest_kept = kept p x y q h e m a S₂ tiled_p (λ k l u. S₁.outside k (inr l)) (λ k l u. let v = low_h in Qy k (omega arith))

    pub area_kept : (r : Area) → Kept p q (from p r) (upto p r) m (extra a r)
    unfolding h e
    area_kept Heap = heap_kept
    area_kept Transient = rest_kept
