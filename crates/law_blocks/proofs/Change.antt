-- A change to the blocks of one area: what it is, and what it keeps of both areas.
use Prim.Native.Nat.{ℕ, ◌+◌, ◌≤◌, ◌<◌}
use mathlib.Core.Path.{◌≡◌, refl, sym, ap, ◌∙◌, subst}
use mathlib.Core.Bool.{false}
use mathlib.Core.Logic.{⊎_elim, ◌⊎◌, inl, inr}
use mathlib.Core.List.{List}
use native.Mathlib.Omega.{arith}
use borrow.Author.Tests.{eqb-true, ne_eqb}
use Rattle.words.specs.Words.{word}
use Rattle.words.specs.Each.{In}
use Rattle.picture.specs.Layout.{heap_base, heap_word, size_word, from, upto}
use Rattle.picture.specs.declared.Table.{Table}
use Rattle.picture.specs.declared.Table.TheVariants.{Jobs, Channels}
use Rattle.picture.specs.declared.Area.{Area}
use Rattle.picture.specs.declared.Area.TheVariants.{Heap, Transient}
use Rattle.blocks.specs.Header.{kind, kind_of, free}
use Rattle.blocks.specs.Walk.{good, next, starts, blocks}
use Rattle.blocks.proofs.Walk.{next_up}
use Rattle.blocks.proofs.Starts.{starts_in, next_same}
use Rattle.headers.specs.Header.{Outside}
use Rattle.law_areas.specs.Area.{Apart, Blank}
use Rattle.law_areas.specs.Area as area
use Rattle.sound_matching.specs.Match.{area_of}
use Rattle.sound_facts.proofs.Sound.{Tiled}
use Rattle.sound_facts.proofs.Same.{Lives, AreaSame, blocks_same, tiled_same, kind_same, holder_same, starts_between}
use Rattle.rooms.proofs.Sizes.{Lies}
use Rattle.law_blocks.proofs.Moved.{Kept, Fine, Moved, kept_kind, kept_holder, moved_tiled}
use Rattle.law_blocks.proofs.Matching.{Stands}

-- q is p with blocks of the area a changed: New are those that came, Goes those that went
pub record Change (p q : List ℕ) (a : Area) (New Goes : ℕ → Type 0) : Type 0 where
  pub begins : (b : Area) → from q b ≡ from p b
  pub ends : (b : Area) → upto q b ≡ upto p b
  pub outside : (j : ℕ) → heap_base ≤ j → Outside (from p a) (upto p a) j → word q j ≡ word p j
  pub tiled : area.Tiled q (from p a) (upto p a)
  pub apart : Apart q (from p a) (upto p a)
  pub blank : Blank q (from p a) (upto p a)
  pub blocks_used : (i : ℕ) → In i (starts q (from p a) (upto p a)) → free q i ≡ false → Kept p q a i ⊎ New i
  pub stays : (i : ℕ) → In i (blocks p a) → free p i ≡ false → Goes i ⊎ (In i (starts q (from p a) (upto p a)) × Kept p q a i)

-- where areas begin and end
pub from_same : (p q : List ℕ) → word q heap_word ≡ word p heap_word → (a : Area) → from q a ≡ from p a
from_same p q h Heap = refl
from_same p q h Transient = ap (λ (x : ℕ). heap_base + x) h

pub upto_same : (p q : List ℕ) → word q heap_word ≡ word p heap_word → word q size_word ≡ word p size_word → (a : Area) → upto q a ≡ upto p a
upto_same p q h z Heap = ap (λ (x : ℕ). heap_base + x) h
upto_same p q h z Transient = z

-- the other area lies outside
pub two_areas : (p : List ℕ) (a b : Area) → (a ≡ b) ⊎ ((j : ℕ) → from p b ≤ j → j < upto p b → Outside (from p a) (upto p a) j)
two_areas p Heap Heap = inl refl
two_areas p Heap Transient = inr (λ j l m. inr l)
two_areas p Transient Heap = inr (λ j l m. inl m)
two_areas p Transient Transient = inl refl

module _ (p q : List ℕ) (a : Area) (New Goes : ℕ → Type 0) (C : Change p q a New Goes) (lies : (b : Area) → Lies p b) where
  moved : Moved p q a New
  moved = record { begins = C.begins a; ends = C.ends a; tiled = C.tiled; apart = C.apart; blank = C.blank; blocks_used = C.blocks_used }

  pub other_same : (b : Area) → ((j : ℕ) → from p b ≤ j → j < upto p b → Outside (from p a) (upto p a) j) → AreaSame p q b
  other_same b h = record { starts = C.begins b; stops = C.ends b; same = λ i l m. C.outside i (let z = (lies b).behind in omega arith) (h i l m) }

  -- both areas are tiled again
  pub change_tiled : ((b : Area) → Tiled p b) → Lives p q → ((i : ℕ) → New i → Fine q a i) → (b : Area) → Tiled q b
  change_tiled T l N b = ⊎_elim
      (λ (e : a ≡ b). subst (λ (x : Area). Tiled q x) e (moved_tiled p q a New moved (T a) l N))
      (λ h. tiled_same p q b (other_same b h) (T b) l)
      (two_areas p a b)

  pub here : (i : ℕ) → In i (starts q (from p a) (upto p a)) → In i (blocks q a)
  here i m = rw (C.begins a, C.ends a) m

  stands_kept : (T : (b : Area) → Tiled p b) (t : Table) (i : ℕ) → a ≡ area_of t → In i (starts q (from p a) (upto p a)) → Kept p q a i → Stands p q t i
  stands_kept T t i e m K = record {
    before = subst (λ (x : Area). In i (blocks p x)) e K.there;
    now_too = subst (λ (x : Area). In i (blocks q x)) e (here i m);
    kind_as_was = kept_kind p q a (T a) i K;
    holder_as_was = kept_holder p q a (T a) i K;
  }

  stands_other : (T : (b : Area) → Tiled p b) (t : Table) (i : ℕ) → AreaSame p q (area_of t) → In i (blocks p (area_of t)) → Stands p q t i
  stands_other T t i s m = record {
    before = m;
    now_too = subst (In i) (sym (blocks_same p q (area_of t) s)) m;
    kind_as_was = kind_same p q (area_of t) s (T (area_of t)) i m;
    holder_as_was = holder_same p q (area_of t) s (T (area_of t)) i m;
  }

  kind_used : (r : List ℕ) (t : Table) (i : ℕ) → kind r i ≡ kind_of t → free r i ≡ false
  kind_used r Jobs i z = ne_eqb (kind r i) 0 (λ e. omega arith)
  kind_used r Channels i z = ne_eqb (kind r i) 0 (λ e. omega arith)

  -- a block of a table's kind was there before, or is new
  pub change_standing : ((b : Area) → Tiled p b) → (t : Table) (i : ℕ) → In i (blocks q (area_of t)) → kind q i ≡ kind_of t → Stands p q t i ⊎ ((a ≡ area_of t) × New i)
  change_standing T t i m z = ⊎_elim
      (λ (e : a ≡ area_of t).
      let w : In i (blocks q a) = subst (λ (x : Area). In i (blocks q x)) (sym e) m in
      let v : In i (starts q (from p a) (upto p a)) = rw (C.begins a, C.ends a) at w in
      ⊎_elim (λ K. inl (stands_kept T t i e v K)) (λ n. inr (e, n)) (C.blocks_used i v (kind_used q t i z)))
      (λ h. let s = other_same (area_of t) h in inl (stands_other T t i s (subst (In i) (blocks_same p q (area_of t) s) m)))
      (two_areas p a (area_of t))

  -- a block of a table's kind is still there, or went
  pub change_homes : ((b : Area) → Tiled p b) → (t : Table) (i : ℕ) → In i (blocks p (area_of t)) → kind p i ≡ kind_of t → Stands p q t i ⊎ ((a ≡ area_of t) × Goes i)
  change_homes T t i m z = ⊎_elim
      (λ (e : a ≡ area_of t).
      let w : In i (blocks p a) = subst (λ (x : Area). In i (blocks p x)) (sym e) m in
      ⊎_elim (λ g. inr (e, g)) (λ (K : In i (starts q (from p a) (upto p a)) × Kept p q a i). inl (stands_kept T t i e K.0 K.1)) (C.stays i w (kind_used p t i z)))
      (λ h. inl (stands_other T t i (other_same (area_of t) h) m))
      (two_areas p a (area_of t))

-- longwords before the heap that change after that leave the areas as they are
module _ (p r q : List ℕ) (a : Area) (New Goes : ℕ → Type 0) (C : Change p r a New Goes) (lies : (b : Area) → Lies p b)
    (begins : (b : Area) → from q b ≡ from p b) (ends : (b : Area) → upto q b ≡ upto p b) (same : (j : ℕ) → heap_base ≤ j → word q j ≡ word r j) where
  behind : (j : ℕ) → from p a ≤ j → word q j ≡ word r j
  behind j l = let z = (lies a).behind in same j (omega arith)

  walk_same : starts q (from p a) (upto p a) ≡ starts r (from p a) (upto p a)
  walk_same = starts_between r q (from p a) (upto p a) (λ j l m. behind j l)

  back : (i : ℕ) → In i (starts q (from p a) (upto p a)) → In i (starts r (from p a) (upto p a))
  back i m = rw walk_same at m

  low : (i : ℕ) → In i (starts r (from p a) (upto p a)) → from p a ≤ i
  low i m = (starts_in r (from p a) (upto p a) i m).0

  header_same : (i f : ℕ) → from p a ≤ i → word q (i + f) ≡ word r (i + f)
  header_same i f l = behind (i + f) (omega arith)

  good_same : (i : ℕ) → from p a ≤ i → good q i (upto p a) ≡ good r i (upto p a)
  unfolding good
  good_same i l = rw (behind i l)

  kept_same : (i : ℕ) → Kept p r a i → Kept p q a i
  kept_same i K = record { there = K.there; used = K.used; same = λ w x y. let b = (starts_in p (from p a) (upto p a) i K.there).0 in behind w (omega arith) ∙ K.same w x y }

  pub change_then : Change p q a New Goes
  change_then = record {
    begins = begins;
    ends = ends;
    outside = λ j l h. same j l ∙ C.outside j l h;
    tiled = λ i m. good_same i (low i (back i m)) ∙ C.tiled i (back i m);
    apart = λ i m f l.
        let b = low i (back i m) in
        let z : next q i (upto p a) ≡ next r i (upto p a) = next_same r q i (upto p a) (behind i b) in
        let u = next_up r i (upto p a) (starts_in r (from p a) (upto p a) i (back i m)).1 in
        rw (z, header_same (next r i (upto p a)) 1 (omega arith)) (C.apart i (back i m) (rw (header_same i 1 b) at f) (rw z at l));
    blank = λ i m f. let b = low i (back i m) in rw (header_same i 2 b, header_same i 3 b) (C.blank i (back i m) (rw (header_same i 1 b) at f));
    blocks_used = λ i m f. ⊎_elim (λ K. inl (kept_same i K)) inr (C.blocks_used i (back i m) (rw (header_same i 1 (low i (back i m))) at f));
    stays = λ i m f. ⊎_elim inl (λ (K : In i (starts r (from p a) (upto p a)) × Kept p r a i). inr (rw walk_same K.0, kept_same i K.1)) (C.stays i m f);
  }

-- what a sound picture's area says in the words of placing and freeing
module _ (p : List ℕ) (a : Area) (T : Tiled p a) where
  pub facts_apart : Apart p (from p a) (upto p a)
  facts_apart i m f l = ne_eqb _ _ (T.lone i m (eqb-true _ _ f) l)

  pub facts_blank : Blank p (from p a) (upto p a)
  facts_blank i m f = T.free_zero i m (eqb-true _ _ f)
