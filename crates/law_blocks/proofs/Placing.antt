-- A block placed in an area is a change by which one block comes and none goes.
use Prim.Native.Nat.{ℕ, ◌+◌, ◌/◌, ◌%◌, ◌≤◌, ◌<◌}
use mathlib.Core.Path.{◌≡◌, sym, ap, ◌∙◌}
use mathlib.Core.Bool.{true, false}
use mathlib.Core.Logic.{⊎_elim, inl, inr}
use mathlib.Core.List.{List}
use native.Mathlib.Omega.{arith}
use borrow.Author.Tests.{eqb-false}
use Rattle.words.specs.Each.{In}
use Rattle.words.proofs.Tests.{false_true}
use Rattle.picture.specs.Layout.{heap_word, size_word, from, upto}
use Rattle.picture.specs.declared.Area.{Area}
use Rattle.blocks.specs.Header.{size, kind, free}
use Rattle.blocks.specs.Walk.{blocks}
use Rattle.law_areas.proofs.Row.{block_of}
use Rattle.placing.specs.Place.{placed}
use Rattle.law_placing.specs.Placed.{Placed}
use Rattle.law_placing.proofs.Placed.{placed_keeps_the_area}
use Rattle.sound_facts.proofs.Sound.{Tiled}
use Rattle.rooms.specs.Room.{spot}
use Rattle.rooms.proofs.Room.{has_room, spot_is_free_and_enough}
use Rattle.rooms.proofs.Sizes.{Lies}
use Rattle.law_blocks.proofs.Tables.{TablesSame}
use Rattle.law_blocks.proofs.Moved.{Kept}
use Rattle.law_blocks.proofs.Change.{Change, from_same, upto_same, facts_apart, facts_blank}

-- no block
abbrev pub None : ℕ → Type 0
None i = ⊥

-- the block at x
abbrev pub Only : ℕ → ℕ → Type 0
Only x i = i ≡ x

module _ (p : List ℕ) (a : Area) (n k o s : ℕ) (T : Tiled p a) (lies : Lies p a) (room : has_room p a n ≡ true) (units : n % 16 ≡ 0) (least : 16 ≤ n) (used : k ≡ 0 → ⊥) where
  abbrev new : ℕ
  new = spot p a n

  abbrev after : List ℕ
  after = placed p (spot p a n) n k o s

  pub placed_facts : Placed p after (from p a) (upto p a) new n k o s
  placed_facts = placed_keeps_the_area p (from p a) (upto p a) new n k o s lies.inside T.whole (spot_is_free_and_enough p a n room) units least used

  pub placing_keeps_the_tables : TablesSame p after
  placing_keeps_the_tables = record { words = λ j l. let b = lies.behind in placed_facts.outside j (inl (omega arith)); long = placed_facts.as_long }

  -- a block in use is another one than the free block that is taken
  another : (i : ℕ) → free p i ≡ false → i ≡ new → ⊥
  another i f e = false_true (sym f ∙ ap (free p) e ∙ (spot_is_free_and_enough p a n room).is_free)

  kept : (i : ℕ) → In i (blocks p a) → (i ≡ new → ⊥) → free p i ≡ false → Kept p after a i
  kept i m x f = record { there = m; used = f; same = placed_facts.keeps i m x }

  still_used : (i : ℕ) → In i (blocks p a) → (i ≡ new → ⊥) → free after i ≡ false → free p i ≡ false
  still_used i m x f =
      let b = (block_of p (from p a) (upto p a) T.whole i m).least in
      let z : kind after i ≡ kind p i = placed_facts.keeps i m x (i + 1) (omega arith) (omega arith) in
      rw z at f

  pub placing_is_a_change : Change p after a (Only new) None
  placing_is_a_change =
      let w = placing_keeps_the_tables in
      let h = w.words heap_word (omega arith) in
      record {
        begins = from_same p after h;
        ends = upto_same p after h (w.words size_word (omega arith));
        outside = λ j l y. placed_facts.outside j y;
        tiled = placed_facts.tiled;
        apart = placed_facts.apart (facts_apart p a T);
        blank = placed_facts.blank (facts_blank p a T);
        blocks_used = λ i m f. ⊎_elim
            inr
            (λ y. inl (⊎_elim
            (λ (v : (n < size p new) × (i ≡ new + n / 4)). let z : kind after i ≡ 0 = rw v.1 (placed_facts.rest_kind v.0) in absurd (eqb-false (kind after i) 0 f z))
            (λ (v : In i (blocks p a) × (i ≡ new → ⊥)). kept i v.0 v.1 (still_used i v.0 v.1 f))
            y))
            (placed_facts.only i m);
        stays = λ i m f. inr (placed_facts.stays i m (another i f), kept i m (another i f) f);
      }
