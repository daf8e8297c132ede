-- A block given back is a change by which that block goes and none comes.
use Prim.Native.Nat.{ℕ}
use mathlib.Core.Path.{◌≡◌}
use mathlib.Core.Logic.{⊎_elim, inl, inr}
use mathlib.Core.List.{List}
use native.Mathlib.Omega.{arith}
use Rattle.picture.specs.Layout.{heap_word, size_word, from, upto}
use Rattle.picture.specs.declared.Area.{Area}
use Rattle.headers.proofs.Header.{same_or_not}
use Rattle.freeing.specs.Sweep.{swept}
use Rattle.law_freeing.specs.Swept.{Swept}
use Rattle.law_freeing.proofs.Swept.{sweeping_keeps_the_area}
use Rattle.law_freeing.proofs.Alone.{no_other_block_goes}
use Rattle.sound_facts.proofs.Sound.{Tiled}
use Rattle.rooms.proofs.Sizes.{Lies}
use Rattle.law_blocks.proofs.Tables.{TablesSame}
use Rattle.law_blocks.proofs.Change.{Change, from_same, upto_same, facts_blank}
use Rattle.law_blocks.proofs.Placing.{None, Only}

module _ (p : List ℕ) (a : Area) (x : ℕ) (T : Tiled p a) (lies : Lies p a) where
  abbrev after : List ℕ
  after = swept p (from p a) (upto p a) 0 x

  pub swept_facts : Swept p after (from p a) (upto p a) 0 x
  unfolding swept
  swept_facts = sweeping_keeps_the_area p (from p a) (upto p a) 0 x lies.forward lies.inside T.whole

  pub giving_back_keeps_the_tables : TablesSame p after
  giving_back_keeps_the_tables = record { words = λ j l. let b = lies.behind in swept_facts.outside j (inl (omega arith)); long = swept_facts.as_long }

  pub giving_back_is_a_change : Change p after a None (Only x)
  giving_back_is_a_change =
      let w = giving_back_keeps_the_tables in
      let h = w.words heap_word (omega arith) in
      record {
        begins = from_same p after h;
        ends = upto_same p after h (w.words size_word (omega arith));
        outside = λ j l y. swept_facts.outside j y;
        tiled = swept_facts.tiled;
        apart = swept_facts.apart;
        blank = swept_facts.blank (facts_blank p a T);
        blocks_used = λ i m f. let v = swept_facts.only i m f in inl (record { there = v.0; used = v.1.0; same = swept_facts.keeps i v.0 v.1.0 v.1.1 });
        stays = λ i m f. ⊎_elim
            inl
            (λ (y : i ≡ x → ⊥).
            let g = no_other_block_goes p x i y in
            inr (swept_facts.stays i m f g, record { there = m; used = f; same = swept_facts.keeps i m f g }))
            (same_or_not i x);
      }
