-- Placing a block leaves what stands before the areas.
use Prim.Native.Nat.{ℕ, ◌+◌, ◌≤◌, ◌<◌}
use mathlib.Core.Path.{◌≡◌, ap, ◌∙◌}
use mathlib.Core.List.{List}
use lib.ListN.{length, length-set}
use lib.Seq.{get_or-set_other}
use native.Mathlib.Omega.{arith}
use Rattle.std.specs.Prelude.{Some}
use Rattle.words.specs.Words.{word, put}
use Rattle.picture.specs.Layout.{heap_base, from, upto}
use Rattle.picture.specs.declared.Area.{Area}
use Rattle.blocks.proofs.Starts.{starts_in}
use Rattle.placing.specs.Place.{answer, after}
use Rattle.placing.proofs.Answer.{placed_at_a_chosen_block, after_at}
use Rattle.law_placing.proofs.Written.{length_placed, placed_before}
use Rattle.rooms.proofs.Sizes.{Lies}

-- from the picture p to q, as long, a block was placed at i, behind the tables, which are what they were
pub record Behind (p q : List ℕ) (i : ℕ) : Type 0 where
  pub long : length q ≡ length p
  pub behind : heap_base ≤ i
  pub tables : (j : ℕ) → j < heap_base → word q j ≡ word p j

pub placing_leaves_the_tables : (p q : List ℕ) (a : Area) → Lies p a → (n k o s i : ℕ) → answer p (from p a) (upto p a) n ≡ Some i → q ≡ after p (from p a) (upto p a) n k o s → Behind p q i
placing_leaves_the_tables p q a L n k o s i h e =
    let b = (starts_in p (from p a) (upto p a) i (placed_at_a_chosen_block p (from p a) (upto p a) n i h).there).0 in
    let f = L.behind in
    let z = e ∙ after_at p (from p a) (upto p a) n i k o s h in
    record {
      long = ap length z ∙ length_placed p i n k o s;
      behind = omega arith;
      tables = λ j l. ap (λ (r : List ℕ). word r j) z ∙ placed_before p i n k o s j (omega arith);
    }

-- so they are when a longword of the block has been written
pub writing_leaves_the_tables : (p q r : List ℕ) (i m v : ℕ) → Behind p q i → r ≡ put q (i + m) v → Behind p r i
writing_leaves_the_tables p q r i m v B e =
    let b = B.behind in
    record {
      long = ap length e ∙ length-set q (i + m) v ∙ B.long;
      behind = b;
      tables = λ j l. ap (λ (x : List ℕ). word x j) e ∙ get_or-set_other q (i + m) j v 0 (λ x. omega arith) ∙ B.tables j l;
    }
