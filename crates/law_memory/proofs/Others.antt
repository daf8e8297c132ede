-- The tables stay, and every block in use other than the one taken or given back keeps every longword; the bytes taken and given back are exactly the block's.
use Prim.Native.Nat.{ℕ, ◌+◌}
use mathlib.Core.Path.{◌≡◌, ap, ◌∙◌}
use mathlib.Core.Bool.{true, false}
use mathlib.Core.Logic.{⊎_elim, ◌⊎◌, inr}
use mathlib.Core.List.{List}
use Rattle.words.specs.Each.{In}
use Rattle.picture.specs.Layout.{from, upto}
use Rattle.picture.specs.Keys.{done}
use Rattle.picture.specs.declared.Area.{Area}
use Rattle.picture.specs.declared.Area.TheVariants.{Heap}
use Rattle.blocks.specs.Header.{size, kind, free, plain_kind}
use Rattle.blocks.specs.Walk.{blocks}
use Rattle.law_areas.specs.Area.{free_bytes}
use Rattle.law_freeing.proofs.Alone.{one_block_is_given_back}
use Rattle.sound.specs.Sound.{sound}
use Rattle.sound_facts.proofs.View.{view}
use Rattle.rooms.specs.Room.{spot}
use Rattle.rooms.proofs.Sizes.{areas_lie_in_a_sound_picture}
use Rattle.calls.specs.Outcome.{Outcome}
use Rattle.calls.specs.Call.{outcome}
use Rattle.calls.specs.Registers.{A0}
use Rattle.law_blocks.proofs.Tables.{TablesSame, tables_still}
use Rattle.law_blocks.proofs.Placing.{None, Only}
use Rattle.law_blocks.proofs.Freeing.{swept_facts}
use Rattle.law_blocks.proofs.Intact.{Intact, still_intact, change_keeps_every_other_block}
use Rattle.memory.specs.Memory.{taken_length, taken, take, block_before, given_back, give_back}
use Rattle.law_memory.proofs.Ways.{take_ways, take_where_done, give_back_ways, give_back_where_done}
use Rattle.law_memory.proofs.Kept.{taken_facts, taken_tables, taken_change, a_plain_block, a_used_block, given_back_tables, given_back_change}

pub take_keeps_the_tables : (p d : List ℕ) → sound p ≡ true → TablesSame p (outcome take p d).picture
take_keeps_the_tables p d h = take_ways (λ (o : Outcome). TablesSame p o.picture) p d (λ k. tables_still p) (λ x y z. taken_tables p d h y z)

pub give_back_keeps_the_tables : (p d : List ℕ) → sound p ≡ true → TablesSame p (outcome give_back p d).picture
give_back_keeps_the_tables p d h = give_back_ways (λ (o : Outcome). TablesSame p o.picture) p d (λ k. tables_still p) (λ x. given_back_tables p d h x)

pub take_keeps_every_block_in_use : (p d : List ℕ) → sound p ≡ true → (a : Area) (i : ℕ) → In i (blocks p a) → free p i ≡ false → Intact p (outcome take p d).picture a i
take_keeps_every_block_in_use p d h a i m f = take_ways (λ (o : Outcome). Intact p o.picture a i) p d
    (λ k. still_intact p a i m)
    (λ x y z. ⊎_elim (λ g. absurd g.1) (λ k. k)
    (change_keeps_every_other_block p (taken p d) Heap (Only (spot p Heap (taken_length d))) None (taken_change p d h y z) (areas_lie_in_a_sound_picture p h) (view p h).tiled a i m f))

pub give_back_keeps_every_other_block : (p d : List ℕ) → sound p ≡ true → (a : Area) (i : ℕ) → In i (blocks p a) → free p i ≡ false → ((Heap ≡ a) × (i ≡ block_before (A0 d))) ⊎ Intact p (outcome give_back p d).picture a i
give_back_keeps_every_other_block p d h a i m f = give_back_ways (λ (o : Outcome). ((Heap ≡ a) × (i ≡ block_before (A0 d))) ⊎ Intact p o.picture a i) p d
    (λ k. inr (still_intact p a i m))
    (λ x. change_keeps_every_other_block p (given_back p (A0 d)) Heap None (Only (block_before (A0 d))) (given_back_change p d h x) (areas_lie_in_a_sound_picture p h) (view p h).tiled a i m f)

-- a block of another kind than plain isn't the one given back
pub give_back_keeps_every_block_that_is_not_plain : (p d : List ℕ) → sound p ≡ true → (a : Area) (i : ℕ) → In i (blocks p a) → free p i ≡ false → (kind p i ≡ plain_kind → ⊥) → Intact p (outcome give_back p d).picture a i
give_back_keeps_every_block_that_is_not_plain p d h a i m f n = give_back_ways (λ (o : Outcome). Intact p o.picture a i) p d
    (λ k. still_intact p a i m)
    (λ x. ⊎_elim (λ (g : (Heap ≡ a) × (i ≡ block_before (A0 d))). absurd (n (ap (kind p) g.1 ∙ (a_plain_block p d h x).1))) (λ k. k)
    (change_keeps_every_other_block p (given_back p (A0 d)) Heap None (Only (block_before (A0 d))) (given_back_change p d h x) (areas_lie_in_a_sound_picture p h) (view p h).tiled a i m f))

-- the free bytes of the heap
pub take_uses_exactly_its_length : (p d : List ℕ) → sound p ≡ true → (outcome take p d).key ≡ done → free_bytes (outcome take p d).picture (from p Heap) (upto p Heap) + taken_length d ≡ free_bytes p (from p Heap) (upto p Heap)
take_uses_exactly_its_length p d h = take_where_done (λ (o : Outcome). free_bytes o.picture (from p Heap) (upto p Heap) + taken_length d ≡ free_bytes p (from p Heap) (upto p Heap)) p d
    (λ x y z. (taken_facts p d h y z).less_free)

pub give_back_frees_exactly_the_block : (p d : List ℕ) → sound p ≡ true → (outcome give_back p d).key ≡ done
    → free_bytes (outcome give_back p d).picture (from p Heap) (upto p Heap) ≡ free_bytes p (from p Heap) (upto p Heap) + size p (block_before (A0 d))
unfolding given_back
give_back_frees_exactly_the_block p d h = give_back_where_done (λ (o : Outcome). free_bytes o.picture (from p Heap) (upto p Heap) ≡ free_bytes p (from p Heap) (upto p Heap) + size p (block_before (A0 d))) p d
    (λ x. (swept_facts p Heap (block_before (A0 d)) ((view p h).tiled Heap) (areas_lie_in_a_sound_picture p h Heap)).more_free
    ∙ ap (λ (b : ℕ). free_bytes p (from p Heap) (upto p Heap) + b) (one_block_is_given_back p (from p Heap) (upto p Heap) (block_before (A0 d)) (a_plain_block p d h x).0 (a_used_block p d h x)))
