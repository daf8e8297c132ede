-- The calls on memory keep a sound picture sound, and make no number live.
use Prim.Native.Nat.{ℕ, ◌%◌, ◌≤◌}
use mathlib.Core.Path.{◌≡◌, sym, ◌∙◌, subst}
use mathlib.Core.Bool.{true, false}
use mathlib.Core.Logic.{inr}
use mathlib.Core.List.{List}
use native.Mathlib.Omega.{arith}
use lib.Dec.{eqb}
use borrow.Author.Tests.{eqb-true, ne_eqb}
use Rattle.words.specs.Each.{In}
use Rattle.words.proofs.Tests.{both}
use Rattle.words.proofs.Each.{any_some}
use Rattle.picture.specs.Layout.{from, upto}
use Rattle.picture.specs.Numbers.{live}
use Rattle.picture.specs.declared.Table.{Table}
use Rattle.picture.specs.declared.Table.TheVariants.{Jobs, Channels}
use Rattle.picture.specs.declared.Area.{Area}
use Rattle.picture.specs.declared.Area.TheVariants.{Heap}
use Rattle.blocks.specs.Header.{kind, kind_of, plain_kind, free}
use Rattle.blocks.specs.Walk.{blocks}
use Rattle.law_placing.specs.Placed.{Placed}
use Rattle.sound.specs.Sound.{sound}
use Rattle.sound_facts.proofs.Sound.{Sound}
use Rattle.sound_facts.proofs.View.{view, sound_again}
use Rattle.sound_facts.proofs.Ages.{Ages, ages_still}
use Rattle.rooms.specs.Room.{block_length, spot, first_byte}
use Rattle.rooms.proofs.Room.{has_room}
use Rattle.rooms.proofs.Sizes.{Lies, areas_lie_in_a_sound_picture}
use Rattle.calls.specs.Outcome.{Outcome}
use Rattle.calls.specs.Call.{outcome}
use Rattle.calls.specs.Registers.{D1, D2, A0, meant}
use Rattle.law_blocks.proofs.Tables.{TablesSame, lives_on, tables_age}
use Rattle.law_blocks.proofs.Moved.{Fine}
use Rattle.law_blocks.proofs.Change.{Change}
use Rattle.law_blocks.proofs.Placing.{None, Only, placed_facts, placing_keeps_the_tables, placing_is_a_change}
use Rattle.law_blocks.proofs.Freeing.{giving_back_keeps_the_tables, giving_back_is_a_change}
use Rattle.law_blocks.proofs.Unchanged.{change_keeps_sound}
use Rattle.memory.specs.Memory.{longest_room, taken_length, taken, take, plain_room, is_plain_room, block_before, given_back, give_back}
use Rattle.law_memory.proofs.Ways.{take_ways, give_back_ways}

-- the length of a block with room for n bytes
pub length_in_units : (n : ℕ) → block_length n % 16 ≡ 0
length_in_units n = omega arith

pub length_at_least_16 : (n : ℕ) → 16 ≤ block_length n
length_at_least_16 n = omega arith

-- a plain block is no table's
plain_is_no_tables : (t : Table) → plain_kind ≡ kind_of t → ⊥
plain_is_no_tables Jobs e = omega arith
plain_is_no_tables Channels e = omega arith

module _ (p d : List ℕ) (h : sound p ≡ true) where
  S : Sound p
  S = view p h

  lies : (a : Area) → Lies p a
  lies = areas_lie_in_a_sound_picture p h

  module _ (alive : live p Jobs (meant p (D2 d)) ≡ true) (room : has_room p Heap (taken_length d) ≡ true) where
    pub taken_facts : Placed p (taken p d) (from p Heap) (upto p Heap) (spot p Heap (taken_length d)) (taken_length d) plain_kind (meant p (D2 d)) 0
    unfolding taken
    taken_facts = placed_facts p Heap (taken_length d) plain_kind (meant p (D2 d)) 0 (S.tiled Heap) (lies Heap) room (length_in_units (D1 d)) (length_at_least_16 (D1 d)) (λ e. omega arith)

    pub taken_tables : TablesSame p (taken p d)
    unfolding taken
    taken_tables = placing_keeps_the_tables p Heap (taken_length d) plain_kind (meant p (D2 d)) 0 (S.tiled Heap) (lies Heap) room (length_in_units (D1 d)) (length_at_least_16 (D1 d)) (λ e. omega arith)

    pub taken_change : Change p (taken p d) Heap (Only (spot p Heap (taken_length d))) None
    unfolding taken
    taken_change = placing_is_a_change p Heap (taken_length d) plain_kind (meant p (D2 d)) 0 (S.tiled Heap) (lies Heap) room (length_in_units (D1 d)) (length_at_least_16 (D1 d)) (λ e. omega arith)

    taken_fine : (i : ℕ) → i ≡ spot p Heap (taken_length d) → Fine (taken p d) Heap i
    taken_fine i e = rw e (record {
      fits = let z = taken_facts.its_kind in omega arith;
      starts_zero = inr taken_facts.its_start;
      queue = λ q. let z = taken_facts.its_kind in absurd (omega arith);
      held = inr (rw taken_facts.its_owner (lives_on p (taken p d) taken_tables (meant p (D2 d)) alive));
    })

    taken_sound : sound (taken p d) ≡ true
    taken_sound = sound_again (taken p d) (change_keeps_sound p (taken p d) Heap (Only (spot p Heap (taken_length d))) None S lies taken_tables taken_change taken_fine
        (λ t i e k. plain_is_no_tables t (sym taken_facts.its_kind ∙ (rw e at k)))
        (λ t i n. absurd n))

  -- the block that is given back
  module _ (there : is_plain_room p (A0 d) ≡ true) where
    pub a_plain_block : In (block_before (A0 d)) (blocks p Heap) × (kind p (block_before (A0 d)) ≡ plain_kind)
    unfolding is_plain_room plain_room
    a_plain_block =
        let s = any_some (plain_room p (A0 d)) (blocks p Heap) there in
        let b = both (eqb (kind p s.0) plain_kind) (eqb (first_byte s.0) (A0 d)) s.1.1 in
        let f : first_byte s.0 ≡ A0 d = eqb-true _ _ b.1 in
        let z : s.0 ≡ block_before (A0 d) = omega arith in
        (subst (λ (x : ℕ). In x (blocks p Heap)) z s.1.0, subst (λ (x : ℕ). kind p x ≡ plain_kind) z (eqb-true _ _ b.0))

    pub a_used_block : free p (block_before (A0 d)) ≡ false
    a_used_block = let z = a_plain_block.1 in ne_eqb (kind p (block_before (A0 d))) 0 (λ e. omega arith)

    pub given_back_tables : TablesSame p (given_back p (A0 d))
    unfolding given_back
    given_back_tables = giving_back_keeps_the_tables p Heap (block_before (A0 d)) (S.tiled Heap) (lies Heap)

    pub given_back_change : Change p (given_back p (A0 d)) Heap None (Only (block_before (A0 d)))
    unfolding given_back
    given_back_change = giving_back_is_a_change p Heap (block_before (A0 d)) (S.tiled Heap) (lies Heap)

    given_back_sound : sound (given_back p (A0 d)) ≡ true
    given_back_sound = sound_again (given_back p (A0 d)) (change_keeps_sound p (given_back p (A0 d)) Heap None (Only (block_before (A0 d))) S lies given_back_tables given_back_change
        (λ i n. absurd n)
        (λ t i n. absurd n)
        (λ t i e k. plain_is_no_tables t (sym a_plain_block.1 ∙ (rw e at k))))

  pub take_sound : sound (outcome take p d).picture ≡ true
  take_sound = take_ways (λ (o : Outcome). sound o.picture ≡ true) p d (λ k. h) (λ a b c. taken_sound b c)

  pub give_back_sound : sound (outcome give_back p d).picture ≡ true
  give_back_sound = give_back_ways (λ (o : Outcome). sound o.picture ≡ true) p d (λ k. h) (λ a. given_back_sound a)

pub longest_room_keeps_sound : (p d : List ℕ) → sound p ≡ true → sound (outcome longest_room p d).picture ≡ true
unfolding longest_room outcome
longest_room_keeps_sound p d h = h

pub take_keeps_sound : (p d : List ℕ) → sound p ≡ true → sound (outcome take p d).picture ≡ true
take_keeps_sound = take_sound

pub give_back_keeps_sound : (p d : List ℕ) → sound p ≡ true → sound (outcome give_back p d).picture ≡ true
give_back_keeps_sound = give_back_sound

pub longest_room_ages : (p d : List ℕ) → sound p ≡ true → (t : Table) → Ages p (outcome longest_room p d).picture t
unfolding longest_room outcome
longest_room_ages p d h t = ages_still p t

pub take_ages : (p d : List ℕ) → sound p ≡ true → (t : Table) → Ages p (outcome take p d).picture t
take_ages p d h t = take_ways (λ (o : Outcome). Ages p o.picture t) p d (λ k. ages_still p t) (λ a b c. tables_age p (taken p d) (taken_tables p d h b c) t)

pub give_back_ages : (p d : List ℕ) → sound p ≡ true → (t : Table) → Ages p (outcome give_back p d).picture t
give_back_ages p d h t = give_back_ways (λ (o : Outcome). Ages p o.picture t) p d (λ k. ages_still p t) (λ a. tables_age p (given_back p (A0 d)) (given_back_tables p d h a) t)
