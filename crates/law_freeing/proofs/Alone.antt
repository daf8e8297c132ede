-- A sweep with no owner in the set gives back one block.
use Prim.Native.Nat.{ℕ, ◌+◌, ◌/◌, ◌^◌}
use mathlib.Core.Path.{◌≡◌, refl, ◌∙◌}
use mathlib.Core.Bool.{Bool, true, false, ◌&&◌}
use mathlib.Core.List.{List, [], ◌∷◌}
use mathlib.Core.Logic.{inl, inr}
use lib.Dec.{ltb}
use lib.Pow.{pow_pos}
use native.Mathlib.Nat.{div-eq_of_lt}
use native.Mathlib.Omega.{arith}
use Rattle.words.specs.Each.{In, total}
use Rattle.words.specs.Bits.{bit}
use Rattle.picture.specs.Layout.{positions}
use Rattle.picture.specs.Numbers.{position}
use Rattle.picture.specs.declared.Table.TheVariants.{Jobs}
use Rattle.blocks.specs.Header.{size, free, holder}
use Rattle.blocks.specs.Walk.{starts}
use Rattle.blocks.proofs.Starts.{Rising, starts_rising, rising_in}
use Rattle.freeing.specs.Sweep.{named, goes}
use Rattle.law_freeing.proofs.Goes.{the_block_at_that_place_goes, a_block_owned_from_outside_stays}
use Rattle.law_freeing.specs.Swept.{given_size, given_bytes}

no_bit : (k : ℕ) → bit 0 k ≡ false
no_bit k = let z : 0 / 2 ^ k ≡ 0 = div-eq_of_lt (pow_pos k) in rw z

none_named : (o : ℕ) → named 0 o ≡ false
none_named o = rw (no_bit (position o)) (go (ltb (position o) (positions Jobs)))
  where
    go : (b : Bool) → b && false ≡ false
    go true = refl
    go false = refl

-- of the empty set only the block at a goes
pub the_block_at_a_goes : (p : List ℕ) (a : ℕ) → free p a ≡ false → goes p 0 a a ≡ true
the_block_at_a_goes p a f = the_block_at_that_place_goes p 0 a a f refl

pub no_other_block_goes : (p : List ℕ) (a i : ℕ) → (i ≡ a → ⊥) → goes p 0 a i ≡ false
no_other_block_goes p a i n = a_block_owned_from_outside_stays p 0 a i n (none_named (holder p i))

total_none : (g : ℕ → ℕ) (l : List ℕ) → ((i : ℕ) → In i l → g i ≡ 0) → total g l ≡ 0
total_none g [] h = refl
total_none g (i ∷ l) h = rw (h i (inl refl), total_none g l (λ j m. h j (inr m)))

total_one : (g : ℕ → ℕ) (lo e a : ℕ) (l : List ℕ) → Rising lo e l → In a l → ((i : ℕ) → (i ≡ a → ⊥) → g i ≡ 0) → total g l ≡ g a
total_one g lo e a [] r m h = absurd m
total_one g lo e a (i ∷ l) r (inl z) h =
    let o = total_none g l (λ j n. h j (λ y. let s = rising_in (i + 1) e l r.1.1 j n in omega (arith, s.0))) in
    rw (o, z) (omega arith)
total_one g lo e a (i ∷ l) r (inr m) h =
    let s = rising_in (i + 1) e l r.1.1 a m in
    rw (h i (λ y. omega (arith, s.0)), total_one g (i + 1) e a l r.1.1 m h) (omega arith)

-- its bytes are given back, and no others
pub one_block_is_given_back : (p : List ℕ) (base e a : ℕ) → In a (starts p base e) → free p a ≡ false → given_bytes p base e 0 a ≡ size p a
one_block_is_given_back p base e a m f =
    total_one (given_size p 0 a) base e a (starts p base e) (starts_rising p base e) m (λ i n. rw (no_other_block_goes p a i n))
    ∙ rw (the_block_at_a_goes p a f)
