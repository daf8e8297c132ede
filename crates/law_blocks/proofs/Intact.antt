-- Every block in use other than those placed or given back keeps every longword, header and room.
use Prim.Native.Nat.{ℕ, ◌+◌, ◌/◌, ◌≤◌, ◌<◌}
use mathlib.Core.Path.{◌≡◌, refl, sym, subst}
use mathlib.Core.Bool.{false}
use mathlib.Core.Logic.{⊎_elim, ◌⊎◌, inl, inr}
use mathlib.Core.List.{List}
use native.Mathlib.Omega.{arith}
use Rattle.words.specs.Words.{word}
use Rattle.words.specs.Each.{In}
use Rattle.picture.specs.Layout.{from, upto}
use Rattle.picture.specs.declared.Area.{Area}
use Rattle.blocks.specs.Header.{size, free}
use Rattle.blocks.specs.Walk.{starts, blocks}
use Rattle.blocks.proofs.Starts.{starts_in}
use Rattle.sound_facts.proofs.Sound.{Tiled}
use Rattle.sound_facts.proofs.Same.{blocks_same, within}
use Rattle.rooms.proofs.Sizes.{Lies}
use Rattle.law_blocks.proofs.Moved.{Kept}
use Rattle.law_blocks.proofs.Change.{Change, here, other_same, two_areas}

-- the block at i of the area b is there in q, with every longword that it has in p
pub record Intact (p q : List ℕ) (b : Area) (i : ℕ) : Type 0 where
  pub there : In i (blocks q b)
  pub same : (w : ℕ) → i ≤ w → w < i + size p i / 4 → word q w ≡ word p w

pub still_intact : (p : List ℕ) (b : Area) (i : ℕ) → In i (blocks p b) → Intact p p b i
still_intact p b i m = record { there = m; same = λ w x y. refl }

module _ (p q : List ℕ) (a : Area) (New Goes : ℕ → Type 0) (C : Change p q a New Goes) (lies : (b : Area) → Lies p b) (T : (b : Area) → Tiled p b) where
  pub change_keeps_every_other_block : (b : Area) (i : ℕ) → In i (blocks p b) → free p i ≡ false → ((a ≡ b) × Goes i) ⊎ Intact p q b i
  change_keeps_every_other_block b i m f = ⊎_elim
      (λ (e : a ≡ b).
      ⊎_elim
      (λ g. inl (e, g))
      (λ (K : In i (starts q (from p a) (upto p a)) × Kept p q a i). inr (record { there = subst (λ (x : Area). In i (blocks q x)) e (here p q a New Goes C lies i K.0); same = K.1.same }))
      (C.stays i (subst (λ (x : Area). In i (blocks p x)) (sym e) m) f))
      (λ h.
      let s = other_same p q a New Goes C lies b h in
      let r = starts_in p (from p b) (upto p b) i m in
      let z = within p i (upto p b) ((T b).whole i m) r.1 in
      inr (record { there = subst (In i) (sym (blocks_same p q b s)) m; same = λ w x y. s.same w (omega (arith, r.0)) (omega arith) }))
      (two_areas p a b)
