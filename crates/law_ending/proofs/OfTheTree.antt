-- Which channels and which blocks are of a tree: in the words of the promise, and by the tests of the code.
use Prim.Native.Nat.{ℕ, ◌*◌, ◌/◌, ◌<◌}
use mathlib.Core.Path.{◌≡◌, sym, ◌∙◌, subst}
use mathlib.Core.Bool.{true, false}
use mathlib.Core.Logic.{⊎_elim, inl, inr}
use mathlib.Core.List.{List}
use native.Mathlib.Omega.{arith}
use borrow.Author.Tests.{eq-eqb, ne_eqb, le-leb}
use Rattle.words.specs.Bits.{bit}
use Rattle.words.specs.Each.{In}
use Rattle.words.proofs.Tests.{false_true, otherwise}
use Rattle.picture.specs.Layout.{nobody, positions, from, upto}
use Rattle.picture.specs.Records.{owner, base, used}
use Rattle.picture.specs.Numbers.{position, live}
use Rattle.picture.specs.declared.Table.TheVariants.{Jobs, Channels}
use Rattle.picture.specs.declared.Area.{Area}
use Rattle.picture.specs.declared.Area.TheVariants.{Heap, Transient}
use Rattle.picture.proofs.Records.{used_below}
use Rattle.blocks.specs.Header.{kind, free, holder}
use Rattle.blocks.specs.Walk.{blocks}
use Rattle.blocks.proofs.Starts.{starts_in}
use Rattle.sound_matching.specs.Match.{has_block}
use Rattle.sound_facts.proofs.Sound.{Sound}
use Rattle.freeing.specs.Sweep.{named, goes}
use Rattle.law_freeing.proofs.Goes.{a_block_owned_by_the_set_goes}
use Rattle.tree.specs.Tree.{tree}
use Rattle.masks.proofs.Masks.{mask_bit}
use Rattle.emptying.specs.Taken.{channel_goes, channels_of}
use Rattle.law_ending.specs.Promise.{Member, OfTheTree}
use Rattle.law_ending.proofs.Areas.{extra}
use Rattle.law_ending.proofs.Owned.{named_is, a_member_is_named, a_live_number_named_is_a_member}

module _ (p : List ℕ) (S : Sound p) (t : ℕ) (top : used p Jobs t ≡ true) (other : t ≡ 0 → ⊥) where
  member_named : (n : ℕ) → Member p t n → named (tree p t) n ≡ true
  member_named = a_member_is_named p S t

  named_member : (n : ℕ) → live p Jobs n ≡ true → named (tree p t) n ≡ true → Member p t n
  named_member = a_live_number_named_is_a_member p S t

  -- a channel's bit
  channel_bit : (k : ℕ) → used p Channels k ≡ true → bit (channels_of p (tree p t)) k ≡ named (tree p t) (owner p Channels k)
  unfolding channels_of channel_goes
  channel_bit k u = mask_bit (channel_goes p (tree p t)) (positions Channels) k (used_below p Channels k u) ∙ rw u

  channel_owner : (k : ℕ) → used p Channels k ≡ true → live p Jobs (owner p Channels k) ≡ true
  channel_owner k u = ⊎_elim (λ e. absurd (false_true e.0)) (λ l. l) (S.channels.entries.owned k u)

  pub channel_outside : (k : ℕ) → used p Channels k ≡ true → (Member p t (owner p Channels k) → ⊥) → bit (channels_of p (tree p t)) k ≡ false
  channel_outside k u n = channel_bit k u ∙ otherwise (named (tree p t) (owner p Channels k)) (λ h. n (named_member (owner p Channels k) (channel_owner k u) h))

  pub member_channel : (k : ℕ) → used p Channels k ≡ true → Member p t (owner p Channels k) → bit (channels_of p (tree p t)) k ≡ true
  member_channel k u M = channel_bit k u ∙ member_named (owner p Channels k) M

  -- a block in use of p is owned by a live job, or is a job block of nobody's
  holder_member : (r : Area) (i : ℕ) → In i (blocks p r) → free p i ≡ false → named (tree p t) (holder p i) ≡ true → Member p t (holder p i)
  holder_member r i m u h = ⊎_elim
      (λ (e : kind p i ≡ 0). absurd (false_true (sym u ∙ eq-eqb (kind p i) 0 e)))
      (λ x. ⊎_elim (λ e. absurd (past (holder p i) e.1 (named_is (tree p t) (holder p i) h).0)) (λ l. named_member (holder p i) l h) x)
      ((S.tiled r).held i m)
    where
      past : (x : ℕ) → x ≡ nobody → position x < positions Jobs → ⊥
      past x e l = let z : position nobody < positions Jobs = subst (λ (y : ℕ). position y < positions Jobs) e l in omega arith

  top_has_block : has_block p Jobs t ≡ true
  unfolding has_block
  top_has_block = rw (le-leb 1 t (omega arith), top)

  pub spared : (r : Area) (i : ℕ) → In i (blocks p r) → free p i ≡ false → (OfTheTree p t i → ⊥) → goes p (tree p t) (extra (base p Jobs t / 4) r) i ≡ false
  unfolding goes
  spared r i m u n = rw (u, ne_eqb i (extra (base p Jobs t / 4) r) (not_extra r m), otherwise (named (tree p t) (holder p i)) (λ h. n (inl (holder_member r i m u h))))
    where
      not_extra : (r : Area) → In i (blocks p r) → i ≡ extra (base p Jobs t / 4) r → ⊥
      not_extra Heap m e = let w = (starts_in p (from p Heap) (upto p Heap) i m).0 in omega arith
      not_extra Transient m e =
          let h = (S.matched Jobs).home t (used_below p Jobs t top) top_has_block in
          let z = h.1.1.place in
          n (inr (omega arith))

  pub top_is_in_the_transient_area : (i : ℕ) → In i (blocks p Heap) → base p Jobs t ≡ 4 * i → ⊥
  top_is_in_the_transient_area i m e =
      let h = (S.matched Jobs).home t (used_below p Jobs t top) top_has_block in
      let z = h.1.1.place in
      let x = (starts_in p (from p Transient) (upto p Transient) h.0 h.1.0).0 in
      let y = (starts_in p (from p Heap) (upto p Heap) i m).1 in
      omega arith

  top_goes : (i : ℕ) → free p i ≡ false → base p Jobs t ≡ 4 * i → goes p (tree p t) (base p Jobs t / 4) i ≡ true
  unfolding goes
  top_goes i u e = let z : i ≡ base p Jobs t / 4 = omega arith in rw (u, eq-eqb i (base p Jobs t / 4) z)

  -- a block of the tree
  pub of_the_tree_goes : (r : Area) (i : ℕ) → In i (blocks p r) → free p i ≡ false → OfTheTree p t i → goes p (tree p t) (extra (base p Jobs t / 4) r) i ≡ true
  of_the_tree_goes r i m u (inl M) = a_block_owned_by_the_set_goes p (tree p t) (extra (base p Jobs t / 4) r) i u (member_named (holder p i) M)
  of_the_tree_goes Heap i m u (inr e) = absurd (top_is_in_the_transient_area i m e)
  of_the_tree_goes Transient i m u (inr e) = top_goes i u e
