-- What the tree of a job owns in a sound picture: which entries and which blocks go with it.
use Prim.Native.Nat.{ℕ, zero, suc, ◌+◌, ◌-◌, ◌*◌, ◌/◌, ◌%◌, ◌^◌, ◌≤◌, ◌<◌}
use mathlib.Core.Path.{◌≡◌, refl, sym, ap, ◌∙◌, subst}
use mathlib.Core.Bool.{Bool, true, false, ◌&&◌, ◌||◌, not, cond}
use mathlib.Core.Logic.{⊎_elim, ◌⊎◌, inl, inr}
use mathlib.Core.List.{List}
use lib.Dec.{eqb, ltb, leb}
use native.Mathlib.Omega.{arith}
use borrow.Author.Tests.{eq-eqb, ne_eqb, eqb-true, eqb-false, lt-ltb, ltb-true, le-leb}
use Rattle.words.specs.Words.{word}
use Rattle.words.specs.Bits.{bit}
use Rattle.words.specs.Each.{In}
use Rattle.words.proofs.Tests.{both, false_true, same_test, otherwise}
use Rattle.picture.specs.Layout.{nobody, heap_base, positions, from, upto}
use Rattle.picture.specs.Records.{number, owner, base, used}
use Rattle.picture.specs.Numbers.{tag, position, live}
use Rattle.picture.specs.declared.Table.{Table}
use Rattle.picture.specs.declared.Table.TheVariants.{Jobs, Channels}
use Rattle.picture.specs.declared.Area.TheVariants.{Heap, Transient}
use Rattle.picture.proofs.Records.{used_below}
use Rattle.picture.proofs.Members.{positions_within}
use Rattle.picture.proofs.Numbers.{live_is}
use Rattle.blocks.specs.Header.{kind, free, holder, kind_of}
use Rattle.blocks.specs.Walk.{blocks}
use Rattle.blocks.proofs.Starts.{starts_in}
use Rattle.sound_matching.specs.Match.{area_of, has_block}
use Rattle.sound_matching.proofs.Counts.{Matches}
use Rattle.sound_matching.proofs.Matched.{apart_base}
use Rattle.sound_facts.proofs.Sound.{Sound}
use Rattle.sound_facts.proofs.View.{has_block_used}
use Rattle.freeing.specs.Sweep.{named, goes}
use Rattle.tree.specs.Tree.{in_tree, tree}
use Rattle.masks.specs.Masks.{set_width, mask}
use Rattle.masks.proofs.Masks.{mask_fits, mask_bit}
use Rattle.law_owners.proofs.Owners.{Owners, nobody_is_no_job, owners_of}
use Rattle.law_owners.proofs.Members.{tree_says, tree_has, tree_top, tree_child, tree_owner}
use Rattle.emptying.specs.Taken.{channel_goes, channels_of}
use Rattle.ending.specs.Ended.{no_block}
use Rattle.law_ending.specs.Promise.{Member}
use Rattle.law_ending.proofs.Taken.{going}
use Rattle.law_ending.proofs.Areas.{extra}

pub tree_fits : (p : List ℕ) (t : ℕ) → tree p t < 2 ^ set_width
unfolding tree
tree_fits p t = mask_fits (in_tree p t) (positions Jobs) (positions_within Jobs)

pub channels_fit : (p : List ℕ) (m : ℕ) → channels_of p m < 2 ^ set_width
unfolding channels_of
channels_fit p m = mask_fits (channel_goes p m) (positions Channels) (positions_within Channels)

-- a number whose position is in the mask
pub named_is : (m n : ℕ) → named m n ≡ true → (position n < positions Jobs) × (bit m (position n) ≡ true)
named_is m n h = let b = both _ _ h in (ltb-true (position n) (positions Jobs) b.0, b.1)

pub is_named : (m n : ℕ) → position n < positions Jobs → bit m (position n) ≡ true → named m n ≡ true
is_named m n l b = rw (lt-ltb (position n) (positions Jobs) l, b)

pub not_named : (m n : ℕ) → position n < positions Jobs → named m n ≡ false → bit m (position n) ≡ false
not_named m n l h = sym (rw (lt-ltb (position n) (positions Jobs) l)) ∙ h

module _ (p : List ℕ) (S : Sound p) (t : ℕ) where
  O : Owners p
  O = owners_of p S.jobs

  -- whoever is named by position is a member by whole number
  pub a_member_is_named : (n : ℕ) → Member p t n → named (tree p t) n ≡ true
  a_member_is_named n M = let v = live_is p Jobs n M.lives in is_named (tree p t) n (used_below p Jobs (position n) v.used) (tree_has p O t (position n) v.used M.under)

  pub a_live_number_named_is_a_member : (n : ℕ) → live p Jobs n ≡ true → named (tree p t) n ≡ true → Member p t n
  a_live_number_named_is_a_member n l h = let w = named_is (tree p t) n h in record { lives = l; under = (tree_says p O t (position n) w.0 w.1).1 }

  -- a job outside the tree is owned from outside it, and so is a channel that stays
  pub owner_outside : (T : Table) (k : ℕ) → used p T k ≡ true → bit (going (tree p t) (channels_of p (tree p t)) T) k ≡ false → live p Jobs (owner p T k) ≡ true → named (tree p t) (owner p T k) ≡ false
  unfolding channels_of channel_goes
  owner_outside Jobs k u b l = otherwise (named (tree p t) (owner p Jobs k)) (λ n.
      let w = named_is (tree p t) (owner p Jobs k) n in
      let v = live_is p Jobs (owner p Jobs k) l in
      false_true (sym b ∙ tree_child p O t k (position (owner p Jobs k)) u v.used (sym v.names) w.1))
  owner_outside Channels k u b l = otherwise (named (tree p t) (owner p Channels k)) (λ n.
      false_true (sym b ∙ mask_bit (channel_goes p (tree p t)) (positions Channels) k (used_below p Channels k u) ∙ rw (u, n)))

  -- a job but the top is in the tree if its owner is
  by_owner : (k : ℕ) → used p Jobs k ≡ true → (k ≡ t → ⊥) → named (tree p t) (owner p Jobs k) ≡ bit (tree p t) k
  by_owner k u n = same_test (named (tree p t) (owner p Jobs k)) (bit (tree p t) k)
      (λ h.
      let w = named_is (tree p t) (owner p Jobs k) h in
      ⊎_elim
      (λ (e : owner p Jobs k ≡ nobody). absurd (past (owner p Jobs k) e w.0))
      (λ v. let y = live_is p Jobs (owner p Jobs k) v.0 in tree_child p O t k (position (owner p Jobs k)) u y.used (sym y.names) w.1)
      (O.older k u))
      (λ h. ⊎_elim
      (λ z. absurd (n z))
      (λ o. by_member o.0 o.1.0 o.1.1.0 o.1.1.1)
      (tree_owner p O t k (used_below p Jobs k u) h))
    where
      by_member : (j : ℕ) → used p Jobs j ≡ true → owner p Jobs k ≡ number p Jobs j → bit (tree p t) j ≡ true → named (tree p t) (owner p Jobs k) ≡ true
      by_member j v e b =
          let z : position (owner p Jobs k) ≡ j = ap position e ∙ O.place j v in
          is_named (tree p t) (owner p Jobs k) (rw z (used_below p Jobs j v)) (rw z b)

      past : (x : ℕ) → x ≡ nobody → position x < positions Jobs → ⊥
      past x e l = let z : position nobody < positions Jobs = subst (λ (y : ℕ). position y < positions Jobs) e l in omega arith

  has_block_top : used p Jobs t ≡ true → (t ≡ 0 → ⊥) → has_block p Jobs t ≡ true
  unfolding has_block
  has_block_top u n = rw (le-leb 1 t (omega arith), u)

  in_use : (T : Table) (i : ℕ) → kind p i ≡ kind_of T → free p i ≡ false
  in_use Jobs i e = ne_eqb (kind p i) 0 (λ z. omega arith)
  in_use Channels i e = ne_eqb (kind p i) 0 (λ z. omega arith)

  -- an entry's block goes if the entry does
  pub block_goes : used p Jobs t ≡ true → (t ≡ 0 → ⊥) → (T : Table) (k i : ℕ) → In i (blocks p (area_of T)) → Matches p T k i
      → goes p (tree p t) (extra (base p Jobs t / 4) (area_of T)) i ≡ bit (going (tree p t) (channels_of p (tree p t)) T) k
  unfolding goes channels_of channel_goes
  block_goes u n Jobs k i b o = rw (in_use Jobs i o.sorts) (go (eqb i (base p Jobs t / 4)) refl)
    where
      own : used p Jobs k ≡ true
      own = has_block_used p Jobs k o.has

      top_base : (4 * (base p Jobs t / 4)) ≡ base p Jobs t
      top_base = let x = (S.matched Jobs).home t (used_below p Jobs t u) (has_block_top u n) in let y = x.1.1.place in omega arith

      go : (c : Bool) → eqb i (base p Jobs t / 4) ≡ c → c || named (tree p t) (holder p i) ≡ bit (tree p t) k
      go true z =
          let e = eqb-true i (base p Jobs t / 4) z in
          let y : base p Jobs k ≡ base p Jobs t = o.place ∙ ap (λ (x : ℕ). 4 * x) e ∙ top_base in
          let w : k ≡ t = apart_base p Jobs k t (S.matched Jobs) (used_below p Jobs k own) (used_below p Jobs t u) o.has (has_block_top u n) y in
          sym (subst (λ (x : ℕ). bit (tree p t) x ≡ true) (sym w) (tree_top p O t u))
      go false z = rw (← o.held) (by_owner k own (λ (e : k ≡ t). eqb-false i (base p Jobs t / 4) z (at_top e)))
        where
          at_top : k ≡ t → i ≡ base p Jobs t / 4
          at_top e = let y : base p Jobs t ≡ 4 * i = subst (λ (x : ℕ). base p Jobs x ≡ 4 * i) e o.place in omega arith
  block_goes u n Channels k i b o =
      let w = (starts_in p (from p Heap) (upto p Heap) i b).0 in
      let v = has_block_used p Channels k o.has in
      rw (in_use Channels i o.sorts, ne_eqb i no_block (λ z. omega arith), ← o.held)
      (sym (mask_bit (channel_goes p (tree p t)) (positions Channels) k (used_below p Channels k v) ∙ rw v))
