-- Ending a tree takes it with what it owns: entries are gone, blocks are free, nothing is new, and the bytes given back are those of the blocks that are gone.
use Prim.Native.Nat.{ℕ, zero, ◌+◌, ◌/◌, ◌≤◌, ◌<◌}
use mathlib.Core.Path.{◌≡◌, refl, sym, ap, ◌∙◌, subst}
use mathlib.Core.Bool.{Bool, true, false, ◌&&◌, not, cond}
use mathlib.Core.List.{List}
use lib.Dec.{eqb}
use native.Mathlib.Omega.{arith}
use borrow.Author.Tests.{eq-eqb, eqb-true, not-true}
use Rattle.words.specs.Bits.{bit}
use Rattle.words.specs.Each.{any, In}
use Rattle.words.proofs.Tests.{both, false_true, otherwise}
use Rattle.words.proofs.Each.{any_some, some_any, total_same}
use Rattle.picture.specs.Layout.{positions, from, upto}
use Rattle.picture.specs.Records.{base, used, number_field, owner_field, base_field}
use Rattle.picture.specs.declared.Table.{Table}
use Rattle.picture.specs.declared.Table.TheVariants.{Jobs, Channels}
use Rattle.picture.specs.declared.Area.{Area}
use Rattle.picture.proofs.Records.{used_below}
use Rattle.blocks.specs.Header.{kind_field, holder_field, size, free}
use Rattle.blocks.specs.Walk.{blocks}
use Rattle.law_areas.specs.Area.{free_bytes}
use Rattle.law_areas.proofs.Row.{block_of}
use Rattle.sound_facts.proofs.Sound.{Sound}
use Rattle.freeing.specs.Sweep.{goes}
use Rattle.law_freeing.proofs.Goes.{goes_used}
use Rattle.law_freeing.specs.Swept.{given_size}
use Rattle.tree.specs.Tree.{tree}
use Rattle.law_owners.proofs.Owners.{Owners, owners_of}
use Rattle.law_owners.proofs.Members.{tree_has}
use Rattle.emptying.specs.Taken.{channels_of}
use Rattle.ending.specs.Ended.{ended}
use Rattle.law_ending.specs.Promise.{Gone, OldEntry, OfTheTree, OldBlock, Free, in_use_at, gone_size, gone_bytes, Takes}
use Rattle.law_ending.proofs.Taken.{going, Taken}
use Rattle.law_ending.proofs.Areas.{Kept, extra}
use Rattle.law_areas.proofs.Lie.{Lies, each_longword_lies_in_a_block, no_longword_lies_in_two_blocks}
use Rattle.law_ending.proofs.Sound.{ended_tables, ended_area}
use Rattle.law_ending.proofs.OfTheTree.{member_channel, of_the_tree_goes}
use Rattle.law_ending.proofs.Leaving.{same_from, same_upto}

module _ (p : List ℕ) (S : Sound p) (t key : ℕ) (top : used p Jobs t ≡ true) (other : t ≡ 0 → ⊥) where
  O : Owners p
  O = owners_of p S.jobs

  T : Taken p (ended p t key) (tree p t) (channels_of p (tree p t)) key
  T = ended_tables p S t key top other

  K : (r : Area) → Kept p (ended p t key) (from p r) (upto p r) (tree p t) (extra (base p Jobs t / 4) r)
  K = ended_area p S t key top other

  -- a test that cannot fail
  passes : (b : Bool) → (b ≡ false → ⊥) → b ≡ true
  passes true n = refl
  passes false n = absurd (n refl)

  -- an entry of p goes or stays by its bit
  gone : (s : Table) (k : ℕ) → k < positions s → bit (going (tree p t) (channels_of p (tree p t)) s) k ≡ true → Gone (ended p t key) s k
  gone s k l b = record { unused = T.dies s k b; zero = λ f h. T.blank s k f l h b }

  old_entry : (s : Table) (k : ℕ) → used (ended p t key) s k ≡ true → OldEntry p (ended p t key) s k
  old_entry s k u =
      let b : bit (going (tree p t) (channels_of p (tree p t)) s) k ≡ false = otherwise _ (λ h. false_true (sym (T.dies s k h) ∙ u)) in
      let v : used p s k ≡ true = sym (T.stays s k b) ∙ u in
      let l = used_below p s k v in
      record { was_used = v; same_number = T.same s k number_field l (omega arith) b; same_owner = T.same s k owner_field l (omega arith) b; same_base = T.same s k base_field l (omega arith) b }

  -- a block in use afterwards
  old : (r : Area) (i : ℕ) → In i (blocks (ended p t key) r) → free (ended p t key) i ≡ false → In i (blocks p r) × ((free p i ≡ false) × (goes p (tree p t) (extra (base p Jobs t / 4) r) i ≡ false))
  old r i m u = (K r).only i (rw (same_from p S t key top other r, same_upto p S t key top other r) at m) u

  old_block : (r : Area) (i : ℕ) → In i (blocks (ended p t key) r) → free (ended p t key) i ≡ false → OldBlock p (ended p t key) t r i
  old_block r i m u =
      let o = old r i m u in
      let B = block_of p (from p r) (upto p r) (S.tiled r).whole i o.0 in
      let l = B.least in
      let keeps = (K r).keeps i o.0 o.1.0 o.1.1 in
      record {
        was_there = o.0;
        was_used = o.1.0;
        outside = λ g. false_true (sym o.1.1 ∙ of_the_tree_goes p S t top other r i o.0 o.1.0 g);
        same_length = keeps i (omega arith) (omega arith);
        same_kind = keeps (i + kind_field) (omega arith) (omega arith);
        same_owner = keeps (i + holder_field) (omega arith) (omega arith);
        same_longwords = keeps;
      }

  -- each longword of a block that goes lies in a block of q, and in none that is in use
  freed : (r : Area) (i : ℕ) → In i (blocks p r) → free p i ≡ false → OfTheTree p t i → (k : ℕ) → i ≤ k → k < i + size p i / 4 → Free (ended p t key) r k
  freed r i m u g k lo hi =
      let B = block_of p (from p r) (upto p r) (S.tiled r).whole i m in
      let a = B.low in
      let b = B.high in
      let c = each_longword_lies_in_a_block (ended p t key) (from p r) (upto p r) k (K r).tiled (omega arith) (omega arith) in
      let there : In c.0 (blocks (ended p t key) r) = rw (same_from p S t key top other r, same_upto p S t key top other r) c.1.0 in
      record {
        block = c.0;
        there = there;
        is_free = passes (free (ended p t key) c.0) (λ f. clash c.0 there f c.1.1);
        after = c.1.1.0;
        before = c.1.1.1;
      }
    where
      clash : (j : ℕ) → In j (blocks (ended p t key) r) → free (ended p t key) j ≡ false → Lies (ended p t key) j k → ⊥
      clash j n f w =
          let o = old_block r j n f in
          let e = no_longword_lies_in_two_blocks p (from p r) (upto p r) i j k (S.tiled r).whole m o.was_there (lo, hi) (w.0, rw o.same_length at w.1) in
          o.outside (subst (OfTheTree p t) e g)

  -- a block is gone exactly where it goes
  gone_is_given : (r : Area) (i : ℕ) → In i (blocks p r) → gone_size p (ended p t key) r i ≡ given_size p (tree p t) (extra (base p Jobs t / 4) r) i
  gone_is_given r i m = go (free p i) (goes p (tree p t) (extra (base p Jobs t / 4) r) i) refl refl
    where
      stands : free p i ≡ false → goes p (tree p t) (extra (base p Jobs t / 4) r) i ≡ false → in_use_at (ended p t key) r i ≡ true
      stands u g =
          let n : In i (blocks (ended p t key) r) = rw (same_from p S t key top other r, same_upto p S t key top other r) ((K r).stays i m u g) in
          let B = block_of p (from p r) (upto p r) (S.tiled r).whole i m in
          let l = B.least in
          let f : free (ended p t key) i ≡ false = rw ((K r).keeps i m u g (i + kind_field) (omega arith) (omega arith)) u in
          rw (some_any (eqb i) (blocks (ended p t key) r) i n (eq-eqb i i refl), f)

      gone_there : goes p (tree p t) (extra (base p Jobs t / 4) r) i ≡ true → in_use_at (ended p t key) r i ≡ false
      gone_there g = otherwise (in_use_at (ended p t key) r i) (λ h.
          let x = both (any (eqb i) (blocks (ended p t key) r)) (not (free (ended p t key) i)) h in
          let s = any_some (eqb i) (blocks (ended p t key) r) x.0 in
          let n : In i (blocks (ended p t key) r) = subst (λ (j : ℕ). In j (blocks (ended p t key) r)) (sym (eqb-true i s.0 s.1.1)) s.1.0 in
          false_true (sym (old r i n (not-true (free (ended p t key) i) x.1)).1.1 ∙ g))

      go : (f g : Bool) → free p i ≡ f → goes p (tree p t) (extra (base p Jobs t / 4) r) i ≡ g
          → cond (not f && not (in_use_at (ended p t key) r i)) (size p i) 0 ≡ cond g (size p i) 0
      go true true u g = absurd (false_true (sym (goes_used p (tree p t) (extra (base p Jobs t / 4) r) i g) ∙ u))
      go true false u g = refl
      go false true u g = rw (gone_there g)
      go false false u g = rw (stands u g)

  more_free : (r : Area) → free_bytes (ended p t key) (from (ended p t key) r) (upto (ended p t key) r) ≡ free_bytes p (from p r) (upto p r) + gone_bytes p (ended p t key) r
  more_free r = rw (same_from p S t key top other r, same_upto p S t key top other r) (K r).more_free
      ∙ ap (λ (n : ℕ). free_bytes p (from p r) (upto p r) + n) (sym (total_same (gone_size p (ended p t key) r) (given_size p (tree p t) (extra (base p Jobs t / 4) r)) (blocks p r) (gone_is_given r)))

  pub takes : Takes p (ended p t key) t
  takes = record {
    jobs = λ k u w. gone Jobs k (used_below p Jobs k u) (tree_has p O t k u w);
    channels = λ k u M. gone Channels k (used_below p Channels k u) (member_channel p S t top other k u M);
    freed = freed;
    old_entries = old_entry;
    old_blocks = old_block;
    bytes = more_free;
    current = T.current;
  }
