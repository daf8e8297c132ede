-- Ending a tree leaves what it does not own: every entry and block owned from outside, longword for longword.
use Prim.Native.Nat.{ℕ, ◌/◌, ◌<◌}
use mathlib.Core.Path.{◌≡◌, refl, sym, ◌∙◌, subst}
use mathlib.Core.Bool.{true, false, ◌&&◌, not}
use mathlib.Core.Logic.{⊎_elim}
use mathlib.Core.List.{List}
use lib.Dec.{eqb}
use native.Mathlib.Omega.{arith}
use borrow.Author.Tests.{eq-eqb, ne_eqb, not-true}
use Rattle.words.specs.Words.{word}
use Rattle.words.specs.Bits.{bit}
use Rattle.words.proofs.Tests.{both, false_true, otherwise}
use Rattle.picture.specs.Layout.{last_word, width, from, upto, size_word, heap_word}
use Rattle.picture.specs.Records.{field, base, waited_for, used, timeout_field, wait_field, key_field}
use Rattle.picture.specs.Numbers.{live}
use Rattle.picture.specs.declared.Table.{Table}
use Rattle.picture.specs.declared.Table.TheVariants.{Jobs, Channels}
use Rattle.picture.specs.declared.Area.{Area}
use Rattle.picture.specs.declared.Area.TheVariants.{Heap, Transient}
use Rattle.picture.proofs.Records.{used_below}
use Rattle.picture.proofs.Timeout.{timeout_zero}
use Rattle.picture.proofs.Members.{spares_size, spares_heap, spares_last}
use Rattle.headers.proofs.Header.{same_or_not}
use Rattle.sound_facts.proofs.Sound.{Sound}
use Rattle.freeing.specs.Sweep.{named}
use Rattle.tree.specs.Tree.{tree}
use Rattle.law_owners.specs.Under.{Under}
use Rattle.law_owners.proofs.Owners.{Owners, owners_of}
use Rattle.law_owners.proofs.Members.{tree_says, tree_unowned}
use Rattle.emptying.specs.Taken.{waits, channels_of}
use Rattle.ending.specs.Ended.{ended}
use Rattle.law_ending.specs.Promise.{Member, Leaves}
use Rattle.law_ending.proofs.Taken.{Taken}
use Rattle.law_ending.proofs.Areas.{Kept, extra}
use Rattle.law_ending.proofs.Owned.{named_is, a_member_is_named, a_live_number_named_is_a_member}
use Rattle.law_ending.proofs.Sound.{ended_tables, ended_area}
use Rattle.law_ending.proofs.OfTheTree.{channel_outside, spared}

module _ (p : List ℕ) (S : Sound p) (t key : ℕ) (top : used p Jobs t ≡ true) (other : t ≡ 0 → ⊥) where
  O : Owners p
  O = owners_of p S.jobs

  T : Taken p (ended p t key) (tree p t) (channels_of p (tree p t)) key
  T = ended_tables p S t key top other

  K : (r : Area) → Kept p (ended p t key) (from p r) (upto p r) (tree p t) (extra (base p Jobs t / 4) r)
  K = ended_area p S t key top other

  -- the mask is the tree in words
  outside : (k : ℕ) → used p Jobs k ≡ true → (Under p t k → ⊥) → bit (tree p t) k ≡ false
  outside k u n = otherwise (bit (tree p t) k) (λ b. n (tree_says p O t k (used_below p Jobs k u) b).1)

  -- who waits for a member
  no_zero : Member p t 0 → ⊥
  no_zero M = false_true (sym (tree_unowned p O t 0 (omega arith) S.jobs.zero_unowned (λ e. other (sym e))) ∙ (named_is (tree p t) 0 (a_member_is_named p S t 0 M)).1)

  waits_is : (k : ℕ) → used p Jobs k ≡ true → bit (tree p t) k ≡ false → Member p t (waited_for p k) → waits p (tree p t) k ≡ true
  unfolding waits
  waits_is k u b M = rw (u, b, ne_eqb (waited_for p k) 0 (λ z. no_zero (subst (Member p t) z M)), a_member_is_named p S t (waited_for p k) M)

  waited_parts : (k : ℕ) → waits p (tree p t) k ≡ true → (eqb (waited_for p k) 0 ≡ false) × (named (tree p t) (waited_for p k) ≡ true)
  unfolding waits
  waited_parts k h =
      let x = both (used p Jobs k) (not (bit (tree p t) k) && (not (eqb (waited_for p k) 0) && named (tree p t) (waited_for p k))) h in
      let y = both (not (bit (tree p t) k)) (not (eqb (waited_for p k) 0) && named (tree p t) (waited_for p k)) x.1 in
      let z = both (not (eqb (waited_for p k) 0)) (named (tree p t) (waited_for p k)) y.1 in
      (not-true _ z.0, z.1)

  waits_not : (k : ℕ) → used p Jobs k ≡ true → (Member p t (waited_for p k) → ⊥) → waits p (tree p t) k ≡ false
  waits_not k u n = otherwise (waits p (tree p t) k) (λ h. n (by h))
    where
      alive : (eqb (waited_for p k) 0 ≡ false) → live p Jobs (waited_for p k) ≡ true
      alive z = ⊎_elim (λ (e : waited_for p k ≡ 0). absurd (false_true (sym z ∙ eq-eqb (waited_for p k) 0 e))) (λ W. W.alive) (S.jobs.waits k (used_below p Jobs k u))

      by : waits p (tree p t) k ≡ true → Member p t (waited_for p k)
      by h = let w = waited_parts k h in a_live_number_named_is_a_member p S t (waited_for p k) (alive w.0) w.1

  pub same_from : (r : Area) → from (ended p t key) r ≡ from p r
  same_from Heap = refl
  same_from Transient = rw (T.head heap_word (omega arith) (λ z. omega arith) (λ t. spares_heap t))

  pub same_upto : (r : Area) → upto (ended p t key) r ≡ upto p r
  same_upto Heap = rw (T.head heap_word (omega arith) (λ z. omega arith) (λ t. spares_heap t))
  same_upto Transient = T.head size_word (omega arith) (λ z. omega arith) (λ t. spares_size t)

  same_last : (s : Table) → word (ended p t key) (last_word s) ≡ word p (last_word s)
  same_last Jobs = T.head (last_word Jobs) (omega arith) (λ z. omega arith) (λ t. spares_last t Jobs)
  same_last Channels = T.head (last_word Channels) (omega arith) (λ z. omega arith) (λ t. spares_last t Channels)

  -- a field of a job outside the tree that waits for none of it
  job_field : (k f : ℕ) → used p Jobs k ≡ true → bit (tree p t) k ≡ false → waits p (tree p t) k ≡ false → f < width Jobs → field (ended p t key) Jobs k f ≡ field p Jobs k f
  job_field k f u b w h =
      let l = used_below p Jobs k u in
      ⊎_elim
      (λ (e : f ≡ timeout_field). subst (λ (g : ℕ). field (ended p t key) Jobs k g ≡ field p Jobs k g) (sym e) (T.frames k l b ∙ rw w))
      (λ (n₅ : f ≡ timeout_field → ⊥). ⊎_elim
      (λ (e : f ≡ wait_field). subst (λ (g : ℕ). field (ended p t key) Jobs k g ≡ field p Jobs k g) (sym e) (T.wait k l b ∙ rw w))
      (λ (n₆ : f ≡ wait_field → ⊥). ⊎_elim
      (λ (e : f ≡ key_field). subst (λ (g : ℕ). field (ended p t key) Jobs k g ≡ field p Jobs k g) (sym e) (T.gets k l b ∙ rw w))
      (λ (n₇ : f ≡ key_field → ⊥). T.same_job k f l h n₅ n₆ n₇ b)
      (same_or_not f key_field))
      (same_or_not f wait_field))
      (same_or_not f timeout_field)

  pub leaves : Leaves p (ended p t key) t key
  leaves = record {
    jobs_stay = λ k u n. T.stays Jobs k (outside k u n) ∙ u;
    channels_stay = λ k u n. T.stays Channels k (channel_outside p S t top other k u n) ∙ u;
    jobs = λ k f u n l n₅ n₆ n₇. T.same_job k f (used_below p Jobs k u) l n₅ n₆ n₇ (outside k u n);
    channels = λ k f u n l. T.same_channel k f (used_below p Channels k u) l (channel_outside p S t top other k u n);
    waiters = λ k u n M.
        let b = outside k u n in
        let w = waits_is k u b M in
        let l = used_below p Jobs k u in
        record { frames = timeout_zero (ended p t key) k (T.frames k l b ∙ rw w); wait = T.wait k l b ∙ rw w; gets = T.gets k l b ∙ rw w };
    others = λ k f u n N h. job_field k f u (outside k u n) (waits_not k u N) h;
    blocks_stay = λ r i m u n. rw (same_from r, same_upto r) ((K r).stays i m u (spared p S t top other r i m u n));
    block_longwords = λ r i m u n. (K r).keeps i m u (spared p S t top other r i m u n);
    rooms = λ r i m. (K r).rooms i m;
    tags = same_last;
    begins = same_from;
    ends = same_upto;
  }
