-- In a sound picture the lowest clear bit of a mask is the first position whose record is all zero.
use Prim.Native.Nat.{ℕ, zero, suc, ◌+◌, ◌≤◌, ◌<◌}
use mathlib.Core.Path.{◌≡◌, refl, sym, ◌∙◌}
use mathlib.Core.Bool.{Bool, true, false, cond}
use mathlib.Core.Logic.{⊎_elim, ◌⊎◌}
use mathlib.Core.List.{List}
use native.Mathlib.Omega.{arith}
use borrow.Author.Tests.{le-leb}
use lib.Dec.{leb}
use Rattle.words.proofs.Tests.{false_true, both_true, lt_or_ge}
use Rattle.masks.proofs.Lowest.{Lowest, lowest_clear_is}
use Rattle.picture.specs.Layout.{positions, nobody}
use Rattle.picture.specs.Records.{number_field, owner_field, owner, all_zero, members, used}
use Rattle.picture.specs.Numbers.{tag, free_position}
use Rattle.picture.specs.declared.Table.{Table}
use Rattle.picture.specs.declared.Table.TheVariants.{Jobs, Channels}
use Rattle.picture.proofs.Records.{shared, all_zero_by, all_zero_not, used_is, used_below}
use Rattle.sound_matching.specs.Match.{has_block}
use Rattle.sound_facts.proofs.Sound.{Entries, Jobs_fine, Sound, entries_of}
use Rattle.law_positions.specs.Positions.{walk, walked_to}

-- where a walk ends: behind records that aren't all zero, at one that is or behind the last
walk_to : (p : List ℕ) (t : Table) (n k r : ℕ) → k ≤ r → r ≤ k + n → ((j : ℕ) → k ≤ j → j < r → all_zero p t j ≡ false) → (r < k + n → all_zero p t r ≡ true) → walk p t k n ≡ r
walk_to p t zero k r a b u f = omega arith
walk_to p t (suc n) k r a b u f = go (all_zero p t k) refl (λ l. walk_to p t n (k + 1) r (omega arith) (omega arith) (λ j x y. u j (omega arith) y) (λ x. f (omega arith)))
  where
    go : (z : Bool) → all_zero p t k ≡ z → (k < r → walk p t (k + 1) n ≡ r) → cond z k (walk p t (k + 1) n) ≡ r
    go true z more = ⊎_elim (λ (l : k < r). absurd (false_true (sym (u k (omega arith) l) ∙ z))) (λ (l : r ≤ k). omega arith) (lt_or_ge k r)
    go false z more = ⊎_elim more (λ (l : r ≤ k). absurd (let e : k ≡ r = omega arith in false_true (sym z ∙ rw e (f (omega arith))))) (lt_or_ge k r)

module _ (p : List ℕ) (S : Sound p) where
  -- a record in use isn't all zero: it has a tag, or it is job 0's, whose owner is nobody
  has_tag : (t : Table) (k : ℕ) → k < positions t → has_block p t k ≡ true → all_zero p t k ≡ false
  has_tag t k l h =
      let g = ((entries_of p S t).tagged k h).0 in
      all_zero_not p t k number_field (shared t number_field (omega arith)) (λ e. omega arith)

  in_use : (t : Table) (k : ℕ) → used p t k ≡ true → all_zero p t k ≡ false
  unfolding has_block
  in_use Jobs zero h = all_zero_not p Jobs 0 owner_field (omega arith) (λ e. omega (arith, S.jobs.zero_unowned))
  in_use Jobs (suc k) h = has_tag Jobs (suc k) (used_below p Jobs (suc k) h) (both_true (leb 1 (suc k)) _ (le-leb 1 (suc k) (omega arith)) h)
  in_use Channels k h = has_tag Channels k (used_below p Channels k h) (both_true (leb 0 k) _ (le-leb 0 k (omega arith)) h)

  pub free_position_walked_to : (t : Table) → free_position p t ≡ walked_to p t
  unfolding free_position walked_to
  free_position_walked_to t =
      let L = lowest_clear_is (positions t) (members p t) in
      let w = L.within in
      sym (walk_to p t (positions t) 0 _ (omega arith) (omega arith)
      (λ j _ l. in_use t j (used_is p t j (omega arith) ∙ L.used j l))
      (λ x. let l : _ < positions t = omega arith in all_zero_by p t _ (λ f m. (entries_of p S t).unused _ f l m (used_is p t _ l ∙ L.free l))))
