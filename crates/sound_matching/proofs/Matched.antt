-- What the two rules of matching say together: live entries and blocks match one to one.
use Prim.Native.Nat.{ℕ, zero, suc, ◌+◌, ◌≤◌, ◌<◌}
use mathlib.Core.Path.{◌≡◌, refl, subst}
use mathlib.Core.Bool.{Bool, true, false, ◌||◌, not}
use mathlib.Core.Logic.{⊎_elim}
use mathlib.Core.List.{List}
use lib.Dec.{eqb}
use native.Mathlib.Omega.{arith}
use borrow.Author.Tests.{eqb-true, eq-eqb}
use Rattle.words.specs.Each.{one, count, any, In}
use Rattle.words.proofs.Tests.{unless, lt_or_ge}
use Rattle.words.proofs.Each.{any_some, some_any, count_some, count_at, count_two}
use Rattle.picture.specs.Layout.{positions}
use Rattle.picture.specs.Records.{base}
use Rattle.picture.specs.declared.Table.{Table}
use Rattle.blocks.specs.Header.{kind, kind_of}
use Rattle.blocks.specs.Walk.{blocks}
use Rattle.sound_matching.specs.Match.{area_of, has_block, pair, block_matched, matches, entry_matched}
use Rattle.sound_matching.proofs.Counts.{Matches, is_matches, matches_is}

-- every entry has its block, every block its entry, and no two entries share one
pub record Matched (p : List ℕ) (t : Table) : Type 0 where
  pub home : (k : ℕ) → k < positions t → has_block p t k ≡ true → (i : ℕ) × (In i (blocks p (area_of t)) × Matches p t k i)
  pub heir : (i : ℕ) → In i (blocks p (area_of t)) → kind p i ≡ kind_of t → (k : ℕ) × ((k < positions t) × Matches p t k i)
  pub apart : (j k i : ℕ) → j < positions t → k < positions t → In i (blocks p (area_of t)) → Matches p t j i → Matches p t k i → j ≡ k

module _ (p : List ℕ) (t : Table) where
  matches_pair : (k i : ℕ) → Matches p t k i → pair p t k i ≡ true
  unfolding pair
  matches_pair k i o = rw (eq-eqb _ _ o.place, o.has, eq-eqb _ _ o.held)

  pair_matches : (k i : ℕ) → kind p i ≡ kind_of t → pair p t k i ≡ true → Matches p t k i
  unfolding matches
  pair_matches k i q h = is_matches p t k i (rw (eq-eqb _ _ q) h)

  once : (i : ℕ) → block_matched p t i ≡ true → kind p i ≡ kind_of t → count (λ (k : ℕ). pair p t k i) (positions t) ≡ 1
  unfolding block_matched
  once i c q = eqb-true _ _ (unless (eqb (kind p i) (kind_of t)) _ c (eq-eqb _ _ q))

  pub matched : ((i : ℕ) → In i (blocks p (area_of t)) → block_matched p t i ≡ true) → ((k : ℕ) → k < positions t → entry_matched p t k ≡ true) → Matched p t
  unfolding entry_matched
  matched of_blocks of-entries = record {
    home = λ k l c.
        let s = any_some (matches p t k) (blocks p (area_of t)) (unless (has_block p t k) _ (of-entries k l) c) in
        (s.0, (s.1.0, is_matches p t k s.0 s.1.1));
    heir = λ i m q.
        let h : count (λ (k : ℕ). pair p t k i) (positions t) ≡ 1 = once i (of_blocks i m) q in
        let s = count_some (λ (k : ℕ). pair p t k i) (positions t) (omega arith) in
        (s.0, (s.1.0, pair_matches s.0 i q s.1.1));
    apart = λ j k i x y m v w.
        let h : count (λ (n : ℕ). pair p t n i) (positions t) ≡ 1 = once i (of_blocks i m) v.sorts in
        let two : (a c : ℕ) → a < c → c < positions t → Matches p t a i → Matches p t c i → ⊥ = λ a c l z o r. let d = count_two (λ (n : ℕ). pair p t n i) (positions t) a c l z (matches_pair a i o) (matches_pair c i r) in omega arith in
        ⊎_elim (λ l. absurd (two j k l y v w)) (λ (l : k ≤ j). ⊎_elim (λ (z : k < j). absurd (two k j z x w v)) (λ (z : j ≤ k). omega arith) (lt_or_ge k j)) (lt_or_ge j k);
  }

  -- the other way round: what matches one to one keeps both rules
  pub matched_entries : Matched p t → (k : ℕ) → k < positions t → entry_matched p t k ≡ true
  unfolding entry_matched
  matched_entries M k l = go (has_block p t k) refl
    where
      go : (b : Bool) → has_block p t k ≡ b → not b || any (matches p t k) (blocks p (area_of t)) ≡ true
      go true c = let h = M.home k l c in some_any (matches p t k) (blocks p (area_of t)) h.0 h.1.0 (matches_is p t k h.0 h.1.1)
      go false c = refl

  pub matched_blocks : Matched p t → (i : ℕ) → In i (blocks p (area_of t)) → block_matched p t i ≡ true
  unfolding block_matched
  matched_blocks M i m = go (eqb (kind p i) (kind_of t)) refl
    where
      just_one : kind p i ≡ kind_of t → count (λ (k : ℕ). pair p t k i) (positions t) ≡ 1
      just_one q =
          let h = M.heir i m q in
          let a = count_at (λ (k : ℕ). pair p t k i) (positions t) h.0 h.1.0 (matches_pair h.0 i h.1.1) in
          let b = at_most_one (λ (k : ℕ). pair p t k i) (positions t) (λ j k x y v w. M.apart j k i x y m (pair_matches j i q v) (pair_matches k i q w)) in
          omega arith
        where
          at_most_one : (f : ℕ → Bool) (n : ℕ) → ((j k : ℕ) → j < n → k < n → f j ≡ true → f k ≡ true → j ≡ k) → count f n ≤ 1
          at_most_one f zero h = omega arith
          at_most_one f (suc n) h = step (f n) refl (at_most_one f n (λ j k x y. h j k (omega arith) (omega arith)))
            where
              step : (b : Bool) → f n ≡ b → count f n ≤ 1 → count f n + one b ≤ 1
              step true e r = ⊎_elim
                  (λ (l : 0 < count f n). let s = count_some f n l in let z = h s.0 n (omega (arith, s.1.0)) (omega arith) s.1.1 e in absurd (omega (arith, s.1.0)))
                  (λ (l : count f n ≤ 0). omega arith)
                  (lt_or_ge 0 (count f n))
              step false e r = omega arith

      go : (b : Bool) → eqb (kind p i) (kind_of t) ≡ b → not b || eqb (count (λ (k : ℕ). pair p t k i) (positions t)) 1 ≡ true
      go true e = eq-eqb _ _ (just_one (eqb-true _ _ e))
      go false e = refl

-- two entries never share a base
pub apart_base : (p : List ℕ) (t : Table) (j k : ℕ) → Matched p t → j < positions t → k < positions t → has_block p t j ≡ true → has_block p t k ≡ true → base p t j ≡ base p t k → j ≡ k
apart_base p t j k m x y c d q =
    let v = m.home j x c in
    let w = m.home k y d in
    let f = v.1.1.place in
    let g = w.1.1.place in
    let z : w.0 ≡ v.0 = omega arith in
    m.apart j k v.0 x y v.1.0 v.1.1 (subst (λ (i : ℕ). Matches p t k i) z w.1.1)
