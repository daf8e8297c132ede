-- The walk over a table, a record at a time.
use Prim.Native.Nat.{ℕ, ◌+◌, ◌-◌, ◌%◌, ◌≤◌, ◌<◌}
use mathlib.Core.Path.{◌≡◌, refl, sym, ap, ◌∙◌}
use mathlib.Core.Bool.{Bool, true, false, ◌&&◌, ◌||◌, not, cond}
use mathlib.Core.Logic.{⊎_elim, ◌⊎◌, inl, inr}
use mathlib.Core.List.{List}
use native.Mathlib.Nat.{eq-or-lt_of_le}
use native.Mathlib.Omega.{arith}
use lib.Dec.{leb, ltb, eqb}
use lib.ListN.{length, get_or, set, length-set}
use lib.Seq.{get_or-set_same, get_or-set_other}
use borrow.Author.Tests.{eqb-true, eqb-false, ltb-true, lt-ltb}
use Rattle.words.specs.Each.{every, one, count}
use Rattle.words.proofs.Tests.{false_true, fails_right}
use Rattle.words.proofs.Each.{every_at, every_by, every_not, every_next, count_next}
use Rattle.picture.specs.Layout.{positions}
use Rattle.picture.specs.Records.{number, used}
use Rattle.picture.specs.Numbers.{tag}
use Rattle.picture.specs.declared.Table.{Table}
use Rattle.sound_matching.specs.Match.{first, has_block}
use Rattle.std.specs.Prelude.{Some, None}
use mir.Val.{bool_byte}
use Rattle.sound_matching.proofs.Converted.{one_converted, one_small}
use Rattle.sound_records.specs.Rules.{tags_differ, tag_once}
use Rattle.sound_records.proofs.Used.{has_block_used}
use Rattle.sound_entries.specs.declared.Note.{Note}
use Rattle.sound_entries.specs.declared.Note.TheVariants.{Nothing, At, Several}
use Rattle.sound_entries.specs.Entries.{live_fine, blank_fine, note_of, told_once, noted_too, with_note, record_fine, entries_walked}

module _ (p : List ℕ) (t : Table) where
  -- the last six bits of the tag at position j
  abbrev pub low : ℕ → ℕ
  low j = tag (number p t j) % 64

  -- the records below k are fine, n of them have a block, and under the low bits of every tag in use its position is noted, or that there are several
  pub record Passed (k n : ℕ) (seen : List Note) : Type 0 where
    pub few : n ≤ k
    pub fine : every (record_fine p t) k ≡ true
    pub count : n ≡ count (has_block p t) k
    pub room : length seen ≡ 64
    pub noted : (j : ℕ) → j < k → used p t j ≡ true → (get_or seen (low j) Nothing ≡ At j) ⊎ (get_or seen (low j) Nothing ≡ Several)

  pub passed_none : (seen : List Note) → length seen ≡ 64 → Passed 0 0 seen
  passed_none seen r = record { few = omega arith; fine = refl; count = refl; room = r; noted = λ j l u. absurd (omega arith) }

  blank_record : (k : ℕ) → used p t k ≡ false → record_fine p t k ≡ blank_fine p t k
  unfolding record_fine
  blank_record k u = rw u

  live_record : (k : ℕ) → used p t k ≡ true → record_fine p t k ≡ live_fine p t k && tag_once p t k
  unfolding record_fine
  live_record k u = rw u

  -- a lower position differs where it does so if it is in use and has the same tag
  differs_by : (k j : ℕ) → (used p t j ≡ true → tag (number p t j) ≡ tag (number p t k) → tags_differ p t k j ≡ true) → tags_differ p t k j ≡ true
  unfolding tags_differ
  differs_by k j f = go (used p t j) refl (eqb (tag (number p t j)) (tag (number p t k))) refl
    where
      go : (a : Bool) → used p t j ≡ a → (b : Bool) → eqb (tag (number p t j)) (tag (number p t k)) ≡ b → not a || not b ≡ true
      go false v b w = refl
      go true v false w = refl
      go true v true w = rw (v, w) at (f v (eqb-true _ _ w))

  -- the tag at k is used once: what is told by its note is told of every lower position that has the same bits
  once : (k n : ℕ) (seen : List Note) → Passed k n seen → used p t k ≡ true → told_once p t k (note_of p t k seen) ≡ true → tag_once p t k ≡ true
  unfolding tag_once told_once
  once k n seen q u h = rw u (every_by (tags_differ p t k) k (λ j l. differs_by k j (told j l)))
    where
      -- the note of j is that of k
      same_note : (j : ℕ) (n : Note) → tag (number p t j) ≡ tag (number p t k) → get_or seen (low j) Nothing ≡ n → get_or seen (low k) Nothing ≡ n
      same_note j n e x = ap (λ (g : ℕ). get_or seen (g % 64) Nothing) (sym e) ∙ x

      told : (j : ℕ) → j < k → used p t j ≡ true → tag (number p t j) ≡ tag (number p t k) → tags_differ p t k j ≡ true
      told j l v e = ⊎_elim
          (λ (x : get_or seen (low j) Nothing ≡ At j). rw (same_note j (At j) e x, lt-ltb j k l) at h)
          (λ (x : get_or seen (low j) Nothing ≡ Several). every_at (tags_differ p t k) k (rw (same_note j Several e x) at h) j l)
          (q.noted j l v)

  pub passed_blank : (k n : ℕ) (seen : List Note) → Passed k n seen → used p t k ≡ false → blank_fine p t k ≡ true → Passed (k + 1) n seen
  unfolding has_block
  passed_blank k n seen q u h =
      let f = q.few in
      record {
        few = omega arith;
        fine = every_next (record_fine p t) k q.fine (blank_record k u ∙ h);
        count = (let z : n ≡ n + 0 = omega arith in z) ∙ count_next (has_block p t) k n 0 q.count (sym (ap one (fails_right (leb (first t) k) (used p t k) u)));
        room = q.room;
        noted = λ j l v. ⊎_elim
            (λ (e : j ≡ k). absurd (false_true (sym u ∙ ap (used p t) (sym e) ∙ v)))
            (λ m. q.noted j m v)
            (eq-or-lt_of_le (omega arith));
      }

  pub passed_live : (k n r : ℕ) (seen : List Note) → Passed k n seen → used p t k ≡ true → live_fine p t k ≡ true → told_once p t k (note_of p t k seen) ≡ true
      → r ≡ bool_byte (leb (first t) k) → Passed (k + 1) (n + r) (with_note p t k seen)
  unfolding with_note
  passed_live k n r seen q u h o w =
      let f = q.few in
      let v = w ∙ one_converted (leb (first t) k) in
      let z = one_small (leb (first t) k) in
      record {
        few = omega arith;
        fine = every_next (record_fine p t) k q.fine (rw (live_record k u, h, once k n seen q u o));
        count = count_next (has_block p t) k n r q.count (v ∙ ap one (sym (has_block_used p t k u)));
        room = length-set seen (low k) _ ∙ q.room;
        noted = λ j l v. noted_then j l v (eqb (low j) (low k)) refl;
      }
    where
      now : Note
      now = noted_too (get_or seen (low k) Nothing) k

      -- under the bits of k: its own position where there was no note, and several where a lower position had left one
      here : (j : ℕ) → (j ≡ k) ⊎ (j < k) → used p t j ≡ true → low j ≡ low k → (b : Note) → get_or seen (low k) Nothing ≡ b → (noted_too b k ≡ At j) ⊎ (noted_too b k ≡ Several)
      here j c v e Nothing b = ⊎_elim
          (λ (i : j ≡ k). inl (ap At (sym i)))
          (λ (i : j < k).
          let y : get_or seen (low j) Nothing ≡ Nothing = ap (λ (g : ℕ). get_or seen g Nothing) e ∙ b in
          absurd (⊎_elim (λ (a : get_or seen (low j) Nothing ≡ At j). cc) (λ (a : get_or seen (low j) Nothing ≡ Several). cc) (q.noted j i v)))
          c
      here j c v e (At i) b = inr refl
      here j c v e Several b = inr refl

      noted_then : (j : ℕ) → j < k + 1 → used p t j ≡ true → (b : Bool) → eqb (low j) (low k) ≡ b → (get_or (set seen (low k) now) (low j) Nothing ≡ At j) ⊎ (get_or (set seen (low k) now) (low j) Nothing ≡ Several)
      noted_then j l v true e =
          let i = eqb-true (low j) (low k) e in
          let g : get_or (set seen (low k) now) (low j) Nothing ≡ now = ap (λ (x : ℕ). get_or (set seen (low k) now) x Nothing) i ∙ get_or-set_same seen (low k) now Nothing (rw q.room (omega arith)) in
          ⊎_elim (λ (a : now ≡ At j). inl (g ∙ a)) (λ (a : now ≡ Several). inr (g ∙ a)) (here j (eq-or-lt_of_le (omega arith)) v i (get_or seen (low k) Nothing) refl)
      noted_then j l v false e =
          let g = get_or-set_other seen (low k) (low j) now Nothing (eqb-false _ _ e) in
          ⊎_elim
          (λ (i : j ≡ k). absurd (eqb-false _ _ e (ap low i)))
          (λ i. ⊎_elim (λ (a : get_or seen (low j) Nothing ≡ At j). inl (g ∙ a)) (λ (a : get_or seen (low j) Nothing ≡ Several). inr (g ∙ a)) (q.noted j i v))
          (eq-or-lt_of_le (omega arith))

  pub passed_not : (k : ℕ) → k < positions t → record_fine p t k ≡ false → None ≡ entries_walked p t
  unfolding entries_walked
  passed_not k l h = rw (every_not (record_fine p t) (positions t) k l h)

  -- a record not in use that is not blank, one in use that breaks a rule, and one whose tag is used twice
  pub not_blank : (k : ℕ) → k < positions t → used p t k ≡ false → blank_fine p t k ≡ false → None ≡ entries_walked p t
  not_blank k l u h = passed_not k l (blank_record k u ∙ h)

  pub not_live : (k : ℕ) → k < positions t → used p t k ≡ true → live_fine p t k ≡ false → None ≡ entries_walked p t
  not_live k l u h = passed_not k l (live_record k u ∙ ap (λ (b : Bool). b && tag_once p t k) h)

  pub not_once : (k : ℕ) (note : Note) → k < positions t → used p t k ≡ true → told_once p t k note ≡ false → None ≡ entries_walked p t
  unfolding tag_once told_once
  not_once k note l u h = passed_not k l (live_record k u ∙ fails_right (live_fine p t k) (tag_once p t k) (rw u (by note h)))
    where
      by : (n : Note) → told_once p t k n ≡ false → every (tags_differ p t k) k ≡ false
      by Nothing r = absurd (false_true (sym r))
      by (At j) r = go (ltb j k) refl r
        where
          go : (b : Bool) → ltb j k ≡ b → cond b (tags_differ p t k j) (every (tags_differ p t k) k) ≡ false → every (tags_differ p t k) k ≡ false
          go true y r = every_not (tags_differ p t k) k j (ltb-true j k y) r
          go false y r = r
      by Several r = r

  pub passed_all : (k n : ℕ) (seen : List Note) → Passed k n seen → k ≡ positions t → Some n ≡ entries_walked p t
  unfolding entries_walked
  passed_all k n seen q e = rw (← e, q.fine) (ap Some q.count)
