-- A new entry at a free position, with a tag above the last one given: every other entry stays, and the rules of records hold again.
use Prim.Native.Nat.{ℕ, ◌+◌, ◌≤◌, ◌<◌}
use mathlib.Core.Path.{◌≡◌, refl, sym, ap, ◌∙◌, subst}
use mathlib.Core.Bool.{Bool, true, false}
use mathlib.Core.Logic.{⊎_elim, ◌⊎◌, inl, inr}
use mathlib.Core.List.{List}
use lib.Dec.{leb}
use native.Mathlib.Omega.{arith}
use Rattle.words.specs.Words.{word}
use Rattle.words.specs.Bits.{bit}
use Rattle.words.proofs.Tests.{both, false_true, lt_or_ge}
use Rattle.picture.specs.Layout.{positions, width, last_word, greatest_tag, first_job}
use Rattle.picture.specs.Records.{slot, field, number, owner, used, number_field, owner_field, members}
use Rattle.picture.specs.Numbers.{tag_weight, tag, position, number_of, live}
use Rattle.picture.specs.declared.Table.{Table}
use Rattle.picture.specs.declared.Table.TheVariants.{Jobs, Channels}
use Rattle.picture.proofs.Records.{slot_within, positions_named, used_below, used_is}
use Rattle.picture.proofs.Numbers.{Live, live_is, is_live}
use Rattle.picture.proofs.Members.{Holds, Spares, holds_low, spares_past, spares_last, spares_other, members_same}
use Rattle.headers.specs.Header.{Outside}
use Rattle.headers.proofs.Header.{same_or_not}
use Rattle.masks.proofs.Masks.{with_bit_here, with_bit_other}
use Rattle.sound_matching.specs.Match.{first, has_block}
use Rattle.sound_records.specs.Rules.{may_be_unowned}
use Rattle.sound_facts.proofs.Sound.{Owned, Entries}
use Rattle.sound_facts.proofs.View.{has_block_used}
use Rattle.sound_facts.proofs.Same.{live_same, Lives, owned_kept, EntriesSame}
use Rattle.sound_facts.proofs.Ages.{Ages, ages_same}
use Rattle.law_entering.proofs.Written.{Entered, Places, places}

-- the number of a tag and a position
pub number_position : (g k : ℕ) → k < tag_weight → position (number_of g k) ≡ k
number_position g k l = omega arith

pub number_tag : (g k : ℕ) → k < tag_weight → tag (number_of g k) ≡ g
number_tag g k l = omega arith

-- two tables are the same or not
pub same_table : (t u : Table) → (u ≡ t) ⊎ (u ≡ t → ⊥)
same_table Jobs Jobs = inl refl
same_table Jobs Channels = inr (λ e. absurd (let z : ◌≡◌ {A = ℕ} 0 1 = cc in omega arith))
same_table Channels Jobs = inr (λ e. absurd (let z : ◌≡◌ {A = ℕ} 0 1 = cc in omega arith))
same_table Channels Channels = inl refl

-- a field of another entry lies outside the record
away : (t u : Table) (j k f : ℕ) → j < positions u → f < width u → k < positions t → ((u ≡ t) × (j ≡ k) → ⊥) → Outside (slot t k) (slot t k + width t) (slot u j + f)
away Jobs Jobs j k f l m n x = ⊎_elim (λ (a : j < k). inl (omega arith)) (λ (a : k ≤ j). ⊎_elim (λ (c : k < j). inr (omega arith)) (λ (c : j ≤ k). absurd (x (refl, omega arith))) (lt_or_ge k j)) (lt_or_ge j k)
away Jobs Channels j k f l m n x = inr (omega arith)
away Channels Jobs j k f l m n x = inl (omega arith)
away Channels Channels j k f l m n x = ⊎_elim (λ (a : j < k). inl (omega arith)) (λ (a : k ≤ j). ⊎_elim (λ (c : k < j). inr (omega arith)) (λ (c : j ≤ k). absurd (x (refl, omega arith))) (lt_or_ge k j)) (lt_or_ge j k)

-- the last tags of two tables
other_last : (t u : Table) → (u ≡ t → ⊥) → last_word u ≡ last_word t → ⊥
other_last Jobs Jobs n e = absurd (n refl)
other_last Jobs Channels n e = omega arith
other_last Channels Jobs n e = omega arith
other_last Channels Channels n e = absurd (n refl)

module _ (p q : List ℕ) (t : Table) (k g o b : ℕ) (E : Entered p q t k g o b) (there : k < positions t) (vacant : used p t k ≡ false) where
  small : k < tag_weight
  small = let h = positions_named t in omega arith

  -- every field of another entry, and every longword before the tables but two
  pub field_other : (u : Table) (j f : ℕ) → j < positions u → f < width u → ((u ≡ t) × (j ≡ k) → ⊥) → field q u j f ≡ field p u j f
  field_other u j f l m x =
      let a = slot_within u j l in
      let c = (places u).after in
      let e = (places t).last_low in
      E.other (slot u j + f) (omega arith) (away t u j k f l m there x) (spares_past t (slot u j + f) (omega arith)) (λ z. omega arith)

  pub low_other : (j : ℕ) → j < first_job → Spares t j → (j ≡ last_word t → ⊥) → word q j ≡ word p j
  low_other j l m n = let a = (places t).after in E.other j (omega arith) (inl (omega arith)) m n

  module _ (u : Table) (n : u ≡ t → ⊥) where
    pub other_table_mask : members q u ≡ members p u
    other_table_mask = members_same p q u (λ j h. low_other j (holds_low u j h) (spares_other t u n j h) (λ e. spares_last u t (subst (Holds u) e h)))

    pub other_table_last : word q (last_word u) ≡ word p (last_word u)
    other_table_last = low_other (last_word u) (places u).last_low (spares_last t u) (other_last t u n)

    pub other_table_field : (j f : ℕ) → j < positions u → f < width u → field q u j f ≡ field p u j f
    other_table_field j f l m = field_other u j f l m (λ z. n z.0)

    other_table_number : (j : ℕ) → j < positions u → number q u j ≡ number p u j
    other_table_number j l = let w = (places u).wide in other_table_field j number_field l (omega arith)

    pub other_table_live : (m : ℕ) → live q u m ≡ live p u m
    other_table_live m = live_same p q u other_table_mask other_table_number m

  -- positions in use
  pub used_here : used q t k ≡ true
  used_here = used_is q t k there ∙ ap (λ (x : ℕ). bit x k) E.mask ∙ with_bit_here (members p t) k

  pub used_other : (j : ℕ) → j < positions t → (j ≡ k → ⊥) → used q t j ≡ used p t j
  used_other j l n = used_is q t j l ∙ ap (λ (x : ℕ). bit x j) E.mask ∙ with_bit_other (members p t) k j n ∙ sym (used_is p t j l)

  pub another : (j : ℕ) → used p t j ≡ true → j ≡ k → ⊥
  another j u e = false_true (sym vacant ∙ ap (used p t) (sym e) ∙ u)

  -- a position in use is the new one, or was in use
  pub new_or_old : (j : ℕ) → used q t j ≡ true → (j ≡ k) ⊎ ((j ≡ k → ⊥) × (used p t j ≡ true))
  new_or_old j u = ⊎_elim inl (λ n. inr (n, sym (used_other j (used_below q t j u) n) ∙ u)) (same_or_not j k)

  pub still_used : (j : ℕ) → used p t j ≡ true → used q t j ≡ true
  still_used j u = used_other j (used_below p t j u) (another j u) ∙ u

  pub field_old : (j f : ℕ) → j < positions t → f < width t → (j ≡ k → ⊥) → field q t j f ≡ field p t j f
  field_old j f l m n = field_other t j f l m (λ z. n z.1)

  number_old : (j : ℕ) → j < positions t → (j ≡ k → ⊥) → number q t j ≡ number p t j
  number_old j l n = let w = (places t).wide in field_old j number_field l (omega arith) n

  owner_old : (j : ℕ) → j < positions t → (j ≡ k → ⊥) → owner q t j ≡ owner p t j
  owner_old j l n = let w = (places t).wide in field_old j owner_field l (omega arith) n

  -- what was live is live
  pub lives_in_both : (u : Table) (m : ℕ) → live p u m ≡ true → live q u m ≡ true
  lives_in_both u m h = ⊎_elim
      (λ (e : u ≡ t). subst (λ (x : Table). live p x m ≡ true → live q x m ≡ true) (sym e) here h)
      (λ n. other_table_live u n m ∙ h)
      (same_table t u)
    where
      here : live p t m ≡ true → live q t m ≡ true
      here l =
          let v = live_is p t m l in
          is_live q t m (record { used = still_used (position m) v.used; names = number_old (position m) (used_below p t (position m) v.used) (another (position m) v.used) ∙ v.names })

  -- what was live keeps its owner
  pub owner_stays : (u : Table) (m : ℕ) → live p u m ≡ true → owner q u (position m) ≡ owner p u (position m)
  owner_stays u m l =
      let v = (live_is p u m l).used in
      let w = (places u).wide in
      field_other u (position m) owner_field (used_below p u (position m) v) (omega arith) (λ z. another (position m) (subst (λ (x : Table). used p x (position m) ≡ true) z.0 v) z.1)

  -- the new number is live
  pub new_is_live : live q t (number_of g k) ≡ true
  new_is_live =
      let e = number_position g k small in
      is_live q t (number_of g k) (record { used = ap (used q t) e ∙ used_here; names = ap (number q t) e ∙ E.its_number })

  -- what is live is the new entry, or was live
  live_new_or_old : (m : ℕ) → live q t m ≡ true → (m ≡ number_of g k) ⊎ (live p t m ≡ true)
  live_new_or_old m h =
      let v = live_is q t m h in
      ⊎_elim
      (λ (e : position m ≡ k). inl (sym v.names ∙ ap (λ (x : ℕ). number q t x) e ∙ E.its_number))
      (λ (w : (position m ≡ k → ⊥) × (used p t (position m) ≡ true)). inr (is_live p t m (record { used = w.1; names = sym (number_old (position m) (used_below p t (position m) w.1) w.0) ∙ v.names })))
      (new_or_old (position m) v.used)

  module _ (rising : word p (last_word t) < g) where
    pub entering_ages : (u : Table) → Ages p q u
    entering_ages u = ⊎_elim
        (λ (e : u ≡ t). subst (Ages p q) (sym e) (record {
          rises = rw E.last (omega arith);
          newer = λ m h. ⊎_elim (λ (z : m ≡ number_of g k). inr (let y = small in rw z (omega arith))) inl (live_new_or_old m h);
        }))
        (λ n. ages_same p q u (other_table_last u n) (other_table_mask u n) (λ j l. let w = (places u).wide in other_table_field u n j number_field l (omega arith)))
        (same_table t u)

    -- its tag is greater than any given before
    pub new_was_dead : Entries p t → live p t (number_of g k) ≡ true → ⊥
    new_was_dead F l =
        let L = live_is p t (number_of g k) l in
        let x = F.given (position (number_of g k)) L.used in
        let z : tag (number p t (position (number_of g k))) ≡ tag (number_of g k) = ap tag L.names in
        let w = number_tag g k small in
        omega arith

    pub entering_keeps_the_records : Entries p t → g ≤ greatest_tag → Owned q (may_be_unowned t) o → Entries q t
    unfolding has_block
    entering_keeps_the_records F most owned = record {
      unused = λ j f l m u. let n : j ≡ k → ⊥ = λ e. false_true (sym u ∙ ap (used q t) e ∙ used_here) in field_old j f l m n ∙ F.unused j f l m (sym (used_other j l n) ∙ u);
      place = λ j u. old j u (λ x. position (number q t x) ≡ x) (rw E.its_number (number_position g k small)) (λ n v. rw (number_old j (used_below q t j u) n) (F.place j v));
      tagged = λ j c. old j (has_block_used q t j c) (λ x. (1 ≤ tag (number q t x)) × (tag (number q t x) ≤ greatest_tag))
          (rw (E.its_number, number_tag g k small) (omega arith, most))
          (λ n v. rw (number_old j (used_below q t j (has_block_used q t j c)) n) (F.tagged j (block_matched j c v)));
      once = λ i j u v e. ⊎_elim
          (λ (x : i ≡ k). ⊎_elim (λ (y : j ≡ k). x ∙ sym y) (λ (y : (j ≡ k → ⊥) × (used p t j ≡ true)). absurd (younger j i y.1 y.0 x (sym e))) (new_or_old j v))
          (λ (x : (i ≡ k → ⊥) × (used p t i ≡ true)). ⊎_elim
          (λ (y : j ≡ k). absurd (younger i j x.1 x.0 y e))
          (λ (y : (j ≡ k → ⊥) × (used p t j ≡ true)). F.once i j x.1 y.1 (rw (number_old i (used_below p t i x.1) x.0, number_old j (used_below p t j y.1) y.0) at e))
          (new_or_old j v))
          (new_or_old i u);
      owned = λ j u. old j u (λ x. Owned q (may_be_unowned t) (owner q t x)) (rw E.its_owner owned)
          (λ n v. rw (owner_old j (used_below q t j u) n) (owned_kept p q (may_be_unowned t) (owner p t j) (lives_in_both Jobs) (F.owned j v)));
      given = λ j u. old j u (λ x. tag (number q t x) ≤ word q (last_word t))
          (rw (E.its_number, number_tag g k small, E.last) (omega arith))
          (λ n v. let y = F.given j v in rw (number_old j (used_below q t j u) n, E.last) (omega arith));
    }
      where
        -- by cases: the new entry, or an old one
        old : (j : ℕ) → used q t j ≡ true → (P : ℕ → Type 0) → P k → ((j ≡ k → ⊥) → used p t j ≡ true → P j) → P j
        old j u P here there = ⊎_elim (λ (e : j ≡ k). subst P (sym e) here) (λ v. there v.0 v.1) (new_or_old j u)

        block_matched : (j : ℕ) → has_block q t j ≡ true → used p t j ≡ true → has_block p t j ≡ true
        block_matched j c u = rw ((both (leb (first t) j) (used q t j) c).0, u)

        -- an old entry's tag is below the new one's
        younger : (i j : ℕ) → used p t i ≡ true → (i ≡ k → ⊥) → j ≡ k → tag (number q t i) ≡ tag (number q t j) → ⊥
        younger i j u n z e =
            let a = F.given i u in
            let c : tag (number q t i) ≡ tag (number p t i) = ap tag (number_old i (used_below p t i u) n) in
            let d : tag (number q t j) ≡ g = rw z (ap tag E.its_number ∙ number_tag g k small) in
            omega arith
