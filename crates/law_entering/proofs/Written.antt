-- The longwords of a picture in which an entry was made.
use Prim.Native.Nat.{ℕ, ◌+◌, ◌≤◌, ◌<◌}
use mathlib.Core.Path.{◌≡◌, ap, ◌∙◌, subst}
use mathlib.Core.Logic.{⊎_elim, ◌⊎◌, inl, inr}
use mathlib.Core.List.{List}
use lib.ListN.{length, length-set}
use lib.Seq.{get_or-set_same, get_or-set_other}
use native.Mathlib.Omega.{arith}
use Rattle.words.specs.Words.{word, put, clear}
use Rattle.words.proofs.Words.{length_clear}
use Rattle.picture.specs.Layout.{heap_base, positions, width, first_record, last_word, first_job}
use Rattle.picture.specs.Records.{slot, field, number, owner, base, base_field, number_field, owner_field, members, with_members}
use Rattle.picture.specs.Numbers.{number_of}
use Rattle.picture.specs.declared.Table.{Table}
use Rattle.picture.specs.declared.Table.TheVariants.{Jobs, Channels}
use Rattle.picture.proofs.Records.{slot_within}
use Rattle.picture.proofs.Members.{Holds, Spares, holds_low, spares_past, spares_last, members_same, length_with_members, with_members_other, members_with}
use Rattle.headers.specs.Header.{Outside}
use Rattle.law_areas.proofs.Clear.{clear_other, clear_zeros}
use Rattle.masks.specs.Masks.{with_bit}
use Rattle.entering.specs.Entry.{recorded, counted, entered}
use Rattle.law_blocks.proofs.Tables.{TablesSame, mask_same}

-- q is p with the entry of tag g at position k of the table t, of owner o and base b
pub record Entered (p q : List ℕ) (t : Table) (k g o b : ℕ) : Type 0 where
  pub long : length q ≡ length p
  pub other : (j : ℕ) → j < heap_base → Outside (slot t k) (slot t k + width t) j → Spares t j → (j ≡ last_word t → ⊥) → word q j ≡ word p j
  pub its_number : number q t k ≡ number_of g k
  pub its_owner : owner q t k ≡ o
  pub its_base : base q t k ≡ b
  pub its_rest : (f : ℕ) → base_field < f → f < width t → field q t k f ≡ 0
  pub mask : members q t ≡ with_bit (members p t) k
  pub last : word q (last_word t) ≡ g

-- a record of w longwords at s that holds n, o and b
module _ (p : List ℕ) (s w n o b : ℕ) (wide : base_field < w) (inside : s + w ≤ length p) where
  abbrev cleared : List ℕ
  cleared = clear w p s

  abbrev row : List ℕ
  row = put (put (put (clear w p s) (s + number_field) n) (s + owner_field) o) (s + base_field) b

  row_long : length row ≡ length p
  row_long = simp length-set (length_clear w p s)

  row_other : (j : ℕ) → Outside s (s + w) j → word row j ≡ word p j
  row_other j h =
      let x : (f : ℕ) → f ≤ base_field → j ≡ s + f → ⊥ = λ f l e. ⊎_elim (λ (a : j < s). omega arith) (λ (a : s + w ≤ j). omega arith) h in
      get_or-set_other (put (put cleared (s + number_field) n) (s + owner_field) o) (s + base_field) j b 0 (x base_field (omega arith))
      ∙ get_or-set_other (put cleared (s + number_field) n) (s + owner_field) j o 0 (x owner_field (omega arith))
      ∙ get_or-set_other cleared (s + number_field) j n 0 (x number_field (omega arith))
      ∙ clear_other w p s j h

  row_first : word row (s + number_field) ≡ n
  row_first =
      get_or-set_other (put (put cleared (s + number_field) n) (s + owner_field) o) (s + base_field) (s + number_field) b 0 (λ e. omega arith)
      ∙ get_or-set_other (put cleared (s + number_field) n) (s + owner_field) (s + number_field) o 0 (λ e. omega arith)
      ∙ get_or-set_same cleared (s + number_field) n 0 (rw (length_clear w p s) (omega arith))

  row_second : word row (s + owner_field) ≡ o
  row_second =
      get_or-set_other (put (put cleared (s + number_field) n) (s + owner_field) o) (s + base_field) (s + owner_field) b 0 (λ e. omega arith)
      ∙ get_or-set_same (put cleared (s + number_field) n) (s + owner_field) o 0 (simp length-set (rw (length_clear w p s) (omega arith)))

  row_third : word row (s + base_field) ≡ b
  row_third = get_or-set_same (put (put cleared (s + number_field) n) (s + owner_field) o) (s + base_field) b 0 (simp length-set (rw (length_clear w p s) (omega arith)))

  row_rest : (f : ℕ) → base_field < f → f < w → word row (s + f) ≡ 0
  row_rest f l m =
      get_or-set_other (put (put cleared (s + number_field) n) (s + owner_field) o) (s + base_field) (s + f) b 0 (λ e. omega arith)
      ∙ get_or-set_other (put cleared (s + number_field) n) (s + owner_field) (s + f) o 0 (λ e. omega arith)
      ∙ get_or-set_other cleared (s + number_field) (s + f) n 0 (λ e. omega arith)
      ∙ clear_zeros w p s (s + f) inside (omega arith) (omega arith)

-- where the records and the last tag stand
pub record Places (t : Table) : Type 0 where
  pub wide : base_field < width t
  pub after : first_job ≤ first_record t
  pub last_low : last_word t < first_job

pub places : (t : Table) → Places t
places Jobs = record { wide = omega arith; after = omega arith; last_low = omega arith }
places Channels = record { wide = omega arith; after = omega arith; last_low = omega arith }

module _ (p : List ℕ) (t : Table) (k g o b : ℕ) (there : k < positions t) (whole : heap_base ≤ length p) where
  fits : slot t k + width t ≤ length p
  fits = let h = slot_within t k there in omega arith

  abbrev R : List ℕ
  R = recorded p t k (number_of g k) o b

  abbrev Q : List ℕ
  Q = entered p t k g o b

  R_long : length R ≡ length p
  unfolding recorded
  R_long = row_long p (slot t k) (width t) (number_of g k) o b (places t).wide fits

  R_other : (j : ℕ) → Outside (slot t k) (slot t k + width t) j → word R j ≡ word p j
  unfolding recorded
  R_other = row_other p (slot t k) (width t) (number_of g k) o b (places t).wide fits

  Q_long : length Q ≡ length p
  unfolding entered counted
  Q_long = simp length-set (length_with_members R t (with_bit (members R t) k) ∙ R_long)

  -- past the mask and the last tag
  Q_past : (j : ℕ) → Spares t j → (j ≡ last_word t → ⊥) → word Q j ≡ word R j
  unfolding entered counted
  Q_past j m l = get_or-set_other (with_members R t (with_bit (members R t) k)) (last_word t) j g 0 l ∙ with_members_other R t (with_bit (members R t) k) j m

  Q_above : (j : ℕ) → first_job ≤ j → word Q j ≡ word R j
  Q_above j l = let c = (places t).last_low in Q_past j (spares_past t j l) (λ e. omega arith)

  of_record : (f : ℕ) → word Q (slot t k + f) ≡ word R (slot t k + f)
  of_record f = let a = (places t).after in Q_above (slot t k + f) (omega arith)

  Q_number : number Q t k ≡ number_of g k
  unfolding recorded
  Q_number = of_record number_field ∙ row_first p (slot t k) (width t) (number_of g k) o b (places t).wide fits

  Q_owner : owner Q t k ≡ o
  unfolding recorded
  Q_owner = of_record owner_field ∙ row_second p (slot t k) (width t) (number_of g k) o b (places t).wide fits

  Q_base : base Q t k ≡ b
  unfolding recorded
  Q_base = of_record base_field ∙ row_third p (slot t k) (width t) (number_of g k) o b (places t).wide fits

  Q_rest : (f : ℕ) → base_field < f → f < width t → field Q t k f ≡ 0
  unfolding recorded
  Q_rest f l m = of_record f ∙ row_rest p (slot t k) (width t) (number_of g k) o b (places t).wide fits f l m

  Q_mask : members Q t ≡ with_bit (members p t) k
  unfolding entered counted
  Q_mask =
      let c = (places t).after in
      members_same (with_members R t (with_bit (members R t) k)) Q t (λ j h. get_or-set_other (with_members R t (with_bit (members R t) k)) (last_word t) j g 0 (λ e. spares_last t t (subst (Holds t) e h)))
      ∙ members_with R t (with_bit (members R t) k) (rw R_long (omega arith))
      ∙ ap (λ (x : ℕ). with_bit x k) (members_same p R t (λ j h. let l = holds_low t j h in R_other j (inl (omega arith))))

  Q_last : word Q (last_word t) ≡ g
  unfolding entered counted
  Q_last = let a = (places t).last_low in get_or-set_same (with_members R t (with_bit (members R t) k)) (last_word t) g 0 (rw (length_with_members R t (with_bit (members R t) k), R_long) (omega arith))

  pub entered_is : Entered p (entered p t k g o b) t k g o b
  entered_is = record {
    long = Q_long;
    other = λ j l h m n. Q_past j m n ∙ R_other j h;
    its_number = Q_number;
    its_owner = Q_owner;
    its_base = Q_base;
    its_rest = Q_rest;
    mask = Q_mask;
    last = Q_last;
  }

  -- the heap and the transient area are as they were
  pub entering_keeps_the_areas : (j : ℕ) → heap_base ≤ j → word (entered p t k g o b) j ≡ word p j
  entering_keeps_the_areas j l = let h = slot_within t k there in Q_above j (omega arith) ∙ R_other j (inr (omega arith))

-- entering after a change that kept the tables
pub entered_after : (p r q : List ℕ) (t : Table) (k g o b : ℕ) → TablesSame p r → Entered r q t k g o b → Entered p q t k g o b
entered_after p r q t k g o b s E = record {
  long = E.long ∙ s.long;
  other = λ j l h m n. E.other j l h m n ∙ s.words j l;
  its_number = E.its_number;
  its_owner = E.its_owner;
  its_base = E.its_base;
  its_rest = E.its_rest;
  mask = E.mask ∙ ap (λ (x : ℕ). with_bit x k) (mask_same p r s t);
  last = E.last;
}
