-- The longwords of a picture in which an entry was forgotten.
use Prim.Native.Nat.{ℕ, ◌+◌, ◌*◌, ◌≤◌, ◌<◌}
use mathlib.Core.Path.{◌≡◌, refl, sym, ap, ◌∙◌}
use mathlib.Core.Logic.{⊎_elim, ◌⊎◌, inl, inr}
use mathlib.Core.List.{List}
use lib.ListN.{length, length-set}
use lib.Seq.{get_or-set_same, get_or-set_other}
use native.Mathlib.Omega.{arith}
use Rattle.words.specs.Words.{word, put, clear}
use Rattle.words.proofs.Words.{length_clear}
use Rattle.picture.specs.Layout.{heap_base, positions, width, first_record}
use Rattle.picture.specs.Records.{slot, field, members}
use Rattle.picture.specs.declared.Table.{Table}
use Rattle.picture.proofs.Records.{slot_within}
use Rattle.picture.proofs.Members.{Spares, spares_past, length_with_members, with_members_other, members_with}
use Rattle.headers.specs.Header.{Outside}
use Rattle.law_areas.proofs.Clear.{clear_other, clear_zeros}
use Rattle.masks.specs.Masks.{without_bit}
use Rattle.law_entering.proofs.Written.{Places, places}
use Rattle.channels.specs.Effects.{forgotten}

-- q is p without the entry at position k of the table t
pub record Forgotten (p q : List ℕ) (t : Table) (k : ℕ) : Type 0 where
  pub long : length q ≡ length p
  pub other : (j : ℕ) → Outside (slot t k) (slot t k + width t) j → Spares t j → word q j ≡ word p j
  pub its_fields : (f : ℕ) → f < width t → field q t k f ≡ 0
  pub mask : members q t ≡ without_bit (members p t) k

module _ (p : List ℕ) (t : Table) (k : ℕ) (there : k < positions t) (whole : heap_base ≤ length p) where
  abbrev blank : List ℕ
  blank = clear (width t) p (slot t k)

  abbrev left : ℕ
  left = without_bit (members p t) k

  fits : slot t k + width t ≤ length p
  fits = let h = slot_within t k there in omega arith

  pub forgotten_is : Forgotten p (forgotten p t k) t k
  unfolding forgotten
  forgotten_is = record {
    long = length_with_members blank t left ∙ length_clear (width t) p (slot t k);
    other = λ j h n. with_members_other blank t left j n ∙ clear_other (width t) p (slot t k) j h;
    its_fields = λ f l.
        let b = (places t).after in
        with_members_other blank t left (slot t k + f) (spares_past t (slot t k + f) (omega arith)) ∙ clear_zeros (width t) p (slot t k) (slot t k + f) fits (omega arith) (omega arith);
    mask = members_with blank t left (rw (length_clear (width t) p (slot t k)) (omega arith));
  }
