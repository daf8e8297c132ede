-- Writes to the record of a job in use, and to longword 1: each is steady, and reads behind it say what was written.
use Prim.Native.Nat.{ℕ, ◌+◌, ◌*◌, ◌≤◌, ◌<◌}
use mathlib.Core.Path.{◌≡◌, refl, sym, ap, ◌∙◌, subst}
use mathlib.Core.Logic.{◌⊎◌, inl, inr, by_cases}
use native.Mathlib.Decide.{ℕ_discrete}
use mathlib.Core.Bool.{Bool, true, false}
use mathlib.Core.List.{List}
use native.Mathlib.Omega.{arith}
use lib.ListN.{length, get_or, set, length-set}
use lib.Seq.{get_or-set_same, get_or-set_other}
use Rattle.words.specs.Words.{word, put}
use Rattle.words.proofs.Tests.{false_true}
use Rattle.picture.specs.Layout.{nobody, current_word, heap_base, positions, width, first_record}
use Rattle.picture.specs.Records.{slot, field, used, with_field}
use Rattle.picture.specs.declared.Table.TheVariants.{Jobs, Channels}
use Rattle.picture.proofs.Records.{used_below}
use Rattle.calls.specs.Writes.{with_nobody}
use Rattle.sound_facts.proofs.Sound.{Sizes, Current, Sound}
use Rattle.law_steady.proofs.Steady.{first_turning, Steady, Turning, Alike, alike_turning, steady_sound_by, steady_still, steady_then, steady_used}

-- what a write of a field leaves, and what it writes
pub field_kept : (p : List ℕ) (j k f g v : ℕ) → f < width Jobs → g < width Jobs → (f ≡ g → ⊥) → field (with_field p Jobs k g v) Jobs j f ≡ field p Jobs j f
field_kept p j k f g v l m n = get_or-set_other p (slot Jobs k + g) (slot Jobs j + f) v 0 (λ e. n (omega arith))

pub field_elsewhere : (p : List ℕ) (j k f g v : ℕ) → f < width Jobs → g < width Jobs → (j ≡ k → ⊥) → field (with_field p Jobs k g v) Jobs j f ≡ field p Jobs j f
field_elsewhere p j k f g v l m n = get_or-set_other p (slot Jobs k + g) (slot Jobs j + f) v 0 (λ e. n (omega arith))

pub field_written : (p : List ℕ) (k f v : ℕ) → slot Jobs k + f < length p → field (with_field p Jobs k f v) Jobs k f ≡ v
field_written p k f v l = get_or-set_same p (slot Jobs k + f) v 0 l

pub field_nobody : (p : List ℕ) (k f : ℕ) → field (with_nobody p) Jobs k f ≡ field p Jobs k f
field_nobody p k f = get_or-set_other p current_word (slot Jobs k + f) nobody 0 (λ e. omega arith)

-- a write to longword 1 is steady, whoever becomes current
pub steady_current : (p : List ℕ) (v : ℕ) → Steady p (put p current_word v)
steady_current p v = record {
  long = simp length-set;
  before = λ i l n. get_or-set_other p current_word i v 0 n;
  fields = λ k f l m. get_or-set_other p current_word (slot Jobs k + f) v 0 (λ e. omega arith);
  unused = λ k f l m u. get_or-set_other p current_word (slot Jobs k + f) v 0 (λ e. omega arith);
  after = λ i l. get_or-set_other p current_word i v 0 (λ e. omega arith);
}

-- a write to one of the fields 3 to 7 of a record in use is steady
pub steady_field_write : (p : List ℕ) (k f v : ℕ) → used p Jobs k ≡ true → first_turning ≤ f → f < width Jobs → Steady p (with_field p Jobs k f v)
steady_field_write p k f v u a b =
    let w = used_below p Jobs k u in
    record {
      long = simp length-set;
      before = λ i l n. get_or-set_other p (slot Jobs k + f) i v 0 (λ e. omega arith);
      fields = λ j g l m. get_or-set_other p (slot Jobs k + f) (slot Jobs j + g) v 0 (λ e. omega arith);
      unused = λ j g l m n. field_elsewhere p j k g f v m b (λ e. apart j n e);
      after = λ i l. get_or-set_other p (slot Jobs k + f) i v 0 (λ e. omega arith);
    }
  where
    apart : (j : ℕ) → used p Jobs j ≡ false → j ≡ k → ⊥
    apart j n e = false_true (sym n ∙ ap (used p Jobs) e ∙ u)

-- q is p but for longword 1 and fields 3 to 7 of the record of position k, in use
pub record Written (p q : List ℕ) (k : ℕ) : Type 0 where
  pub held : used p Jobs k ≡ true
  pub steady : Steady p q
  pub others : (j : ℕ) → (j ≡ k → ⊥) → Alike p q j

pub written_none : (p : List ℕ) (k : ℕ) → used p Jobs k ≡ true → Written p p k
written_none p k u = record { held = u; steady = steady_still p; others = λ j n f l. refl }

pub written_field : (p q : List ℕ) (k f v : ℕ) → first_turning ≤ f → f < width Jobs → Written p q k → Written p (with_field q Jobs k f v) k
written_field p q k f v a b w = record {
  held = w.held;
  steady = steady_then p q (with_field q Jobs k f v) w.steady (steady_field_write q k f v (steady_used p q w.steady Jobs k ∙ w.held) a b);
  others = λ j n g l. field_elsewhere q j k g f v l b n ∙ w.others j n g l;
}

-- a field read behind its write
pub written_reads : (p q : List ℕ) (k f v : ℕ) → heap_base ≤ length p → f < width Jobs → Written p q k → field (with_field q Jobs k f v) Jobs k f ≡ v
written_reads p q k f v l m w =
    let b = used_below p Jobs k w.held in
    let z = w.steady.long in
    field_written q k f v (omega arith)

pub written_current : (p q : List ℕ) (k v : ℕ) → Written p q k → Written p (put q current_word v) k
written_current p q k v w = record {
  held = w.held;
  steady = steady_then p q (put q current_word v) w.steady (steady_current q v);
  others = λ j n g l. get_or-set_other q current_word (slot Jobs j + g) v 0 (λ e. omega arith) ∙ w.others j n g l;
}

-- a picture whose one changed record is fine is sound again
pub written_sound : (p q : List ℕ) (k : ℕ) → Sound p → Written p q k → Turning q k → Current q → Sound q
written_sound p q k S w T c = steady_sound_by p q w.steady S (λ j l. by_cases (ℕ_discrete j k) (λ (e : j ≡ k). inr (subst (Turning q) (sym e) T)) (λ n. inl (w.others j n))) c

-- and so it is with nobody current
pub nobody_current : (p q : List ℕ) → Sound p → Steady p q → Current (with_nobody q)
nobody_current p q S s = let l = S.sizes.least in let z = s.long in inl (get_or-set_same q current_word nobody 0 (omega arith))

pub written_nobody_sound : (p q : List ℕ) (k : ℕ) → Sound p → Written p q k → Turning q k → Sound (with_nobody q)
written_nobody_sound p q k S w T =
    written_sound p (with_nobody q) k S (written_current p q k nobody w)
    (alike_turning q (with_nobody q) (steady_current q nobody) k (used_below p Jobs k w.held) (λ f l. field_nobody q k f) T)
    (nobody_current p q S w.steady)

pub nobody_sound : (p : List ℕ) → Sound p → Sound (with_nobody p)
nobody_sound p S = steady_sound_by p (with_nobody p) (steady_current p nobody) S (λ k l. inl (λ f m. field_nobody p k f)) (nobody_current p p S (steady_still p))
