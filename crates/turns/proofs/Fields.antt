-- Laws of specs/Fields.antt: what setting a field of each record changes.
use Prim.Native.Nat.{ℕ, zero, suc, ◌+◌, ◌≤◌, ◌<◌}
use native.Mathlib.Nat.{eq-or-lt_of_le, le_of_suc-le-suc, not-suc-le-zero}
use native.Mathlib.Numerals.{add-one}
use native.Mathlib.Omega.{arith}
use mathlib.Core.Path.{◌≡◌, refl, sym, ◌∙◌, subst}
use mathlib.Core.Logic.{◌≢◌, ⊎_elim}
use mathlib.Core.List.{List}
use lib.ListN.{length, length-set}
use lib.Seq.{get_or-set_same, get_or-set_other}
use Rattle.words.specs.Words.{word, put}
use Rattle.picture.specs.Layout.{width}
use Rattle.picture.specs.Records.{slot, field}
use Rattle.picture.specs.declared.Table.TheVariants.{Jobs}
use Rattle.turns.specs.Fields.{set_each}

module _ (p : List ℕ) (f : ℕ) (v : ℕ → ℕ) where
  -- the picture is as long as it was
  pub length_set_each : (n : ℕ) → length (set_each p f v n) ≡ length p
  unfolding set_each
  length_set_each zero = refl
  length_set_each (suc n) = length-set (set_each p f v n) (slot Jobs n + f) (v n) ∙ length_set_each n

  -- a longword that is no such field is as it was
  pub set_each_other : (n i : ℕ) → ((k : ℕ) → k < n → i ≢ slot Jobs k + f) → word (set_each p f v n) i ≡ word p i
  unfolding set_each
  set_each_other zero i h = refl
  set_each_other (suc n) i h =
      get_or-set_other (set_each p f v n) (slot Jobs n + f) i (v n) 0 (h n (omega arith)) ∙ set_each_other n i (λ k l. h k (omega arith))

  module _ (inside : f < width Jobs) where
    -- another field is as it was, and so are the records from n on
    pub other_field_stays : (n k g : ℕ) → g < width Jobs → g ≢ f → field (set_each p f v n) Jobs k g ≡ field p Jobs k g
    other_field_stays n k g gw ne = set_each_other n (slot Jobs k + g) (λ j l e. ne (omega arith))

    pub later_record_stays : (n k g : ℕ) → g < width Jobs → n ≤ k → field (set_each p f v n) Jobs k g ≡ field p Jobs k g
    later_record_stays n k g gw le = set_each_other n (slot Jobs k + g) (λ j l e. omega arith)

    -- the field of each record below n is what it was set to
    pub set_each_at : (n k : ℕ) → k < n → slot Jobs n ≤ length p → field (set_each p f v n) Jobs k f ≡ v k
    unfolding set_each
    set_each_at zero k l h = absurd (not-suc-le-zero l)
    set_each_at (suc n) k l h =
        ⊎_elim
        (λ e.
        let w : slot Jobs n + f < length (set_each p f v n) = omega (arith, length_set_each n) in
        subst (λ (x : ℕ). field (put (set_each p f v n) (slot Jobs n + f) (v n)) Jobs x f ≡ v x) (sym e)
        (get_or-set_same (set_each p f v n) (slot Jobs n + f) (v n) 0 w))
        (λ m. get_or-set_other (set_each p f v n) (slot Jobs n + f) (slot Jobs k + f) (v n) 0 (λ e. omega arith) ∙ set_each_at n k m (omega arith))
        (eq-or-lt_of_le (le_of_suc-le-suc l))

  -- a loop that sets one record after another
  pub set_each_next : (q : List ℕ) (k x : ℕ) → q ≡ set_each p f v k → x ≡ v k → put q (slot Jobs k + f) x ≡ set_each p f v (k + 1)
  unfolding set_each
  set_each_next q k x e g = rw (add-one, e, g)

  -- no record is set
  pub set_each_none : p ≡ set_each p f v 0
  unfolding set_each
  set_each_none = refl
