-- The longest waits, computed.
use Prim.Native.Nat.{ℕ, zero, suc, ◌+◌, ◌-◌}
use mathlib.Core.Path.{◌≡◌, refl, sym, ◌∙◌}
use mathlib.Core.Logic.{⊎_elim}
use mathlib.Core.Bool.{Bool, true, false, ◌||◌, ◌&&◌, false≢true}
use mathlib.Core.List.Memᴰ
use mathlib.Core.List.{List, [], ◌∷◌, Memᴰ}
use lib.Dec.{leb, eqb}
use lib.ListN.{length}
use borrow.Author.Tests.{eqb-true, eq-eqb, leb-true}
use Rattle.words.specs.Each.{every, any}
use Rattle.words.proofs.Each.{every_at}
use Rattle.words.proofs.Tests.{both, failing}
use Rattle.picture.specs.Layout.{positions}
use Rattle.picture.specs.Records.{slot, number, priority, accumulated, ready, with_members}
use Rattle.picture.specs.declared.Table.TheVariants.{Jobs}
use Rattle.picture.specs.Layout.{greatest_priority}
use Rattle.turns.specs.Fields.{set_each}
use Rattle.turns.specs.Pick.{preferred, chosen_below, chosen_job, accumulated_after, turn_given, picked, picked_number}
use Rattle.law_picks.specs.Stretch.{Orderly, Stands, Stretch, over, pick, pick_bound}
use Rattle.law_picks.specs.Bench.{set_up, answers, full_house, last_position, last_number, WaitsAsLong}
use Rattle.law_picks.proofs.Kept.{pick_keeps_orderly, pick_keeps_standing}

-- picks with nothing between them are a stretch for any job that stands at the first
pub picks_alone : (n j g k : ℕ) (p : List ℕ) → Orderly p → Stands n j g p → Stretch n j g p (answers k p)
unfolding answers
picks_alone n j g zero p ok s = over
picks_alone n j g (suc k) p ok s = pick ok s (picks_alone n j g k (picked p) (pick_keeps_orderly p ok) (pick_keeps_standing n j g p s))

-- what is orderly, as a test that is computed
abbrev whole? : List ℕ → Bool
whole? p = leb (slot Jobs (positions Jobs)) (length p)

abbrev idle? : List ℕ → ℕ → Bool
idle? p i = ready p i || eqb (accumulated p i) 0

abbrev low? : List ℕ → ℕ → Bool
low? p i = leb (priority p i) greatest_priority

abbrev orderly? : List ℕ → Bool
orderly? p = whole? p && (every (idle? p) (positions Jobs) && every (low? p) (positions Jobs))

orderly_by : (p : List ℕ) → orderly? p ≡ true → Orderly p
orderly_by p h =
    let a = both (whole? p) (every (idle? p) (positions Jobs) && every (low? p) (positions Jobs)) h in
    let b = both (every (idle? p) (positions Jobs)) (every (low? p) (positions Jobs)) a.1 in
    record {
      whole = leb-true (slot Jobs (positions Jobs)) (length p) a.0;
      idle = λ i l e. eqb-true (accumulated p i) 0 (failing (ready p i) (eqb (accumulated p i) 0) (every_at (idle? p) (positions Jobs) b.0 i l) e);
      low = λ i l. leb-true (priority p i) greatest_priority (every_at (low? p) (positions Jobs) b.1 i l);
    }

-- who is not found is not there
not_there : (n : ℕ) (l : List ℕ) → any (eqb n) l ≡ false → Memᴰ n l → ⊥
not_there n [] h x = Memᴰ.not-nil x
not_there n (y ∷ l) h x = ⊎_elim (λ e. false≢true (sym (left (eqb n y) h) ∙ eq-eqb n y e)) (λ w. not_there n l (right (eqb n y) h) w) (Memᴰ.cases_cons x)
  where
    left : (b : Bool) → b || any (eqb n) l ≡ false → b ≡ false
    left true e = e
    left false e = refl

    right : (b : Bool) → b || any (eqb n) l ≡ false → any (eqb n) l ≡ false
    right true e = absurd (false≢true (sym e))
    right false e = e

-- a wait, from tests that are computed
waits : (g : ℕ) → orderly? (full_house g) ≡ true → number (full_house g) Jobs last_position ≡ last_number → ready (full_house g) last_position ≡ true → priority (full_house g) last_position ≡ g → any (eqb last_number) (answers (pick_bound g - 1) (full_house g)) ≡ false → WaitsAsLong g
waits g a b c d e =
    (picks_alone last_number last_position g (pick_bound g - 1) (full_house g) (orderly_by (full_house g) a) (record { names = b; is_ready = c; at = d }), not_there last_number (answers (pick_bound g - 1) (full_house g)) e)

-- at priority 127 the last job of a full house waits 31 picks
pub waits_31_picks_at_127 : WaitsAsLong 127
unfolding set_up with_members answers preferred chosen_below chosen_job accumulated_after turn_given picked picked_number set_each ready
waits_31_picks_at_127 = waits 127 refl refl refl refl refl
