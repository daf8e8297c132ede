-- Demand 3: a turn that can't be lost. Each pick of a stretch is a turn of the law of turns over what the positions have accumulated;
-- the job's number is answered where its position is picked.
use Prim.Native.Nat.{ℕ, zero, suc, ◌+◌, ◌<◌, ◌≤◌}
use native.Mathlib.Omega.{arith}
use mathlib.Core.Path.{◌≡◌, refl, sym, ◌∙◌, ap}
use mathlib.Core.Logic.{◌≢◌, ⊎_elim}
use mathlib.Core.Bool.{Bool, true, false}
use mathlib.Core.List.Memᴰ
use mathlib.Core.List.{List, [], ◌∷◌, Memᴰ}
use lib.ListN.{length, take, drop}
use Rattle.picture.specs.Layout.{positions}
use Rattle.picture.specs.Records.{number, accumulated, ready}
use Rattle.picture.specs.declared.Table.TheVariants.{Jobs}
use Rattle.law_fairness.specs.Turns as law
use Rattle.law_fairness.specs.Turns.{Turn, Turns}
use Rattle.picture.specs.Layout.{greatest_priority, hold}
use Rattle.law_fairness.specs.Law.{within, InEvery}
use Rattle.law_fairness.proofs.Fair.{picked_among, length_row}
use Rattle.turns.specs.Pick.{chosen_job, accumulated_after, picked, picked_number}
use Rattle.law_picks.specs.Stretch.{Chosen, Orderly, Stands, Quiet, Stretch, over, pick, quiet, NoTurnLost}
use Rattle.law_picks.proofs.Rule.{someone_is_chosen}
use Rattle.turns.proofs.Pick.{picked_has_none, idle_keeps, ready_gains}
use Rattle.law_picks.proofs.Given.{pick_answers_the_number}
use Rattle.law_picks.proofs.Kept.{pick_accumulates}
use Rattle.law_picks.proofs.Quiet.{nothing_is_quiet, quiet_after_quiet}

module _ (n j g : ℕ) (jn : j < positions Jobs) where
  module _ (p q : List ℕ) (ok : Orderly p) (s : Stands n j g p) (still : Quiet j (picked p) q) where
    who : Chosen p (positions Jobs) (chosen_job p)
    who = someone_is_chosen p j jn s.is_ready

    after : (i : ℕ) → i < positions Jobs → accumulated (picked p) i ≡ accumulated_after p (chosen_job p) i
    after = pick_accumulates p ok.whole

    most : (i : ℕ) → i < positions Jobs → (b : Bool) → ready p i ≡ b → accumulated p i ≤ accumulated p (chosen_job p)
    most i l true e = who.most i l e
    most i l false e = omega (arith, ok.idle i l e)

    gain : (i : ℕ) → i < positions Jobs → i ≢ chosen_job p → (b : Bool) → ready p i ≡ b → accumulated_after p (chosen_job p) i ≤ accumulated p i + greatest_priority
    gain i l ne true e = omega (arith, ready_gains p (chosen_job p) i ne e, ok.low i l)
    gain i l ne false e = omega (arith, idle_keeps p (chosen_job p) i ne e)

    a_turn : Turn (positions Jobs) greatest_priority hold j g (accumulated p) (chosen_job p) (accumulated q)
    a_turn =
        record {
          inside = who.inside;
          most = λ i l. most i l (ready p i) refl;
          spent = λ ne. omega (arith, still.others (chosen_job p) who.inside ne, after (chosen_job p) who.inside, picked_has_none p (chosen_job p) (chosen_job p) refl);
          gains = λ i l ij im. omega (arith, still.others i l ij, after i l, gain i l im (ready p i) refl);
          ours = λ ne. omega (arith, still.own, after j jn, ready_gains p (chosen_job p) j (λ e. ne (sym e)) s.is_ready, s.at);
        }

    -- where the position is picked, the number is answered
    answers : j ≡ chosen_job p → n ≡ picked_number p
    answers e = sym (pick_answers_the_number p who.inside ∙ ap (λ (k : ℕ). number p Jobs k) (sym e) ∙ s.names)

  -- a stretch is so many turns once it is quiet, and an answer is the job's where its position was picked
  abbrev Seen : List ℕ → List ℕ → Type 0
  Seen p numbers = (q : List ℕ) × Quiet j p q × ((taken : List ℕ) × Turns (positions Jobs) greatest_priority hold j g (accumulated q) taken × (length taken ≡ length numbers) × (Memᴰ j taken → Memᴰ n numbers))

  seen : {p numbers : List ℕ} → Stretch n j g p numbers → Seen p numbers
  seen {p} over = (p, nothing_is_quiet j p, ([], law.none, refl, λ x. absurd (Memᴰ.not-nil x)))
  seen {p} (quiet {q = q} still rest) = let w = seen rest in (w.0, quiet_after_quiet j p q w.0 still w.1, w.2)
  seen {p} (pick ok s rest) =
      let w = seen rest in
      let v = w.2 in (
        p,
        nothing_is_quiet j p,
        (
          chosen_job p ∷ v.0,
          law.turn (a_turn p w.0 ok s w.1) v.1,
          ap suc v.2,
          λ x. ⊎_elim (λ e. Memᴰ.head (answers p w.0 ok s w.1 e)) (λ y. Memᴰ.tail (v.3 y)) (Memᴰ.cases_cons x),
        ),
      )

-- the picks of a stretch from the k-th on are a stretch, and so are the first k
later : {n j g : ℕ} {p numbers : List ℕ} (k : ℕ) → Stretch n j g p numbers → (q : List ℕ) × Stretch n j g q (drop k numbers)
later {p = p} zero st = (p, st)
later {p = p} (suc k) over = (p, over)
later {n = n} {j = j} {g = g} (suc k) (pick {p = p} {numbers = numbers} ok s rest) = later {p = picked p} {numbers = numbers} k rest
later (suc k) (quiet still rest) = later (suc k) rest

sooner : {n j g : ℕ} {p numbers : List ℕ} (k : ℕ) → Stretch n j g p numbers → Stretch n j g p (take k numbers)
sooner zero st = over
sooner (suc k) over = over
sooner {n = n} {j = j} {g = g} (suc k) (pick {p = p} {numbers = numbers} ok s rest) = pick ok s (sooner {p = picked p} {numbers = numbers} k rest)
sooner (suc k) (quiet still rest) = quiet still (sooner (suc k) rest)

-- the job's number is among every so many answers in a row
in_every_row : (n j g w : ℕ) → j < positions Jobs → 0 < g → g ≤ greatest_priority → within (positions Jobs) greatest_priority g ≤ w → (p numbers : List ℕ) → Stretch n j g p numbers → InEvery w n numbers
in_every_row n j g w jn g0 g1 enough p numbers st k long =
    let row = (seen n j g jn (sooner w (later k st).1)).2 in
    row.3 (picked_among (positions Jobs) greatest_priority hold j g (omega arith) jn g0 g1 row.1 (omega (arith, row.2, length_row w k numbers long)))

pub no_turn_is_lost : NoTurnLost
no_turn_is_lost n j g jn g0 g1 = in_every_row n j g _ jn g0 g1 (omega arith)
