-- Demand 3 over histories.
use Prim.Native.Nat.{ℕ, ◌<◌}
use mathlib.Core.Path.{◌≡◌, sym, subst}
use mathlib.Core.Bool.{true}
use mathlib.Core.List.{List, [], ◌∷◌}
use Rattle.picture.specs.Layout.{positions}
use Rattle.picture.specs.declared.Table.TheVariants.{Jobs}
use Rattle.sound.specs.Sound.{sound}
use Rattle.sound_facts.proofs.View.{view}
use Rattle.manager.specs.Turn.{pick_picture, pick_answer, ticking}
use Rattle.turns.specs.Pick.{picked, picked_number}
use Rattle.turns.specs.Tick.{ticked}
use Rattle.law_picks.specs.Stretch.{Stands, Quiet, Stretch}
use Rattle.law_picks.proofs.Fairness.{no_turn_is_lost}
use Rattle.law_picks.proofs.Quiet.{tick_is_quiet}
use Rattle.law_turns.proofs.Pick.{sound_is_orderly}
use Rattle.law_promises.specs.History.{Event, trap, pick, tick, after}
use Rattle.law_promises.specs.Turn.{Stays, answers, TurnNotLost}
use Rattle.law_promises.proofs.History.{event_keeps_sound}
use Rattle.law_promises.proofs.Quiet.{call_is_quiet}

-- the picture in which a history stands
here : {n j g : ℕ} {p : List ℕ} {events : List Event} → Stays n j g p events → Stands n j g p
here (Stays.end s) = s
here (Stays.step s u r) = s

-- a history in which the job stays is a stretch of picks with quiet calls and ticks between
stretch : (n j g : ℕ) → j < positions Jobs → (p : List ℕ) → sound p ≡ true → (events : List Event) → Stays n j g p events → Stretch n j g p (answers events p)
unfolding pick_picture pick_answer ticking
stretch n j g l p s [] h = Stretch.over
stretch n j g l p s (trap t d name ∷ events) (Stays.step a u r) =
    Stretch.quiet (call_is_quiet n j g l t p d name s a u (here r)) (stretch n j g l (after (trap t d name) p) (event_keeps_sound (trap t d name) p s) events r)
stretch n j g l p s (pick ∷ events) (Stays.step a u r) =
    let e : after pick p ≡ picked p = rw s in
    let w : (pick_answer p).number ≡ picked_number p = rw s in
    rw w (Stretch.pick (sound_is_orderly p (view p s)) a (subst (λ (q : List ℕ). Stretch n j g q (answers events (after pick p))) e (stretch n j g l (after pick p) (event_keeps_sound pick p s) events r)))
stretch n j g l p s (tick ∷ events) (Stays.step a u r) =
    let e : after tick p ≡ ticked p = rw s in
    Stretch.quiet (subst (λ (q : List ℕ). Quiet j p q) (sym e) (tick_is_quiet j p)) (stretch n j g l (after tick p) (event_keeps_sound tick p s) events r)

pub turn_not_lost : TurnNotLost
turn_not_lost n j g l a b p s events h = no_turn_is_lost n j g l a b p (answers events p) (stretch n j g l p s events h)
