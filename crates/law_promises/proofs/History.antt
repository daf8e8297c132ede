-- Demand 2, over histories.
use Prim.Native.Nat.{ℕ, ◌≤◌}
use mathlib.Core.Path.{◌≡◌, refl, sym, ◌∙◌, subst}
use mathlib.Core.Bool.{Bool, true, false, cond}
use mathlib.Core.List.{List, [], ◌∷◌, ◌++◌}
use native.Mathlib.Omega.{arith}
use lib.ListN.{length}
use lib.Dec.{eqb}
use Rattle.words.specs.Words.{word}
use Rattle.words.proofs.Tests.{false_true}
use Rattle.picture.specs.Layout.{last_word}
use Rattle.picture.specs.Records.{number, used}
use Rattle.picture.specs.Numbers.{tag, position, live}
use Rattle.picture.specs.Keys.{bad_parameter}
use Rattle.picture.specs.declared.Table.{Table}
use Rattle.picture.specs.declared.Table.TheVariants.{Jobs, Channels}
use Rattle.picture.proofs.Numbers.{live_is}
use Rattle.sound.specs.Sound.{sound}
use Rattle.sound_facts.proofs.Sound.{Entries, entries_of}
use Rattle.sound_facts.proofs.View.{view}
use Rattle.sound_facts.proofs.Ages.{Ages, ages_still, ages_then, stays_dead}
use Rattle.fresh.specs.Fresh.{fresh}
use Rattle.fresh.proofs.Good.{sizes}
use Rattle.law_fresh.proofs.Sound.{fresh_is_sound}
use Rattle.calls.specs.Outcome.{Outcome, refuse}
use Rattle.calls.specs.Call.{outcome}
use Rattle.manager.specs.Door.{checked, with_key, called}
use Rattle.manager.specs.Turn.{pick_picture, ticking}
use Rattle.law_turns.proofs.Pick.{pick_ages}
use Rattle.law_turns.proofs.Tick.{tick_ages}
use Rattle.law_promises.specs.History.{Event, trap, pick, tick, after, run, AlwaysSound, DeadStaysDead, DeadSinceFresh, LastTagNeverFalls}
use Rattle.law_promises.proofs.Calls.{each_call}
use Rattle.law_promises.proofs.Door.{checked_by, call_keeps_sound, pick_keeps, tick_keeps}
use Rattle.law_jobs.proofs.Kept.{information_ages, suspend_ages, release_ages, activate_ages, set_priority_ages}
use Rattle.law_asking.proofs.Kept.{ask_ages}
use Rattle.law_creating.proofs.Kept.{create_ages}
use Rattle.law_ending.proofs.Calls.{remove_ages, force_remove_ages}
use Rattle.law_memory.proofs.Kept.{longest_room_ages, take_ages, give_back_ages}
use Rattle.law_opening.proofs.Open.{open_channel_ages}
use Rattle.law_channels.proofs.Close.{close_channel_ages}
use Rattle.law_queues.proofs.Kept.{pending_ages, fetch_ages, send_ages}

-- every event keeps a sound picture sound
pub event_keeps_sound : (e : Event) (p : List ℕ) → sound p ≡ true → sound (after e p) ≡ true
event_keeps_sound (trap n d name) p s = call_keeps_sound n p d name s
event_keeps_sound pick p s = pick_keeps p s
event_keeps_sound tick p s = tick_keeps p s

pub run_keeps_sound : (events : List Event) (p : List ℕ) → sound p ≡ true → sound (run events p) ≡ true
run_keeps_sound [] p s = s
run_keeps_sound (e ∷ events) p s = run_keeps_sound events (after e p) (event_keeps_sound e p s)

pub always_sound : AlwaysSound
always_sound n h g events = run_keeps_sound events (fresh n h) (fresh_is_sound n h (sizes n n h g))

-- tags rise over every event
abbrev Aged : List ℕ → Outcome → Type 0
Aged p o = (t : Table) → Ages p o.picture t

checked_ages : (n : ℕ) (p d name : List ℕ) → sound p ≡ true → Aged p (outcome (checked n name) p d)
checked_ages n p d name s = checked_by n p d name (Aged p) (ages_still p) (ages_still p) (λ _ _. each_call (Aged p) n p d name (record {
  informs = information_ages p d s;
  creates = create_ages p d s;
  asks = ask_ages p d s;
  removes = remove_ages p d s;
  forces = force_remove_ages p d s;
  measures = longest_room_ages p d s;
  suspends = suspend_ages p d s;
  releases = release_ages p d s;
  activates = activate_ages p d s;
  prioritizes = λ _ _. set_priority_ages p d s;
  takes = take_ages p d s;
  gives_back = give_back_ages p d s;
  opens = open_channel_ages p d name s;
  closes = close_channel_ages p d s;
  pends = pending_ages p d s;
  fetches = λ _ _. fetch_ages p d s;
  sends = λ _ _. send_ages p d s;
  refuses = ages_still p;
}))

called_ages : (n : ℕ) (p d name : List ℕ) → sound p ≡ true → (t : Table) → Ages p (called n p d name).picture t
unfolding called
called_ages n p d name s t = go (eqb (length d) 8)
  where
    go : (b : Bool) → Ages p (cond b (with_key (outcome (checked n name) p d)) (refuse bad_parameter p d)).picture t
    go true = checked_ages n p d name s t
    go false = ages_still p t

pub event_ages : (e : Event) (p : List ℕ) → sound p ≡ true → (t : Table) → Ages p (after e p) t
unfolding pick_picture ticking
event_ages (trap n d name) p s t = called_ages n p d name s t
event_ages pick p s t = rw s (pick_ages p s t)
event_ages tick p s t = rw s (tick_ages p s t)

pub run_ages : (events : List Event) (p : List ℕ) → sound p ≡ true → (t : Table) → Ages p (run events p) t
run_ages [] p s t = ages_still p t
run_ages (e ∷ events) p s t = ages_then p (after e p) (run events (after e p)) t (event_ages e p s t) (run_ages events (after e p) (event_keeps_sound e p s) t)

pub last_tag_never_falls : LastTagNeverFalls
last_tag_never_falls p s t events = (run_ages events p s t).rises

-- one history after another
run_then : (first then : List Event) (p : List ℕ) → run (first ++ then) p ≡ run then (run first p)
run_then [] then p = refl
run_then (e ∷ first) then p = run_then first then (after e p)

-- a live number's tag was given
pub given : (p : List ℕ) → sound p ≡ true → (t : Table) (n : ℕ) → live p t n ≡ true → tag n ≤ word p (last_word t)
given p s t n l =
    let L = live_is p t n l in
    subst (λ (x : ℕ). tag x ≤ word p (last_word t)) L.names ((entries_of p (view p s) t).given (position n) L.used)

pub dead_stays_dead : DeadStaysDead
dead_stays_dead p s t number then later l d =
    let b = run then p in
    let u : sound b ≡ true = run_keeps_sound then p s in
    let x = given p s t number l in
    let y = (run_ages then p s t).rises in
    rw (run_then then later p) (stays_dead b (run later b) t number (run_ages later b u t) (omega arith) d)

pub dead_since_fresh : DeadSinceFresh
dead_since_fresh n h g t number first then later = dead_stays_dead (run first (fresh n h)) (always_sound n h g first) t number then later

-- a number that is live at both ends of a history is live after its first event
pub live_after_the_first : (e : Event) (events : List Event) (p : List ℕ) → sound p ≡ true → (t : Table) (n : ℕ) → live p t n ≡ true → live (run events (after e p)) t n ≡ true → live (after e p) t n ≡ true
live_after_the_first e events p s t n l m = go (live (after e p) t n) refl
  where
    go : (b : Bool) → live (after e p) t n ≡ b → b ≡ true
    go true a = refl
    go false a =
        let x = given p s t n l in
        let y = (event_ages e p s t).rises in
        absurd (false_true (sym (stays_dead (after e p) (run events (after e p)) t n (run_ages events (after e p) (event_keeps_sound e p s) t) (omega arith) a) ∙ m))
