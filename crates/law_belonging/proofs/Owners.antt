-- Every event leaves an entry that lives through it to its owner.
use Prim.Native.Nat.{ℕ, ◌+◌, ◌<◌}
use mathlib.Core.Path.{◌≡◌, refl, ◌∙◌}
use mathlib.Core.Bool.{Bool, true, false, cond}
use mathlib.Core.List.{List, [], ◌∷◌}
use native.Mathlib.Omega.{arith}
use lib.ListN.{length}
use lib.Dec.{eqb}
use Rattle.picture.specs.Layout.{positions}
use Rattle.picture.specs.Records.{owner, used, slot, owner_field, ending_field}
use Rattle.picture.specs.Numbers.{position, live}
use Rattle.picture.specs.Keys.{bad_parameter}
use Rattle.picture.specs.declared.Table.{Table}
use Rattle.picture.specs.declared.Table.TheVariants.{Jobs, Channels}
use Rattle.picture.proofs.Records.{used_below}
use Rattle.picture.proofs.Numbers.{live_is}
use Rattle.sound.specs.Sound.{sound}
use Rattle.sound_facts.proofs.View.{view}
use Rattle.calls.specs.Outcome.{Outcome, refuse}
use Rattle.calls.specs.Call.{outcome}
use Rattle.calls.specs.Registers.{A0, D1, meant}
use Rattle.law_steady.proofs.Steady.{Steady, steady_field}
use Rattle.law_blocks.proofs.Tables.{TablesSame, owner_same}
use Rattle.law_jobs.proofs.Kept.{information_is_steady, suspend_is_steady, release_is_steady, activate_is_steady, set_priority_is_steady}
use Rattle.asking.specs.Ask.{ask}
use Rattle.law_asking.proofs.Kept.{ask_leaves_the_picture}
use Rattle.law_creating.proofs.Ways as creating
use Rattle.law_creating.proofs.New.{created_keeps_owners}
use Rattle.ending.specs.Ended.{ended}
use Rattle.law_ending.proofs.Promise.{ending_takes_the_tree}
use Rattle.law_ending.proofs.Calls.{of_remove, of_force_remove}
use Rattle.memory.specs.Memory.{longest_room}
use Rattle.law_memory.proofs.Others.{take_keeps_the_tables, give_back_keeps_the_tables}
use Rattle.entering.specs.Entry.{next_tag}
use Rattle.law_entering.proofs.Kept.{owner_stays}
use Rattle.names.specs.Names.{number_in, named}
use Rattle.opening.specs.Effects.{opened}
use Rattle.law_opening.proofs.Ways as opening
use Rattle.law_opening.proofs.Opened as the
use Rattle.channels.specs.Effects.{closed}
use Rattle.law_channels.proofs.Closed.{jobs_same, field_old}
use Rattle.law_channels.proofs.Close.{close_channel_ways}
use Rattle.law_channels.proofs.Queues.{one_position, a_closed_channel_is_dead}
use Rattle.law_queues.proofs.Kept.{pending_keeps_the_tables, fetch_keeps_the_tables, send_keeps_the_tables}
use Rattle.manager.specs.Door.{checked, with_key, called}
use Rattle.manager.specs.Turn.{pick_picture, ticking}
use Rattle.law_turns.proofs.Pick.{pick_is_steady}
use Rattle.law_turns.proofs.Tick.{tick_is_steady}
use Rattle.law_promises.specs.History.{Event, trap, pick, tick, after}
use Rattle.law_promises.proofs.Calls.{each_call}
use Rattle.law_promises.proofs.Door.{checked_by}
use Rattle.law_promises.proofs.History.{event_keeps_sound, live_after_the_first}
use Rattle.law_belonging.specs.Belonging.{OwnersStay}

module _ (p : List ℕ) (s : sound p ≡ true) (t : Table) (n : ℕ) (lives : live p t n ≡ true) where
  -- the owner of the entry is in q what it is in p, if it is live there
  abbrev Kept : List ℕ → Type 0
  Kept q = live q t n ≡ true → owner q t (position n) ≡ owner p t (position n)

  below : position n < positions t
  below = used_below p t (position n) (live_is p t n lives).used

  steady_keeps : (q : List ℕ) → Steady p q → Kept q
  steady_keeps q S _ = steady_field p q S t (position n) owner_field below (omega arith)

  tables_keep : (q : List ℕ) → TablesSame p q → Kept q
  tables_keep q T _ = owner_same p q T t (position n) below

  -- a tree that ends: what is there afterwards was there before
  ended_keeps : (k key : ℕ) → used p Jobs k ≡ true → (k ≡ 0 → ⊥) → Kept (ended p k key)
  ended_keeps k key u z l = ((ending_takes_the_tree p k key s u z).old_entries t (position n) (live_is (ended p k key) t n l).used).same_owner

-- a new channel: its record is written, and behind it its last longword
module _ (p d name : List ℕ) (s : sound p ≡ true) (c : opening.Checked p d name) where
  abbrev o : ℕ
  o = meant p (D1 d)

  abbrev length_asked : ℕ
  length_asked = number_in (named name)

  apart : (t : Table) (j k : ℕ) → j < positions t → slot t j + owner_field ≡ slot Channels k + ending_field → ⊥
  apart Jobs j k l e = omega arith
  apart Channels j k l e = omega arith

  opened_keeps : (t : Table) (n : ℕ) → live p t n ≡ true → owner (opened p o length_asked) t (position n) ≡ owner p t (position n)
  opened_keeps t n l =
      the.q_other p o length_asked s c.place c.tagged c.room (slot t (position n) + owner_field) (apart t (position n) _ (used_below p t (position n) (live_is p t n l).used))
      ∙ owner_stays p _ Channels _ (next_tag p Channels) o _ (the.entry p o length_asked s c.place c.tagged c.room) (the.there p o length_asked s c.place c.tagged c.room) (the.vacant p o length_asked s c.place c.tagged c.room) t n l

-- a channel that is closed: the others keep their records, and so do all jobs
closed_keeps : (p : List ℕ) (m : ℕ) (s : sound p ≡ true) → live p Channels m ≡ true → (t : Table) (n : ℕ) → live p t n ≡ true → live (closed p (position m)) t n ≡ true
    → owner (closed p (position m)) t (position n) ≡ owner p t (position n)
closed_keeps p m s a Jobs n l _ = (jobs_same p m s a).fields (position n) owner_field (used_below p Jobs (position n) (live_is p Jobs n l).used) (omega arith)
closed_keeps p m s a Channels n l k = field_old p m s a (position n) owner_field (used_below p Channels (position n) (live_is p Channels n l).used) (omega arith)
    (λ e. let z = one_position p n m l a e in a_closed_channel_is_dead p m s a (rw z at k))

module _ (n : ℕ) (p d name : List ℕ) (s : sound p ≡ true) (t : Table) (m : ℕ) (lives : live p t m ≡ true) where
  abbrev Same : Outcome → Type 0
  Same o = Kept p s t m lives o.picture

  longest_room_keeps : Same (outcome longest_room p d)
  unfolding longest_room outcome
  longest_room_keeps l = refl

  ask_keeps : Same (outcome ask p d)
  ask_keeps = rw (ask_leaves_the_picture p d) (λ l. refl)

  checked_keeps : Same (outcome (checked n name) p d)
  checked_keeps = checked_by n p d name Same (λ l. refl) (λ l. refl) (λ _ _. each_call Same n p d name (record {
    informs = steady_keeps p s t m lives _ (information_is_steady p d);
    creates = creating.create_ways Same p d (λ k l. refl) (λ c l. created_keeps_owners p d s c t m lives);
    asks = ask_keeps;
    removes = of_remove p d Same (λ k l. refl) (λ u z. ended_keeps p s t m lives _ _ u z);
    forces = of_force_remove p d Same (λ k l. refl) (λ u z. ended_keeps p s t m lives _ _ u z);
    measures = longest_room_keeps;
    suspends = steady_keeps p s t m lives _ (suspend_is_steady p d s);
    releases = steady_keeps p s t m lives _ (release_is_steady p d s);
    activates = steady_keeps p s t m lives _ (activate_is_steady p d s);
    prioritizes = λ _ _. steady_keeps p s t m lives _ (set_priority_is_steady p d s);
    takes = tables_keep p s t m lives _ (take_keeps_the_tables p d s);
    gives_back = tables_keep p s t m lives _ (give_back_keeps_the_tables p d s);
    opens = opening.open_channel_ways Same p d name (λ k l. refl) (λ c l. opened_keeps p d name s c t m lives);
    closes = close_channel_ways Same p d (λ k l. refl) (λ a. closed_keeps p (A0 d) s a t m lives);
    pends = tables_keep p s t m lives _ (pending_keeps_the_tables p d);
    fetches = λ _ _. tables_keep p s t m lives _ (fetch_keeps_the_tables p d s);
    sends = λ _ _. tables_keep p s t m lives _ (send_keeps_the_tables p d s);
    refuses = λ l. refl;
  }))

  call_keeps : Same (called n p d name)
  unfolding called
  call_keeps = go (eqb (length d) 8)
    where
      go : (b : Bool) → Same (cond b (with_key (outcome (checked n name) p d)) (refuse bad_parameter p d))
      go true = checked_keeps
      go false = λ l. refl

-- of every event
event_keeps : (e : Event) (p : List ℕ) (s : sound p ≡ true) (t : Table) (m : ℕ) (lives : live p t m ≡ true) → Kept p s t m lives (after e p)
unfolding pick_picture ticking
event_keeps (trap n d name) p s t m lives = call_keeps n p d name s t m lives
event_keeps pick p s t m lives = rw s (steady_keeps p s t m lives _ (pick_is_steady p (view p s)))
event_keeps tick p s t m lives = rw s (steady_keeps p s t m lives _ (tick_is_steady p (view p s)))

pub owners_stay : OwnersStay
owners_stay p s t m [] a l = refl
owners_stay p s t m (e ∷ events) a l =
    let b = live_after_the_first e events p s t m a l in
    owners_stay (after e p) (event_keeps_sound e p s) t m events b l ∙ event_keeps e p s t m a b
