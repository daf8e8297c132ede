-- Demands 1 and 2, of one call.
use Prim.Native.Nat.{ℕ}
use mathlib.Core.Path.{◌≡◌, refl, ap, ◌∙◌}
use mathlib.Core.Bool.{Bool, true, false, not, cond}
use mathlib.Core.List.{List}
use lib.ListN.{length}
use lib.Dec.{eqb}
use borrow.Author.Tests.{eqb-false}
use Rattle.picture.specs.Layout.{nobody}
use Rattle.picture.specs.Keys.{invalid_job, bad_parameter, not_sound}
use Rattle.sound.specs.Sound.{sound}
use Rattle.calls.specs.Outcome.{Outcome, refuse}
use Rattle.calls.specs.Call.{outcome}
use Rattle.calls.specs.Registers.{caller}
use Rattle.calls.proofs.Call.{refusal_changes_nothing}
use Rattle.traps.specs.Traps.{call_named}
use Rattle.manager.specs.Door.{checked, with_key, called}
use Rattle.manager.specs.Turn.{pick_picture, ticking}
use Rattle.law_turns.proofs.Pick.{pick_keeps_sound}
use Rattle.law_turns.proofs.Tick.{tick_keeps_sound}
use Rattle.manager.proofs.Door.{checked_unsound, called_otherwise, called_with_eight}
use Rattle.law_promises.specs.Door.{RefusalWritesOnlyD0, OtherRegistersRefused, UnsoundIsRefused, CallKeepsSound, PickKeepsSound, TickKeepsSound}
use Rattle.law_promises.proofs.Calls.{each_call}
use Rattle.law_asking.proofs.Kept.{ask_keeps_sound}
use Rattle.law_creating.proofs.Kept.{create_keeps_sound}
use Rattle.law_ending.proofs.Calls.{remove_keeps_sound, force_remove_keeps_sound}
use Rattle.law_memory.proofs.Kept.{longest_room_keeps_sound, take_keeps_sound, give_back_keeps_sound}
use Rattle.law_jobs.proofs.Kept.{information_keeps_sound, suspend_keeps_sound, release_keeps_sound, activate_keeps_sound, set_priority_keeps_sound}
use Rattle.law_opening.proofs.Open.{open_channel_keeps_sound}
use Rattle.law_channels.proofs.Close.{close_channel_keeps_sound}
use Rattle.law_queues.proofs.Kept.{pending_keeps_sound, fetch_keeps_sound, send_keeps_sound}

-- the checks before a call
module _ (trap : ℕ) (p d name : List ℕ) where
  -- what holds of every refusal and of the call named holds of the checked call
  pub checked_by : (P : Outcome → Type 0) → P (refuse not_sound p d) → P (refuse invalid_job p d) → (sound p ≡ true → (caller p ≡ nobody → ⊥) → P (outcome (call_named trap name) p d)) → P (outcome (checked trap name) p d)
  unfolding checked outcome
  checked_by P a b c = go (sound p) refl (eqb (caller p) nobody) refl
    where
      go : (s : Bool) → sound p ≡ s → (n : Bool) → eqb (caller p) nobody ≡ n → P (cond s (cond (not n) (outcome (call_named trap name) p d) (refuse invalid_job p d)) (refuse not_sound p d))
      go true s true n = b
      go true s false n = c s (eqb-false (caller p) nobody n)
      go false s n m = a

  checked_keeps_sound : sound p ≡ true → sound (outcome (checked trap name) p d).picture ≡ true
  checked_keeps_sound s = checked_by (λ (o : Outcome). sound o.picture ≡ true) s s (λ _ n. each_call (λ (o : Outcome). sound o.picture ≡ true) trap p d name (record {
    informs = information_keeps_sound p d s;
    creates = create_keeps_sound p d s;
    asks = ask_keeps_sound p d s;
    removes = remove_keeps_sound p d s;
    forces = force_remove_keeps_sound p d s;
    measures = longest_room_keeps_sound p d s;
    suspends = suspend_keeps_sound p d s;
    releases = release_keeps_sound p d s;
    activates = activate_keeps_sound p d s;
    prioritizes = λ _ _. set_priority_keeps_sound p d s;
    takes = take_keeps_sound p d s;
    gives_back = give_back_keeps_sound p d s;
    opens = open_channel_keeps_sound p d name s;
    closes = close_channel_keeps_sound p d s;
    pends = pending_keeps_sound p d s;
    fetches = λ _ _. fetch_keeps_sound p d s;
    sends = λ _ _. send_keeps_sound p d s;
    refuses = s;
  }))

-- a refusal changes D0 and nothing else, for every call at once
pub refusal_writes_only_D0 : RefusalWritesOnlyD0
refusal_writes_only_D0 trap p d name e n =
    let c = called_with_eight trap p d name e in
    let l = refusal_changes_nothing (checked trap name) p d (λ z. n (ap (λ (o : Outcome). o.key) c ∙ z)) in
    rw c (record { picture = l.0; registers = rw l.1 })

pub other_registers_refused : OtherRegistersRefused
other_registers_refused trap p d name n = called_otherwise trap p d name n

-- an unsound picture is answered -16 and unchanged
pub unsound_is_refused : UnsoundIsRefused
unsound_is_refused trap p d name e s =
    rw (called_with_eight trap p d name e, checked_unsound trap p d name s) (record { key = refl; written = record { picture = refl; registers = refl } })

-- every call, pick and tick keeps a sound picture sound
pub call_keeps_sound : CallKeepsSound
unfolding called
call_keeps_sound trap p d name s = go (eqb (length d) 8)
  where
    go : (b : Bool) → sound (cond b (with_key (outcome (checked trap name) p d)) (refuse bad_parameter p d)).picture ≡ true
    go true = checked_keeps_sound trap p d name s
    go false = s

pub pick_keeps : PickKeepsSound
unfolding pick_picture
pick_keeps p s = rw s (pick_keeps_sound p s)

pub tick_keeps : TickKeepsSound
unfolding ticking
tick_keeps p s = rw s (tick_keeps_sound p s)
