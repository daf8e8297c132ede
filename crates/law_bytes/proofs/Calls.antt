-- A call that is refused, or is no fetch and no send on a channel that lives through it, leaves the channel's bytes.
use Prim.Native.Nat.{ℕ}
use mathlib.Core.Path.{◌≡◌, refl, sym}
use mathlib.Core.Bool.{Bool, true, false, cond}
use mathlib.Core.List.{List}
use lib.ListN.{length}
use lib.Dec.{eqb}
use Rattle.words.specs.Words.{word}
use Rattle.picture.specs.Keys.{done, bad_parameter}
use Rattle.picture.specs.Numbers.{live}
use Rattle.picture.specs.declared.Table.TheVariants.{Channels}
use Rattle.sound.specs.Sound.{sound}
use Rattle.calls.specs.Outcome.{Outcome, refuse}
use Rattle.calls.specs.Call.{outcome}
use Rattle.calls.specs.Registers.{A0}
use Rattle.calls.proofs.Call.{refusal_changes_nothing}
use Rattle.manager.specs.Door.{checked, with_key, called}
use Rattle.law_jobs.proofs.Kept.{information_is_steady, suspend_is_steady, release_is_steady, activate_is_steady, set_priority_is_steady}
use Rattle.law_queues.specs.Lists.{bytes_at}
use Rattle.law_queues.proofs.Lists.{pending_leaves_every_queue, fetch_leaves_other_queues, send_leaves_other_queues}
use Rattle.law_channels.proofs.Queues.{close_channel_keeps_the_bytes}
use Rattle.law_opening.proofs.Queues.{open_channel_leaves_every_queue}
use Rattle.law_promises.proofs.Calls.{each_call}
use Rattle.law_promises.proofs.Door.{checked_by}
use Rattle.law_bytes.proofs.Kept.{steady_keeps_the_bytes, ask_keeps_the_bytes, longest_room_keeps_the_bytes, take_keeps_the_bytes, give_back_keeps_the_bytes, create_keeps_the_bytes, remove_keeps_the_bytes, force_remove_keeps_the_bytes}

module _ (t : ℕ) (p d name : List ℕ) (s : sound p ≡ true) (n : ℕ) (lives : live p Channels n ≡ true) where
  -- a call that is refused leaves the picture
  pub refused_leaves : ((called t p d name).key ≡ done → ⊥) → (called t p d name).picture ≡ p
  unfolding called
  refused_leaves = go (eqb (length d) 8)
    where
      go : (b : Bool) → ((cond b (with_key (outcome (checked t name) p d)) (refuse bad_parameter p d)).key ≡ done → ⊥)
          → (cond b (with_key (outcome (checked t name) p d)) (refuse bad_parameter p d)).picture ≡ p
      go true x = (refusal_changes_nothing (checked t name) p d x).0
      go false x = refl

  -- a call that isn't a fetch or a send on the channel
  module _ (no-fetch : t ≡ 3 → word d 0 ≡ 0x1 → A0 d ≡ n → ⊥) (no-send : t ≡ 3 → word d 0 ≡ 0x5 → A0 d ≡ n → ⊥) where
    abbrev Same : Outcome → Type 0
    Same o = live o.picture Channels n ≡ true → bytes_at o.picture n ≡ bytes_at p n

    checked_keeps : Same (outcome (checked t name) p d)
    checked_keeps = checked_by t p d name Same (λ _. refl) (λ _. refl) (λ _ _. each_call Same t p d name (record {
      informs = λ _. steady_keeps_the_bytes p s n lives _ (information_is_steady p d);
      creates = λ _. create_keeps_the_bytes p s n lives d;
      asks = λ _. ask_keeps_the_bytes p s n lives d;
      removes = remove_keeps_the_bytes p s n lives d;
      forces = force_remove_keeps_the_bytes p s n lives d;
      measures = λ _. longest_room_keeps_the_bytes p s n lives d;
      suspends = λ _. steady_keeps_the_bytes p s n lives _ (suspend_is_steady p d s);
      releases = λ _. steady_keeps_the_bytes p s n lives _ (release_is_steady p d s);
      activates = λ _. steady_keeps_the_bytes p s n lives _ (activate_is_steady p d s);
      prioritizes = λ _ _ _. steady_keeps_the_bytes p s n lives _ (set_priority_is_steady p d s);
      takes = λ _. take_keeps_the_bytes p s n lives d;
      gives_back = λ _. give_back_keeps_the_bytes p s n lives d;
      opens = λ _. open_channel_leaves_every_queue p d name s n lives;
      closes = close_channel_keeps_the_bytes p d s n lives;
      pends = λ _. pending_leaves_every_queue p d n;
      fetches = λ e c _. fetch_leaves_other_queues p d s n lives (λ a. no-fetch e c (sym a));
      sends = λ e c _. send_leaves_other_queues p d s n lives (λ a. no-send e c (sym a));
      refuses = λ _. refl;
    }))

    pub call_keeps : live (called t p d name).picture Channels n ≡ true → bytes_at (called t p d name).picture n ≡ bytes_at p n
    unfolding called
    call_keeps = go (eqb (length d) 8)
      where
        go : (b : Bool) → Same (cond b (with_key (outcome (checked t name) p d)) (refuse bad_parameter p d))
        go true = checked_keeps
        go false = λ _. refl
