-- Every trap call is quiet for a job that stands before and after it, and that no priority call names.
use Prim.Native.Nat.{ℕ, ◌<◌}
use mathlib.Core.Path.{◌≡◌}
use mathlib.Core.Bool.{Bool, true, false, cond}
use mathlib.Core.List.{List}
use lib.ListN.{length}
use lib.Dec.{eqb}
use Rattle.picture.specs.Layout.{positions}
use Rattle.picture.specs.Keys.{bad_parameter}
use Rattle.picture.specs.declared.Table.TheVariants.{Jobs}
use Rattle.sound.specs.Sound.{sound}
use Rattle.calls.specs.Outcome.{Outcome, refuse}
use Rattle.calls.specs.Call.{outcome}
use Rattle.manager.specs.Door.{checked, with_key, called}
use Rattle.law_picks.specs.Stretch.{Stands, Quiet}
use Rattle.law_picks.proofs.Quiet.{nothing_is_quiet}
use Rattle.law_promises.specs.History.{trap, after}
use Rattle.law_promises.specs.Turn.{Unnamed}
use Rattle.law_promises.proofs.Calls.{each_call}
use Rattle.law_promises.proofs.Door.{checked_by}
use Rattle.law_promises.proofs.CallsQuiet.{information_is_quiet, ask_is_quiet, longest_room_is_quiet, pending_is_quiet, take_is_quiet, give_back_is_quiet, fetch_is_quiet, send_is_quiet, release_is_quiet, suspend_is_quiet, set_priority_is_quiet, activate_is_quiet}
use Rattle.law_promises.proofs.TablesQuiet.{close_channel_is_quiet, open_channel_is_quiet, create_is_quiet, remove_is_quiet, force_remove_is_quiet}

module _ (n j g : ℕ) (l : j < positions Jobs) (t : ℕ) (p d name : List ℕ) (s : sound p ≡ true) (here : Stands n j g p) (unnamed : Unnamed n p (trap t d name)) where
  -- a call that leaves the job standing is quiet for it
  abbrev Spares : Outcome → Type 0
  Spares o = Stands n j g o.picture → Quiet j p o.picture

  checked_spares : Spares (outcome (checked t name) p d)
  checked_spares = checked_by t p d name Spares (λ _. nothing_is_quiet j p) (λ _. nothing_is_quiet j p) (λ _ c. each_call Spares t p d name (record {
    informs = λ _. information_is_quiet j p d;
    creates = λ _. create_is_quiet n j g l p d s here;
    asks = λ _. ask_is_quiet j p d;
    removes = λ h. remove_is_quiet n j g l p d s h;
    forces = λ h. force_remove_is_quiet n j g l p d s h;
    measures = λ _. longest_room_is_quiet j p d;
    suspends = λ h. suspend_is_quiet n j g l p d s h;
    releases = λ _. release_is_quiet j l p d s;
    activates = λ h. activate_is_quiet n j g l p d s c here h;
    prioritizes = λ a b _. set_priority_is_quiet n j g l p d s here (unnamed a b);
    takes = λ _. take_is_quiet j l p d s;
    gives_back = λ _. give_back_is_quiet j l p d s;
    opens = λ _. open_channel_is_quiet j l p d name s;
    closes = λ _. close_channel_is_quiet j l p d s;
    pends = λ _. pending_is_quiet j p d;
    fetches = λ _ _ _. fetch_is_quiet j l p d s;
    sends = λ _ _ _. send_is_quiet j l p d s;
    refuses = λ _. nothing_is_quiet j p;
  }))

  pub call_is_quiet : Stands n j g (after (trap t d name) p) → Quiet j p (after (trap t d name) p)
  unfolding called
  call_is_quiet = go (eqb (length d) 8)
    where
      go : (b : Bool) → Spares (cond b (with_key (outcome (checked t name) p d)) (refuse bad_parameter p d))
      go true = checked_spares
      go false = λ _. nothing_is_quiet j p
