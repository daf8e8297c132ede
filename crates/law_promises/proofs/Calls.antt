-- What holds of what every call comes to, and of the refusal of an unknown call, holds of the call that a trap number and D0 name.
use Prim.Native.Nat.{ℕ}
use mathlib.Core.Path.{◌≡◌}
use mathlib.Core.List.{List}
use Rattle.words.specs.Words.{word}
use Rattle.picture.specs.Keys.{bad_parameter}
use Rattle.calls.specs.Outcome.{Outcome, refuse}
use Rattle.calls.specs.Call.{Call, outcome}
use Rattle.jobs.specs.Calls.{information, suspend, release, activate, set_priority}
use Rattle.asking.specs.Ask.{ask}
use Rattle.creating.specs.Create.{create}
use Rattle.ending.specs.Remove.{remove, force_remove}
use Rattle.memory.specs.Memory.{longest_room, take, give_back}
use Rattle.opening.specs.Calls.{open_channel}
use Rattle.channels.specs.Calls.{close_channel, pending, fetch, send}
use Rattle.traps.proofs.Among.{among_by}
use Rattle.traps.specs.Traps.{unknown, calls_one, calls_two, calls_three, trap_one, trap_two, trap_three, traps, call_named}

-- P holds of each call; of the priority call, of fetch and of send where it is the one named
pub record EachCall (trap : ℕ) (p d name : List ℕ) (P : Outcome → Type 0) : Type 0 where
  pub informs : P (outcome information p d)
  pub creates : P (outcome create p d)
  pub asks : P (outcome ask p d)
  pub removes : P (outcome remove p d)
  pub forces : P (outcome force_remove p d)
  pub measures : P (outcome longest_room p d)
  pub suspends : P (outcome suspend p d)
  pub releases : P (outcome release p d)
  pub activates : P (outcome activate p d)
  pub prioritizes : trap ≡ 1 → word d 0 ≡ 0xB → P (outcome set_priority p d)
  pub takes : P (outcome take p d)
  pub gives_back : P (outcome give_back p d)
  pub opens : P (outcome (open_channel name) p d)
  pub closes : P (outcome close_channel p d)
  pub pends : P (outcome pending p d)
  pub fetches : trap ≡ 3 → word d 0 ≡ 0x1 → P (outcome fetch p d)
  pub sends : trap ≡ 3 → word d 0 ≡ 0x5 → P (outcome send p d)
  pub refuses : P (refuse bad_parameter p d)

pub each_call : (P : Outcome → Type 0) (trap : ℕ) (p d name : List ℕ) → EachCall trap p d name P → P (outcome (call_named trap name) p d)
unfolding call_named trap_one trap_two trap_three outcome
each_call P trap p d name c =
    among_by Q trap (traps (word d 0) name) unknown (
      (λ t. among_by Q (word d 0) calls_one unknown (
        (λ _. c.informs),
        (
          (λ _. c.creates),
          (
            (λ _. c.asks),
            (
              (λ _. c.removes),
              (
                (λ _. c.forces),
                (
                  (λ _. c.measures),
                  ((λ _. c.suspends), ((λ _. c.releases), ((λ _. c.activates), ((λ e. c.prioritizes t e), ((λ _. c.takes), ((λ _. c.gives_back), tt)))))),
                ),
              ),
            ),
          ),
        ),
      )
          c.refuses),
      (
        (λ _. among_by Q (word d 0) (calls_two name) unknown ((λ _. c.opens), ((λ _. c.closes), tt)) c.refuses),
        ((λ t. among_by Q (word d 0) calls_three unknown ((λ _. c.pends), ((λ e. c.fetches t e), ((λ e. c.sends t e), tt))) c.refuses), tt),
      ),
    )
    c.refuses
  where
    Q : Call → Type 0
    Q x = P (outcome x p d)
