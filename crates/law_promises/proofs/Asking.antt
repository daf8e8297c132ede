-- $2 of the door: a call that answers 0 passed the door and its checks, so it answered for a member.
use Prim.Native.Nat.{ℕ}
use mathlib.Core.Path.{◌≡◌, refl, ◌∙◌}
use mathlib.Core.Bool.{true}
use mathlib.Core.List.{List}
use lib.ListN.{length}
use Rattle.words.specs.Words.{word}
use Rattle.picture.specs.Keys.{done}
use Rattle.picture.specs.Numbers.{position}
use Rattle.sound.specs.Sound.{sound}
use Rattle.calls.specs.Outcome.{Outcome}
use Rattle.calls.specs.Call.{outcome}
use Rattle.calls.specs.Registers.{D1, D2, meant}
use Rattle.asking.specs.Ask.{ask}
use Rattle.traps.specs.Traps.{trap_one, call_named}
use Rattle.manager.specs.Door.{with_key}
use Rattle.manager.proofs.Door.{named_one}
use Rattle.law_asking.proofs.Answer.{told_in_D0, others_stay, answers_so, ask_where_done}
use Rattle.law_promises.specs.Asking.{Asked, AskingTells}
use Rattle.law_promises.proofs.Done.{where_the_call_is_done}

module _ (p d name : List ℕ) (l : length d ≡ 8) (s : sound p ≡ true) where
  by_code : word d 0 ≡ 0x2 → (outcome (call_named 1 name) p d).key ≡ done → Asked p d (with_key (outcome (call_named 1 name) p d))
  unfolding trap_one outcome
  by_code e =
      let z : outcome (call_named 1 name) p d ≡ outcome ask p d = named_one 1 p d name refl ∙ rw e in
      rw z (ask_where_done (λ (o : Outcome). Asked p d (with_key o)) p d s (λ a b u. record {
        top_lives = a;
        job_lives = b;
        under = u;
        answers = answers_so p s (position (D2 d)) (position (meant p (D1 d))) 0 d l;
        done_told = told_in_D0 p s (position (D2 d)) (position (meant p (D1 d))) 0 d l;
        others = others_stay p s (position (D2 d)) (position (meant p (D1 d))) 0 d l;
        picture = refl;
      }))

pub asking_tells : AskingTells
asking_tells p d name e = where_the_call_is_done 1 p d name (Asked p d) (λ l s _. by_code p d name l s e)
