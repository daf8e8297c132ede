-- What holds of every refusal, and of success after all checks, holds of the call; of the call that answers 0 success is enough.
use Prim.Native.Nat.{ℕ}
use mathlib.Core.Path.{◌≡◌, refl, sym, ◌∙◌}
use mathlib.Core.Bool.{true, false}
use mathlib.Core.List.{List}
use lib.IntN.{ℤ}
use Rattle.words.proofs.Tests.{false_true}
use Rattle.picture.specs.Keys.{done}
use Rattle.picture.specs.Numbers.{live}
use Rattle.picture.specs.declared.Table.TheVariants.{Jobs}
use Rattle.picture.specs.declared.Area.TheVariants.{Transient}
use Rattle.rooms.specs.Room.{spot}
use Rattle.rooms.proofs.Room.{has_room, there_is_room_where_the_check_passes, room_check_gives_no_other}
use Rattle.calls.specs.Outcome.{Outcome, refuse, succeed}
use Rattle.calls.specs.Call.{outcome}
use Rattle.calls.specs.Registers.{D1}
use Rattle.calls.proofs.Call.{Passed, success, of_each_way, refusals}
use Rattle.law_blocks.proofs.Cases.{where_done}
use Rattle.entering.specs.Entry.{has_position, has_tag, next_number}
use Rattle.creating.specs.Create.{negative, owner_found, owner_check, owner_in, job_length, created, job_registers, create}
use Rattle.creating.proofs.Ways.{found_each, owner_check_gives_no_other}

-- what the checks of $1 say of the owner, a position, a tag and room where they pass
pub record Checked (p d : List ℕ) : Type 0 where
  pub owner : (owner_check (owner_found p (D1 d))).0 ≡ true
  pub place : has_position p Jobs ≡ true
  pub tagged : has_tag p Jobs ≡ true
  pub room : has_room p Transient (job_length d) ≡ true

-- D1 that isn't negative names a live job, and that is the owner
pub the_owner_named : (p : List ℕ) (n : ℕ) → negative n ≡ false → (owner_check (owner_found p n)).0 ≡ true → (live p Jobs n ≡ true) × (owner_in (owner_found p n) ≡ n)
the_owner_named p n h = found_each p n (λ f. (owner_check f).0 ≡ true → (live p Jobs n ≡ true) × (owner_in f ≡ n))
    (λ a. absurd (false_true (sym h ∙ a))) (λ a l _. (l, refl)) (λ a l e. absurd (false_true e))

module _ (P : Outcome → Type 0) (p d : List ℕ) where
  -- what creating does where its checks pass
  abbrev Created : Type 0
  Created = Checked p d → P (succeed (created p d) (job_registers (next_number p Jobs) (spot p Transient (job_length d)) d))

  creates : Created → Passed (create p d).checks → P (success (create p d))
  unfolding create
  creates f h = f (record {
    owner = search;
    place = search;
    tagged = search;
    room = there_is_room_where_the_check_passes p Transient (job_length d) (search);
  })

  pub create_ways : ((k : ℤ) → P (refuse k p d)) → Created → P (outcome create p d)
  create_ways refused f = of_each_way create p d P refused (creates f)

  pub create_where_done : Created → (outcome create p d).key ≡ done → P (outcome create p d)
  unfolding create
  create_where_done f = where_done P create p d (search (refusals, owner_check_gives_no_other, room_check_gives_no_other) depth 14) (creates f)
