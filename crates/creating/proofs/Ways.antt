-- The ways out of the call, one law each.
use Prim.Native.Nat.{ℕ, ◌≤◌, ◌<◌}
use mathlib.Core.Path.{◌≡◌, refl, sym, ap, ◌∙◌}
use mathlib.Core.Bool.{Bool, true, false, cond}
use mathlib.Core.List.{List}
use lib.IntN.{ℤ}
use borrow.Author.Tests.{lt-ltb, le-ltb, le-leb, lt-leb}
use Rattle.std.proofs.Common.{Option, Some, None}
use Rattle.words.specs.Words.{word}
use Rattle.words.proofs.Tests.{false_true}
use Rattle.picture.specs.Layout.{nobody, positions, last_word, greatest_tag, from, upto}
use Rattle.picture.specs.Numbers.{live, free_position}
use Rattle.picture.specs.Keys.{done, invalid_job, out_of_memory, bad_parameter}
use Rattle.picture.specs.declared.Table.{Table}
use Rattle.picture.specs.declared.Table.TheVariants.{Jobs}
use Rattle.picture.specs.declared.Area.TheVariants.{Transient}
use Rattle.blocks.specs.Header.{job_kind}
use Rattle.placing.specs.Place.{after}
use Rattle.placing.proofs.Answer.{after_at, after_nowhere}
use Rattle.rooms.specs.Room.{spot, room_at, header_byte}
use Rattle.rooms.proofs.Room.{placed_there}
use Rattle.calls.specs.Outcome.{refuse, succeed, Meets}
use Rattle.calls.specs.Call.{outcome}
use Rattle.calls.specs.Registers.{D1, D3, A1}
use Rattle.calls.proofs.Outcome.{meets_refuse, meets_succeed}
use Rattle.entering.specs.Entry.{has_position, has_tag, next_tag, next_number, entered}
use Rattle.creating.specs.Create.{negative, owner_found, owner_check, owner_in, least_data, job_length, created, job_registers, create}

-- whose a new job is, from the tests of the code
module _ (p : List ℕ) (n : ℕ) where
  pub found_nobody : negative n ≡ true → owner_found p n ≡ Some nobody
  unfolding owner_found
  found_nobody h = rw h

  pub found_live : negative n ≡ false → live p Jobs n ≡ true → owner_found p n ≡ Some n
  unfolding owner_found
  found_live h l = rw (h, l)

  pub found_dead : negative n ≡ false → live p Jobs n ≡ false → owner_found p n ≡ None
  unfolding owner_found
  found_dead h l = rw (h, l)

  -- what holds of no owner, of the live job named and of a dead number, each where it is found, holds of whatever is found
  pub found_each : (P : Option ℕ → Type 0) → (negative n ≡ true → P (Some nobody)) → (negative n ≡ false → live p Jobs n ≡ true → P (Some n)) → (negative n ≡ false → live p Jobs n ≡ false → P None) → P (owner_found p n)
  unfolding owner_found
  found_each P none named dead = go (negative n) refl (live p Jobs n) refl
    where
      go : (a : Bool) → negative n ≡ a → (b : Bool) → live p Jobs n ≡ b → P (cond a (Some nobody) (cond b (Some n) None))
      go true a b e = none a
      go false a true e = named a e
      go false a false e = dead a e

-- a position and a tag, from the tests of the code
module _ (p : List ℕ) (t : Table) where
  pub position_free : free_position p t < positions t → has_position p t ≡ true
  unfolding has_position
  position_free h = lt-ltb _ _ h

  pub no_position : positions t ≤ free_position p t → has_position p t ≡ false
  unfolding has_position
  no_position h = le-ltb _ _ h

  pub tag_left : word p (last_word t) < greatest_tag → has_tag p t ≡ true
  unfolding has_tag
  tag_left h = lt-ltb _ _ h

  pub no_tag : greatest_tag ≤ word p (last_word t) → has_tag p t ≡ false
  unfolding has_tag
  no_tag h = le-ltb _ _ h

-- the owner's check gives no other key than its own
pub owner_check_gives_no_other : (k : ℤ) (r : Option ℕ) → (invalid_job ≡ k → ⊥) → (owner_check r).0 ≡ false → (owner_check r).1 ≡ k → ⊥
owner_check_gives_no_other k (Some o) n f e = false_true (sym f)
owner_check_gives_no_other k None n f e = n e

module _ (p d : List ℕ) where
  pub create_dead : owner_found p (D1 d) ≡ None → outcome create p d ≡ refuse invalid_job p d
  unfolding create outcome
  create_dead h = rw h

  module _ (o : ℕ) (owned : owner_found p (D1 d) ≡ Some o) where
    pub create_bad : D3 d < least_data → outcome create p d ≡ refuse bad_parameter p d
    unfolding create outcome
    create_bad h = rw (owned, lt-leb _ _ h)

    module _ (enough : least_data ≤ D3 d) where
      pub create_no_position : has_position p Jobs ≡ false → outcome create p d ≡ refuse invalid_job p d
      unfolding create outcome
      create_no_position h = rw (owned, le-leb _ _ enough, h)

      pub create_no_tag : has_position p Jobs ≡ true → has_tag p Jobs ≡ false → outcome create p d ≡ refuse invalid_job p d
      unfolding create outcome
      create_no_tag k h = rw (owned, le-leb _ _ enough, k, h)

      module _ (place : has_position p Jobs ≡ true) (tagged : has_tag p Jobs ≡ true) where
        create_full : room_at p Transient (job_length d) ≡ None → outcome create p d ≡ refuse out_of_memory p d
        unfolding create outcome
        create_full h = rw (owned, le-leb _ _ enough, place, tagged, h)

        create_done : (i : ℕ) → room_at p Transient (job_length d) ≡ Some i → outcome create p d ≡ succeed (created p d) (job_registers (next_number p Jobs) (spot p Transient (job_length d)) d)
        unfolding create outcome
        create_done i h = rw (owned, le-leb _ _ enough, place, tagged, h)

        -- the same, from what placing leaves
        module _ (n : ℕ) (long : n ≡ job_length d) (q : List ℕ) (leaves : q ≡ after p (from p Transient) (upto p Transient) n job_kind o (A1 d)) where
          pub create_nowhere : room_at p Transient n ≡ None → Meets (outcome create p d) out_of_memory q d
          create_nowhere h =
              rw (leaves, after_nowhere p (from p Transient) (upto p Transient) n job_kind o (A1 d) h)
              (meets_refuse _ _ _ _ (create_full (rw long at h)))

          pub create_there : (r e : List ℕ) (i : ℕ) → room_at p Transient n ≡ Some i
              → r ≡ entered q Jobs (free_position p Jobs) (next_tag p Jobs) o (header_byte i) → e ≡ job_registers (next_number p Jobs) i d → Meets (outcome create p d) done r e
          unfolding created
          create_there r e i h f g =
              let s = placed_there p Transient n i h in
              rw (f, leaves, after_at p (from p Transient) (upto p Transient) n i job_kind o (A1 d) h, g)
              (meets_succeed _ _ _ (create_done i (rw long at h) ∙ rw (← long, s.1.0, ap owner_in owned)))
