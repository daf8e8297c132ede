-- The new job: its number is in D1, was dead and is live, and its record names the owner found; every other entry lives on and keeps its owner.
use Prim.Native.Nat.{ℕ}
use mathlib.Core.Path.{◌≡◌, ap, ◌∙◌}
use mathlib.Core.Bool.{true}
use mathlib.Core.List.{List}
use native.Mathlib.Omega.{arith}
use lib.ListN.{length}
use lib.Seq.{get_or-set_same, get_or-set_other}
use Rattle.words.specs.Words.{put}
use Rattle.picture.specs.Records.{owner}
use Rattle.picture.specs.Numbers.{position, live}
use Rattle.picture.specs.declared.Table.{Table}
use Rattle.picture.specs.declared.Table.TheVariants.{Jobs}
use Rattle.sound.specs.Sound.{sound}
use Rattle.rooms.specs.Room.{header_byte, first_byte}
use Rattle.calls.specs.Registers.{D1}
use Rattle.entering.specs.Entry.{next_tag, next_number}
use Rattle.law_entering.proofs.Written.{Entered}
use Rattle.law_entering.proofs.Kept.{number_position, lives_in_both, owner_stays, new_is_live, new_was_dead}
use Rattle.creating.specs.Create.{owner_found, owner_in, created, job_registers}
use Rattle.law_creating.proofs.Ways.{Checked}
use Rattle.law_creating.proofs.Made as the

-- D1 after the call
pub new_number_in_D1 : (n i v : ℕ) (d : List ℕ) → length d ≡ 8 → D1 (put (job_registers n i d) 0 v) ≡ n
unfolding job_registers
new_number_in_D1 n i v d l =
    get_or-set_other (put (put d 1 n) 4 (first_byte i)) 0 1 v 0 (λ e. omega arith)
    ∙ get_or-set_other (put d 1 n) 4 1 (first_byte i) 0 (λ e. omega arith)
    ∙ get_or-set_same d 1 n 0 (omega arith)

module _ (p d : List ℕ) (h : sound p ≡ true) (c : Checked p d) where
  E : Entered p (created p d) Jobs (the.place p d h c) (next_tag p Jobs) (the.owner p d h c) (header_byte (the.at p d h c))
  E = the.made_entry p d h c

  new_position : position (next_number p Jobs) ≡ the.place p d h c
  new_position = number_position (next_tag p Jobs) (the.place p d h c) (let t = the.place_there p d h c in omega arith)

  pub new_job_was_dead : live p Jobs (next_number p Jobs) ≡ true → ⊥
  new_job_was_dead = new_was_dead p (created p d) Jobs (the.place p d h c) (next_tag p Jobs) (the.owner p d h c) (header_byte (the.at p d h c)) E (the.place_there p d h c) (the.place_vacant p d h c) (omega arith) (the.S p d h c).jobs.entries

  pub new_job_lives : live (created p d) Jobs (next_number p Jobs) ≡ true
  new_job_lives = new_is_live p (created p d) Jobs (the.place p d h c) (next_tag p Jobs) (the.owner p d h c) (header_byte (the.at p d h c)) E (the.place_there p d h c) (the.place_vacant p d h c)

  pub new_job_owner : owner (created p d) Jobs (position (next_number p Jobs)) ≡ owner_in (owner_found p (D1 d))
  new_job_owner = ap (owner (created p d) Jobs) new_position ∙ E.its_owner

  pub created_keeps_owners : (t : Table) (n : ℕ) → live p t n ≡ true → owner (created p d) t (position n) ≡ owner p t (position n)
  created_keeps_owners = owner_stays p (created p d) Jobs (the.place p d h c) (next_tag p Jobs) (the.owner p d h c) (header_byte (the.at p d h c)) E (the.place_there p d h c) (the.place_vacant p d h c)

  pub created_keeps_lives : (t : Table) (n : ℕ) → live p t n ≡ true → live (created p d) t n ≡ true
  created_keeps_lives = lives_in_both p (created p d) Jobs (the.place p d h c) (next_tag p Jobs) (the.owner p d h c) (header_byte (the.at p d h c)) E (the.place_there p d h c) (the.place_vacant p d h c)
