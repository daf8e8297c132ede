-- The statements of specs/Belonging.antt.
use Prim.Native.Nat.{ℕ, ◌<◌}
use mathlib.Core.Path.{◌≡◌, sym, ap, ◌∙◌}
use mathlib.Core.Bool.{true, false}
use mathlib.Core.List.{List}
use native.Mathlib.Omega.{arith}
use lib.ListN.{length}
use borrow.Author.Tests.{lt-leb, le-leb}
use Rattle.words.specs.Words.{word}
use Rattle.words.specs.Signed.{bits}
use Rattle.words.proofs.Tests.{false_true, otherwise}
use Rattle.picture.specs.Layout.{nobody}
use Rattle.picture.specs.Records.{number_field, owner}
use Rattle.picture.specs.Numbers.{position, live}
use Rattle.picture.specs.Keys.{done}
use Rattle.picture.specs.declared.Table.TheVariants.{Jobs}
use Rattle.picture.specs.declared.Area.TheVariants.{Transient}
use Rattle.picture.proofs.Numbers.{live_is, is_live}
use Rattle.sound.specs.Sound.{sound}
use Rattle.rooms.specs.Room.{spot}
use Rattle.calls.specs.Outcome.{Outcome}
use Rattle.calls.specs.Call.{outcome}
use Rattle.calls.specs.Registers.{D1}
use Rattle.entering.specs.Entry.{next_number}
use Rattle.creating.specs.Create.{owner_found, owner_check, owner_in, job_length, created, create}
use Rattle.creating.proofs.Ways.{found_nobody}
use Rattle.law_creating.proofs.Ways.{Checked, the_owner_named, create_where_done}
use Rattle.law_creating.proofs.Kept.{created_sound}
use Rattle.law_creating.proofs.New.{new_number_in_D1, new_job_was_dead, new_job_lives, new_job_owner, created_keeps_lives, created_keeps_owners}
use Rattle.law_owners.specs.Under.{Under}
use Rattle.law_owners.proofs.Owners.{nobody_is_no_job, owners_in_order}
use Rattle.manager.specs.Door.{with_key, called}
use Rattle.law_promises.specs.History.{run}
use Rattle.law_promises.specs.Ending.{top, Ends}
use Rattle.law_promises.proofs.Done.{where_the_call_is_done, where_a_job_is_made}
use Rattle.law_promises.proofs.Door.{call_keeps_sound}
use Rattle.law_promises.proofs.History.{run_keeps_sound}
use Rattle.law_promises.proofs.Ending.{ending_takes_the_tree_and_no_more}
use Rattle.law_belonging.specs.Belonging.{Belongs, new, Made, CreatingMakesAJob, NewJobBelongs, BelongsWhileItLives, GoesWith, GoesWithItsOwner, NeverOutlivesItsOwner, NegativeNamesNobody, UnownedEndsAlone}
use Rattle.law_belonging.proofs.Owners.{owners_stay}
use Rattle.law_belonging.proofs.Belongs.{belongs}
use Rattle.law_belonging.proofs.Trees.{under_there, under_before}

-- nobody is negative as a long
not_nobody : (n : ℕ) → n < 0x8000_0000 → n ≡ nobody → ⊥
not_nobody n l e = omega arith

-- the new job, what the owner's check says, and the owner in the record
record MadeBy (p d : List ℕ) (o : Outcome) : Type 0 where
  made : Made p o
  passes : (owner_check (owner_found p (D1 d))).0 ≡ true
  owned : owner o.picture Jobs (position (new o)) ≡ owner_in (owner_found p (D1 d))

module _ (p d name : List ℕ) where
  makes : length d ≡ 8 → sound p ≡ true → (outcome create p d).key ≡ done → MadeBy p d (with_key (outcome create p d))
  makes l s = create_where_done (λ (o : Outcome). MadeBy p d (with_key o)) p d (λ (c : Checked p d).
      let z = new_number_in_D1 (next_number p Jobs) (spot p Transient (job_length d)) (bits done) d l in
      let q = created_sound p d s c in
      record {
        made = record {
          is_new = rw z (otherwise (live p Jobs (next_number p Jobs)) (new_job_was_dead p d s c));
          lives = rw z (new_job_lives p d s c);
          in_the_same = under_there p (created p d) s q (created_keeps_lives p d s c Jobs) (created_keeps_owners p d s c Jobs);
          in_no_more = under_before p (created p d) s q (created_keeps_lives p d s c Jobs) (created_keeps_owners p d s c Jobs);
        };
        passes = c.owner;
        owned = rw z (new_job_owner p d s c);
      })

  made_by : word d 0 ≡ 0x1 → (called 1 p d name).key ≡ done → MadeBy p d (called 1 p d name)
  made_by e = where_a_job_is_made p d name (MadeBy p d) e makes

  -- the picture after a call that is done is sound
  sound_after : (called 1 p d name).key ≡ done → sound (called 1 p d name).picture ≡ true
  sound_after k = call_keeps_sound 1 p d name (where_the_call_is_done 1 p d name (λ (x : Outcome). sound p ≡ true) (λ _ s _ _. s) k)

pub creating_makes_a_job : CreatingMakesAJob
creating_makes_a_job p d name e k = (made_by p d name e k).made

pub new_job_belongs : NewJobBelongs
new_job_belongs p d name a k =
    let o = called 1 p d name in
    let M = made_by p d name a.0 k in
    belongs o.picture (sound_after p d name k) (new o) (D1 d) M.made.lives (M.owned ∙ (the_owner_named p (D1 d) (lt-leb _ _ a.1) M.passes).1) (not_nobody (D1 d) a.1)

pub negative_names_nobody : NegativeNamesNobody
negative_names_nobody p d name e l k = (made_by p d name e k).owned ∙ ap owner_in (found_nobody p (D1 d) (le-leb _ _ l))

pub belongs_while_it_lives : BelongsWhileItLives
belongs_while_it_lives p d name a k events l =
    let o = called 1 p d name in
    let B = new_job_belongs p d name a k in
    let s = sound_after p d name k in
    belongs (run events o.picture) (run_keeps_sound events o.picture s) (new o) (D1 d) l
    (owners_stay o.picture s Jobs (new o) events B.lives l ∙ B.in_record) (not_nobody (D1 d) a.1)

-- a job of the tree that ends is gone
taken_away : (p e : List ℕ) (o : Outcome) (n : ℕ) → live p Jobs n ≡ true → Ends p e o → Under p (top p e) (position n) → live o.picture Jobs n ≡ false
taken_away p e o n l E w = otherwise (live o.picture Jobs n) (λ m. false_true (sym (E.takes.jobs (position n) (live_is p Jobs n l).used w).unused ∙ (live_is o.picture Jobs n m).used))

-- a job outside the tree that ends lives on
left_alive : (p e : List ℕ) (o : Outcome) (n : ℕ) → live p Jobs n ≡ true → Ends p e o → (Under p (top p e) (position n) → ⊥) → live o.picture Jobs n ≡ true
left_alive p e o n l E out =
    let L = live_is p Jobs n l in
    is_live o.picture Jobs n (record {
      used = E.leaves.jobs_stay (position n) L.used out;
      names = E.leaves.jobs (position n) number_field L.used out (omega arith) (λ y. omega arith) (λ y. omega arith) (λ y. omega arith) ∙ L.names;
    })

-- what an ending does to a job that belongs to another
ended_with : (p e : List ℕ) (o : Outcome) (n m : ℕ) → Belongs p n m → Ends p e o → GoesWith p o.picture (top p e) n m
ended_with p e o n m B E =
    record {
      taken = λ w. taken_away p e o n B.lives E (B.in_each (top p e) w);
      taken_itself = λ x. taken_away p e o n B.lives E (Under.top (sym x));
      left = λ x w. left_alive p e o n B.lives E (λ u. w (B.in_no_other (top p e) x u));
    }

pub goes_with_its_owner : GoesWithItsOwner
goes_with_its_owner p d name a k events e other l asks ends =
    let o = called 1 p d name in
    let r = run events o.picture in
    ended_with r e (called 1 r e other) (new o) (D1 d) (belongs_while_it_lives p d name a k events l) (ending_takes_the_tree_and_no_more r e other asks ends)

pub never_outlives_its_owner : NeverOutlivesItsOwner
never_outlives_its_owner p d name a k events dead =
    let o = called 1 p d name in
    otherwise (live (run events o.picture) Jobs (new o)) (λ l. false_true (sym dead ∙ (belongs_while_it_lives p d name a k events l).owner_lives))

-- nobody's job is in no tree but its own
alone : (p : List ℕ) → sound p ≡ true → (n : ℕ) → owner p Jobs (position n) ≡ nobody → (t : ℕ) → (t ≡ position n → ⊥) → Under p t (position n) → ⊥
alone p s n u t m (Under.top e) = m (sym e)
alone p s n u t m (Under.owned {j = j} v e w) = nobody_is_no_job p j (owners_in_order p s) v (sym e ∙ u)

pub unowned_ends_alone : UnownedEndsAlone
unowned_ends_alone p s n a u events e name l asks ends other =
    let r = run events p in
    left_alive r e (called 1 r e name) n l (ending_takes_the_tree_and_no_more r e name asks ends)
    (alone r (run_keeps_sound events p s) n (owners_stay p s Jobs n events a l ∙ u) (top r e) other)
