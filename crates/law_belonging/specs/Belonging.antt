-- Demand 2 of owners (rules 76, 77 and 80): D1 of $1 names the owner. The new job is in that job's tree and in no tree that doesn't hold
-- that job, and an ending takes it with that job, over any history.
use Rattle.std.specs.Prelude.{ℕ, ◌*◌, ◌≤◌, ◌<◌, ◌≡◌, true, false, List}
use Rattle.words.specs.Words.{word}
use Rattle.words.specs.Each.{In}
use Rattle.picture.specs.Keys.{done}
use Rattle.picture.specs.Layout.{nobody}
use Rattle.picture.specs.Records.{owner, base, used}
use Rattle.picture.specs.Numbers.{position, live}
use Rattle.picture.specs.declared.Table.{Table}
use Rattle.picture.specs.declared.Table.TheVariants.{Jobs}
use Rattle.picture.specs.declared.Area.TheVariants.{Transient}
use Rattle.blocks.specs.Header.{holder}
use Rattle.blocks.specs.Walk.{blocks}
use Rattle.sound.specs.Sound.{sound}
use Rattle.calls.specs.Outcome.{Outcome}
use Rattle.calls.specs.Registers.{D1}
use Rattle.law_owners.specs.Under.{Under}
use Rattle.manager.specs.Door.{called}
use Rattle.law_promises.specs.History.{Event, run}
use Rattle.law_promises.specs.Ending.{top, AsksForAnEnding}

-- OWNERS STAY: no call, pick or tick hands a job or a channel to another owner, from any sound picture
abbrev pub OwnersStay : Type 0
OwnersStay = (p : List ℕ) → sound p ≡ true → (t : Table) (n : ℕ) (events : List Event) → live p t n ≡ true → live (run events p) t n ≡ true
    → owner (run events p) t (position n) ≡ owner p t (position n)

-- the job n belongs to the job o: its record and the header of its block say so; it is in every tree that holds o, which o's own does, and in no
-- other but its own
pub record Belongs (p : List ℕ) (n o : ℕ) : Type 0 where
  pub lives : live p Jobs n ≡ true
  pub owner_lives : live p Jobs o ≡ true
  pub in_record : owner p Jobs (position n) ≡ o
  pub block : ℕ
  pub its_block : base p Jobs (position n) ≡ 4 * block
  pub there : In block (blocks p Transient)
  pub in_header : holder p block ≡ o
  pub in_each : (t : ℕ) → Under p t (position o) → Under p t (position n)
  pub in_no_other : (t : ℕ) → (t ≡ position n → ⊥) → Under p t (position n) → Under p t (position o)

-- the number of the job that a $1 made
abbrev pub new : Outcome → ℕ
new o = D1 o.registers

-- the new number named nobody and names a job, and every job that was there is in the trees in which it was
pub record Made (p : List ℕ) (o : Outcome) : Type 0 where
  pub is_new : live p Jobs (new o) ≡ false
  pub lives : live o.picture Jobs (new o) ≡ true
  pub in_the_same : (t k : ℕ) → used p Jobs k ≡ true → Under p t k → Under o.picture t k
  pub in_no_more : (t k : ℕ) → used p Jobs k ≡ true → Under o.picture t k → Under p t k

-- $1, done, makes a job
abbrev pub CreatingMakesAJob : Type 0
CreatingMakesAJob = (p d name : List ℕ) → word d 0 ≡ 0x1 → (called 1 p d name).key ≡ done → Made p (called 1 p d name)

-- the registers ask for a job with an owner: $1, and D1 isn't negative as a long
abbrev pub NamesAnOwner : List ℕ → Type 0
NamesAnOwner d = (word d 0 ≡ 0x1) × (D1 d < 0x8000_0000)

-- P holds of every such call that is done, of the registers before it and of what it comes to
abbrev pub OfEachMaking : (List ℕ → Outcome → Type 0) → Type 0
OfEachMaking P = (p d name : List ℕ) → NamesAnOwner d → (called 1 p d name).key ≡ done → P d (called 1 p d name)

-- A NEW JOB BELONGS TO THE JOB THAT D1 NAMES
abbrev pub NewJobBelongs : Type 0
NewJobBelongs = OfEachMaking (λ d o. Belongs o.picture (new o) (D1 d))

-- so it does after any history, as long as it lives
abbrev pub BelongsWhileItLives : Type 0
BelongsWhileItLives = OfEachMaking (λ d o. (events : List Event) → live (run events o.picture) Jobs (new o) ≡ true → Belongs (run events o.picture) (new o) (D1 d))

-- an ending of the tree of the job at position t, from the picture p to q, takes the job n of the job o where that tree holds o or is n's own, and
-- leaves it elsewhere
pub record GoesWith (p q : List ℕ) (t n o : ℕ) : Type 0 where
  pub taken : Under p t (position o) → live q Jobs n ≡ false
  pub taken_itself : t ≡ position n → live q Jobs n ≡ false
  pub left : (t ≡ position n → ⊥) → (Under p t (position o) → ⊥) → live q Jobs n ≡ true

-- ENDING TAKES IT WITH ITS OWNER, after any history through which it lives
abbrev pub GoesWithItsOwner : Type 0
GoesWithItsOwner = OfEachMaking (λ d o. (events : List Event) (e name : List ℕ) → live (run events o.picture) Jobs (new o) ≡ true
    → AsksForAnEnding e → (called 1 (run events o.picture) e name).key ≡ done
    → GoesWith (run events o.picture) (called 1 (run events o.picture) e name).picture (top (run events o.picture) e) (new o) (D1 d))

-- so it never outlives its owner
abbrev pub NeverOutlivesItsOwner : Type 0
NeverOutlivesItsOwner = OfEachMaking (λ d o. (events : List Event) → live (run events o.picture) Jobs (D1 d) ≡ false → live (run events o.picture) Jobs (new o) ≡ false)

-- where D1 is negative nobody owns the new job
abbrev pub NegativeNamesNobody : Type 0
NegativeNamesNobody = (p d name : List ℕ) → word d 0 ≡ 0x1 → 0x8000_0000 ≤ D1 d → (called 1 p d name).key ≡ done
    → owner (called 1 p d name).picture Jobs (position (new (called 1 p d name))) ≡ nobody

-- NOBODY'S JOB ENDS ALONE: a job that nobody owns is left by every ending but its own, after any history from any sound picture through which it lives
abbrev pub UnownedEndsAlone : Type 0
UnownedEndsAlone = (p : List ℕ) → sound p ≡ true → (n : ℕ) → live p Jobs n ≡ true → owner p Jobs (position n) ≡ nobody
    → (events : List Event) (e name : List ℕ) → live (run events p) Jobs n ≡ true
    → AsksForAnEnding e → (called 1 (run events p) e name).key ≡ done → (top (run events p) e ≡ position n → ⊥)
    → live (called 1 (run events p) e name).picture Jobs n ≡ true
