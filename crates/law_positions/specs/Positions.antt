-- Demand 2 of positions (rule 71): the mask names the position that a walk over all records would come to, and there a new job or
-- a new channel stands.
use Rattle.std.specs.Prelude.{ℕ, zero, suc, ◌+◌, ◌≡◌, true, cond, List}
use Rattle.words.specs.Words.{word}
use Rattle.picture.specs.Keys.{done}
use Rattle.picture.specs.Layout.{positions}
use Rattle.picture.specs.Records.{all_zero}
use Rattle.picture.specs.Numbers.{position, free_position}
use Rattle.picture.specs.declared.Table.{Table}
use Rattle.picture.specs.declared.Table.TheVariants.{Jobs, Channels}
use Rattle.sound.specs.Sound.{sound}
use Rattle.calls.specs.Registers.{D1, A0}
use Rattle.manager.specs.Door.{called}
use Rattle.law_promises.specs.History.{Event, run}

-- a walk over n records from position k on: to the first that is all zero, or behind the last
abbrev pub walk : List ℕ → Table → ℕ → ℕ → ℕ
walk p t k zero = k
walk p t k (suc n) = cond (all_zero p t k) k (walk p t (k + 1) n)

-- the position to which a walk over all records of the table comes, the number of positions where none is all zero
unfoldable pub walked_to : List ℕ → Table → ℕ
walked_to p t = walk p t 0 (positions t)

-- THE MASK SAYS IT: the lowest clear bit is that position, after any history from any sound picture
abbrev pub TheMaskSaysIt : Type 0
TheMaskSaysIt = (p : List ℕ) → sound p ≡ true → (events : List Event) (t : Table) → free_position (run events p) t ≡ walked_to (run events p) t

-- $1 and trap 2 $1, done: the new job, whose number is in D1, and the new channel, whose number is in A0, stand there
abbrev pub ANewJobStandsThere : Type 0
ANewJobStandsThere = (p d name : List ℕ) → word d 0 ≡ 0x1 → (called 1 p d name).key ≡ done → position (D1 (called 1 p d name).registers) ≡ walked_to p Jobs

abbrev pub ANewChannelStandsThere : Type 0
ANewChannelStandsThere = (p d name : List ℕ) → word d 0 ≡ 0x1 → (called 2 p d name).key ≡ done → position (A0 (called 2 p d name).registers) ≡ walked_to p Channels
