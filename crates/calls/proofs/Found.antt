-- A number's check passes exactly where the number is live, and what is found is then the entry at its position.
use Prim.Native.Nat.{ℕ, ◌<◌}
use mathlib.Core.Path.{◌≡◌, refl, sym}
use mathlib.Core.Bool.{Bool, true, false, cond}
use mathlib.Core.List.{List}
use native.Mathlib.Omega.{arith}
use lib.IntN.{ℤ}
use Rattle.words.proofs.Tests.{false_true}
use Rattle.picture.specs.Keys.{done, invalid_job, channel_not_open}
use Rattle.picture.specs.Layout.{positions}
use Rattle.picture.specs.Records.{number, used}
use Rattle.std.proofs.Common.{Option, Some, None}
use Rattle.picture.specs.Numbers.{position, live, entry_at, job_at, channel_at}
use Rattle.picture.specs.declared.Table.{Table}
use Rattle.picture.specs.declared.Table.TheVariants.{Jobs, Channels}
use Rattle.picture.proofs.Records.{used_below}
use Rattle.picture.proofs.Numbers.{live_is}
use Rattle.calls.specs.Found.{job_check, channel_check, place_of_job, place_of_channel}

-- the number n names the live entry at position k of the table
pub record Found (p : List ℕ) (t : Table) (n k : ℕ) : Type 0 where
  pub lives : live p t n ≡ true
  pub place : position n ≡ k
  pub within : k < positions t
  pub used : used p t k ≡ true
  pub names : number p t k ≡ n

found_by : (p : List ℕ) (t : Table) (n k : ℕ) → live p t n ≡ true → position n ≡ k → Found p t n k
found_by p t n k l z =
    let w = live_is p t n l in
    record { lives = l; place = z; within = rw z at (used_below p t (position n) w.used); used = rw z at w.used; names = rw z at w.names }

module _ (p : List ℕ) (t : Table) (n : ℕ) where
  pub entry_found : (k : ℕ) → entry_at p t n ≡ Some k → Found p t n k
  unfolding entry_at
  entry_found k h = go (live p t n) refl h
    where
      go : (b : Bool) → live p t n ≡ b → cond b (Some (position n)) None ≡ Some k → Found p t n k
      go true l e = found_by p t n k l cc
      go false l e = absurd (let z : ◌≡◌ {A = ℕ} 0 1 = cc in omega arith)

  pub entry_dead : entry_at p t n ≡ None → live p t n ≡ false
  unfolding entry_at
  entry_dead h = go (live p t n) h
    where
      go : (b : Bool) → cond b (Some (position n)) None ≡ None → b ≡ false
      go true e = absurd (let z : ◌≡◌ {A = ℕ} 0 1 = cc in omega arith)
      go false e = refl

module _ (p : List ℕ) (n : ℕ) where
  pub job_found : (k : ℕ) → job_at p n ≡ Some k → Found p Jobs n k
  job_found = entry_found p Jobs n

  pub job_dead : job_at p n ≡ None → live p Jobs n ≡ false
  job_dead = entry_dead p Jobs n

  pub channel_found : (k : ℕ) → channel_at p n ≡ Some k → Found p Channels n k
  channel_found = entry_found p Channels n

  -- a live number's place is its position
  pub job_stands : live p Jobs n ≡ true → place_of_job p n ≡ position n
  unfolding entry_at
  job_stands h = rw h

  pub channel_stands : live p Channels n ≡ true → place_of_channel p n ≡ position n
  unfolding entry_at
  channel_stands h = rw h

  pub live_job_passes : live p Jobs n ≡ true → job_check (job_at p n) ≡ (true, done)
  unfolding entry_at
  live_job_passes h = rw h

  pub job_that_passes_is_live : (job_check (job_at p n)).0 ≡ true → live p Jobs n ≡ true
  unfolding entry_at
  job_that_passes_is_live h = go (live p Jobs n) h
    where
      go : (b : Bool) → (job_check (cond b (Some (position n)) None)).0 ≡ true → b ≡ true
      go true e = refl
      go false e = e

  pub live_channel_passes : live p Channels n ≡ true → channel_check (channel_at p n) ≡ (true, done)
  unfolding entry_at
  live_channel_passes h = rw h

  pub dead_channel_fails : live p Channels n ≡ false → channel_check (channel_at p n) ≡ (false, channel_not_open)
  unfolding entry_at
  dead_channel_fails h = rw h

  pub channel_that_passes_is_live : (channel_check (channel_at p n)).0 ≡ true → live p Channels n ≡ true
  unfolding entry_at
  channel_that_passes_is_live h = go (live p Channels n) h
    where
      go : (b : Bool) → (channel_check (cond b (Some (position n)) None)).0 ≡ true → b ≡ true
      go true e = refl
      go false e = e

-- it gives no other key than its own
pub job_check_gives_no_other : (k : ℤ) (r : Option ℕ) → (invalid_job ≡ k → ⊥) → (job_check r).0 ≡ false → (job_check r).1 ≡ k → ⊥
job_check_gives_no_other k (Some i) n f e = false_true (sym f)
job_check_gives_no_other k None n f e = n e

pub channel_check_gives_no_other : (k : ℤ) (r : Option ℕ) → (channel_not_open ≡ k → ⊥) → (channel_check r).0 ≡ false → (channel_check r).1 ≡ k → ⊥
channel_check_gives_no_other k (Some i) n f e = false_true (sym f)
channel_check_gives_no_other k None n f e = n e
