-- A record is fine: it keeps every rule of document 01, in use or not.
use Prim.Native.Nat.{ℕ, ◌<◌, ◌≤◌}
use mathlib.Core.Path.{◌≡◌, refl, sym, ◌∙◌}
use mathlib.Core.Bool.{Bool, true, false, ◌&&◌, not}
use mathlib.Core.Logic.{⊎_elim}
use mathlib.Core.List.{List}
use native.Mathlib.Omega.{arith}
use lib.Dec.{leb, eqb}
use borrow.Author.Tests.{eqb-true, eqb-false, ne_eqb, leb-true, le-leb, not-true}
use Rattle.words.proofs.Tests.{both, parts, both_true, either, failing, false_true, fails_right}
use Rattle.picture.specs.Records.{all_zero, base, number, used}
use Rattle.picture.specs.declared.Table.{Table}
use Rattle.picture.specs.declared.Table.TheVariants.{Jobs, Channels}
use Rattle.picture.proofs.Records.{shared, all_zero_at}
use Rattle.sound_matching.specs.Match.{first, has_block}
use Rattle.sound_records.specs.Rules.{zero_base, priority_within, accumulated_within, timeout_within, ends_in_one, blank, positioned, zero_exists, tag_within, tag_once, owner_live, owner_older, zero_unowned, tag_given, wait_allowed, idle_zero}
use Rattle.sound_records.proofs.Used.{has_block_used}
use Rattle.sound_entries.specs.Entries.{entry_fine, zero_fine, live_fine, blank_fine, record_fine}

-- the rules of a record of either table, of a job and of a channel
pub record Entry (p : List ℕ) (t : Table) (k : ℕ) : Type 0 where
  pub unused : blank p t k ≡ true
  pub place : positioned p t k ≡ true
  pub tagged : tag_within p t k ≡ true
  pub once : tag_once p t k ≡ true
  pub owner : owner_live p t k ≡ true
  pub given : tag_given p t k ≡ true

pub record Job (p : List ℕ) (k : ℕ) : Type 0 where
  pub entry : Entry p Jobs k
  pub nought : zero_exists p k ≡ true
  pub base : zero_base p k ≡ true
  pub unowned : zero_unowned p k ≡ true
  pub priority : priority_within p k ≡ true
  pub accumulated : accumulated_within p k ≡ true
  pub timeout : timeout_within p k ≡ true
  pub older : owner_older p k ≡ true
  pub waits : wait_allowed p k ≡ true
  pub idle : idle_zero p k ≡ true

pub record Channel (p : List ℕ) (k : ℕ) : Type 0 where
  pub entry : Entry p Channels k
  pub ending : ends_in_one p k ≡ true

module _ (p : List ℕ) (t : Table) (k : ℕ) where
  live_then : used p t k ≡ true → record_fine p t k ≡ true → (live_fine p t k ≡ true) × (tag_once p t k ≡ true)
  unfolding record_fine
  live_then u h = both (live_fine p t k) (tag_once p t k) (rw u at h)

  blank_then : used p t k ≡ false → record_fine p t k ≡ true → (first t ≤ k) × (all_zero p t k ≡ true)
  unfolding record_fine blank_fine
  blank_then u h = let a = both (leb (first t) k) (all_zero p t k) (rw u at h) in (leb-true (first t) k a.0, a.1)

  then_live : used p t k ≡ true → live_fine p t k ≡ true → tag_once p t k ≡ true → record_fine p t k ≡ true
  unfolding record_fine
  then_live u h o = rw (u, h, o)

  then_blank : used p t k ≡ false → first t ≤ k → all_zero p t k ≡ true → record_fine p t k ≡ true
  unfolding record_fine blank_fine
  then_blank u l z = rw (u, le-leb (first t) k l, z)

  -- in use: the rules of the fine entry, and the other way round
  used_entry : used p t k ≡ true → entry_fine p t k ≡ true → tag_once p t k ≡ true → Entry p t k
  unfolding entry_fine blank
  used_entry u h o =
      record { unused = rw u; place = search parts; tagged = search parts; once = o; owner = search parts; given = search parts }

  entry_used : Entry p t k → entry_fine p t k ≡ true
  unfolding entry_fine
  entry_used e = search both_true depth 12

  -- not in use: zeros keep them all
  unused_entry : used p t k ≡ false → all_zero p t k ≡ true → Entry p t k
  unfolding blank positioned tag_within tag_once owner_live tag_given has_block
  unused_entry u z = record {
    unused = rw (u, z);
    place = rw u;
    tagged = rw (fails_right (leb (first t) k) (used p t k) u);
    once = rw u;
    owner = rw u;
    given = rw u;
  }

  entry_unused : used p t k ≡ false → Entry p t k → all_zero p t k ≡ true
  unfolding blank
  entry_unused u e = failing (used p t k) (all_zero p t k) e.unused u

-- a position that is not 0
at_least : (k : ℕ) → not (eqb k 0) ≡ true → 1 ≤ k
at_least k h = let z = eqb-false k 0 (not-true _ h) in omega arith

module _ (p : List ℕ) (k : ℕ) where
  live_job : used p Jobs k ≡ true → live_fine p Jobs k ≡ true → tag_once p Jobs k ≡ true → Job p k
  unfolding live_fine zero_fine
  live_job u l o = search (parts, used_entry p Jobs k) depth 16

  job_live : Job p k → live_fine p Jobs k ≡ true
  unfolding live_fine zero_fine
  job_live j = search (both_true, entry_used p Jobs k) depth 16

  blank_job : used p Jobs k ≡ false → 1 ≤ k → all_zero p Jobs k ≡ true → Job p k
  unfolding zero_exists zero_base zero_unowned priority_within accumulated_within timeout_within owner_older wait_allowed idle_zero
  blank_job u l z =
      let n : eqb k 0 ≡ false = ne_eqb k 0 (λ e. omega arith) in
      let nought = all_zero_at p Jobs k z in
      record {
        entry = unused_entry p Jobs k u z;
        nought = rw n;
        base = rw n;
        unowned = rw n;
        priority = rw (nought 3 (omega arith));
        accumulated = rw (nought 4 (omega arith));
        timeout = rw (nought 5 (omega arith));
        older = rw u;
        waits = rw (nought 6 (omega arith));
        idle = rw (nought 4 (omega arith));
      }

  -- only job 0 must be in use
  job_blank : used p Jobs k ≡ false → Job p k → 1 ≤ k
  unfolding zero_exists
  job_blank u j = ⊎_elim (at_least k) (λ (h : used p Jobs k && eqb (number p Jobs k) 0 ≡ true). absurd (false_true (sym u ∙ (both _ _ h).0))) (either _ _ j.nought)

  pub job_is : record_fine p Jobs k ≡ true → Job p k
  job_is h = go (used p Jobs k) refl
    where
      go : (b : Bool) → used p Jobs k ≡ b → Job p k
      go true u = let l = live_then p Jobs k u h in live_job u l.0 l.1
      go false u = let l = blank_then p Jobs k u h in blank_job u l.0 l.1

  pub is_job : Job p k → record_fine p Jobs k ≡ true
  is_job j = go (used p Jobs k) refl
    where
      go : (b : Bool) → used p Jobs k ≡ b → record_fine p Jobs k ≡ true
      go true u = then_live p Jobs k u (job_live j) j.entry.once
      go false u = then_blank p Jobs k u (job_blank u j) (entry_unused p Jobs k u j.entry)

  pub channel_is : record_fine p Channels k ≡ true → Channel p k
  unfolding live_fine ends_in_one
  channel_is h = go (used p Channels k) refl
    where
      go : (b : Bool) → used p Channels k ≡ b → Channel p k
      go true u = let l = live_then p Channels k u h in let a = both _ _ l.0 in record { entry = used_entry p Channels k u a.0 l.1; ending = a.1 }
      go false u = record { entry = unused_entry p Channels k u (blank_then p Channels k u h).1; ending = rw u }

  pub is_channel : Channel p k → record_fine p Channels k ≡ true
  unfolding live_fine
  is_channel c = go (used p Channels k) refl
    where
      go : (b : Bool) → used p Channels k ≡ b → record_fine p Channels k ≡ true
      go true u = then_live p Channels k u (rw (entry_used p Channels k c.entry, c.ending)) c.entry.once
      go false u = then_blank p Channels k u (omega arith) (entry_unused p Channels k u c.entry)

  -- an entry of the table past those that have no block
  past_first : (t : Table) → record_fine p t k ≡ true → 0 < base p t k → first t ≤ k
  unfolding zero_base
  past_first Channels r c = omega arith
  past_first Jobs r c = ⊎_elim (at_least k) (λ (e : eqb (base p Jobs k) 0 ≡ true). let z = eqb-true (base p Jobs k) 0 e in absurd (omega arith)) (either _ _ (job_is r).base)

  -- a fine record that says where a block is: an entry that has a block
  pub placed_has_block : (t : Table) → record_fine p t k ≡ true → 0 < base p t k → has_block p t k ≡ true
  placed_has_block t h b = go (used p t k) refl
    where
      go : (a : Bool) → used p t k ≡ a → has_block p t k ≡ true
      go true u = has_block_used p t k u ∙ le-leb (first t) k (past_first t h b)
      go false u = let z = all_zero_at p t k (blank_then p t k u h).1 2 (shared t 2 (omega arith)) in absurd (omega arith)
