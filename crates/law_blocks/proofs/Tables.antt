-- A picture whose longwords before the heap are the same keeps what soundness says of them.
use Prim.Native.Nat.{ℕ, ◌+◌, ◌<◌}
use mathlib.Core.Path.{◌≡◌, refl, sym, ◌∙◌}
use mathlib.Core.List.{List}
use native.Mathlib.Omega.{arith}
use lib.ListN.{length}
use Rattle.words.specs.Words.{word}
use Rattle.picture.specs.Layout.{current_word, last_word, heap_base, positions, width}
use Rattle.picture.specs.Records.{slot, field, number, owner, base, base_field, number_field, owner_field, ending_field, members}
use Rattle.picture.specs.Numbers.{live}
use Rattle.picture.specs.declared.Table.{Table}
use Rattle.picture.specs.declared.Table.TheVariants.{Jobs, Channels}
use Rattle.picture.proofs.Records.{slot_within, used_below, shared}
use Rattle.picture.proofs.Members.{holds_low, members_same}
use Rattle.sound_facts.proofs.Sound.{Sizes, Entries, Jobs_fine, Channels_fine, Current}
use Rattle.sound_facts.proofs.Same.{used_same, live_same, Lives, entries_same}
use Rattle.sound_facts.proofs.Ages.{Ages, ages_same}
use Rattle.sound_facts.proofs.Jobs.{JobsSame, jobs_kept, current_kept}
use Rattle.sound_facts.proofs.Sizes.{Fixed, sizes_kept}

-- the longwords before the heap, and the length, are the same
pub record TablesSame (p q : List ℕ) : Type 0 where
  pub words : (j : ℕ) → j < heap_base → word q j ≡ word p j
  pub long : length q ≡ length p

pub tables_still : (p : List ℕ) → TablesSame p p
tables_still p = record { words = λ j l. refl; long = refl }

module _ (p q : List ℕ) (s : TablesSame p q) where
  pub field_same : (t : Table) (k f : ℕ) → k < positions t → f < width t → field q t k f ≡ field p t k f
  field_same t k f l m = let h = slot_within t k l in s.words (slot t k + f) (omega arith)

  pub mask_same : (t : Table) → members q t ≡ members p t
  mask_same t = members_same p q t (λ j h. let l = holds_low t j h in s.words j (omega arith))

  pub last_same : (t : Table) → word q (last_word t) ≡ word p (last_word t)
  last_same Jobs = s.words (last_word Jobs) (omega arith)
  last_same Channels = s.words (last_word Channels) (omega arith)

  pub number_same : (t : Table) (k : ℕ) → k < positions t → number q t k ≡ number p t k
  number_same t k l = field_same t k number_field l (shared t number_field (omega arith))

  pub owner_same : (t : Table) (k : ℕ) → k < positions t → owner q t k ≡ owner p t k
  owner_same t k l = field_same t k owner_field l (shared t owner_field (omega arith))

  pub base_same : (t : Table) (k : ℕ) → k < positions t → base q t k ≡ base p t k
  base_same t k l = field_same t k base_field l (shared t base_field (omega arith))

  pub lives_same : (t : Table) (n : ℕ) → live q t n ≡ live p t n
  lives_same t n = live_same p q t (mask_same t) (number_same t) n

  pub lives_on : Lives p q
  lives_on n h = lives_same Jobs n ∙ h

  pub tables_age : (t : Table) → Ages p q t
  tables_age t = ages_same p q t (last_same t) (mask_same t) (number_same t)

  pub sizes_same : Sizes p → Sizes q
  sizes_same z = sizes_kept p q s.long (λ i (x : Fixed i). let l = x.low in s.words i (omega arith)) (λ t. rw (last_same t) (z.last t)) z

  table_same : (t : Table) → Entries p t → Entries q t
  table_same t E = entries_same p q t
      (record { mask = mask_same t; last = last_same t; numbers = number_same t; owners = owner_same t })
      lives_on
      (λ k f l m u. field_same t k f l m ∙ E.unused k f l m (sym (used_same p q t (mask_same t) k) ∙ u))
      E

  job_records : JobsSame p q
  job_records = record { fields = field_same Jobs; mask = mask_same Jobs; last = last_same Jobs; current = s.words current_word (omega arith) }

  pub jobs_same : Jobs_fine p → Jobs_fine q
  jobs_same = jobs_kept p q job_records

  pub channels_same : Channels_fine p → Channels_fine q
  channels_same C = record {
    entries = table_same Channels C.entries;
    one = λ k h. field_same Channels k ending_field (used_below q Channels k h) (omega arith) ∙ C.one k (sym (used_same p q Channels (mask_same Channels) k) ∙ h);
  }

  pub current_same : Current p → Current q
  current_same = current_kept p q job_records
