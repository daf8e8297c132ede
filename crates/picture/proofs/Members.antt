-- Where the set of a table's positions in use stands, and what that leaves alone. No other crate knows the longword.
use Prim.Native.Nat.{ℕ, ◌<◌, ◌≤◌, ◌^◌}
use mathlib.Core.Path.{◌≡◌, refl}
use mathlib.Core.List.{List}
use lib.ListN.{length, length-set}
use lib.Seq.{get_or-set_same, get_or-set_other}
use native.Mathlib.Omega.{arith}
use Rattle.words.specs.Words.{word}
use Rattle.masks.specs.Masks.{set_width}
use Rattle.picture.specs.Layout.{size_word, current_word, last_word, heap_word, zero_word, mask_word, first_job, heap_base, positions}
use Rattle.picture.specs.Records.{members, with_members}
use Rattle.picture.specs.declared.Table.{Table}
use Rattle.picture.specs.declared.Table.TheVariants.{Jobs, Channels}

-- longword j holds members of the table
pub Holds : Table → ℕ → Type 0
Holds t j = j ≡ mask_word t

-- longword j holds no members of the table
abbrev pub Spares : Table → ℕ → Type 0
Spares t j = Holds t j → ⊥

-- it stands before the records, and is none of the longwords that hold one number
pub holds_low : (t : Table) (j : ℕ) → Holds t j → j < first_job
unfolding Holds
holds_low Jobs j h = omega arith
holds_low Channels j h = omega arith

module _ (t : Table) where
  pub spares_size : Spares t size_word
  unfolding Holds
  spares_size = go t
    where
      go : (t : Table) → size_word ≡ mask_word t → ⊥
      go Jobs h = omega arith
      go Channels h = omega arith

  pub spares_current : Spares t current_word
  unfolding Holds
  spares_current = go t
    where
      go : (t : Table) → current_word ≡ mask_word t → ⊥
      go Jobs h = omega arith
      go Channels h = omega arith

  pub spares_heap : Spares t heap_word
  unfolding Holds
  spares_heap = go t
    where
      go : (t : Table) → heap_word ≡ mask_word t → ⊥
      go Jobs h = omega arith
      go Channels h = omega arith

  pub spares_zero : Spares t zero_word
  unfolding Holds
  spares_zero = go t
    where
      go : (t : Table) → zero_word ≡ mask_word t → ⊥
      go Jobs h = omega arith
      go Channels h = omega arith

  pub spares_last : (u : Table) → Spares t (last_word u)
  unfolding Holds
  spares_last u = go t u
    where
      go : (t u : Table) → last_word u ≡ mask_word t → ⊥
      go Jobs Jobs h = omega arith
      go Jobs Channels h = omega arith
      go Channels Jobs h = omega arith
      go Channels Channels h = omega arith

  pub spares_past : (j : ℕ) → first_job ≤ j → Spares t j
  spares_past j l h = omega (arith, holds_low t j h)

-- a set holds every position
pub positions_within : (t : Table) → positions t ≤ set_width
positions_within Jobs = omega arith
positions_within Channels = omega arith

-- a longword has a bit for every position
pub members_fit : (t : Table) (m : ℕ) → m < 4294967296 → m < 2 ^ positions t
members_fit Jobs m l = l
members_fit Channels m l = l

pub bits_of_positions : (t : Table) (k : ℕ) → k < positions t → k < 32
bits_of_positions Jobs k l = l
bits_of_positions Channels k l = l

pub fit_members : (t : Table) (m : ℕ) → m < 2 ^ positions t → m < 4294967296
fit_members Jobs m l = l
fit_members Channels m l = l

-- the two tables' sets stand apart
pub spares_other : (t u : Table) → (u ≡ t → ⊥) → (j : ℕ) → Holds u j → Spares t j
unfolding Holds
spares_other Jobs Jobs n j h = absurd (n refl)
spares_other Jobs Channels n j h = λ e. omega arith
spares_other Channels Jobs n j h = λ e. omega arith
spares_other Channels Channels n j h = absurd (n refl)

-- the set is the same where its longwords are
pub members_same : (p q : List ℕ) (t : Table) → ((j : ℕ) → Holds t j → word q j ≡ word p j) → members q t ≡ members p t
unfolding members Holds
members_same p q t h = h (mask_word t) refl

-- no member where its longwords hold 0
pub members_none : (p : List ℕ) (t : Table) → ((j : ℕ) → Holds t j → word p j ≡ 0) → members p t ≡ 0
unfolding members Holds
members_none p t h = h (mask_word t) refl

-- it lies within a picture that has its tables
pub members_within : (t : Table) (n : ℕ) → heap_base ≤ n → mask_word t < n
members_within Jobs n l = omega arith
members_within Channels n l = omega arith

-- what writing a set leaves, and what it writes
module _ (p : List ℕ) (t : Table) (m : ℕ) where
  pub length_with_members : length (with_members p t m) ≡ length p
  unfolding with_members
  length_with_members = length-set p (mask_word t) m

  pub with_members_other : (j : ℕ) → Spares t j → word (with_members p t m) j ≡ word p j
  unfolding with_members Holds
  with_members_other j n = get_or-set_other p (mask_word t) j m 0 n

  pub members_with : first_job ≤ length p → members (with_members p t m) t ≡ m
  unfolding with_members members
  members_with l = get_or-set_same p (mask_word t) m 0 (within t)
    where
      within : (t : Table) → mask_word t < length p
      within Jobs = omega arith
      within Channels = omega arith

-- the tables are two
pub jobs_apart : Jobs ≡ Channels → ⊥
jobs_apart e = absurd (let z : ◌≡◌ {A = ℕ} 0 1 = cc in omega arith)

pub channels_apart : Channels ≡ Jobs → ⊥
channels_apart e = absurd (let z : ◌≡◌ {A = ℕ} 0 1 = cc in omega arith)
