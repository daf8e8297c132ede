-- What leaves the longwords of the sizes alone keeps what soundness says of them.
use Prim.Native.Nat.{ℕ, ◌≤◌, ◌<◌}
use mathlib.Core.Path.{◌≡◌, sym, ◌∙◌}
use mathlib.Core.List.{List}
use native.Mathlib.Omega.{arith}
use lib.ListN.{length}
use Rattle.words.specs.Words.{word}
use Rattle.picture.specs.Layout.{size_word, current_word, last_word, greatest_tag, heap_word, zero_word, first_job}
use Rattle.picture.specs.declared.Table.{Table}
use Rattle.picture.specs.declared.Table.TheVariants.{Jobs, Channels}
use Rattle.picture.proofs.Members.{Spares, spares_size, spares_heap, spares_zero}
use Rattle.sound_facts.proofs.Sound.{Sizes}

-- longword i stands before the tables and holds neither who is current, nor a set of positions, nor a last tag: no call writes it
pub record Fixed (i : ℕ) : Type 0 where
  pub low : i < first_job
  pub not_current : i ≡ current_word → ⊥
  pub spared : (t : Table) → Spares t i
  pub no_tag : (t : Table) → i ≡ last_word t → ⊥

pub size_fixed : Fixed size_word
size_fixed = record { low = omega arith; not_current = λ e. omega arith; spared = λ t. spares_size t; no_tag = elim [ Jobs ↦ λ e. omega arith | Channels ↦ λ e. omega arith ] }

pub heap_fixed : Fixed heap_word
heap_fixed = record { low = omega arith; not_current = λ e. omega arith; spared = λ t. spares_heap t; no_tag = elim [ Jobs ↦ λ e. omega arith | Channels ↦ λ e. omega arith ] }

zero_fixed : Fixed zero_word
zero_fixed = record { low = omega arith; not_current = λ e. omega arith; spared = λ t. spares_zero t; no_tag = elim [ Jobs ↦ λ e. omega arith | Channels ↦ λ e. omega arith ] }

pub sizes_kept : (p q : List ℕ) → length q ≡ length p → ((i : ℕ) → Fixed i → word q i ≡ word p i) → ((t : Table) → word q (last_word t) ≤ greatest_tag) → Sizes p → Sizes q
sizes_kept p q long same last z =
    let h = same heap_word heap_fixed in
    record {
      long = same size_word size_fixed ∙ z.long ∙ sym long;
      least = rw long z.least;
      most = rw long z.most;
      fours = rw long z.fours;
      heap_fours = rw h z.heap_fours;
      heap_least = rw h z.heap_least;
      heap_most = rw (h, long) z.heap_most;
      nought = same zero_word zero_fixed ∙ z.nought;
      last = last;
    }
