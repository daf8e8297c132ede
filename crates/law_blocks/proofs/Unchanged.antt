-- A change to the blocks of one area that leaves the tables alone keeps a sound picture sound,
-- if what comes is fine and neither what comes nor what goes is a table's block.
use Prim.Native.Nat.{ℕ, ◌<◌}
use mathlib.Core.Path.{◌≡◌, sym, ◌∙◌}
use mathlib.Core.Bool.{true}
use mathlib.Core.Logic.{⊎_elim, inl}
use mathlib.Core.List.{List}
use Rattle.picture.specs.Layout.{positions}
use Rattle.picture.specs.declared.Table.{Table}
use Rattle.picture.specs.declared.Area.{Area}
use Rattle.blocks.specs.Header.{kind, kind_of}
use Rattle.sound_matching.specs.Match.{area_of, has_block}
use Rattle.sound_facts.proofs.Sound.{Sound}
use Rattle.sound_facts.proofs.Same.{has_block_same}
use Rattle.rooms.proofs.Sizes.{Lies}
use Rattle.law_blocks.proofs.Tables.{TablesSame, mask_same, base_same, owner_same, lives_on, sizes_same, jobs_same, channels_same, current_same}
use Rattle.law_blocks.proofs.Moved.{Fine}
use Rattle.law_blocks.proofs.Change.{Change, change_tiled, change_standing, change_homes}
use Rattle.law_blocks.proofs.Matching.{Still, Rematched, still_matched}

-- no entry and block are new
abbrev NoPair : ℕ → ℕ → Type 0
NoPair k i = ⊥

module _ (p q : List ℕ) (a : Area) (New Goes : ℕ → Type 0) (S : Sound p) (lies : (b : Area) → Lies p b) (s : TablesSame p q) (C : Change p q a New Goes)
    (fine : (i : ℕ) → New i → Fine q a i) (no-entry : (t : Table) (i : ℕ) → New i → kind q i ≡ kind_of t → ⊥) (no-home : (t : Table) (i : ℕ) → Goes i → kind p i ≡ kind_of t → ⊥) where
  still : (t : Table) (k : ℕ) → k < positions t → has_block p t k ≡ true → Still p q t k
  still t k l c = record { before = c; now_too = has_block_same p q t (mask_same p q s t) k ∙ c; base_as_was = base_same p q s t k l; owner_as_was = owner_same p q s t k l }

  rematched : (t : Table) → Rematched p q t NoPair
  rematched t = record {
    entries = λ k l c. inl (still t k l (sym (has_block_same p q t (mask_same p q s t) k) ∙ c));
    homes = λ k i h m o. ⊎_elim (λ b. b) (λ (g : (a ≡ area_of t) × Goes i). absurd (no-home t i g.1 o.sorts)) (change_homes p q a New Goes C lies S.tiled t i m o.sorts);
    standing = λ i m z. ⊎_elim inl (λ (n : (a ≡ area_of t) × New i). absurd (no-entry t i n.1 z)) (change_standing p q a New Goes C lies S.tiled t i m z);
    heirs = λ k i l b o. still t k l o.has;
    new_matches = λ k i n. absurd n;
    new_block = λ k i n. absurd n;
    once = λ j k i n. absurd n;
  }

  pub change_keeps_sound : Sound q
  change_keeps_sound = record {
    sizes = sizes_same p q s S.sizes;
    jobs = jobs_same p q s S.jobs;
    channels = channels_same p q s S.channels;
    tiled = change_tiled p q a New Goes C lies S.tiled (lives_on p q s) fine;
    matched = λ t. still_matched p q t NoPair (rematched t) (S.matched t);
    current = current_same p q s S.current;
  }
