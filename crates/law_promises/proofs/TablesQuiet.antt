-- Creating and ending jobs, opening and closing channels: quiet for every job that stands.
use Prim.Native.Nat.{ℕ, ◌+◌, ◌≤◌, ◌<◌}
use mathlib.Core.Path.{◌≡◌, refl, sym, ap, ◌∙◌}
use mathlib.Core.Bool.{Bool, true, false}
use mathlib.Core.Logic.{⊎_elim, ◌⊎◌, inl, inr}
use mathlib.Core.List.{List}
use lib.ListN.{length}
use native.Mathlib.Omega.{arith}
use Rattle.words.specs.Bits.{bit}
use Rattle.words.proofs.Tests.{false_true}
use Rattle.picture.specs.Layout.{heap_base, positions, from, upto}
use Rattle.picture.specs.Records.{slot, priority, accumulated, used, ready, accumulated_field, priority_field}
use Rattle.picture.specs.Numbers.{position, live}
use Rattle.picture.specs.declared.Table.TheVariants.{Jobs, Channels}
use Rattle.picture.specs.declared.Area.TheVariants.{Heap}
use Rattle.picture.proofs.Members.{spares_past}
use Rattle.headers.proofs.Header.{same_or_not}
use Rattle.freeing.specs.Sweep.{swept}
use Rattle.sound.specs.Sound.{sound}
use Rattle.sound_facts.proofs.Sound.{Sizes, Sound}
use Rattle.sound_facts.proofs.View.{view}
use Rattle.rooms.specs.Room.{header_byte}
use Rattle.rooms.proofs.Sizes.{areas_lie_in_a_sound_picture}
use Rattle.calls.specs.Found.{job_position}
use Rattle.calls.specs.Outcome.{Outcome}
use Rattle.calls.specs.Call.{outcome}
use Rattle.calls.specs.Registers.{A0, D1, D3, meant}
use Rattle.law_blocks.proofs.Tables.{TablesSame}
use Rattle.law_blocks.proofs.Freeing.{giving_back_keeps_the_tables}
use Rattle.channels.specs.Effects.{queue_of, closed}
use Rattle.channels.specs.Calls.{close_channel}
use Rattle.channels.proofs.Found.{live_below}
use Rattle.law_channels.proofs.Forgotten.{Forgotten, forgotten_is}
use Rattle.law_channels.proofs.Close.{close_channel_ways}
use Rattle.law_picks.specs.Stretch.{Stands, Quiet}
use Rattle.tree.specs.Tree.{tree}
use Rattle.emptying.specs.Taken.{channels_of}
use Rattle.ending.specs.Ended.{ended}
use Rattle.ending.specs.Remove.{remove, force_remove}
use Rattle.law_ending.proofs.Taken.{Taken, taken_gains}
use Rattle.law_ending.proofs.Sound.{ended_tables}
use Rattle.law_ending.proofs.Calls.{of_remove, of_force_remove}
use Rattle.entering.specs.Entry.{next_tag}
use Rattle.law_entering.proofs.Written.{Entered}
use Rattle.law_entering.proofs.Kept.{field_old}
use Rattle.creating.specs.Create.{created, create}
use Rattle.law_creating.proofs.Ways as creating
use Rattle.law_creating.proofs.Made as the
use Rattle.law_turns.proofs.Pick.{ready_used}
use Rattle.names.specs.Names.{number_in, named}
use Rattle.opening.specs.Effects.{opened}
use Rattle.opening.specs.Calls.{open_channel}
use Rattle.law_opening.proofs.Ways.{Checked, open_channel_ways}
use Rattle.law_opening.proofs.Opened.{jobs_same}
use Rattle.sound_facts.proofs.Jobs.{JobsSame}
use Rattle.law_picks.proofs.Quiet.{nothing_is_quiet}

-- what is quiet: every accumulated of the table is kept
kept_below_is_quiet : (j : ℕ) → j < positions Jobs → (p q : List ℕ) → ((i : ℕ) → i < positions Jobs → accumulated q i ≡ accumulated p i) → Quiet j p q
kept_below_is_quiet j l p q same = record { own = omega (arith, same j l); others = λ i m ne. omega (arith, same i m) }

-- a channel is closed: its block, then its entry
closed_keeps : (p : List ℕ) (n : ℕ) → sound p ≡ true → live p Channels n ≡ true → (i : ℕ) → i < positions Jobs → accumulated (closed p (position n)) i ≡ accumulated p i
unfolding closed
closed_keeps p n s l i m =
    let S : Sound p = view p s in
    let B : TablesSame p (swept p (from p Heap) (upto p Heap) 0 (queue_of p (position n))) = giving_back_keeps_the_tables p Heap (queue_of p (position n)) (S.tiled Heap) (areas_lie_in_a_sound_picture p s Heap) in
    let w : heap_base ≤ length (swept p (from p Heap) (upto p Heap) 0 (queue_of p (position n))) = (let z = S.sizes.least in rw B.long (omega arith)) in
    let F : Forgotten (swept p (from p Heap) (upto p Heap) 0 (queue_of p (position n))) (closed p (position n)) Channels (position n) = forgotten_is (swept p (from p Heap) (upto p Heap) 0 (queue_of p (position n))) Channels (position n) (live_below p n l) w in
    F.other (slot Jobs i + accumulated_field) (inl (omega arith)) (spares_past Channels (slot Jobs i + accumulated_field) (omega arith)) ∙ B.words (slot Jobs i + accumulated_field) (omega arith)

pub close_channel_is_quiet : (j : ℕ) → j < positions Jobs → (p d : List ℕ) → sound p ≡ true → Quiet j p (outcome close_channel p d).picture
close_channel_is_quiet j l p d s = close_channel_ways (λ (o : Outcome). Quiet j p o.picture) p d (λ k. nothing_is_quiet j p)
    (λ a. kept_below_is_quiet j l p (closed p (position (A0 d))) (closed_keeps p (A0 d) s a))

-- a channel is opened: the jobs' records are the same
pub open_channel_is_quiet : (j : ℕ) → j < positions Jobs → (p d name : List ℕ) → sound p ≡ true → Quiet j p (outcome (open_channel name) p d).picture
open_channel_is_quiet j l p d name s = open_channel_ways (λ (o : Outcome). Quiet j p o.picture) p d name (λ k. nothing_is_quiet j p)
    (λ (c : Checked p d name). kept_below_is_quiet j l p (opened p (meant p (D1 d)) (number_in (named name)))
    (λ i m. (jobs_same p (meant p (D1 d)) (number_in (named name)) s c.place c.tagged c.room).fields i accumulated_field m (omega arith)))

-- a job is created: its accumulated is 0, at a position that was free
module _ (p d : List ℕ) (s : sound p ≡ true) (c : creating.Checked p d) where
  abbrev k : ℕ
  k = the.place p d s c

  E : Entered p (created p d) Jobs k (next_tag p Jobs) (the.owner p d s c) (header_byte (the.at p d s c))
  E = the.made_entry p d s c

  created_keeps : (i : ℕ) → i < positions Jobs → (i ≡ k → ⊥) → accumulated (created p d) i ≡ accumulated p i
  created_keeps i l n = field_old p (created p d) Jobs k (next_tag p Jobs) (the.owner p d s c) (header_byte (the.at p d s c)) E (the.place_there p d s c) (the.place_vacant p d s c) i accumulated_field l (omega arith) n

  created_zero : accumulated (created p d) k ≡ 0
  created_zero = E.its_rest accumulated_field (omega arith) (omega arith)

  created_gains_nothing : (i : ℕ) → i < positions Jobs → accumulated (created p d) i ≤ accumulated p i
  created_gains_nothing i l = ⊎_elim
      (λ (e : i ≡ k). let z : accumulated (created p d) i ≡ 0 = ap (accumulated (created p d)) e ∙ created_zero in omega (arith, z))
      (λ (n : i ≡ k → ⊥). omega (arith, created_keeps i l n))
      (same_or_not i k)

  created_is_quiet : (n j g : ℕ) → j < positions Jobs → Stands n j g p → Quiet j p (created p d)
  created_is_quiet n j g l st =
      let u : used p Jobs j ≡ true = ready_used p (view p s) j l st.is_ready in
      let m : j ≡ k → ⊥ = λ e. false_true (sym (the.place_vacant p d s c) ∙ ap (used p Jobs) (sym e) ∙ u) in
      record { own = omega (arith, created_keeps j l m); others = λ i x ne. created_gains_nothing i x }

pub create_is_quiet : (n j g : ℕ) → j < positions Jobs → (p d : List ℕ) → sound p ≡ true → Stands n j g p → Quiet j p (outcome create p d).picture
create_is_quiet n j g l p d s st = creating.create_ways (λ (o : Outcome). Quiet j p o.picture) p d (λ k. nothing_is_quiet j p)
    (λ c. created_is_quiet p d s c n j g l st)

-- a tree is ended: its records are 0, and the others keep their accumulated
passes : (b : Bool) → (b ≡ true) ⊎ (b ≡ false)
passes true = inl refl
passes false = inr refl

idle_at_zero : (p : List ℕ) (j : ℕ) → priority p j ≡ 0 → ready p j ≡ false
unfolding ready
idle_at_zero p j e = rw e

module _ (p : List ℕ) (s : sound p ≡ true) (t key : ℕ) (u : used p Jobs t ≡ true) (z : t ≡ 0 → ⊥) where
  T : Taken p (ended p t key) (tree p t) (channels_of p (tree p t)) key
  T = ended_tables p (view p s) t key u z

  ended_gains_nothing : (i : ℕ) → i < positions Jobs → accumulated (ended p t key) i ≤ accumulated p i
  ended_gains_nothing i l = ⊎_elim
      (λ b. let y : accumulated (ended p t key) i ≡ 0 = T.blank Jobs i accumulated_field l (omega arith) b in omega (arith, y))
      (λ b. omega (arith, taken_gains p (ended p t key) (tree p t) (channels_of p (tree p t)) key T i l b))
      (passes (bit (tree p t) i))

  ended_is_quiet : (n j g : ℕ) → j < positions Jobs → Stands n j g (ended p t key) → Quiet j p (ended p t key)
  ended_is_quiet n j g l st = record {
    own = ⊎_elim
        (λ b. absurd (false_true (sym (idle_at_zero (ended p t key) j (T.blank Jobs j priority_field l (omega arith) b)) ∙ st.is_ready)))
        (λ b. omega (arith, taken_gains p (ended p t key) (tree p t) (channels_of p (tree p t)) key T j l b))
        (passes (bit (tree p t) j));
    others = λ i x ne. ended_gains_nothing i x;
  }

pub remove_is_quiet : (n j g : ℕ) → j < positions Jobs → (p d : List ℕ) → sound p ≡ true → Stands n j g (outcome remove p d).picture → Quiet j p (outcome remove p d).picture
remove_is_quiet n j g l p d s = of_remove p d (λ (o : Outcome). Stands n j g o.picture → Quiet j p o.picture) (λ k _. nothing_is_quiet j p)
    (λ u z. ended_is_quiet p s (job_position p d) (D3 d) u z n j g l)

pub force_remove_is_quiet : (n j g : ℕ) → j < positions Jobs → (p d : List ℕ) → sound p ≡ true → Stands n j g (outcome force_remove p d).picture → Quiet j p (outcome force_remove p d).picture
force_remove_is_quiet n j g l p d s = of_force_remove p d (λ (o : Outcome). Stands n j g o.picture → Quiet j p o.picture) (λ k _. nothing_is_quiet j p)
    (λ u z. ended_is_quiet p s (job_position p d) (D3 d) u z n j g l)
