-- Creating a job: every block in use keeps every longword, and every channel its record.
use Prim.Native.Nat.{ℕ, ◌<◌}
use mathlib.Core.Path.{◌≡◌, refl}
use mathlib.Core.Bool.{Bool, true, false}
use mathlib.Core.Logic.{⊎_elim, ◌⊎◌}
use mathlib.Core.List.{List}
use Rattle.words.specs.Each.{In}
use Rattle.picture.specs.Layout.{positions, width}
use Rattle.picture.specs.Records.{field}
use Rattle.picture.specs.declared.Table.TheVariants.{Channels}
use Rattle.picture.specs.declared.Area.{Area}
use Rattle.picture.specs.declared.Area.TheVariants.{Transient}
use Rattle.blocks.specs.Header.{free}
use Rattle.blocks.specs.Walk.{blocks}
use Rattle.sound.specs.Sound.{sound}
use Rattle.sound_facts.proofs.Sound.{Sound}
use Rattle.calls.specs.Outcome.{Outcome}
use Rattle.calls.specs.Call.{outcome}
use Rattle.law_blocks.proofs.Placing.{None, Only}
use Rattle.law_blocks.proofs.Intact.{Intact, still_intact, change_keeps_every_other_block}
use Rattle.creating.specs.Create.{created, create}
use Rattle.law_creating.proofs.Ways.{Checked, create_ways}
use Rattle.law_creating.proofs.Made as the
use Rattle.law_creating.proofs.Kept.{channel_field}

pub create_keeps_every_block_in_use : (p d : List ℕ) → sound p ≡ true → (a : Area) (i : ℕ) → In i (blocks p a) → free p i ≡ false → Intact p (outcome create p d).picture a i
create_keeps_every_block_in_use p d h a i m f = create_ways (λ (o : Outcome). Intact p o.picture a i) p d (λ k. still_intact p a i m)
    (λ (c : Checked p d). ⊎_elim (λ (g : (Transient ≡ a) × None i). absurd g.1) (λ k. k)
    (change_keeps_every_other_block p (created p d) Transient (Only (the.at p d h c)) None (the.made_change p d h c) (the.lies p d h c) (the.S p d h c).tiled a i m f))

pub create_keeps_every_channel : (p d : List ℕ) → sound p ≡ true → (k f : ℕ) → k < positions Channels → f < width Channels → field (outcome create p d).picture Channels k f ≡ field p Channels k f
create_keeps_every_channel p d h k f l m = create_ways (λ (o : Outcome). field o.picture Channels k f ≡ field p Channels k f) p d (λ _. refl) (λ (c : Checked p d). channel_field p d h c k f l m)
