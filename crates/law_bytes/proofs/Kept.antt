-- Each call leaves the bytes of a channel that is live before and after it, where it is no fetch and no send on that channel:
-- the channel's record keeps its base and its block every longword.
use Prim.Native.Nat.{ℕ, ◌+◌}
use mathlib.Core.Path.{◌≡◌, refl, sym, ◌∙◌, subst}
use mathlib.Core.Bool.{true}
use mathlib.Core.Logic.{⊎_elim}
use mathlib.Core.List.{List}
use native.Mathlib.Omega.{arith}
use Rattle.words.proofs.Tests.{false_true}
use Rattle.picture.specs.Records.{slot, owner, used, base_field}
use Rattle.picture.specs.Numbers.{position, live}
use Rattle.picture.specs.declared.Table.TheVariants.{Jobs, Channels}
use Rattle.picture.specs.declared.Area.TheVariants.{Heap}
use Rattle.picture.proofs.Numbers.{live_is}
use Rattle.blocks.specs.Header.{holder}
use Rattle.sound.specs.Sound.{sound}
use Rattle.sound_facts.proofs.View.{view}
use Rattle.calls.specs.Outcome.{Outcome}
use Rattle.calls.specs.Call.{outcome}
use Rattle.law_steady.proofs.Steady.{Steady}
use Rattle.law_blocks.proofs.Tables.{TablesSame, base_same}
use Rattle.law_blocks.proofs.Intact.{Intact}
use Rattle.channels.specs.Effects.{queue_of}
use Rattle.channels.proofs.Found.{Held, live_queue, live_below}
use Rattle.law_queues.specs.Lists.{bytes_at}
use Rattle.law_queues.proofs.Stays.{QueueStays, a_queue_that_stays_keeps_its_bytes, a_queue_is_a_block_in_use}
use Rattle.creating.specs.Create.{create}
use Rattle.law_creating.proofs.Others.{create_keeps_every_block_in_use, create_keeps_every_channel}
use Rattle.memory.specs.Memory.{longest_room, take, give_back}
use Rattle.law_memory.proofs.Others.{take_keeps_the_tables, give_back_keeps_the_tables, take_keeps_every_block_in_use, give_back_keeps_every_block_that_is_not_plain}
use Rattle.asking.specs.Ask.{ask}
use Rattle.law_asking.proofs.Kept.{ask_leaves_the_picture}
use Rattle.ending.specs.Ended.{ended}
use Rattle.ending.specs.Remove.{remove, force_remove}
use Rattle.law_ending.specs.Promise.{Member}
use Rattle.law_ending.proofs.OfTheTree.{top_is_in_the_transient_area}
use Rattle.law_ending.proofs.Promise.{ending_leaves_others, ending_takes_the_tree}
use Rattle.law_ending.proofs.Calls.{of_remove, of_force_remove}

module _ (p : List ℕ) (s : sound p ≡ true) (n : ℕ) (lives : live p Channels n ≡ true) where
  H : Held p (position n) (queue_of p (position n))
  H = live_queue p n s lives

  -- the bytes of the channel are in q what they are in p, if it is live there
  abbrev pub Kept : List ℕ → Type 0
  Kept q = live q Channels n ≡ true → bytes_at q n ≡ bytes_at p n

  stays : (q : List ℕ) → QueueStays p q n → bytes_at q n ≡ bytes_at p n
  stays q = a_queue_that_stays_keeps_its_bytes p q s n lives

  -- what turns change is no channel and no block
  pub steady_keeps_the_bytes : (q : List ℕ) → Steady p q → bytes_at q n ≡ bytes_at p n
  steady_keeps_the_bytes q S = stays q (record {
    same_base = S.after (slot Channels (position n) + base_field) (omega arith);
    same_longwords = λ w a b. let l = H.low in S.after w (omega arith);
  })

  -- $2 and $6 leave the picture
  pub ask_keeps_the_bytes : (d : List ℕ) → bytes_at (outcome ask p d).picture n ≡ bytes_at p n
  ask_keeps_the_bytes d = rw (ask_leaves_the_picture p d)

  pub longest_room_keeps_the_bytes : (d : List ℕ) → bytes_at (outcome longest_room p d).picture n ≡ bytes_at p n
  unfolding longest_room outcome
  longest_room_keeps_the_bytes d = refl

  -- $18, $19 and $1 leave its record and its block
  tables_keep : (q : List ℕ) → TablesSame p q → Intact p q Heap (queue_of p (position n)) → bytes_at q n ≡ bytes_at p n
  tables_keep q T I = stays q (record { same_base = base_same p q T Channels (position n) (live_below p n lives); same_longwords = I.same })

  pub take_keeps_the_bytes : (d : List ℕ) → bytes_at (outcome take p d).picture n ≡ bytes_at p n
  take_keeps_the_bytes d =
      let u = a_queue_is_a_block_in_use p s n lives in
      tables_keep (outcome take p d).picture (take_keeps_the_tables p d s) (take_keeps_every_block_in_use p d s Heap (queue_of p (position n)) u.0 u.1)

  pub give_back_keeps_the_bytes : (d : List ℕ) → bytes_at (outcome give_back p d).picture n ≡ bytes_at p n
  give_back_keeps_the_bytes d =
      let u = a_queue_is_a_block_in_use p s n lives in
      tables_keep (outcome give_back p d).picture (give_back_keeps_the_tables p d s)
      (give_back_keeps_every_block_that_is_not_plain p d s Heap (queue_of p (position n)) u.0 u.1 (λ e. let k = H.own.sorts in omega arith))

  pub create_keeps_the_bytes : (d : List ℕ) → bytes_at (outcome create p d).picture n ≡ bytes_at p n
  create_keeps_the_bytes d =
      let u = a_queue_is_a_block_in_use p s n lives in
      stays (outcome create p d).picture (record {
        same_base = create_keeps_every_channel p d s (position n) base_field (live_below p n lives) (omega arith);
        same_longwords = (create_keeps_every_block_in_use p d s Heap (queue_of p (position n)) u.0 u.1).same;
      })

  -- $4 and $5: a channel that is live after it was owned from outside the tree, and so was its block
  ended_keeps : (t key : ℕ) → used p Jobs t ≡ true → (t ≡ 0 → ⊥) → Kept (ended p t key)
  ended_keeps t key u z l =
      let L = ending_leaves_others p t key s u z in
      let b = a_queue_is_a_block_in_use p s n lives in
      stays (ended p t key) (record {
        same_base = L.channels (position n) base_field in_use outside (omega arith);
        same_longwords = L.block_longwords Heap (queue_of p (position n)) b.0 b.1 (⊎_elim
            (λ (M : Member p t (holder p (queue_of p (position n)))). outside (subst (Member p t) (sym H.own.held) M))
            (λ e. top_is_in_the_transient_area p (view p s) t u z (queue_of p (position n)) b.0 e));
      })
    where
      in_use : used p Channels (position n) ≡ true
      in_use = (live_is p Channels n lives).used

      outside : Member p t (owner p Channels (position n)) → ⊥
      outside M = false_true (sym ((ending_takes_the_tree p t key s u z).channels (position n) in_use M).unused ∙ (live_is (ended p t key) Channels n l).used)

  pub remove_keeps_the_bytes : (d : List ℕ) → Kept (outcome remove p d).picture
  remove_keeps_the_bytes d = of_remove p d (λ (o : Outcome). Kept o.picture) (λ k l. refl) (λ u z. ended_keeps _ _ u z)

  pub force_remove_keeps_the_bytes : (d : List ℕ) → Kept (outcome force_remove p d).picture
  force_remove_keeps_the_bytes d = of_force_remove p d (λ (o : Outcome). Kept o.picture) (λ k l. refl) (λ u z. ended_keeps _ _ u z)
