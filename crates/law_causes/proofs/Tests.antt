-- Each test of a check tells the fault that stands for it in the words of the rules; of a sound picture, where the words need one.
use Prim.Native.Nat.{ℕ, zero, suc, ◌+◌, ◌-◌, ◌^◌, ◌≤◌, ◌<◌}
use mathlib.Core.Path.{◌≡◌, refl, sym, ap, ◌∙◌, subst}
use mathlib.Core.Bool.{Bool, true, false, not, cond, ◌&&◌}
use mathlib.Core.List.{List, [], ◌∷◌}
use mathlib.Core.Logic.{⊎_elim, ◌⊎◌, inl, inr}
use native.Mathlib.Omega.{arith}
use lib.IntN.{ℤ, pos, negsuc}
use lib.ListN.{length, length-append}
use lib.Dec.{eqb, leb, ltb}
use borrow.Author.Tests.{le-leb, eq-eqb, eqb-true, eqb-false, leb-true, leb-false, ltb-true, ltb-false, not-true, not-false}
use mir.Syntax.{w16}
use mir.Val.{to_z}
use mir.ValLaws.{to_z_pos, to_z-neg}
use Rattle.words.specs.Words.{word, low_word}
use Rattle.words.specs.Each.{any}
use Rattle.words.proofs.Tests.{lt_or_ge, false_true, both}
use Rattle.words.proofs.Each.{any_some, some_any}
use Rattle.picture.specs.Keys.{not_complete, invalid_job, out_of_memory, channel_not_open, bad_parameter}
use Rattle.picture.specs.Layout.{positions, last_word, greatest_tag, greatest_priority, greatest_timeout}
use Rattle.picture.specs.Records.{number, priority, used, active, members}
use Rattle.picture.specs.Numbers.{position, live, job_at, channel_at, free_position, entry_at}
use Rattle.picture.specs.declared.Table.{Table}
use Rattle.picture.specs.declared.Table.TheVariants.{Jobs, Channels}
use Rattle.picture.specs.declared.Area.{Area}
use Rattle.picture.specs.declared.Area.TheVariants.{Heap}
use Rattle.std.proofs.Common.{Some, None}
use Rattle.picture.proofs.Numbers.{live_is, is_live}
use Rattle.picture.proofs.Records.{used_is}
use Rattle.masks.specs.Masks.{lowest_clear}
use Rattle.masks.proofs.Lowest.{lowest_clear_is}
use Rattle.blocks.specs.Header.{kind, plain_kind, queue_length, queue_count}
use Rattle.blocks.specs.Walk.{blocks}
use Rattle.sound.specs.Sound.{sound}
use Rattle.sound_facts.proofs.Sound.{Sound, entries_of}
use Rattle.sound_facts.proofs.View.{view}
use Rattle.calls.specs.Call.{Check}
use Rattle.calls.specs.Found.{job_check, channel_check}
use Rattle.std.proofs.Common.{Option, Some, None}
use Rattle.timeouts.specs.Timeout.{timeout_of}
use Rattle.timeouts.specs.declared.Timeout.{Timeout}
use Rattle.timeouts.specs.declared.Timeout.TheVariants.{Zero, Frames, Endless}
use Rattle.effects.specs.Effects.{suspends, may_wait, activity_good, priority_good}
use Rattle.entering.specs.Entry.{has_position, has_tag}
use Rattle.rooms.specs.Room.{room_at, room_check, first_byte}
use Rattle.rooms.proofs.Room.{has_room, no_room_without_a_long_enough_block, without_a_long_enough_block_where_no_room, the_check_passes_where_there_is_room, the_check_fails_where_there_is_no_room}
use Rattle.creating.specs.Create.{owner_found, owner_check}
use Rattle.creating.proofs.Ways.{found_each}
use Rattle.memory.specs.Memory.{length_good, plain_room, is_plain_room}
use Rattle.queues.specs.Ring.{waits, full, contents, listed, index}
use Rattle.queues.specs.Bytes.{byte_at}
use Rattle.queues.proofs.Ring.{waits_tells}
use Rattle.channels.specs.Effects.{queue_of, immediate}
use Rattle.channels.proofs.Found.{live_queue}
use Rattle.calls.specs.Registers.{D3}
use Rattle.law_causes.specs.Faults.{Names, Suspending, Activating, Fault, Wrong, not_live, owner_not_live, below_four, positions_used_up, tags_used_up, no_block_long_enough, job_active, priority_outside, suspension_outside, activation_outside, length_outside, no_plain_block, timeout_not_zero, queue_empty, queue_full}
use Rattle.law_causes.proofs.Matching.{Tells}

-- a queue's list has as many bytes as its count says
listed_length : (f : ℕ → ℕ) (c : ℕ) → length (listed f c) ≡ c
listed_length f zero = refl
listed_length f (suc c) = let e = listed_length f c in let z = length-append (listed f c) (f c ∷ []) in omega arith

-- of two tests that fail together, one fails
one_fails : (a b : Bool) → a && b ≡ false → (a ≡ false) ⊎ (b ≡ false)
one_fails true b e = inr e
one_fails false b e = inl refl

-- a test and what it tells
pub tells_by : (wrong : Type 0) (b : Bool) (k : ℤ) → (b ≡ false → wrong) → (b ≡ true → wrong → ⊥) → Tells wrong (b, k) k
tells_by wrong b k f g = record { fails = λ h. (f h, refl); passes = g }

module _ (p d s : List ℕ) where
  abbrev W : Fault → Type 0
  W = Wrong p d s

  module _ (h : sound p ≡ true) where
    S : Sound p
    S = view p h

    -- a number is live exactly where it names an entry
    pub names_live : (t : Table) (n : ℕ) → Names p t n → live p t n ≡ true
    names_live t n N =
        let e : position n ≡ N.at = sym (ap position N.holds) ∙ (entries_of p S t).place N.at N.in_use in
        is_live p t n (record { used = ap (used p t) e ∙ N.in_use; names = ap (number p t) e ∙ N.holds })

    pub live_names : (t : Table) (n : ℕ) → live p t n ≡ true → Names p t n
    live_names t n l = let L = live_is p t n l in record { at = position n; in_use = L.used; holds = L.names }

    pub tells_job : (n : ℕ) → Tells (W (not_live Jobs n)) (job_check (job_at p n)) invalid_job
    unfolding entry_at
    tells_job n = go (live p Jobs n) refl
      where
        go : (b : Bool) → live p Jobs n ≡ b → Tells (Names p Jobs n → ⊥) (job_check (cond b (Some (position n)) None)) invalid_job
        go true e = record { fails = λ z. absurd (false_true (sym z)); passes = λ _ w. w (live_names Jobs n e) }
        go false e = record { fails = λ _. ((λ N. false_true (sym e ∙ names_live Jobs n N)), refl); passes = λ z. absurd (false_true z) }

    pub tells_channel : (n : ℕ) → Tells (W (not_live Channels n)) (channel_check (channel_at p n)) channel_not_open
    unfolding entry_at
    tells_channel n = go (live p Channels n) refl
      where
        go : (b : Bool) → live p Channels n ≡ b → Tells (Names p Channels n → ⊥) (channel_check (cond b (Some (position n)) None)) channel_not_open
        go true e = record { fails = λ z. absurd (false_true (sym z)); passes = λ _ w. w (live_names Channels n e) }
        go false e = record { fails = λ _. ((λ N. false_true (sym e ∙ names_live Channels n N)), refl); passes = λ z. absurd (false_true z) }

    pub tells_owner : (n : ℕ) → Tells (W (owner_not_live n)) (owner_check (owner_found p n)) invalid_job
    tells_owner n = found_each p n (λ f. Tells (W (owner_not_live n)) (owner_check f) invalid_job)
        (λ a. record { fails = λ z. absurd (false_true (sym z)); passes = λ _ w. let l = leb-true 0x8000_0000 n a in let m = w.0 in absurd (omega arith) })
        (λ a e. record { fails = λ z. absurd (false_true (sym z)); passes = λ _ w. w.1 (live_names Jobs n e) })
        (λ a e. record { fails = λ _. ((leb-false 0x8000_0000 n a, λ N. false_true (sym e ∙ names_live Jobs n N)), refl); passes = λ z. absurd (false_true z) })

    pub tells_tag : (t : Table) (k : ℤ) → Tells (W (tags_used_up t)) (has_tag p t, k) k
    unfolding has_tag
    tells_tag t k = let m = S.sizes.last t in
        tells_by (W (tags_used_up t)) (ltb (word p (last_word t)) greatest_tag) k
        (λ e. let l = ltb-false (word p (last_word t)) greatest_tag e in omega arith)
        (λ e w. let l = ltb-true (word p (last_word t)) greatest_tag e in omega arith)

    -- the queue of a live channel
    module _ (n : ℕ) (l : live p Channels n ≡ true) where
      pub tells_empty : Tells (W (queue_empty n)) (waits p (queue_of p (position n)), not_complete) not_complete
      tells_empty = let w = waits_tells p (queue_of p (position n)) in tells_by (W (queue_empty n)) (waits p (queue_of p (position n))) not_complete w.0 w.1

      pub tells_full : Tells (W (queue_full n)) (not (full p (queue_of p (position n))), not_complete) not_complete
      unfolding full contents
      tells_full =
          let i = queue_of p (position n) in
          let m = (live_queue p n h l).queue.held in
          let c = listed_length (λ (j : ℕ). byte_at p i (index p i j)) (queue_count p i) in
          tells_by (W (queue_full n)) (not (leb (queue_length p i) (queue_count p i))) not_complete
          (λ e. let g = leb-true (queue_length p i) (queue_count p i) (not-false _ e) in omega arith)
          (λ e w. let g = leb-false (queue_length p i) (queue_count p i) (not-true _ e) in absurd (omega arith))

  -- of any picture
  pub tells_four : (n : ℕ) → Tells (W (below_four n)) (leb 4 n, bad_parameter) bad_parameter
  tells_four n = tells_by (W (below_four n)) (leb 4 n) bad_parameter (λ e. leb-false 4 n e) (λ e w. let l = leb-true 4 n e in absurd (omega arith))

  pub tells_position : (t : Table) (k : ℤ) → Tells (W (positions_used_up t)) (has_position p t, k) k
  unfolding has_position free_position
  tells_position t k =
      let L = lowest_clear_is (positions t) (members p t) in
      tells_by (W (positions_used_up t)) (ltb (lowest_clear (positions t) (members p t)) (positions t)) k
      (λ e j l. let g = ltb-false (lowest_clear (positions t) (members p t)) (positions t) e in used_is p t j l ∙ L.used j (omega arith))
      (λ e w.
      let g = ltb-true (lowest_clear (positions t) (members p t)) (positions t) e in
      false_true (sym (L.free g) ∙ sym (used_is p t (lowest_clear (positions t) (members p t)) g) ∙ w (lowest_clear (positions t) (members p t)) g))

  pub tells_room : (a : Area) (n : ℕ) → Tells (W (no_block_long_enough a n)) (room_check (room_at p a n)) out_of_memory
  tells_room a n = go (has_room p a n) refl
    where
      go : (b : Bool) → has_room p a n ≡ b → Tells (W (no_block_long_enough a n)) (room_check (room_at p a n)) out_of_memory
      go true e = let z = the_check_passes_where_there_is_room p a n e in
          record { fails = λ f. absurd (false_true (sym f ∙ ap (λ (c : Check). c.0) z)); passes = λ _ w. false_true (sym (no_room_without_a_long_enough_block p a n w) ∙ e) }
      go false e = let z = the_check_fails_where_there_is_no_room p a n e in
          record { fails = λ _. (without_a_long_enough_block_where_no_room p a n e, ap (λ (c : Check). c.1) z); passes = λ f. absurd (false_true (sym (ap (λ (c : Check). c.0) z) ∙ f)) }

  pub tells_active : (n : ℕ) → Tells (W (job_active n)) (not (active p (position n)), not_complete) not_complete
  unfolding active
  tells_active n = tells_by (W (job_active n)) (not (leb 1 (priority p (position n)))) not_complete
      (λ e. leb-true 1 (priority p (position n)) (not-false _ e))
      (λ e w. let l = leb-false 1 (priority p (position n)) (not-true _ e) in absurd (omega arith))

  pub tells_activity : (u : ℕ) → Tells (W (priority_outside 1 u)) (activity_good u, bad_parameter) bad_parameter
  tells_activity u = tells_by (W (priority_outside 1 u)) (activity_good u) bad_parameter
      (λ e. ⊎_elim (λ x. inl (leb-false 1 u x)) (λ x. inr (leb-false u greatest_priority x)) (one_fails (leb 1 u) (leb u greatest_priority) e))
      (λ e w. let b = both (leb 1 u) (leb u greatest_priority) e in let l = leb-true 1 u b.0 in let m = leb-true u greatest_priority b.1 in
      ⊎_elim (λ (x : u < 1). absurd (omega arith)) (λ (x : greatest_priority < u). absurd (omega arith)) w)

  pub tells_priority : (u : ℕ) → Tells (W (priority_outside 0 u)) (priority_good u, bad_parameter) bad_parameter
  tells_priority u = tells_by (W (priority_outside 0 u)) (priority_good u) bad_parameter (λ e. inr (leb-false u greatest_priority e))
      (λ e w. let m = leb-true u greatest_priority e in ⊎_elim (λ (x : u < 0). absurd (omega arith)) (λ (x : greatest_priority < u). absurd (omega arith)) w)

  pub tells_length : (n : ℕ) → Tells (W (length_outside n)) (length_good n, bad_parameter) bad_parameter
  unfolding length_good
  tells_length n = tells_by (W (length_outside n)) (leb 1 n && ltb n 0x8000_0000) bad_parameter
      (λ e. ⊎_elim (λ x. let l = leb-false 1 n x in inl (omega arith)) (λ x. inr (ltb-false n 0x8000_0000 x)) (one_fails (leb 1 n) (ltb n 0x8000_0000) e))
      (λ e w. let b = both (leb 1 n) (ltb n 0x8000_0000) e in let l = leb-true 1 n b.0 in let m = ltb-true n 0x8000_0000 b.1 in
      ⊎_elim (λ (x : n ≡ 0). absurd (omega arith)) (λ (x : 0x8000_0000 ≤ n). absurd (omega arith)) w)

  pub tells_plain : (a : ℕ) → Tells (W (no_plain_block a)) (is_plain_room p a, bad_parameter) bad_parameter
  unfolding is_plain_room plain_room
  tells_plain a = tells_by (W (no_plain_block a)) (any (plain_room p a) (blocks p Heap)) bad_parameter
      (λ e i m k f. false_true (sym e ∙ some_any (plain_room p a) (blocks p Heap) i m (rw (eq-eqb (kind p i) plain_kind k, eq-eqb (first_byte i) a f))))
      (λ e w.
      let x = any_some (plain_room p a) (blocks p Heap) e in
      let b = both (eqb (kind p x.0) plain_kind) (eqb (first_byte x.0) a) x.1.1 in
      w x.0 x.1.0 (eqb-true (kind p x.0) plain_kind b.0) (eqb-true (first_byte x.0) a b.1))

  pub tells_immediate : Tells (W (timeout_not_zero (low_word (D3 d)))) (immediate d, bad_parameter) bad_parameter
  unfolding immediate
  tells_immediate = tells_by (W (timeout_not_zero (low_word (D3 d)))) (eqb (low_word (D3 d)) 0) bad_parameter (eqb-false (low_word (D3 d)) 0) (λ e w. w (eqb-true (low_word (D3 d)) 0 e))

-- a timeout, by the low word that it comes from
data Half (w : ℕ) : Option Timeout → Type 0 where
  nought : w ≡ 0 → Half w (Some Zero)
  frames : {z : ℤ} → 1 ≤ w → w ≤ greatest_timeout → Half w (Some (Frames z))
  endless : w ≡ 0xFFFF → Half w (Some Endless)
  bad : greatest_timeout < w → w < 0xFFFF → Half w None

half_above : (w : ℕ) → w < 32768 → Half w (timeout_of (pos w))
unfolding timeout_of
half_above w l = go (eqb w 0) refl
  where
    go : (b : Bool) → eqb w 0 ≡ b → Half w (cond b (Some Zero) (cond false (Some Endless) (cond (leb 1 w && leb w greatest_timeout) (Some (Frames (pos w))) None)))
    go true e = nought (eqb-true w 0 e)
    go false e = let n = eqb-false w 0 e in let a : 1 ≤ w = omega arith in let b : w ≤ greatest_timeout = omega arith in rw (le-leb 1 w a, le-leb w greatest_timeout b) (frames a b)

half_below : (w k : ℕ) → w + k ≡ 65535 → k < 32768 → Half w (timeout_of (negsuc k))
unfolding timeout_of
half_below w k z l = go (eqb k 0) refl
  where
    go : (b : Bool) → eqb k 0 ≡ b → Half w (cond false (Some Zero) (cond b (Some Endless) (cond false (Some (Frames (negsuc k))) None)))
    go true e = let n = eqb-true k 0 e in endless (omega arith)
    go false e = let n = eqb-false k 0 e in bad (omega arith) (omega arith)

half_is : (w : ℕ) → w < 65536 → Half w (timeout_of (to_z w16 w))
half_is w l = ⊎_elim
    (λ (a : w < 32768). rw (to_z_pos w16 w a) (half_above w a))
    (λ (a : 32768 ≤ w).
    let k = 65535 - w in
    let e : w ≡ 2 ^ 16 - suc k = omega arith in
    subst (λ (z : ℤ). Half w (timeout_of z)) (sym (ap (to_z w16) e ∙ to_z-neg w16 k (omega arith))) (half_below w k (omega arith) (omega arith)))
    (lt_or_ge w 32768)

module _ (p d s : List ℕ) where
  pub tells_suspension : (w a : ℕ) → w < 65536 → Tells (Wrong p d s (suspension_outside w a)) (suspends (timeout_of (to_z w16 w)) && eqb a 0, bad_parameter) bad_parameter
  tells_suspension w a l = go (timeout_of (to_z w16 w)) (half_is w l) (eqb a 0) refl
    where
      no : (w ≡ 0) ⊎ ((greatest_timeout < w) × (w < 0xFFFF)) → Suspending w → ⊥
      no (inl e) (inl x) = let m = x.0 in omega arith
      no (inl e) (inr x) = omega arith
      no (inr e) (inl x) = let m = x.1 in let n = e.0 in omega arith
      no (inr e) (inr x) = let n = e.1 in omega arith

      good : Suspending w → (b : Bool) → eqb a 0 ≡ b → Tells (Wrong p d s (suspension_outside w a)) (true && b, bad_parameter) bad_parameter
      good y true e = tells_by _ true bad_parameter (λ z. absurd (false_true (sym z))) (λ _ v. ⊎_elim (λ n. n y) (λ n. n (eqb-true a 0 e)) v)
      good y false e = tells_by _ false bad_parameter (λ _. inr (eqb-false a 0 e)) (λ z. absurd (false_true z))

      go : (t : Option Timeout) → Half w t → (b : Bool) → eqb a 0 ≡ b → Tells (Wrong p d s (suspension_outside w a)) (suspends t && b, bad_parameter) bad_parameter
      go (Some Zero) (nought e) b q = tells_by _ false bad_parameter (λ _. inl (no (inl e))) (λ z. absurd (false_true z))
      go (Some (Frames z)) (frames x y) b q = good (inl (x, y)) b q
      go (Some Endless) (endless e) b q = good (inr e) b q
      go None (bad x y) b q = tells_by _ false bad_parameter (λ _. inl (no (inr (x, y)))) (λ z. absurd (false_true z))

  pub tells_activation : (w n : ℕ) → w < 65536 → Tells (Wrong p d s (activation_outside w n)) (may_wait (timeout_of (to_z w16 w)) n, bad_parameter) bad_parameter
  tells_activation w n l = go (timeout_of (to_z w16 w)) (half_is w l) (eqb n 0) refl
    where
      no : (1 ≤ w) → (w < 0xFFFF) → Activating w n → ⊥
      no a b (inl x) = omega arith
      no a b (inr x) = let e = x.0 in omega arith

      not_zero : w ≡ 0xFFFF → n ≡ 0 → Activating w n → ⊥
      not_zero a e (inl x) = omega arith
      not_zero a e (inr x) = x.1 e

      go : (t : Option Timeout) → Half w t → (b : Bool) → eqb n 0 ≡ b → Tells (Wrong p d s (activation_outside w n)) (may_wait t n, bad_parameter) bad_parameter
      go (Some Zero) (nought e) b q = tells_by _ true bad_parameter (λ z. absurd (false_true (sym z))) (λ _ v. v (inl e))
      go (Some (Frames z)) (frames x y) b q = tells_by _ false bad_parameter (λ _. no x (omega arith)) (λ z. absurd (false_true z))
      go (Some Endless) (endless e) true q = rw q (tells_by _ false bad_parameter (λ _. not_zero e (eqb-true n 0 q)) (λ z. absurd (false_true z)))
      go (Some Endless) (endless e) false q = rw q (tells_by _ true bad_parameter (λ z. absurd (false_true (sym z))) (λ _ v. v (inr (e, eqb-false n 0 q))))
      go None (bad x y) b q = tells_by _ false bad_parameter (λ _. no (omega arith) y) (λ z. absurd (false_true z))
