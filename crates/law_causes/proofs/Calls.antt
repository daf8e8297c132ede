-- The checks of each call give its reasons, on a sound picture.
use Prim.Native.Nat.{ℕ}
use mathlib.Core.Path.{◌≡◌, refl, sym, ap, ◌∙◌}
use mathlib.Core.Bool.{Bool, true, false, not, cond}
use mathlib.Core.List.{List, [], ◌∷◌, ◌++◌}
use native.Mathlib.Omega.{arith}
use lib.ListN.{length, drop}
use lib.Dec.{eqb}
use borrow.Author.Tests.{eqb-true, eqb-false, leb-true, le-leb, not-true, not-false}
use Rattle.words.specs.Words.{low_word}
use Rattle.words.proofs.Tests.{false_true, both}
use Rattle.words.proofs.Each.{all_at, all_by}
use Rattle.picture.specs.Keys.{not_complete, invalid_job, channel_not_open, not_found, bad_name, bad_parameter}
use Rattle.picture.specs.Records.{number}
use Rattle.picture.specs.Numbers.{position, live, job_at, channel_at}
use Rattle.picture.specs.declared.Table.TheVariants.{Jobs, Channels}
use Rattle.picture.specs.declared.Area.TheVariants.{Heap, Transient}
use Rattle.picture.proofs.Numbers.{live_is}
use Rattle.sound_areas.specs.Rules.{longest_queue}
use Rattle.sound.specs.Sound.{sound}
use Rattle.sound_facts.proofs.View.{view}
use Rattle.calls.specs.Call.{Check, verdict}
use Rattle.calls.specs.Found.{job_check, channel_check, job_position}
use Rattle.calls.specs.Registers.{D1, D2, D3, A0, A1, meant}
use Rattle.calls.proofs.Found.{job_stands, channel_stands, job_that_passes_is_live, channel_that_passes_is_live}
use Rattle.effects.specs.Effects.{low_byte}
use Rattle.tree.specs.Tree.{tree, in_tree}
use Rattle.law_owners.proofs.Members.{in_tree_says, in_tree_has}
use Rattle.law_owners.proofs.Owners.{owners_in_order}
use Rattle.names.specs.Names.{key_of, good, name_check, byte, pipe, digit, worth, numbered, named}
use Rattle.names.specs.Names.{number as pipe-number}
use Rattle.std.proofs.Common.{Ok, Err}
use Rattle.names.specs.declared.NameFault.TheVariants.{Foreign, Unnumbered, Bare}
use Rattle.names.proofs.Digits.{digit_is}
use Rattle.jobs.specs.Calls.{suspend, release, activate, set_priority}
use Rattle.asking.specs.Ask.{ask}
use Rattle.creating.specs.Create.{create}
use Rattle.ending.specs.Remove.{inactive, removal, remove, force_remove}
use Rattle.memory.specs.Memory.{take, give_back}
use Rattle.opening.specs.Calls.{open_channel}
use Rattle.channels.specs.Effects.{queue_of}
use Rattle.channels.specs.Calls.{queue_named, at_channel, close_channel, pending, fetch, send}
use Rattle.law_ending.proofs.Refusal.{active_member, not_inactive}
use Rattle.law_causes.specs.Faults.{PipeNumber, Fault, Wrong, outside_the_tree, job_zero, tree_active, not_pipe, bare_pipe, other_character, number_outside, timeout_not_zero}
use Rattle.law_causes.specs.Reasons.{Reason, named_job, create_bytes, create_reasons, ask_reasons, force_remove_reasons, remove_reasons, suspend_reasons, release_reasons, activate_reasons, set_priority_reasons, take_bytes, take_reasons, give_back_reasons, open_bytes, open_reasons, close_reasons, fetch_reasons, send_reasons}
use Rattle.law_causes.proofs.Matching.{Tells, Gives, gives_none, gives_more, gives_same}
use Rattle.law_causes.proofs.Tests.{tells_by, tells_job, tells_channel, tells_owner, tells_tag, tells_empty, tells_full, tells_four, tells_position, tells_room, tells_active, tells_activity, tells_priority, tells_length, tells_plain, tells_immediate, tells_suspension, tells_activation}

-- a name's checks, one by one
name_checks : List ℕ → List Check
name_checks s = (pipe s, not_found) ∷ (not (eqb (length s) 4), bad_parameter) ∷ (eqb (byte s 4) 95, not_found) ∷ (pipe-number (drop 5 s), bad_name) ∷ []

name_verdict : (s : List ℕ) (l : List Check) → verdict (name_check (named s) ∷ l) ≡ verdict (name_checks s ++ l)
unfolding named numbered good key_of name_checks
name_verdict s l = go (pipe s) (eqb (length s) 4) (eqb (byte s 4) 95) (pipe-number (drop 5 s)) (worth 0 (drop 5 s))
  where
    go : (a b c n : Bool) (w : ℕ) →
        cond (good (cond a (cond b (Err Bare) (cond c (cond n (Ok w) (Err Unnumbered)) (Err Foreign))) (Err Foreign))) (verdict l) (key_of (cond a (cond b (Err Bare) (cond c (cond n (Ok w) (Err Unnumbered)) (Err Foreign))) (Err Foreign)))
        ≡ cond a (cond (not b) (cond c (cond n (verdict l) bad_name) not_found) bad_parameter) not_found
    go true true c n w = refl
    go true false true true w = refl
    go true false true false w = refl
    go true false false n w = refl
    go false b c n w = refl

-- "1 to 5 digits worth 1 to 32,766"
number_says : (l : List ℕ) → pipe-number l ≡ true → PipeNumber l
unfolding pipe-number
number_says l h =
    let a = both _ _ h in
    let b = both _ _ a.0 in
    let c = both _ _ a.1 in
    let e = both _ _ c.1 in
    record { some = leb-true 1 (length l) b.0; few = leb-true (length l) 5 b.1; digits = λ i m. digit_is i (all_at digit l c.0 i m); least = leb-true 1 (worth 0 l) e.0; most = leb-true (worth 0 l) longest_queue e.1 }

says_number : (l : List ℕ) → PipeNumber l → pipe-number l ≡ true
unfolding pipe-number digit
says_number l P = rw (le-leb 1 (length l) P.some, le-leb (length l) 5 P.few, all_by digit l (λ i m. let w = P.digits i m in rw (le-leb 48 i w.0, le-leb i 57 w.1)), le-leb 1 (worth 0 l) P.least, le-leb (worth 0 l) longest_queue P.most)

module _ (p d s : List ℕ) (h : sound p ≡ true) where
  abbrev W : Fault → Type 0
  W = Wrong p d s

  abbrev n1 : ℕ
  n1 = named_job p d s

  stands : (job_check (job_at p n1)).0 ≡ true → job_position p d ≡ position n1
  stands e = job_stands p n1 (job_that_passes_is_live p n1 e)

  channel_there : (channel_check (channel_at p (A0 d))).0 ≡ true → queue_named p d ≡ queue_of p (position (A0 d))
  channel_there e = ap (queue_of p) (channel_stands p (A0 d) (channel_that_passes_is_live p (A0 d) e))

  -- $2
  tells_outside : live p Jobs (D2 d) ≡ true → live p Jobs n1 ≡ true → Tells (W (outside_the_tree (D2 d) n1)) (in_tree p (position (D2 d)) (position n1), invalid_job) invalid_job
  tells_outside a b = tells_by (W (outside_the_tree (D2 d) n1)) (in_tree p (position (D2 d)) (position n1)) invalid_job
      (λ e u. false_true (sym e ∙ in_tree_has p (owners_in_order p h) (position (D2 d)) (position n1) (live_is p Jobs n1 b).used u))
      (λ e w. w (in_tree_says p (owners_in_order p h) (position (D2 d)) (position n1) e).1)

  pub ask_gives : Gives W (ask p d).checks (ask_reasons p d s)
  unfolding ask
  ask_gives = gives_more W _ _ _ _ (tells_job p d s h (D2 d)) (λ a. gives_more W _ _ _ _ (tells_job p d s h n1) (λ b.
      let t = job_that_passes_is_live p (D2 d) a in
      let k = job_that_passes_is_live p n1 b in
      gives_more W _ _ _ _ (rw (job_stands p (D2 d) t, job_stands p n1 k) (tells_outside t k)) (λ _. gives_none W)))

  -- $4 and $5
  tells_zero : live p Jobs n1 ≡ true → Tells (W (job_zero n1)) (not (eqb (position n1) 0), bad_parameter) bad_parameter
  tells_zero l = tells_by (W (job_zero n1)) (not (eqb (position n1) 0)) bad_parameter
      (λ e. let z = eqb-true (position n1) 0 (not-false _ e) in sym (live_is p Jobs n1 l).names ∙ ap (number p Jobs) z ∙ (view p h).jobs.zero_number)
      (λ e w. eqb-false (position n1) 0 (not-true _ e) (ap position w))

  tells_stir : Tells (W (tree_active n1)) (inactive p (tree p (position n1)), not_complete) not_complete
  tells_stir = tells_by (W (tree_active n1)) (inactive p (tree p (position n1))) not_complete (active_member p h (position n1)) (λ e A. false_true (sym (not_inactive p h (position n1) A) ∙ e))

  removal_gives : (l : List Check) (m : List Reason) → (job_position p d ≡ position n1 → Gives W l m) → Gives W (removal l p d).checks (force_remove_reasons p d s ++ m)
  unfolding removal
  removal_gives l m G = gives_more W _ _ _ _ (tells_job p d s h n1) (λ a. gives_more W _ _ _ _ (rw (stands a) (tells_zero (job_that_passes_is_live p n1 a))) (λ _. G (stands a)))

  pub remove_gives : Gives W (remove p d).checks (remove_reasons p d s)
  unfolding remove
  remove_gives = removal_gives _ _ (λ e. gives_more W _ _ _ _ (rw e tells_stir) (λ _. gives_none W))

  pub force_remove_gives : Gives W (force_remove p d).checks (force_remove_reasons p d s)
  unfolding force_remove
  force_remove_gives = removal_gives [] [] (λ _. gives_none W)

  -- $8 to $B
  pub suspend_gives : Gives W (suspend p d).checks (suspend_reasons p d s)
  unfolding suspend
  suspend_gives = gives_more W _ _ _ _ (tells_job p d s h n1) (λ _. gives_more W _ _ _ _ (tells_suspension p d s (low_word (D3 d)) (A1 d) (omega arith)) (λ _. gives_none W))

  pub release_gives : Gives W (release p d).checks (release_reasons p d s)
  unfolding release
  release_gives = gives_more W _ _ _ _ (tells_job p d s h n1) (λ _. gives_none W)

  pub activate_gives : Gives W (activate p d).checks (activate_reasons p d s)
  unfolding activate
  activate_gives = gives_more W _ _ _ _ (tells_job p d s h n1) (λ a.
      gives_more W _ _ _ _ (rw (stands a) (tells_active p d s n1)) (λ _.
      gives_more W _ _ _ _ (tells_activity p d s (low_byte (D2 d))) (λ _.
      gives_more W _ _ _ _ (tells_activation p d s (low_word (D3 d)) n1 (omega arith)) (λ _. gives_none W))))

  pub set_priority_gives : Gives W (set_priority p d).checks (set_priority_reasons p d s)
  unfolding set_priority
  set_priority_gives = gives_more W _ _ _ _ (tells_job p d s h n1) (λ _. gives_more W _ _ _ _ (tells_priority p d s (low_byte (D2 d))) (λ _. gives_none W))

  -- $1, $18, $19
  pub create_gives : Gives W (create p d).checks (create_reasons p d s)
  unfolding create
  create_gives = gives_more W _ _ _ _ (tells_owner p d s h (D1 d)) (λ _.
      gives_more W _ _ _ _ (tells_four p d s (D3 d)) (λ _.
      gives_more W _ _ _ _ (tells_position p d s Jobs invalid_job) (λ _.
      gives_more W _ _ _ _ (tells_tag p d s h Jobs invalid_job) (λ _.
      gives_more W _ _ _ _ (tells_room p d s Transient (create_bytes p d s)) (λ _. gives_none W)))))

  pub take_gives : Gives W (take p d).checks (take_reasons p d s)
  unfolding take
  take_gives = gives_more W _ _ _ _ (tells_length p d s (D1 d)) (λ _.
      gives_more W _ _ _ _ (tells_job p d s h (meant p (D2 d))) (λ _.
      gives_more W _ _ _ _ (tells_room p d s Heap (take_bytes p d s)) (λ _. gives_none W)))

  pub give_back_gives : Gives W (give_back p d).checks (give_back_reasons p d s)
  unfolding give_back
  give_back_gives = gives_more W _ _ _ _ (tells_plain p d s (A0 d)) (λ _. gives_none W)

  -- trap 2
  name_gives : (l : List Check) (m : List Reason) → Gives W l m
      → Gives W (name_check (named s) ∷ l) ((not_pipe, not_found) ∷ (bare_pipe, bad_parameter) ∷ (other_character, not_found) ∷ (number_outside, bad_name) ∷ m)
  unfolding name_checks
  name_gives l m G = gives_same W _ (name_checks s ++ l) _ (name_verdict s l)
      (gives_more W _ _ _ _ (tells_by (W not_pipe) (pipe s) not_found (λ e. e) (λ e w. false_true (sym w ∙ e))) (λ _.
      gives_more W _ _ _ _ (tells_by (W bare_pipe) (not (eqb (length s) 4)) bad_parameter (λ e. eqb-true (length s) 4 (not-false _ e)) (λ e w. eqb-false (length s) 4 (not-true _ e) w)) (λ _.
      gives_more W _ _ _ _ (tells_by (W other_character) (eqb (byte s 4) 95) not_found (eqb-false (byte s 4) 95) (λ e w. w (eqb-true (byte s 4) 95 e))) (λ _.
      gives_more W _ _ _ _ (tells_by (W number_outside) (pipe-number (drop 5 s)) bad_name (λ e P. false_true (sym e ∙ says_number (drop 5 s) P)) (λ e w. w (number_says (drop 5 s) e))) (λ _. G)))))

  pub open_gives : Gives W (open_channel s p d).checks (open_reasons p d s)
  unfolding open_channel
  open_gives = gives_more W _ _ _ _ (tells_job p d s h n1) (λ _.
      name_gives _ _
      (gives_more W _ _ _ _ (tells_position p d s Channels channel_not_open) (λ _.
      gives_more W _ _ _ _ (tells_tag p d s h Channels channel_not_open) (λ _.
      gives_more W _ _ _ _ (tells_room p d s Heap (open_bytes p d s)) (λ _. gives_none W)))))

  pub close_gives : Gives W (close_channel p d).checks (close_reasons p d s)
  unfolding close_channel
  close_gives = gives_more W _ _ _ _ (tells_channel p d s h (A0 d)) (λ _. gives_none W)

  -- trap 3
  channel_gives : (c : Check) (r : Reason) → (live p Channels (A0 d) ≡ true → queue_named p d ≡ queue_of p (position (A0 d)) → Tells (W r.0) c r.1)
      → Gives W (at_channel p d c) (close_reasons p d s ++ ((timeout_not_zero (low_word (D3 d)), bad_parameter) ∷ r ∷ []))
  channel_gives c r T = gives_more W _ _ _ _ (tells_channel p d s h (A0 d)) (λ a.
      gives_more W _ _ _ _ (tells_immediate p d s) (λ _.
      gives_more W _ _ _ _ (T (channel_that_passes_is_live p (A0 d) a) (channel_there a)) (λ _. gives_none W)))

  pub pending_gives : Gives W (pending p d).checks (fetch_reasons p d s)
  unfolding pending
  pending_gives = channel_gives _ _ (λ l e. rw e (tells_empty p d s h (A0 d) l))

  pub fetch_gives : Gives W (fetch p d).checks (fetch_reasons p d s)
  unfolding fetch
  fetch_gives = channel_gives _ _ (λ l e. rw e (tells_empty p d s h (A0 d) l))

  pub send_gives : Gives W (send p d).checks (send_reasons p d s)
  unfolding send
  send_gives = channel_gives _ _ (λ l e. rw e (tells_full p d s h (A0 d) l))
