-- Demand 3, of one call: the calls that end and make no job are quiet for a job that stays ready.
use Prim.Native.Nat.{ℕ, ◌%◌, ◌<◌, ◌≤◌}
use mathlib.Core.Path.{◌≡◌, refl, sym, ap, ◌∙◌, subst}
use mathlib.Core.Bool.{Bool, true, false, cond}
use mathlib.Core.Logic.{⊎_elim, inl, inr, by_cases}
use mathlib.Core.List.{List}
use native.Mathlib.Omega.{arith}
use native.Mathlib.Decide.{ℕ_discrete}
use lib.ListN.{length, length-set}
use lib.Dec.{eqb}
use lib.IntN.{ℤ, pos}
use lib.Signed.{non_neg}
use borrow.Author.Tests.{le-leb}
use Rattle.words.specs.Signed.{bits, eq_z}
use Rattle.words.proofs.Tests.{both, false_true}
use Rattle.picture.specs.Layout.{nobody, heap_base, positions, width}
use Rattle.picture.specs.Records.{field, number, priority, accumulated, timeout, used, ready, active, accumulated_field, key_field, timeout_field, wait_field, with_accumulated, with_field, with_key, with_priority, with_timeout, with_wait}
use Rattle.picture.specs.Numbers.{position, live}
use Rattle.picture.specs.declared.Table.TheVariants.{Jobs}
use Rattle.picture.proofs.Records.{used_below}
use Rattle.picture.proofs.Numbers.{Live, live_is}
use Rattle.picture.specs.Layout.{without_end}
use Rattle.picture.proofs.Timeout.{Timely, timely_fits, timely_endless, timeout_same, timeout_stored, ready_has}
use Rattle.std.proofs.Common.{Option}
use Rattle.timeouts.specs.Timeout.{timeout_of, timeout_in, low_half, value}
use Rattle.timeouts.specs.declared.Timeout.{Timeout}
use Rattle.timeouts.proofs.Cases.{value_timely, value_zero}
use Rattle.sound.specs.Sound.{sound}
use Rattle.sound_facts.proofs.Sound.{Sizes, Sound}
use Rattle.sound_facts.proofs.View.{view}
use Rattle.calls.specs.Outcome.{Outcome}
use Rattle.calls.specs.Call.{outcome}
use Rattle.calls.specs.Registers.{D1, D2, D3, A0, A1, caller, meant}
use Rattle.calls.specs.Writes.{with_nobody}
use Rattle.law_steady.proofs.Steady.{Steady, steady_used}
use Rattle.law_steady.proofs.Writes.{field_kept, field_written, field_nobody, Written, written_none, written_field}
use Rattle.effects.specs.Effects.{suspends, suspended, released, prioritized, endless, waiting}
use Rattle.jobs.specs.Calls.{job, information, suspend, release, activate, set_priority}
use Rattle.law_jobs.proofs.Passed.{stand, suspend_ways, release_ways, activate_ways, set_priority_ways}
use Rattle.law_jobs.proofs.Effects.{suspended_written, prioritized_written}
use Rattle.asking.specs.Ask.{ask}
use Rattle.law_asking.proofs.Kept.{ask_leaves_the_picture}
use Rattle.memory.specs.Memory.{longest_room, taken, take, given_back, give_back}
use Rattle.law_memory.proofs.Ways.{take_ways, give_back_ways}
use Rattle.law_memory.proofs.Kept.{taken_tables, given_back_tables}
use Rattle.channels.specs.Calls.{pending, fetch, send}
use Rattle.channels.proofs.Found.{live_queue}
use Rattle.queues.specs.Ring.{fetched, sent}
use Rattle.law_queues.proofs.Written.{tables}
use Rattle.law_queues.proofs.Ways.{queue_there, pending_ways, fetch_ways, send_ways}
use Rattle.law_queues.proofs.Kept.{fetched_written, sent_written, low_byte}
use Rattle.law_blocks.proofs.Tables.{TablesSame, field_same}
use Rattle.law_picks.specs.Stretch.{Quiet, Stands}
use Rattle.law_picks.proofs.Quiet.{nothing_is_quiet, quiet_after_quiet, kept_or_cleared_is_quiet, kept_is_quiet}

-- the calls that leave the picture as it is
pub information_is_quiet : (j : ℕ) (p d : List ℕ) → Quiet j p (outcome information p d).picture
unfolding information outcome
information_is_quiet j p d = nothing_is_quiet j p

pub ask_is_quiet : (j : ℕ) (p d : List ℕ) → Quiet j p (outcome ask p d).picture
ask_is_quiet j p d = subst (λ (q : List ℕ). Quiet j p q) (sym (ask_leaves_the_picture p d)) (nothing_is_quiet j p)

pub longest_room_is_quiet : (j : ℕ) (p d : List ℕ) → Quiet j p (outcome longest_room p d).picture
unfolding longest_room outcome
longest_room_is_quiet j p d = nothing_is_quiet j p

pub pending_is_quiet : (j : ℕ) (p d : List ℕ) → Quiet j p (outcome pending p d).picture
pending_is_quiet j p d = pending_ways (λ (o : Outcome). Quiet j p o.picture) p d (λ k. nothing_is_quiet j p) (nothing_is_quiet j p)

-- the calls that leave the tables as they are
tables_quiet : (j : ℕ) → j < positions Jobs → (p q : List ℕ) → TablesSame p q → Quiet j p q
tables_quiet j l p q s = kept_or_cleared_is_quiet j p q (field_same p q s Jobs j accumulated_field l (omega arith)) (λ i m ne. inl (field_same p q s Jobs i accumulated_field m (omega arith)))

pub take_is_quiet : (j : ℕ) → j < positions Jobs → (p d : List ℕ) → sound p ≡ true → Quiet j p (outcome take p d).picture
take_is_quiet j l p d h = take_ways (λ (o : Outcome). Quiet j p o.picture) p d (λ k. nothing_is_quiet j p) (λ a b c. tables_quiet j l p (taken p d) (taken_tables p d h b c))

pub give_back_is_quiet : (j : ℕ) → j < positions Jobs → (p d : List ℕ) → sound p ≡ true → Quiet j p (outcome give_back p d).picture
give_back_is_quiet j l p d h = give_back_ways (λ (o : Outcome). Quiet j p o.picture) p d (λ k. nothing_is_quiet j p) (λ a. tables_quiet j l p (given_back p (A0 d)) (given_back_tables p d h a))

pub fetch_is_quiet : (j : ℕ) → j < positions Jobs → (p d : List ℕ) → sound p ≡ true → Quiet j p (outcome fetch p d).picture
fetch_is_quiet j l p d s = fetch_ways (λ (o : Outcome). Quiet j p o.picture) p d (λ k. nothing_is_quiet j p)
    (λ a b c. let H = live_queue p (A0 d) s a in
    tables_quiet j l p (fetched p (queue_there p d)) (tables p (fetched p (queue_there p d)) (position (A0 d)) (queue_there p d) (view p s) H (fetched_written p (position (A0 d)) (queue_there p d) H c)))

pub send_is_quiet : (j : ℕ) → j < positions Jobs → (p d : List ℕ) → sound p ≡ true → Quiet j p (outcome send p d).picture
send_is_quiet j l p d s = send_ways (λ (o : Outcome). Quiet j p o.picture) p d (λ k. nothing_is_quiet j p)
    (λ a b c. let H = live_queue p (A0 d) s a in
    tables_quiet j l p (sent p (queue_there p d) (D1 d % 256)) (tables p (sent p (queue_there p d) (D1 d % 256)) (position (A0 d)) (queue_there p d) (view p s) H (sent_written p (position (A0 d)) (queue_there p d) H (D1 d % 256) (low_byte (D1 d)) c)))

-- nobody becomes current
nobody_quiet : (j : ℕ) (p q : List ℕ) → Quiet j p q → Quiet j p (with_nobody q)
nobody_quiet j p q s = quiet_after_quiet j p q (with_nobody q) s (kept_is_quiet j q (with_nobody q) (λ i. field_nobody q i accumulated_field))

-- another job's record changes, and its accumulated becomes 0
record_quiet : (j k : ℕ) (p q : List ℕ) → Written p q k → accumulated q k ≡ 0 → (j ≡ k → ⊥) → Quiet j p q
record_quiet j k p q w nought ne =
    kept_or_cleared_is_quiet j p q (w.others j ne accumulated_field (omega arith))
    (λ i l ij. by_cases (ℕ_discrete i k) (λ e. inr (ap (accumulated q) e ∙ nought)) (λ n. inl (w.others i n accumulated_field (omega arith))))

-- a ready job is active, and has timeout 0 with nobody current
ready_active : (p : List ℕ) (k : ℕ) → ready p k ≡ true → active p k ≡ true
unfolding active
ready_active p k r = le-leb 1 (priority p k) (ready_has p k r).0

nobody_timeout : (p : List ℕ) (k : ℕ) → ready (with_nobody p) k ≡ true → timeout p k ≡ pos 0
nobody_timeout p k r = sym (timeout_same p (with_nobody p) k (field_nobody p k timeout_field)) ∙ (ready_has (with_nobody p) k r).1

-- $9
module _ (p : List ℕ) (k : ℕ) where
  abbrev r1 : List ℕ
  r1 = with_timeout p k (pos 0)

  abbrev r2 : List ℕ
  r2 = with_wait r1 k 0

  abbrev r3 : List ℕ
  r3 = with_key r2 k 0

  released_accumulated : (i : ℕ) → accumulated (released p k) i ≡ accumulated p i
  unfolding released
  released_accumulated i = go (eq_z (timeout p k) (pos 0))
    where
      go : (b : Bool) → accumulated (cond b p r3) i ≡ accumulated p i
      go true = refl
      go false =
          field_kept r2 i k accumulated_field key_field 0 (omega arith) (omega arith) (λ e. omega arith)
          ∙ field_kept r1 i k accumulated_field wait_field 0 (omega arith) (omega arith) (λ e. omega arith)
          ∙ field_kept p i k accumulated_field timeout_field 0 (omega arith) (omega arith) (λ e. omega arith)

pub release_is_quiet : (j : ℕ) → j < positions Jobs → (p d : List ℕ) → sound p ≡ true → Quiet j p (outcome release p d).picture
release_is_quiet j l p d h = release_ways (λ (o : Outcome). Quiet j p o.picture) p d (λ k. nothing_is_quiet j p)
    (λ _. nobody_quiet j p (released p (stand p d)) (kept_is_quiet j p (released p (stand p d)) (released_accumulated p (stand p d))))

-- $8: the job suspended has a timeout, so it isn't the one that is ready after
suspends_some : (z : ℤ) → suspends (timeout_of z) ≡ true → value (timeout_of z) ≡ pos 0 → ⊥
suspends_some z s v = ⊎_elim (λ e. false_true (sym (ap suspends e) ∙ s)) (λ e. false_true (sym (ap suspends e) ∙ s)) (value_zero z v)

module _ (p : List ℕ) (S : Sound p) (k : ℕ) (u : used p Jobs k ≡ true) where
  below : k < positions Jobs
  below = used_below p Jobs k u

  room : heap_base ≤ length p
  room = let l = S.sizes.least in omega arith

  reads : (q : List ℕ) (f v : ℕ) → f < width Jobs → length q ≡ length p → field (with_field q Jobs k f v) Jobs k f ≡ v
  reads q f v l e = let b = below in let r = room in field_written q k f v (omega arith)

  module _ (t : ℤ) where
    abbrev s1 : List ℕ
    s1 = with_timeout p k t

    abbrev s2 : List ℕ
    s2 = with_wait s1 k 0

    abbrev s3 : List ℕ
    s3 = with_accumulated s2 k 0

    suspended_timeout : Timely t → timeout (suspended p k t) k ≡ t
    unfolding suspended
    suspended_timeout h = timeout_stored (suspended p k t) k t (timely_fits t h)
        (field_kept s3 k k timeout_field key_field 0 (omega arith) (omega arith) (λ e. omega arith)
        ∙ field_kept s2 k k timeout_field accumulated_field 0 (omega arith) (omega arith) (λ e. omega arith)
        ∙ field_kept s1 k k timeout_field wait_field 0 (omega arith) (omega arith) (λ e. omega arith)
        ∙ reads p timeout_field (bits t) (omega arith) refl)

    suspended_nought : accumulated (suspended p k t) k ≡ 0
    unfolding suspended
    suspended_nought =
        field_kept s3 k k accumulated_field key_field 0 (omega arith) (omega arith) (λ e. omega arith)
        ∙ reads s2 accumulated_field 0 (omega arith) (simp length-set)

    suspended_quiet : (n j g : ℕ) → Timely t → (t ≡ pos 0 → ⊥) → Stands n j g (with_nobody (suspended p k t)) → Quiet j p (suspended p k t)
    suspended_quiet n j g h some s = record_quiet j k p (suspended p k t) (suspended_written p S k u t) suspended_nought (λ e.
        some (sym (suspended_timeout h) ∙ ap (timeout (suspended p k t)) (sym e) ∙ nobody_timeout (suspended p k t) j s.is_ready))

  -- $A, $B
  prioritized_nought : (v : ℕ) → accumulated (prioritized p k v) k ≡ 0
  unfolding prioritized
  prioritized_nought v = reads (with_priority p k v) accumulated_field 0 (omega arith) (simp length-set)

  prioritized_quiet : (j v : ℕ) → (j ≡ k → ⊥) → Quiet j p (prioritized p k v)
  prioritized_quiet j v ne = record_quiet j k p (prioritized p k v) (prioritized_written p S k u v) (prioritized_nought v) ne

pub suspend_is_quiet : (n j g : ℕ) → j < positions Jobs → (p d : List ℕ) → sound p ≡ true → Stands n j g (outcome suspend p d).picture → Quiet j p (outcome suspend p d).picture
suspend_is_quiet n j g l p d h = suspend_ways (λ (o : Outcome). Stands n j g o.picture → Quiet j p o.picture) p d (λ k _. nothing_is_quiet j p) (λ lives good s.
    let t = value (timeout_in (D3 d)) in
    nobody_quiet j p (suspended p (stand p d) t)
    (suspended_quiet p (view p h) (stand p d) (live_is p Jobs (job p d) lives).used t n j g
    (value_timely (low_half (D3 d))) (suspends_some (low_half (D3 d)) (both (suspends (timeout_in (D3 d))) (eqb (A1 d) 0) good).0) s))

-- $B: the job named has another number
pub set_priority_is_quiet : (n j g : ℕ) → j < positions Jobs → (p d : List ℕ) → sound p ≡ true → Stands n j g p → (meant p (D1 d) ≡ n → ⊥) → Quiet j p (outcome set_priority p d).picture
set_priority_is_quiet n j g l p d h s other = set_priority_ways (λ (o : Outcome). Quiet j p o.picture) p d (λ k. nothing_is_quiet j p) (λ lives _.
    let L = live_is p Jobs (job p d) lives in
    let v = D2 d % 256 in
    nobody_quiet j p (prioritized p (stand p d) v)
    (prioritized_quiet p (view p h) (stand p d) L.used j v (λ y. other (sym L.names ∙ ap (number p Jobs) (sym y) ∙ s.names))))

-- $A: the job named was inactive, and a caller that waits has a timeout after: neither is the one that is ready before and after
module _ (p : List ℕ) (S : Sound p) (m v : ℕ) (lives : live p Jobs m ≡ true) (idle : active p (position m) ≡ false) (someone : caller p ≡ nobody → ⊥) (n j g : ℕ) (before : Stands n j g p) where
  abbrev k : ℕ
  k = position m

  abbrev q : List ℕ
  q = prioritized p k v

  abbrev c : ℕ
  c = position (caller p)

  abbrev c1 : List ℕ
  c1 = with_timeout q c without_end

  abbrev c2 : List ℕ
  c2 = with_accumulated c1 c 0

  abbrev c3 : List ℕ
  c3 = with_wait c2 c m

  k_used : used p Jobs k ≡ true
  k_used = (live_is p Jobs m lives).used

  changed : Written p q k
  changed = prioritized_written p S k k_used v

  raised_quiet : Quiet j p q
  raised_quiet = prioritized_quiet p S k k_used j v (λ e. false_true (sym idle ∙ ap (active p) (sym e) ∙ ready_active p j before.is_ready))

  c_was_used : used p Jobs c ≡ true
  c_was_used = ⊎_elim (λ e. absurd (someone e)) (λ e. (live_is p Jobs (caller p) e.0).used) S.current

  c_used : used q Jobs c ≡ true
  c_used = steady_used p q changed.steady Jobs c ∙ c_was_used

  waits_written : Written q c3 c
  waits_written =
      written_field q c2 c wait_field m (omega arith) (omega arith)
      (written_field q c1 c accumulated_field 0 (omega arith) (omega arith)
      (written_field q q c timeout_field (bits without_end) (omega arith) (omega arith) (written_none q c c_used)))

  c_timeout : timeout c3 c ≡ without_end
  c_timeout = timeout_stored c3 c without_end (timely_fits without_end timely_endless)
      (field_kept c2 c c timeout_field wait_field m (omega arith) (omega arith) (λ e. omega arith)
      ∙ field_kept c1 c c timeout_field accumulated_field 0 (omega arith) (omega arith) (λ e. omega arith)
      ∙ reads p S c c_was_used q timeout_field (bits without_end) (omega arith) changed.steady.long)

  c1_long : length c1 ≡ length q
  c1_long = simp length-set

  c_nought : accumulated c3 c ≡ 0
  c_nought =
      field_kept c2 c c accumulated_field wait_field m (omega arith) (omega arith) (λ e. omega arith)
      ∙ reads p S c c_was_used c1 accumulated_field 0 (omega arith) (c1_long ∙ changed.steady.long)

  not_caller : Stands n j g (with_nobody c3) → j ≡ c → ⊥
  not_caller s e =
      let z : without_end ≡ pos 0 = sym c_timeout ∙ ap (timeout c3) (sym e) ∙ nobody_timeout c3 j s.is_ready in
      false_true (ap non_neg z)

  activated_quiet : (t : Option Timeout) → Stands n j g (with_nobody (waiting q t c m)) → Quiet j p (waiting q t c m)
  unfolding waiting
  activated_quiet t = go (endless t)
    where
      go : (b : Bool) → Stands n j g (with_nobody (cond b c3 q)) → Quiet j p (cond b c3 q)
      go true s = quiet_after_quiet j p q c3 raised_quiet (record_quiet j c q c3 waits_written c_nought (not_caller s))
      go false s = raised_quiet

pub activate_is_quiet : (n j g : ℕ) → j < positions Jobs → (p d : List ℕ) → sound p ≡ true → (caller p ≡ nobody → ⊥) → Stands n j g p → Stands n j g (outcome activate p d).picture → Quiet j p (outcome activate p d).picture
activate_is_quiet n j g l p d h someone before =
    activate_ways (λ (o : Outcome). Stands n j g o.picture → Quiet j p o.picture) p d (λ k _. nothing_is_quiet j p) (λ lives idle _ _ after.
    nobody_quiet j p (waiting (prioritized p (stand p d) (D2 d % 256)) (timeout_in (D3 d)) (position (caller p)) (job p d))
    (activated_quiet p (view p h) (job p d) (D2 d % 256) lives idle someone n j g before (timeout_in (D3 d)) after))
