-- $0 and $8 to $B keep a sound picture sound, change only what turns change, give no tag, and make nothing live.
use Prim.Native.Nat.{ℕ, ◌+◌, ◌*◌, ◌%◌, ◌≤◌, ◌<◌}
use mathlib.Core.Path.{◌≡◌, refl, sym, ap, ◌∙◌, subst}
use mathlib.Core.Bool.{Bool, true, false, cond, not, ◌&&◌}
use mathlib.Core.Logic.{inl, inr}
use mathlib.Core.List.{List}
use native.Mathlib.Omega.{arith}
use lib.ListN.{length, set, length-set}
use lib.Seq.{set_out}
use lib.Dec.{leb}
use borrow.Author.Tests.{le-leb, leb-true}
use Rattle.words.specs.Words.{word}
use Rattle.words.specs.Signed.{bits}
use Rattle.words.proofs.Tests.{both, false_true}
use Rattle.picture.specs.Layout.{nobody, current_word, positions, width, greatest_size}
use Rattle.picture.specs.Records.{slot, field, number, priority, used, ready, active, accumulated_field, number_field, priority_field, timeout_field, wait_field, with_accumulated, with_field, with_timeout, with_wait}
use Rattle.picture.specs.Numbers.{position, live}
use Rattle.picture.specs.declared.Table.{Table}
use Rattle.picture.specs.declared.Table.TheVariants.{Jobs}
use Rattle.picture.proofs.Numbers.{Live, live_is}
use Rattle.picture.specs.Layout.{greatest_priority, without_end}
use Rattle.picture.proofs.Timeout.{timeout_same, ready_same, ready_has}
use Rattle.sound.specs.Sound.{sound}
use Rattle.sound_facts.proofs.Sound.{Sizes, Current, Sound}
use Rattle.sound_facts.proofs.View.{view, sound_again}
use Rattle.sound_facts.proofs.Ages.{Ages}
use Rattle.std.proofs.Common.{Option}
use Rattle.timeouts.specs.Timeout.{timeout_in, timeout_of, low_half, value}
use Rattle.timeouts.specs.declared.Timeout.{Timeout}
use Rattle.timeouts.proofs.Cases.{value_timely}
use Rattle.calls.specs.Outcome.{Outcome}
use Rattle.calls.specs.Call.{outcome}
use Rattle.calls.specs.Registers.{D2, D3, caller}
use Rattle.calls.specs.Writes.{with_nobody}
use Rattle.law_steady.proofs.Steady.{Steady, Alike, steady_ages, steady_live, steady_used, steady_still, steady_then}
use Rattle.law_steady.proofs.Writes.{Written, steady_current, written_sound, written_nobody_sound, nobody_sound}
use Rattle.effects.specs.Effects.{suspended, released, low_byte, prioritized, may_wait, endless, waiting}
use Rattle.jobs.specs.Calls.{job, information, suspend, release, activate, set_priority}
use Rattle.law_jobs.proofs.Passed.{stand, suspend_ways, release_ways, activate_ways, set_priority_ways}
use Rattle.law_jobs.proofs.Effects.{suspended_written, suspended_turning, released_written, released_turning, prioritized_written, prioritized_turning, prioritized_current, awaiting_written, awaiting_turning}

nobody_steady : (p q : List ℕ) → Steady p q → Steady p (with_nobody q)
nobody_steady p q s = steady_then p q (with_nobody q) s (steady_current q nobody)

-- a live number's position is in use
at_used : (p : List ℕ) (n : ℕ) → live p Jobs n ≡ true → used p Jobs (position n) ≡ true
at_used p n l = (live_is p Jobs n l).used

-- $0
pub information_keeps_sound : (p d : List ℕ) → sound p ≡ true → sound (outcome information p d).picture ≡ true
unfolding information outcome
information_keeps_sound p d h = h

pub information_is_steady : (p d : List ℕ) → Steady p (outcome information p d).picture
unfolding information outcome
information_is_steady p d = steady_still p

pub information_ages : (p d : List ℕ) → sound p ≡ true → (t : Table) → Ages p (outcome information p d).picture t
information_ages p d h t = steady_ages p (outcome information p d).picture (information_is_steady p d) t

-- $8
pub suspend_keeps_sound : (p d : List ℕ) → sound p ≡ true → sound (outcome suspend p d).picture ≡ true
suspend_keeps_sound p d h =
    let S = view p h in
    suspend_ways (λ (o : Outcome). sound o.picture ≡ true) p d (λ k. h) (λ lives _.
    let u = at_used p (job p d) lives in
    let t = value (timeout_in (D3 d)) in
    sound_again _ (written_nobody_sound p (suspended p (stand p d) t) (stand p d) S (suspended_written p S (stand p d) u t) (suspended_turning p S (stand p d) u t (value_timely (low_half (D3 d))))))

pub suspend_is_steady : (p d : List ℕ) → sound p ≡ true → Steady p (outcome suspend p d).picture
suspend_is_steady p d h = suspend_ways (λ (o : Outcome). Steady p o.picture) p d (λ k. steady_still p) (λ lives _.
    let x = value (timeout_in (D3 d)) in
    nobody_steady p (suspended p (stand p d) x) (suspended_written p (view p h) (stand p d) (at_used p (job p d) lives) x).steady)

pub suspend_ages : (p d : List ℕ) → sound p ≡ true → (t : Table) → Ages p (outcome suspend p d).picture t
suspend_ages p d h t = steady_ages p (outcome suspend p d).picture (suspend_is_steady p d h) t

-- $9
pub release_keeps_sound : (p d : List ℕ) → sound p ≡ true → sound (outcome release p d).picture ≡ true
release_keeps_sound p d h =
    let S = view p h in
    release_ways (λ (o : Outcome). sound o.picture ≡ true) p d (λ k. h) (λ lives.
    let u = at_used p (job p d) lives in
    sound_again _ (written_nobody_sound p (released p (stand p d)) (stand p d) S (released_written p S (stand p d) u) (released_turning p S (stand p d) u)))

pub release_is_steady : (p d : List ℕ) → sound p ≡ true → Steady p (outcome release p d).picture
release_is_steady p d h = release_ways (λ (o : Outcome). Steady p o.picture) p d (λ k. steady_still p) (λ lives.
    nobody_steady p (released p (stand p d)) (released_written p (view p h) (stand p d) (at_used p (job p d) lives)).steady)

pub release_ages : (p d : List ℕ) → sound p ≡ true → (t : Table) → Ages p (outcome release p d).picture t
release_ages p d h t = steady_ages p (outcome release p d).picture (release_is_steady p d h) t

-- $B
pub set_priority_keeps_sound : (p d : List ℕ) → sound p ≡ true → sound (outcome set_priority p d).picture ≡ true
set_priority_keeps_sound p d h =
    let S = view p h in
    set_priority_ways (λ (o : Outcome). sound o.picture ≡ true) p d (λ k. h) (λ lives good.
    let u = at_used p (job p d) lives in
    let v = low_byte (D2 d) in
    sound_again _ (written_nobody_sound p (prioritized p (stand p d) v) (stand p d) S (prioritized_written p S (stand p d) u v) (prioritized_turning p S (stand p d) u v (leb-true v greatest_priority good))))

pub set_priority_is_steady : (p d : List ℕ) → sound p ≡ true → Steady p (outcome set_priority p d).picture
set_priority_is_steady p d h = set_priority_ways (λ (o : Outcome). Steady p o.picture) p d (λ k. steady_still p) (λ lives _.
    nobody_steady p (prioritized p (stand p d) (low_byte (D2 d))) (prioritized_written p (view p h) (stand p d) (at_used p (job p d) lives) (low_byte (D2 d))).steady)

pub set_priority_ages : (p d : List ℕ) → sound p ≡ true → (t : Table) → Ages p (outcome set_priority p d).picture t
set_priority_ages p d h t = steady_ages p (outcome set_priority p d).picture (set_priority_is_steady p d h) t

-- $A: the caller is ready and the job named is not active, so they are two
module _ (p : List ℕ) (S : Sound p) (n v : ℕ) (lives : live p Jobs n ≡ true) (idle : active p (position n) ≡ false) where
  abbrev k : ℕ
  k = position n

  abbrev q : List ℕ
  q = prioritized p k v

  abbrev c : ℕ
  c = position (caller p)

  k_used : used p Jobs k ≡ true
  k_used = at_used p n lives

  changed : Written p q k
  changed = prioritized_written p S k k_used v

  two : ready p c ≡ true → c ≡ k → ⊥
  unfolding active
  two r e = false_true (sym idle ∙ subst (λ (x : ℕ). leb 1 (priority p x) ≡ true) e (le-leb 1 (priority p c) (ready_has p c r).0))

  still_ready : ready p c ≡ true → ready q c ≡ true
  still_ready r = let a = changed.others c (two r) in ready_same p q c (a priority_field (omega arith)) (timeout_same p q c (a timeout_field (omega arith))) ∙ r

  still_current : Current p → Current q
  still_current (inl e) = inl (prioritized_current p S k k_used v ∙ e)
  still_current (inr e) =
      let w = prioritized_current p S k k_used v in
      inr (rw w (steady_live p q changed.steady Jobs (caller p) ∙ e.0), rw w (still_ready e.1))

  -- the job named has its priority: sound again, the caller still current
  raised : v ≤ greatest_priority → Sound q
  raised l = written_sound p q k S changed (prioritized_turning p S k k_used v l) (still_current S.current)

  -- where nobody is current there is no record to wait in
  past_end : (x : List ℕ) (f w : ℕ) → length x ≤ greatest_size → caller p ≡ nobody → with_field x Jobs c f w ≡ x
  past_end x f w l e = let z : position (caller p) ≡ 65535 = rw e refl in set_out x (slot Jobs c + f) w (omega arith)

  abbrev c3 : List ℕ
  c3 = with_wait (with_accumulated (with_timeout q c without_end) c 0) c n

  nowhere : caller p ≡ nobody → c3 ≡ q
  nowhere e =
      let l : length q ≤ greatest_size = rw changed.steady.long S.sizes.most in
      rw (past_end q timeout_field (bits without_end) l e, past_end q accumulated_field 0 l e, past_end q wait_field n l e)

  -- the caller waits for the job named, which is another live one
  module _ (l : v ≤ greatest_priority) (cl : live p Jobs (caller p) ≡ true) (cr : ready p c ≡ true) where
    c_used : used q Jobs c ≡ true
    c_used = steady_used p q changed.steady Jobs c ∙ at_used p (caller p) cl

    other : n ≡ number q Jobs c → ⊥
    other e =
        let b = live_is p Jobs (caller p) cl in
        two cr (ap position (sym b.names ∙ sym (changed.others c (two cr) number_field (omega arith)) ∙ sym e))

    waiting_sound : Sound (with_nobody c3)
    waiting_sound = written_nobody_sound q c3 c (raised l) (awaiting_written q (raised l) c c_used n)
        (awaiting_turning q (raised l) c c_used n (steady_live p q changed.steady Jobs n ∙ lives) other)

    waiting_steady : Steady p c3
    waiting_steady = steady_then p q c3 changed.steady (awaiting_written q (raised l) c c_used n).steady

  module _ (t : Option Timeout) (l : v ≤ greatest_priority) where
    activated_sound : Sound (with_nobody (waiting q t c n))
    unfolding waiting
    activated_sound = go (endless t) S.current
      where
        go : (b : Bool) → Current p → Sound (with_nobody (cond b c3 q))
        go false z = nobody_sound q (raised l)
        go true (inl e) = rw (nowhere e) (nobody_sound q (raised l))
        go true (inr e) = waiting_sound l e.0 e.1

    activated_steady : Steady p (waiting q t c n)
    unfolding waiting
    activated_steady = go (endless t) S.current
      where
        go : (b : Bool) → Current p → Steady p (cond b c3 q)
        go false z = changed.steady
        go true (inl e) = rw (nowhere e) changed.steady
        go true (inr e) = waiting_steady l e.0 e.1

good_priority : (v : ℕ) → leb 1 v && leb v greatest_priority ≡ true → v ≤ greatest_priority
good_priority v h = leb-true v greatest_priority (both (leb 1 v) (leb v greatest_priority) h).1

pub activate_keeps_sound : (p d : List ℕ) → sound p ≡ true → sound (outcome activate p d).picture ≡ true
activate_keeps_sound p d h = activate_ways (λ (o : Outcome). sound o.picture ≡ true) p d (λ k. h) (λ lives idle good _.
    sound_again _ (activated_sound p (view p h) (job p d) (low_byte (D2 d)) lives idle (timeout_in (D3 d)) (good_priority (low_byte (D2 d)) good)))

pub activate_is_steady : (p d : List ℕ) → sound p ≡ true → Steady p (outcome activate p d).picture
activate_is_steady p d h = activate_ways (λ (o : Outcome). Steady p o.picture) p d (λ k. steady_still p) (λ lives idle good _.
    let q = waiting (prioritized p (stand p d) (low_byte (D2 d))) (timeout_in (D3 d)) (position (caller p)) (job p d) in
    nobody_steady p q (activated_steady p (view p h) (job p d) (low_byte (D2 d)) lives idle (timeout_in (D3 d)) (good_priority (low_byte (D2 d)) good)))

pub activate_ages : (p d : List ℕ) → sound p ≡ true → (t : Table) → Ages p (outcome activate p d).picture t
activate_ages p d h t = steady_ages p (outcome activate p d).picture (activate_is_steady p d h) t
