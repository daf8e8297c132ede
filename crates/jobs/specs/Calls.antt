-- Document 01, "Each call, checks in order": $0 and $8 to $B. A success of $8 to $B leaves nobody current (rule 74).
use Rattle.std.specs.Prelude.{ℕ, not, ◌&&◌, List, [], ◌∷◌, eqb}
use Rattle.picture.specs.Keys.{not_complete, bad_parameter}
use Rattle.picture.specs.Records.{active}
use Rattle.picture.specs.Numbers.{position, job_at}
use Rattle.timeouts.specs.Timeout.{timeout_in, value}
use Rattle.calls.specs.Call.{Call}
use Rattle.calls.specs.Found.{job_check, job_position}
use Rattle.calls.specs.Registers.{D1, D2, D3, A1, with_D1, with_D2, with_A0, caller, meant}
use Rattle.calls.specs.Writes.{with_nobody}
use Rattle.effects.specs.Effects.{naming, suspends, suspended, released, low_byte, priority_good, activity_good, prioritized, may_wait, waiting}

-- the ASCII version 1.00
abbrev pub version : ℕ
version = 0x312E_3030

-- rule 75: "$0: D1 current, D2 $312E3030, A0 0."
unfoldable pub information : Call
information p d = record {
  checks = [];
  picture = p;
  registers = with_A0 0 (with_D2 version (with_D1 (caller p) d));
}

-- the number of the job that D1 means
abbrev pub job : List ℕ → List ℕ → ℕ
job p d = meant p (D1 d)

-- rule 83: "$8: live; D3's low word 1 to 32,767 or -1, A1 0 (else -15). Sets the timeout, ends any wait, clears accumulated and key."
unfoldable pub suspend : Call
suspend p d = record {
  checks =
      job_check (job_at p (job p d)) ∷
      (suspends (timeout_in (D3 d)) && eqb (A1 d) 0, bad_parameter) ∷ [];
  picture = with_nobody (suspended p (job_position p d) (value (timeout_in (D3 d))));
  registers = naming (job p d) (job_position p d) d;
}

-- rule 84: "$9: live. Suspended: timeout, wait and key become 0."
unfoldable pub release : Call
release p d = record {
  checks = job_check (job_at p (job p d)) ∷ [];
  picture = with_nobody (released p (job_position p d));
  registers = naming (job p d) (job_position p d) d;
}

-- rule 85: "$A: live; inactive; D2's low byte 1 to 127; D3's low word 0 or -1, and not -1 for job 0. Sets priority, accumulated 0.
-- With -1 the caller has timeout -1, accumulated 0, and waits."
unfoldable pub activate : Call
activate p d = record {
  checks =
      job_check (job_at p (job p d)) ∷
      (not (active p (job_position p d)), not_complete) ∷
      (activity_good (low_byte (D2 d)), bad_parameter) ∷
      (may_wait (timeout_in (D3 d)) (job p d), bad_parameter) ∷ [];
  picture = with_nobody (waiting (prioritized p (job_position p d) (low_byte (D2 d))) (timeout_in (D3 d)) (position (caller p)) (job p d));
  registers = naming (job p d) (job_position p d) d;
}

-- rule 86: "$B: live; low byte of D2 at most 127. Sets priority, clears accumulated."
unfoldable pub set_priority : Call
set_priority p d = record {
  checks =
      job_check (job_at p (job p d)) ∷
      (priority_good (low_byte (D2 d)), bad_parameter) ∷ [];
  picture = with_nobody (prioritized p (job_position p d) (low_byte (D2 d)));
  registers = naming (job p d) (job_position p d) d;
}
