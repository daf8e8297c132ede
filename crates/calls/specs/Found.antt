-- A number that is looked up (rules 12 and 70): its check, "job named isn't live", -2, or "channel not live", -6, and the position that is found.
-- A dead number is refused, and 0 stands for its position.
use Rattle.std.specs.Prelude.{ℕ, true, false, List, Option, Some, None}
use Rattle.picture.specs.Keys.{done, invalid_job, channel_not_open}
use Rattle.picture.specs.Numbers.{job_at, channel_at}
use Rattle.calls.specs.Call.{Check}
use Rattle.calls.specs.Registers.{D1, meant}

abbrev pub job_check : Option ℕ → Check
job_check (Some k) = (true, done)
job_check None = (false, invalid_job)

abbrev pub job_place : Option ℕ → ℕ
job_place (Some k) = k
job_place None = 0

abbrev pub channel_check : Option ℕ → Check
channel_check (Some k) = (true, done)
channel_check None = (false, channel_not_open)

abbrev pub channel_place : Option ℕ → ℕ
channel_place (Some k) = k
channel_place None = 0

-- where the job that n names stands, and the channel that n names
abbrev pub place_of_job : List ℕ → ℕ → ℕ
place_of_job p n = job_place (job_at p n)

abbrev pub place_of_channel : List ℕ → ℕ → ℕ
place_of_channel p n = channel_place (channel_at p n)

-- rule 67: where the job that D1 means stands
abbrev pub job_position : List ℕ → List ℕ → ℕ
job_position p d = place_of_job p (meant p (D1 d))
