-- What a call answers: nothing more, or why it is refused. Each refusal has its key (rule 62).
use Rattle.std.specs.Prelude.{ℤ, Result, Ok, Err, ⊤}
use Rattle.picture.specs.Keys.{done, not_complete, invalid_job, out_of_memory, out_of_range, buffer_overflow, channel_not_open, not_found, bad_name, bad_parameter, not_sound}
use Rattle.picture.specs.declared.Refusal.{Refusal}
use Rattle.picture.specs.declared.Refusal.TheVariants.{NotComplete, InvalidJob, OutOfMemory, OutOfRange, BufferOverflow, ChannelNotOpen, NotFound, BadName, BadParameter, NotSound}

abbrev pub refusal_key : Refusal → ℤ
refusal_key NotComplete = not_complete
refusal_key InvalidJob = invalid_job
refusal_key OutOfMemory = out_of_memory
refusal_key OutOfRange = out_of_range
refusal_key BufferOverflow = buffer_overflow
refusal_key ChannelNotOpen = channel_not_open
refusal_key NotFound = not_found
refusal_key BadName = bad_name
refusal_key BadParameter = bad_parameter
refusal_key NotSound = not_sound

-- rules 65 and 66: the key of the refusal, 0 where there is none
abbrev pub answer_key : Result ⊤ Refusal → ℤ
answer_key (Ok _) = done
answer_key (Err refusal) = refusal_key refusal
