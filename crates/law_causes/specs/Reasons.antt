-- "Each key is given only for its cause" (rule 62): what can be wrong with each call, in the order of its checks, and the key of each.
use Rattle.std.specs.Prelude.{ℕ, ◌+◌, ◌≡◌, List, [], ◌∷◌, ◌++◌, ◌⊎◌, ℤ}
use Rattle.words.specs.Words.{word, low_word}
use Rattle.picture.specs.Keys.{done, not_complete, invalid_job, out_of_memory, channel_not_open, not_found, bad_name, bad_parameter, not_sound}
use Rattle.picture.specs.declared.Table.TheVariants.{Jobs, Channels}
use Rattle.picture.specs.declared.Area.{Area}
use Rattle.picture.specs.declared.Area.TheVariants.{Heap, Transient}
use Rattle.blocks.specs.Header.{rounded}
use Rattle.calls.specs.Registers.{D1, D2, D3, A0, A1, meant}
use Rattle.effects.specs.Effects.{low_byte}
use Rattle.names.specs.Names.{named, number_in}
use Rattle.traps.specs.Traps.{among}
use Rattle.law_causes.specs.Faults.{Fault, registers_not_eight, picture_not_sound, nobody_current, unknown_call, not_live, owner_not_live, below_four, positions_used_up, tags_used_up, no_block_long_enough, outside_the_tree, job_zero, tree_active, job_active, priority_outside, suspension_outside, activation_outside, length_outside, no_plain_block, not_pipe, bare_pipe, other_character, number_outside, timeout_not_zero, queue_empty, queue_full}

-- a fault and its key
abbrev pub Reason : Type 0
Reason = Fault × ℤ

-- k is the key of the first of these faults that is there, and 0 where none is
abbrev pub Because : (Fault → Type 0) → ℤ → List Reason → Type 0
Because W k [] = k ≡ done
Because W k (r ∷ l) = (W r.0 × (k ≡ r.1)) ⊎ ((W r.0 → ⊥) × Because W k l)

-- none of these faults is there
abbrev pub NoneOf : (Fault → Type 0) → List Reason → Type 0
NoneOf W [] = Unit {0}
NoneOf W (r ∷ l) = (W r.0 → ⊥) × NoneOf W l

module _ (p d s : List ℕ) where
  -- the job that D1 means
  abbrev pub named_job : ℕ
  named_job = meant p (D1 d)

  -- "no free block of that area is long enough": -3
  abbrev no_room : Area → ℕ → List Reason
  no_room a n = (no_block_long_enough a n, out_of_memory) ∷ []

  -- $1, before room, and the bytes that it asks for: 16 + D2 + D3, "rounded up to 16"
  abbrev pub create_before : List Reason
  create_before =
      (owner_not_live (D1 d), invalid_job) ∷
      (below_four (D3 d), bad_parameter) ∷
      (positions_used_up Jobs, invalid_job) ∷
      (tags_used_up Jobs, invalid_job) ∷ []

  abbrev pub create_bytes : ℕ
  create_bytes = rounded (16 + (D2 d + D3 d))

  abbrev pub create_reasons : List Reason
  create_reasons = create_before ++ no_room Transient create_bytes

  -- $2
  abbrev pub ask_reasons : List Reason
  ask_reasons = (not_live Jobs (D2 d), invalid_job) ∷ (not_live Jobs named_job, invalid_job) ∷ (outside_the_tree (D2 d) named_job, invalid_job) ∷ []

  -- $5, and $4
  abbrev pub force_remove_reasons : List Reason
  force_remove_reasons = (not_live Jobs named_job, invalid_job) ∷ (job_zero named_job, bad_parameter) ∷ []

  abbrev pub remove_reasons : List Reason
  remove_reasons = force_remove_reasons ++ ((tree_active named_job, not_complete) ∷ [])

  -- $8, $9, $A, $B
  abbrev pub suspend_reasons : List Reason
  suspend_reasons = (not_live Jobs named_job, invalid_job) ∷ (suspension_outside (low_word (D3 d)) (A1 d), bad_parameter) ∷ []

  abbrev pub release_reasons : List Reason
  release_reasons = (not_live Jobs named_job, invalid_job) ∷ []

  abbrev pub activate_reasons : List Reason
  activate_reasons =
      (not_live Jobs named_job, invalid_job) ∷
      (job_active named_job, not_complete) ∷
      (priority_outside 1 (low_byte (D2 d)), bad_parameter) ∷
      (activation_outside (low_word (D3 d)) named_job, bad_parameter) ∷ []

  abbrev pub set_priority_reasons : List Reason
  set_priority_reasons = (not_live Jobs named_job, invalid_job) ∷ (priority_outside 0 (low_byte (D2 d)), bad_parameter) ∷ []

  -- $18, before room, and the bytes that it asks for: 16 + D1, "rounded up to 16"
  abbrev pub take_before : List Reason
  take_before = (length_outside (D1 d), bad_parameter) ∷ (not_live Jobs (meant p (D2 d)), invalid_job) ∷ []

  abbrev pub take_bytes : ℕ
  take_bytes = rounded (16 + D1 d)

  abbrev pub take_reasons : List Reason
  take_reasons = take_before ++ no_room Heap take_bytes

  -- $19
  abbrev pub give_back_reasons : List Reason
  give_back_reasons = (no_plain_block (A0 d), bad_parameter) ∷ []

  -- trap 2 $1, before room, and the bytes that it asks for where the name is PIPE_n: 32 + n, "rounded up to 16"
  abbrev pub open_before : List Reason
  open_before =
      (not_live Jobs named_job, invalid_job) ∷
      (not_pipe, not_found) ∷
      (bare_pipe, bad_parameter) ∷
      (other_character, not_found) ∷
      (number_outside, bad_name) ∷
      (positions_used_up Channels, channel_not_open) ∷
      (tags_used_up Channels, channel_not_open) ∷ []

  abbrev pub open_bytes : ℕ
  open_bytes = rounded (32 + number_in (named s))

  abbrev pub open_reasons : List Reason
  open_reasons = open_before ++ no_room Heap open_bytes

  -- trap 2 $2
  abbrev pub close_reasons : List Reason
  close_reasons = (not_live Channels (A0 d), channel_not_open) ∷ []

  -- trap 3: $0 and $1, and $5
  abbrev pub fetch_reasons : List Reason
  fetch_reasons = close_reasons ++ ((timeout_not_zero (low_word (D3 d)), bad_parameter) ∷ (queue_empty (A0 d), not_complete) ∷ [])

  abbrev pub send_reasons : List Reason
  send_reasons = close_reasons ++ ((timeout_not_zero (low_word (D3 d)), bad_parameter) ∷ (queue_full (A0 d), not_complete) ∷ [])

  -- the tables of calls
  abbrev pub reasons_one : List (ℕ × List Reason)
  reasons_one =
      (0x0, []) ∷
      (0x1, create_reasons) ∷
      (0x2, ask_reasons) ∷
      (0x4, remove_reasons) ∷
      (0x5, force_remove_reasons) ∷
      (0x6, []) ∷
      (0x8, suspend_reasons) ∷
      (0x9, release_reasons) ∷
      (0xA, activate_reasons) ∷
      (0xB, set_priority_reasons) ∷
      (0x18, take_reasons) ∷
      (0x19, give_back_reasons) ∷ []

  abbrev pub reasons_two : List (ℕ × List Reason)
  reasons_two = (0x1, open_reasons) ∷ (0x2, close_reasons) ∷ []

  abbrev pub reasons_three : List (ℕ × List Reason)
  reasons_three = (0x0, fetch_reasons) ∷ (0x1, fetch_reasons) ∷ (0x5, send_reasons) ∷ []

  -- "unknown trap or call", where the number isn't in a table
  abbrev pub unknown_reasons : List Reason
  unknown_reasons = (unknown_call, bad_parameter) ∷ []

  -- the reasons of the traps, each by its code
  abbrev pub trap_reasons : List (ℕ × List Reason)
  trap_reasons =
      (1, among (word d 0) reasons_one unknown_reasons) ∷
      (2, among (word d 0) reasons_two unknown_reasons) ∷
      (3, among (word d 0) reasons_three unknown_reasons) ∷ []

  abbrev pub call_reasons : ℕ → List Reason
  call_reasons trap = among trap trap_reasons unknown_reasons

  -- "Order: registers not 8 .., picture, nobody current, unknown trap or call .., then as listed per call"
  abbrev pub door_reasons : List Reason
  door_reasons = (registers_not_eight, bad_parameter) ∷ (picture_not_sound, not_sound) ∷ (nobody_current, invalid_job) ∷ []

  abbrev pub reasons : ℕ → List Reason
  reasons trap = door_reasons ++ call_reasons trap
