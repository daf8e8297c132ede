-- The rules of soundness by name (rule 16). Each says what the definition of that name says.
use Rattle.std.specs.Prelude.{List, [], ◌∷◌}
use Rattle.picture.specs.declared.Table.{Table}
use Rattle.picture.specs.declared.Table.TheVariants.{Jobs, Channels}

-- what is said of both tables is a rule of each
pub data Rule : Type 0 where
  size_stated : Rule
  seven_zero : Rule
  heap_stated : Rule
  zero_base : Rule
  priority_within : Rule
  accumulated_within : Rule
  timeout_within : Rule
  ends_in_one : Rule
  blank : Table → Rule
  positioned : Table → Rule
  zero_exists : Rule
  tag_within : Table → Rule
  tag_once : Table → Rule
  length_whole : Rule
  kind_known : Rule
  start_zero : Rule
  free_blank : Rule
  queue_room : Rule
  tiles : Rule
  untouched : Rule
  kind_fits : Rule
  block_matched : Table → Rule
  entry_matched : Table → Rule
  owner_live : Table → Rule
  holder_live : Rule
  owner_older : Rule
  zero_unowned : Rule
  tag_given : Table → Rule
  last_within : Table → Rule
  current_ready : Rule
  wait_allowed : Rule
  idle_zero : Rule

-- rule 16: all of them, in document 01's order
abbrev pub rules : List Rule
rules =
    size_stated ∷
    seven_zero ∷
    heap_stated ∷
    zero_base ∷
    priority_within ∷
    accumulated_within ∷
    timeout_within ∷
    ends_in_one ∷
    blank Jobs ∷
    blank Channels ∷
    positioned Jobs ∷
    positioned Channels ∷
    zero_exists ∷
    tag_within Jobs ∷
    tag_within Channels ∷
    tag_once Jobs ∷
    tag_once Channels ∷
    length_whole ∷
    kind_known ∷
    start_zero ∷
    free_blank ∷
    queue_room ∷
    tiles ∷
    untouched ∷
    kind_fits ∷
    block_matched Jobs ∷
    entry_matched Jobs ∷
    block_matched Channels ∷
    entry_matched Channels ∷
    owner_live Jobs ∷
    owner_live Channels ∷
    holder_live ∷
    owner_older ∷
    zero_unowned ∷
    tag_given Jobs ∷
    tag_given Channels ∷
    last_within Jobs ∷
    last_within Channels ∷
    current_ready ∷
    wait_allowed ∷
    idle_zero ∷ []
