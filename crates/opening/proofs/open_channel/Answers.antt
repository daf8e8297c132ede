use native.Mathlib.Omega.{arith}
use mathlib.Core.Path.{sym, ◌∙◌}
use Rattle.std.proofs.lemmas.Result.{err_from_is_err_and}
use Rattle.picture.specs.declared.Table.TheVariants.{Channels}
use Rattle.picture.specs.declared.Area.TheVariants.{Heap}
use Rattle.calls.proofs.Outcome.{meets_refuse}
use Rattle.rooms.proofs.Sizes.{areas_lie_in_a_sound_picture, placed_in_a_sound_picture}
use Rattle.rooms.proofs.Tables.{placing_leaves_the_tables, writing_leaves_the_tables}
use Rattle.sound.proofs.Room.{sound_tables}
use Rattle.entering.proofs.Vacant.{free_record_stays_zero}
use Rattle.opening.proofs.Ways.{open_dead, open_misnamed, open_no_position, open_no_tag, open_nowhere, open_there}
use Rattle.opening.proofs.open_channel.Goals as goal

pub returns-in_default : goal.returns-in_default
returns-in_default c = meets_refuse _ _ _ _ (open_dead _ _ _ (rw (c.number_meant-meant.ensures, c.word.ensures) at (sym c.entry_at.ensures ∙ c.in_default.is)))

pub returns-in_err-n : goal.returns-in_err-n
returns-in_err-n c =
    let lives = rw (c.number_meant-meant.ensures, c.word.ensures) at (sym c.entry_at.ensures ∙ c.in-Some.is) in
    let fault = err_from_is_err_and c.from_residual.result c.from_residual.ensures.1 in
    rw (fault.1, fault.2) (meets_refuse _ _ _ _ (open_misnamed _ _ _ _ lives _ (sym c.read_name.ensures ∙ c.in_err-n.was)))

pub free_position-k-requires : goal.free_position-k-requires
free_position-k-requires c = sound_tables _ c.requires

pub returns-then-k-ge-CHANNELS : goal.returns-then-k-ge-CHANNELS
returns-then-k-ge-CHANNELS c =
    let lives = rw (c.number_meant-meant.ensures, c.word.ensures) at (sym c.entry_at.ensures ∙ c.in-Some.is) in
    let fair = sym c.read_name.ensures ∙ c.in_ok-n.was in
    meets_refuse _ _ _ _ (open_no_position _ _ _ _ lives _ fair (rw c.free_position-k.ensures.0 at c.if-k-ge-CHANNELS.true))

pub word_at-last-requires : goal.word_at-last-requires
word_at-last-requires c = let h = sound_tables _ c.requires in rw c.last_of.ensures (omega arith)

pub returns-then-last-ge-GREATEST_TAG : goal.returns-then-last-ge-GREATEST_TAG
returns-then-last-ge-GREATEST_TAG c =
    let lives = rw (c.number_meant-meant.ensures, c.word.ensures) at (sym c.entry_at.ensures ∙ c.in-Some.is) in
    let fair = sym c.read_name.ensures ∙ c.in_ok-n.was in
    let free = rw c.free_position-k.ensures.0 at c.if-k-ge-CHANNELS.false in
    meets_refuse _ _ _ _ (open_no_tag _ _ _ _ lives _ fair free (rw (c.word_at-last.ensures, c.last_of.ensures) at c.if-last-ge-GREATEST_TAG.true))

pub place_in-requires : goal.place_in-requires
place_in-requires c = (areas_lie_in_a_sound_picture _ c.requires Heap).inside

pub returns-in_default-place_in : goal.returns-in_default-place_in
returns-in_default-place_in c =
    let lives = rw (c.number_meant-meant.ensures, c.word.ensures) at (sym c.entry_at.ensures ∙ c.in-Some.is) in
    let fair = sym c.read_name.ensures ∙ c.in_ok-n.was in
    let free = rw c.free_position-k.ensures.0 at c.if-k-ge-CHANNELS.false in
    let tagged = rw (c.word_at-last.ensures, c.last_of.ensures) at c.if-last-ge-GREATEST_TAG.false in
    let owner = rw c.word.ensures at c.number_meant-meant.ensures in
    open_nowhere _ _ _ _ lives _ fair free tagged _ _ owner c.round_up-bytes.ensures _ c.place_in.ensures.leaves (sym c.place_in.ensures.answers ∙ c.in_default-place_in.is)

pub overflow_add-i : goal.overflow_add-i
overflow_add-i c = let l = placed_in_a_sound_picture _ c.requires Heap _ _ (sym c.place_in.ensures.answers ∙ c.in-Some-place_in.is) in omega arith

pub enter_channel-requires : goal.enter_channel-requires
enter_channel-requires c =
    let at = sym c.place_in.ensures.answers ∙ c.in-Some-place_in.is in
    let place = c.free_position-k.ensures.0 in
    let free = c.if-k-ge-CHANNELS.false in
    let placed = placing_leaves_the_tables c.args.p.now _ Heap (areas_lie_in_a_sound_picture _ c.requires Heap) _ _ _ _ _ at c.place_in.ensures.leaves in
    let behind = writing_leaves_the_tables c.args.p.now _ _ _ _ _ placed c.put.ensures in
    let long = behind.long in
    let zero = free_record_stays_zero c.args.p.now _ c.requires Channels (rw place at free) behind.tables in
    (((omega (arith, sound_tables c.args.p.now c.requires), (free, rw place zero)), omega (arith, c.if-last-ge-GREATEST_TAG.false)), placed_in_a_sound_picture _ c.requires Heap _ _ at)

pub returns : goal.returns
returns c =
    let lives = rw (c.number_meant-meant.ensures, c.word.ensures) at (sym c.entry_at.ensures ∙ c.in-Some.is) in
    let fair = sym c.read_name.ensures ∙ c.in_ok-n.was in
    let free = rw c.free_position-k.ensures.0 at c.if-k-ge-CHANNELS.false in
    let tagged = rw (c.word_at-last.ensures, c.last_of.ensures) at c.if-last-ge-GREATEST_TAG.false in
    let owner = rw c.word.ensures at c.number_meant-meant.ensures in
    let at = sym c.place_in.ensures.answers ∙ c.in-Some-place_in.is in
    let written = c.enter_channel.ensures ∙ rw (c.put.ensures, c.free_position-k.ensures.0, c.word_at-last.ensures, c.last_of.ensures) in
    let given = c.answer_channel.ensures ∙ rw (c.number_of.ensures, c.free_position-k.ensures.0, c.word_at-last.ensures, c.last_of.ensures) in
    open_there _ _ _ _ lives _ fair free tagged _ _ owner c.round_up-bytes.ensures _ c.place_in.ensures.leaves c.in-Some-place_in.i _ _ at written given
