use native.Mathlib.Omega.{arith}
use mathlib.Core.Path.{sym, ◌∙◌}
use Rattle.picture.specs.declared.Table.TheVariants.{Jobs}
use Rattle.picture.specs.declared.Area.TheVariants.{Transient}
use Rattle.calls.proofs.Outcome.{meets_refuse}
use Rattle.rooms.proofs.Sizes.{areas_lie_in_a_sound_picture, placed_in_a_sound_picture}
use Rattle.rooms.proofs.Tables.{placing_leaves_the_tables}
use Rattle.sound.proofs.Room.{sound_tables}
use Rattle.entering.proofs.Vacant.{free_record_stays_zero}
use Rattle.creating.proofs.Ways.{position_free, no_position, tag_left, no_tag, create_dead, create_bad, create_no_position, create_no_tag, create_nowhere, create_there}
use Rattle.creating.proofs.create.Goals as goal

pub returns-in_default : goal.returns-in_default
returns-in_default c = meets_refuse _ _ _ _ (create_dead _ _ (rw c.word.ensures at (sym c.owner_for.ensures ∙ c.in_default.is)))

pub returns-then-data-lt-LEAST_DATA : goal.returns-then-data-lt-LEAST_DATA
returns-then-data-lt-LEAST_DATA c =
    let o = rw c.word.ensures at (sym c.owner_for.ensures ∙ c.in-Some.is) in
    meets_refuse _ _ _ _ (create_bad _ _ _ o (rw c.word-data.ensures at c.if-data-lt-LEAST_DATA.true))

pub free_position-k-requires : goal.free_position-k-requires
free_position-k-requires c = sound_tables _ c.requires

pub returns-then-k-ge-JOBS : goal.returns-then-k-ge-JOBS
returns-then-k-ge-JOBS c =
    let o = rw c.word.ensures at (sym c.owner_for.ensures ∙ c.in-Some.is) in
    meets_refuse _ _ _ _ (create_no_position _ _ _ o (rw c.word-data.ensures at c.if-data-lt-LEAST_DATA.false) (no_position _ Jobs (rw c.free_position-k.ensures.0 at c.if-k-ge-JOBS.true)))

pub word_at-last-requires : goal.word_at-last-requires
word_at-last-requires c = let h = sound_tables _ c.requires in rw c.last_of.ensures (omega arith)

pub returns-then-last-ge-GREATEST_TAG : goal.returns-then-last-ge-GREATEST_TAG
returns-then-last-ge-GREATEST_TAG c =
    let o = rw c.word.ensures at (sym c.owner_for.ensures ∙ c.in-Some.is) in
    meets_refuse _ _ _ _ (create_no_tag _ _ _ o (rw c.word-data.ensures at c.if-data-lt-LEAST_DATA.false) (position_free _ Jobs (rw c.free_position-k.ensures.0 at c.if-k-ge-JOBS.false)) (no_tag _ Jobs (rw (c.word_at-last.ensures, c.last_of.ensures) at c.if-last-ge-GREATEST_TAG.true)))

pub place_in-requires : goal.place_in-requires
place_in-requires c = (areas_lie_in_a_sound_picture _ c.requires Transient).inside

pub returns-in_default-place_in : goal.returns-in_default-place_in
returns-in_default-place_in c =
    let o = rw c.word.ensures at (sym c.owner_for.ensures ∙ c.in-Some.is) in
    let enough = rw c.word-data.ensures at c.if-data-lt-LEAST_DATA.false in
    let place = position_free _ Jobs (rw c.free_position-k.ensures.0 at c.if-k-ge-JOBS.false) in
    let tagged = tag_left _ Jobs (rw (c.word_at-last.ensures, c.last_of.ensures) at c.if-last-ge-GREATEST_TAG.false) in
    let long = rw (c.word-2.ensures, c.word-data.ensures) at c.block_length-length.ensures in
    create_nowhere _ _ _ o enough place tagged _ long _ (rw c.word-start.ensures at c.place_in.ensures.leaves) (sym c.place_in.ensures.answers ∙ c.in_default-place_in.is)

pub header_byte-requires : goal.header_byte-requires
header_byte-requires c = placed_in_a_sound_picture _ c.requires Transient _ _ (sym c.place_in.ensures.answers ∙ c.in-Some-place_in.is)

pub enter-requires : goal.enter-requires
enter-requires c =
    let place = c.free_position-k.ensures.0 in
    let free = c.if-k-ge-JOBS.false in
    let behind = placing_leaves_the_tables c.args.p.now _ Transient (areas_lie_in_a_sound_picture c.args.p.now c.requires Transient) _ _ _ _ _ (sym c.place_in.ensures.answers ∙ c.in-Some-place_in.is) c.place_in.ensures.leaves in
    let z = behind.long in
    ((omega (arith, sound_tables c.args.p.now c.requires), (free, rw place (free_record_stays_zero c.args.p.now _ c.requires Jobs (rw place at free) behind.tables))), omega (arith, c.if-last-ge-GREATEST_TAG.false))

pub answer_job-requires : goal.answer_job-requires
answer_job-requires c = placed_in_a_sound_picture _ c.requires Transient _ _ (sym c.place_in.ensures.answers ∙ c.in-Some-place_in.is)

pub returns : goal.returns
returns c =
    let o = rw c.word.ensures at (sym c.owner_for.ensures ∙ c.in-Some.is) in
    let enough = rw c.word-data.ensures at c.if-data-lt-LEAST_DATA.false in
    let place = position_free _ Jobs (rw c.free_position-k.ensures.0 at c.if-k-ge-JOBS.false) in
    let tagged = tag_left _ Jobs (rw (c.word_at-last.ensures, c.last_of.ensures) at c.if-last-ge-GREATEST_TAG.false) in
    let long = rw (c.word-2.ensures, c.word-data.ensures) at c.block_length-length.ensures in
    let leaves = rw c.word-start.ensures at c.place_in.ensures.leaves in
    let at = sym c.place_in.ensures.answers ∙ c.in-Some-place_in.is in
    let written = rw (c.header_byte.ensures, c.free_position-k.ensures.0, c.word_at-last.ensures, c.last_of.ensures) at c.enter.ensures in
    let given = rw (c.number_of.ensures, c.free_position-k.ensures.0, c.word_at-last.ensures, c.last_of.ensures) at c.answer_job.ensures in
    create_there _ _ _ o enough place tagged _ long _ leaves _ _ _ at written given
