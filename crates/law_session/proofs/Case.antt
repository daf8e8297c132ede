-- The session's cases, worked out.
use mathlib.Core.Path.{refl}
use Rattle.words.specs.Words.{clear}
use Rattle.masks.specs.Masks.{with_bit, mask}
use Rattle.picture.specs.Records.{members, with_members, used}
use Rattle.picture.specs.Numbers.{live, entry_at}
use Rattle.sound_facts.proofs.Worked.{computed}
use Rattle.fresh.specs.Fresh.{fresh}
use Rattle.headers.specs.Header.{header}
use Rattle.placing.specs.Place.{fits, chosen, split, placed, answer}
use Rattle.calls.specs.Call.{outcome}
use Rattle.calls.specs.Registers.{meant}
use Rattle.memory.specs.Memory.{length_good, room_registers, taken, take}
use Rattle.tree.specs.Tree.{climbs, in_tree, tree}
use Rattle.asking.specs.Next.{nearer, next_below, next_member}
use Rattle.report_lines.specs.Line.{depth_within, depth, line}
use Rattle.report_lines.specs.Order.{size, next, lines_from}
use Rattle.report_lines.specs.Report.{tree_lines, report_checks, report_key, report_lines}
use Rattle.program_reports.specs.Reports.{reported}
use Rattle.turns.specs.Fields.{set_each}
use Rattle.turns.specs.Pick.{preferred, chosen_below, chosen_job, accumulated_after, turn_given, picked, picked_number, picked_key}
use Rattle.traps.specs.Traps.{trap_one, call_named}
use Rattle.manager.specs.Door.{checked, called}
use Rattle.manager.specs.Turn.{pick_answer, pick_picture}
use Rattle.program_digits.specs.Digits.{digit, digits, number, numbers}
use Rattle.program_writing.specs.Texts.{capital, spelled, spelled_words, answer_text, answers_text}
use Rattle.program_lines.specs.Frames.{alone, reported as report-read, trapped, frame, called as framed}
use Rattle.program_session.specs.Session.{first_picture, line_text, line_picture, lines, texts, session}
use Rattle.law_session.specs.Case.{WholeCase, NoInput, EmptyLine, ReportOfJobZero, ReportOfNobody, LineAtEnd}

pub whole_case : WholeCase
unfolding computed fresh clear header fits chosen split placed answer outcome meant length_good room_registers taken take with_members entry_at set_each preferred chosen_below chosen_job accumulated_after turn_given picked picked_number picked_key trap_one call_named checked called pick_answer pick_picture digit digits number numbers capital spelled spelled_words answer_text answers_text first_picture line_text line_picture lines texts session alone trapped frame framed
whole_case = refl

pub no_input : NoInput
unfolding lines texts session
no_input = refl

pub empty_line : EmptyLine
unfolding capital spelled spelled_words answer_text answers_text line_text lines texts session frame
empty_line = refl

pub report_of_job_zero : ReportOfJobZero
unfolding computed fresh clear header with_members members used entry_at live mask with_bit climbs in_tree tree nearer next_below next_member depth_within depth line size next lines_from tree_lines report_checks report_key report_lines reported digit digits number numbers capital spelled spelled_words answer_text answers_text first_picture line_text line_picture lines texts session report-read frame framed
report_of_job_zero = refl

pub report_of_nobody : ReportOfNobody
unfolding computed fresh clear header with_members members used entry_at live tree size report_checks report_key report_lines reported digit digits number numbers capital spelled spelled_words answer_text answers_text first_picture line_text line_picture lines texts session report-read frame framed
report_of_nobody = refl

pub line_at_end : LineAtEnd
unfolding computed fresh clear header fits chosen split placed answer outcome meant length_good room_registers taken take with_members entry_at set_each preferred chosen_below chosen_job accumulated_after turn_given picked picked_number picked_key trap_one call_named checked called pick_answer pick_picture digit digits number numbers capital spelled spelled_words answer_text answers_text first_picture line_text line_picture lines texts session alone trapped frame framed
line_at_end = refl
