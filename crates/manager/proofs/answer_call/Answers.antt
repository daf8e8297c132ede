use Rattle.manager.proofs.Door.{checked_unsound, checked_nobody, checked_named, named_one, named_two, named_three, named_unknown, meets_equal}
use Rattle.calls.proofs.Outcome.{meets_refuse}
use mathlib.Core.Bool.{true}
use mathlib.Core.Path.{sym, ◌∙◌}
use native.Mathlib.Omega.{arith}
use Rattle.manager.proofs.answer_call.Goals as goal

pub returns-then-not-is_sound : goal.returns-then-not-is_sound
returns-then-not-is_sound c = meets_refuse _ _ _ _ (checked_unsound _ _ _ _ (sym c.is_sound.ensures ∙ c.if-not-is_sound.true))

pub returns-then-caller_of : goal.returns-then-caller_of
returns-then-caller_of c = meets_refuse _ _ _ _ (checked_nobody _ _ _ _ (sym c.is_sound.ensures ∙ c.if-not-is_sound.false) (sym c.caller_of.ensures ∙ c.if-caller_of.true))

pub trap_one-requires : goal.trap_one-requires
trap_one-requires c = sym c.is_sound.ensures ∙ c.if-not-is_sound.false

pub trap_two-requires : goal.trap_two-requires
trap_two-requires c = sym c.is_sound.ensures ∙ c.if-not-is_sound.false

pub trap_three-requires : goal.trap_three-requires
trap_three-requires c = sym c.is_sound.ensures ∙ c.if-not-is_sound.false

pub returns-in-1 : goal.returns-in-1
returns-in-1 c =
    let s = sym c.is_sound.ensures ∙ c.if-not-is_sound.false in
    meets_equal _ _ _ _ _ (checked_named _ _ _ _ s (λ z. c.if-caller_of.false (c.caller_of.ensures ∙ z)) ∙ named_one _ _ _ _ c.in-1.is) (rw c.word-code.ensures at c.trap_one.ensures)

pub returns-in-2 : goal.returns-in-2
returns-in-2 c =
    let s = sym c.is_sound.ensures ∙ c.if-not-is_sound.false in
    meets_equal _ _ _ _ _ (checked_named _ _ _ _ s (λ z. c.if-caller_of.false (c.caller_of.ensures ∙ z)) ∙ named_two _ _ _ _ c.in-2.is) (rw c.word-code.ensures at c.trap_two.ensures)

pub returns-in-3 : goal.returns-in-3
returns-in-3 c =
    let s = sym c.is_sound.ensures ∙ c.if-not-is_sound.false in
    meets_equal _ _ _ _ _ (checked_named _ _ _ _ s (λ z. c.if-caller_of.false (c.caller_of.ensures ∙ z)) ∙ named_three _ _ _ _ c.in-3.is) (rw c.word-code.ensures at c.trap_three.ensures)

pub returns-in_default : goal.returns-in_default
returns-in_default c =
    let s = sym c.is_sound.ensures ∙ c.if-not-is_sound.false in
    meets_refuse _ _ _ _ (checked_named _ _ _ _ s (λ z. c.if-caller_of.false (c.caller_of.ensures ∙ z)) ∙ named_unknown _ _ _ _ (λ e. omega arith) (λ e. omega arith) (λ e. omega arith))
