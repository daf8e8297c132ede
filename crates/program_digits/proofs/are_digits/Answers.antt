use Rattle.std.proofs.Common.{◌≡◌, ◌+◌, ◌-◌, sym, arith}
use Rattle.program_digits.proofs.Reader.{digits_none, digits_past, digits_all}
use Rattle.program_digits.proofs.are_digits.Goals as goal

-- `program_digits::are_digits` meets its contract: characters past the end are no digits, and those behind the eights decide. Assumes nothing.
pub returns-then-count-eq0 : goal.returns-then-count-eq0
returns-then-count-eq0 c = sym (digits_none _ _ _ c.if-count-eq0.true)

pub returns-then-text-count : goal.returns-then-text-count
returns-then-text-count c = sym (digits_past _ _ _ (omega arith) (omega arith))

pub returns-then-text-count-2 : goal.returns-then-text-count-2
returns-then-text-count-2 c = sym (digits_past _ _ _ (omega arith) (omega arith))

pub returns : goal.returns
returns c =
    let a = c.args in
    let e = c.digits_by_eight-passed in
    let z : a.place + a.count - (a.place + e.result) ≡ a.count - e.result = omega arith in
    rw (c.are_all_digits.ensures, e.ensures.left, digits_all a.text.now (a.place + e.result) (a.count - e.result) (omega arith), z)
