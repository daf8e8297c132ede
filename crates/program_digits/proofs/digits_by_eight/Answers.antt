use native.Mathlib.Nat.{sub-zero}
use mathlib.Core.Path.{◌≡◌, sym, ◌∙◌}
use Prim.Native.Nat.{◌+◌}
use Rattle.program_digits.proofs.Reader.{eight_more}
use native.Mathlib.Omega.{arith}
use Rattle.program_digits.proofs.digits_by_eight.Goals as goal

pub loop-k-init : goal.loop-k-init
loop-k-init c = let a = c.args in let z : a.place + 0 ≡ a.place = omega arith in (omega arith, rw (z, sub-zero))

pub returns-then-not-are_eight : goal.returns-then-not-are_eight
returns-then-not-are_eight c = record { bound = c.loop-k.invariant.0; left = c.loop-k.invariant.1 }

pub loop-k-preserved : goal.loop-k-preserved
loop-k-preserved c =
    let d = c.loop-k in
    (omega arith, d.invariant.1 ∙ eight_more _ _ _ _ c.loop-k-test.true (sym c.are_eight.ensures ∙ c.if-not-are_eight.false))

pub returns : goal.returns
returns c = record { bound = c.loop-k.invariant.0; left = c.loop-k.invariant.1 }
