-- A low word read as signed is 0 where the word is.
use Prim.Native.Nat.{ℕ, suc, ◌-◌, ◌^◌, ◌≤◌, ◌<◌}
use mathlib.Core.Path.{◌≡◌, sym, ap, ◌∙◌}
use mathlib.Core.Logic.{⊎_elim}
use native.Mathlib.Omega.{arith}
use lib.Dec.{eqb}
use borrow.Author.Tests.{ne_eqb}
use mir.Syntax.{w16, w32}
use mir.Val.{to_z, of_z}
use mir.ValLaws.{to_z_pos, to_z-neg}
use Rattle.words.proofs.Tests.{lt_or_ge}

pub low_half_zero : (y : ℕ) → y < 65536 → eqb (of_z w32 (to_z w16 y)) 0 ≡ eqb y 0
low_half_zero y h = ⊎_elim
    (λ (l : y < 32768). rw (to_z_pos w16 y l))
    (λ (l : 32768 ≤ y).
    let k = 65535 - y in
    let e : 2 ^ 16 - suc k ≡ y = omega arith in
    let z : to_z w16 y ≡ to_z w16 (2 ^ 16 - suc k) = ap (to_z w16) (sym e) in
    rw (z, to_z-neg w16 k (omega arith)) (ne_eqb (2 ^ 32 - suc k) 0 (omega arith) ∙ sym (ne_eqb y 0 (omega arith))))
    (lt_or_ge y 32768)
