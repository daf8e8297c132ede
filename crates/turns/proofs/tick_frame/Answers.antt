use Prim.Native.Nat.{ℕ}
use lib.ListN.{length-set}
use mathlib.Core.Path.{◌≡◌, refl, ◌∙◌, ap}
use mathlib.Core.List.{List}
use mir.Syntax.{w32}
use mir.ValLaws.{to_z-of_z}
use Rattle.words.specs.Signed.{bits}
use Rattle.picture.specs.declared.Table.TheVariants.{Jobs}
use Rattle.picture.specs.Records.{timeout, timeout_field}
use Rattle.picture.specs.Layout.{positions}
use Rattle.picture.proofs.Timeout.{timeout_same}
use Rattle.turns.specs.Fields.{set_each}
use Rattle.turns.specs.Tick.{fallen, ticked}
use Rattle.turns.proofs.Fields.{set_each_none, set_each_next, later_record_stays}
use native.Mathlib.Omega.{arith}
use Rattle.turns.proofs.tick_frame.Invariants.{after}
use Rattle.turns.proofs.tick_frame.Goals as goal

pub loop-k-init : goal.loop-k-init
loop-k-init c = (omega arith, refl, set_each_none c.args.p.now timeout_field (after c.args.p.now))

pub loop-k-preserved : goal.loop-k-preserved
loop-k-preserved c =
    let b = c.bits_of in
    let f = c.fallen in
    let d = c.loop-k in
    let p = c.args.p.now in
    let same =
    ap (λ (x : List ℕ). timeout x d.k) d.invariant.2
    ∙ timeout_same p (set_each p timeout_field (after p) d.k) d.k (later_record_stays p timeout_field (after p) (omega arith) d.k d.k timeout_field (omega arith) (omega arith)) in
    let read = to_z-of_z w32 c.timeout_of-timeout.result (record { sfits = c.timeout_of-timeout.type_inv }) ∙ (rw c.new.ensures at c.timeout_of-timeout.ensures) ∙ same in
    let less = to_z-of_z w32 f.result (record { sfits = f.type_inv }) ∙ f.ensures ∙ ap fallen read in
    (omega arith, rw c.put_field.ensures (simp length-set d.invariant.1), c.put_field.ensures ∙ set_each_next p timeout_field (after p) d.p d.k b.result d.invariant.2 (b.ensures ∙ ap bits less))

pub returns : goal.returns
unfolding ticked
returns c =
    let p = c.args.p.now in
    let e : c.loop-k.k ≡ positions Jobs = omega arith in
    c.loop-k.invariant.2 ∙ ap (set_each p timeout_field (after p)) e
