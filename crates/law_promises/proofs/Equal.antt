-- Whatever satisfies a contract is equal: both are what the definition says.
use Prim.Native.Nat.{ℕ}
use mathlib.Core.Path.{◌≡◌, sym, ◌∙◌}
use mathlib.Core.List.{List}
use denote.Ref.{Bor}
use Rattle.std.specs.Prelude.{Option, Some, None}
use Rattle.errors.specs.Text.{Lies, Answer, spot_of}
use Rattle.errors.specs.declared.Spot.{Spot}
use Rattle.errors.specs.declared.Spot.TheVariants.{System, Driver}
use Rattle.law_promises.specs.Equal.{WhateverMeetsIsEqual}

two_are_one : {A : Type 0} {x y z : A} → x ≡ z → y ≡ z → x ≡ y
two_are_one a b = a ∙ sym b

-- the same part of the same text
same_part : (t : Bor (List ℕ)) (at count : ℕ) (r s : Bor (List ℕ)) → Lies t at count r → Lies t at count s → (r.now ≡ s.now) × (r.ref_ptr ≡ s.ref_ptr)
same_part t at count r s a b = (two_are_one a.bytes b.bytes, λ i. (two_are_one a.block b.block i, two_are_one a.place b.place i))

same_answer : (spot : Option Spot) (system driver r s : Bor (List ℕ)) → Answer spot system driver r → Answer spot system driver s → (r.now ≡ s.now) × (r.ref_ptr ≡ s.ref_ptr)
same_answer (Some (System part)) system driver r s a b = same_part system part.start part.count r s a b
same_answer (Some (Driver part)) system driver r s a b = same_part driver part.start part.count r s a b
same_answer None system driver r s a b = same_part system 0 0 r s a b

pub whatever_meets_is_equal : WhateverMeetsIsEqual
whatever_meets_is_equal = record {
  call = λ trap p d name r s q q' e e' m n. (two_are_one m.answers n.answers, (two_are_one m.leaves n.leaves, two_are_one m.gives n.gives));
  fresh = λ p n h r s q q' a b. (two_are_one a.0 b.0, two_are_one a.1 b.1);
  pick = λ p r s q q' a b. (two_are_one a.0 b.0, two_are_one a.1 b.1);
  tick = λ p r s q q' a b. (two_are_one a.0 b.0, two_are_one a.1 b.1);
  report_tree = λ p top table t t' r s a b. (two_are_one a.0 b.0, two_are_one a.1 b.1);
  error_text = λ key system driver r s a b. same_answer (spot_of key system.now driver.now) system driver r s a b;
  error_key = λ key system driver r s a b. two_are_one a b;
}
