-- A positive key's text lies in the driver's text, with the answer 0, or nowhere, with -7; any other's in the system's or nowhere.
use Prim.Native.Nat.{ℕ, zero, suc}
use mathlib.Core.Bool.{Bool, true, false, cond}
use mathlib.Core.List.{List}
use lib.IntN.{pos, negsuc}
use lib.Dec.{ltb}
use denote.Ref.{Bor}
use Rattle.std.specs.Prelude.{Option, Some, None, option_map, option_and_then}
use Rattle.errors.specs.Text.{Lies, Answer, spot_key, error_key, string_at, nth_at, system_strings}
use Rattle.errors.specs.declared.Part.{Part}
use Rattle.errors.specs.declared.Spot.TheVariants.{System, Driver}
use Rattle.krowjyvan.specs.Part.{SamePart, part_of, text_for}

module _ (system driver r : Bor (List ℕ)) where
  in_drivers : (k : ℕ) (q : Option Part) → Answer (option_map Driver q) system driver r
      → Lies (text_for (pos (suc k)) (spot_key (option_map Driver q)) system driver) (part_of (option_map Driver q)).start (part_of (option_map Driver q)).count r
  in_drivers k (Some part) a = a
  in_drivers k None a = a

  in_systems : (b : Bool) (q : Option Part) → Answer (cond b (option_map System q) None) system driver r
      → Lies system (part_of (cond b (option_map System q) None)).start (part_of (cond b (option_map System q) None)).count r
  in_systems true (Some part) a = a
  in_systems true None a = a
  in_systems false q a = a

pub same_part : SamePart
unfolding SamePart error_key
same_part (pos zero) system driver r a = a
same_part (pos (suc k)) system driver r a = in_drivers system driver r k (string_at driver.now (suc k)) a
same_part (negsuc n) system driver r a = in_systems system driver r (ltb n system_strings) (option_and_then (string_at system.now) (nth_at system.now n)) a
