-- Fields as they are read (rules 121, 123 and 126).
use Rattle.std.specs.Prelude.{◌≡◌, Bool, false, List, [], Option, Some, None, option_map, unwrap_or, map, ℕ, ◌/◌, ◌%◌, ltb, eqb, length, get_or}
use Rattle.std.specs.List.{position}
use Rattle.std.proofs.lemmas.List.Edits.{sets}
use Rattle.program_digits.specs.Digits.{pick, digits, numbers, read}

abbrev pub is_blank : ℕ → Bool
is_blank c = eqb c 32

-- the place of the first blank
abbrev pub blank : List ℕ → Option ℕ
blank s = position is_blank s

-- `-` for none
abbrev pub none : List ℕ → Bool
none s = pick (eqb (length s) 1) (eqb (get_or s 0 0) 45) false

-- two digits are FE
abbrev pub error : Option ℕ → Bool
error (Some n) = eqb n 0xFE
error None = false

-- a text begins with FE
abbrev pub asks : List ℕ → Bool
asks s = error (read s 0 2)

-- the call field is FE and the key in 8 digits
abbrev pub key : List ℕ → Option ℕ
key s = pick (eqb (length s) 10) (pick (asks s) (read s 2 8) None) None

-- how many numbers of w digits each a field holds, at least one and at most n
abbrev pub count : ℕ → ℕ → List ℕ → Option ℕ
count w n s =
    pick (eqb (length s / w) 0) None
    (pick (ltb n (length s / w)) None
    (pick (eqb (length s % w) 0) (pick (digits s 0 (length s)) (Some (length s / w)) None) None))

-- a field of numbers of w digits each, at most n of them, or `-` for none: bytes have two digits, longwords eight
unfoldable pub spelled_in : ℕ → ℕ → List ℕ → Option (List ℕ)
spelled_in w n s = pick (none s) (Some []) (option_map (λ (k : ℕ). numbers s 0 w k) (count w n s))

-- a field is read: how many numbers it has is r, and their values are put into the room a, which is then b
pub record Told {A : Type 0} (value : ℕ → A) (field : Option (List ℕ)) (r : Option ℕ) (a b : List A) : Type 0 where
  pub counted : r ≡ option_map (λ (ns : List ℕ). length ns) field
  pub stored : b ≡ sets a 0 (map value (unwrap_or field []))
