-- Document 01 (rule 91): "name PIPE_n, either case". A name is a list of bytes of any length.
use Rattle.std.specs.Prelude.{ℕ, ◌+◌, ◌-◌, ◌*◌, Bool, true, false, ◌&&◌, ◌||◌, cond, List, [], ◌∷◌, length, get_or, drop, leb, eqb, ℤ, Result, Ok, Err}
use Rattle.words.specs.Each.{all}
use Rattle.picture.specs.Keys.{done, not_found, bad_name, bad_parameter}
use Rattle.sound_areas.specs.Rules.{longest_queue}
use Rattle.calls.specs.Call.{Check}
use Rattle.names.specs.declared.NameFault.{NameFault}
use Rattle.names.specs.declared.NameFault.TheVariants.{Foreign, Unnumbered, Bare}

-- the key of each answer: a good name; -7, -12, -15
unfoldable pub key_of : Result ℕ NameFault → ℤ
key_of (Ok n) = done
key_of (Err Foreign) = not_found
key_of (Err Unnumbered) = bad_name
key_of (Err Bare) = bad_parameter

-- the name is PIPE_n
unfoldable pub good : Result ℕ NameFault → Bool
good (Ok n) = true
good (Err fault) = false

-- the check of a name
abbrev pub name_check : Result ℕ NameFault → Check
name_check n = (good n, key_of n)

-- the n of PIPE_n; another name is refused, and 0 stands for it
unfoldable pub number_in : Result ℕ NameFault → ℕ
number_in (Ok n) = n
number_in (Err fault) = 0

-- the byte at i, 0 past the end
abbrev pub byte : List ℕ → ℕ → ℕ
byte s i = get_or s i 0

-- "either case": the byte b is the letter whose capital is c
unfoldable pub letter : ℕ → ℕ → Bool
letter c b = eqb b c || eqb b (c + 32)

-- the name starts with P, I, P, E
unfoldable pub pipe : List ℕ → Bool
pipe s = letter 80 (byte s 0) && (letter 73 (byte s 1) && (letter 80 (byte s 2) && letter 69 (byte s 3)))

-- a byte from 0 to 9
unfoldable pub digit : ℕ → Bool
digit b = leb 48 b && leb b 57

-- what digits are worth after digits worth n
abbrev pub worth : ℕ → List ℕ → ℕ
worth n [] = n
worth n (b ∷ l) = worth (n * 10 + (b - 48)) l

-- "1 to 5 digits worth 1 to 32,766"
unfoldable pub number : List ℕ → Bool
number l = (leb 1 (length l) && leb (length l) 5) && (all digit l && (leb 1 (worth 0 l) && leb (worth 0 l) longest_queue))

-- "PIPE_ followed by anything but 1 to 5 digits worth 1 to 32,766": -12
unfoldable pub numbered : List ℕ → Result ℕ NameFault
numbered l = cond (number l) (Ok (worth 0 l)) (Err Unnumbered)

-- "name isn't PIPE": -7; "bare PIPE: -15; PIPE and then a character other than _: -7"
unfoldable pub named : List ℕ → Result ℕ NameFault
named s = cond (pipe s) (cond (eqb (length s) 4) (Err Bare) (cond (eqb (byte s 4) 95) (numbered (drop 5 s)) (Err Foreign))) (Err Foreign)
