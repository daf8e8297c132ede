-- Names of every kind, worked out.
use mathlib.Core.Path.{◌≡◌, refl}
use mathlib.Core.List.{[], ◌∷◌}
use Rattle.names.specs.Names.{letter, pipe, digit, number, numbered, named}
use Rattle.std.proofs.Common.{Ok, Err}
use Rattle.names.specs.declared.NameFault.TheVariants.{Foreign, Unnumbered, Bare}

-- "PIPE_32766 passes the name check, PIPE_32767 is -12"
pub pipe_32766 : named (80 ∷ 73 ∷ 80 ∷ 69 ∷ 95 ∷ 51 ∷ 50 ∷ 55 ∷ 54 ∷ 54 ∷ []) ≡ Ok 32766
unfolding letter pipe digit number numbered named
pipe_32766 = refl

pub pipe_32767 : named (80 ∷ 73 ∷ 80 ∷ 69 ∷ 95 ∷ 51 ∷ 50 ∷ 55 ∷ 54 ∷ 55 ∷ []) ≡ Err Unnumbered
unfolding letter pipe digit number numbered named
pipe_32767 = refl

-- "either case": pIpe_00001; PIPE_000001 has six digits
pub small_letters : named (112 ∷ 73 ∷ 112 ∷ 101 ∷ 95 ∷ 48 ∷ 48 ∷ 48 ∷ 48 ∷ 49 ∷ []) ≡ Ok 1
unfolding letter pipe digit number numbered named
small_letters = refl

pub six_digits : named (80 ∷ 73 ∷ 80 ∷ 69 ∷ 95 ∷ 48 ∷ 48 ∷ 48 ∷ 48 ∷ 48 ∷ 49 ∷ []) ≡ Err Unnumbered
unfolding letter pipe digit number numbered named
six_digits = refl

-- PIPE_, PIPE_0, PIPE, PIPES, PIP and no byte at all
pub no_digit : named (80 ∷ 73 ∷ 80 ∷ 69 ∷ 95 ∷ []) ≡ Err Unnumbered
unfolding letter pipe digit number numbered named
no_digit = refl

pub worth_nothing : named (80 ∷ 73 ∷ 80 ∷ 69 ∷ 95 ∷ 48 ∷ []) ≡ Err Unnumbered
unfolding letter pipe digit number numbered named
worth_nothing = refl

pub bare_pipe : named (80 ∷ 73 ∷ 80 ∷ 69 ∷ []) ≡ Err Bare
unfolding letter pipe digit number numbered named
bare_pipe = refl

pub another_character : named (80 ∷ 73 ∷ 80 ∷ 69 ∷ 83 ∷ []) ≡ Err Foreign
unfolding letter pipe digit number numbered named
another_character = refl

pub too_short : named (80 ∷ 73 ∷ 80 ∷ []) ≡ Err Foreign
unfolding letter pipe digit number numbered named
too_short = refl

pub no_name : named [] ≡ Err Foreign
unfolding letter pipe digit number numbered named
no_name = refl
