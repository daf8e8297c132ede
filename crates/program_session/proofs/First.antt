-- The picture that a session starts with. Assumes nothing.
use Rattle.std.proofs.Common.{◌≡◌, ℕ, List, length}
use Rattle.fresh.specs.Fresh.{fresh_good, fresh_picture}
use Rattle.program_session.specs.Session.{first_size, first_heap, first_picture}

-- a room of as many longwords made fresh by these sizes is the first picture
pub fresh_is_first : (p : List ℕ) → first_size ≡ length p → fresh_picture p first_size first_heap ≡ first_picture
unfolding fresh_picture fresh_good first_picture
fresh_is_first p e = rw (← e)
