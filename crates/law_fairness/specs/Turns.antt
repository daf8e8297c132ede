-- Picks in a row, seen from one job. Of a picture the law only needs what each position has accumulated.
-- n is the number of positions, g the greatest priority, h the hold; the job at position j is ready at priority p.
use Rattle.std.specs.Prelude.{◌≢◌, ◌≡◌, List, [], ◌∷◌, ℕ, ◌+◌, ◌≤◌, ◌<◌, min}

-- From just before a pick, where position i has accumulated a i, to just before the next, where it has b i; the pick took position m.
-- No position had accumulated more than m. Where m is not j, m is left with 0 and j gains its priority, held at h; any other gains at most g.
pub record Turn (n g h j p : ℕ) (a : ℕ → ℕ) (m : ℕ) (b : ℕ → ℕ) : Type 0 where
  pub inside : m < n
  pub most : (i : ℕ) → i < n → a i ≤ a m
  pub spent : m ≢ j → b m ≡ 0
  pub gains : (i : ℕ) → i < n → i ≢ j → i ≢ m → b i ≤ a i + g
  pub ours : m ≢ j → min h (a j + p) ≤ b j

-- Picks in a row from a on, and the positions that they took
pub data Turns (n g h j p : ℕ) : (ℕ → ℕ) → List ℕ → Type 0 where
  none : {a : ℕ → ℕ} → Turns n g h j p a []
  turn : {a b : ℕ → ℕ} {m : ℕ} {taken : List ℕ} → Turn n g h j p a m b → Turns n g h j p b taken → Turns n g h j p a (m ∷ taken)
