-- What a loop that stores bytes leaves in a list. Assumes nothing.
use Rattle.std.specs.Prelude.{List, ◌≡◌, ℕ, ◌<◌, length, get_or}

-- f i holds v i for each i below n, and every other place what it held
pub record Filled (f v : ℕ → ℕ) (old new : List ℕ) (n : ℕ) : Type 0 where
  pub at : (i : ℕ) → i < n → get_or new (f i) 0 ≡ v i
  pub kept : (k : ℕ) → ((i : ℕ) → i < n → k ≡ f i → ⊥) → get_or new k 0 ≡ get_or old k 0
  pub size : length new ≡ length old
