-- How the code makes a fresh state: node by node. `fresh_all` of proofs/ shows that it makes what 01 says. Assumes nothing.
use Rattle.std.specs.Prelude.{List, ◌≡◌, ℕ, ◌*◌, ◌<◌, length, get_or}
use Rattle.mesh.specs.Cells.{Map, state_length}
use Rattle.talk.specs.State.{own, heard}
use Rattle.talk.specs.Sound.{fresh_heard, fresh_own}

-- node k now holds b as its own byte and h j for direction j; the nodes before it keep theirs
pub record Put (old new : List ℕ) (k b : ℕ) (h : ℕ → ℕ) : Type 0 where
  pub owned : own new k ≡ b
  pub told : (j : ℕ) → j < 6 → heard new k j ≡ h j
  pub kept : (i : ℕ) → i < 7 * k → get_or new i 0 ≡ get_or old i 0

-- the first n nodes hold what the fresh state does
pub record Fresh (m : Map) (o n : ℕ) (s : List ℕ) : Type 0 where
  pub long : length s ≡ state_length m.sizes
  pub owns : (k : ℕ) → k < n → own s k ≡ fresh_own m o k
  pub hears : (k j : ℕ) → k < n → j < 6 → heard s k j ≡ fresh_heard m k j
