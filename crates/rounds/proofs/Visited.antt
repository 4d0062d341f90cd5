-- What a visit and a round with loss leave, by the numbers drawn. Assumes nothing.
use mathlib.Core.Path.{◌≡◌, refl}
use Prim.Native.Nat.{ℕ, zero, suc, ◌<◌, ◌≤◌}
use native.Mathlib.Omega.{arith}
use lib.ListN.{get_or}
use Rattle.mesh.specs.declared.Sizes.{Sizes}
use Rattle.rounds.specs.Chance.{seed, following, chosen, fate_of}
use Rattle.rounds.specs.declared.chance.Fate.{Fate}
use Rattle.rounds.specs.declared.chance.Fate.TheVariants.{Lost, Late, Twice, Once}
use Rattle.rounds.specs.Links.{links, Net, net, state_by, way_by, visit}
use Rattle.rounds.specs.Rounds.{strides, visits, lossy_round}

-- ---- the four fates

-- the number that is drawn after i others
abbrev pub drawn_after : ℕ → ℕ
drawn_after zero = following seed
drawn_after (suc i) = following (drawn_after i)

-- Words are lost, late, repeated and heard once: each fate is met by one of the first 36 numbers, past the two that choose a round's order.
pub each_fate : (f : Fate) → (i : ℕ) × (2 ≤ i) × (i < 36) × (fate_of (chosen 8 (drawn_after i)) ≡ f)
unfolding following chosen
each_fate Lost = (4, omega arith, omega arith, refl)
each_fate Late = (3, omega arith, omega arith, refl)
each_fate Twice = (35, omega arith, omega arith, refl)
each_fate Once = (2, omega arith, omega arith, refl)

-- ---- a visit, and a round

pub visited : (S : Sizes) (o : ℕ) (n : Net) (l g : ℕ) → g ≡ following n.drawn
    → net (state_by S o n l (fate_of (chosen 8 g))) (way_by S n l (fate_of (chosen 8 g))) g ≡ visit S o n l
unfolding visit
visited S o n l g e = rw e

pub lossy : (S : Sizes) (o : ℕ) (n : Net) (g h first stride : ℕ) → g ≡ following n.drawn → h ≡ following g → first ≡ chosen (links S) g
    → stride ≡ get_or strides (chosen 4 h) 0 → visits S o first stride (net n.state n.way h) (links S) ≡ lossy_round S o n
unfolding lossy_round
lossy S o n g h first stride e f i j = rw (j, i, f, e)
