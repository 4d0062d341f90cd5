-- Visits and full rounds leave the nodes in a sound state, and what is on the way in its room. Assumes nothing.
use mathlib.Core.Path.{◌≡◌, ◌∙◌}
use mathlib.Core.List.{List}
use Prim.Native.Nat.{ℕ, zero, suc, ◌/◌, ◌%◌, ◌<◌}
use native.Mathlib.Omega.{arith}
use lib.ListN.{length, length-set, get_or}
use Rattle.mesh.specs.declared.Sizes.{Sizes}
use Rattle.rounds.specs.Chance.{following, chosen, fate_of}
use Rattle.rounds.specs.declared.chance.Fate.{Fate}
use Rattle.rounds.specs.declared.chance.Fate.TheVariants.{Lost, Late, Twice, Once}
use Rattle.rounds.specs.Links.{links, Net, saying, comes, state_by, way_by, visit, Fit, Going}
use Rattle.rounds.specs.Rounds.{met, visits, tells}
use Rattle.rounds.proofs.Coming.{hear_fit}

pub following_small : (g : ℕ) → following g < 4294967296
unfolding following
following_small g = omega arith

module _ (S : Sizes) (o : ℕ) where
  come_fit : (s : List ℕ) → Fit S o s → (l w : ℕ) → Fit S o (comes S o l w s)
  come_fit s f l w = hear_fit S o s f (l / 6) (l % 6) w

  state_fit : (n : Net) → Going S o n → (l : ℕ) (f : Fate) → Fit S o (state_by S o n l f)
  state_fit n g l Lost = g.fit
  state_fit n g l Late = come_fit n.state g.fit l (get_or n.way l 0)
  state_fit n g l Twice =
      let w = saying S n.state l in
      come_fit (comes S o l w n.state) (come_fit n.state g.fit l w) l w
  state_fit n g l Once = come_fit n.state g.fit l (saying S n.state l)

  way_room : (n : Net) → Going S o n → (l : ℕ) (f : Fate) → length (way_by S n l f) ≡ links S
  way_room n g l Lost = g.room
  way_room n g l Late = length-set n.way l (saying S n.state l) ∙ g.room
  way_room n g l Twice = g.room
  way_room n g l Once = g.room

  visit_going : (n : Net) → Going S o n → (l : ℕ) → Going S o (visit S o n l)
  unfolding visit
  visit_going n g l =
      let f = fate_of (chosen 8 (following n.drawn)) in
      record { fit = state_fit n g l f; room = way_room n g l f; small = following_small n.drawn }

  pub visits_going : (first stride : ℕ) (n : Net) → Going S o n → (i : ℕ) → Going S o (visits S o first stride n i)
  unfolding visits
  visits_going first stride n g zero = g
  visits_going first stride n g (suc i) = visit_going (visits S o first stride n i) (visits_going first stride n g i) (met S first stride i)

  pub tells_fit : (s : List ℕ) → Fit S o s → (l : ℕ) → Fit S o (tells S o s l)
  unfolding tells
  tells_fit s f zero = f
  tells_fit s f (suc l) = come_fit (tells S o s l) (tells_fit s f l) l (saying S (tells S o s l) l)
