-- The state at any time is what calls on the fresh one lead to, and a sound state of the map. Assumes nothing.
use mathlib.Core.Path.{refl, sym}
use mathlib.Core.Bool.{Bool, true, false, cond}
use mathlib.Core.List.{List, [], ◌∷◌}
use Prim.Native.Nat.{ℕ, zero, suc, ◌/◌, ◌%◌, ◌≤◌}
use native.Mathlib.Omega.{arith}
use lib.Dec.{ltb}
use lib.ListN.{length-replicate, get_or}
use Rattle.mesh.specs.Mesh.{InRange}
use Rattle.mesh.specs.Cells.{Map}
use Rattle.mesh.specs.declared.Sizes.{Sizes}
use Rattle.talk.specs.Sound.{fresh}
use Rattle.talk.specs.Rounds.{hearing, Later}
use Rattle.talk.proofs.Later.{later_refl, later_trans}
use Rattle.talk.proofs.Exists.{sweep, sweep_kept}
use Rattle.talk.proofs.Fresh.{fresh_promise}
use Rattle.rounds.specs.Chance.{following, chosen, fate_of}
use Rattle.rounds.specs.declared.chance.Fate.{Fate}
use Rattle.rounds.specs.declared.chance.Fate.TheVariants.{Lost, Late, Twice, Once}
use Rattle.rounds.specs.Links.{links, Net, net, saying, comes, state_by, visit, Going}
use Rattle.rounds.specs.Rounds.{strides, met, visits, lossy_round, full_round, lossy_rounds, one_round, after_rounds}
use Rattle.rounds.proofs.Going.{following_small, visits_going, tells_fit}
use Rattle.rounds.proofs.Full.{round_leads}

module _ (S : Sizes) (o : ℕ) where
  come_later : (s : List ℕ) (l w : ℕ) → Later S o s (comes S o l w s)
  come_later s l w = record { calls = hearing (l / 6) (l % 6) w ∷ []; kept = tt; ends = refl }

  state_later : (n : Net) (l : ℕ) (f : Fate) → Later S o n.state (state_by S o n l f)
  state_later n l Lost = later_refl S o n.state
  state_later n l Late = come_later n.state l (get_or n.way l 0)
  state_later n l Twice =
      let w = saying S n.state l in
      let t = comes S o l w n.state in
      later_trans S o n.state t (comes S o l w t) (come_later n.state l w) (come_later t l w)
  state_later n l Once = come_later n.state l (saying S n.state l)

  visit_later : (n : Net) (l : ℕ) → Later S o n.state (visit S o n l).state
  unfolding visit
  visit_later n l = state_later n l (fate_of (chosen 8 (following n.drawn)))

  visits_later : (first stride : ℕ) (n : Net) (i : ℕ) → Later S o n.state (visits S o first stride n i).state
  unfolding visits
  visits_later first stride n zero = later_refl S o n.state
  visits_later first stride n (suc i) =
      let v = visits S o first stride n i in
      let l = met S first stride i in
      later_trans S o n.state v.state (visit S o v l).state (visits_later first stride n i) (visit_later v l)

  lossy_later : (n : Net) → Later S o n.state (lossy_round S o n).state
  unfolding lossy_round
  lossy_later n =
      let g = following n.drawn in
      let h = following g in
      visits_later (chosen (links S) g) (get_or strides (chosen 4 h) 0) (net n.state n.way h) (links S)

  full_later : (s : List ℕ) → Later S o s (full_round S o s)
  full_later s = record { calls = sweep S o s (links S); kept = sweep_kept S o s (links S); ends = sym (round_leads S o s) }

  round_later : (r : ℕ) (n : Net) → Later S o n.state (one_round S o r n).state
  unfolding one_round
  round_later r n = go (ltb r lossy_rounds)
    where
      go : (b : Bool) → Later S o n.state (cond b (lossy_round S o n) (net (full_round S o n.state) n.way n.drawn)).state
      go true = lossy_later n
      go false = full_later n.state

  round_going : (r : ℕ) (n : Net) → Going S o n → Going S o (one_round S o r n)
  unfolding one_round lossy_round full_round
  round_going r n g = go (ltb r lossy_rounds)
    where
      go : (b : Bool) → Going S o (cond b (lossy_round S o n) (net (full_round S o n.state) n.way n.drawn))
      go true =
          let h = following (following n.drawn) in
          visits_going S o (chosen (links S) (following n.drawn)) (get_or strides (chosen 4 h) 0) (net n.state n.way h)
          (record { fit = g.fit; room = g.room; small = following_small (following n.drawn) }) (links S)
      go false = record { fit = tells_fit S o n.state g.fit (links S); room = g.room; small = g.small }

module _ (m : Map) (o : ℕ) where
  pub later : (r : ℕ) → Later m.sizes o (fresh m o) (after_rounds m o r).state
  unfolding after_rounds
  later zero = later_refl m.sizes o (fresh m o)
  later (suc r) =
      let n = after_rounds m o r in
      later_trans m.sizes o (fresh m o) n.state (one_round m.sizes o r n).state (later r) (round_later m.sizes o r n)

  module _ (fit : InRange m.sizes) (o_le : o ≤ 7) where
    pub going : (r : ℕ) → Going m.sizes o (after_rounds m o r)
    unfolding after_rounds
    going zero =
        record {
          fit = record { sized = fit; turned = o_le; sound = (fresh_promise m o).sound };
          room = length-replicate (links m.sizes) 0;
          small = omega arith;
        }
    going (suc r) = round_going m.sizes o r (after_rounds m o r) (going r)
