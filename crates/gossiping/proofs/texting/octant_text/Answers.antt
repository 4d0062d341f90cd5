-- `gossiping::texting::octant_text` meets its contract: the first line, the rounds from the fresh state on, and the last line. Assumes nothing.
use mathlib.Core.Path.{◌≡◌, ap, ap₂, ◌∙◌}
use Prim.Native.Nat.{ℕ, ◌+◌, ◌*◌}
use Rattle.std.proofs.Common.{rules}
use native.Mathlib.Omega.{arith}
use lib.ListN.{replicate, take}
use Rattle.maps.proofs.Shelves.{in_order}
use Rattle.text.proofs.Adding.{added_then, added_as}
use Rattle.rounds.specs.Links.{most_links}
use Rattle.gossiping.specs.Text.{start_line, settled_line, octant_text}
use Rattle.gossiping.proofs.Texts.{made_fresh, take_replicate}
use Rattle.gossiping.proofs.texting.octant_text.Given.{Over}
use Rattle.gossiping.proofs.texting.octant_text.Goals as goal
use Rattle.gossiping.proofs.texting.octant_text.Goals.{After-links-n}

-- nothing is on the way over the links of the map
way_is : (g : Over) (k : After-links-n g) → take k.links-n.result k.blank_way-way.result ≡ replicate k.links-n.result 0
way_is g k =
    let n = k.links-n.result in
    ap (take n) k.blank_way-way.ensures ∙ take_replicate 0 n most_links k.links-n.ensures.2

pub links-n-requires : goal.links-n-requires
links-n-requires g c = c.args.shelf.now.sized

pub talk-r-requires : goal.talk-r-requires
talk-r-requires g c =
    let a = c.args in
    let s = a.shelf.now in (
      search rules,
      (
        c.requires.0,
        c.fresh.ensures.state_after ∙ made_fresh s.sizes s.cells.now a.o a.state.now (in_order s) c.requires.0 c.requires.1,
        way_is g (goal.at.talk-r-requires g c).After-links-n ∙ ap (λ (n : ℕ). replicate n 0) c.links-n.ensures.0,
        omega (arith, c.requires.2),
      ),
    )

pub returns : goal.returns
unfolding octant_text
returns g c =
    let w = c.working-w.ensures.0 in
    let (rounds, lines) = c.talk-r.ensures in
    added_then (added_then (added_as (ap (start_line c.args.o) w) c.start_line.ensures) lines)
    (added_as (ap₂ settled_line rounds (ap (λ (n : ℕ). 2 * n + 1) w)) c.settled_line.ensures)
