-- `gossiping::texting::map_text` meets its contract: the first line, the legend, and then the orientations. Assumes nothing.
use mathlib.Core.Path.{◌≡◌, sym, ap, ◌∙◌}
use Prim.Native.Nat.{ℕ, ◌≤◌}
use Rattle.std.proofs.Common.{rules}
use native.Mathlib.Omega.{arith}
use lib.ListN.{length, take, replicate}
use lib.Seq.{length-take-le}
use Rattle.std.proofs.lemmas.List.{length-replicate}
use Rattle.mesh.proofs.Numbers.{nodes_le}
use Rattle.maps.proofs.Shelves.{in_order}
use Rattle.text.proofs.Adding.{added_then, added_as}
use Rattle.report.specs.Report.{first_line}
use Rattle.counts.proofs.Counted.{faulty_counted}
use Rattle.gossiping.proofs.texting.map_text.Given.{Over}
use Rattle.gossiping.proofs.texting.map_text.Goals as goal
use Rattle.gossiping.proofs.texting.map_text.Goals.{After-state_length-long}

-- there is room for a state, and the part that is lent is as long as it is to be
state_fits : (g : Over) (c : After-state_length-long g) → c.state_length-long.result ≤ length (replicate {A = ℕ} 65536 0)
state_fits g c =
    let s = c.args.shelf.now in
    omega (arith, c.state_length-long.ensures, nodes_le s.sizes s.sized, length-replicate {A = ℕ} 65536 0)

state_long : (g : Over) (c : After-state_length-long g) → length (take c.state_length-long.result (replicate {A = ℕ} 65536 0)) ≡ c.state_length-long.result
state_long g c = length-take-le c.state_length-long.result (replicate {A = ℕ} 65536 0) (state_fits g c)

pub state_length-long-requires : goal.state_length-long-requires
state_length-long-requires g c = c.args.shelf.now.sized

pub slice_bounds-state-end : goal.slice_bounds-state-end
slice_bounds-state-end g c = state_fits g (goal.at.slice_bounds-state-end g c).After-state_length-long

pub slice_bounds-octant_texts-end : goal.slice_bounds-octant_texts-end
slice_bounds-octant_texts-end g c = sym (state_long g (goal.at.slice_bounds-octant_texts-end g c).After-state_length-long)

pub octant_texts-requires : goal.octant_texts-requires
octant_texts-requires g c = (
  search rules,
  (
    state_long g (goal.at.octant_texts-requires g c).After-state_length-long ∙ c.state_length-long.ensures,
    omega (arith, c.requires),
  ),
)

pub returns : goal.returns
returns g c =
    let s = c.args.shelf.now in
    let e = c.count_faulty.ensures ∙ faulty_counted s.sizes s.cells.now (in_order s) in
    added_then (added_then (added_as (ap (first_line s.sizes) e) c.first_line.ensures) c.legend.ensures) c.octant_texts.ensures
