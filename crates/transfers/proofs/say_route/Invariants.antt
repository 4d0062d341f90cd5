-- `transfers::say_route` meets its contract. Assumes nothing.
use mathlib.Core.List.{[], ◌∷◌}
use Prim.Native.Nat.{◌*◌}
use lib.ListN.{get_or}
use Rattle.text.specs.Text.{ascii, told, pieces, Added}
use Rattle.transfers.specs.Room.{node_room}
use Rattle.transfers.proofs.say_route.Given as goal

abbrev pub invariant-loop-node : goal.invariant-loop-node
invariant-loop-node g l =
    Added l.initial.page (pieces (λ i. told (ascii " %") (get_or l.nodes i 0 ∷ [])) l.node-index) (node_room * l.node-index) l.page
