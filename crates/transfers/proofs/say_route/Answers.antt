-- `transfers::say_route` meets its contract. Assumes nothing.
use mathlib.Core.List.{List, [], ◌∷◌}
use Prim.Native.Nat.{ℕ}
use lib.ListN.{get_or}
use Rattle.text.specs.Text.{ascii, told}
use Rattle.text.proofs.Adding.{added_no_piece, added_piece}
use Rattle.transfers.specs.Room.{node_room}
use Rattle.transfers.proofs.say_route.Goals as goal

-- node i of a route, as it is told
abbrev told_node : List ℕ → ℕ → List ℕ
told_node nodes i = told (ascii " %") (get_or nodes i 0 ∷ [])

pub loop-node-init : goal.loop-node-init
loop-node-init g c = added_no_piece (told_node c.args.nodes.now) node_room c.args.page.now

pub loop-node-preserved : goal.loop-node-preserved
loop-node-preserved g c = added_piece (told_node c.args.nodes.now) node_room c.loop-node.node-index c.loop-node.invariant c.tell.ensures
