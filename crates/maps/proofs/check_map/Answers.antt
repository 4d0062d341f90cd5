-- `maps::check_map` meets its contract: each check is run where those before it are granted. Assumes nothing.
use Rattle.std.proofs.Common.{arith}
use mathlib.Core.Path.{◌≡◌, ◌∙◌, sym, ap}
use mathlib.Core.Bool.{true}
use borrow.Author.Tests.{eq-eqb, ne_eqb}
use lib.ListN.{length}
use lib.Dec.{eqb}
use Rattle.mesh.specs.Mesh.{nodes}
use Rattle.mesh.specs.declared.Refusal.TheVariants.{BadCell}
use Rattle.mesh.proofs.Answers.{map_2, map_4, map_0}
use Rattle.maps.proofs.check_map.Goals as goal
use Rattle.maps.proofs.check_map.Goals.{Else-cells-nodes}
use Rattle.std.specs.Prelude.{Err}

-- past the second check
whole : (c : Else-cells-nodes) → let a = c.args in eqb (length a.cells.now) (nodes a.s) ≡ true
whole c = eq-eqb _ _ (c.if-cells-nodes.false ∙ c.nodes.ensures.0)

pub returns-then-cells-nodes : goal.returns-then-cells-nodes
returns-then-cells-nodes c =
    let a = c.args in
    map_2 a.s a.cells.now (grind arith) (ne_eqb _ _ (rw c.nodes.ensures.0 at c.if-cells-nodes.true))

pub first_bad-k-requires : goal.first_bad-k-requires
first_bad-k-requires c = c.if-cells-nodes.false ∙ c.nodes.ensures.0

pub returns-then-any_bad : goal.returns-then-any_bad
returns-then-any_bad c =
    let a = c.args in
    ap (λ k. Err (BadCell k)) c.first_bad-k.ensures
    ∙ map_4 a.s a.cells.now (grind arith) (whole (goal.at.returns-then-any_bad c).Else-cells-nodes) (sym c.any_bad.ensures ∙ c.if-any_bad.true)

pub returns : goal.returns
returns c =
    let a = c.args in
    map_0 a.s a.cells.now (grind arith) (whole (goal.at.returns c).Else-cells-nodes) (sym c.any_bad.ensures ∙ c.if-any_bad.false)
