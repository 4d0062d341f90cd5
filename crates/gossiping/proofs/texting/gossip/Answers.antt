-- `gossiping::texting::gossip` meets its contract: what was read is in order, and is the map that is told of. Assumes nothing.
use mathlib.Core.Path.{sym, ap, ◌∙◌}
use mathlib.Core.List.{List}
use Prim.Native.Nat.{ℕ}
use Rattle.std.proofs.Common.{rules}
use native.Mathlib.Omega.{arith}
use lib.ListN.{length, replicate}
use Rattle.std.proofs.lemmas.List.{length-replicate}
use Rattle.mesh.specs.Cells.{map_of}
use Rattle.mesh.proofs.Answers.{map_granted}
use Rattle.format.specs.Entry.{read_answer}
use Rattle.format.proofs.Read.{HasRead, has_read}
use Rattle.text.proofs.Adding.{filled}
use Rattle.report.specs.Report.{refusal_line}
use Rattle.gossiping.specs.Text.{map_text}
use Rattle.gossiping.proofs.Read.{map_told, refusal_told}
use Rattle.gossiping.proofs.texting.gossip.Goals as goal
use Rattle.gossiping.proofs.texting.gossip.Goals.{In-Ok}

-- what the code knows where a map was read
has : (c : In-Ok) →
    HasRead c.args.file.now 4096 c.in-Ok.s c.read_map.new.cells
has c =
    has_read (replicate 4096 0) (sym (length-replicate {A = ℕ} 4096 0)) c.read_map.ensures c.in-Ok.is

pub nodes-n-requires : goal.nodes-n-requires
nodes-n-requires c = (has (goal.at.nodes-n-requires c).In-Ok).sized

pub invariant_of-shelf : goal.invariant_of-shelf
invariant_of-shelf c =
    let k = map_granted _ _ ((has (goal.at.invariant_of-shelf c).In-Ok).ordered c.nodes-n.ensures.0) in
    record { sized = k.sized; whole = k.whole; good = k.good }

pub map_text-requires : goal.map_text-requires
map_text-requires c = (search rules, omega (arith, ap length c.clear.ensures))

pub returns-in-Ok : goal.returns-in-Ok
returns-in-Ok c =
    let known = has (goal.at.returns-in-Ok c).In-Ok in
    let S = c.in-Ok.s in
    filled c.clear.ensures c.map_text.ensures
    (ap (λ (l : List ℕ). map_text (map_of S l)) (known.cells c.nodes-n.ensures.0) ∙ map_told _ S known.answer)
    (omega arith)

pub returns-in-Err : goal.returns-in-Err
returns-in-Err c =
    let file = c.args.file.now in
    let is = ap (read_answer file) (sym (length-replicate {A = ℕ} 4096 0)) ∙ sym c.read_map.ensures.0 ∙ c.in-Err.is in
    filled c.clear.ensures c.refusal_line.ensures (ap refusal_line c.from.ensures ∙ refusal_told file c.in-Err.r is) (omega arith)
