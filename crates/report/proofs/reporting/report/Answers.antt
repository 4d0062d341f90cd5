-- `report::reporting::report` meets its contract: what was read is in order, and is the map that is reported on. Assumes nothing.
use mathlib.Core.Path.{◌≡◌, sym, ap, ◌∙◌}
use mathlib.Core.List.{List}
use Prim.Native.Nat.{ℕ}
use native.Mathlib.Omega.{arith}
use lib.ListN.{length, replicate}
use Rattle.std.proofs.lemmas.List.{length-replicate}
use Rattle.std.proofs.Common.{rules}
use Rattle.mesh.specs.Cells.{map_of}
use Rattle.mesh.proofs.Answers.{map_granted}
use Rattle.mesh.specs.Answers.{refusal_no}
use Rattle.mesh.specs.declared.Sizes.{Sizes}
use Rattle.mesh.specs.declared.Refusal.{Refusal}
use Rattle.format.specs.Format.{cells_in}
use Rattle.format.specs.Entry.{read_answer}
use Rattle.format.proofs.Read.{HasRead, has_read}
use Rattle.text.proofs.Adding.{filled}
use Rattle.report.specs.Report.{map_report, refusal_line, report_on, report}
use Rattle.report.proofs.reporting.report.Goals as goal
use Rattle.report.proofs.reporting.report.Goals.{In-Ok}
use Rattle.std.specs.Prelude.{Ok, Err, Result}

map_text : (file : List ℕ) (S : Sizes) → read_answer file 4096 ≡ Ok S → map_report (map_of S (cells_in file)) ≡ report file
unfolding report
map_text file S is = sym (ap (λ (a : Result Sizes Refusal). report_on a (cells_in file)) is)

refusal_text : (file : List ℕ) (r : Refusal) → read_answer file 4096 ≡ Err r → refusal_line (refusal_no r) ≡ report file
unfolding report
refusal_text file r is = sym (ap (λ (a : Result Sizes Refusal). report_on a (cells_in file)) is)

has : (c : In-Ok) →
    HasRead c.args.file.now 4096 c.in-Ok.s c.read_map.new.cells
has c =
    has_read (replicate 4096 0) (sym (length-replicate {A = ℕ} 4096 0)) c.read_map.ensures c.in-Ok.is

pub nodes-n-requires : goal.nodes-n-requires
nodes-n-requires c = (has (goal.at.nodes-n-requires c).In-Ok).sized

pub invariant_of-shelf : goal.invariant_of-shelf
invariant_of-shelf c =
    let k = map_granted _ _ ((has (goal.at.invariant_of-shelf c).In-Ok).ordered c.nodes-n.ensures.0) in
    record { sized = k.sized; whole = k.whole; good = k.good }

pub map_report-requires : goal.map_report-requires
map_report-requires c = (search rules, omega (arith, ap length c.clear.ensures))

pub returns-in-Ok : goal.returns-in-Ok
returns-in-Ok c =
    let known = has (goal.at.returns-in-Ok c).In-Ok in
    let S = c.in-Ok.s in
    filled c.clear.ensures c.map_report.ensures
    (ap (λ (l : List ℕ). map_report (map_of S l)) (known.cells c.nodes-n.ensures.0) ∙ map_text _ S known.answer)
    (omega arith)

pub returns-in-Err : goal.returns-in-Err
returns-in-Err c =
    let a = c.args in
    let r = c.in-Err.r in
    let is = ap (read_answer a.file.now) (sym (length-replicate {A = ℕ} 4096 0)) ∙ sym c.read_map.ensures.0 ∙ c.in-Err.is in
    filled c.clear.ensures c.refusal_line.ensures (ap refusal_line c.from.ensures ∙ refusal_text a.file.now r is) (omega arith)
