-- `logfile::reading::before` meets its contract. Assumes nothing.
use mathlib.Core.Path.{subst⁻¹, ◌≡◌, ◌∙◌}
use Prim.Native.Nat.{ℕ, ◌≤◌}
use borrow.Author.Tests.{tests}
use lib.ListN.{length}
use Rattle.std.proofs.Common.{rules}
use Rattle.std.proofs.lemmas.Iterator.{YieldsList-from_slice}
use Rattle.std.proofs.lemmas.Iterator.Search.{position_from_yields_List}
use Rattle.mesh.proofs.Answers.{first_le}
use Rattle.logfile.specs.Log.{stops, before}
use Rattle.logfile.proofs.Stops.{stop_found}
use Rattle.logfile.proofs.reading.before.Goals as goal

pub returns : goal.returns
returns c =
    let text = c.args.text.now in
    let test = stops c.args.stop in
    let found = position_from_yields_List test _ _ c.position.result c.position.ensures.ran (YieldsList-from_slice text cc) (λ x b q k. search (rules, tests)) in
    let is : c.unwrap_or.result ≡ before c.args.stop text = c.unwrap_or.ensures ∙ stop_found test text c.position.result found in
    (is, subst⁻¹ (λ (n : ℕ). n ≤ length text) is (first_le (λ k. test) text))
