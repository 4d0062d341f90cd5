-- A report refuses by 11, 1 or 4, and by nothing else: there is room for every mesh. Assumes nothing.
use mathlib.Core.Path.{◌≡◌}
use mathlib.Core.Logic.{◌≢◌, ◌⊎◌, inl, inr}
use mathlib.Core.List.{List}
use Prim.Native.Nat.{ℕ}
use native.Mathlib.Omega.{arith}
use Rattle.mesh.specs.Order.{◌give◌}
use Rattle.mesh.proofs.Numbers.{nodes_le}
use Rattle.format.specs.Format.{sizes_in}
use Rattle.format.specs.Entry.{read_answer}
use Rattle.format.specs.Promise.{read_checks}
use Rattle.format.proofs.Promise.{read_order}
use Rattle.report.specs.Report.{most_nodes}
use Rattle.mesh.specs.Answers.{answer_no}

given : (file : List ℕ) (n : ℕ) → read_checks file most_nodes give n → n ≢ 0 → (n ≡ 11) ⊎ ((n ≡ 1) ⊎ (n ≡ 4))
given file n (inl p) z = inl p.1
given file n (inr (f, inl p)) z = inr (inl p.1)
given file n (inr (f, inr (s, inl p))) z = inl p.1
given file n (inr (f, inr (s, inr (r, inl p)))) z = absurd (p.0 (omega (arith, nodes_le (sizes_in file) s)))
given file n (inr (f, inr (s, inr (r, inr (h, inl p))))) z = inr (inr p.1)
given file n (inr (f, inr (s, inr (r, inr (h, inr (g, e)))))) z = absurd (z e)

pub printed : (file : List ℕ) → let n = answer_no (read_answer file most_nodes) in n ≢ 0 → (n ≡ 11) ⊎ ((n ≡ 1) ⊎ (n ≡ 4))
printed file = given file (answer_no (read_answer file most_nodes)) (read_order file most_nodes)
