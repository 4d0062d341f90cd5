-- The outcomes of a call for a route: what is answered, and what is left in the lent numbers. Assumes nothing.
use mathlib.Core.Path.{◌≡◌, refl, sym, ◌∙◌}
use mathlib.Core.Bool.{true, false}
use mathlib.Core.List.{List, ◌++◌}
use Prim.Native.Nat.{ℕ, ◌+◌, ◌<◌, ◌≤◌}
use native.Mathlib.Omega.{arith}
use lib.ListN.{length, drop}
use lib.Dec.{T}
use borrow.Author.Tests.{le-leb, lt-leb}
use Rattle.mesh.specs.Mesh.{number, Inside}
use Rattle.mesh.specs.Cells.{Map, cell_at, may_end}
use Rattle.mesh.specs.Fill.{Filled}
use Rattle.mesh.proofs.Fill.{front}
use Rattle.mesh.specs.declared.Place.{Place}
use Rattle.mesh.specs.declared.Refusal.{Refusal}
use Rattle.mesh.specs.declared.Refusal.TheVariants.{NoRoom, NoPath}
use Rattle.paths.specs.Differences.{hops}
use Rattle.paths.specs.Paths.{leads}
use Rattle.paths.specs.Offered.{route}
use Rattle.paths.proofs.Offered.{route_length_lem}
use Rattle.rows.specs.Box.{between, reach}
use Rattle.trails.specs.Table.{Table, trail, routed_answer, routed_out}
use Rattle.trails.proofs.Trails.{route_trail}
use Rattle.std.specs.Prelude.{Ok, Err, Result}

module _ (m : Map) (p e : Place) (old : List ℕ) where
  abbrev pub Routed : Result ℕ Refusal → List ℕ → Type 0
  Routed answer new = (answer ≡ routed_answer m p e (length old)) × (new ≡ routed_out m p e old)

  pub routed_10 : leads m e p e ≡ false → Routed (Err NoPath) old
  routed_10 l = rw l (refl, refl)

  pub routed_3 : leads m e p e ≡ true → length old < hops p e + 1 → Routed (Err NoRoom) old
  routed_3 l h = rw (l, lt-leb (hops p e + 1) (length old) h) (refl, refl)

  pub routed_0 : leads m e p e ≡ true → hops p e + 1 ≤ length old → (new : List ℕ) → new ≡ route m e p ++ drop (hops p e + 1) old
      → Routed (Ok (hops p e + 1)) new
  routed_0 l h new f = rw (l, le-leb (hops p e + 1) (length old) h) (refl, f)

-- the way through the table is written in full, and nothing else
pub route_written_lem : (m : Map) (p e : Place) (p_in : Inside m.sizes p) (e_in : Inside m.sizes e) → T (may_end (cell_at m e))
    → (table : List ℕ) → Table m (between e p) ((between e p).z.steps + 1) table
    → (old new : List ℕ) → T (leads m e p e) → hops p e + 1 ≤ length old
    → Filled (λ i. i) (λ i. number m.sizes (reach (between e p) (trail (between e p) table i))) old new (hops p e + 1)
    → new ≡ route m e p ++ drop (hops p e + 1) old
route_written_lem m p e p_in e_in ends table K old new l h F = front (route m e p) old new (hops p e + 1)
    (route_length_lem m e p p_in l) h F.size
    (λ k i. F.at k i ∙ sym (route_trail m p e p_in e_in ends table K l k (omega arith)))
    (λ k i. F.kept k (λ j n q. omega arith))
