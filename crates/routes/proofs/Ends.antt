-- What the checks of the ends of a route grant, and when a path leads from one to the other. Assumes nothing.
use mathlib.Core.Path.{◌≡◌, refl, subst}
use mathlib.Core.Bool.{Bool, true, false, ◌&&◌}
use mathlib.Core.List.{List}
use Prim.Native.Nat.{ℕ}
use native.Mathlib.Nat.{lt_of_not-le}
use native.Mathlib.Omega.{arith}
use borrow.Author.Tests.{ltb-false, eqb-false}
use lib.Dec.{eqb, ltb}
use Rattle.mesh.specs.Mesh.{place_of, Inside}
use Rattle.mesh.specs.Cells.{Map, map_of, cell_at, may_end}
use Rattle.mesh.specs.Answers.{◌and_then◌, check_map, check_node, accepted}
use Rattle.mesh.proofs.Tests.{T-and, T-eq, T-lt, bool_ext, holds_true}
use Rattle.mesh.proofs.Numbers.{place_in}
use Rattle.mesh.proofs.Answers.{split, ok_of, node_granted, map_granted}
use Rattle.mesh.specs.declared.Sizes.{Sizes}
use Rattle.mesh.specs.declared.Place.{Place}
use Rattle.mesh.specs.declared.Refusal.TheVariants.{FaultyEnd}
use Rattle.paths.specs.Differences.{hops}
use Rattle.paths.specs.Paths.{leads}
use Rattle.paths.specs.Offered.{offered}
use Rattle.paths.specs.Entries.{check_end, check_ends}
use Rattle.paths.proofs.Differences.{hops_zero}
use Rattle.paths.proofs.Offered.{offered_none, offered_leads}
use Rattle.paths.proofs.Reached.{start_reached}
use Rattle.sweeps.specs.Sweep.{Ends}

module _ (S : Sizes) (cells : List ℕ) (s e : ℕ) where
  pub ends_granted : check_ends S cells s e ≡ accepted → Ends S cells (place_of S s) (place_of S e)
  unfolding check_ends
  ends_granted h =
      let m : Map = map_of S cells in
      let (q, b) = split (check_map S cells and_then check_node S s and_then check_node S e and_then check_end m (place_of S s)) (check_end m (place_of S e)) h in
      let (r, a) = split (check_map S cells and_then check_node S s and_then check_node S e) (check_end m (place_of S s)) q in
      let (t, k) = split (check_map S cells and_then check_node S s) (check_node S e) r in
      let (u, l) = split (check_map S cells) (check_node S s) t in
      let c = map_granted S cells u in
      record {
        sized = c.sized;
        whole = c.whole;
        good = c.good;
        start_in = place_in S s (node_granted S s l);
        end_in = place_in S e (node_granted S e k);
        end_may = (holds_true (may_end (cell_at m (place_of S e)))).1 (ok_of (may_end (cell_at m (place_of S e))) FaultyEnd b);
      }

-- ---- a start that is not the end has a path exactly if something is offered

module _ (m : Map) (p e : Place) (i : Inside m.sizes p) where
  pub no_path : eqb (offered m e p) 0 && ltb 0 (hops p e) ≡ true → leads m e p e ≡ false
  no_path h =
      let (z, l) = simp (T-and, T-eq, T-lt) at ((holds_true (eqb (offered m e p) 0 && ltb 0 (hops p e))).1 h) in
      bool_ext (leads m e p e) false (λ t. offered_none m e p i (λ f. omega (arith, (hops_zero p e).1 f)) z t) (λ t. absurd t)

  pub a_path : eqb (offered m e p) 0 && ltb 0 (hops p e) ≡ false → leads m e p e ≡ true
  a_path h = split (eqb (offered m e p) 0) refl h
    where
      split : (b : Bool) → eqb (offered m e p) 0 ≡ b → b && ltb 0 (hops p e) ≡ false → leads m e p e ≡ true
      split true z f =
          let l = ltb-false 0 (hops p e) f in
          let here : hops p e ≡ 0 = omega arith in
          subst (λ (q : Place). leads m e p q ≡ true) ((hops_zero p e).0 here) ((holds_true (leads m e p p)).0 (start_reached m e p i))
      split false z f =
          let n = eqb-false (offered m e p) 0 z in
          (holds_true (leads m e p e)).0 (offered_leads m e p i (lt_of_not-le (λ h. n (omega arith))))
