-- A path is exactly a walk through working neighbours whose hops are the Manhattan distance: each preferred step lowers the hops that are
-- left by one, every other raises them by one, so a walk of that length has room for no other. Assumes nothing.
use mathlib.Core.Path.{◌≡◌, refl}
use mathlib.Core.Logic.{◌↔◌, inl, inr}
use mathlib.Core.List.{List}
use Prim.Native.Nat.{ℕ, ◌+◌, ◌≤◌}
use native.Mathlib.Omega.{arith}
use lib.ListN.{length}
use Rattle.mesh.specs.Mesh.{Inside}
use Rattle.mesh.specs.Cells.{Map}
use Rattle.mesh.proofs.Tests.{tried}
use Rattle.mesh.proofs.Steps.{next_in}
use Rattle.mesh.specs.declared.Place.{Place}
use Rattle.paths.specs.Differences.{preferred, hops}
use Rattle.paths.specs.Paths.{Leads, stay, hop, Walk, stands, goes}
use Rattle.paths.proofs.Differences.{hops_zero, preferred_lowers, other_raises}
use Rattle.paths.proofs.Paths.{may_hop_iff, hop_lowers}

module _ (m : Map) (e : Place) where
  walked : {p q : Place} {l : List ℕ} → Leads m e p q l → Walk m e p q l
  walked (stay f) = stands f
  walked {p} (hop {r = r} j h y L) = let (t, k, n) = (may_hop_iff m e p j r).0 y in goes j h k n (walked L)

  -- "hops + 1 of them": the nodes of a path
  leads_length : {p q : Place} {l : List ℕ} → Leads m e p q l → Inside m.sizes p → length l + hops q e ≡ hops p e + 1
  leads_length {p} {q} (stay f) i = rw f (omega arith)
  leads_length {p} {q} (hop {r = r} {l = l} j h y L) i =
      let k = hop_lowers m e p r j i h y in
      let n = leads_length L (next_in m.sizes p r i j h) in
      omega arith

  -- no walk is shorter
  pub walk_le : {p : Place} {l : List ℕ} → Walk m e p e l → Inside m.sizes p → hops p e + 1 ≤ length l
  walk_le {p} (stands f) i = let z = (hops_zero p e).1 f in omega arith
  walk_le {p} (goes {r = r} j h k n w) i =
      let s = walk_le w (next_in m.sizes p r i j h) in
      elim (tried (preferred p e j)) [
        | inl t ↦ omega (arith, preferred_lowers m.sizes p r e i j h t)
        | inr t ↦ omega (arith, other_raises m.sizes p r e i j h t)
      ]

  straight : {p : Place} {l : List ℕ} → Walk m e p e l → Inside m.sizes p → length l ≡ hops p e + 1 → Leads m e p e l
  straight (stands f) i d = stay f
  straight {p} (goes {r = r} j h k n w) i d =
      let i' = next_in m.sizes p r i j h in
      let s = walk_le w i' in
      elim (tried (preferred p e j)) [
        | inl t ↦ hop j h ((may_hop_iff m e p j r).1 (t, k, n)) (straight w i' (omega (arith, preferred_lowers m.sizes p r e i j h t)))
        | inr t ↦ absurd (omega (arith, other_raises m.sizes p r e i j h t))
      ]

  pub path_walk : (p : Place) (l : List ℕ) → Inside m.sizes p → Leads m e p e l ↔ (Walk m e p e l × (length l ≡ hops p e + 1))
  path_walk p l i = (
    λ L. (walked L, let z = (hops_zero e e).1 refl in omega (arith, leads_length L i)),
    λ w. straight w.0 i w.1,
  )
