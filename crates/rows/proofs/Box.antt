-- The nodes between two places: every step of a run stays on its axis, and every place of a box in the mesh. Assumes nothing.
use mathlib.Core.Path.{◌≡◌, refl, ap}
use mathlib.Core.Bool.{Bool, true, false, cond}
use Prim.Native.Nat.{ℕ, ◌+◌, ◌-◌, ◌*◌, ◌<◌, ◌≤◌}
use native.Mathlib.Omega.{arith}
use lib.ListN.{length}
use Rattle.mesh.specs.Mesh.{InRange, Inside, place, number}
use Rattle.mesh.specs.Cells.{Map}
use Rattle.mesh.proofs.Numbers.{number_eq, number_lt}
use Rattle.mesh.specs.declared.Sizes.{Sizes}
use Rattle.mesh.specs.declared.Place.{Place}
use Rattle.rows.specs.Row.{Span}
use Rattle.rows.specs.Box.{largest, gone, reach, far, row_run, Within, OnAxis, Held, spot, Ready}
use Rattle.rows.specs.declared.Run.{Run}
use Rattle.rows.specs.declared.Between.{Between}

pub in_largest : (S : Sizes) (p : Place) → InRange S → Inside S p → Inside largest p
in_largest S p r i = omega arith

module _ (r : Run) (n : ℕ) (o : OnAxis r n) where
  pub gone_lt : (i : ℕ) → i ≤ r.steps → gone r i < n
  gone_lt i h = split r.down refl
    where
      split : (d : Bool) → r.down ≡ d → cond d (r.from - i) (r.from + i) < n
      split true e = omega (arith, o.starts)
      split false e = omega (arith, o.high e)

  -- no two steps lead to one coordinate
  pub gone_same : (i j : ℕ) → i ≤ r.steps → j ≤ r.steps → gone r i ≡ gone r j → i ≡ j
  gone_same i j hi hj = split r.down refl
    where
      split : (d : Bool) → r.down ≡ d → cond d (r.from - i) (r.from + i) ≡ cond d (r.from - j) (r.from + j) → i ≡ j
      split true e q = omega (arith, o.low e)
      split false e q = omega arith

  pub steps_lt : r.steps < n
  steps_lt = split r.down refl
    where
      split : (d : Bool) → r.down ≡ d → r.steps < n
      split true e = omega (arith, o.starts, o.low e)
      split false e = omega (arith, o.high e)

  pub widen : (k : ℕ) → n ≤ k → OnAxis r k
  widen k h = record { starts = omega (arith, o.starts); low = o.low; high = λ e. omega (arith, o.high e) }

-- no box is larger than the largest mesh
pub far_in : (S : Sizes) (g : Between) → InRange S → Held S g → Inside largest (far g)
far_in S g r h =
    omega (arith, steps_lt g.x S.w h.x_on, steps_lt g.y S.h h.y_on, steps_lt g.z S.d h.z_on)

pub reach_in : (S : Sizes) (g : Between) (t : Place) → Held S g → Within g t → Inside S (reach g t)
reach_in S g t h w = record {
  x_in = gone_lt g.x S.w h.x_on t.x w.x_le;
  y_in = gone_lt g.y S.h h.y_on t.y w.y_le;
  z_in = gone_lt g.z S.d h.z_on t.z w.z_le;
}

-- ---- the rows of a box

module _ (S : Sizes) (g : Between) (h : Held S g) where
  pub gone_row : (a b c : ℕ) → a ≤ g.x.steps → gone (row_run S g b c) a ≡ spot S g a b c
  gone_row a b c l = split g.x.down refl
    where
      rest : ℕ
      rest = S.w * (gone g.y b + S.h * gone g.z c)

      split : (d : Bool) → g.x.down ≡ d
          → cond d (cond d (g.x.from - 0) (g.x.from + 0) + rest - a) (cond d (g.x.from - 0) (g.x.from + 0) + rest + a) ≡ cond d (g.x.from - a) (g.x.from + a) + rest
      split true e = omega (arith, h.x_on.low e)
      split false e = omega arith

  -- different nodes have different numbers
  pub spot_same : (a b c a' b' c' : ℕ) → Within g (place a b c) → Within g (place a' b' c') → spot S g a b c ≡ spot S g a' b' c'
      → (a ≡ a') × (b ≡ b') × (c ≡ c')
  spot_same a b c a' b' c' w w' e =
      let t : Place = place a b c in
      let t' : Place = place a' b' c' in
      let q = number_eq S (reach g t) (reach g t') (reach_in S g t h w) (reach_in S g t' h w') e in (
        gone_same g.x S.w h.x_on a a' w.x_le w'.x_le (ap (λ (p : Place). p.x) q),
        gone_same g.y S.h h.y_on b b' w.y_le w'.y_le (ap (λ (p : Place). p.y) q),
        gone_same g.z S.d h.z_on c c' w.z_le w'.z_le (ap (λ (p : Place). p.z) q),
      )

  -- a row stays where its nodes stand
  pub row_on : (n b c : ℕ) → b ≤ g.y.steps → c ≤ g.z.steps → ((t : Place) → Within g t → number S (reach g t) < n) → OnAxis (row_run S g b c) n
  row_on n b c hb hc fits =
      let at : (a : ℕ) → a ≤ g.x.steps → spot S g a b c < n
      = λ a l. fits (place a b c) (record { x_le = l; y_le = hb; z_le = hc }) in
      record {
        starts = at 0 (omega arith);
        low = λ e. rw e (omega (arith, h.x_on.low e));
        high = λ e.
            let k : gone (row_run S g b c) g.x.steps < n = rw (gone_row g.x.steps b c (omega arith)) (at g.x.steps (omega arith)) in
            rw e (rw e at k);
      }

-- the nodes of a row all have a cell
module _ (m : Map) (g : Between) (r : Ready m.sizes m.cells g) (b c : ℕ) (hb : b ≤ g.y.steps) (hc : c ≤ g.z.steps) where
  pub fits : (t : Place) → Within g t → number m.sizes (reach g t) < length m.cells
  fits t w = rw r.whole (number_lt m.sizes (reach g t) (reach_in m.sizes g t r.held w))

  pub row_span : Span m.cells g.x.down (spot m.sizes g 0 b c) (g.x.steps + 1)
  row_span =
      let o : OnAxis (row_run m.sizes g b c) (length m.cells) = row_on m.sizes g r.held (length m.cells) b c hb hc fits in
      record { starts = o.starts; low = λ e. omega (arith, o.low e); high = λ e. omega (arith, o.high e) }
