-- The box around the places of a queue grows by one place at a time. Assumes nothing.
use mathlib.Core.Path.{◌≡◌, sym, ap, ◌∙◌}
use mathlib.Core.Logic.{inl, inr}
use mathlib.Core.List.{List}
use Prim.Native.Nat.{ℕ, ◌+◌, min, max}
use native.Mathlib.Omega.{arith}
use native.Mathlib.Nat.{min-eq_left, min-eq_right, max-eq_left, max-eq_right}
use lib.Dec.{leb, leb→le, nleb→lt}
use lib.ListN.{get_or, take}
use lib.Seq.{get_or-take}
use Rattle.mesh.specs.Mesh.{Axis, X, Y, Z, on}
use Rattle.mesh.proofs.Tests.{tried}
use Rattle.mesh.specs.declared.Place.{Place}
use Rattle.grids.specs.Grid.{place_at}
use Rattle.touching.specs.Components.{least_of, greatest_of}
use Rattle.floods.specs.Label.{widen, Ranged}
use Rattle.floods.proofs.Steps.{last_or_below}
use Rattle.touching.specs.declared.Component.{Component}

module _ (q : List ℕ) (axis : Axis) where
  abbrev at : ℕ → ℕ
  at t = on (place_at (get_or q t 0)) axis

  ranged_more : (n lo hi v : ℕ) → at n ≡ v → Ranged q n axis lo hi → Ranged q (n + 1) axis (min lo v) (max hi v)
  ranged_more n lo hi v e r =
      record {
        within = λ t h. elim (last_or_below t n h) [
          | inl w ↦ rw (w, e) (omega arith, omega arith)
          | inr w ↦ let (a, b) = r.within t w in (omega arith, omega arith)
        ];
        at_lo = elim (tried (leb lo v)) [
          | inl t ↦ let (k, l, f) = r.at_lo in (k, omega arith, f ∙ sym (min-eq_left (leb→le lo v t)))
          | inr t ↦ (n, omega arith, e ∙ sym (min-eq_right (omega (arith, nleb→lt lo v t))))
        ];
        at_hi = elim (tried (leb hi v)) [
          | inl t ↦ (n, omega arith, e ∙ sym (max-eq_right (leb→le hi v t)))
          | inr t ↦ let (k, l, f) = r.at_hi in (k, omega arith, f ∙ sym (max-eq_left (omega (arith, nleb→lt hi v t))))
        ];
      }

-- on all three axes
abbrev pub Boxed : List ℕ → ℕ → Component → Type 0
Boxed q n c = (a : Axis) → Ranged q n a (least_of c a) (greatest_of c a)

module _ (q : List ℕ) (p : Place) where
  pub boxed_more : (n : ℕ) (c : Component) → p ≡ place_at (get_or q n 0) → Boxed q n c → Boxed q (n + 1) (widen c p)
  boxed_more n c e r X = ranged_more q X n c.x0 c.x1 p.x (ap (λ (r : Place). r.x) (sym e)) (r X)
  boxed_more n c e r Y = ranged_more q Y n c.y0 c.y1 p.y (ap (λ (r : Place). r.y) (sym e)) (r Y)
  boxed_more n c e r Z = ranged_more q Z n c.z0 c.z1 p.z (ap (λ (r : Place). r.z) (sym e)) (r Z)

-- a list's first n numbers are boxed as it is
pub boxed_front : (q : List ℕ) (n : ℕ) (c : Component) → Boxed (take n q) n c → Boxed q n c
boxed_front q n c b a =
    record {
      within = λ t h. rw (get_or-take n q t 0 h) at ((b a).within t h);
      at_lo = let (t, h, e) = (b a).at_lo in (t, h, rw (get_or-take n q t 0 h) at e);
      at_hi = let (t, h, e) = (b a).at_hi in (t, h, rw (get_or-take n q t 0 h) at e);
    }
