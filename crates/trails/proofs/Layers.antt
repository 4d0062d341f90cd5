-- Laws of a sweep with a byte for each node: each layer stands at its own nodes. Assumes nothing.
use mathlib.Core.Path.{◌≡◌, refl, sym, ap, ◌∙◌, subst}
use mathlib.Core.Logic.{inl, inr}
use mathlib.Core.Bool.{Bool}
use mathlib.Core.List.{List}
use Prim.Native.Nat.{ℕ, ◌+◌, ◌<◌, ◌≤◌}
use native.Mathlib.Nat.{eq-or-lt_of_le}
use native.Mathlib.Numerals.{add-one}
use native.Mathlib.Omega.{arith}
use lib.ListN.{length, get_or}
use lib.Dec.{eqb}
use Rattle.mesh.specs.Tools.{bit, any}
use Rattle.mesh.specs.Mesh.{place, nodes, number}
use Rattle.mesh.specs.Cells.{Map}
use Rattle.mesh.proofs.Tests.{T-any, T-eq, T-no, tried}
use Rattle.mesh.proofs.Numbers.{number_lt}
use Rattle.mesh.specs.declared.Place.{Place}
use Rattle.paths.proofs.Differences.{place_eq}
use Rattle.rows.specs.Row.{bit_at}
use Rattle.rows.specs.Box.{reach, Within, spot, Ready, Room, AddedRows}
use Rattle.sweeps.specs.Sweep.{Seen, After}
use Rattle.rows.proofs.Box.{reach_in, spot_same}
use Rattle.rows.specs.declared.Between.{Between}
use Rattle.trails.specs.Spread.{Blank, Spread}

pub spread_none : (m : Map) (g : Between) (old : List ℕ) → Spread m g 0 old old
spread_none m g old = record { at = λ seen Q t w l. absurd (omega arith); kept = λ i h. refl; size = refl }

module _ (m : Map) (g : Between) (r : Ready m.sizes m.cells g) where
  node_lt : (t : Place) → Within g t → number m.sizes (reach g t) < nodes m.sizes
  node_lt t w = number_lt m.sizes (reach g t) (reach_in m.sizes g t r.held w)

  module _ (c : ℕ) (hc : c ≤ g.z.steps) (old mid : List ℕ) (blank : Blank m.sizes old) (P : Spread m g c old mid) where
    here : (a b : ℕ) → a ≤ g.x.steps → b ≤ g.y.steps → Within g (place a b c)
    here a b la lb = record { x_le = la; y_le = lb; z_le = hc }

    -- the bytes of the next layer are still 0
    still_none : (a b : ℕ) → a ≤ g.x.steps → b ≤ g.y.steps → get_or mid (spot m.sizes g a b c) 0 ≡ 0
    still_none a b la lb =
        P.kept (spot m.sizes g a b c) (λ t w l q. omega (arith, spot_same m.sizes g r.held a b c t.x t.y t.z (here a b la lb) w q))
        ∙ blank (spot m.sizes g a b c) (node_lt (place a b c) (here a b la lb))

    -- so a 1 may be added to each
    pub adds : nodes m.sizes ≤ length old → (n : ℕ) → g.y.steps < n → Room m.sizes g mid × (g.y.steps < n) × (c ≤ g.z.steps)
        × ((a b : ℕ) → a ≤ g.x.steps → b ≤ g.y.steps → get_or mid (spot m.sizes g a b c) 0 + 1 ≤ 255)
    adds l n h = (
      record { sized = r.sized; held = r.held; fits = λ t w. omega (arith, node_lt t w, P.size) },
      h,
      hc,
      λ a b la lb. omega (arith, still_none a b la lb),
    )

    pub spread_more : (rows new : List ℕ) → After m g (c + 1) rows → AddedRows m.sizes g c 1 rows mid new (g.y.steps + 1) → Spread m g (c + 1) old new
    spread_more rows new A L = record {
      at = λ seen Q t w l. elim (eq-or-lt_of_le (le_of l)) [
        | inl q ↦
            subst (λ (u : Place). get_or new (number m.sizes (reach g u)) 0 ≡ bit (seen u)) (sym (place_eq t (place t.x t.y c) refl refl q))
            (byte seen Q t.x t.y w.x_le w.y_le)
        | inr k ↦ L.kept (number m.sizes (reach g t))
            (λ a b la lb hb q. omega (arith, spot_same m.sizes g r.held t.x t.y t.z a b c w (here a b la hb) q))
            ∙ P.at seen Q t w k
      ];
      kept = λ i h. L.kept i (λ a b la lb hb q. h (place a b c) (here a b la hb) (omega arith) q) ∙ P.kept i (λ t w l q. h t w (omega arith) q);
      size = L.size ∙ P.size;
    }
      where
        le_of : {i n : ℕ} → i < n + 1 → i ≤ n
        le_of h = omega arith

        byte : (seen : Place → Bool) → Seen m g seen → (a b : ℕ) → a ≤ g.x.steps → b ≤ g.y.steps → get_or new (spot m.sizes g a b c) 0 ≡ bit (seen (place a b c))
        byte seen Q a b la lb =
            let e : bit_at (get_or rows b 0) a ≡ seen (place a b c) = A seen Q a b la lb ∙ rw (add-one c) in
            L.at a b la (omega arith) lb ∙ rw (still_none a b la lb, e) (omega arith)

-- where each node of the box has the value that is right there, no right value is lost
pub spread_safe : (m : Map) (g : Between) (old new : List ℕ) → Spread m g (g.z.steps + 1) old new → (seen : Place → Bool)
    → Seen m g seen → (k x : ℕ)
    → ((t : Place) → Within g t → k ≡ number m.sizes (reach g t) → bit (seen t) ≡ x) → get_or old k 0 ≡ x → get_or new k 0 ≡ x
spread_safe m g old new P seen Q k x right e = elim (tried (any (g.x.steps + 1) on_x)) [
  | inl u ↦
      let (a, la, v) = (T-any (g.x.steps + 1) on_x).0 u in
      let (b, lb, w) = (T-any (g.y.steps + 1) (on_y a)).0 v in
      let (c, lc, t) = (T-any (g.z.steps + 1) (on_z a b)).0 w in
      let q : k ≡ spot m.sizes g a b c = (T-eq k (spot m.sizes g a b c)).0 t in
      let i : Within g (place a b c) = record { x_le = omega arith; y_le = omega arith; z_le = omega arith } in
      ap (λ (j : ℕ). get_or new j 0) q ∙ P.at seen Q (place a b c) i lc ∙ right (place a b c) i q
  | inr u ↦
      P.kept k (λ t i l q. (T-no (any (g.x.steps + 1) on_x)).0 u
      ((T-any (g.x.steps + 1) on_x).1 (
        t.x,
        omega (arith, i.x_le),
        (T-any (g.y.steps + 1) (on_y t.x)).1 (
          t.y,
          omega (arith, i.y_le),
          (T-any (g.z.steps + 1) (on_z t.x t.y)).1 (t.z, l, (T-eq k (number m.sizes (reach g t))).1 q),
        ),
      )))
      ∙ e
]
  where
    on_z : ℕ → ℕ → ℕ → Bool
    on_z a b c = eqb k (spot m.sizes g a b c)

    on_y : ℕ → ℕ → Bool
    on_y a b = any (g.z.steps + 1) (on_z a b)

    on_x : ℕ → Bool
    on_x a = any (g.y.steps + 1) (on_y a)
