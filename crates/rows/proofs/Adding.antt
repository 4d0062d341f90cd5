-- The bytes of a layer, row after row. Assumes nothing.
use mathlib.Core.Path.{◌≡◌, refl, sym, ap, ◌∙◌}
use mathlib.Core.Logic.{inl, inr}
use mathlib.Core.List.{List}
use Prim.Native.Nat.{ℕ, ◌+◌, ◌*◌, ◌<◌, ◌≤◌}
use native.Mathlib.Nat.{eq-or-lt_of_le}
use native.Mathlib.Omega.{arith}
use lib.ListN.{length, get_or}
use Rattle.mesh.specs.Tools.{bit}
use Rattle.mesh.specs.Mesh.{place}
use Rattle.mesh.specs.declared.Sizes.{Sizes}
use Rattle.rows.specs.Row.{bit_at, onwards, Span}
use Rattle.rows.specs.Box.{spot, row_run, OnAxis, Within, Room, AddedRows}
use Rattle.rows.specs.Bytes.{Takes, Added}
use Rattle.rows.proofs.Box.{gone_row, spot_same, row_on}
use Rattle.rows.specs.declared.Between.{Between}

module _ (S : Sizes) (g : Between) (c : ℕ) (hc : c ≤ g.z.steps) (b : ℕ) (hb : b ≤ g.y.steps) (old : List ℕ) (R : Room S g old) where
  inside : (a i : ℕ) → a ≤ g.x.steps → i ≤ g.y.steps → Within g (place a i c)
  inside a i la li = record { x_le = la; y_le = li; z_le = hc }

  on_row : (a : ℕ) → a ≤ g.x.steps → onwards g.x.down (spot S g 0 b c) a ≡ spot S g a b c
  on_row a l = gone_row S g R.held a b c l

  module _ (v : ℕ) (rows mid : List ℕ) (L : AddedRows S g c v rows old mid b) where
    -- the bytes of a row are as they were until its turn
    fresh : (a : ℕ) → a ≤ g.x.steps → get_or mid (spot S g a b c) 0 ≡ get_or old (spot S g a b c) 0
    fresh a l = L.kept (spot S g a b c) λ a' i la li hi e. omega (arith, (spot_same S g R.held a b c a' i c (inside a b l hb) (inside a' i la hi) e).1)

    pub turn_span : Span mid g.x.down (spot S g 0 b c) (g.x.steps + 1)
    turn_span =
        let o : OnAxis (row_run S g b c) (length old) = row_on S g R.held (length old) b c hb hc R.fits in
        let e = L.size in
        record { starts = omega (arith, o.starts); low = λ e. omega (arith, o.low e); high = λ e. omega (arith, o.high e) }

    pub turn_room : ((a b : ℕ) → a ≤ g.x.steps → b ≤ g.y.steps → get_or old (spot S g a b c) 0 + v ≤ 255)
        → Takes mid g.x.down (spot S g 0 b c) (g.x.steps + 1) v
    turn_room spare k l = rw (on_row k (omega arith), fresh k (omega arith)) (spare k b (omega arith) hb)

    pub added_more : (new : List ℕ) → Added mid new g.x.down (spot S g 0 b c) (g.x.steps + 1) (get_or rows b 0) v → AddedRows S g c v rows old new (b + 1)
    added_more new F = record {
      at = λ a i la li hi. elim (eq-or-lt_of_le (le_of i li)) [
        | inl q ↦ rw q (here a la)
        | inr q ↦ before a i la q hi ∙ L.at a i la q hi
      ];
      kept = λ i off. F.kept i (λ k l e. off k b (omega arith) (omega arith) hb (e ∙ on_row k (omega arith))) ∙ L.kept i (λ a j la lj hj. off a j la (omega arith) hj);
      size = F.size ∙ L.size;
    }
      where
        le_of : (i : ℕ) → i < b + 1 → i ≤ b
        le_of i n = omega arith

        here : (a : ℕ) → a ≤ g.x.steps → get_or new (spot S g a b c) 0 ≡ get_or old (spot S g a b c) 0 + v * bit (bit_at (get_or rows b 0) a)
        here a la =
            ap (λ i. get_or new i 0) (sym (on_row a la)) ∙ F.at a (omega arith)
            ∙ rw (on_row a la, fresh a la)

        before : (a i : ℕ) → a ≤ g.x.steps → i < b → i ≤ g.y.steps → get_or new (spot S g a i c) 0 ≡ get_or mid (spot S g a i c) 0
        before a i la li hi = F.kept (spot S g a i c) λ k l e.
            omega (arith, (spot_same S g R.held a i c k b c (inside a i la hi) (inside k b (omega arith) hb) (e ∙ on_row k (omega arith))).1)
