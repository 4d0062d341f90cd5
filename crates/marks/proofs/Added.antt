-- The bytes of the layers that are swept, one after another, and of all nodes. Assumes nothing.
use mathlib.Core.Path.{◌≡◌, refl, sym, ap, ◌∙◌, subst}
use mathlib.Core.Bool.{Bool, true, false, ◌||◌}
use mathlib.Core.Logic.{inl, inr}
use mathlib.Core.List.{List}
use Prim.Native.Nat.{ℕ, ◌+◌, ◌*◌, ◌<◌, ◌≤◌}
use native.Mathlib.Omega.{arith}
use native.Mathlib.Nat.{eq-or-lt_of_le}
use native.Mathlib.Numerals.{add-one}
use borrow.Author.Tests.{ltb-true, ltb-false}
use lib.Dec.{ltb}
use lib.ListN.{get_or}
use Rattle.mesh.specs.Tools.{bit}
use Rattle.mesh.specs.Mesh.{place, nodes, number, place_of, InRange, Inside}
use Rattle.mesh.specs.Cells.{Map, faulty}
use Rattle.mesh.proofs.Numbers.{number_lt, number_of, place_in}
use Rattle.rules.specs.Marks.{to_go, shut, stuck}
use Rattle.rules.proofs.Left.{to_go_in, to_go_back}
use Rattle.rows.specs.Row.{bit_at}
use Rattle.rows.specs.Box.{reach, Within, Held, spot, AddedRows}
use Rattle.rows.proofs.Box.{reach_in, spot_same}
use Rattle.mesh.specs.declared.Place.{Place}
use Rattle.rows.specs.declared.Between.{Between}
use Rattle.marks.specs.Sweep.{whole, prior, Holds, NoneStuck, Layers, Swept}
use Rattle.marks.proofs.Rows.{reach_whole, whole_held, in_within, shut_left}

one_more : (v : ℕ) (b : Bool) → v * bit b ≤ v
one_more v true = omega arith
one_more v false = omega arith

pub layers_none : (m : Map) (g : Between) (shut : Place → Bool) (v : ℕ) (old : List ℕ) → Layers m g shut v old old 0
layers_none m g shut v old = record { at = λ t w l f. absurd (omega arith); at_most = λ t w l. absurd (omega arith); kept = λ i h. refl; size = refl }

-- ---- one layer more

module _ (m : Map) (g : Between) (h : Held m.sizes g) (shut : Place → Bool) (v : ℕ) (old mid : List ℕ) (c : ℕ) (hc : c ≤ g.z.steps)
    (L : Layers m g shut v old mid c) where
  -- its bytes are still those of before
  pub fresh : (a b : ℕ) → a ≤ g.x.steps → b ≤ g.y.steps → get_or mid (spot m.sizes g a b c) 0 ≡ get_or old (spot m.sizes g a b c) 0
  fresh a b la lb = L.kept (spot m.sizes g a b c) λ t w l e.
      let k = (spot_same m.sizes g h a b c t.x t.y t.z (record { x_le = la; y_le = lb; z_le = hc }) w e).2 in
      omega arith

  le_of : (i : ℕ) → i < c + 1 → i ≤ c
  le_of i l = omega arith

  now_shut : (rows : List ℕ) → Holds g (prior m shut (c + 1)) rows → (a b : ℕ) → a ≤ g.x.steps → b ≤ g.y.steps
      → bit_at (get_or rows b 0) a ≡ shut (place a b c)
  now_shut rows H a b la lb = rw (add-one c) at (H a b la lb)

  pub layers_more : (rows new : List ℕ) → Holds g (prior m shut (c + 1)) rows → AddedRows m.sizes g c v rows mid new (g.y.steps + 1)
      → Layers m g shut v old new (c + 1)
  layers_more rows new H A = record {
    at = λ t w l f. elim (eq-or-lt_of_le (le_of t.z l)) [
      | inl e ↦ rw e (here t.x t.y w.x_le w.y_le)
      | inr q ↦ before t w q ∙ L.at t w q f
    ];
    at_most = λ t w l. elim (eq-or-lt_of_le (le_of t.z l)) [
      | inl e ↦ rw e (most t.x t.y w.x_le w.y_le)
      | inr q ↦ omega (arith, before t w q, L.at_most t w q)
    ];
    kept = λ i n. A.kept i (λ a b la lb hb. n (place a b c) (record { x_le = la; y_le = hb; z_le = hc }) (omega arith)) ∙ L.kept i (λ t w l. n t w (omega arith));
    size = A.size ∙ L.size;
  }
    where
      -- the nodes of the layers before are others
      before : (t : Place) → Within g t → t.z < c → get_or new (number m.sizes (reach g t)) 0 ≡ get_or mid (number m.sizes (reach g t)) 0
      before t w l = A.kept (number m.sizes (reach g t)) λ a b la lb hb e.
          let k = (spot_same m.sizes g h t.x t.y t.z a b c w (record { x_le = la; y_le = hb; z_le = hc }) e).2 in
          omega arith

      here : (a b : ℕ) → a ≤ g.x.steps → b ≤ g.y.steps
          → get_or new (spot m.sizes g a b c) 0 ≡ get_or old (spot m.sizes g a b c) 0 + v * bit (shut (place a b c))
      here a b la lb = A.at a b la (omega arith) lb ∙ rw (fresh a b la lb, now_shut rows H a b la lb)

      most : (a b : ℕ) → a ≤ g.x.steps → b ≤ g.y.steps → get_or new (spot m.sizes g a b c) 0 ≤ get_or old (spot m.sizes g a b c) 0 + v
      most a b la lb = omega (arith, here a b la lb, one_more v (shut (place a b c)))

  -- where none of its nodes is stuck nothing has to be added
  pub layers_skip : (rows : List ℕ) → Holds g (prior m shut (c + 1)) rows → NoneStuck m g c rows → Layers m g shut v old mid (c + 1)
  layers_skip rows H N = record {
    at = λ t w l f. elim (eq-or-lt_of_le (le_of t.z l)) [
      | inl e ↦ rw e (here t.x t.y w.x_le w.y_le (ap (λ (z : ℕ). faulty m (reach g (place t.x t.y z))) (sym e) ∙ f))
      | inr q ↦ L.at t w q f
    ];
    at_most = λ t w l. elim (eq-or-lt_of_le (le_of t.z l)) [
      | inl e ↦ rw e (most t.x t.y w.x_le w.y_le)
      | inr q ↦ L.at_most t w q
    ];
    kept = λ i n. L.kept i (λ t w l. n t w (omega arith));
    size = L.size;
  }
    where
      here : (a b : ℕ) → a ≤ g.x.steps → b ≤ g.y.steps → faulty m (reach g (place a b c)) ≡ false
          → get_or mid (spot m.sizes g a b c) 0 ≡ get_or old (spot m.sizes g a b c) 0 + v * bit (shut (place a b c))
      here a b la lb f = rw (fresh a b la lb, sym (now_shut rows H a b la lb), N a b la lb, f) (omega arith)

      most : (a b : ℕ) → a ≤ g.x.steps → b ≤ g.y.steps → get_or mid (spot m.sizes g a b c) 0 ≤ get_or old (spot m.sizes g a b c) 0 + v
      most a b la lb = omega (arith, fresh a b la lb)

-- ---- all layers

module _ (m : Map) (o v : ℕ) (old : List ℕ) where
  -- where no node is stuck nothing is added
  pub swept_none : ((p : Place) → Inside m.sizes p → stuck m o p ≡ false) → Swept m o v old old
  swept_none n = record { at = λ p i f. rw (n p i) (omega arith); at_most = λ k. omega arith; kept = λ k h. refl; size = refl }

  pub swept_all : (new : List ℕ) → InRange m.sizes → Layers m (whole m.sizes o) (shut_left m o) v old new m.sizes.d → Swept m o v old new
  swept_all new r L = record {
    at = λ p i f. at_node p i f ∙ ap (λ t. get_or old (number m.sizes p) 0 + v * bit (t || stuck m o p)) f;
    at_most = λ k. split k (ltb k (nodes m.sizes)) refl;
    kept = beyond_kept;
    size = L.size;
  }
    where
      -- what is said of each node of the box is said of each node
      each : (P : Place → Place → Type 0)
          → ((t : Place) → Within (whole m.sizes o) t → t.z < m.sizes.d → P (reach (whole m.sizes o) t) (to_go m.sizes o t))
          → (p : Place) → Inside m.sizes p → P p p
      each P q p i =
          let t : Place = to_go m.sizes o p in
          let j : Inside m.sizes t = to_go_in m.sizes o p i in
          let e : to_go m.sizes o t ≡ p = to_go_back m.sizes o p i in
          subst (λ (p : Place). P p p) e (subst (λ (q : Place). P q (to_go m.sizes o t)) (reach_whole m.sizes o t) (q t (in_within m.sizes o t j) j.z_in))

      at_node : (p : Place) → Inside m.sizes p → faulty m p ≡ false
          → get_or new (number m.sizes p) 0 ≡ get_or old (number m.sizes p) 0 + v * bit (shut m o p)
      at_node = each (λ p q. faulty m p ≡ false → get_or new (number m.sizes p) 0 ≡ get_or old (number m.sizes p) 0 + v * bit (shut m o q)) L.at

      most : (p : Place) → Inside m.sizes p → get_or new (number m.sizes p) 0 ≤ get_or old (number m.sizes p) 0 + v
      most = each (λ p q. get_or new (number m.sizes p) 0 ≤ get_or old (number m.sizes p) 0 + v) L.at_most

      beyond_kept : (k : ℕ) → nodes m.sizes ≤ k → get_or new k 0 ≡ get_or old k 0
      beyond_kept k h = L.kept k λ t w l e.
          let n = number_lt m.sizes (reach (whole m.sizes o) t) (reach_in m.sizes (whole m.sizes o) t (whole_held m.sizes o r) w) in
          omega arith

      split : (k : ℕ) (t : Bool) → ltb k (nodes m.sizes) ≡ t → get_or new k 0 ≤ get_or old k 0 + v
      split k true e =
          subst (λ (k : ℕ). get_or new k 0 ≤ get_or old k 0 + v) (number_of m.sizes k)
          (most (place_of m.sizes k) (place_in m.sizes k (ltb-true k (nodes m.sizes) e)))
      split k false e = omega (arith, beyond_kept k (ltb-false k (nodes m.sizes) e))
