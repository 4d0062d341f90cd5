-- What the flood leaves in the grid is, said of the nodes, what 01 promises; so it is the definitions' table and records. Assumes nothing.
use mathlib.Core.Path.{◌≡◌, refl, sym, ap, ◌∙◌, subst}
use mathlib.Core.Logic.{inl, inr}
use mathlib.Core.Bool.{Bool, not, ◌&&◌}
use mathlib.Core.List.{List}
use Prim.Native.Nat.{ℕ, zero, suc, ◌≤◌, ◌<◌}
use native.Mathlib.Omega.{arith}
use native.Mathlib.Nat.{eq-or-lt_of_le}
use lib.Dec.{T, eqb, leb, ltb, ltb→lt, nltb→le, leb→le, nleb→lt}
use lib.ListN.{length, get_or, take, get_or-eq_default}
use lib.Seq.{get_or-take, length-take-le}
use Rattle.mesh.specs.Tools.{bit, table, count}
use Rattle.mesh.specs.Mesh.{Axis, X, Y, Z, on, InRange, nodes}
use Rattle.mesh.proofs.Tests.{T-and, T-any, T-eq, tried, bool_ext}
use Rattle.mesh.proofs.Tables.{length_table, get_d_table}
use Rattle.mesh.specs.declared.Sizes.{Sizes}
use Rattle.mesh.specs.declared.Place.{Place}
use Rattle.touching.specs.Touch.{unsafe, Joined, itself, further}
use Rattle.touching.specs.Components.{coordinate, table_of, records_of, how_many}
use Rattle.touching.specs.Promise.{Lowest, Numbers, Extent, Records, Promise}
use Rattle.grids.specs.Grid.{grid_size, unseen, place_at, grid_at, Beside}
use Rattle.floods.specs.Flood.{Linked, here, onward, how_often}
use Rattle.floods.specs.Label.{Spans, Recorded, Labelled}
use Rattle.touching.specs.declared.Component.{Component}
use Rattle.touching.proofs.Joined.{joined_trans, joined_sym, end_unsafe}
use Rattle.touching.proofs.Records.{promise_only}
use Rattle.touching.proofs.Counts.{sum_same, image, image_count}
use Rattle.components.proofs.Spots.{at, place_at_lem, at_lt, at_eq, at_le, touching_beside, beside_touching, unsafe_node, unsafe_spot, safe_spot, unseen_node, untouched}

module _ (S : Sizes) (r : InRange S) (marks g : List ℕ) (long : length marks ≡ nodes S) (is : (j : ℕ) → get_or g j 0 ≡ grid_at S marks j)
    (n : ℕ) (small : n < unseen) (h : List ℕ) (row : List Component) (L : Labelled g grid_size n h row) where
  -- the number of node k, and all of them
  abbrev num : ℕ → ℕ
  num k = get_or h (at S k) 0

  abbrev pub numbers : List ℕ
  numbers = table num (nodes S)

  abbrev un : ℕ → Type 0
  un k = T (unsafe marks k)

  node : (k : ℕ) → un k → k < nodes S
  node k u = unsafe_node S r marks g long is k u

  numbered : (k : ℕ) → un k → (1 ≤ num k) × (num k ≤ n)
  numbered k u = elim (L.kept (at S k)) [
    | inl e ↦ absurd (L.passed (at S k) (at_lt S r k (node k u)) (e ∙ unsafe_spot S r marks g long is k u))
    | inr e ↦ (e.1, e.2)
  ]

  -- a place that holds a component's number is an unsafe node's
  found : (j i : ℕ) → get_or h j 0 ≡ suc i → i < n → (k : ℕ) × un k × (j ≡ at S k)
  found j i e l = elim (L.kept j) [
    | inr w ↦ unseen_node S r marks g long is j w.0
    | inl w ↦ elim (untouched S r marks g long is j) [ inl z ↦ absurd (omega arith) | inr z ↦ absurd (omega (arith, z.0)) ]
  ]

  -- ---- joined nodes have one number, and nodes of one number are joined

  joined_same : {a b : ℕ} → Joined S marks a b → num a ≡ num b
  joined_same (itself u) = refl
  joined_same {a} (further {b} {c} j t u) =
      let (lo, hi) = numbered b (end_unsafe S marks j) in
      joined_same j ∙ sym (L.closed (at S b) (at S c) lo hi (touching_beside S r b c t) (unsafe_spot S r marks g long is c u))

  linked_joined : {s j : ℕ} → Linked g s j → (k : ℕ) → un k → s ≡ at S k → (m : ℕ) × (j ≡ at S m) × Joined S marks k m
  linked_joined here k u e = (k, e, itself u)
  linked_joined (onward {b} {c} l w v) k u e =
      let (m, f, j) = linked_joined l k u e in
      let (i, x, y) = unseen_node S r marks g long is c v in
      let t : Beside (at S m) (at S i) = subst (λ (p : ℕ). Beside p (at S i)) f (subst (Beside b) y w) in
      (i, y, further j (beside_touching S r m i (node m (end_unsafe S marks j)) (node i x) t) x)

  -- the nodes with number i + 1 are joined to one of them
  root : (i : ℕ) → i < n → (k : ℕ) × un k × (num k ≡ suc i) × ((m : ℕ) → un m → num m ≡ suc i → Joined S marks k m)
  root i l =
      let (s, _, e, f) = L.linked i l in
      let (k, u, x) = found s i e l in
      (k, u, ap (λ (p : ℕ). get_or h p 0) (sym x) ∙ e, λ m v w. own m (f (at S m) w) k u x v)
    where
      own : {s : ℕ} (m : ℕ) → Linked g s (at S m) → (k : ℕ) → un k → s ≡ at S k → un m → Joined S marks k m
      own m lk k u x v =
          let (q, y, j) = linked_joined lk k u x in
          subst (Joined S marks k) (at_eq S r q m (node q (end_unsafe S marks j)) (node m v) (sym y)) j

  -- ---- the table

  of_table : (k : ℕ) → k < nodes S → get_or numbers k 0 ≡ num k
  of_table k l = get_d_table num (nodes S) k 0 l

  of_unsafe : (k : ℕ) → un k → get_or numbers k 0 ≡ num k
  of_unsafe k u = of_table k (node k u)

  num_safe : (k : ℕ) → T (not (unsafe marks k)) → get_or numbers k 0 ≡ 0
  num_safe k s = elim (tried (ltb k (nodes S))) [
    | inr t ↦ get_or-eq_default numbers 0 (omega (arith, length_table num (nodes S), nltb→le k (nodes S) t))
    | inl t ↦
        let l = ltb→lt k (nodes S) t in
        of_table k l ∙ elim (L.kept (at S k)) [
          | inl e ↦ e ∙ safe_spot S r marks g long is k l s
          | inr e ↦ absurd (omega (arith, e.0, safe_spot S r marks g long is k l s))
        ]
  ]

  same_joined : (a b : ℕ) → un a → un b → num a ≡ num b → Joined S marks a b
  same_joined a b u v e =
      let (i, f) = from_one (num a) (numbered a u).0 in
      let (k, w, x, y) = root i (omega (arith, (numbered a u).1)) in
      joined_trans S marks (joined_sym S marks (y a u f)) (y b v (sym e ∙ f))
    where
      from_one : (v : ℕ) → 1 ≤ v → (i : ℕ) × (v ≡ suc i)
      from_one zero l = absurd (omega arith)
      from_one (suc i) l = (i, refl)

  -- below a node of a component lie nodes of those with lower numbers
  lower_below : (a b : ℕ) → un a → un b → num b < num a → (k : ℕ) × un k × (k < a) × (num k ≡ num b)
  lower_below a b u v l = by (num a) (num b) refl refl
    where
      before : (k : ℕ) → un k → at S k < at S a → k < a
      before k w lt = elim (tried (leb a k)) [
        | inl t ↦ absurd (omega (arith, at_le S r a k (node a u) (node k w) (leb→le a k t)))
        | inr t ↦ nleb→lt a k t
      ]

      by : (x y : ℕ) → num a ≡ x → num b ≡ y → (k : ℕ) × un k × (k < a) × (num k ≡ num b)
      by zero y ea eb = absurd (omega (arith, numbered a u))
      by (suc i) zero ea eb = absurd (omega (arith, numbered b v))
      by (suc i) (suc m) ea eb =
          let (c, lc, e) = L.rising i m (at S a) (omega arith) (omega (arith, numbered a u)) ea in
          let (k, w, f) = found c m e (omega (arith, numbered b v)) in
          (k, w, before k w (omega arith), ap (λ (p : ℕ). get_or h p 0) (sym f) ∙ e ∙ sym eb)

  rises : (a b : ℕ) → Lowest S marks a → Lowest S marks b → a < b → num a < num b
  rises a b la lb l = elim (tried (ltb (num a) (num b))) [
    | inl t ↦ ltb→lt (num a) (num b) t
    | inr t ↦
        let u = la.is_unsafe in
        let v = lb.is_unsafe in
        elim (eq-or-lt_of_le (nltb→le (num a) (num b) t)) [
          | inl e ↦ absurd (omega (arith, lb.no_lower a (same_joined b a v u e)))
          | inr lt ↦
              let (k, w, lk, e) = lower_below a b u v lt in
              absurd (omega (arith, lb.no_lower k (same_joined b k v w (sym e))))
        ]
  ]

  table_kept : Numbers S marks n numbers
  table_kept =
      record {
        size = length_table num (nodes S) ∙ sym long;
        safe = num_safe;
        in_range = λ a u. rw (of_unsafe a u) (numbered a u);
        used = λ i l. let (k, u, e, _) = root i l in (k, u, of_unsafe k u ∙ e);
        same = λ a b u v. (
          λ e. same_joined a b u v (sym (of_unsafe a u) ∙ e ∙ of_unsafe b v),
          λ j. of_unsafe a u ∙ joined_same j ∙ sym (of_unsafe b v),
        );
        rising = λ a b la lb l. rw (of_unsafe a la.is_unsafe, of_unsafe b lb.is_unsafe) (rises a b la lb l);
      }

  -- ---- the records

  module _ (i : ℕ) (l : i < n) where
    abbrev has : ℕ → Bool
    has k = eqb (num k) (suc i)

    -- the places that hold the number are the spots of the nodes that have it
    spots_of : (j : ℕ) → eqb (get_or h j 0) (suc i) ≡ image (at S) has (nodes S) j
    spots_of j = bool_ext (eqb (get_or h j 0) (suc i)) (image (at S) has (nodes S) j)
        (λ t.
        let e = (T-eq (get_or h j 0) (suc i)).0 t in
        let (k, u, x) = found j i e l in
        (T-any (nodes S) (λ k. has k && eqb (at S k) j)).1 (
          k,
          node k u,
          (T-and (has k) (eqb (at S k) j)).1
              ((T-eq (num k) (suc i)).1 (ap (λ (p : ℕ). get_or h p 0) (sym x) ∙ e), (T-eq (at S k) j).1 (sym x)),
        ))
        (λ t.
        let (k, _, q) = (T-any (nodes S) (λ k. has k && eqb (at S k) j)).0 t in
        let (a, b) = (T-and (has k) (eqb (at S k) j)).0 q in
        (T-eq (get_or h j 0) (suc i)).1 (ap (λ (p : ℕ). get_or h p 0) (sym ((T-eq (at S k) j).0 b)) ∙ (T-eq (num k) (suc i)).0 a))

    counted : how_often h (suc i) ≡ count (length numbers) λ a. eqb (get_or numbers a 0) (suc i)
    counted =
        sum_same (length h) (λ j. bit (eqb (get_or h j 0) (suc i))) (λ j. bit (image (at S) has (nodes S) j)) (λ j _. ap bit (spots_of j))
        ∙ ap (λ (m : ℕ). count m (image (at S) has (nodes S))) L.size
        ∙ image_count (at S) has grid_size (nodes S) (at_lt S r) (λ a b lt lb e. omega (arith, at_eq S r a b (omega arith) lb e))
        ∙ sum_same (nodes S) (λ k. bit (has k)) (λ a. bit (eqb (get_or numbers a 0) (suc i))) (λ k lk. rw (of_table k lk))
        ∙ ap (λ (m : ℕ). count m (λ a. eqb (get_or numbers a 0) (suc i))) (sym (length_table num (nodes S)))

    -- a node with the number
    in_table : (a : ℕ) → get_or numbers a 0 ≡ suc i → (a < nodes S) × (num a ≡ suc i)
    in_table a e = elim (tried (ltb a (nodes S))) [
      | inl t ↦ let la = ltb→lt a (nodes S) t in (la, sym (of_table a la) ∙ e)
      | inr t ↦
          let z : get_or numbers a 0 ≡ 0 = get_or-eq_default numbers 0 (omega (arith, length_table num (nodes S), nltb→le a (nodes S) t)) in
          absurd (omega arith)
    ]

    lies : (axis : Axis) (k : ℕ) → k < nodes S → on (place_at (at S k)) axis ≡ coordinate S axis k
    lies axis k lk = ap (λ (p : Place). on p axis) (place_at_lem S r k lk)

    extent : (axis : Axis) (lo hi : ℕ) → Spans h (suc i) axis lo hi → Extent S numbers (suc i) axis lo hi
    extent axis lo hi s =
        record {
          within = λ a e. let (la, f) = in_table a e in rw (lies axis a la) at (s.within (at S a) f);
          at_lo = let (j, e, f) = s.at_lo in let (k, u, x) = found j i e l in met k u x e f;
          at_hi = let (j, e, f) = s.at_hi in let (k, u, x) = found j i e l in met k u x e f;
        }
      where
        met : {j v : ℕ} (k : ℕ) → un k → j ≡ at S k → get_or h j 0 ≡ suc i → on (place_at j) axis ≡ v → (a : ℕ)
            × (get_or numbers a 0 ≡ suc i) × (coordinate S axis a ≡ v)
        met {j} k u x e f = (
          k,
          of_unsafe k u ∙ ap (λ (p : ℕ). get_or h p 0) (sym x) ∙ e,
          sym (lies axis k (node k u))
              ∙ ap (λ (p : ℕ). on (place_at p) axis) (sym x) ∙ f,
        )

    described : (c : Component) → Recorded h (suc i) c → Records S numbers (suc i) c
    described c R =
        record {
          members = R.members ∙ counted;
          on_x = extent X c.x0 c.x1 (R.spans X);
          on_y = extent Y c.y0 c.y1 (R.spans Y);
          on_z = extent Z c.z0 c.z1 (R.spans Z);
        }

  -- ---- the whole promise

  module _ (fits : n ≤ length row) where
    kept : Promise S marks n numbers (take n row)
    kept =
        record {
          numbers = table_kept;
          one_each = length-take-le n row fits;
          records = λ i c l. rw (get_or-take n row i c l) (described i l (get_or row i c) (L.recorded i c l));
        }

    pub as_defined : (n ≡ how_many S marks) × (numbers ≡ table_of S marks) × (take n row ≡ records_of S marks)
    as_defined = promise_only S marks n numbers (take n row) kept
