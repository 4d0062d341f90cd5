-- The records are those that 01 describes, and the whole promise is kept, by nothing but the definitions. Assumes nothing.
use mathlib.Core.Path.{◌≡◌, refl, sym, ap, ◌∙◌, subst}
use mathlib.Core.Logic.{◌↔◌, inl, inr}
use mathlib.Core.Bool.{Bool, ◌&&◌}
use mathlib.Core.List.{List, [], ◌∷◌, map}
use Prim.Native.Nat.{ℕ, zero, suc, ◌<◌}
use native.Mathlib.Omega.{arith}
use lib.Dec.{T, eqb}
use lib.ListN.{length, get_or, length-map}
use lib.Seq.{ext_get_or}
use Rattle.mesh.specs.Tools.{table, count}
use Rattle.mesh.specs.Mesh.{Axis, X, Y, Z}
use Rattle.mesh.proofs.Tests.{T-and, T-eq, tried}
use Rattle.mesh.specs.declared.Sizes.{Sizes}
use Rattle.touching.specs.Lists.{is_in, least, greatest}
use Rattle.touching.specs.Touch.{unsafe, unsafe_nodes, component}
use Rattle.touching.specs.Components.{table_of, coordinate, record_of, records_of, how_many}
use Rattle.touching.specs.Promise.{Bounds, Extent, Records, Promise}
use Rattle.touching.specs.declared.Component.{Component}
use Rattle.touching.proofs.Lists.{keep_ext, keep_keep, keep_count}
use Rattle.touching.proofs.Ranks.{at_in}
use Rattle.touching.proofs.Extremes.{least_le, least_met, greatest_le, greatest_met}
use Rattle.touching.proofs.Joined.{T-component, component_kept, end_unsafe}
use Rattle.touching.proofs.Numbers.{firsts, T-first, table_size, number_safe, first_number, numbers, numbers_only}

get_d_map_in : {A : Type 0} (f : ℕ → A) (l : List ℕ) (i : ℕ) (c : A) → i < length l → get_or (map f l) i c ≡ f (get_or l i 0)
get_d_map_in f [] i c h = absurd (omega arith)
get_d_map_in f (j ∷ js) zero c h = refl
get_d_map_in f (j ∷ js) (suc i) c h = get_d_map_in f js i c (omega arith)

module _ (S : Sizes) (marks : List ℕ) where
  module _ (i : ℕ) (h : i < length (firsts S marks)) where
    -- the lowest node of component i + 1, and its members
    abbrev at : ℕ
    at = get_or (firsts S marks) i 0

    abbrev members : List ℕ
    members = component S (unsafe_nodes marks) at

    T-members : (k : ℕ) → T (is_in k members) ↔ (get_or (table_of S marks) k 0 ≡ suc i)
    T-members k = (
      λ m.
          let j = (T-component S marks at k).0 m in
          sym (((numbers S marks).same at k here (end_unsafe S marks j)).1 j) ∙ first_number S marks i h,
      λ e. (T-component S marks at k).1 (((numbers S marks).same at k here (not_safe e)).0 (first_number S marks i h ∙ sym e)),
    )
      where
        here : T (unsafe marks at)
        here = ((T-first S marks at).0 (at_in (firsts S marks) i h)).is_unsafe

        not_safe : get_or (table_of S marks) k 0 ≡ suc i → T (unsafe marks k)
        not_safe e = elim (tried (unsafe marks k)) [ inl u ↦ u | inr s ↦ absurd (omega (arith, number_safe S marks k s)) ]

    counted : length members ≡ count (length (table_of S marks)) λ k. eqb (get_or (table_of S marks) k 0) (suc i)
    unfolding unsafe_nodes
    counted =
        let p : ℕ → Bool = λ k. is_in k members in
        let q : ℕ → Bool = λ k. eqb (get_or (table_of S marks) k 0) (suc i) in
        let all : List ℕ = table (λ k. k) (length marks) in
        ap length (component_kept S (unsafe_nodes marks) at ∙ keep_keep p (unsafe marks) all ∙ keep_ext (λ k. unsafe marks k && p k) q all agree)
        ∙ keep_count q (λ k. k) (length marks)
        ∙ ap (λ (n : ℕ). count n q) (sym (table_size S marks))
      where
        agree : (k : ℕ) → T (is_in k (table (λ k. k) (length marks)))
            → T (unsafe marks k && is_in k members) ↔ T (eqb (get_or (table_of S marks) k 0) (suc i))
        agree k _ = (
          λ t. (T-eq (get_or (table_of S marks) k 0) (suc i)).1 ((T-members k).0 ((T-and (unsafe marks k) (is_in k members)).0 t).1),
          λ t.
              let m = (T-members k).1 ((T-eq (get_or (table_of S marks) k 0) (suc i)).0 t) in
              (T-and (unsafe marks k) (is_in k members)).1 (end_unsafe S marks ((T-component S marks at k).0 m), m),
        )

    extent : (axis : Axis) → Extent S (table_of S marks) (suc i) axis (least (coordinate S axis) members) (greatest (coordinate S axis) members)
    extent axis =
        let f = coordinate S axis in
        let own = (T-members at).1 (first_number S marks i h) in
        record {
          within = λ k e. let m = (T-members k).1 e in (least_le f members k m, greatest_le f members k m);
          at_lo = let (k, m, e) = least_met f members at own in (k, (T-members k).0 m, sym e);
          at_hi = let (k, m, e) = greatest_met f members at own in (k, (T-members k).0 m, sym e);
        }

    described : Records S (table_of S marks) (suc i) (record_of S members)
    unfolding record_of
    described = record { members = counted; on_x = extent X; on_y = extent Y; on_z = extent Z }

  -- the definitions keep the promise
  pub promise : Promise S marks (how_many S marks) (table_of S marks) (records_of S marks)
  unfolding how_many records_of
  promise =
      record {
        numbers = numbers S marks;
        one_each = length-map (firsts S marks) (λ a. record_of S (component S (unsafe_nodes marks) a));
        records = λ i c h. rw (get_d_map_in (λ a. record_of S (component S (unsafe_nodes marks) a)) (firsts S marks) i c h) (described i h);
      }

-- ---- and nothing else keeps it

pub bounds_only : {Has : ℕ → Type 0} {f : ℕ → ℕ} {lo hi lo' hi' : ℕ} → Bounds Has f lo hi → Bounds Has f lo' hi' → (lo ≡ lo') × (hi ≡ hi')
bounds_only e f =
    let (a, m, p) = e.at_lo in
    let (b, n, q) = f.at_lo in
    let (c, k, r) = e.at_hi in
    let (d, l, s) = f.at_hi in
    (omega (arith, e.within b n, f.within a m), omega (arith, e.within d l, f.within c k))

records_only : {S : Sizes} {t : List ℕ} {i : ℕ} {c c' : Component} → Records S t i c → Records S t i c' → c ≡ c'
records_only r s =
    let (x0, x1) = bounds_only r.on_x s.on_x in
    let (y0, y1) = bounds_only r.on_y s.on_y in
    let (z0, z1) = bounds_only r.on_z s.on_z in
    let n = r.members ∙ sym s.members in
    λ j. record { count = n j; x0 = x0 j; y0 = y0 j; z0 = z0 j; x1 = x1 j; y1 = y1 j; z1 = z1 j }

module _ (S : Sizes) (marks : List ℕ) (n : ℕ) (t : List ℕ) (row : List Component) (p : Promise S marks n t row) where
  pub promise_only : (n ≡ how_many S marks) × (t ≡ table_of S marks) × (row ≡ records_of S marks)
  promise_only =
      let (e, f) = numbers_only S marks n t p.numbers in
      (e, f, ext_get_or none row (records_of S marks) (p.one_each ∙ e ∙ sym (promise S marks).one_each) λ i h. same i (omega (arith, p.one_each)) e f)
    where
      none : Component
      none = record_of S []

      same : (i : ℕ) → i < n → n ≡ how_many S marks → t ≡ table_of S marks → get_or row i none ≡ get_or (records_of S marks) i none
      same i h e f =
          let mine : Records S (table_of S marks) (suc i) (get_or row i none) =
          subst (λ (u : List ℕ). Records S u (suc i) (get_or row i none)) f (p.records i none h) in
          records_only mine ((promise S marks).records i none (omega arith))
