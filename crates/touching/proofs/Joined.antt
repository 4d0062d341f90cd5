-- The computed components are the ones that 01 describes: `joined` computes `Joined`. A round that adds no node is the last, and there are no more
-- nodes to add than rounds. Assumes nothing.
use mathlib.Core.Path.{◌≡◌, refl, sym, ap, ◌∙◌, subst}
use mathlib.Core.Logic.{◌↔◌, ◌⊎◌, inl, inr}
use mathlib.Core.Bool.{Bool, not, ◌||◌}
use mathlib.Core.List.{List}
use Prim.Native.Nat.{ℕ, zero, suc, ◌≤◌, ◌<◌}
use native.Mathlib.Omega.{arith}
use lib.Dec.{T, eqb, leb, nleb→lt, leb→le, eqb_refl}
use lib.ListN.{length, get_or-eq_default}
use Rattle.mesh.specs.Tools.{table}
use Rattle.mesh.specs.Mesh.{nodes, place_of}
use Rattle.mesh.specs.Cells.{Map}
use Rattle.mesh.proofs.Tests.{T-or, T-eq, tried}
use Rattle.mesh.proofs.Tables.{get_d_table}
use Rattle.rules.specs.Marks.{mark_at, unsafe_at, marks_of}
use Rattle.mesh.specs.declared.Sizes.{Sizes}
use Rattle.touching.specs.Lists.{is_in, keep}
use Rattle.touching.specs.Touch.{unsafe, unsafe_nodes, touching, Joined, itself, further, near, grown, component, joined}
use Rattle.touching.proofs.Lists.{T-any_of, T-keep, keep_few, keep_tight, keep_ext, T-table, Ascending, keep_ascends, table_ascends}
use Rattle.touching.proofs.Eighteen.{touch_sym}

-- ---- joined goes both ways and on

module _ (S : Sizes) (marks : List ℕ) where
  pub joined_trans : {a b c : ℕ} → Joined S marks a b → Joined S marks b c → Joined S marks a c
  joined_trans j (itself u) = j
  joined_trans j (further k t u) = further (joined_trans j k) t u

  pub start_unsafe : {a b : ℕ} → Joined S marks a b → T (unsafe marks a)
  start_unsafe (itself u) = u
  start_unsafe (further j t u) = start_unsafe j

  pub end_unsafe : {a b : ℕ} → Joined S marks a b → T (unsafe marks b)
  end_unsafe (itself u) = u
  end_unsafe (further j t u) = u

  pub joined_sym : {a b : ℕ} → Joined S marks a b → Joined S marks b a
  joined_sym (itself u) = itself u
  joined_sym {a} (further {b} {c} j t u) = joined_trans
      (further (itself u) (rw (touch_sym (place_of S c) (place_of S b)) t) (end_unsafe j)) (joined_sym j)

-- ---- the list of unsafe nodes

pub unsafe_lt : (marks : List ℕ) (k : ℕ) → T (unsafe marks k) → k < length marks
unsafe_lt marks k u = elim (tried (leb (length marks) k)) [
  | inl h ↦ absurd (subst (λ (b : ℕ). T (not (eqb b 0))) (get_or-eq_default marks 0 (leb→le (length marks) k h)) u)
  | inr h ↦ nleb→lt (length marks) k h
]

pub T-unsafe : (marks : List ℕ) (k : ℕ) → T (is_in k (unsafe_nodes marks)) ↔ T (unsafe marks k)
unfolding unsafe_nodes
T-unsafe marks k = (
  λ i. ((T-keep (unsafe marks) (table (λ j. j) (length marks)) k).0 i).1,
  λ u. (T-keep (unsafe marks) (table (λ j. j) (length marks)) k).1 ((T-table (λ j. j) (length marks) k).1 (k, unsafe_lt marks k u, refl), u),
)

-- by the mark bytes of a map the unsafe nodes are those of the mark rule
pub unsafe_of : (m : Map) (o k : ℕ) → k < nodes m.sizes → unsafe (marks_of m o) k ≡ unsafe_at m o (place_of m.sizes k)
unfolding marks_of unsafe_at
unsafe_of m o k h = ap (λ (b : ℕ). not (eqb b 0)) (get_d_table (λ i. mark_at m o (place_of m.sizes i)) (nodes m.sizes) k 0 h)

pub unsafe_ascends : (marks : List ℕ) → Ascending (unsafe_nodes marks)
unfolding unsafe_nodes
unsafe_ascends marks = keep_ascends (unsafe marks) (table (λ j. j) (length marks)) (table_ascends (λ j. j) (length marks) (λ i j l. l))

-- ---- the rounds

module _ (S : Sizes) (among : List ℕ) (a : ℕ) where
  -- what a round asks of a node
  abbrev asks : ℕ → ℕ → Bool
  asks zero = eqb a
  asks (suc n) = near S (grown S among a n)

  kept : (n : ℕ) → grown S among a n ≡ keep (asks n) among
  unfolding grown
  kept zero = refl
  kept (suc n) = refl

  -- a round asks no more than the one before
  wider : (n k : ℕ) → T (is_in k among) → T (asks n k) → T (asks (suc n) k)
  wider n k i t =
      let here : T (is_in k (grown S among a n)) = rw (kept n) ((T-keep (asks n) among k).1 (i, t)) in
      (T-any_of (grown S among a n) (λ j. eqb j k || touching S j k)).1 (k, here, (T-or (eqb k k) (touching S k k)).1 (inl (eqb_refl k)))

  again : (n : ℕ) → grown S among a (suc n) ≡ grown S among a n → grown S among a (suc (suc n)) ≡ grown S among a (suc n)
  again n e = kept (suc (suc n)) ∙ ap (λ (l : List ℕ). keep (near S l) among) e ∙ sym (kept (suc n))

  -- a round that adds no node is the last
  stop : (n : ℕ) → length (grown S among a (suc n)) ≤ length (grown S among a n) → grown S among a (suc n) ≡ grown S among a n
  stop n l =
      let fewer : length (keep (asks (suc n)) among) ≤ length (keep (asks n) among) = omega (arith, ap length (kept n), ap length (kept (suc n))) in
      kept (suc n) ∙ keep_tight (asks n) (asks (suc n)) among (wider n) fewer ∙ sym (kept n)

  -- after n rounds either that was the last, or at least n nodes are in
  ladder : (n : ℕ) → (grown S among a (suc n) ≡ grown S among a n) ⊎ (n ≤ length (grown S among a n))
  ladder zero = inr (omega arith)
  ladder (suc n) = elim (ladder n) [
    | inl e ↦ inl (again n e)
    | inr h ↦ elim (tried (leb (length (grown S among a (suc n))) (length (grown S among a n)))) [
      | inl t ↦ inl (again n (stop n (leb→le (length (grown S among a (suc n))) (length (grown S among a n)) t)))
      | inr t ↦ inr (omega (arith, nleb→lt (length (grown S among a (suc n))) (length (grown S among a n)) t))
    ]
  ]

  settled : grown S among a (suc (length among)) ≡ component S among a
  unfolding component
  settled = elim (ladder (length among)) [
    | inl e ↦ e
    | inr h ↦ stop (length among) (omega (arith, ap length (kept (suc (length among))), keep_few (asks (suc (length among))) among))
  ]

  -- the component by its last round
  last : component S among a ≡ keep (asks (length among)) among
  unfolding component
  last = kept (length among)

  T-last : (k : ℕ) → T (is_in k (component S among a)) ↔ (T (is_in k among) × T (asks (length among) k))
  T-last k = rw last (T-keep (asks (length among)) among k)

  pub component_ascends : Ascending among → Ascending (component S among a)
  component_ascends h = rw last (keep_ascends (asks (length among)) among h)

  pub component_kept : component S among a ≡ keep (λ k. is_in k (component S among a)) among
  component_kept = last ∙ keep_ext (asks (length among)) (λ k. is_in k (component S among a)) among λ k i.
      (λ t. (T-last k).1 (i, t), λ h. ((T-last k).0 h).1)

  -- the component has its own node, if that is one of the nodes, and is closed under touching
  own : T (is_in a among) → (n : ℕ) → T (asks n a)
  own i zero = eqb_refl a
  own i (suc n) = wider n a i (own i n)

  closed : (j k : ℕ) → T (is_in j (component S among a)) → T (touching S j k) → T (is_in k among) → T (is_in k (component S among a))
  unfolding component
  closed j k i t m =
      let n = length among in
      let hit : T (asks (suc n) k) = (T-any_of (grown S among a n) (λ j. eqb j k || touching S j k)).1
      (j, i, (T-or (eqb j k) (touching S j k)).1 (inr t)) in
      let e : keep (asks (suc n)) among ≡ component S among a = sym (kept (suc n)) ∙ settled in
      rw e at ((T-keep (asks (suc n)) among k).1 (m, hit))

-- ---- `joined` computes `Joined`

module _ (S : Sizes) (marks : List ℕ) where
  sound : (a n b : ℕ) → T (is_in b (grown S (unsafe_nodes marks) a n)) → Joined S marks a b
  unfolding grown
  sound a zero b i =
      let (m, t) = (T-keep (eqb a) (unsafe_nodes marks) b).0 i in
      subst (Joined S marks a) ((T-eq a b).0 t) (itself ((T-unsafe marks a).0 (rw ((T-eq a b).0 t) m)))
  sound a (suc n) b i =
      let (m, t) = (T-keep (near S (grown S (unsafe_nodes marks) a n)) (unsafe_nodes marks) b).0 i in
      let (j, h, x) = (T-any_of (grown S (unsafe_nodes marks) a n) (λ j. eqb j b || touching S j b)).0 t in
      elim ((T-or (eqb j b) (touching S j b)).0 x) [
        | inl e ↦ subst (Joined S marks a) ((T-eq j b).0 e) (sound a n j h)
        | inr y ↦ further (sound a n j h) y ((T-unsafe marks b).0 m)
      ]

  complete : {a b : ℕ} → Joined S marks a b → T (is_in b (component S (unsafe_nodes marks) a))
  complete {a} (itself u) =
      let i = (T-unsafe marks a).1 u in
      (T-last S (unsafe_nodes marks) a a).1 (i, own S (unsafe_nodes marks) a i (length (unsafe_nodes marks)))
  complete {a} (further {b} {c} j t u) = closed S (unsafe_nodes marks) a b c (complete j) t ((T-unsafe marks c).1 u)

  pub T-component : (a b : ℕ) → T (is_in b (component S (unsafe_nodes marks) a)) ↔ Joined S marks a b
  unfolding component
  T-component a b = (sound a (length (unsafe_nodes marks)) b, complete)

  pub T-joined : (a b : ℕ) → T (joined S marks a b) ↔ Joined S marks a b
  unfolding joined
  T-joined a b = T-component a b

  -- nodes that are joined have one component
  pub component_same : {a b : ℕ} → Joined S marks a b → component S (unsafe_nodes marks) a ≡ component S (unsafe_nodes marks) b
  component_same {a} {b} j =
      component_kept S (unsafe_nodes marks) a
      ∙ keep_ext (λ k. is_in k (component S (unsafe_nodes marks) a)) (λ k. is_in k (component S (unsafe_nodes marks) b)) (unsafe_nodes marks) (λ k i. (
        λ t. (T-component b k).1 (joined_trans S marks (joined_sym S marks j) ((T-component a k).0 t)),
        λ t. (T-component a k).1 (joined_trans S marks j ((T-component b k).0 t)),
      ))
      ∙ sym (component_kept S (unsafe_nodes marks) b)
