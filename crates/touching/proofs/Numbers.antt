-- The table numbers the components as 01 says, and no other table does. A node's number is the rank of its component's lowest node among the
-- lowest nodes. Assumes nothing.
use mathlib.Core.Path.{◌≡◌, sym, ap, ◌∙◌, subst}
use mathlib.Core.Logic.{◌↔◌, inl, inr}
use mathlib.Core.Bool.{not}
use mathlib.Core.List.{List}
use Prim.Native.Nat.{ℕ, zero, suc, ◌≤◌, ◌<◌}
use native.Mathlib.Omega.{arith}
use native.Mathlib.Nat.{le_antisymm}
use lib.Dec.{T, T_not, not_T, eqb, ltb, ltb→lt, nltb→le}
use lib.ListN.{length, get_or, get_or-eq_default}
use lib.Seq.{ext_get_or}
use Rattle.mesh.specs.Tools.{table}
use Rattle.mesh.proofs.Tests.{T-eq, tried, cond_true, cond_false}
use Rattle.mesh.proofs.Tables.{length_table, get_d_table}
use Rattle.mesh.specs.declared.Sizes.{Sizes}
use Rattle.touching.specs.Lists.{is_in, keep}
use Rattle.touching.specs.Touch.{unsafe, unsafe_nodes, Joined, itself, component}
use Rattle.touching.specs.Components.{lowest, lowest_nodes, number_among, table_of, how_many}
use Rattle.touching.specs.Promise.{Lowest, Numbers}
use Rattle.touching.proofs.Lists.{T-keep, keep_few, Ascending, keep_ascends, first_in, first_lowest}
use Rattle.touching.proofs.Ranks.{rank, rank_pos, rank_few, rank_lt, rank_at, rank_inj, at_in, rank_only}
use Rattle.touching.proofs.Joined.{T-unsafe, unsafe_lt, unsafe_ascends, component_ascends, end_unsafe, joined_trans, joined_sym, T-component, component_same}

module _ (S : Sizes) (marks : List ℕ) where
  -- the lowest node of a's component, and all lowest nodes
  abbrev pub low : ℕ → ℕ
  low a = lowest S (unsafe_nodes marks) a

  abbrev pub firsts : List ℕ
  firsts = lowest_nodes S (unsafe_nodes marks)

  pub low_joined : (a : ℕ) → T (unsafe marks a) → Joined S marks a (low a)
  unfolding lowest
  low_joined a u = (T-component S marks a (low a)).0 (first_in (component S (unsafe_nodes marks) a) a ((T-component S marks a a).1 (itself u)))

  pub low_least : (a b : ℕ) → Joined S marks a b → low a ≤ b
  unfolding lowest
  low_least a b j =
      first_lowest (component S (unsafe_nodes marks) a) (component_ascends S (unsafe_nodes marks) a (unsafe_ascends marks)) b
      ((T-component S marks a b).1 j)

  pub low_same : (a b : ℕ) → Joined S marks a b → low a ≡ low b
  unfolding lowest
  low_same a b j = ap (λ (l : List ℕ). get_or l 0 0) (component_same S marks j)

  -- the lowest nodes are those that 01 means
  pub low_fixed : (a : ℕ) → Lowest S marks a → low a ≡ a
  low_fixed a l = le_antisymm (low_least a a (itself l.is_unsafe)) (l.no_lower (low a) (low_joined a l.is_unsafe))

  pub T-first : (a : ℕ) → T (is_in a firsts) ↔ Lowest S marks a
  unfolding lowest_nodes
  T-first a = (
    λ i.
        let (m, t) = (T-keep (λ k. eqb (low k) k) (unsafe_nodes marks) a).0 i in
        record { is_unsafe = (T-unsafe marks a).0 m; no_lower = λ b j. rw ((T-eq (low a) a).0 t) at (low_least a b j) },
    λ l. (T-keep (λ k. eqb (low k) k) (unsafe_nodes marks) a).1 ((T-unsafe marks a).1 l.is_unsafe, (T-eq (low a) a).1 (low_fixed a l)),
  )

  pub low_first : (a : ℕ) → T (unsafe marks a) → T (is_in (low a) firsts)
  unfolding lowest_nodes
  low_first a u =
      let j = low_joined a u in
      let fixed : T (eqb (low (low a)) (low a)) = (T-eq (low (low a)) (low a)).1 (sym (low_same a (low a) j)) in
      (T-keep (λ k. eqb (low k) k) (unsafe_nodes marks) (low a)).1 ((T-unsafe marks (low a)).1 (end_unsafe S marks j), fixed)

  pub firsts_ascend : Ascending firsts
  unfolding lowest_nodes
  firsts_ascend = keep_ascends (λ k. eqb (low k) k) (unsafe_nodes marks) (unsafe_ascends marks)

  -- ---- the table

  pub number_unsafe : (a : ℕ) → T (unsafe marks a) → get_or (table_of S marks) a 0 ≡ rank firsts (low a)
  unfolding table_of number_among
  number_unsafe a u =
      get_d_table (number_among S (unsafe_nodes marks) firsts) (length marks) a 0 (unsafe_lt marks a u)
      ∙ cond_true (is_in a (unsafe_nodes marks)) (rank firsts (low a)) 0 ((T-unsafe marks a).1 u)

  pub table_size : length (table_of S marks) ≡ length marks
  unfolding table_of
  table_size = length_table (number_among S (unsafe_nodes marks) firsts) (length marks)

  pub number_safe : (a : ℕ) → T (not (unsafe marks a)) → get_or (table_of S marks) a 0 ≡ 0
  unfolding table_of number_among
  number_safe a s = elim (tried (ltb a (length marks))) [
    | inl h ↦
        get_d_table (number_among S (unsafe_nodes marks) firsts) (length marks) a 0 (ltb→lt a (length marks) h)
        ∙ cond_false (is_in a (unsafe_nodes marks)) (rank firsts (low a)) 0
        (not_T (is_in a (unsafe_nodes marks)) λ i. T_not (unsafe marks a) s ((T-unsafe marks a).0 i))
    | inr h ↦ get_or-eq_default (table_of S marks) 0 (omega (arith, table_size, nltb→le a (length marks) h))
  ]

  -- the lowest node of the component i + 1
  pub first_number : (i : ℕ) → i < length firsts → get_or (table_of S marks) (get_or firsts i 0) 0 ≡ suc i
  first_number i h =
      let a = get_or firsts i 0 in
      let l = (T-first a).0 (at_in firsts i h) in
      number_unsafe a l.is_unsafe ∙ ap (rank firsts) (low_fixed a l) ∙ rank_at firsts firsts_ascend i h

  pub numbers : Numbers S marks (how_many S marks) (table_of S marks)
  unfolding how_many
  numbers =
      record {
        size = table_size;
        safe = number_safe;
        in_range = λ a u. rw (number_unsafe a u) (rank_pos firsts (low a) (low_first a u), rank_few firsts (low a));
        used = λ i h. (get_or firsts i 0, ((T-first (get_or firsts i 0)).0 (at_in firsts i h)).is_unsafe, first_number i h);
        same = λ a b u v. (
          λ e.
              let f : rank firsts (low a) ≡ rank firsts (low b) = sym (number_unsafe a u) ∙ e ∙ number_unsafe b v in
              let g : low a ≡ low b = rank_inj firsts (low a) (low b) (low_first a u) (low_first b v) f in
              joined_trans S marks (subst (Joined S marks a) g (low_joined a u)) (joined_sym S marks (low_joined b v)),
          λ j. number_unsafe a u ∙ ap (rank firsts) (low_same a b j) ∙ sym (number_unsafe b v),
        );
        rising = λ a b l k h.
            rw (number_unsafe a l.is_unsafe, number_unsafe b k.is_unsafe, low_fixed a l, low_fixed b k) (rank_lt firsts a b ((T-first b).1 k) h);
      }

  -- there are no more components than nodes, so that every number fits where the nodes' numbers do
  pub how_many_le : how_many S marks ≤ length marks
  unfolding how_many lowest_nodes unsafe_nodes
  how_many_le =
      let all : List ℕ = table (λ k. k) (length marks) in
      omega (
        arith,
        keep_few (λ a. eqb (low a) a) (keep (unsafe marks) all),
        keep_few (unsafe marks) all,
        length_table (λ (k : ℕ). k) (length marks),
      )

  -- any table that keeps the promise is this one
  module _ (n : ℕ) (t : List ℕ) (p : Numbers S marks n t) where
    low_number : (a : ℕ) → T (unsafe marks a) → get_or t (low a) 0 ≡ get_or t a 0
    low_number a u = let j = low_joined a u in sym ((p.same a (low a) u (end_unsafe S marks j)).1 j)

    ranked : (n ≡ length firsts) × ((a : ℕ) → T (is_in a firsts) → get_or t a 0 ≡ rank firsts a)
    ranked =
        let (e, f) = rank_only (λ a. get_or t a 0) n firsts firsts_ascend 0 (omega arith)
        (λ a b i j. p.rising a b ((T-first a).0 i) ((T-first b).0 j))
        (λ a i. p.in_range a ((T-first a).0 i).is_unsafe)
        onto in
        (omega arith, λ a i. omega (arith, f a i))
      where
        onto : (v : ℕ) → 0 < v → v ≤ n → (a : ℕ) × T (is_in a firsts) × (get_or t a 0 ≡ v)
        onto zero h l = absurd (omega arith)
        onto (suc i) h l = let (a, u, e) = p.used i (omega arith) in (low a, low_first a u, low_number a u ∙ e)

    pub numbers_only : (n ≡ how_many S marks) × (t ≡ table_of S marks)
    unfolding how_many
    numbers_only = (
      ranked.0,
      ext_get_or 0 t (table_of S marks) (p.size ∙ sym table_size) λ a h. elim (tried (unsafe marks a)) [
        | inl u ↦ sym (low_number a u) ∙ ranked.1 (low a) (low_first a u) ∙ sym (number_unsafe a u)
        | inr s ↦ p.safe a s ∙ sym (number_safe a s)
      ],
    )
