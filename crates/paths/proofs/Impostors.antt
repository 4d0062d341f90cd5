-- What the promise of routes rules out, whoever answers: one that refuses everything, one with a constant reply, one that leaves its output
-- untouched; one that refuses because an end is marked, or grants because none is; one that offers a neighbour that leads nowhere; a route
-- of another length; bytes that are always the same. What a call owes on map P is known from the definitions, by computation, and the promise
-- forces whoever keeps it to the same. Assumes nothing.
use mathlib.Core.Path.{◌≡◌, refl, sym, ap, ◌∙◌}
use mathlib.Core.Bool.{not}
use mathlib.Core.List.{List, ◌++◌}
use mathlib.Core.Logic.{◌≢◌}
use Prim.Native.Nat.{ℕ, ◌+◌, ◌/◌, ◌%◌, ◌^◌, ◌≤◌}
use native.Mathlib.Omega.{arith}
use lib.Dec.{T, eqb}
use lib.ListN.{get_or, drop, replicate, get_or-append}
use Rattle.mesh.specs.Mesh.{place_of}
use Rattle.mesh.specs.Steps.{next}
use Rattle.mesh.specs.Cells.{map_of, faulty_cell, may_end, works}
use Rattle.rules.specs.Marks.{mark_at}
use Rattle.mesh.specs.declared.Sizes.{Sizes}
use Rattle.mesh.specs.declared.Place.{Place}
use Rattle.paths.specs.Differences.{preferred, hops}
use Rattle.paths.specs.Entries.{route_out}
use Rattle.paths.specs.Promise.{P, verdict_on, Asked, BothWork, Joined, Begins, VerdictPromise, RoutePromise, ReachedPromise}
use Rattle.paths.proofs.Computed.{computed}
use Rattle.paths.proofs.Cases.{marks_apart}
use Rattle.paths.proofs.Direct.{one_route}
use Rattle.paths.proofs.Promise.{promise}
use Rattle.std.specs.Prelude.{Some}

-- ---- map P

abbrev AskedP : ℕ → ℕ → Type 0
AskedP s e = Asked P.sizes P.cells s e

abbrev JoinedP : ℕ → ℕ → Type 0
JoinedP s e = Joined P.sizes P.cells s e

joined_of : (s e h o : ℕ) → verdict_on s e ≡ (0, h, o) → AskedP s e × JoinedP s e
joined_of s e h o g = (promise P.sizes P.cells s e).verdict.granted.0 (ap (λ (v : ℕ × ℕ × ℕ). v.0) g)

apart_of : (s e : ℕ) → verdict_on s e ≡ (10, 0, 0) → AskedP s e × BothWork P.sizes P.cells s e × (JoinedP s e → ⊥)
apart_of s e g = (promise P.sizes P.cells s e).verdict.no_path.0 (ap (λ (v : ℕ × ℕ × ℕ). v.0) g)

near : AskedP 5 6 × JoinedP 5 6
near = joined_of 5 6 1 1 marks_apart.useless_end.1

far : AskedP 12 24 × JoinedP 12 24
far = joined_of 12 24 4 5 marks_apart.cant_reach_end.2

apart : AskedP 2 17 × BothWork P.sizes P.cells 2 17 × (JoinedP 2 17 → ⊥)
apart = apart_of 2 17 marks_apart.unmarked_pair.1

-- "Offered at node 1: 1": its neighbour in direction 2 works, and leads nowhere
from_1 : verdict_on 1 24 ≡ (0, 7, 1)
unfolding computed
from_1 = refl

-- node 7 is faulty
faulty_7 : BothWork P.sizes P.cells 7 24 → ⊥
unfolding may_end faulty_cell
faulty_7 w = w.0

no_way_up : Begins P.sizes P.cells 1 24 1 2 → ⊥
no_way_up b =
    let bit = (((promise P.sizes P.cells 1 24).verdict.offers (ap (λ (v : ℕ × ℕ × ℕ). v.0) from_1)).1 2 (omega arith)).1 b in
    let z : ◌≡◌ {A = ℕ} 0 1 = rw (ap (λ (v : ℕ × ℕ × ℕ). v.2) from_1) at bit in
    omega arith

way_up : T (preferred (place_of P.sizes 1) (place_of P.sizes 24) 2) × (next P.sizes (place_of P.sizes 1) 2 ≡ Some (place_of P.sizes 6)) × T (works P (place_of P.sizes 6))
unfolding preferred next faulty_cell
way_up = (tt, refl, tt)

-- ---- verdicts

module _ (refusal bad n o : Sizes → List ℕ → ℕ → ℕ → ℕ)
    (keeps : (S : Sizes) (cells : List ℕ) (s e : ℕ) → VerdictPromise S cells s e (refusal S cells s e) (bad S cells s e) (n S cells s e) (o S cells s e)) where
  grants : (s e : ℕ) → AskedP s e × JoinedP s e → refusal P.sizes P.cells s e ≡ 0
  grants s e w = (keeps P.sizes P.cells s e).granted.1 w

  refuses : refusal P.sizes P.cells 2 17 ≡ 10
  refuses = (keeps P.sizes P.cells 2 17).no_path.1 apart

  pub verdict_refusing : ((S : Sizes) (cells : List ℕ) (s e : ℕ) → refusal S cells s e ≢ 0) → ⊥
  verdict_refusing f = f P.sizes P.cells 5 6 (grants 5 6 near)

  -- a constant reply has one refusal
  pub verdict_constant : (c : ℕ) → ((S : Sizes) (cells : List ℕ) (s e : ℕ) → refusal S cells s e ≡ c) → ⊥
  verdict_constant c f = omega (arith, f P.sizes P.cells 5 6, f P.sizes P.cells 2 17, grants 5 6 near, refuses)

  -- "Refusing whenever an end carries a mark (cases 5, 6)": the end, the start
  pub refuses_marked_end : ((S : Sizes) (cells : List ℕ) (s e : ℕ) → T (not (eqb (mark_at (map_of S cells) 0 (place_of S e)) 0))
      → refusal S cells s e ≢ 0) → ⊥
  refuses_marked_end f = f P.sizes P.cells 5 6 (rw marks_apart.useless_end.0 tt) (grants 5 6 near)

  pub refuses_marked_start : ((S : Sizes) (cells : List ℕ) (s e : ℕ) → T (not (eqb (mark_at (map_of S cells) 0 (place_of S s)) 0))
      → refusal S cells s e ≢ 0) → ⊥
  refuses_marked_start f = f P.sizes P.cells 12 24 (rw marks_apart.cant_reach_end.0 tt) (grants 12 24 far)

  -- "Granting whenever neither end carries one (case 7)", whatever the orientation
  pub grants_unmarked : ((S : Sizes) (cells : List ℕ) (s e : ℕ) → Asked S cells s e
      → ((o : ℕ) → o ≤ 7 → (mark_at (map_of S cells) o (place_of S s) ≡ 0) × (mark_at (map_of S cells) o (place_of S e) ≡ 0))
      → refusal S cells s e ≡ 0) → ⊥
  grants_unmarked f = omega (arith, f P.sizes P.cells 2 17 apart.0 marks_apart.unmarked_pair.0, refuses)

  -- a direction offered because the neighbour that way works
  pub offers_neighbours : ((S : Sizes) (cells : List ℕ) (s e j : ℕ) (r : Place) → refusal S cells s e ≡ 0
      → T (preferred (place_of S s) (place_of S e) j) → next S (place_of S s) j ≡ Some r → T (works (map_of S cells) r) → o S cells s e / 2 ^ j % 2 ≡ 1) → ⊥
  offers_neighbours f =
      let g = grants 1 24 (joined_of 1 24 7 1 from_1) in
      let b = f P.sizes P.cells 1 24 2 (place_of P.sizes 6) g way_up.0 way_up.1 way_up.2 in
      no_way_up ((((keeps P.sizes P.cells 1 24).offers g).1 2 (omega arith)).0 b)

-- ---- routes

-- what is lent: numbers that are no node of P
abbrev lent : List ℕ
lent = replicate 46 99

module _ (refusal bad n : Sizes → List ℕ → ℕ → ℕ → List ℕ → ℕ) (out : Sizes → List ℕ → ℕ → ℕ → List ℕ → List ℕ)
    (keeps : (S : Sizes) (cells : List ℕ) (s e : ℕ) (old : List ℕ)
    → RoutePromise S cells s e old (refusal S cells s e old) (bad S cells s e old) (n S cells s e old) (out S cells s e old)) where
  grants_route : refusal P.sizes P.cells 5 6 lent ≡ 0
  unfolding hops
  grants_route = (keeps P.sizes P.cells 5 6 lent).granted.1 (near.0, near.1, omega arith)

  refuses_route : refusal P.sizes P.cells 2 17 lent ≡ 10
  refuses_route = (keeps P.sizes P.cells 2 17 lent).no_path.1 apart

  pub route_refusing : ((S : Sizes) (cells : List ℕ) (s e : ℕ) (old : List ℕ) → refusal S cells s e old ≢ 0) → ⊥
  route_refusing f = f P.sizes P.cells 5 6 lent grants_route

  pub route_constant : (c : ℕ) → ((S : Sizes) (cells : List ℕ) (s e : ℕ) (old : List ℕ) → refusal S cells s e old ≡ c) → ⊥
  route_constant c f = omega (arith, f P.sizes P.cells 5 6 lent, f P.sizes P.cells 2 17 lent, grants_route, refuses_route)

  -- a route of another length
  pub route_other_length : (S : Sizes) (cells : List ℕ) (s e : ℕ) (old : List ℕ) → refusal S cells s e old ≡ 0
      → n S cells s e old ≡ hops (place_of S s) (place_of S e) + 1
  route_other_length S cells s e old g = ((keeps S cells s e old).written g).0

  -- another direction than the lowest: no other list would do
  pub route_other_way : (S : Sizes) (cells : List ℕ) (s e : ℕ) (old : List ℕ) → refusal S cells s e old ≡ 0
      → out S cells s e old ≡ route_out S cells s e old
  route_other_way S cells s e old g =
      let d = (promise S cells s e).route old in
      let q = (keeps S cells s e old).granted.0 g in
      let (c, (l, _, w, p, t)) = (keeps S cells s e old).written g in
      let (c', (l', _, w', p', t')) = d.written (d.granted.1 q) in
      let same = one_route S cells s e q.0.start_in q.0.end_in l l' p t p' t' in
      w ∙ ap (λ (l : List ℕ). l ++ drop (n S cells s e old) old) same ∙ ap (λ (n : ℕ). l' ++ drop n old) (c ∙ sym c') ∙ sym w'

  pub route_untouched : ((S : Sizes) (cells : List ℕ) (s e : ℕ) (old : List ℕ) → out S cells s e old ≡ old) → ⊥
  route_untouched f =
      let (_, (l, _, w, p, _)) = (keeps P.sizes P.cells 5 6 lent).written grants_route in
      let walk = ((promise P.sizes P.cells 5 6).direct near.0 l).0 p in
      let rest : List ℕ = drop (n P.sizes P.cells 5 6 lent) lent in
      let h : get_or (l ++ rest) 0 0 ≡ get_or l 0 0 = get_or-append l rest 0 0 (omega (arith, walk.size)) in
      let z : ◌≡◌ {A = ℕ} 99 5 = ap (λ (l : List ℕ). get_or l 0 0) (sym (f P.sizes P.cells 5 6 lent) ∙ w) ∙ h ∙ walk.first in
      omega arith

-- ---- what is reached

module _ (refusal bad n : Sizes → List ℕ → ℕ → ℕ → List ℕ → ℕ) (out : Sizes → List ℕ → ℕ → ℕ → List ℕ → List ℕ)
    (keeps : (S : Sizes) (cells : List ℕ) (s e : ℕ) (old : List ℕ)
    → ReachedPromise S cells s e old (refusal S cells s e old) (bad S cells s e old) (n S cells s e old) (out S cells s e old)) where
  grants_reached : refusal P.sizes P.cells 2 17 lent ≡ 0
  grants_reached = (keeps P.sizes P.cells 2 17 lent).granted.1 (apart.0, apart.1, omega arith)

  pub reached_refusing : ((S : Sizes) (cells : List ℕ) (s e : ℕ) (old : List ℕ) → refusal S cells s e old ≢ 0) → ⊥
  reached_refusing f = f P.sizes P.cells 2 17 lent grants_reached

  pub reached_constant : (c : ℕ) → ((S : Sizes) (cells : List ℕ) (s e : ℕ) (old : List ℕ) → refusal S cells s e old ≡ c) → ⊥
  reached_constant c f =
      let h = f P.sizes P.cells 7 24 lent ∙ sym (f P.sizes P.cells 2 17 lent) ∙ grants_reached in
      faulty_7 ((keeps P.sizes P.cells 7 24 lent).granted.0 h).1

  pub reached_untouched : ((S : Sizes) (cells : List ℕ) (s e : ℕ) (old : List ℕ) → out S cells s e old ≡ old) → ⊥
  reached_untouched f =
      let one = ((keeps P.sizes P.cells 2 17 lent).spread grants_reached).start_one in
      let z : ◌≡◌ {A = ℕ} 99 1 = ap (λ (l : List ℕ). get_or l 2 0) (sym (f P.sizes P.cells 2 17 lent)) ∙ one in
      omega arith

  -- one that calls every node reached, or only knows that the end is
  pub reached_end_always : ((S : Sizes) (cells : List ℕ) (s e : ℕ) (old : List ℕ) → refusal S cells s e old ≡ 0 → get_or (out S cells s e old) e 0 ≡ 1) → ⊥
  reached_end_always f = apart.2 (((keeps P.sizes P.cells 2 17 lent).end_one grants_reached).0 (f P.sizes P.cells 2 17 lent grants_reached))
