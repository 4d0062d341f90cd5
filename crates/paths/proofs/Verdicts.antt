-- What the checks of a route decide, in the promise's words: a list of checks decides each call's answer; all of them pass exactly if the question
-- is in order, both ends work and, for a route, a path joins them; and the answer names the bad cell of the map. Assumes nothing.
use mathlib.Core.Logic.{◌↔◌}
use mathlib.Core.List.{List, [], ◌∷◌, ◌++◌}
use Prim.Native.Nat.{ℕ, ◌+◌, ◌<◌, ◌≤◌}
use native.Mathlib.Omega.{arith}
use lib.Dec.{leb, ltb}
use Rattle.mesh.specs.Mesh.{nodes, place_of}
use Rattle.mesh.specs.Cells.{Map, map_of, cell_at, may_end}
use Rattle.mesh.specs.Answers.{answer_no, answer_bad, ◌and_then◌, check_map, check_node, check_room, Answer}
use Rattle.mesh.specs.Order.{Check, ◌else◌, AllPass, map_checks, NamesBad}
use Rattle.mesh.proofs.Tests.{T-lt}
use Rattle.mesh.proofs.Numbers.{place_in}
use Rattle.mesh.proofs.Order.{decides_after, decides_both, last_passes, ◌decide◌, decides_then, decides_by, room_decided, map_decided, bad_after, bad_map}
use Rattle.mesh.specs.declared.Sizes.{Sizes}
use Rattle.mesh.specs.declared.Place.{Place}
use Rattle.mesh.specs.declared.Refusal.TheVariants.{NoRoom, BadNumber, FaultyEnd, NoPath}
use Rattle.paths.specs.Differences.{hops}
use Rattle.paths.specs.Paths.{leads}
use Rattle.paths.specs.Entries.{check_end, check_ends, check_path, verdict_check, route_length, route_check, reached_check}
use Rattle.paths.specs.Promise.{Asked, BothWork, Joined, end_checks, path_checks}
use Rattle.paths.proofs.Paths.{path_iff}

module _ (S : Sizes) (cells : List ℕ) (s e : ℕ) where
  abbrev m : Map
  m = map_of S cells

  abbrev from : Place
  from = place_of S s

  abbrev to : Place
  to = place_of S e

  -- the checks of a route, and those of what is reached
  abbrev pub route_checks : ℕ → List Check
  route_checks room = path_checks S cells s e ++ (hops from to + 1 ≤ room) else 3 ∷ []

  abbrev pub reached_checks : ℕ → List Check
  reached_checks room = end_checks S cells s e ++ (nodes S ≤ room) else 3 ∷ []

  -- ---- all pass

  pub ends_pass : AllPass (end_checks S cells s e) ↔ (Asked S cells s e × BothWork S cells s e)
  ends_pass = (
    λ p. let (r, (w, (g, (k, (b, _))))) = p in (record { map = record { sized = r; whole = w; good = g }; start_in = k.0; end_in = k.1 }, b),
    λ w. let (q, b) = w in (q.map.sized, (q.map.whole, (q.map.good, ((q.start_in, q.end_in), (b, tt))))),
  )

  pub path_passes : AllPass (path_checks S cells s e) ↔ (Asked S cells s e × Joined S cells s e)
  path_passes =
      let (f, g) = last_passes (end_checks S cells s e) (Joined S cells s e else 10) in
      (λ p. let (a, j) = f p in ((ends_pass.0 a).0, j), λ w. let (q, j) = w in g (ends_pass.1 (q, (j.1.start_may, j.1.end_may)), j))

  pub route_passes : (room : ℕ) → AllPass (route_checks room) ↔ (Asked S cells s e × Joined S cells s e × (hops from to + 1 ≤ room))
  route_passes room =
      let (f, g) = last_passes (path_checks S cells s e) ((hops from to + 1 ≤ room) else 3) in
      (λ p. let (a, r) = f p in let (q, j) = path_passes.0 a in (q, j, r), λ w. let (q, j, r) = w in g (path_passes.1 (q, j), r))

  pub reached_passes : (room : ℕ) → AllPass (reached_checks room) ↔ (Asked S cells s e × BothWork S cells s e × (nodes S ≤ room))
  reached_passes room =
      let (f, g) = last_passes (end_checks S cells s e) ((nodes S ≤ room) else 3) in
      (λ p. let (a, r) = f p in let (q, b) = ends_pass.0 a in (q, b, r), λ w. let (q, b, r) = w in g (ends_pass.1 (q, b), r))

  -- ---- what each list decides

  pub ends_decided : end_checks S cells s e decide check_ends S cells s e
  unfolding check_ends
  ends_decided =
      let two : Check = ((s < nodes S) × (e < nodes S)) else 5 in
      decides_both (map_checks S cells ++ two ∷ []) (check_map S cells and_then check_node S s and_then check_node S e) (may_end (cell_at m from)) (may_end (cell_at m to)) FaultyEnd
      (decides_both (map_checks S cells) (check_map S cells) (ltb s (nodes S)) (ltb e (nodes S)) BadNumber (map_decided S cells) (T-lt s (nodes S)) (T-lt e (nodes S)))
      (λ t. t, λ t. t)
      (λ t. t, λ t. t)

  pub verdict_decided : path_checks S cells s e decide verdict_check S cells s e
  unfolding verdict_check
  verdict_decided = decides_after (end_checks S cells s e) (Joined S cells s e else 10 ∷ []) (check_ends S cells s e) (check_path m from to) ends_decided λ p.
      let (q, (a, b)) = ends_pass.0 p in
      let joins = path_iff m from to (place_in S s q.start_in) in
      decides_by (leads m to from to) NoPath (λ t. joins.1 (a, b, t), λ j. (joins.0 j).2)

  pub route_decided : (room : ℕ) → route_checks room decide route_check S cells s e room
  unfolding route_check
  route_decided room = decides_then (path_checks S cells s e) ((hops from to + 1 ≤ room) else 3 ∷ []) (verdict_check S cells s e) (check_room (route_length S s e) room)
      verdict_decided (room_decided (route_length S s e) room)

  pub reached_decided : (room : ℕ) → reached_checks room decide reached_check S cells s e room
  unfolding reached_check
  reached_decided room = decides_then (end_checks S cells s e) ((nodes S ≤ room) else 3 ∷ []) (check_ends S cells s e) (check_room (nodes S) room)
      ends_decided (room_decided (nodes S) room)

  -- ---- the bad cell that each answer names

  abbrev Names : Answer → Type 0
  Names a = NamesBad S cells (answer_no a) (answer_bad a)

  ends_names : Names (check_ends S cells s e)
  unfolding check_ends
  ends_names =
      let a = check_map S cells and_then check_node S s in
      let b = a and_then check_node S e in
      let c = b and_then check_end m from in
      bad_after S cells c (may_end (cell_at m to)) FaultyEnd (λ z. omega arith)
      (bad_after S cells b (may_end (cell_at m from)) FaultyEnd (λ z. omega arith)
      (bad_after S cells a (ltb e (nodes S)) BadNumber (λ z. omega arith)
      (bad_after S cells (check_map S cells) (ltb s (nodes S)) BadNumber (λ z. omega arith) (bad_map S cells))))

  pub verdict_names : Names (verdict_check S cells s e)
  unfolding verdict_check
  verdict_names = bad_after S cells (check_ends S cells s e) (leads m to from to) NoPath (λ z. omega arith) ends_names

  pub route_names : (room : ℕ) → Names (route_check S cells s e room)
  unfolding route_check
  route_names room = bad_after S cells (verdict_check S cells s e) (leb (route_length S s e) room) NoRoom (λ z. omega arith) verdict_names

  pub reached_names : (room : ℕ) → Names (reached_check S cells s e room)
  unfolding reached_check
  reached_names room = bad_after S cells (check_ends S cells s e) (leb (nodes S) room) NoRoom (λ z. omega arith) ends_names
