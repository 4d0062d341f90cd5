-- Every value that a call returns fits 32 bits: a bad cell is a node of the map, hops and lengths are small. Assumes nothing.
use mathlib.Core.Path.{◌≡◌, refl, subst}
use mathlib.Core.Bool.{Bool, true, false, cond, ◌&&◌}
use mathlib.Core.List.{List}
use Prim.Native.Nat.{ℕ, zero, suc, ◌*◌, ◌≤◌}
use native.Mathlib.Nat.{mul-suc}
use native.Mathlib.Omega.{arith}
use borrow.Author.Tests.{ltb-true, eqb-true}
use lib.Dec.{ltb, leb, eqb}
use lib.ListN.{length, length-take}
use Rattle.mesh.specs.Tools.{between, bit, sum, count}
use Rattle.mesh.specs.Mesh.{InRange, Inside, in_range, inside, nodes, number, place_of}
use Rattle.mesh.specs.Cells.{map_of, cell_at, may_end, bad_cell, first_bad, state_length}
use Rattle.rules.specs.Marks.{is_word, marks_of}
use Rattle.mesh.specs.Answers.{refusal_bad, answer_bad, ◌and_then◌, unless, answered, answer_value, check_sizes, check_cells, check_map, check_orientation, check_node, check_place, check_direction, check_room, number_answer, place_answer, step_answer, accepted, Answer}
use Rattle.mesh.proofs.Answers.{split, ok_of, sizes_granted, place_granted, node_granted, map_granted}
use Rattle.mesh.proofs.Granted.{place_inside, step_inside}
use Rattle.mesh.proofs.Bits.{bit_le}
use Rattle.mesh.proofs.Numbers.{nodes_le, number_lt, place_in}
use Rattle.mesh.specs.declared.Sizes.{Sizes}
use Rattle.mesh.specs.declared.Place.{Place}
use Rattle.mesh.specs.declared.Refusal.{Refusal}
use Rattle.mesh.specs.declared.Refusal.TheVariants.{BadSizes, BadLength, NoRoom, BadCell, BadNumber, Unsound, NoPair, NotHeld, FaultyEnd, NoPath, BadFile}
use Rattle.rules.specs.Entry.{marks_answer}
use Rattle.touching.specs.Components.{how_many}
use Rattle.touching.specs.Entry.{components_check, components_answer}
use Rattle.paths.specs.Differences.{hops}
use Rattle.paths.specs.Paths.{leads}
use Rattle.paths.specs.Offered.{offered, reached_at, reached_count}
use Rattle.paths.specs.Entries.{grant, check_end, check_ends, verdict_check, verdict_answer, route_length, route_check, route_answer, reached_check, reached_answer}
use Rattle.paths.proofs.Differences.{hops_le}
use Rattle.format.specs.Format.{trailer_length, file_limit, distance, trailer_at, has_mark, sizes_in, distance_in, cells_in}
use Rattle.format.specs.Entry.{check_frame, check_trailer, read_check, read_answer, write_check, write_answer}
use Rattle.talk.specs.State.{map_in, pair, says}
use Rattle.talk.specs.Sound.{sound, within}
use Rattle.talk.specs.Hear.{news, outstanding_on, outstanding}
use Rattle.talk.specs.Entries.{check_state, fresh_answer, sound_answer, outstanding_answer, check_word, hear_answer}
use Rattle.answers.specs.Fields.{Fits, PlaceFits, PlacedFits, NumberedFits, VerdictFits, MapFits}
use Rattle.std.specs.Prelude.{Ok, Err, Some}

-- a check passes on the bad cell of the first refusal
pub bad_then : (n : ℕ) (a b : Answer) → answer_bad a ≤ n → (a ≡ accepted → answer_bad b ≤ n) → answer_bad (a and_then b) ≤ n
bad_then n (Ok _) b h k = k refl
bad_then n (Err r) b h k = h

-- and but for cells no check has one
pub bad_unless : (n : ℕ) (t : Bool) (r : Refusal) → refusal_bad r ≡ 0 → answer_bad (unless t r) ≤ n
bad_unless n true r e = omega arith
bad_unless n false r e = rw e (omega arith)

pub bad_and : (a : Answer) (t : Bool) (r : Refusal) → refusal_bad r ≡ 0 → answer_bad a ≤ 65536 → answer_bad (a and_then unless t r) ≤ 65536
bad_and a t r e h = bad_then 65536 a (unless t r) h (λ _. bad_unless 65536 t r e)

pub bad_cells : (S : Sizes) (cells : List ℕ) (n : ℕ) → length cells ≤ n → answer_bad (check_cells S cells) ≤ n
bad_cells S cells n h = go (ltb (first_bad (bad_cell S) cells) (length cells)) refl
  where
    go : (t : Bool) → ltb (first_bad (bad_cell S) cells) (length cells) ≡ t → answer_bad (cond t (Err (BadCell (first_bad (bad_cell S) cells))) accepted) ≤ n
    go true e = let l = ltb-true (first_bad (bad_cell S) cells) (length cells) e in omega arith
    go false e = omega arith

pub bad_map : (S : Sizes) (cells : List ℕ) → answer_bad (check_map S cells) ≤ 65536
unfolding check_map
bad_map S cells =
    let same = eqb (length cells) (nodes S) in
    bad_then 65536 (check_sizes S and_then unless same BadLength) (check_cells S cells)
    (bad_and (check_sizes S) same BadLength refl (bad_unless 65536 (in_range S) BadSizes refl))
    (λ e.
    let (s, l) = split (check_sizes S) (unless same BadLength) e in
    let f = eqb-true (length cells) (nodes S) (ok_of same BadLength l) in
    bad_cells S cells 65536 (omega (arith, nodes_le S (sizes_granted S s))))

-- a place in the mesh is small
inside_fits : (S : Sizes) (p : Place) → InRange S × Inside S p → PlaceFits p
inside_fits S p (r, i) = (omega arith, omega arith, omega arith)

-- a number that is granted is small, a refusal's bad cell too
pub numbered_fits : (a : Answer) (n : ℕ) → answer_bad a ≤ 65536 → (a ≡ accepted → n ≤ 65536) → NumberedFits (answered a n)
numbered_fits (Ok _) n h k = let e = k refl in (omega arith, omega arith)
numbered_fits (Err r) n h k = (omega arith, omega arith)

-- a sum of small numbers is small
sum_le : (n b : ℕ) (f : ℕ → ℕ) → ((k : ℕ) → f k ≤ b) → sum n f ≤ b * n
unfolding sum
sum_le zero b f h = omega arith
sum_le (suc n) b f h = omega (arith, mul-suc b n, h n, sum_le n b f h)

-- ---- the calls on places

pub number_fits : (S : Sizes) (p : Place) → NumberedFits (number_answer S p)
unfolding number_answer
number_fits S p =
    numbered_fits (check_sizes S and_then check_place S p) (number S p)
    (bad_and (check_sizes S) (inside S p) BadNumber refl (bad_unless 65536 (in_range S) BadSizes refl))
    (λ e.
    let (s, i) = split (check_sizes S) (check_place S p) e in
    omega (arith, number_lt S p (place_granted S p i), nodes_le S (sizes_granted S s)))

pub place_fits : (S : Sizes) (k : ℕ) → PlacedFits (place_answer S k)
place_fits S k p e = inside_fits S p (place_inside S k p e)

pub step_fits : (S : Sizes) (p : Place) (j : ℕ) (q : Place) → step_answer S p j ≡ Ok (Some q) → PlaceFits q
step_fits S p j q e = inside_fits S q (step_inside S p j q e)

-- ---- the calls on maps

bad_trailer : (file : List ℕ) → answer_bad (check_trailer file) ≤ 65536
unfolding check_trailer check_frame
bad_trailer file =
    let S = sizes_in file in
    let long = between trailer_length file_limit (length file) in
    let marked = has_mark file && eqb (trailer_at file 3) 0 in
    let near = eqb (distance_in file) (distance S) && leb (distance S) (length file) in
    bad_and (unless long BadFile and_then unless marked BadFile and_then check_sizes S) near BadFile refl
    (bad_and (unless long BadFile and_then unless marked BadFile) (in_range S) BadSizes refl
    (bad_and (unless long BadFile) marked BadFile refl (bad_unless 65536 long BadFile refl)))

bad_marks : (S : Sizes) (cells : List ℕ) (o room : ℕ) → answer_bad (marks_answer S cells o room) ≤ 65536
unfolding marks_answer
bad_marks S cells o room =
    bad_and (check_map S cells and_then check_orientation o) (leb (nodes S) room) NoRoom refl
    (bad_and (check_map S cells) (leb o 7) BadNumber refl (bad_map S cells))

pub marks_fits : (S : Sizes) (cells : List ℕ) (o room : ℕ) → Fits (answer_bad (marks_answer S cells o room))
marks_fits S cells o room = let h = bad_marks S cells o room in omega arith

pub components_fits : (S : Sizes) (cells : List ℕ) (o table_room row_room : ℕ)
    → answer_value (components_check S cells o table_room row_room) (how_many S (marks_of (map_of S cells) o)) ≤ 1024
    → NumberedFits (components_answer S cells o table_room row_room)
unfolding components_answer components_check
components_fits S cells o table_room row_room few =
    let many = how_many S (marks_of (map_of S cells) o) in
    let c0 = check_map S cells and_then check_orientation o in
    numbered_fits (c0 and_then check_room (nodes S) table_room and_then check_room many row_room) many
    (bad_then 65536 (c0 and_then check_room (nodes S) table_room) (check_room many row_room)
    (bad_then 65536 c0 (check_room (nodes S) table_room)
    (bad_then 65536 (check_map S cells) (check_orientation o) (bad_map S cells) (λ _. bad_unless 65536 (leb o 7) BadNumber refl))
    (λ _. bad_unless 65536 (leb (nodes S) table_room) NoRoom refl))
    (λ _. bad_unless 65536 (leb many row_room) NoRoom refl))
    (λ e. let k : many ≤ 1024 = subst (λ (a : Answer). answer_value a many ≤ 1024) e few in omega arith)

pub write_fits : (S : Sizes) (cells : List ℕ) (room : ℕ) → NumberedFits (write_answer S cells room)
unfolding write_answer write_check
write_fits S cells room =
    let need = distance S in
    numbered_fits (check_map S cells and_then check_room need room) need
    (bad_and (check_map S cells) (leb need room) NoRoom refl (bad_map S cells))
    (λ e. let c = map_granted S cells (split (check_map S cells) (check_room need room) e).0 in omega (arith, nodes_le S c.sized))

pub read_fits : (file : List ℕ) (room : ℕ) → MapFits (read_answer file room)
unfolding read_answer read_check check_trailer check_frame cells_in
read_fits file room =
    let S = sizes_in file in
    let far = unless (eqb (distance_in file) (distance S) && leb (distance S) (length file)) BadFile in
    let frame = check_frame file in
    let fits = check_room (nodes S) room in
    let sized : check_trailer file ≡ accepted → InRange S = λ e. sizes_granted S (split frame (check_sizes S) (split (frame and_then check_sizes S) far e).0).1 in
    let short : InRange S → length (cells_in file) ≤ 65536 = λ r. simp length-take (omega (arith, nodes_le S r)) in
    made (check_trailer file and_then fits and_then check_cells S (cells_in file)) S
    (bad_then 65536 (check_trailer file and_then fits) (check_cells S (cells_in file))
    (bad_and (check_trailer file) (leb (nodes S) room) NoRoom refl (bad_trailer file))
    (λ e. bad_cells S (cells_in file) 65536 (short (sized (split (check_trailer file) fits e).0))))
    (λ e. sized (split (check_trailer file) fits (split (check_trailer file and_then fits) (check_cells S (cells_in file)) e).0).0)
  where
    made : (a : Answer) (S : Sizes) → answer_bad a ≤ 65536 → (a ≡ accepted → InRange S) → MapFits (answered a S)
    made (Ok _) S h k = let i = k refl in (omega arith, omega (arith, i.w_hi), omega (arith, i.h_hi), omega (arith, i.d_hi))
    made (Err r) S h k = (omega arith, omega arith, omega arith, omega arith)

-- the bad cell that a check of two ends may name fits, and where the ends are granted the hops between them do
ends_small : (S : Sizes) (cells : List ℕ) (s e : ℕ)
    → (answer_bad (check_ends S cells s e) ≤ 65536)
    × (check_ends S cells s e ≡ accepted → InRange S × (hops (place_of S s) (place_of S e) ≤ 45))
unfolding check_ends
ends_small S cells s e =
    let m = map_of S cells in
    let p = place_of S s in
    let q = place_of S e in
    let c0 = check_map S cells in
    let c1 = c0 and_then check_node S s in
    let c2 = c1 and_then check_node S e in
    let c3 = c2 and_then check_end m p in (
      bad_and c3 (may_end (cell_at m q)) FaultyEnd refl
          (bad_and c2 (may_end (cell_at m p)) FaultyEnd refl
          (bad_and c1 (ltb e (nodes S)) BadNumber refl (bad_and c0 (ltb s (nodes S)) BadNumber refl (bad_map S cells)))),
      λ g.
          let (g1, ke) = split c1 (check_node S e) (split c2 (check_end m p) (split c3 (check_end m q) g).0).0 in
          let (g0, ks) = split c0 (check_node S s) g1 in
          let sized = (map_granted S cells g0).sized in
          (sized, hops_le S p q sized (place_in S s (node_granted S s ks)) (place_in S e (node_granted S e ke))),
    )

-- a verdict's bad cell fits, and where it is granted the hops do
verdict_small : (S : Sizes) (cells : List ℕ) (s e : ℕ)
    → (answer_bad (verdict_check S cells s e) ≤ 65536) × (verdict_check S cells s e ≡ accepted → hops (place_of S s) (place_of S e) ≤ 45)
unfolding verdict_check
verdict_small S cells s e =
    let (b, k) = ends_small S cells s e in
    let m = map_of S cells in
    let found = leads m (place_of S e) (place_of S s) (place_of S e) in
    (bad_and (check_ends S cells s e) found NoPath refl b, λ g. (k (split (check_ends S cells s e) (unless found NoPath) g).0).1)

pub verdict_fits : (S : Sizes) (cells : List ℕ) (s e : ℕ) → VerdictFits (verdict_answer S cells s e)
unfolding verdict_answer
verdict_fits S cells s e =
    let (b, k) = verdict_small S cells s e in
    made (verdict_check S cells s e) (hops (place_of S s) (place_of S e)) (offered (map_of S cells) (place_of S e) (place_of S s)) b (λ g. omega (arith, k g))
  where
    made : (a : Answer) (h o : ℕ) → answer_bad a ≤ 65536 → (a ≡ accepted → h ≤ 65536) → VerdictFits (answered a (grant h o))
    made (Ok _) h o b k = let e = k refl in (omega arith, omega arith)
    made (Err r) h o b k = (omega arith, omega arith)

pub route_fits : (S : Sizes) (cells : List ℕ) (s e room : ℕ) → NumberedFits (route_answer S cells s e room)
unfolding route_answer route_check
route_fits S cells s e room =
    let (b, k) = verdict_small S cells s e in
    let need = route_length S s e in
    numbered_fits (verdict_check S cells s e and_then check_room need room) need
    (bad_and (verdict_check S cells s e) (leb need room) NoRoom refl b)
    (λ g. omega (arith, k (split (verdict_check S cells s e) (check_room need room) g).0))

pub reached_fits : (S : Sizes) (cells : List ℕ) (s e room : ℕ) → NumberedFits (reached_answer S cells s e room)
unfolding reached_answer reached_check reached_count
reached_fits S cells s e room =
    let (b, k) = ends_small S cells s e in
    let m = map_of S cells in
    let p = place_of S s in
    let q = place_of S e in
    numbered_fits (check_ends S cells s e and_then check_room (nodes S) room) (reached_count m p q)
    (bad_and (check_ends S cells s e) (leb (nodes S) room) NoRoom refl b)
    (λ g.
    let sized = (k (split (check_ends S cells s e) (check_room (nodes S) room) g).0).0 in
    omega (arith, sum_le (nodes S) 1 (λ i. bit (reached_at m p q i)) (λ i. bit_le (reached_at m p q i)), nodes_le S sized))

-- ---- the calls on a state

bad_state : (S : Sizes) (long : ℕ) → answer_bad (check_state S long) ≤ 65536
unfolding check_state
bad_state S long = bad_and (check_sizes S) (eqb long (state_length S)) BadLength refl (bad_unless 65536 (in_range S) BadSizes refl)

bad_fresh : (S : Sizes) (cells : List ℕ) (o room : ℕ) → answer_bad (fresh_answer S cells o room) ≤ 65536
unfolding fresh_answer
bad_fresh S cells o room =
    bad_and (check_state S room and_then check_map S cells) (leb o 7) BadNumber refl
    (bad_then 65536 (check_state S room) (check_map S cells) (bad_state S room) (λ _. bad_map S cells))

pub fresh_fits : (S : Sizes) (cells : List ℕ) (o room : ℕ) → Fits (answer_bad (fresh_answer S cells o room))
fresh_fits S cells o room = let h = bad_fresh S cells o room in omega arith

bad_sound : (S : Sizes) (o : ℕ) (s : List ℕ) → answer_bad (sound_answer S o s) ≤ 65536
unfolding sound_answer
bad_sound S o s =
    bad_and (check_state S (length s) and_then check_orientation o) (sound S o s) Unsound refl
    (bad_and (check_state S (length s)) (leb o 7) BadNumber refl (bad_state S (length s)))

pub sound_fits : (S : Sizes) (o : ℕ) (s : List ℕ) → Fits (answer_bad (sound_answer S o s))
sound_fits S o s = let h = bad_sound S o s in omega arith

bad_hear : (S : Sizes) (o k j w : ℕ) (s : List ℕ) → answer_bad (hear_answer S o k j w s) ≤ 65536
unfolding hear_answer
bad_hear S o k j w s =
    let c1 = check_state S (length s) in
    let c2 = c1 and_then check_orientation o in
    let c3 = c2 and_then check_node S k in
    let c4 = c3 and_then check_direction j in
    let c5 = c4 and_then check_word w in
    let c6 = c5 and_then unless (sound S o s) Unsound in
    let c7 = c6 and_then unless (pair (map_in S s) k j) NoPair in
    bad_and c7 (within w (says S s k j)) NotHeld refl
    (bad_and c6 (pair (map_in S s) k j) NoPair refl
    (bad_and c5 (sound S o s) Unsound refl
    (bad_and c4 (is_word w) BadNumber refl
    (bad_and c3 (leb j 5) BadNumber refl
    (bad_and c2 (ltb k (nodes S)) BadNumber refl (bad_and c1 (leb o 7) BadNumber refl (bad_state S (length s))))))))

pub hear_fits : (S : Sizes) (o k j w : ℕ) (s : List ℕ) → Fits (answer_bad (hear_answer S o k j w s))
hear_fits S o k j w s = let h = bad_hear S o k j w s in omega arith

pub outstanding_fits : (S : Sizes) (o : ℕ) (s : List ℕ) → NumberedFits (outstanding_answer S o s)
unfolding outstanding_answer outstanding outstanding_on sound_answer check_state
outstanding_fits S o s =
    numbered_fits (sound_answer S o s) (outstanding S s) (bad_sound S o s) (λ e.
    let c1 = check_state S (length s) in
    let c2 = c1 and_then check_orientation o in
    let sized = sizes_granted S (split (check_sizes S) (unless (eqb (length s) (state_length S)) BadLength) (split c1 (check_orientation o) (split c2 (unless (sound S o s) Unsound) e).0).0).0 in
    let six : (k : ℕ) → count 6 (news (map_in S s) s k) ≤ 6 = λ k. omega (arith, sum_le 6 1 (λ j. bit (news (map_in S s) s k j)) (λ j. bit_le (news (map_in S s) s k j))) in
    omega (arith, sum_le (nodes S) 6 (λ k. count 6 (news (map_in S s) s k)) six, nodes_le S sized))
