-- What a verdict tells: of a transfer that is granted, that its route is written; of one without a path, that its ends may be used.
-- Assumes nothing.
use mathlib.Core.Path.{◌≡◌, refl, sym, ap, ◌∙◌, subst}
use mathlib.Core.Bool.{Bool, true, false, cond}
use mathlib.Core.List.{List, [], ◌∷◌, ◌++◌}
use Prim.Native.Nat.{ℕ, ◌+◌, ◌≤◌, ◌<◌}
use native.Mathlib.Omega.{arith}
use borrow.Author.Tests.{le-leb}
use lib.Dec.{ltb, eqb}
use lib.ListN.{length, get_or, drop, get_or-append}
use Rattle.mesh.specs.Mesh.{in_range, nodes, place_of}
use Rattle.mesh.specs.Cells.{map_of, cell_at, may_end, bad_cell, first_bad}
use Rattle.mesh.specs.Answers.{◌and_then◌, unless, check_cells, check_map, answered, accepted, Answer}
use Rattle.mesh.specs.declared.Sizes.{Sizes}
use Rattle.mesh.specs.declared.Refusal.{Refusal}
use Rattle.mesh.specs.declared.Refusal.TheVariants.{BadSizes, BadLength, BadCell, BadNumber, FaultyEnd, NoPath}
use Rattle.mesh.proofs.Answers.{split, ok_of}
use Rattle.mesh.proofs.Tests.{holds_true}
use Rattle.paths.specs.Differences.{hops}
use Rattle.paths.specs.Paths.{leads}
use Rattle.paths.specs.Offered.{offered, route}
use Rattle.paths.specs.declared.Grant.{Grant}
use Rattle.paths.specs.Entries.{grant, check_ends, check_path, verdict_check, verdict_answer, route_check, route_written, route_out}
use Rattle.paths.proofs.Differences.{hops_le}
use Rattle.paths.proofs.Offered.{route_length_lem}
use Rattle.routes.proofs.Ends.{ends_granted}
use Rattle.text.specs.Text.{ascii, told}
use Rattle.text.proofs.Adding.{pieces_same}
use Rattle.transfers.specs.Transfer.{no_path, granted_text, verdict_text, transfer_text}
use Rattle.std.specs.Prelude.{Ok, Err, Result}

-- ---- no check but the last refuses for want of a path

abbrev Other : Answer → Type 0
Other a = (r : Refusal) → a ≡ Err r → no_path r ≡ false

other_done : Other accepted
other_done r e = let z : ◌≡◌ {A = ℕ} 0 1 = cc in absurd (omega arith)

other_refused : (x : Refusal) → no_path x ≡ false → Other (Err x)
other_refused x h r e = let q : x ≡ r = cc in subst (λ (y : Refusal). no_path y ≡ false) q h

other_then : (a b : Answer) → Other a → Other b → Other (a and_then b)
other_then (Ok _) b p q = q
other_then (Err r) b p q = p

other_unless : (t : Bool) (x : Refusal) → no_path x ≡ false → Other (unless t x)
other_unless true x h = other_done
other_unless false x h = other_refused x h

other_cond : (t : Bool) (x : Refusal) → no_path x ≡ false → Other (cond t (Err x) accepted)
other_cond true x h = other_refused x h
other_cond false x h = other_done

module _ (S : Sizes) (cells : List ℕ) where
  other_map : Other (check_map S cells)
  unfolding check_map
  other_map =
      other_then (unless (in_range S) BadSizes and_then unless (eqb (length cells) (nodes S)) BadLength) (check_cells S cells)
      (other_then (unless (in_range S) BadSizes) (unless (eqb (length cells) (nodes S)) BadLength)
      (other_unless (in_range S) BadSizes refl) (other_unless (eqb (length cells) (nodes S)) BadLength refl))
      (other_cond (ltb (first_bad (bad_cell S) cells) (length cells)) (BadCell (first_bad (bad_cell S) cells)) refl)

  module _ (s e : ℕ) where
    other_ends : Other (check_ends S cells s e)
    unfolding check_ends
    other_ends =
        other_then _ (unless (may_end (cell_at (map_of S cells) (place_of S e))) FaultyEnd)
        (other_then _ (unless (may_end (cell_at (map_of S cells) (place_of S s))) FaultyEnd)
        (other_then _ (unless (ltb e (nodes S)) BadNumber)
        (other_then (check_map S cells) (unless (ltb s (nodes S)) BadNumber) other_map (other_unless (ltb s (nodes S)) BadNumber refl))
        (other_unless (ltb e (nodes S)) BadNumber refl))
        (other_unless (may_end (cell_at (map_of S cells) (place_of S s))) FaultyEnd refl))
        (other_unless (may_end (cell_at (map_of S cells) (place_of S e))) FaultyEnd refl)

    -- where there is no path, the ends have been checked
    pub no_path_ends : (r : Refusal) → verdict_answer S cells s e ≡ Err r → no_path r ≡ true → check_ends S cells s e ≡ accepted
    unfolding verdict_answer verdict_check
    no_path_ends r is h = go (check_ends S cells s e) other_ends is
      where
        go : (a : Answer) → Other a
            → answered (a and_then check_path (map_of S cells) (place_of S s) (place_of S e)) (grant (hops (place_of S s) (place_of S e))
            (offered (map_of S cells) (place_of S e) (place_of S s))) ≡ Err r → a ≡ accepted
        go (Ok _) o k = refl
        go (Err x) o k =
            let q : x ≡ r = cc in
            let z : ◌≡◌ {A = Bool} true false = sym h ∙ subst (λ (y : Refusal). no_path y ≡ false) q (o x refl) in
            let n : ◌≡◌ {A = ℕ} 0 1 = cc in
            absurd (omega arith)

    -- ---- a transfer that is granted

    pub granted_says : (g : Grant) → verdict_answer S cells s e ≡ Ok g → (verdict_check S cells s e ≡ accepted) × (g.hops ≡ hops (place_of S s) (place_of S e))
    unfolding verdict_answer
    granted_says g is = go (verdict_check S cells s e) is
      where
        go : (a : Answer) → answered a (grant (hops (place_of S s) (place_of S e)) (offered (map_of S cells) (place_of S e) (place_of S s))) ≡ Ok g
            → (a ≡ accepted) × (g.hops ≡ hops (place_of S s) (place_of S e))
        go (Ok _) k =
            let q : grant (hops (place_of S s) (place_of S e)) (offered (map_of S cells) (place_of S e) (place_of S s)) ≡ g = cc in
            (refl, ap (λ (g : Grant). g.hops) (sym q))
        go (Err x) k = let z : ◌≡◌ {A = ℕ} 0 1 = cc in absurd (omega arith)

    module _ (checked : verdict_check S cells s e ≡ accepted) where
      both : (check_ends S cells s e ≡ accepted) × (leads (map_of S cells) (place_of S e) (place_of S s) (place_of S e) ≡ true)
      unfolding verdict_check
      both =
          let l = leads (map_of S cells) (place_of S e) (place_of S s) (place_of S e) in
          let (a, b) = split (check_ends S cells s e) (unless l NoPath) checked in
          (a, ok_of l NoPath b)

      pub short : hops (place_of S s) (place_of S e) ≤ 45
      short = let k = ends_granted S cells s e both.0 in hops_le S (place_of S s) (place_of S e) k.sized k.start_in k.end_in

      route_front : (old : List ℕ) → length old ≡ 46
          → route_out S cells s e old ≡ route (map_of S cells) (place_of S e) (place_of S s) ++ drop (hops (place_of S s) (place_of S e) + 1) old
      unfolding route_check route_written
      route_front old room = rw (checked, le-leb (hops (place_of S s) (place_of S e) + 1) (length old) (omega (arith, short)))

      -- the nodes that are written are those of the route
      pub route_at : (old : List ℕ) → length old ≡ 46 → (i : ℕ) → i < hops (place_of S s) (place_of S e) + 1
          → get_or (route_out S cells s e old) i 0 ≡ get_or (route (map_of S cells) (place_of S e) (place_of S s)) i 0
      route_at old room i h =
          let m = map_of S cells in
          let long : length (route m (place_of S e) (place_of S s)) ≡ hops (place_of S s) (place_of S e) + 1
          = route_length_lem m (place_of S e) (place_of S s) (ends_granted S cells s e both.0).start_in ((holds_true _).1 both.1) in
          ap (λ (l : List ℕ). get_or l i 0) (route_front old room)
          ∙ get_or-append (route m (place_of S e) (place_of S s)) (drop (hops (place_of S s) (place_of S e) + 1) old) 0 i (omega arith)

-- the text for a transfer that is granted, from the same nodes
pub granted_same : (h : ℕ) (l k : List ℕ) → ((i : ℕ) → i < h + 1 → get_or l i 0 ≡ get_or k i 0) → granted_text h l ≡ granted_text h k
unfolding granted_text
granted_same h l k same =
    ap (λ (t : List ℕ). told (ascii ": granted, hops %, route") (h ∷ []) ++ t ++ ascii "\n")
    (pieces_same (λ i. told (ascii " %") (get_or l i 0 ∷ [])) (λ i. told (ascii " %") (get_or k i 0 ∷ [])) (h + 1)
    (λ i b. ap (λ (n : ℕ). told (ascii " %") (n ∷ [])) (same i b)))

-- the text by the verdict that was given
pub judged_text : (S : Sizes) (cells : List ℕ) (k s e : ℕ) (v : Result Grant Refusal) → verdict_answer S cells s e ≡ v
    → told (ascii "line %: % to %") (k ∷ s ∷ e ∷ []) ++ verdict_text S cells s e v ≡ transfer_text S cells k s e
judged_text S cells k s e v is = ap (λ (x : Result Grant Refusal). told (ascii "line %: % to %") (k ∷ s ∷ e ∷ []) ++ verdict_text S cells s e x) (sym is)
