-- What is written for `reached`: the bytes of the definition, and after them what was there. Assumes nothing.
use mathlib.Core.Path.{◌≡◌, refl, sym, ap, ◌∙◌}
use mathlib.Core.Bool.{Bool, true, false, not, ◌||◌}
use mathlib.Core.List.{List, ◌++◌}
use Prim.Native.Nat.{ℕ, ◌+◌, ◌<◌, ◌≤◌}
use native.Mathlib.Omega.{arith}
use lib.ListN.{length, get_or, set, drop, length-set, get_or-append}
use lib.Seq.{get_or-set_same, get_or-set_other}
use lib.Dec.{T, eqb}
use borrow.Author.Tests.{eqb-true, eqb-false, le-leb}
use Rattle.mesh.specs.Tools.{bit, sum}
use Rattle.mesh.specs.Mesh.{nodes, number, place_of, Inside}
use Rattle.mesh.specs.Cells.{Map, map_of, cell_at, may_end}
use Rattle.mesh.specs.Fill.{Filled}
use Rattle.mesh.proofs.Bits.{bit_le}
use Rattle.mesh.proofs.Fill.{front}
use Rattle.mesh.proofs.Tables.{sum_same}
use Rattle.mesh.proofs.Numbers.{number_lt, number_of, place_of_lem, place_in}
use Rattle.mesh.specs.declared.Sizes.{Sizes}
use Rattle.mesh.specs.declared.Place.{Place}
use Rattle.paths.specs.Differences.{hops}
use Rattle.paths.specs.Paths.{leads}
use Rattle.paths.specs.Offered.{reached_at, reached, reached_count}
use Rattle.paths.specs.Entries.{check_ends, reached_check, reached_answer, reached_written, reached_out}
use Rattle.paths.proofs.Differences.{hops_is}
use Rattle.paths.proofs.Reached.{reached_length, reached_byte}
use Rattle.rows.specs.Box.{between, reach, far, Within}
use Rattle.sweeps.specs.Sweep.{entry, ways_of}
use Rattle.rows.proofs.Box.{reach_in}
use Rattle.sweeps.proofs.Runs.{held, reach_far}
use Rattle.sweeps.proofs.Forward.{behind, boxed, behind_is, from_start, end_entry}
use Rattle.sweeps.specs.declared.Ways.{Ways}
use Rattle.rows.specs.declared.Between.{Between}
use Rattle.trails.specs.Spread.{Bits, Spread}
use Rattle.trails.proofs.Layers.{spread_safe}
use Rattle.trails.proofs.Trails.{summed, far_zero}
use Rattle.std.specs.Prelude.{Ok}
use Rattle.mesh.specs.Answers.{accepted}

module _ (m : Map) (s e : Place) (s_in : Inside m.sizes s) (e_in : Inside m.sizes e) (ends : T (may_end (cell_at m e))) where
  abbrev g : Between
  g = between s e

  -- the end is reached if it is the start, or if a way into it is seen
  pub end_ways : (w : Ways) → w ≡ ways_of (behind m s e s_in e_in) (far g) → leads m e s e ≡ (eqb (hops s e) 0 || not (eqb (w.x + w.y + w.z) 0))
  end_ways w h =
      let k : hops e s ≡ hops s e = hops_is e s ∙ (omega (arith, hops_is s e)) in
      end_entry m s e s_in e_in ends
      ∙ ap (λ (b : Bool). b || entry (behind m s e s_in e_in) (far g)) (far_zero e s ∙ ap (λ (n : ℕ). eqb n 0) k)
      ∙ ap (λ (b : Bool). eqb (hops s e) 0 || b) (summed w (behind m s e s_in e_in) (far g) h)

  module _ (old clear mid : List ℕ) (room : nodes m.sizes ≤ length old) (C : Filled (λ i. i) (λ i. 0) old clear (nodes m.sizes))
      (W : Spread m g (g.z.steps + 1) clear mid) where
    -- a node of the box that is not the end has its byte
    at_node : (t : Place) → Within g t → (reach g t ≡ e → ⊥) → behind m s e s_in e_in t ≡ leads m e s (reach g t)
    at_node t w off = behind_is m s e s_in e_in t w (λ f. off (ap (reach g) f ∙ reach_far s e))

    other : (q : Place) → Inside m.sizes q → (q ≡ e → ⊥) → get_or mid (number m.sizes q) 0 ≡ bit (leads m e s q)
    other q i off = split (leads m e s q) refl
      where
        split : (b : Bool) → leads m e s q ≡ b → get_or mid (number m.sizes q) 0 ≡ bit b
        split true h =
            let (t, w, f) = boxed m s e s_in e_in q (rw h tt) in
            let l : behind m s e s_in e_in t ≡ true = at_node t w (λ k. off (f ∙ k)) ∙ ap (leads m e s) (sym f) ∙ h in
            ap (λ (p : Place). get_or mid (number m.sizes p) 0) f
            ∙ W.at (behind m s e s_in e_in) (from_start m s e s_in e_in ends) t w (omega (arith, w.z_le))
            ∙ ap bit l
        split false h = spread_safe m g clear mid W (behind m s e s_in e_in) (from_start m s e s_in e_in ends) (number m.sizes q) 0
            (λ t w k.
            let f : q ≡ reach g t = sym (place_of_lem m.sizes q i) ∙ ap (place_of m.sizes) k ∙ place_of_lem m.sizes (reach g t) (reach_in m.sizes g t (held m.sizes s e s_in e_in) w) in
            ap bit (at_node t w (λ k. off (f ∙ k)) ∙ ap (leads m e s) (sym f) ∙ h))
            (C.at (number m.sizes q) (number_lt m.sizes q i))

    pub reached_written_lem : (v : ℕ) → v ≡ bit (leads m e s e) → set mid (number m.sizes e) v ≡ reached m s e ++ drop (nodes m.sizes) old
    reached_written_lem v h = front (reached m s e) old (set mid (number m.sizes e) v) (nodes m.sizes)
        (reached_length m s e) room (length-set mid (number m.sizes e) v ∙ W.size ∙ C.size)
        (λ k i. low k i (eqb k (number m.sizes e)) refl)
        (λ k i.
        get_or-set_other mid (number m.sizes e) k v 0 (λ q. omega (arith, number_lt m.sizes e e_in))
        ∙ W.kept k (λ t w l q. omega (arith, number_lt m.sizes (reach g t) (reach_in m.sizes g t (held m.sizes s e s_in e_in) w)))
        ∙ C.kept k (λ j l q. omega arith))
      where
        low : (k : ℕ) → k < nodes m.sizes → (t : Bool) → eqb k (number m.sizes e) ≡ t
            → get_or (set mid (number m.sizes e) v) k 0 ≡ get_or (reached m s e) k 0
        low k i true q =
            let n = number_lt m.sizes e e_in in
            rw (eqb-true k (number m.sizes e) q)
            (get_or-set_same mid (number m.sizes e) v 0 (omega (arith, W.size, C.size))
            ∙ h
            ∙ sym (reached_byte m s e (number m.sizes e) n ∙ ap (λ (p : Place). bit (leads m e s p)) (place_of_lem m.sizes e e_in)))
        low k i false q =
            let off = eqb-false k (number m.sizes e) q in
            get_or-set_other mid (number m.sizes e) k v 0 off
            ∙ ap (λ (j : ℕ). get_or mid j 0) (sym (number_of m.sizes k))
            ∙ other (place_of m.sizes k) (place_in m.sizes k i) (λ f. off (sym (number_of m.sizes k) ∙ ap (number m.sizes) f))
            ∙ sym (reached_byte m s e k i)

-- what is written in front, byte by byte
front_byte : (m : Map) (s e : Place) (old new : List ℕ) → new ≡ reached m s e ++ drop (nodes m.sizes) old
    → (k : ℕ) → k < nodes m.sizes → get_or new k 0 ≡ bit (reached_at m s e k)
front_byte m s e old new f k l =
    ap (λ (l : List ℕ). get_or l k 0) f
    ∙ get_or-append (reached m s e) (drop (nodes m.sizes) old) 0 k (rw (reached_length m s e) l)
    ∙ reached_byte m s e k l

pub front_bits : (m : Map) (s e : Place) (old new : List ℕ) → new ≡ reached m s e ++ drop (nodes m.sizes) old → Bits new (nodes m.sizes)
front_bits m s e old new f k l = rw (front_byte m s e old new f k l) (bit_le (reached_at m s e k))

-- ---- the public call

module _ (S : Sizes) (cells : List ℕ) (s e : ℕ) (old : List ℕ) where
  pub reached_0 : check_ends S cells s e ≡ accepted → nodes S ≤ length old → (n : ℕ) (new : List ℕ) → new ≡ reached (map_of S cells) (place_of S s) (place_of S e) ++ drop (nodes S) old
      → n ≡ sum (nodes S) (λ k. get_or new k 0) → (Ok n ≡ reached_answer S cells s e (length old)) × (new ≡ reached_out S cells s e old)
  unfolding reached_answer reached_check reached_written reached_count
  reached_0 good h n new f c = rw (good, le-leb (nodes S) (length old) h)
      (ap Ok (c ∙ sum_same (nodes S) _ _ (front_byte (map_of S cells) (place_of S s) (place_of S e) old new f)), f)
