-- A box that is drawn is no larger than the largest mesh, and the symbols over what is reached are those of the definition. Assumes nothing.
use mathlib.Core.Path.{◌≡◌, sym, ap, ap₂, ◌∙◌}
use mathlib.Core.List.{List, ◌++◌}
use Prim.Native.Nat.{ℕ, ◌+◌, ◌≤◌, ◌<◌}
use native.Mathlib.Omega.{arith}
use borrow.Author.Tests.{le-leb}
use lib.ListN.{length, get_or, take, drop}
use lib.Seq.{take_at}
use Rattle.mesh.specs.Tools.{table}
use Rattle.mesh.specs.Mesh.{Inside, nodes, place_of}
use Rattle.mesh.specs.Cells.{Map, map_of}
use Rattle.mesh.specs.Fill.{Filled}
use Rattle.mesh.specs.declared.Sizes.{Sizes}
use Rattle.mesh.specs.declared.Place.{Place}
use Rattle.mesh.proofs.Fill.{front_at, front_kept, front}
use Rattle.mesh.proofs.Numbers.{nodes_le}
use Rattle.mesh.proofs.Tables.{length_table, get_d_table}
use Rattle.paths.specs.Offered.{reached}
use Rattle.paths.specs.Entries.{check_ends, reached_check, reached_written, reached_out}
use Rattle.paths.proofs.Reached.{reached_length}
use Rattle.rows.specs.Box.{largest, between, far, Ready}
use Rattle.rows.specs.declared.Between.{Between}
use Rattle.rows.proofs.Box.{far_in}
use Rattle.routes.proofs.Ends.{ends_granted}
use Rattle.text.specs.Text.{pieces}
use Rattle.picture.specs.Picture.{symbol_of, symbol_in, symbols, layer_text, ends_text, picture}
use Rattle.mesh.specs.Answers.{accepted}

pub narrow : {S : Sizes} {drawn : List ℕ} {g : Between} → Ready S drawn g → Inside largest (far g)
narrow {S} {g = g} d = far_in S g d.sized d.held

pub symbols_length : (m : Map) (s e : ℕ) → length (symbols m s e) ≡ nodes m.sizes
unfolding symbols
symbols_length m s e = length_table (symbol_in m s e) (nodes m.sizes)

-- they stand at the front of what is drawn
pub drawn_taken : (m : Map) (s e n : ℕ) (old new : List ℕ) → n ≡ nodes m.sizes → new ≡ symbols m s e ++ drop (nodes m.sizes) old
    → take n new ≡ symbols m s e
drawn_taken m s e n old new is f = ap₂ (λ (i : ℕ) (l : List ℕ). take i l) is f
    ∙ take_at (symbols m s e) (drop (nodes m.sizes) old) (nodes m.sizes) (symbols_length m s e)

-- the parts of a picture
pub picture_is : (m : Map) (s e : ℕ) (u v : Place) (g : Between) (drawn : List ℕ) → u ≡ place_of m.sizes s → v ≡ place_of m.sizes e
    → g ≡ between u v → drawn ≡ symbols m s e → ends_text u v g ++ pieces (layer_text m.sizes drawn g) (g.z.steps + 1) ≡ picture m s e
unfolding picture
picture_is m s e u v g drawn is-u is-v is-g is = rw (is, is-g, is-u, is-v)

module _ (S : Sizes) (cells : List ℕ) (s e : ℕ) (checked : check_ends S cells s e ≡ accepted) where
  pub few : nodes S ≤ 4096
  few = nodes_le S (ends_granted S cells s e checked).sized

  module _ (old : List ℕ) (room : length old ≡ 4096) where
    reached_front : reached_out S cells s e old ≡ reached (map_of S cells) (place_of S s) (place_of S e) ++ drop (nodes S) old
    unfolding reached_check reached_written
    reached_front = rw (checked, le-leb (nodes S) (length old) (omega (arith, few)))

    module _ (k : ℕ) where
      abbrev l : List ℕ
      l = reached (map_of S cells) (place_of S s) (place_of S e)

      reached_at : k < nodes S → get_or (reached_out S cells s e old) k 0 ≡ get_or l k 0
      reached_at h = ap (λ (x : List ℕ). get_or x k 0) reached_front
          ∙ front_at l old (nodes S) (reached_length (map_of S cells) (place_of S s) (place_of S e)) k h

      reached_kept : nodes S ≤ k → get_or (reached_out S cells s e old) k 0 ≡ get_or old k 0
      reached_kept h = ap (λ (x : List ℕ). get_or x k 0) reached_front
          ∙ front_kept l old (nodes S) (reached_length (map_of S cells) (place_of S s) (place_of S e)) k h

    -- one symbol for each node
    pub drawn_front : (seen new : List ℕ) → seen ≡ reached_out S cells s e old → length seen ≡ 4096
        → Filled (λ i. i) (λ i. symbol_of s e i (get_or seen i 0) (get_or cells i 0)) seen new (length cells)
        → new ≡ symbols (map_of S cells) s e ++ drop (nodes S) old
    unfolding symbols
    drawn_front seen new is size filled =
        let whole : length cells ≡ nodes S = (ends_granted S cells s e checked).whole in
        front (table (symbol_in (map_of S cells) s e) (nodes S)) old new (nodes S) (length_table (symbol_in (map_of S cells) s e) (nodes S))
        (omega (arith, few)) (filled.size ∙ size ∙ sym room)
        (λ i l. filled.at i (omega arith)
        ∙ ap (λ (x : ℕ). symbol_of s e i x (get_or cells i 0)) (ap (λ (x : List ℕ). get_or x i 0) is ∙ reached_at i l)
        ∙ sym (get_d_table (symbol_in (map_of S cells) s e) (nodes S) i 0 l))
        (λ i h. filled.kept i (λ j l q. omega arith) ∙ ap (λ (x : List ℕ). get_or x i 0) is ∙ reached_kept i h)
