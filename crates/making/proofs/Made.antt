-- The fresh state, as the code makes it: node by node, each from the cells of its neighbours. Assumes nothing.
use mathlib.Core.Path.{◌≡◌, refl, sym, ap, ◌∙◌}
use mathlib.Core.Bool.{Bool, true, false, cond}
use mathlib.Core.List.{List}
use Prim.Native.Nat.{ℕ, zero, suc, ◌+◌, ◌*◌, ◌/◌, ◌%◌, ◌<◌, ◌≤◌}
use native.Mathlib.Omega.{arith}
use borrow.Author.Count.{below_more}
use borrow.Author.Tests.{ltb-false}
use lib.Dec.{T}
use lib.ListN.{length, get_or, set, length-set}
use lib.Seq.{get_or-set_same, get_or-set_other, ext_get_or}
use Rattle.std.specs.Int.{w64, to_le_bytes}
use Rattle.std.proofs.Common.{◌++◌, take}
use Rattle.std.proofs.lemmas.List.{get_or_append_left, get_or-append_right, get_or-take, length-take-le}
use Rattle.mesh.specs.Tools.{table}
use Rattle.mesh.specs.Mesh.{nodes, number, place_of, Inside}
use Rattle.mesh.specs.Steps.{next}
use Rattle.mesh.specs.Cells.{Map, map_of, faulty_cell, cell_limit, bad_cell, wall, state_length}
use Rattle.mesh.specs.Answers.{check_map, accepted}
use Rattle.rules.specs.Marks.{is_word, rule_byte, read_by, read_at}
use Rattle.mesh.specs.declared.Sizes.{Sizes}
use Rattle.mesh.specs.declared.Place.{Place}
use Rattle.mesh.proofs.Tests.{cond_true}
use Rattle.mesh.proofs.Tables.{length_table, get_d_table}
use Rattle.mesh.proofs.Numbers.{number_of, number_lt}
use Rattle.mesh.proofs.Answers.{map_granted}
use Rattle.talk.specs.State.{own, heard}
use Rattle.talk.specs.Sound.{faulty_hears, fresh_heard, fresh_own, fresh_byte, fresh}
use Rattle.states.specs.Six.{Bytes, six, byte_at, ones, is_own, is_heard, quick_rule, first_byte, around}
use Rattle.making.specs.Making.{Put, Fresh}
use Rattle.talk.proofs.Rule.{ruled_same}
use Rattle.states.proofs.Packed.{six_ones}
use Rattle.states.proofs.Beside.{bytes_six}
use Rattle.states.proofs.Around.{around_read}
use Rattle.states.proofs.Heard.{faulty_byte, quick_is}
use Rattle.std.specs.Prelude.{Some, None, Option}

-- ---- a node's seven bytes

-- the bytes of a number, the lowest first
le_byte : (n j : ℕ) → j < 6 → get_or (take 6 (to_le_bytes w64 n)) j 0 ≡ byte_at n j
le_byte n zero h = refl
le_byte n (suc zero) h = refl
le_byte n (suc (suc zero)) h = omega arith
le_byte n (suc (suc (suc zero))) h = omega arith
le_byte n (suc (suc (suc (suc zero)))) h = omega arith
le_byte n (suc (suc (suc (suc (suc zero))))) h = omega arith
le_byte n (suc (suc (suc (suc (suc (suc j)))))) h = absurd (omega arith)

-- the own byte, and after it the six of a number
pub put_seven : (s bytes rest : List ℕ) (k o n : ℕ) → 7 * k + 7 ≤ length s → bytes ≡ take 6 (to_le_bytes w64 n)
    → Put s (take (7 * k + 1) (set s (7 * k) o) ++ (bytes ++ rest)) k o (byte_at n)
put_seven s bytes rest k o n l e = record {
  owned = low (7 * k) (omega arith) ∙ get_or-set_same s (7 * k) o 0 (omega arith);
  told = λ j h. get_or-append_right front (bytes ++ rest) (7 * k + 1) (7 * k + 1 + j) 0 front_long (omega arith)
      ∙ ap (λ (i : ℕ). get_or (bytes ++ rest) i 0) (omega arith)
      ∙ get_or_append_left bytes rest 0 j (omega (arith, ap length e))
      ∙ ap (λ (b : List ℕ). get_or b j 0) e
      ∙ le_byte n j h;
  kept = λ i h. low i (omega arith) ∙ get_or-set_other s (7 * k) i o 0 (λ e. omega arith);
}
  where
    front : List ℕ
    front = take (7 * k + 1) (set s (7 * k) o)

    front_long : length front ≡ 7 * k + 1
    front_long = length-take-le (7 * k + 1) (set s (7 * k) o) (omega (arith, length-set s (7 * k) o))

    low : (i : ℕ) → i < 7 * k + 1 → get_or (front ++ (bytes ++ rest)) i 0 ≡ get_or (set s (7 * k) o) i 0
    low i h = get_or_append_left front (bytes ++ rest) 0 i (omega (arith, front_long)) ∙ get_or-take (7 * k + 1) (set s (7 * k) o) i 0 h

-- one node more is done
node_done : (m : Map) (o k : ℕ) (s v : List ℕ) (b : ℕ) (h : ℕ → ℕ) → Fresh m o k s → length v ≡ length s → Put s v k b h
    → b ≡ fresh_own m o k → ((j : ℕ) → j < 6 → h j ≡ fresh_heard m k j) → Fresh m o (k + 1) v
node_done m o k s v b h F g P e f = record {
  long = g ∙ F.long;
  owns = below_more (λ j. own v j ≡ fresh_own m o j) k (λ j l. P.kept (7 * j) (omega arith) ∙ F.owns j l) (P.owned ∙ e);
  hears = λ j d l c. below_more (λ j. heard v j d ≡ fresh_heard m j d) k
      (λ j l. P.kept (7 * j + 1 + d) (omega arith) ∙ F.hears j d l c) (P.told d c ∙ f d c) j l;
}

module _ (S : Sizes) (cells : List ℕ) where
  abbrev m : Map
  m = map_of S cells

  -- node k is faulty if its cell is
  faulty_is : (k : ℕ) → faulty_cell (get_or cells (number S (place_of S k)) 0) ≡ faulty_cell (get_or cells k 0)
  faulty_is k = rw (number_of S k)

  -- a neighbour that says 0 is heard as its cell
  cell_is : (c : ℕ) → c ≤ 1 → cond (faulty_cell c) 1 0 ≡ c
  unfolding faulty_cell
  cell_is zero h = refl
  cell_is (suc zero) h = refl
  cell_is (suc (suc c)) h = absurd (omega arith)

  cell_le : check_map S cells ≡ accepted → (k : ℕ) → k < nodes S → get_or cells k 0 ≤ 1
  unfolding bad_cell
  cell_le ok k h =
      let g = map_granted S cells ok in
      ltb-false cell_limit (get_or cells k 0) (g.good k (omega (arith, g.whole)))

  cell_read : check_map S cells ≡ accepted → (p : Place) (j : ℕ) (q : Place) → Inside S q → read_by m (λ q. 0) p j (Some q) ≡ first_byte cells 1 (number S q)
  unfolding wall
  cell_read ok p j q i =
      let k = number S q in
      cell_is (get_or cells k 0) (cell_le ok k (number_lt S q i)) ∙ ap (λ (n : ℕ). get_or cells n 0) (omega arith)

  first_heard : (p : Place) (j : ℕ) (n : Option Place) → T (is_heard (read_by m (λ q. 0) p j n))
  unfolding is_heard is_own is_word
  first_heard p j None = tt
  first_heard p j (Some q) = go (wall m p j q)
    where
      go : (t : Bool) → T (is_heard (cond t 1 0))
      go true = tt
      go false = tt

  module _ (o k : ℕ) (s t : List ℕ) (F : Fresh m o k s) (g : length t ≡ length s) where
    -- a faulty node
    pub failed_done : (v n : ℕ) → ((m : Map) (p : Place) (j : ℕ) → v ≡ faulty_hears m p j) → n ≡ v * ones → T (faulty_cell (get_or cells k 0))
        → Put s t k 1 (byte_at n) → Fresh m o (k + 1) t
    unfolding fresh_own fresh_heard
    failed_done v n f e w P = node_done m o k s t 1 (byte_at n) F g P
        (rw (faulty_is k) (sym (cond_true (faulty_cell (get_or cells k 0)) 1 (rule_byte S o (fresh_heard m k)) w)))
        λ j h. bytes_six n (λ j. v) (λ j. rw (f m (place_of S k) 0) (faulty_byte m (place_of S k) 0)) (e ∙ sym (six_ones v)) j h
        ∙ f m (place_of S k) j
        ∙ (rw (faulty_is k) (sym (cond_true (faulty_cell (get_or cells k 0)) (faulty_hears m (place_of S k) j) (read_at m (λ q. 0) (place_of S k) j) w)))

    -- a working node
    pub working_done : check_map S cells ≡ accepted → k < nodes S → faulty_cell (get_or cells k 0) ≡ false → (n b : ℕ)
        → n ≡ six (around S (first_byte cells 1) k) → Bytes (around S (first_byte cells 1) k) → b ≡ quick_rule S o (byte_at n)
        → Put s t k b (byte_at n) → Fresh m o (k + 1) t
    unfolding fresh_own fresh_heard
    working_done ok l w n b e y q P = node_done m o k s t b (byte_at n) F g P own_is heard_is
      where
        read_is : (j : ℕ) → read_at m (λ q. 0) (place_of S k) j ≡ around S (first_byte cells 1) k j
        read_is j = around_read m (λ q. 0) (first_byte cells 1) (cell_read ok) k j l

        heard_is : (j : ℕ) → j < 6 → byte_at n j ≡ fresh_heard m k j
        heard_is j h = bytes_six n (around S (first_byte cells 1) k) y e j h ∙ sym (read_is j) ∙ (rw (faulty_is k, w))

        own_is : b ≡ fresh_own m o k
        own_is =
            q
            ∙ quick_is S o (byte_at n) (λ j h. rw (heard_is j h, faulty_is k, w) (first_heard (place_of S k) j (next S (place_of S k) j)))
            ∙ ruled_same S o (byte_at n) (fresh_heard m k) heard_is
            ∙ (rw (faulty_is k, w))

-- ---- all nodes

module _ (m : Map) (o : ℕ) (s : List ℕ) (F : Fresh m o (nodes m.sizes) s) where
  byte_is : (k r i : ℕ) → k < nodes m.sizes → r < 7 → i ≡ 7 * k + r → get_or s i 0 ≡ fresh_byte m o k r
  byte_is k zero i l h e = ap (λ (n : ℕ). get_or s n 0) (omega arith) ∙ F.owns k l
  byte_is k (suc j) i l h e = ap (λ (n : ℕ). get_or s n 0) (omega arith) ∙ F.hears k j l (omega arith)

  pub fresh_all : s ≡ fresh m o
  unfolding fresh
  fresh_all =
      let long : length s ≡ state_length m.sizes = F.long in
      let bytes : ℕ → ℕ = λ i. fresh_byte m o (i / 7) (i % 7) in
      ext_get_or 0 s (table bytes (state_length m.sizes)) (long ∙ sym (length_table bytes (state_length m.sizes))) λ i h.
      byte_is (i / 7) (i % 7) i (omega arith) (omega arith) (omega arith)
      ∙ sym (get_d_table bytes (state_length m.sizes) i 0 (omega arith))
