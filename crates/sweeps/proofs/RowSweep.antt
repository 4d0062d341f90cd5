-- The sweep by rows of bits. Assumes nothing.
use mathlib.Core.Path.{◌≡◌, refl, sym, ap, ◌∙◌}
use mathlib.Core.Logic.{inl, inr}
use mathlib.Core.Bool.{Bool, true, false, ◌&&◌, ◌||◌, cond, not, true≢false}
use mathlib.Core.List.{List}
use Prim.Native.Nat.{ℕ, zero, suc, ◌+◌, ◌-◌, ◌^◌, ◌<◌, ◌≤◌}
use native.Mathlib.Nat.{eq-or-lt_of_le}
use native.Mathlib.Numerals.{add-one}
use native.Mathlib.Omega.{arith}
use lib.ListN.{length, get_or, set, replicate, length-set, get_or-replicate}
use lib.Seq.{get_or-set_same, get_or-set_other}
use lib.Bits.{bit_or}
use lib.Dec.{ltb, eqb}
use borrow.Author.Tests.{lt-ltb, ltb-true, ne_eqb, eq-eqb, eqb-true}
use Rattle.mesh.specs.Tools.{bit}
use Rattle.mesh.specs.Mesh.{place}
use Rattle.mesh.specs.Cells.{Map, cell_at, faulty, may_pass}
use Rattle.mesh.specs.declared.Place.{Place}
use Rattle.rows.specs.Row.{bit_at, swept, packed}
use Rattle.rows.proofs.Bits.{at_or}
use Rattle.rows.proofs.Packs.{packed_lt, at_packed, at_none, packed_not}
use Rattle.rows.specs.Box.{reach, far, FaultyRows, Ready}
use Rattle.rows.proofs.Box.{far_in}
use Rattle.sweeps.specs.Sweep.{Seen, prior, Holds, row_before, Over, Layers, Layer, Rows, After, WaysTo, WaysAfter, seed, seen_at, ways_of}
use Rattle.sweeps.proofs.Seen.{next_seen}
use Rattle.sweeps.specs.declared.Ways.{Ways}
use Rattle.rows.specs.declared.Between.{Between}

-- ---- the cells of a row

-- where the faulty ones are taken from all
pub row_passes : (m : Map) (g : Between) (b c v all : ℕ) → v ≡ packed (λ a. faulty m (reach g (place a b c))) (g.x.steps + 1) → all + 1 ≡ 2 ^ (g.x.steps + 1)
    → (v ≤ all) × ((a : ℕ) → a ≤ g.x.steps → bit_at (all - v) a ≡ may_pass (cell_at m (reach g (place a b c))))
unfolding may_pass
row_passes m g b c v all ev ea =
    let f : ℕ → Bool = λ a. faulty m (reach g (place a b c)) in
    let w : ℕ = g.x.steps + 1 in
    let q : all - v ≡ packed (λ a. not (f a)) w = omega (arith, packed_not f w) in
    (omega (arith, packed_not f w), λ a l. ap (λ n. bit_at n a) q ∙ at_packed (λ a. not (f a)) w a ∙ rw (lt-ltb a w (omega arith)))

-- the numbers of a layer's faulty nodes go no further than its rows
pub rows_ready : (m : Map) (g : Between) (c : ℕ) (dead rows : List ℕ) → Ready m.sizes m.cells g → FaultyRows m g c dead → length dead ≡ 16 → length rows ≡ 16
    → Rows g dead rows
rows_ready m g c dead rows r F ed er = record {
  small = far_in m.sizes g r.sized r.held;
  given = ed;
  held = er;
  within = λ b h. rw (F b h) (packed_lt (λ a. faulty m (reach g (place a b c))) (g.x.steps + 1));
}

-- ---- what a row sees

-- the corner alone is seen by itself
first_at : (a b c first : ℕ) → first ≡ bit (eqb (b + c) 0) → ((a + b) + c ≡ 0 → ⊥) → bit_at first a ≡ false
unfolding bit_at
first_at zero b c first e off = rw (e, ne_eqb (b + c) 0 (λ q. off (omega arith)))
first_at (suc a) b c first e off = rw e (split (eqb (b + c) 0))
  where
    split : (t : Bool) → bit_at (bit t) (suc a) ≡ false
    split true = at_none a
    split false = at_none a

one_at : bit_at 1 0 ≡ true
unfolding bit_at
one_at = refl

from_none : (p l o : Bool) → (p || false) && (l || o) ≡ p && (false || l || o)
from_none true l o = refl
from_none false l o = refl

from_x : (p l o x : Bool) → (p || false) && ((l || o) || ((p || false) && x)) ≡ p && (x || l || o)
from_x true true o true = refl
from_x true true o false = refl
from_x true false true true = refl
from_x true false true false = refl
from_x true false false true = refl
from_x true false false false = refl
from_x false l o x = refl

forced : (p l : Bool) → (p || true) && (l || true) ≡ true
forced true true = refl
forced true false = refl
forced false true = refl
forced false false = refl

module _ (m : Map) (g : Between) (seen : Place → Bool) (Q : Seen m g seen) (c : ℕ) (hc : c ≤ g.z.steps) (b : ℕ) (hb : b ≤ g.y.steps)
    (pass last old first : ℕ)
    (may : (a : ℕ) → a ≤ g.x.steps → bit_at pass a ≡ may_pass (cell_at m (reach g (place a b c))))
    (beside : (a : ℕ) → a ≤ g.x.steps → bit_at last a ≡ (ltb 0 b && seen (place a (b - 1) c)))
    (behind : (a : ℕ) → a ≤ g.x.steps → bit_at old a ≡ prior seen c a b)
    (alone : first ≡ bit (eqb (b + c) 0)) where
  abbrev lets : ℕ → Bool
  lets = bit_at (bit_or pass first)

  abbrev from : ℕ → Bool
  from = bit_at (bit_or last old)

  lets_at : (a : ℕ) → a ≤ g.x.steps → ((a + b) + c ≡ 0 → ⊥) → lets a ≡ (may_pass (cell_at m (reach g (place a b c))) || false)
  lets_at a l off = at_or a pass first ∙ rw (may a l, first_at a b c first alone off)

  from_at : (a : ℕ) → a ≤ g.x.steps → from a ≡ ((ltb 0 b && seen (place a (b - 1) c)) || prior seen c a b)
  from_at a l = at_or a last old ∙ rw (beside a l, behind a l)

  -- the first place of a row
  start : (t : Bool) → eqb (b + c) 0 ≡ t → lets 0 && from 0 ≡ seen (place 0 b c)
  start true e =
      let z : b + c ≡ 0 = eqb-true (b + c) 0 e in
      let zb : b ≡ 0 = omega arith in
      let zc : c ≡ 0 = omega arith in
      let f : bit_at first 0 ≡ true = ap (λ n. bit_at n 0) (alone ∙ ap bit e) ∙ one_at in
      let o : bit_at old 0 ≡ true = behind 0 (omega arith) ∙ rw (zc, zb) in
      let p : lets 0 ≡ (bit_at pass 0 || true) = at_or 0 pass first ∙ rw f in
      let q : from 0 ≡ (bit_at last 0 || true) = at_or 0 last old ∙ rw o in
      let s : seen (place 0 b c) ≡ true = rw (zb, zc) Q.corner in
      rw (p, q, s) (forced (bit_at pass 0) (bit_at last 0))
  start false e =
      let off : ((0 + b) + c ≡ 0 → ⊥) = λ z. ne e z in
      rw (lets_at 0 (omega arith) off, from_at 0 (omega arith))
      (from_none (may_pass (cell_at m (reach g (place 0 b c)))) (ltb 0 b && seen (place 0 (b - 1) c)) (prior seen c 0 b)
      ∙ sym (next_seen m g seen Q c hc 0 b (omega arith) hb off))
    where
      ne : eqb (b + c) 0 ≡ false → (0 + b) + c ≡ 0 → ⊥
      ne e z =
          let k : eqb (b + c) 0 ≡ true = eq-eqb (b + c) 0 (omega arith) in
          absurd (true≢false (sym k ∙ e))

  pub row_sees : (a : ℕ) → a ≤ g.x.steps → swept lets from lets a ≡ seen (place a b c)
  unfolding swept
  row_sees zero l = start (eqb (b + c) 0) refl
  row_sees (suc a) l =
      let off : ((suc a + b) + c ≡ 0 → ⊥) = λ z. omega arith in
      let e : suc a - 1 ≡ a = omega arith in
      rw (lets_at (suc a) l off, from_at (suc a) l, row_sees a (omega arith))
      (from_x (may_pass (cell_at m (reach g (place (suc a) b c)))) (ltb 0 b && seen (place (suc a) (b - 1) c)) (prior seen c (suc a) b) (seen (place a b c))
      ∙ sym (next_seen m g seen Q c hc (suc a) b l hb off ∙ rw (lt-ltb 0 (suc a) (omega arith), e)))

-- ---- row after row

pub over_none : (m : Map) (g : Between) (c : ℕ) (old : List ℕ) → Over m g c 0 old old
over_none m g c old = record { at = λ seen Q H a b la lb hb. absurd (omega arith); kept = λ b h. refl; size = refl }

pub first_none : (c : ℕ) → bit (eqb c 0) ≡ bit (eqb (0 + c) 0)
first_none c = let e : 0 + c ≡ c = omega arith in rw e

pub first_more : (b c : ℕ) → 0 ≡ bit (eqb (b + 1 + c) 0)
first_more b c = rw (ne_eqb (b + 1 + c) 0 (λ e. omega arith))

pub before_more : (rows : List ℕ) (b v : ℕ) → b < length rows → v ≡ row_before (set rows b v) (b + 1)
before_more rows b v h =
    let e : b + 1 - 1 ≡ b = omega arith in
    rw (lt-ltb 0 (b + 1) (omega arith), e) (sym (get_or-set_same rows b v 0 h))

module _ (m : Map) (g : Between) (c : ℕ) (hc : c ≤ g.z.steps) (b : ℕ) (hb : b ≤ g.y.steps) (old mid : List ℕ)
    (L : Over m g c b old mid) where
  before_at : (seen : Place → Bool) → Seen m g seen → Holds g (prior seen c) old
      → (a : ℕ) → a ≤ g.x.steps → bit_at (row_before mid b) a ≡ (ltb 0 b && seen (place a (b - 1) c))
  before_at seen Q H a l = split (ltb 0 b) refl
    where
      split : (t : Bool) → ltb 0 b ≡ t → bit_at (cond t (get_or mid (b - 1) 0) 0) a ≡ (t && seen (place a (b - 1) c))
      split true e = let k = ltb-true 0 b e in L.at seen Q H a (b - 1) l (omega arith) (omega arith)
      split false e = at_none a

  pub over_more : (pass first v : ℕ) → b < length mid
      → ((a : ℕ) → a ≤ g.x.steps → bit_at pass a ≡ may_pass (cell_at m (reach g (place a b c))))
      → first ≡ bit (eqb (b + c) 0)
      → ((k : ℕ) → bit_at v k ≡ swept (bit_at (bit_or pass first)) (bit_at (bit_or (row_before mid b) (get_or mid b 0))) (bit_at (bit_or pass first)) k)
      → Over m g c (b + 1) old (set mid b v)
  over_more pass first v len ep ef ev = record {
    at = λ seen Q H a i la li hi. elim (eq-or-lt_of_le (le_of i li)) [
      | inl q ↦ rw q (here seen Q H a la)
      | inr q ↦ ap (λ n. bit_at n a) (get_or-set_other mid b i v 0 (λ e. omega arith)) ∙ L.at seen Q H a i la q hi
    ];
    kept = λ i h. get_or-set_other mid b i v 0 (λ e. omega arith) ∙ L.kept i (omega arith);
    size = length-set mid b v ∙ L.size;
  }
    where
      le_of : (i : ℕ) → i < b + 1 → i ≤ b
      le_of i n = omega arith

      here : (seen : Place → Bool) → Seen m g seen → Holds g (prior seen c) old → (a : ℕ) → a ≤ g.x.steps → bit_at (get_or (set mid b v) b 0) a ≡ seen (place a b c)
      here seen Q H a la =
          ap (λ n. bit_at n a) (get_or-set_same mid b v 0 len) ∙ ev a
          ∙ row_sees m g seen Q c hc b hb pass (row_before mid b) (get_or mid b 0) first
          ep
          (before_at seen Q H)
          (λ a l. ap (λ n. bit_at n a) (L.kept b (omega arith)) ∙ H a b l hb)
          ef a la

pub over_all : (m : Map) (g : Between) (c n : ℕ) (old new : List ℕ) → g.y.steps < n → Over m g c n old new → Layers m g c (c + 1) old new
over_all m g c n old new h L = record { holds = λ seen Q H a b la lb. L.at seen Q H a b la (omega arith) lb ∙ rw (add-one c); size = L.size }

-- ---- before the first layer, and after the last

seed_rows : (g : Between) (seen : Place → Bool) → g.y.steps < 16 → Holds g (prior seen 0) seed
unfolding bit_at
seed_rows g seen h zero zero la lb = one_at
seed_rows g seen h (suc a) zero la lb = at_none a ∙ rw (ne_eqb (suc a) 0 (λ e. omega arith))
seed_rows g seen h a (suc b) la lb =
    let e : get_or seed (suc b) 0 ≡ 0 = get_or-set_other (replicate 16 0) 0 (suc b) 1 0 (λ e. omega arith) ∙ get_or-replicate 16 (suc b) 0 0 (omega arith) in
    rw (e, ne_eqb (suc b) 0 (λ e. omega arith)) (at_none a ∙ none (eqb a 0))
  where
    none : (t : Bool) → false ≡ t && false
    none true = refl
    none false = refl

pub after_none : (m : Map) (g : Between) (rows : List ℕ) → g.y.steps < 16 → rows ≡ seed → After m g 0 rows
after_none m g rows h e seen Q = rw e (seed_rows g seen h)

pub after_more : (m : Map) (g : Between) (i n : ℕ) (old new : List ℕ) → Layers m g i n old new → After m g i old → After m g n new
after_more m g i n old new L A seen Q = L.holds seen Q (A seen Q)

-- where a step is left, the bit of the node that it leads from
pub way_seen : (rows : List ℕ) (left a x b y i j : ℕ) (v : Bool) → (0 < left → (a - x ≡ i) × (b - y ≡ j) × (bit_at (get_or rows j 0) i ≡ v))
    → seen_at rows left a x b y ≡ (ltb 0 left && v)
way_seen rows left a x b y i j v h = split (ltb 0 left) refl
  where
    split : (t : Bool) → ltb 0 left ≡ t → (t && bit_at (get_or rows (b - y) 0) (a - x)) ≡ (t && v)
    split true f = let (e, q, k) = h (ltb-true 0 left f) in rw (e, q) k
    split false f = refl

pub rows_ways : (g : Between) (c : ℕ) (seen : Place → Bool) (old new : List ℕ) → Holds g (prior seen c) old → Holds g (prior seen (c + 1)) new
    → let a = g.x.steps in let b = g.y.steps in
    ◌≡◌ {A = Ways} (record { x = bit (seen_at new a a 1 b 0); y = bit (seen_at new b a 0 b 1); z = bit (seen_at old c a 0 b 0) }) (ways_of seen (place a b c))
rows_ways g c seen old new H K = rw (
  way_seen new a a 1 b 0 (a - 1) b (seen (place (a - 1) b c)) (λ h. (refl, omega arith, last (a - 1) b (omega arith) (omega arith))),
  way_seen new b a 0 b 1 a (b - 1) (seen (place a (b - 1) c)) (λ h. (omega arith, refl, last a (b - 1) (omega arith) (omega arith))),
  way_seen old c a 0 b 0 a b (seen (place a b (c - 1))) (λ h. (omega arith, omega arith, H a b (omega arith) (omega arith) ∙ before c h)),
)
  where
    a : ℕ
    a = g.x.steps

    b : ℕ
    b = g.y.steps

    last : (i j : ℕ) → i ≤ a → j ≤ b → bit_at (get_or new j 0) i ≡ seen (place i j c)
    last i j li lj = K i j li lj ∙ rw (add-one c)

    before : (k : ℕ) → 0 < k → prior seen k a b ≡ seen (place a b (k - 1))
    before zero h = absurd (omega arith)
    before (suc k) h = let e : suc k - 1 ≡ k = omega arith in rw e

-- one layer more, and the ways into its last node
pub ways_more : (m : Map) (g : Between) (c : ℕ) (old new : List ℕ) (w : Ways) → Layer m g c old new w → After m g c old → WaysAfter m g (c + 1) w
ways_more m g c old new w L A h seen Q = let e : c + 1 - 1 ≡ c = omega arith in rw e (L.ways seen Q (A seen Q))

-- after the last layer they are those into the far corner
pub ways_all : (m : Map) (g : Between) (n : ℕ) (w : Ways) → n ≡ g.z.steps + 1 → WaysAfter m g n w → WaysTo m g (far g) w
ways_all m g n w e A = let q : n - 1 ≡ g.z.steps = omega arith in rw q at (A (omega arith))
