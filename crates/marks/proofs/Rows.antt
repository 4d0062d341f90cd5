-- The sweep by rows of bits: all nodes as a box from the corner ahead, and 01's rule row by row. Assumes nothing.
use mathlib.Core.Path.{◌≡◌, refl, sym, ap, ap₂, ◌∙◌}
use mathlib.Core.Bool.{Bool, true, false, cond, not, ◌&&◌, ◌||◌, true≢false}
use mathlib.Core.Logic.{inl, inr}
use mathlib.Core.List.{List}
use Prim.Native.Nat.{ℕ, zero, suc, ◌+◌, ◌-◌, ◌<◌, ◌≤◌}
use native.Mathlib.Omega.{arith}
use native.Mathlib.Nat.{eq-or-lt_of_le}
use native.Mathlib.Numerals.{add-one}
use borrow.Author.Count.{below_more}
use borrow.Author.Tests.{lt-ltb, ltb-true, le-leb}
use lib.Bits.{bit_and, bit_or, bit_xor, xor_add_and, and_le_l, and_le_r}
use lib.Dec.{ltb}
use lib.ListN.{length, get_or, set, length-set, get_or-replicate}
use lib.Seq.{get_or-set_same, get_or-set_other}
use Rattle.mesh.specs.Tools.{implies, all}
use Rattle.mesh.specs.Mesh.{X, Y, Z, place, InRange, Inside}
use Rattle.mesh.specs.Steps.{runs_down}
use Rattle.mesh.specs.Cells.{Map, faulty}
use Rattle.mesh.proofs.Tests.{T-all, holds_true}
use Rattle.rules.specs.Marks.{counted, flip, to_go, shut}
use Rattle.rules.proofs.Marks.{shut_step}
use Rattle.rows.specs.Row.{bit_at, swept}
use Rattle.rows.specs.Box.{largest, gone, reach, far, Within, OnAxis, Held, faulty_row}
use Rattle.rows.proofs.Bits.{at_and, at_or}
use Rattle.rows.proofs.Packs.{at_none, at_packed}
use Rattle.mesh.specs.declared.Sizes.{Sizes}
use Rattle.mesh.specs.declared.Place.{Place}
use Rattle.rows.specs.declared.Between.{Between}
use Rattle.marks.specs.Sweep.{axis, whole, prior, Shuts, Holds, beyond, row_before, Over, NoneStuck}
use Rattle.marks.proofs.Stretches.{or_none}

-- ---- all nodes, from the corner ahead

gone_axis : (down : Bool) (n a : ℕ) → gone (axis down n) a ≡ flip down n a
gone_axis true n a = omega arith
gone_axis false n a = refl

axis_on : (down : Bool) (n : ℕ) → 0 < n → OnAxis (axis down n) n
axis_on true n h = record { starts = h; low = λ e. absurd (true≢false (sym e)); high = λ e. omega arith }
axis_on false n h = record { starts = omega arith; low = λ e. omega arith; high = λ e. absurd (true≢false e) }

module _ (S : Sizes) (o : ℕ) where
  -- so many steps from the corner are as many left
  pub reach_whole : (t : Place) → reach (whole S o) t ≡ to_go S o t
  reach_whole t = rw (gone_axis (runs_down o X) S.w t.x, gone_axis (runs_down o Y) S.h t.y, gone_axis (runs_down o Z) S.d t.z)

  pub whole_held : InRange S → Held S (whole S o)
  whole_held r = record {
    x_on = axis_on (runs_down o X) S.w (omega (arith, r.w_lo));
    y_on = axis_on (runs_down o Y) S.h (omega (arith, r.h_lo));
    z_on = axis_on (runs_down o Z) S.d (omega (arith, r.d_lo));
  }

  pub within_in : InRange S → (t : Place) → Within (whole S o) t → Inside S t
  within_in r t w = record { x_in = omega (arith, r.w_lo, w.x_le); y_in = omega (arith, r.h_lo, w.y_le); z_in = omega (arith, r.d_lo, w.z_le) }

  pub in_within : (t : Place) → Inside S t → Within (whole S o) t
  in_within t i = record { x_le = omega (arith, i.x_in); y_le = omega (arith, i.y_in); z_le = omega (arith, i.z_in) }

module _ (m : Map) (o : ℕ) where
  abbrev pub shut_left : Place → Bool
  shut_left t = shut m o (to_go m.sizes o t)

  on_z : (a b c : ℕ) → c < m.sizes.d → implies (counted m.sizes Z) (ltb 0 c && shut_left (place a b (c - 1))) ≡ prior m shut_left c a b
  on_z a b zero h = edge (counted m.sizes Z)
    where
      edge : (t : Bool) → implies t false ≡ not t
      edge true = refl
      edge false = refl
  on_z a b (suc c) h =
      let e : suc c - 1 ≡ c = omega arith in
      rw (le-leb 2 m.sizes.d (omega arith), lt-ltb 0 (suc c) (omega arith), e)

  -- 01's rule: X and Y always count
  pub shuts_whole : InRange m.sizes → Shuts m (whole m.sizes o) shut_left
  shuts_whole sized a b c w =
      let i : Inside m.sizes (place a b c) = within_in m.sizes o sized (place a b c) w in
      shut_step m o (place a b c) i ∙ (rw (le-leb 2 m.sizes.w sized.w_lo, le-leb 2 m.sizes.h sized.h_lo))
      ∙ ap₂ (λ p t. faulty m p || ((ltb 0 a && shut_left (place (a - 1) b c)) && (ltb 0 b && shut_left (place a (b - 1) c)) && t))
      (sym (reach_whole m.sizes o (place a b c))) (on_z a b c i.z_in)

-- ---- a row

alone : (f y z : Bool) → (f || (y && z)) && f ≡ f || (false && y && z)
alone true y z = refl
alone false true true = refl
alone false true false = refl
alone false false z = refl

goes_on : (f x y z : Bool) → (f || (y && z)) && (f || ((f || (y && z)) && x)) ≡ f || (x && y && z)
goes_on true x y z = refl
goes_on false true true true = refl
goes_on false true true false = refl
goes_on false true false z = refl
goes_on false false true true = refl
goes_on false false true false = refl
goes_on false false false z = refl

module _ (m : Map) (g : Between) (shut : Place → Bool) (Q : Shuts m g shut) (c : ℕ) (hc : c ≤ g.z.steps) (b : ℕ) (hb : b ≤ g.y.steps) (dead last old : ℕ)
    (none : (a : ℕ) → a ≤ g.x.steps → bit_at dead a ≡ faulty m (reach g (place a b c)))
    (beside : (a : ℕ) → a ≤ g.x.steps → bit_at last a ≡ (ltb 0 b && shut (place a (b - 1) c)))
    (behind : (a : ℕ) → a ≤ g.x.steps → bit_at old a ≡ prior m shut c a b) where
  abbrev pass : ℕ → Bool
  pass = bit_at (bit_or dead (bit_and last old))

  pass_at : (a : ℕ) → pass a ≡ (bit_at dead a || (bit_at last a && bit_at old a))
  pass_at a = at_or a dead (bit_and last old) ∙ ap (λ t. bit_at dead a || t) (at_and a last old)

  by_rule : (a : ℕ) → a ≤ g.x.steps → shut (place a b c) ≡ bit_at dead a || ((ltb 0 a && shut (place (a - 1) b c)) && bit_at last a && bit_at old a)
  by_rule a l = Q a b c (record { x_le = l; y_le = hb; z_le = hc }) ∙ rw (none a l, beside a l, behind a l)

  pub row_shuts : (a : ℕ) → a ≤ g.x.steps → swept pass (bit_at dead) pass a ≡ shut (place a b c)
  unfolding swept
  row_shuts zero l = rw (pass_at 0, by_rule 0 l) (alone (bit_at dead 0) (bit_at last 0) (bit_at old 0))
  row_shuts (suc a) l =
      let e : suc a - 1 ≡ a = omega arith in
      rw (row_shuts a (omega arith), pass_at (suc a), by_rule (suc a) l, lt-ltb 0 (suc a) (omega arith), e)
      (goes_on (bit_at dead (suc a)) (shut (place a b c)) (bit_at last (suc a)) (bit_at old (suc a)))

-- ---- row after row

faulty_at : (m : Map) (g : Between) (c b dead : ℕ) → dead ≡ faulty_row m g b c → (a : ℕ) → a ≤ g.x.steps → bit_at dead a ≡ faulty m (reach g (place a b c))
faulty_at m g c b dead e a l =
    let f : ℕ → Bool = λ a. faulty m (reach g (place a b c)) in
    ap (λ n. bit_at n a) e ∙ at_packed f (g.x.steps + 1) a ∙ ap (λ t. t && f a) (lt-ltb a (g.x.steps + 1) (omega arith))

pub over_none : (m : Map) (g : Between) (c : ℕ) (old : List ℕ) → Over m g c old old 0
over_none m g c old = record { at = λ shut Q H a b la lb hb. absurd (omega arith); kept = λ b h. refl; size = refl }

pub before_more : (rows : List ℕ) (b v : ℕ) → b < length rows → v ≡ row_before (set rows b v) (b + 1)
before_more rows b v h =
    let e : b + 1 - 1 ≡ b = omega arith in
    rw (lt-ltb 0 (b + 1) (omega arith), e) (sym (get_or-set_same rows b v 0 h))

module _ (m : Map) (g : Between) (c : ℕ) (hc : c ≤ g.z.steps) (b : ℕ) (hb : b ≤ g.y.steps) (old mid : List ℕ) (L : Over m g c old mid b) where
  before_at : (shut : Place → Bool) → Shuts m g shut → Holds g (prior m shut c) old
      → (a : ℕ) → a ≤ g.x.steps → bit_at (row_before mid b) a ≡ (ltb 0 b && shut (place a (b - 1) c))
  before_at shut Q H a l = split (ltb 0 b) refl
    where
      split : (t : Bool) → ltb 0 b ≡ t → bit_at (cond t (get_or mid (b - 1) 0) 0) a ≡ (t && shut (place a (b - 1) c))
      split true e = let k = ltb-true 0 b e in L.at shut Q H a (b - 1) l (omega arith) (omega arith)
      split false e = at_none a

  pub over_more : (dead v : ℕ) → b < length mid
      → dead ≡ faulty_row m g b c
      → ((k : ℕ) → bit_at v k
      ≡ swept (bit_at (bit_or dead (bit_and (row_before mid b) (get_or mid b 0)))) (bit_at dead) (bit_at (bit_or dead (bit_and (row_before mid b) (get_or mid b 0)))) k)
      → Over m g c old (set mid b v) (b + 1)
  over_more dead v len ed ev = record {
    at = λ shut Q H a i la li hi. elim (eq-or-lt_of_le (le_of i li)) [
      | inl q ↦ rw q (here shut Q H a la)
      | inr q ↦ ap (λ n. bit_at n a) (get_or-set_other mid b i v 0 (λ e. omega arith)) ∙ L.at shut Q H a i la q hi
    ];
    kept = λ i h. get_or-set_other mid b i v 0 (λ e. omega arith) ∙ L.kept i (omega arith);
    size = length-set mid b v ∙ L.size;
  }
    where
      le_of : (i : ℕ) → i < b + 1 → i ≤ b
      le_of i n = omega arith

      here : (shut : Place → Bool) → Shuts m g shut → Holds g (prior m shut c) old → (a : ℕ) → a ≤ g.x.steps
          → bit_at (get_or (set mid b v) b 0) a ≡ shut (place a b c)
      here shut Q H a la =
          ap (λ n. bit_at n a) (get_or-set_same mid b v 0 len) ∙ ev a
          ∙ row_shuts m g shut Q c hc b hb dead (row_before mid b) (get_or mid b 0) (faulty_at m g c b dead ed) (before_at shut Q H)
          (λ a l. ap (λ n. bit_at n a) (L.kept b (omega arith)) ∙ H a b l hb) a la

-- the first b rows are those of the faulty nodes
abbrev pub AsFaulty : List ℕ → List ℕ → ℕ → Type 0
AsFaulty faulty rows b = (i : ℕ) → i < b → get_or rows i 0 ≡ get_or faulty i 0

pub as_faulty_more : (faulty rows : List ℕ) (b v stuck : ℕ) → b < length rows → (stuck ≡ 0 → AsFaulty faulty rows b)
    → bit_or stuck (bit_xor v (get_or faulty b 0)) ≡ 0 → AsFaulty faulty (set rows b v) (b + 1)
as_faulty_more faulty rows b v stuck h before e =
    let n = or_none stuck (bit_xor v (get_or faulty b 0)) e in
    let q : v ≡ get_or faulty b 0 = omega (arith, n.1, xor_add_and v (get_or faulty b 0), and_le_l v (get_or faulty b 0), and_le_r v (get_or faulty b 0)) in
    below_more (λ i. get_or (set rows b v) i 0 ≡ get_or faulty i 0) b
    (λ i l. get_or-set_other rows b i v 0 (λ e. omega arith) ∙ before n.0 i l)
    (get_or-set_same rows b v 0 h ∙ q)

pub as_faulty_all : (m : Map) (g : Between) (c : ℕ) (dead rows : List ℕ) → ((b : ℕ) → b ≤ g.y.steps → get_or dead b 0 ≡ faulty_row m g b c)
    → AsFaulty dead rows (g.y.steps + 1) → NoneStuck m g c rows
as_faulty_all m g c dead rows told same a b la lb = faulty_at m g c b (get_or rows b 0) (same b (omega arith) ∙ told b lb) a la

-- ---- layer after layer

all_set : (a : ℕ) → a < 16 → bit_at 65535 a ≡ true
unfolding all bit_at
all_set a h = (holds_true (bit_at 65535 a)).0 ((T-all 16 (bit_at 65535)).0 tt a h)

pub beyond_holds : (m : Map) (g : Between) (shut : Place → Bool) → Inside largest (far g) → Holds g (prior m shut 0) (beyond m.sizes)
beyond_holds m g shut i a b la lb =
    ap (λ n. bit_at n a) (get_or-replicate 16 b _ 0 (omega arith)) ∙ split (counted m.sizes Z)
  where
    split : (t : Bool) → bit_at (cond t 0 65535) a ≡ not t
    split true = at_none a
    split false = all_set a (omega arith)

pub over_holds : (m : Map) (g : Between) (c : ℕ) (old new : List ℕ) → Over m g c old new (g.y.steps + 1) → (shut : Place → Bool) → Shuts m g shut
    → Holds g (prior m shut c) old → Holds g (prior m shut (c + 1)) new
over_holds m g c old new L shut Q H a b la lb = L.at shut Q H a b la (omega arith) lb ∙ rw (add-one c)
