-- What is counted is what is told. Assumes nothing.
use mathlib.Core.Path.{◌≡◌, refl, sym, ap, ap₂, ◌∙◌}
use mathlib.Core.Bool.{Bool, true, false, not}
use mathlib.Core.List.{List}
use Prim.Native.Nat.{ℕ, zero, suc, ◌+◌, ◌-◌, ◌*◌, ◌<◌, ◌≤◌}
use Rattle.std.proofs.Common.{◌++◌, drop, length, get_or, length-append, length-drop}
use Rattle.std.proofs.lemmas.List.{get_or_append_left, get_or-drop, drop-drop, drop_at}
use native.Mathlib.Omega.{arith}
use lib.Bits.{bit_and}
use lib.Count.{ones}
use lib.Dec.{T, eqb}
use Rattle.mesh.specs.Tools.{bit, all, sum, count}
use Rattle.mesh.specs.Mesh.{nodes, place_of}
use Rattle.mesh.specs.Cells.{Map, map_of}
use Rattle.rules.specs.Marks.{Kind, useless, cant_reach, has, holds, mark_at}
use Rattle.mesh.specs.Answers.{check_map, accepted}
use Rattle.mesh.specs.declared.Sizes.{Sizes}
use Rattle.mesh.specs.declared.Refusal.{Refusal}
use Rattle.mesh.proofs.Bits.{bit_le}
use Rattle.mesh.proofs.Tests.{T-eq, T-all}
use Rattle.mesh.proofs.Tables.{sum_same}
use Rattle.mesh.proofs.Numbers.{place_in}
use Rattle.rules.proofs.Bytes.{mark_has}
use Rattle.talk.specs.State.{own, map_in, faulty_node}
use Rattle.talk.specs.Hear.{outstanding}
use Rattle.talk.specs.Entries.{outstanding_answer}
use Rattle.talk.specs.Promise.{workers}
use Rattle.talk.proofs.Calls.{counts}
use Rattle.counts.specs.Counts.{faulty_count, marked_count, faulty_among}
use Rattle.counts.proofs.Counted.{faulty_counted}
use Rattle.rounds.specs.Links.{Fit}
use Rattle.rounds.specs.Figures.{how_many_marks, marks_held}
use Rattle.rounds.proofs.Coming.{ranged}
use Rattle.std.specs.Prelude.{Ok, Err}

-- what passes a test and what does not are all
parts : (n : ℕ) (p : ℕ → Bool) → count n (λ k. not (p k)) + count n p ≡ n
unfolding sum
parts zero p = refl
parts (suc n) p = omega (arith, parts n p, one (p n))
  where
    one : (b : Bool) → bit (not b) + bit b ≡ 1
    one true = refl
    one false = refl

pub workers_counted : (S : Sizes) (cells : List ℕ) → check_map S cells ≡ accepted → workers (map_of S cells) + faulty_among cells ≡ nodes S
unfolding faulty_count
workers_counted S cells d =
    ap (λ (n : ℕ). workers (map_of S cells) + n) (faulty_counted S cells d) ∙ parts (nodes S) (faulty_node (map_of S cells))

outstanding_answered : (S : Sizes) (o : ℕ) (s : List ℕ) → Fit S o s → outstanding_answer S o s ≡ Ok (outstanding S s)
unfolding outstanding
outstanding_answered S o s f = counts (map_in S s) o (ranged S o s f) f.turned s f.sound

-- so it is not refused, and the number is that one
pub not_refused : (S : Sizes) (o : ℕ) (s : List ℕ) → Fit S o s → (r : Refusal) → outstanding_answer S o s ≡ Err r → ⊥
not_refused S o s f r e =
    let h : Ok (outstanding S s) ≡ Err r = sym (outstanding_answered S o s f) ∙ e in
    let z : ◌≡◌ {A = ℕ} 0 1 = cc in
    omega arith

pub the_number : (S : Sizes) (o : ℕ) (s : List ℕ) → Fit S o s → (n : ℕ) → outstanding_answer S o s ≡ Ok n → n ≡ outstanding S s
the_number S o s f n e = let h : Ok (outstanding S s) ≡ Ok n = sym (outstanding_answered S o s f) ∙ e in cc

-- a byte's marks are bits of it
all_counted : T (all 256 λ b. eqb (ones (bit_and b 6)) (how_many_marks b))
unfolding all has ones
all_counted = tt

pub marks_counted : (b : ℕ) → b < 256 → ones (bit_and b 6) ≡ how_many_marks b
marks_counted b h = (T-eq (ones (bit_and b 6)) (how_many_marks b)).0 ((T-all 256 λ b. eqb (ones (bit_and b 6)) (how_many_marks b)).0 all_counted b h)

pub marks_few : (b : ℕ) → how_many_marks b ≤ 2
marks_few b = omega (arith, bit_le (has b useless), bit_le (has b cant_reach))

-- the next seven bytes of a state are those of the next node
pub next_node : (s x rest : List ℕ) (n : ℕ) → drop (7 * n) s ≡ x ++ rest → length x ≡ 7
    → (rest ≡ drop (7 * (n + 1)) s) × (get_or x 0 0 ≡ own s n) × (7 * (n + 1) ≤ length s)
next_node s x rest n e l =
    let after : drop 7 (drop (7 * n) s) ≡ drop (7 * (n + 1)) s = drop-drop 7 (7 * n) s ∙ ap (λ (i : ℕ). drop i s) (omega arith) in
    let first : get_or (x ++ rest) 0 0 ≡ get_or x 0 0 = get_or_append_left x rest 0 0 (omega arith) in
    let whole : length s - 7 * n ≡ length x + length rest = sym (length-drop (7 * n) s) ∙ ap length e ∙ length-append x rest in (
      sym (drop_at x rest 7 l) ∙ ap (drop 7) (sym e) ∙ after,
      sym first ∙ ap (λ (b : List ℕ). get_or b 0 0) (sym e) ∙ get_or-drop (7 * n) s 0 0 ∙ ap (λ (i : ℕ). get_or s i 0) (omega arith),
      omega arith,
    )

-- two counts at once
both : (n : ℕ) (f g : ℕ → ℕ) → sum n (λ k. f k + g k) ≡ sum n f + sum n g
unfolding sum
both zero f g = refl
both (suc n) f g = omega (arith, both n f g)

-- a state that holds the mark bytes of the rules holds as many marks as the report counts
pub marks_ruled : (m : Map) (o : ℕ) (s : List ℕ) → ((k : ℕ) → k < nodes m.sizes → own s k ≡ mark_at m o (place_of m.sizes k))
    → marks_held m.sizes s ≡ marked_count m o useless + marked_count m o cant_reach
unfolding marks_held marked_count
marks_ruled m o s e =
    let N = nodes m.sizes in
    let held : Kind → ℕ → ℕ = λ a k. bit (holds m o (place_of m.sizes k) a) in
    let one : (a : Kind) (k : ℕ) → k < N → bit (has (own s k) a) ≡ held a k = λ a k h.
    ap (λ (b : ℕ). bit (has b a)) (e k h) ∙ ap bit (mark_has m o (place_of m.sizes k) a (place_in m.sizes k h)) in
    sum_same N (λ k. how_many_marks (own s k)) (λ k. held useless k + held cant_reach k) (λ k h. ap₂ ◌+◌ (one useless k h) (one cant_reach k h))
    ∙ both N (held useless) (held cant_reach)
