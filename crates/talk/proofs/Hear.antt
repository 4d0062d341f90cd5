-- A word heard: which bytes change, that marks are only added, and that the state stays sound. Assumes nothing.
use mathlib.Core.Path.{◌≡◌, refl, sym, ap, ◌∙◌}
use mathlib.Core.Logic.{◌↔◌, ◌≢◌, ◌⊎◌, inl, inr}
use mathlib.Core.Bool.{◌||◌}
use mathlib.Core.List.{List, [], ◌∷◌}
use Prim.Native.Nat.{ℕ, zero, suc, ◌+◌, ◌*◌, ◌<◌}
use native.Mathlib.Omega.{arith}
use native.Mathlib.Decide.{ℕ_discrete}
use lib.Dec.{T}
use lib.ListN.{get_or, length, set, length-set}
use lib.Seq.{get_or-set_same, get_or-set_other}
use Rattle.mesh.specs.Mesh.{nodes, place_of}
use Rattle.mesh.specs.Steps.{neighbour}
use Rattle.mesh.specs.Cells.{Map, state_length}
use Rattle.rules.specs.Marks.{Kind, has, is_word, rule_byte}
use Rattle.mesh.specs.declared.Sizes.{Sizes}
use Rattle.mesh.proofs.Tests.{T-or, T-no, bool_ext}
use Rattle.mesh.proofs.Steps.{dir_led}
use Rattle.rules.proofs.Bytes.{has_byte, byte_word, word_same}
use Rattle.talk.specs.State.{own, heard, faulty_node, pair, says}
use Rattle.talk.specs.Sound.{◌no_more_than◌, SoundOn}
use Rattle.talk.specs.Hear.{add_marks, added, ruled_at, changed}
use Rattle.talk.proofs.State.{Talks, pair_talks, dir_lt_six, pair_edge, pair_wall}
use Rattle.talk.proofs.Rule.{word_blocks, ruled_same, ruled_grows}

-- ---- the byte with a word's marks added

pub added_marks : (b w : ℕ) (a : Kind) → T (has (add_marks b w) a) ↔ (T (has b a) ⊎ T (has w a))
unfolding add_marks
added_marks b w a = rw (has_byte (λ a. has b a || has w a) a) (T-or (has b a) (has w a))

pub added_word : (b w : ℕ) → T (is_word (add_marks b w))
unfolding add_marks
added_word b w = byte_word λ a. has b a || has w a

-- ---- two bytes change

apart : (k l i : ℕ) → i < 6 → 7 * k + 1 + i ≢ 7 * l
apart k l i h = omega arith

one_place : (k l i j : ℕ) → i < 6 → j < 6 → 7 * k + 1 + i ≡ 7 * l + 1 + j → (k ≡ l) × (i ≡ j)
one_place k l i j p q e = omega arith

pub others_kept : (S : Sizes) (o : ℕ) (s : List ℕ) (l j w i : ℕ) → i ≢ 7 * l → i ≢ 7 * l + 1 + j → get_or (changed S o l j w s) i 0 ≡ get_or s i 0
unfolding changed ruled_at added
others_kept S o s l j w i n h = get_or-set_other (added l j w s) (7 * l) i _ 0 n ∙ get_or-set_other s (7 * l + 1 + j) i _ 0 h

module _ (S : Sizes) (o : ℕ) (s : List ℕ) (l j w : ℕ) (long : length s ≡ state_length S) (l_lt : l < nodes S) (j_lt : j < 6) where
  abbrev t : List ℕ
  t = changed S o l j w s

  pub long_kept : length t ≡ state_length S
  unfolding changed ruled_at added
  long_kept = simp length-set long

  pub heard_new : heard t l j ≡ add_marks (heard s l j) w
  unfolding changed ruled_at added
  heard_new =
      get_or-set_other (added l j w s) (7 * l) (7 * l + 1 + j) _ 0 (apart l l j j_lt)
      ∙ get_or-set_same s (7 * l + 1 + j) (add_marks (heard s l j) w) 0 (omega arith)

  heard_old : (k i : ℕ) → i < 6 → ((k ≡ l) × (i ≡ j)) ⊎ (heard t k i ≡ heard s k i)
  heard_old k i h = elim (ℕ_discrete (7 * k + 1 + i) (7 * l + 1 + j)) [
    | yes e ↦ inl (one_place k l i j h j_lt e)
    | no n ↦ inr (others_kept S o s l j w (7 * k + 1 + i) (apart k l i h) n)
  ]

  own_old : (k : ℕ) → k ≢ l → own t k ≡ own s k
  own_old k n = others_kept S o s l j w (7 * k) (omega arith) (omega arith)

  pub own_new : own t l ≡ rule_byte S o (heard t l)
  unfolding changed ruled_at added
  own_new =
      get_or-set_same (added l j w s) (7 * l) _ 0 (simp length-set (omega arith))
      ∙ ruled_same S o (heard (added l j w s) l) (heard t l) (λ i h. sym (get_or-set_other (added l j w s) (7 * l) (7 * l + 1 + i) _ 0 (apart l l i h)))

-- ---- marks are only added, and the state stays sound

module _ (m : Map) (o : ℕ) (s : List ℕ) (z : SoundOn m o s) (l j w : ℕ) (pr : T (pair m l j)) (held : w no_more_than says m.sizes s l j) where
  abbrev r : Talks m l j
  r = pair_talks m l j pr

  abbrev S : Sizes
  S = m.sizes

  abbrev u : List ℕ
  u = changed S o l j w s

  hit : heard u l j ≡ add_marks (heard s l j) w
  hit = heard_new S o s l j w z.long r.lt (dir_lt_six m l j r)

  cases : (k i : ℕ) → i < 6 → ((k ≡ l) × (i ≡ j)) ⊎ (heard u k i ≡ heard s k i)
  cases = heard_old S o s l j w z.long r.lt (dir_lt_six m l j r)

  old : (k : ℕ) → k ≢ l → own u k ≡ own s k
  old = own_old S o s l j w z.long r.lt (dir_lt_six m l j r)

  new : own u l ≡ rule_byte S o (heard u l)
  new = own_new S o s l j w z.long r.lt (dir_lt_six m l j r)

  pub heard_grows : (k i : ℕ) → i < 6 → heard s k i no_more_than heard u k i
  heard_grows k i h a x = elim (cases k i h) [
    | inl e ↦ rw (e.0, e.1, hit) ((added_marks (heard s l j) w a).1 (inl (rw (e.0, e.1) at x)))
    | inr e ↦ rw e x
  ]

  pub heard_gets : w no_more_than heard u l j
  heard_gets a x = rw hit ((added_marks (heard s l j) w a).1 (inr x))

  listener_grows : own s l no_more_than own u l
  listener_grows = rw (new, z.ruled l r.lt r.works_k) (ruled_grows S o (heard s l) (heard u l) λ i h a x. elim (cases l i h) [
    | inl e ↦ word_blocks (heard s l i) (heard u l i) (rw e.1 (z.words l j pr).0) (heard_grows l i h) a x
    | inr e ↦ rw e x
  ])

  pub own_grows : (k : ℕ) → own s k no_more_than own u k
  own_grows k = elim (ℕ_discrete k l) [ yes e ↦ rw e listener_grows | no n ↦ rw (old k n) (λ a x. x) ]

  -- what is not heard over a link stays
  kept : (k i : ℕ) → i < 6 → (T (pair m k i) → ⊥) → heard u k i ≡ heard s k i
  kept k i h n = elim (cases k i h) [ inl e ↦ absurd (n (rw (e.0, e.1) pr)) | inr e ↦ e ]

  pub changed_sound : SoundOn m o u
  changed_sound = record {
    long = long_kept S o s l j w z.long r.lt (dir_lt_six m l j r);
    failed = λ k h f. (
      old k (λ e. (T-no (faulty_node m l)).0 r.works_k (rw e at f)) ∙ (z.failed k h f).0,
      λ i q. kept k i q (λ t. (T-no (faulty_node m k)).0 (pair_talks m k i t).works_k f) ∙ (z.failed k h f).1 i q,
    );
    ruled = λ k h v. elim (ℕ_discrete k l) [
      | yes e ↦ rw e new
      | no n ↦ old k n ∙ z.ruled k h v ∙ ruled_same S o (heard s k) (heard u k)
          (λ i q. elim (cases k i q) [ inl e ↦ absurd (n e.0) | inr e ↦ sym e ])
    ];
    edge = λ k i h v q e. kept k i q (λ t. pair_edge m k i t e) ∙ z.edge k i h v q e;
    walled = λ k i q h v e b. kept k i (dir_led S (place_of S k) q i e) (λ t. pair_wall m k i q t e b) ∙ z.walled k i q h v e b;
    words = λ k i t. elim (cases k i (dir_lt_six m k i (pair_talks m k i t))) [
      | inl e ↦ rw (e.0, e.1, hit) (
        added_word (heard s l j) w,
        λ a x. own_grows (neighbour S l j) a (elim ((added_marks (heard s l j) w a).0 x) [ inl y ↦ (z.words l j pr).1 a y | inr y ↦ held a y ]),
      )
      | inr e ↦ rw e ((z.words k i t).0, λ a x. own_grows (neighbour S k i) a ((z.words k i t).1 a x))
    ];
  }

-- ---- nothing changes where a word has no new mark

set_itself : (s : List ℕ) (i : ℕ) → set s i (get_or s i 0) ≡ s
set_itself [] i = refl
set_itself (x ∷ s) zero = refl
set_itself (x ∷ s) (suc i) = ap (λ (t : List ℕ). x ∷ t) (set_itself s i)

added_none : (b w : ℕ) → T (is_word b) → w no_more_than b → add_marks b w ≡ b
added_none b w v f = word_same (add_marks b w) b (added_word b w) v λ a. bool_ext (has (add_marks b w) a) (has b a)
    (λ t. elim ((added_marks b w a).0 t) [ inl x ↦ x | inr x ↦ f a x ])
    (λ t. (added_marks b w a).1 (inl t))

pub nothing_new : (S : Sizes) (o : ℕ) (s : List ℕ) (k j w : ℕ) → T (is_word (heard s k j)) → own s k ≡ rule_byte S o (heard s k)
    → w no_more_than heard s k j
    → changed S o k j w s ≡ s
unfolding changed ruled_at added
nothing_new S o s k j w v e f =
    let same : set s (7 * k + 1 + j) (add_marks (heard s k j) w) ≡ s = rw (added_none (heard s k j) w v f) (set_itself s (7 * k + 1 + j)) in
    rw (same, sym e) (set_itself s (7 * k))
