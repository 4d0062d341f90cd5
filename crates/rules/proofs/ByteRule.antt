-- The mark rule as a talking node applies it, to the bytes that it heard "in place of its neighbours", is the mark rule. Assumes nothing.
use mathlib.Core.Path.{◌≡◌, refl, sym, ap, ◌∙◌, fun_ext}
use mathlib.Core.Bool.{Bool, true, false, not, ◌&&◌, ◌||◌}
use Prim.Native.Nat.{ℕ, ◌%◌, ◌≤◌, ◌<◌}
use lib.Dec.{T}
use Rattle.mesh.specs.Mesh.{Axis, Inside}
use Rattle.mesh.specs.Steps.{next, runs_down, ahead}
use Rattle.mesh.specs.Cells.{Map, faulty, works, wall}
use Rattle.rules.specs.Marks.{counted, rule, blocks_by, blocks, marked, Kind, heading, holds, byte_of, has, is_word, mark_at, byte_blocks, rule_byte, Heard, read_at}
use Rattle.mesh.proofs.Tests.{T-no, holds_true, cond_true, cond_false}
use Rattle.mesh.proofs.Steps.{dir_lt, next_in}
use Rattle.rules.proofs.Rule.{rule_same, wall_faulty, flat_heading}
use Rattle.rules.proofs.Stuck.{unique}
use Rattle.rules.proofs.Marks.{works_is}
use Rattle.rules.proofs.Bytes.{has_byte, byte_word, word_byte, one_blocks, eight_open, word_blocks, mark_works}
use Rattle.mesh.specs.declared.Sizes.{Sizes}
use Rattle.mesh.specs.declared.Place.{Place}
use Rattle.std.specs.Prelude.{Some, None, Option}

module _ (S : Sizes) where
  -- what the byte rule gives is a word
  pub ruled_word : (o : ℕ) (heard : ℕ → ℕ) → T (is_word (rule_byte S o heard))
  unfolding rule_byte
  ruled_word o heard = byte_word λ k. rule S (heading o k) λ j. byte_blocks (heard j) k

  byte_same : (o o' : ℕ) (b c : ℕ → Kind → Bool)
      → ((k : Kind) (a : Axis) → T (counted S a) → b (ahead (heading o k) a) k ≡ c (ahead (heading o' k) a) k)
      → byte_of (λ k. rule S (heading o k) λ j. b j k) ≡ byte_of (λ k. rule S (heading o' k) λ j. c j k)
  byte_same o o' b c e = ap byte_of (fun_ext λ k. rule_same S (heading o k) (heading o' k) (λ j. b j k) (λ j. c j k) (e k))

  -- it reads nothing but the six bytes
  pub heard_same : (o : ℕ) (heard heard' : ℕ → ℕ) → ((j : ℕ) → j < 6 → heard j ≡ heard' j) → rule_byte S o heard ≡ rule_byte S o heard'
  unfolding rule_byte
  heard_same o heard heard' e = byte_same o o (λ j. byte_blocks (heard j)) (λ j. byte_blocks (heard' j)) λ k a c.
      ap (λ (b : ℕ). byte_blocks b k) (e (ahead (heading o k) a) (dir_lt a (runs_down (heading o k) a)))

  -- "orientations 4 to 7 give what 0 to 3 give", for the byte rule too
  pub flat_byte : S.d ≡ 1 → (o : ℕ) → o ≤ 7 → (heard : ℕ → ℕ) → rule_byte S o heard ≡ rule_byte S (o % 4) heard
  unfolding rule_byte
  flat_byte flat o l heard = byte_same o (o % 4) (λ j. byte_blocks (heard j)) (λ j. byte_blocks (heard j)) λ k a c.
      ap (λ (j : ℕ). byte_blocks (heard j) k) (flat_heading S flat o l k a c)

module _ (m : Map) (p : Place) (heard : ℕ → ℕ) (g : Heard m p heard) where
  -- what p heard from a neighbour that does not block by itself says what `mark` says of it
  abbrev Says : (ℕ → Kind → Place → Bool) → Type 0
  Says mark = (j : ℕ) (q : Place) → next m.sizes p j ≡ Some q → T (not (wall m p j q)) → (k : Kind) → has (heard j) k ≡ mark j k q

  heard_blocks : (mark : ℕ → Kind → Place → Bool) → Says mark → (k : Kind) (j : ℕ) → j < 6 → byte_blocks (heard j) k ≡ blocks m (mark j k) p j
  heard_blocks mark f k j l = go (next m.sizes p j) refl
    where
      at : (q : Place) (b : Bool) → (T b → heard j ≡ 1) → (T (not b) → byte_blocks (heard j) k ≡ mark j k q) → byte_blocks (heard j) k ≡ b || mark j k q
      at q true d w = rw (d tt) (one_blocks k)
      at q false d w = w tt

      go : (n : Option Place) → next m.sizes p j ≡ n → byte_blocks (heard j) k ≡ blocks_by m (mark j k) p j n
      go (Some q) e = at q (wall m p j q) (g.dead j q e) (λ n. word_blocks (heard j) (g.word j q e n) k ∙ f j q e n k)
      go None e = rw (g.edge j l e) (eight_open k)

  says_rule : (o : ℕ) (mark : ℕ → Kind → Place → Bool) → Says mark
      → rule_byte m.sizes o heard ≡ byte_of λ k. rule m.sizes (heading o k) λ j. blocks m (mark j k) p j
  unfolding rule_byte
  says_rule o mark f = byte_same m.sizes o o (λ j. byte_blocks (heard j)) (λ j k. blocks m (mark j k) p j) λ k a c.
      heard_blocks mark f k (ahead (heading o k) a) (dir_lt a (runs_down (heading o k) a))

  -- a working node that heard its neighbours' marks, all of them and no others, gets its own
  pub heard_marks : (o : ℕ) → Inside m.sizes p → T (works m p)
      → ((j : ℕ) (q : Place) → next m.sizes p j ≡ Some q → T (not (wall m p j q)) → heard j ≡ byte_of (holds m o q))
      → rule_byte m.sizes o heard ≡ mark_at m o p
  heard_marks o i w r =
      says_rule o (λ j k q. holds m o q k) (λ j q e n. rw (r j q e n) (has_byte (holds m o q)))
      ∙ ap byte_of (fun_ext λ k. sym (works_is m (heading o k) p i w))
      ∙ sym (mark_works m o p w)

-- ---- each neighbour tells its byte

module _ (m : Map) (bytes : Place → ℕ) (p : Place) where
  read_word : (j : ℕ) (q : Place) → next m.sizes p j ≡ Some q → T (not (wall m p j q)) → read_at m bytes p j ≡ bytes q
  read_word j q e n = rw e (cond_false (wall m p j q) 1 (bytes q) n)

  -- what is read so is as it should be heard
  pub read_heard : ((j : ℕ) (q : Place) → next m.sizes p j ≡ Some q → T (not (wall m p j q)) → T (is_word (bytes q))) → Heard m p (read_at m bytes p)
  read_heard r = record {
    edge = λ j l e. rw e;
    dead = λ j q e t. rw e (cond_true (wall m p j q) 1 (bytes q) t);
    word = λ j q e n. rw (read_word j q e n) (r j q e n);
  }

  -- the byte rule is the rule of each mark, the neighbours' bytes saying which are marked
  pub byte_rule : (o : ℕ) → ((j : ℕ) (q : Place) → next m.sizes p j ≡ Some q → T (not (wall m p j q)) → T (is_word (bytes q)))
      → rule_byte m.sizes o (read_at m bytes p) ≡ byte_of λ k. rule m.sizes (heading o k) (blocks m (λ q. has (bytes q) k) p)
  byte_rule o r = says_rule m p (read_at m bytes p) (read_heard r) o (λ j k q. has (bytes q) k) λ j q e n k. ap (λ (b : ℕ). has b k) (read_word j q e n)

and_same : (b x y : Bool) → (T b → x ≡ y) → b && x ≡ b && y
and_same true x y f = f tt
and_same false x y f = refl

module _ (m : Map) (o : ℕ) where
  open_works : (p : Place) (j : ℕ) (q : Place) → T (not (wall m p j q)) → T (works m q)
  open_works p j q n = (T-no (faulty m q)).1 λ f. (T-no (wall m p j q)).0 n (wall_faulty m p j q f)

  -- the byte rule, reading the mark bytes, gives a working node's
  pub marks_ruled : (p : Place) → Inside m.sizes p → T (works m p) → rule_byte m.sizes o (read_at m (mark_at m o) p) ≡ mark_at m o p
  marks_ruled p i w =
      let told : (j : ℕ) (q : Place) → T (not (wall m p j q)) → mark_at m o q ≡ byte_of (holds m o q) = λ j q n. mark_works m o q (open_works p j q n) in
      let g = read_heard m (mark_at m o) p λ j q e n. rw (told j q n) (byte_word (holds m o q)) in
      heard_marks m p (read_at m (mark_at m o) p) g o i w λ j q e n. read_word m (mark_at m o) p j q e n ∙ told j q n

  -- bytes that follow the byte rule at every working node are the mark bytes
  pub bytes_unique : (bytes : Place → ℕ) → ((q : Place) → Inside m.sizes q → T (works m q) → bytes q ≡ rule_byte m.sizes o (read_at m bytes q))
      → (p : Place) → Inside m.sizes p → T (works m p) → bytes p ≡ mark_at m o p
  unfolding marked
  bytes_unique bytes r p i w =
      word_byte (bytes p) (word p i w)
      ∙ ap byte_of (fun_ext λ k. sym (held k p w) ∙ unique m (heading o k) (marks k) (ruled k) p i)
      ∙ sym (mark_works m o p w)
    where
      word : (q : Place) → Inside m.sizes q → T (works m q) → T (is_word (bytes q))
      word q iq wq = rw (r q iq wq) (ruled_word m.sizes o (read_at m bytes q))

      marks : Kind → Place → Bool
      marks k q = works m q && has (bytes q) k

      held : (k : Kind) (q : Place) → T (works m q) → marks k q ≡ has (bytes q) k
      held k q wq = ap (λ (t : Bool). t && has (bytes q) k) ((holds_true (works m q)).0 wq)

      words : (q : Place) → Inside m.sizes q → (j : ℕ) (u : Place) → next m.sizes q j ≡ Some u → T (not (wall m q j u)) → T (is_word (bytes u))
      words q iq j u e n = word u (next_in m.sizes q u iq j e) (open_works q j u n)

      ruled : (k : Kind) (q : Place) → Inside m.sizes q → marks k q ≡ marked m (heading o k) (marks k) q
      ruled k q iq = and_same (works m q) (has (bytes q) k) (rule m.sizes (heading o k) (blocks m (marks k) q)) λ wq.
          ap (λ (b : ℕ). has b k) (r q iq wq ∙ says_rule m q (read_at m bytes q) (read_heard m bytes q (words q iq)) o (λ j k. marks k)
          λ j u e n k. ap (λ (b : ℕ). has b k) (read_word m bytes q j u e n) ∙ sym (held k u (open_works q j u n)))
          ∙ has_byte (λ k. rule m.sizes (heading o k) (blocks m (marks k) q)) k
