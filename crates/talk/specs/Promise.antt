-- Demand 3: what the talking nodes promise, in the numbers that the calls return, whatever calls come: words in any order, late, repeated or
-- refused, questions between them, and refused makings. The calls are those of Entries, which the code's contracts name; `promise`,
-- `found_promise` and `made_promise` of proofs/ show that they keep it. Assumes nothing.
use Rattle.std.specs.Prelude.{List, ◌≢◌, ◌≡◌, ℕ, ◌+◌, ◌*◌, ◌<◌, ◌≤◌, T, get_or}
use Rattle.mesh.specs.Tools.{count}
use Rattle.mesh.specs.Mesh.{nodes, place_of}
use Rattle.mesh.specs.Cells.{Map}
use Rattle.mesh.specs.Answers.{answer_no, numbered_value}
use Rattle.rules.specs.Marks.{Kind, has, is_word, heading, holds, byte_of, stuck_within, mark_at}
use Rattle.mesh.specs.declared.Sizes.{Sizes}
use Rattle.talk.specs.State.{own, heard, SameAt, StateOf, works_node, pair, says}
use Rattle.talk.specs.Sound.{◌no_more_than◌, Sound}
use Rattle.talk.specs.Hear.{outstanding_on}
use Rattle.talk.specs.Entries.{outstanding_answer, hear_answer, hear_out}
use Rattle.talk.specs.Rounds.{Later, FullRounds}

-- W: the number of working nodes
abbrev pub workers : Map → ℕ
workers m = count (nodes m.sizes) (works_node m)

-- the full rounds that settle: 2 × W + 1; and fewer do
abbrev pub enough_rounds : Map → ℕ
enough_rounds m = 2 * workers m + 1

abbrev pub fewer_rounds : Map → ℕ
fewer_rounds m = workers m + 1

-- the number that hearing a word returns; the number and the count that are returned for the words outstanding
abbrev pub hear_refusal : Sizes → ℕ → ℕ → ℕ → ℕ → List ℕ → ℕ
hear_refusal S o k j w s = answer_no (hear_answer S o k j w s)

abbrev pub count_refusal : Sizes → ℕ → List ℕ → ℕ
count_refusal S o s = answer_no (outstanding_answer S o s)

abbrev pub count_of : Sizes → ℕ → List ℕ → ℕ
count_of S o s = numbered_value (outstanding_answer S o s)

module _ (m : Map) (o : ℕ) where
  abbrev S : Sizes
  S = m.sizes

  -- "Settled means 0."
  abbrev pub Settled : List ℕ → Type 0
  Settled t = (count_refusal S o t ≡ 0) × (count_of S o t ≡ 0)

  -- The promise of a map m, an orientation o, and a sound state s of that map: t is any state later than s, and u any later than t.
  pub record Promise (s : List ℕ) : Type 0 where
    -- a word heard changes two bytes of its listener alone, and what the listener then holds follows from the word and its own seven bytes;
    pub alone : (t : List ℕ) → Later S o s t → (k j w i : ℕ) → i ≢ 7 * k → i ≢ 7 * k + 1 + j → get_or (hear_out S o k j w t) i 0 ≡ get_or t i 0
    pub itself : (t : List ℕ) → Later S o s t → (v : List ℕ) (k j w : ℕ) → hear_refusal S o k j w t ≡ 0 → hear_refusal S o k j w v ≡ 0
        → SameAt k t v → SameAt k (hear_out S o k j w t) (hear_out S o k j w v)
    -- whatever calls come, the state stays sound, and a state of the map, and no mark is taken away;
    pub sound : (t : List ℕ) → Later S o s t → Sound S o t × StateOf m t
    pub kept : (t : List ℕ) → Later S o s t → (u : List ℕ) → Later S o t u → (k : ℕ) → k < nodes S → own t k no_more_than own u k
    -- a refused word changes nothing;
    pub refused : (t : List ℕ) → Later S o s t → (k j w : ℕ) → hear_refusal S o k j w t ≢ 0 → hear_out S o k j w t ≡ t
    -- a word that the speaker held at some moment is granted whenever it comes, and so is a weaker one;
    pub held : (t : List ℕ) → Later S o s t → (u : List ℕ) → Later S o t u → (k j : ℕ) → T (pair m k j)
        → hear_refusal S o k j (says S t k j) u ≡ 0
    pub weaker : (t : List ℕ) → Later S o s t → (u : List ℕ) → Later S o t u → (k j w : ℕ) → T (pair m k j) → T (is_word w)
        → w no_more_than says S t k j → hear_refusal S o k j w u ≡ 0
    -- late or repeated, with no mark that was not heard before, it is granted and changes nothing;
    pub late : (t : List ℕ) → Later S o s t → (k j w : ℕ) → T (pair m k j) → T (is_word w) → w no_more_than heard t k j
        → (hear_refusal S o k j w t ≡ 0) × (hear_out S o k j w t ≡ t)
    -- no node holds a mark that the rules do not give it;
    pub no_more : (t : List ℕ) → Later S o s t → (k : ℕ) → k < nodes S → (a : Kind) → T (has (own t k) a) → T (holds m o (place_of S k) a)
    -- the number outstanding is exact: the ordered pairs of a working listener and a working neighbour, counted link by link, that have news;
    pub exact : (t : List ℕ) → Later S o s t → (count_refusal S o t ≡ 0) × (count_of S o t ≡ outstanding_on m t)
    -- settled, each node's own byte is the mark byte of the rules;
    pub settled : (t : List ℕ) → Later S o s t → Settled t → (k : ℕ) → k < nodes S → own t k ≡ mark_at m o (place_of S k)
    -- 2 × W + 1 full rounds settle it, or more; W + 1 do (they lead to a later state: `rounds_later` of proofs/);
    pub settles : (t : List ℕ) → Later S o s t → (u : List ℕ) (n : ℕ) → enough_rounds m ≤ n → FullRounds m o u n t → Settled u
    pub settles_sooner : (t : List ℕ) → Later S o s t → (u : List ℕ) (n : ℕ) → fewer_rounds m ≤ n → FullRounds m o u n t → Settled u
    -- and there are full rounds, as many as one likes.
    pub rounds : (t : List ℕ) → Later S o s t → (n : ℕ) → (u : List ℕ) × FullRounds m o u n t

  -- The bytes of a fresh state are a sound state of the map, in which nodes know only failed neighbours: every word heard is 0, and a working
  -- node holds just the marks that one step ahead shows.
  pub record FreshPromise (new : List ℕ) : Type 0 where
    pub sound : Sound S o new
    pub state : StateOf m new
    pub silent : (k j : ℕ) → T (pair m k j) → heard new k j ≡ 0
    pub near : (k : ℕ) → k < nodes S → T (works_node m k) → own new k ≡ byte_of λ a. stuck_within 1 m (heading o a) (place_of S k)
