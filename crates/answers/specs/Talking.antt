-- Demand 3 about calls, in the numbers that they return: "One map, one orientation, a sound state; words lost, repeated, late, out of order." Calls come one
-- after another, each as the page of the calls says, and what is promised holds of every state that they lead to. Assumes nothing.
use Rattle.std.specs.Prelude.{List, [], ◌∷◌, ◌++◌, ◌≢◌, ◌≡◌, ℕ, suc, ◌≤◌, ◌<◌, T}
use Rattle.mesh.specs.Mesh.{sizes, nodes, place_of}
use Rattle.mesh.specs.Cells.{Map, map_of}
use Rattle.rules.specs.Marks.{Kind, has, holds, mark_at}
use Rattle.talk.specs.State.{own, pair, says}
use Rattle.talk.specs.Hear.{outstanding_on}
use Rattle.talk.specs.Rounds.{Call, hearing, asking, making}
use Rattle.talk.specs.Promise.{enough_rounds, fewer_rounds}
use Rattle.answers.specs.Promises.{dk_fresh, dk_outstanding, dk_hear}
use Rattle.answers.specs.declared.DoneAnswer.{DoneAnswer}
use Rattle.answers.specs.declared.CountedAnswer.{CountedAnswer}

module _ (w h d o : ℕ) where
  -- Calls on a state, and the state that they lead to: words, granted or refused; questions; and makings, as long as they are refused ("none of which makes
  -- the state fresh again"). Hearings and makings with other sizes or another orientation belong to them where they are refused.
  pub data Lead : List ℕ → List Call → List ℕ → Type 0 where
    stays : {s : List ℕ} → Lead s [] s
    hears : {s t u : List ℕ} {cs : List Call} (k j word : ℕ) (answer : DoneAnswer)
        → dk_hear w h d o k j word s answer t → Lead t cs u → Lead s (hearing k j word ∷ cs) u
    asks : {s t : List ℕ} {cs : List Call} → Lead s cs t → Lead s (asking ∷ cs) t
    refuses : {s t u : List ℕ} {cs : List Call} (cells : List ℕ) (answer : DoneAnswer)
        → dk_fresh w h d o cells s answer t → answer.refusal ≢ 0 → Lead t cs u → Lead s (making cells ∷ cs) u
    not_heard : {s t u : List ℕ} {cs : List Call} (w' h' d' o' k j word : ℕ) (answer : DoneAnswer)
        → dk_hear w' h' d' o' k j word s answer t → answer.refusal ≢ 0 → Lead t cs u → Lead s (asking ∷ cs) u
    not_made : {s t u : List ℕ} {cs : List Call} (w' h' d' o' : ℕ) (cells : List ℕ) (answer : DoneAnswer)
        → dk_fresh w' h' d' o' cells s answer t → answer.refusal ≢ 0 → Lead t cs u → Lead s (asking ∷ cs) u

  module _ (cells : List ℕ) where
    abbrev m : Map
    m = map_of (sizes w h d) cells

    -- In the calls cs from s on, k hears from direction j "a word .. that the speaker held at some moment since the round began": in a state v that
    -- the calls before led to.
    pub record Told (s : List ℕ) (cs : List Call) (k j : ℕ) : Type 0 where
      pub before : List Call
      pub between : List Call
      pub since : List Call
      pub moment : List ℕ
      pub led : Lead s before moment
      pub parts : cs ≡ before ++ between ++ hearing k j (says (sizes w h d) moment k j) ∷ since

    -- n full rounds of calls lead from a state to t: "for each such pair, a word is heard"
    pub data LeadRounds (t : List ℕ) : ℕ → List ℕ → Type 0 where
      none : LeadRounds t 0 t
      more : {n : ℕ} {s u : List ℕ} (cs : List Call) → Lead s cs u → ((k j : ℕ) → T (pair m k j) → Told s cs k j) → LeadRounds t n u → LeadRounds t (suc n) s

    -- What is promised of the state s, a sound state of the map, whatever calls come: they lead to t.
    pub record Talking (s : List ℕ) : Type 0 where
      -- "No node ever holds a mark that the rules don't give it";
      pub no_more : (cs : List Call) (t : List ℕ) → Lead s cs t → (k : ℕ) → k < nodes (sizes w h d) → (a : Kind)
          → T (has (own t k) a) → T (holds m o (place_of (sizes w h d) k) a)
      -- "the count is exact": the call grants it, and counts the ordered pairs that have news;
      pub exact : (cs : List Call) (t : List ℕ) → Lead s cs t → (answer : CountedAnswer) → dk_outstanding w h d o t answer
          → (answer.refusal ≡ 0) × (answer.count ≡ outstanding_on m t)
      -- "with no news outstanding every node's marks are those of the rules";
      pub settled : (cs : List Call) (t : List ℕ) → Lead s cs t → (answer : CountedAnswer) → dk_outstanding w h d o t answer → answer.count ≡ 0
          → (k : ℕ) → k < nodes (sizes w h d) → own t k ≡ mark_at m o (place_of (sizes w h d) k)
      -- a word that the speaker held in t is granted in every later state u;
      pub granted : (cs : List Call) (t : List ℕ) → Lead s cs t → (more : List Call) (u : List ℕ) → Lead t more u → (k j : ℕ) → T (pair m k j)
          → (answer : DoneAnswer) (v : List ℕ) → dk_hear w h d o k j (says (sizes w h d) t k j) u answer v → answer.refusal ≡ 0
      -- "with W working nodes 2 × W + 1 full rounds always settle it", so many or more; W + 1 do; and there are full rounds, as many as one likes.
      pub settles : (cs : List Call) (t : List ℕ) → Lead s cs t → (u : List ℕ) (n : ℕ) → enough_rounds m ≤ n → LeadRounds u n t
          → (answer : CountedAnswer) → dk_outstanding w h d o u answer → (answer.refusal ≡ 0) × (answer.count ≡ 0)
      pub settles_sooner : (cs : List Call) (t : List ℕ) → Lead s cs t → (u : List ℕ) (n : ℕ) → fewer_rounds m ≤ n → LeadRounds u n t
          → (answer : CountedAnswer) → dk_outstanding w h d o u answer → (answer.refusal ≡ 0) × (answer.count ≡ 0)
      pub rounds : (cs : List Call) (t : List ℕ) → Lead s cs t → (n : ℕ) → (u : List ℕ) × LeadRounds u n t
