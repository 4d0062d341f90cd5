-- A stretch of calls keeps a state sound and takes no mark away; after a full round each listener has heard what the speaker held. Assumes nothing.
use mathlib.Core.Path.{◌≡◌, refl, sym, ap, ◌∙◌}
use mathlib.Core.Logic.{inl, inr}
use mathlib.Core.List.{List, [], ◌∷◌, ◌++◌}
use Prim.Native.Nat.{ℕ, ◌≤◌}
use lib.Dec.{T, eqb}
use lib.ListN.{length}
use Rattle.mesh.specs.Mesh.{in_range}
use Rattle.mesh.specs.Steps.{neighbour}
use Rattle.mesh.specs.Cells.{Map, map_of}
use Rattle.mesh.specs.Answers.{answer_no}
use Rattle.mesh.specs.declared.Sizes.{Sizes}
use Rattle.mesh.proofs.Tests.{T-and, T-eq, T-no}
use Rattle.talk.specs.State.{own, heard, pair, says}
use Rattle.talk.specs.Sound.{◌no_more_than◌, SoundOn, fresh}
use Rattle.talk.specs.Entries.{fresh_answer, fresh_out}
use Rattle.talk.specs.Rounds.{Call, hearing, asking, making, after, run, keeps, stretch, Later, held, FullRound, FullRounds, none, more}
use Rattle.talk.proofs.State.{pair_talks, dir_lt_six, speaker_lt, speaker_works}
use Rattle.talk.proofs.Same.{works_word}
use Rattle.talk.proofs.Hear.{heard_grows, heard_gets, own_grows, changed_sound}
use Rattle.talk.proofs.Calls.{unchanged, grants, hears}

-- ---- stretches, one after another

module _ (S : Sizes) (o : ℕ) where
  -- a making that is refused changes nothing
  pub making_kept : (s cells : List ℕ) → T (keeps S o s (making cells)) → fresh_out S cells o s ≡ s
  making_kept s cells t =
      let a = fresh_answer S cells o (length s) in
      unchanged a (fresh (map_of S cells) o) s λ e. (T-no (eqb (answer_no a) 0)).0 t ((T-eq (answer_no a) 0).1 e)

  pub run_append : (a b : List Call) (s : List ℕ) → run S o s (a ++ b) ≡ run S o (run S o s a) b
  run_append [] b s = refl
  run_append (c ∷ a) b s = run_append a b (after S o s c)

  pub stretch_split : (a b : List Call) (s : List ℕ) → T (stretch S o s (a ++ b)) → T (stretch S o s a) × T (stretch S o (run S o s a) b)
  stretch_split [] b s t = (tt, t)
  stretch_split (c ∷ a) b s t =
      let s' = after S o s c in
      let (k, r) = (T-and (keeps S o s c) (stretch S o s' (a ++ b))).0 t in
      let (x, y) = stretch_split a b s' r in
      ((T-and (keeps S o s c) (stretch S o s' a)).1 (k, x), y)

  pub stretch_join : (a b : List Call) (s : List ℕ) → T (stretch S o s a) → T (stretch S o (run S o s a) b) → T (stretch S o s (a ++ b))
  stretch_join [] b s t u = u
  stretch_join (c ∷ a) b s t u =
      let s' = after S o s c in
      let (x, y) = (T-and (keeps S o s c) (stretch S o s' a)).0 t in
      (T-and (keeps S o s c) (stretch S o s' (a ++ b))).1 (x, stretch_join a b s' y u)

  pub later_refl : (s : List ℕ) → Later S o s s
  later_refl s = record { calls = []; kept = tt; ends = refl }

  pub later_trans : (s t u : List ℕ) → Later S o s t → Later S o t u → Later S o s u
  later_trans s t u a b =
      record {
        calls = a.calls ++ b.calls;
        kept = stretch_join a.calls b.calls s a.kept (rw (← a.ends) b.kept);
        ends = b.ends ∙ ap (λ (v : List ℕ). run S o v b.calls) a.ends ∙ sym (run_append a.calls b.calls s);
      }

-- full rounds lead to a later state
pub rounds_later : (m : Map) (o : ℕ) (t : List ℕ) {n : ℕ} {s : List ℕ} → FullRounds m o t n s → Later m.sizes o s t
rounds_later m o t none = later_refl m.sizes o t
rounds_later m o t {s = s} (more cs f r) =
    let u = run m.sizes o s cs in
    later_trans m.sizes o s u t (record { calls = cs; kept = f.kept; ends = refl }) (rounds_later m o t r)

-- ---- what a stretch keeps

-- from s to t no mark was taken away, and t is sound on m
pub record Grown (m : Map) (o : ℕ) (s t : List ℕ) : Type 0 where
  pub sound : SoundOn m o t
  pub owns : (k : ℕ) → own s k no_more_than own t k
  pub hears : (k j : ℕ) → T (pair m k j) → heard s k j no_more_than heard t k j

module _ (m : Map) (o : ℕ) where
  abbrev S : Sizes
  S = m.sizes

  grown_refl : (s : List ℕ) → SoundOn m o s → Grown m o s s
  grown_refl s z = record { sound = z; owns = λ k a x. x; hears = λ k j t a x. x }

  grown_trans : (s t u : List ℕ) → Grown m o s t → Grown m o t u → Grown m o s u
  grown_trans s t u p q = record {
    sound = q.sound;
    owns = λ k a x. q.owns k a (p.owns k a x);
    hears = λ k j r a x. q.hears k j r a (p.hears k j r a x);
  }

  module _ (fit : T (in_range m.sizes)) (o_le : o ≤ 7) where
    after_grown : (c : Call) (s : List ℕ) → T (keeps S o s c) → SoundOn m o s → Grown m o s (after S o s c)
    after_grown (hearing k j w) s q z = elim (hears m o fit o_le s z k j w) [
      | inl h ↦ let (t, f, e) = h in rw e (record {
        sound = changed_sound m o s z k j w t f;
        owns = own_grows m o s z k j w t f;
        hears = λ l i r. heard_grows m o s z k j w t f l i (dir_lt_six m l i (pair_talks m l i r));
      })
      | inr e ↦ rw e (grown_refl s z)
    ]
    after_grown asking s q z = grown_refl s z
    after_grown (making cells) s q z = rw (making_kept S o s cells q) (grown_refl s z)

    run_grown : (cs : List Call) (s : List ℕ) → T (stretch S o s cs) → SoundOn m o s → Grown m o s (run S o s cs)
    run_grown [] s q z = grown_refl s z
    run_grown (c ∷ cs) s q z =
        let s' = after S o s c in
        let (k, r) = (T-and (keeps S o s c) (stretch S o s' cs)).0 q in
        let g = after_grown c s k z in
        grown_trans s s' (run S o s' cs) g (run_grown cs s' r g.sound)

    pub later_grown : (s t : List ℕ) → SoundOn m o s → Later S o s t → Grown m o s t
    later_grown s t z l = rw l.ends (run_grown l.calls s l.kept z)

    -- after a full round each listener has heard at least what the speaker held when the round began
    pub round_hears : (s : List ℕ) (cs : List Call) → SoundOn m o s → FullRound m o s cs
        → (k j : ℕ) → T (pair m k j) → says S s k j no_more_than heard (run S o s cs) k j
    round_hears s cs z f k j t a x =
        let r = f.each k j t in
        let u = run S o s r.before in
        let v = run S o u r.between in
        let w = held S o s r.before k j in
        let ab = r.before ++ r.between in
        let (qab, qc) = stretch_split S o ab (hearing k j w ∷ r.since) s (rw r.parts at f.kept) in
        let (qa, qb) = stretch_split S o r.before r.between s qab in
        let gu = run_grown r.before s qa z in
        let gv = run_grown r.between u qb gu.sound in
        let gc = after_grown (hearing k j w) v tt gv.sound in
        let gd = run_grown r.since (after S o v (hearing k j w)) (rw (run_append S o r.before r.between s) at qc) gc.sound in
        let p = pair_talks m k j t in
        let n = neighbour S k j in
        let since : says S s k j no_more_than w = gu.owns n in
        let word = works_word m o u gu.sound n (speaker_lt m k j p) (speaker_works m k j p) in
        let e = grants m o fit o_le v gv.sound k j w t word (gv.owns n) in
        rw
        (r.parts, run_append S o ab (hearing k j w ∷ r.since) s, run_append S o r.before r.between s)
        (gd.hears k j t a (rw e (heard_gets m o v gv.sound k j w t (gv.owns n) a (since a x))))
