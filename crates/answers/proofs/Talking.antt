-- Demand 3 about calls: any calls that are as the page says lead where the definitions' own calls do, so what is proved of those holds of them.
-- Assumes nothing.
use mathlib.Core.Bool.{not}
use mathlib.Core.List.{List, [], ◌∷◌, ◌++◌}
use mathlib.Core.Path.{◌≡◌, refl, sym, subst, ◌∙◌}
use Prim.Native.Nat.{ℕ}
use lib.Dec.{T, eqb}
use lib.ListN.{length}
use Rattle.mesh.specs.Mesh.{sizes, in_range}
use Rattle.mesh.specs.Cells.{Map, map_of}
use Rattle.mesh.specs.Answers.{answer_no, answer_bad, numbered_value}
use Rattle.mesh.specs.declared.Sizes.{Sizes}
use Rattle.mesh.proofs.Tests.{T-and, T-no, T-eq, holds_true}
use Rattle.mesh.proofs.Answers.{sizes_is}
use Rattle.mesh.proofs.Order.{passes}
use Rattle.talk.specs.State.{StateOf, says}
use Rattle.talk.specs.Entries.{fresh_answer, fresh_out, outstanding_answer, hear_answer, hear_out}
use Rattle.talk.specs.Rounds as Rounds
use Rattle.talk.specs.Rounds.{Call, hearing, asking, making, run, stretch, held, Later, FullRounds, none, more}
use Rattle.talk.specs.Calls.{fresh_checks, sound_checks}
use Rattle.talk.specs.Promise.{Promise}
use Rattle.talk.proofs.Entries.{fresh_call, outstanding_call, hear_call}
use Rattle.talk.proofs.Unique.{fresh_only, outstanding_only, hear_only}
use Rattle.talk.proofs.Promise.{promise}
use Rattle.answers.specs.Promises.{dk_fresh, dk_sound, dk_outstanding}
use Rattle.answers.specs.Talking.{Lead, Told, LeadRounds, Talking}
use Rattle.answers.specs.Fields.{done_fields}
use Rattle.answers.proofs.Promises.{fresh_fields, hear_fields}
use Rattle.talk.proofs.Later.{stretch_split}
use Rattle.answers.specs.declared.DoneAnswer.{DoneAnswer}
use Rattle.answers.specs.declared.CountedAnswer.{CountedAnswer}

module _ (w h d o : ℕ) where
  abbrev S : Sizes
  S = sizes w h d

  -- ---- where calls lead

  -- calls from t on run as from s, where t is s
  moved : (cs : List Call) (u s t : List ℕ) → t ≡ s → (u ≡ run S o t cs) × T (stretch S o t cs) → (u ≡ run S o s cs) × T (stretch S o s cs)
  moved cs u s t e = subst (λ (v : List ℕ). (u ≡ run S o v cs) × T (stretch S o v cs)) e

  lead_run : {s t : List ℕ} {cs : List Call} → Lead w h d o s cs t → (t ≡ run S o s cs) × T (stretch S o s cs)
  lead_run Lead.stays = (refl, tt)
  lead_run {s = s} {t = u} (Lead.hears {t = t} {cs = cs} k j word a c l) =
      let (_, _, e) = hear_only S o k j word s a.refusal (answer_no (hear_answer S o k j word s)) a.bad _ t (hear_out S o k j word s) c (hear_call S o k j word s) in
      moved cs u (hear_out S o k j word s) t e (lead_run l)
  lead_run (Lead.asks l) = lead_run l
  lead_run {s = s} {t = u} (Lead.refuses {t = t} {cs = cs} cells a c n l) =
      let no = answer_no (fresh_answer S cells o (length s)) in
      let (e, _, f) = fresh_only S cells o s a.refusal no a.bad _ t (fresh_out S cells o s) c (fresh_call S cells o s) in
      let (q, r) = moved cs u (fresh_out S cells o s) t f (lead_run l) in
      (q, (T-and (not (eqb no 0)) (stretch S o (fresh_out S cells o s) cs)).1 ((T-no (eqb no 0)).1 (λ z. n (e ∙ (T-eq no 0).0 z)), r))
  lead_run {s = s} {t = u} (Lead.not_heard {t = t} {cs = cs} w' h' d' o' k j word a c n l) = moved cs u s t (c.nothing n) (lead_run l)
  lead_run {s = s} {t = u} (Lead.not_made {t = t} {cs = cs} w' h' d' o' cells a c n l) = moved cs u s t (c.nothing n) (lead_run l)

  later : {s t : List ℕ} {cs : List Call} → Lead w h d o s cs t → Later S o s t
  later {cs = cs} l = let (e, k) = lead_run l in record { calls = cs; kept = k; ends = e }

  -- and the definitions' own calls lead where they run to
  run_lead : (cs : List Call) (s : List ℕ) → T (stretch S o s cs) → Lead w h d o s cs (run S o s cs)
  run_lead [] s k = Lead.stays
  run_lead (hearing k j word ∷ cs) s l =
      Lead.hears k j word (done_fields (hear_answer S o k j word s)) (hear_fields w h d o k j word s) (run_lead cs (hear_out S o k j word s) l)
  run_lead (asking ∷ cs) s l = Lead.asks (run_lead cs s l)
  run_lead (making cells ∷ cs) s l =
      let a = fresh_answer S cells o (length s) in
      let (n, r) = (T-and (not (eqb (answer_no a) 0)) (stretch S o (fresh_out S cells o s) cs)).0 l in
      Lead.refuses cells (done_fields a) (fresh_fields w h d o cells s) (λ e. (T-no (eqb (answer_no a) 0)).0 n ((T-eq (answer_no a) 0).1 e))
      (run_lead cs (fresh_out S cells o s) r)

  module _ (cells : List ℕ) where
    abbrev m : Map
    m = map_of S cells

    full : {t : List ℕ} {n : ℕ} {s : List ℕ} → LeadRounds w h d o cells t n s → FullRounds m o t n s
    full LeadRounds.none = none
    full {t = t} {s = s} (LeadRounds.more {n = n} cs l each r) =
        let (e, kept) = lead_run l in
        more cs (record { kept = kept; each = λ k j p. told k j (each k j p) }) (subst (FullRounds m o t n) e (full r))
      where
        told : (k j : ℕ) → Told w h d o cells s cs k j → Rounds.Told S o s cs k j
        told k j x = record {
          before = x.before;
          between = x.between;
          since = x.since;
          parts = subst (λ (v : List ℕ). cs ≡ x.before ++ x.between ++ hearing k j (says S v k j) ∷ x.since) (lead_run x.led).0 x.parts;
        }

    rounds_lead : {t : List ℕ} {n : ℕ} {s : List ℕ} → FullRounds m o t n s → LeadRounds w h d o cells t n s
    rounds_lead none = LeadRounds.none
    rounds_lead {s = s} (more cs f r) = LeadRounds.more cs (run_lead cs s f.kept) (λ k j p. told k j (f.each k j p)) (rounds_lead r)
      where
        told : (k j : ℕ) → Rounds.Told S o s cs k j → Told w h d o cells s cs k j
        told k j x =
            let rest = hearing k j (held S o s x.before k j) ∷ x.since in
            let (ab, _) = stretch_split S o (x.before ++ x.between) rest s (rw x.parts at f.kept) in
            record {
              before = x.before;
              between = x.between;
              since = x.since;
              moment = run S o s x.before;
              led = run_lead x.before s (stretch_split S o x.before x.between s ab).0;
              parts = x.parts;
            }

    -- ---- what is promised

    -- the call's answer is that of the definitions
    counted : (t : List ℕ) (a : CountedAnswer) → dk_outstanding w h d o t a → (n : ℕ)
        → (answer_no (outstanding_answer S o t) ≡ 0) × (numbered_value (outstanding_answer S o t) ≡ n) → (a.refusal ≡ 0) × (a.count ≡ n)
    counted t a c n (e, f) =
        let b = outstanding_answer S o t in
        let (x, _, y) = outstanding_only S o t a.refusal (answer_no b) a.bad (answer_bad b) a.count (numbered_value b) c (outstanding_call S o t) in
        (x ∙ e, y ∙ f)

    kept : (s : List ℕ) → Promise m o s → Talking w h d o cells s
    kept s p = record {
      no_more = λ cs t l. p.no_more t (later l);
      exact = λ cs t l a c. counted t a c _ (p.exact t (later l));
      settled = λ cs t l a c z.
          let b = outstanding_answer S o t in
          let (x, _, y) = outstanding_only S o t a.refusal (answer_no b) a.bad (answer_bad b) a.count (numbered_value b) c (outstanding_call S o t) in
          p.settled t (later l) ((p.exact t (later l)).0, sym y ∙ z);
      granted = λ cs t l more u q k j r a v c.
          let (x, _, _) = hear_only S o k j _ u a.refusal _ a.bad _ v _ c (hear_call S o k j _ u) in
          x ∙ p.held t (later l) u (later q) k j r;
      settles = λ cs t l u n e r a c. counted u a c 0 (p.settles t (later l) u n e (full r));
      settles_sooner = λ cs t l u n e r a c. counted u a c 0 (p.settles_sooner t (later l) u n e (full r));
      rounds = λ cs t l n. let (u, r) = p.rounds t (later l) n in (u, rounds_lead r);
    }

    -- a state of the map that the call finds sound, and one that the call makes of it
    pub talking_found : (s : List ℕ) (a : DoneAnswer) → dk_sound w h d o s a → a.refusal ≡ 0 → StateOf m s → Talking w h d o cells s
    talking_found s a c g of =
        let (i, (_, (l, (z, _)))) = (passes (sound_checks S o s) a.refusal tt c.order).0 g in
        kept s (promise m o ((holds_true (in_range S)).1 (sizes_is S i)) l s z of)

    pub talking_made : (old new : List ℕ) (a : DoneAnswer) → dk_fresh w h d o cells old a new → a.refusal ≡ 0 → Talking w h d o cells new
    talking_made old new a c g =
        let (i, (_, (_, (_, (l, _))))) = (passes (fresh_checks S cells o old) a.refusal tt c.order).0 g in
        let f = c.granted g in
        kept new (promise m o ((holds_true (in_range S)).1 (sizes_is S i)) l new f.sound f.state)
