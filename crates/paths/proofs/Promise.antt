-- Demand 2 for routes: the three calls keep the promise of specs/Promise, whatever is asked. Each contract fixes the answer and what is lent,
-- so it is enough that the definitions keep it: the checks say what is granted (Verdicts), the laws of paths what is written. Assumes nothing.
use mathlib.Core.Path.{◌≡◌, refl, sym, ap, ◌∙◌}
use mathlib.Core.Logic.{◌↔◌, ◌≢◌}
use mathlib.Core.List.{List, [], ◌∷◌, ◌++◌}
use Prim.Native.Nat.{ℕ, ◌+◌, ◌<◌, ◌≤◌}
use native.Mathlib.Omega.{arith}
use lib.Dec.{T, eqb}
use lib.ListN.{length, get_or, drop, get_or-append}
use Rattle.mesh.specs.Tools.{bit, count}
use Rattle.mesh.specs.Mesh.{nodes, number, place_of}
use Rattle.mesh.specs.Cells.{Map, map_of}
use Rattle.mesh.specs.Answers.{answer_no, answer_bad, granted, answered, numbered_value, Answer}
use Rattle.mesh.specs.Order.{Check, ◌else◌, ◌give◌, NamesBad}
use Rattle.mesh.proofs.Tests.{T-eq}
use Rattle.mesh.proofs.Bits.{bit_le, bit_one}
use Rattle.mesh.proofs.Tables.{sum_same}
use Rattle.mesh.proofs.Numbers.{number_of, number_lt, place_in, place_of_lem}
use Rattle.mesh.proofs.Steps.{next_in}
use Rattle.mesh.proofs.Order.{unused, passes, fails_at, gives, not_zero}
use Rattle.mesh.specs.declared.Sizes.{Sizes}
use Rattle.mesh.specs.declared.Place.{Place}
use Rattle.paths.specs.Differences.{hops}
use Rattle.paths.specs.Paths.{Leads, leads}
use Rattle.paths.specs.Offered.{offered, route, reached, reached_at, reached_count}
use Rattle.paths.specs.Entries.{verdict_hops, verdict_offered, grant, verdict_check, verdict_answer, route_length, route_check, route_answer, route_written, route_out, reached_check, reached_answer, reached_written, reached_out}
use Rattle.paths.specs.Promise.{Asked, BothWork, Joined, end_checks, path_checks, Spread, VerdictPromise, RoutePromise, ReachedPromise, Promise}
use Rattle.paths.proofs.Differences.{hops_zero, hops_le}
use Rattle.paths.proofs.Paths.{leads_iff, path_iff}
use Rattle.paths.proofs.Offered.{offered_bit, offered_lt, offered_end, route_lowest, route_leads, route_length_lem}
use Rattle.paths.proofs.Reached.{start_reached, reached_on, closed_refuses, reached_length, reached_byte, byte_iff, end_byte}
use Rattle.paths.proofs.Direct.{path_direct, begins_iff, lowest_takes}
use Rattle.paths.proofs.Verdicts.{route_checks, reached_checks, ends_pass, path_passes, route_passes, reached_passes, verdict_decided, route_decided, reached_decided, verdict_names, route_names, reached_names}
use Rattle.std.specs.Prelude.{Ok, Err}

both : {A B C : Type 0} → A ↔ B → B ↔ C → A ↔ C
both f g = (λ a. g.0 (f.0 a), λ c. f.1 (g.1 c))

module _ (S : Sizes) (cells : List ℕ) (s e : ℕ) where
  abbrev m : Map
  m = map_of S cells

  abbrev from : Place
  from = place_of S s

  abbrev to : Place
  to = place_of S e

  -- refused by 10, whatever is checked after the path
  ten : (after : List Check) (refusal : ℕ) → T (unused 10 after) → path_checks S cells s e ++ after give refusal
      → (refusal ≡ 10) ↔ (Asked S cells s e × BothWork S cells s e × (Joined S cells s e → ⊥))
  ten after refusal u g =
      let (f, h) = fails_at (end_checks S cells s e) (Joined S cells s e else 10) after refusal tt u (λ z. omega arith) g in (
        λ z. let (p, n) = f z in let (q, b) = (ends_pass S cells s e).0 p in (q, b, n),
        λ w. let (q, b, n) = w in h ((ends_pass S cells s e).1 (q, b), n),
      )

  -- ---- the verdict

  -- Numbers keep the promise if the checks give the refusal, it names the bad cell, and the values are as defined or 0; the call's are such. The
  -- same for the route, and for what is reached.
  verdict_kept : (refusal bad n o : ℕ) → path_checks S cells s e give refusal → NamesBad S cells refusal bad
      → (refusal ≡ 0 → (n ≡ hops from to) × (o ≡ offered m to from)) → (refusal ≢ 0 → (n ≡ 0) × (o ≡ 0)) → VerdictPromise S cells s e refusal bad n o
  verdict_kept refusal bad n o g b done refused =
      let grants = both (passes (path_checks S cells s e) refusal tt g) (path_passes S cells s e) in
      record {
        order = g;
        no_path = ten [] refusal tt g;
        granted = grants;
        names_bad = b;
        far = λ z.
            let (q, _) = grants.0 z in
            let (f, _) = done z in
            (f, rw f (hops_le S from to q.map.sized (place_in S s q.start_in) (place_in S e q.end_in)));
        offers = λ z.
            let (q, p) = grants.0 z in
            let (a, b, _) = (path_iff m from to (place_in S s q.start_in)).0 p in
            let (_, f) = done z in
            rw f (offered_lt m to from, λ j l. both (offered_bit m to from j l) (begins_iff S cells s e s q.start_in a b j));
        itself = λ z same.
            let (f, k) = done z in
            let h : from ≡ to = ap (place_of S) same in
            (f ∙ (hops_zero from to).1 h, k ∙ ap (offered m to) h ∙ offered_end m to);
        nothing = refused;
      }

  verdict_promise :
      let v = verdict_answer S cells s e in
      VerdictPromise S cells s e (answer_no v) (answer_bad v) (verdict_hops v) (verdict_offered v)
  unfolding verdict_answer
  verdict_promise =
      let check = verdict_check S cells s e in
      go check (gives (path_checks S cells s e) check (verdict_decided S cells s e)) (verdict_names S cells s e)
    where
      go : (a : Answer) → path_checks S cells s e give answer_no a → NamesBad S cells (answer_no a) (answer_bad a)
          → let v = answered a (grant (hops from to) (offered m to from)) in VerdictPromise S cells s e (answer_no v) (answer_bad v) (verdict_hops v) (verdict_offered v)
      go (Ok _) g b = verdict_kept _ _ _ _ g b (λ _. (refl, refl)) (λ n. absurd (n refl))
      go (Err r) g b = verdict_kept _ _ _ _ g b (λ z. absurd (not_zero r z)) (λ _. (refl, refl))

  -- ---- the route

  route_kept : (old : List ℕ) (refusal bad n : ℕ) (new : List ℕ) → route_checks S cells s e (length old) give refusal
      → NamesBad S cells refusal bad → (refusal ≡ 0 → (n ≡ route_length S s e) × (new ≡ route_written S cells s e old))
      → (refusal ≢ 0 → (n ≡ 0) × (new ≡ old)) → RoutePromise S cells s e old refusal bad n new
  unfolding route_written
  route_kept old refusal bad n new g b done refused =
      let grants = both (passes (route_checks S cells s e (length old)) refusal tt g) (route_passes S cells s e (length old)) in
      record {
        order = g;
        no_path = ten ((hops from to + 1 ≤ length old) else 3 ∷ []) refusal tt g;
        granted = grants;
        names_bad = b;
        written = λ z.
            let (q, p, _) = grants.0 z in
            let i = place_in S s q.start_in in
            let (a, b, t) = (path_iff m from to i).0 p in
            let (f, k) = done z in (
              f,
              (
                route m to from,
                route_length_lem m to from i t ∙ sym f,
                rw f k,
                record { start_may = a; end_may = b; leading = route_leads m to from i t },
                lowest_takes S cells s e (route_lowest m to from i t) i a b,
              ),
            );
        nothing = refused;
      }

  route_promise : (old : List ℕ) → let a = route_answer S cells s e (length old) in
      RoutePromise S cells s e old (answer_no a) (answer_bad a) (numbered_value a) (route_out S cells s e old)
  unfolding route_answer
  route_promise old =
      let check = route_check S cells s e (length old) in
      go check (gives (route_checks S cells s e (length old)) check (route_decided S cells s e (length old))) (route_names S cells s e (length old))
    where
      go : (a : Answer) → route_checks S cells s e (length old) give answer_no a → NamesBad S cells (answer_no a) (answer_bad a)
          → let v = answered a (route_length S s e) in RoutePromise S cells s e old (answer_no v) (answer_bad v) (numbered_value v) (granted a (route_written S cells s e old) old)
      go (Ok _) g b = route_kept old _ _ _ _ g b (λ _. (refl, refl)) (λ n. absurd (n refl))
      go (Err r) g b = route_kept old _ _ _ _ g b (λ z. absurd (not_zero r z)) (λ _. (refl, refl))

  -- ---- what is reached

  abbrev bytes : List ℕ
  bytes = reached m from to

  -- where the call is granted: the bytes in front, and what each of them says
  module _ (old new : List ℕ) (q : Asked S cells s e) (works : BothWork S cells s e) (is : new ≡ bytes ++ drop (nodes S) old) where
    out_byte : (k : ℕ) → k < nodes S → get_or new k 0 ≡ get_or bytes k 0
    out_byte k l = ap (λ (b : List ℕ). get_or b k 0) is ∙ get_or-append bytes (drop (nodes S) old) 0 k (rw (reached_length m from to) l)

    node_byte : (k : ℕ) → k < nodes S → (get_or bytes k 0 ≡ 1) ↔ T (leads m to from (place_of S k))
    node_byte k l = rw (ap (λ (n : ℕ). get_or bytes n 0) (sym (number_of S k))) (byte_iff m from to (place_of S k) (place_in S k l))

    out_iff : (k : ℕ) → k < nodes S → (get_or new k 0 ≡ 1) ↔ T (leads m to from (place_of S k))
    out_iff k l = rw (out_byte k l) (node_byte k l)

    said : (k : ℕ) → k < nodes S → (get_or bytes k 0 ≤ 1) × ((get_or bytes k 0 ≡ 1) ↔ ((l : List ℕ) × Leads m to from (place_of S k) l))
    said k l = (
      rw (reached_byte m from to k l) (bit_le (reached_at m from to k)),
      both (node_byte k l) (leads_iff m to from (place_of S k) (place_in S s q.start_in)),
    )

    counted : reached_count m from to ≡ count (nodes S) λ k. eqb (get_or bytes k 0) 1
    unfolding reached_count
    counted = sum_same (nodes S) _ _ λ k l.
        let f : eqb (get_or bytes k 0) 1 ≡ reached_at m from to k = rw (reached_byte m from to k l) (bit_one (reached_at m from to k)) in
        ap bit (sym f)

    end_iff : (get_or new e 0 ≡ 1) ↔ Joined S cells s e
    end_iff =
        let i = place_in S s q.start_in in
        let k = place_in S e q.end_in in
        rw (out_byte e q.end_in, ap (λ (n : ℕ). get_or bytes n 0) (sym (number_of S e))) (end_byte m from to i k works.0 works.1)

    out_spread : Spread S cells s e new
    out_spread =
        let i = place_in S s q.start_in in
        record {
          start_one = (out_iff s q.start_in).1 (start_reached m to from i);
          closed = λ k j r l one h y.
              let r-in = next_in S (place_of S k) r (place_in S k l) j h in
              let t = reached_on m to from i (place_of S k) r j ((out_iff k l).0 one) h y in
              (out_iff (number S r) (number_lt S r r-in)).1 (rw (place_of_lem S r r-in) t);
        }

  reached_kept : (old : List ℕ) (refusal bad n : ℕ) (new : List ℕ) → reached_checks S cells s e (length old) give refusal
      → NamesBad S cells refusal bad → (refusal ≡ 0 → (n ≡ reached_count m from to) × (new ≡ reached_written S cells s e old))
      → (refusal ≢ 0 → (n ≡ 0) × (new ≡ old)) → ReachedPromise S cells s e old refusal bad n new
  unfolding reached_written
  reached_kept old refusal bad n new g b done refused =
      let grants = both (passes (reached_checks S cells s e (length old)) refusal tt g) (reached_passes S cells s e (length old)) in
      record {
        order = g;
        granted = grants;
        names_bad = b;
        written = λ z.
            let (q, w, _) = grants.0 z in
            let (f, k) = done z in
            (bytes, reached_length m from to, k, said old new q w k, f ∙ counted old new q w k);
        spread = λ z. let (q, w, _) = grants.0 z in out_spread old new q w (done z).1;
        end_one = λ z. let (q, w, _) = grants.0 z in end_iff old new q w (done z).1;
        nothing = refused;
      }

  reached_promise : (old : List ℕ) → let a = reached_answer S cells s e (length old) in
      ReachedPromise S cells s e old (answer_no a) (answer_bad a) (numbered_value a) (reached_out S cells s e old)
  unfolding reached_answer
  reached_promise old =
      let check = reached_check S cells s e (length old) in
      go check (gives (reached_checks S cells s e (length old)) check (reached_decided S cells s e (length old))) (reached_names S cells s e (length old))
    where
      go : (a : Answer) → reached_checks S cells s e (length old) give answer_no a → NamesBad S cells (answer_no a) (answer_bad a)
          → let v = answered a (reached_count m from to) in ReachedPromise S cells s e old (answer_no v) (answer_bad v) (numbered_value v) (granted a (reached_written S cells s e old) old)
      go (Ok _) g b = reached_kept old _ _ _ _ g b (λ _. (refl, refl)) (λ n. absurd (n refl))
      go (Err r) g b = reached_kept old _ _ _ _ g b (λ z. absurd (not_zero r z)) (λ _. (refl, refl))

  -- ---- the whole

  -- where bytes so spread miss the end, whoever made them
  no_way : Asked S cells s e → (b : List ℕ) → Spread S cells s e b → (get_or b e 0 ≡ 1 → ⊥) → Joined S cells s e → ⊥
  no_way q b w none (l, p) = closed_refuses m from to (place_in S s q.start_in) (λ r. eqb (get_or b (number S r) 0) 1)
      ((T-eq _ _).1 (ap (λ (k : ℕ). get_or b k 0) (number_of S s) ∙ w.start_one))
      (λ p r j i t h y. (T-eq _ _).1 (w.closed (number S p) j r (number_lt S p i) ((T-eq _ _).0 t) (rw (place_of_lem S p i) h) (rw (place_of_lem S p i) y)))
      (λ t. none (sym (ap (λ (k : ℕ). get_or b k 0) (number_of S e)) ∙ (T-eq _ _).0 t))
      l p

  pub promise : Promise S cells s e
  promise = record {
    direct = λ q. path_direct S cells s e q.start_in q.end_in;
    shown = no_way;
    verdict = verdict_promise;
    route = route_promise;
    reached = reached_promise;
  }
