-- Words said one after the other are said together. Assumes nothing.
use mathlib.Core.Path.{◌≡◌, refl, sym, ap, ◌∙◌, subst}
use mathlib.Core.List.{List, [], ◌∷◌, ◌++◌, append_assoc, append-nil}
use Prim.Native.Nat.{ℕ, suc, ◌+◌, ◌*◌, ◌≤◌, ◌<◌}
use native.Mathlib.Nat.{add-zero, mul-suc, mul-le-mul_left}
use native.Mathlib.Numerals.{add-one}
use native.Mathlib.Omega.{arith}
use lib.ListN.{length, set, take, drop, length-append, take-append-drop}
use lib.Seq.{set_split}
use Rattle.octets.specs.Stored.{stored}
use Rattle.octets.proofs.Stored.{length_stored, stored_next}
use Rattle.text.specs.Text.{pieces, Said, Added}
use Rattle.text.proofs.Adding.{written, pieces_more}

module _ {old : List ℕ} {at : ℕ} {word new : List ℕ} {next : ℕ} (fits : at + length word ≤ length old) (s : Said old at word new next) where
  pub said_size : length new ≡ length old
  said_size = ap length s.bytes ∙ length_stored old at word fits

  pub said_next : {more last : List ℕ} {end : ℕ} → Said new next more last end → Said old at (word ++ more) last end
  said_next {more} {last} {end} t =
      record {
        place = omega (arith, t.place, s.place, length-append word more);
        bytes =
            t.bytes
            ∙ ap (λ (l : List ℕ). stored l next more) s.bytes
            ∙ ap (λ (n : ℕ). stored (stored old at word) n more) s.place
            ∙ stored_next old at word fits more;
      }

pub said_none : (old : List ℕ) (at : ℕ) → Said old at [] old at
said_none old at =
    record { place = omega arith; bytes = sym (rw (add-zero at, append-nil (take at old)) (take-append-drop at old)) }

-- one byte stored is one byte said
pub said_byte : (old : List ℕ) (at b : ℕ) → at < length old → Said old at (b ∷ []) (set old at b) (at + 1)
said_byte old at b h =
    record {
      place = omega arith;
      bytes = sym (rw add-one (append_assoc (take at old) (b ∷ []) (drop (suc at) old) ∙ sym (set_split old at b h)));
    }

-- the same words, otherwise written
pub said_as : {old : List ℕ} {at : ℕ} {word other new : List ℕ} {next : ℕ} → word ≡ other → Said old at word new next → Said old at other new next
said_as {old} {at} {new = new} {next = next} e s = subst (λ (t : List ℕ). Said old at t new next) e s

-- what a page that was blank has, said from a place on
pub said_page : {blank text page shown old new : List ℕ} {w at next : ℕ} → blank ≡ [] → Added blank text w page → shown ≡ page
    → Said old at shown new next → Said old at text new next × (next ≤ at + w)
said_page {blank} f a e s = (said_as (e ∙ written f a) s, omega (arith, s.place, a.in_room, ap length e, ap length f))

-- two texts one after the other, each with its room
pub said_then : (w v : ℕ) {old : List ℕ} {at : ℕ} {word new : List ℕ} {next : ℕ} {more last : List ℕ} {end : ℕ} → at + w ≤ length old
    → Said old at word new next × (next ≤ at + w) → Said new next more last end × (end ≤ next + v)
    → Said old at (word ++ more) last end × (end ≤ at + (w + v))
said_then w v fits (s, h) (t, k) = (said_next (omega (arith, s.place)) s t, omega arith)

-- n of m pieces have been said from `at` on, each of at most w bytes
pub record Saying (f : ℕ → List ℕ) (w m : ℕ) (old : List ℕ) (at n : ℕ) (new : List ℕ) (next : ℕ) : Type 0 where
  pub fits : at + w * m ≤ length old
  pub size : length new ≡ length old
  pub room : next ≤ at + w * n
  pub said : Said old at (pieces f n) new next

pub saying_none : (f : ℕ → List ℕ) (w m : ℕ) (old : List ℕ) (at : ℕ) → at + w * m ≤ length old → Saying f w m old at 0 old at
unfolding pieces
saying_none f w m old at fits = record { fits = fits; size = refl; room = omega arith; said = said_none old at }

pub saying_more : {f : ℕ → List ℕ} {w m : ℕ} {old : List ℕ} {at n : ℕ} {new : List ℕ} {next : ℕ} {last : List ℕ} {end : ℕ} → n < m
    → Saying f w m old at n new next → Said new next (f n) last end × (end ≤ next + w) → Saying f w m old at (n + 1) last end
saying_more {f} {w} {m} {n = n} h s (t, k) =
    let e : w * (n + 1) ≡ w * n + w = ap (λ (k : ℕ). w * k) (add-one n) ∙ mul-suc w n in
    let all : w * (n + 1) ≤ w * m = mul-le-mul_left w (omega arith) in
    record {
      fits = s.fits;
      size = said_size (omega (arith, t.place, s.size, s.room, s.fits)) t ∙ s.size;
      room = omega (arith, s.room);
      said = said_as (sym (pieces_more f n)) (said_next (omega (arith, s.said.place, s.room, s.fits)) s.said t);
    }
