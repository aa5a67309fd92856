-- Seats found, added and taken out.
use Rattle.std.proofs.Common.{◌≡◌, ℕ, ◌+◌, ◌<◌, ◌≤◌, eqb, Bool, true, false, cond, List, [], ◌∷◌, ◌++◌, length, filter, find, map, slice_get, Option, Some, None, inl, inr, refl, ap, ◌∙◌, arith, length-append}
use Rattle.std.specs.Option.{option_and_then, option_map}
use Rattle.std.specs.List.{IsDistinct, AllByRecursion, list_any, position, position_from}
use Rattle.std.proofs.lemmas.Iterator.Adapters.{position_from-zero}
use Rattle.std.proofs.lemmas.Bool.{cases_Bool, eqb-true, false≢true}
use Rattle.std.proofs.lemmas.Bool.Decides.{nat_tests}
use Rattle.std.proofs.lemmas.Option.{slice_get_past}
use Rattle.std.proofs.lemmas.Map.Steps.{length-le_from_distinct_below}
use Rattle.mote_layout.specs.Memory.{domain_count}
use Rattle.mote_layout.specs.Limits.{subscribed_limit}
use Rattle.module_image.specs.declared.face.Provided.{Provided}
use Rattle.module_image.specs.declared.face.Subscribed.{Subscribed}
use Rattle.module_image.specs.Contents.{FaceRules}
use Rattle.module_image.specs.Links.{Seat, serves, place_of, seat_in, seat_of, provider_of, bound_slot}
use Rattle.func_link.specs.Links.{AreSeats}

-- The first of the seats that pass is the one that is looked for.
pub find-seat_in : (d : ℕ) (seats : List Seat) → find (λ (s : Seat). eqb s.domain d) seats ≡ seat_in d seats
find-seat_in d [] = refl
find-seat_in d (s ∷ seats) = ap (λ r. cond (eqb s.domain d) (Some s) r) (find-seat_in d seats)

pub find-seat_of : (id : ℕ) (seats : List Seat) → find (λ (s : Seat). eqb s.face.id id) seats ≡ seat_of id seats
find-seat_of id [] = refl
find-seat_of id (s ∷ seats) = ap (λ r. cond (eqb s.face.id id) (Some s) r) (find-seat_of id seats)

-- a choice that gives nothing
none_parts : (b : Bool) (s : Seat) (o : Option Seat) → cond b (Some s) o ≡ None → (b ≡ false) × (o ≡ None)
none_parts true s o e = absurd cc
none_parts false s o e = (refl, e)

-- a seat that is found is one of the seats
pub seat_in-fits : (d : ℕ) (seats : List Seat) (s : Seat) → AreSeats seats → seat_in d seats ≡ Some s → FaceRules s.face
seat_in-fits d [] s fits found = absurd cc
seat_in-fits d (t ∷ seats) s fits found =
    elim (cases_Bool (eqb t.domain d)) [
      | inl here ↦ let e = rw here at found in let same : t ≡ s = cc in rw (← same) fits.1
      | inr other ↦ let e = rw other at found in seat_in-fits d seats s fits.4 e
    ]

seat_in-outside : (d : ℕ) (seats : List Seat) → AreSeats seats → domain_count ≤ d → seat_in d seats ≡ None
seat_in-outside d [] fits outside = refl
seat_in-outside d (t ∷ seats) fits outside =
    let below : t.domain < domain_count = fits.0 in
    let other : eqb t.domain d ≡ false = grind (arith, nat_tests) in
    rw other (seat_in-outside d seats fits.4 outside)

-- No slot of a domain that isn't there is bound.
pub bound_slot-outside : (seats : List Seat) (d i : ℕ) → AreSeats seats → domain_count ≤ d → bound_slot seats d i ≡ None
bound_slot-outside seats d i fits outside = rw (seat_in-outside d seats fits outside) refl

unbound_by : (seats : List Seat) (i : ℕ) (o : Option Seat) → ((s : Seat) → o ≡ Some s → slice_get s.face.subscribed.items i ≡ None) → option_and_then (λ (user : Seat). option_and_then (provider_of seats) (slice_get user.face.subscribed.items i)) o ≡ None
unbound_by seats i None none = refl
unbound_by seats i (Some s) none = rw (none s refl) refl

-- No slot past the last is bound.
pub bound_slot-past : (seats : List Seat) (d i : ℕ) → AreSeats seats → subscribed_limit ≤ i → bound_slot seats d i ≡ None
bound_slot-past seats d i fits past =
    unbound_by seats i (seat_in d seats) (λ s found.
    let rules = seat_in-fits d seats s fits found in
    slice_get_past s.face.subscribed.items i (omega (arith, rules.subscribed_count, past)))

-- one more seat at the end
seat_in-push : (d : ℕ) (seats : List Seat) (x : Seat) → seat_in d seats ≡ None → eqb x.domain d ≡ false → seat_in d (seats ++ x ∷ []) ≡ None
seat_in-push d [] x none other = rw other refl
seat_in-push d (s ∷ seats) x none other =
    let parts = none_parts (eqb s.domain d) s (seat_in d seats) none in
    rw parts.0 (seat_in-push d seats x parts.1 other)

seat_of-push : (id : ℕ) (seats : List Seat) (x : Seat) → seat_of id seats ≡ None → eqb x.face.id id ≡ false → seat_of id (seats ++ x ∷ []) ≡ None
seat_of-push id [] x none other = rw other refl
seat_of-push id (s ∷ seats) x none other =
    let parts = none_parts (eqb s.face.id id) s (seat_of id seats) none in
    rw parts.0 (seat_of-push id seats x parts.1 other)

pub other_way : (a b : ℕ) → eqb a b ≡ false → eqb b a ≡ false
other_way a b differ = grind (arith, nat_tests)

pub AreSeats-push : (seats : List Seat) (x : Seat) → AreSeats seats → x.domain < domain_count → FaceRules x.face → seat_in x.domain seats ≡ None → seat_of x.face.id seats ≡ None → AreSeats (seats ++ x ∷ [])
AreSeats-push [] x fits within rules free new = (within, rules, refl, refl, tt)
AreSeats-push (s ∷ seats) x fits within rules free new =
    let frees = none_parts (eqb s.domain x.domain) s (seat_in x.domain seats) free in
    let news = none_parts (eqb s.face.id x.face.id) s (seat_of x.face.id seats) new in (
      fits.0,
      fits.1,
      seat_in-push s.domain seats x fits.2 (other_way s.domain x.domain frees.0),
      seat_of-push s.face.id seats x fits.3 (other_way s.face.id x.face.id news.0),
      AreSeats-push seats x fits.4 within rules frees.1 news.1,
    )

-- some of the seats
seat_in-filter : (test : Seat → Bool) (d : ℕ) (seats : List Seat) → seat_in d seats ≡ None → seat_in d (filter test seats) ≡ None
seat_in-filter test d [] none = refl
seat_in-filter test d (s ∷ seats) none =
    let parts = none_parts (eqb s.domain d) s (seat_in d seats) none in
    elim (cases_Bool (test s)) [
      | inl stays ↦ rw (stays, parts.0) (seat_in-filter test d seats parts.1)
      | inr goes ↦ rw goes (seat_in-filter test d seats parts.1)
    ]

seat_of-filter : (test : Seat → Bool) (id : ℕ) (seats : List Seat) → seat_of id seats ≡ None → seat_of id (filter test seats) ≡ None
seat_of-filter test id [] none = refl
seat_of-filter test id (s ∷ seats) none =
    let parts = none_parts (eqb s.face.id id) s (seat_of id seats) none in
    elim (cases_Bool (test s)) [
      | inl stays ↦ rw (stays, parts.0) (seat_of-filter test id seats parts.1)
      | inr goes ↦ rw goes (seat_of-filter test id seats parts.1)
    ]

pub AreSeats-filter : (test : Seat → Bool) (seats : List Seat) → AreSeats seats → AreSeats (filter test seats)
AreSeats-filter test [] fits = tt
AreSeats-filter test (s ∷ seats) fits =
    elim (cases_Bool (test s)) [
      | inl stays ↦
          rw stays (
            fits.0,
            fits.1,
            seat_in-filter test s.domain seats fits.2,
            seat_of-filter test s.face.id seats fits.3,
            AreSeats-filter test seats fits.4,
          )
      | inr goes ↦ rw goes (AreSeats-filter test seats fits.4)
    ]

-- Seats of different domains are no more than there are domains.
domains : List Seat → List ℕ
domains seats = map (λ (s : Seat). s.domain) seats

no_other : (d : ℕ) (seats : List Seat) → seat_in d seats ≡ None → AllByRecursion (λ (y : ℕ). eqb d y ≡ false) (domains seats)
unfolding domains
no_other d [] none = tt
no_other d (s ∷ seats) none =
    let parts = none_parts (eqb s.domain d) s (seat_in d seats) none in
    (other_way s.domain d parts.0, no_other d seats parts.1)

distinct_domains : (seats : List Seat) → AreSeats seats → IsDistinct eqb (domains seats)
unfolding domains IsDistinct
distinct_domains [] fits = tt
distinct_domains (s ∷ seats) fits = (no_other s.domain seats fits.2, distinct_domains seats fits.4)

domains_below : (seats : List Seat) → AreSeats seats → (q : ℕ) → list_any (eqb q) (domains seats) ≡ true → q < domain_count
unfolding domains
domains_below [] fits q any = absurd (false≢true any)
domains_below (s ∷ seats) fits q any =
    elim (cases_Bool (eqb q s.domain)) [
      | inl here ↦ let same : q ≡ s.domain = eqb-true q s.domain here in rw same fits.0
      | inr other ↦ let any' = rw other at any in domains_below seats fits.4 q any'
    ]

length-domains : (seats : List Seat) → length (domains seats) ≡ length seats
unfolding domains
length-domains [] = refl
length-domains (s ∷ seats) = omega (arith, length-domains seats)

pub length-seats : (seats : List Seat) → AreSeats seats → length seats ≤ domain_count
length-seats seats fits =
    rw (← length-domains seats) (length-le_from_distinct_below (domains seats) domain_count (distinct_domains seats fits) (domains_below seats fits))

-- The first of the provided functions that serves is the one that is looked for.
shifted : (k : ℕ) (o : Option ℕ) → option_map (λ (n : ℕ). k + 1 + n) o ≡ option_map (λ (n : ℕ). k + n) (option_map (λ (n : ℕ). n + 1) o)
shifted k None = refl
shifted k (Some n) = let e : k + 1 + n ≡ k + (n + 1) = omega arith in ap (λ (m : ℕ). Some m) e

position_from-place_of : (s : Subscribed) (k : ℕ) (ps : List Provided) → position_from (serves s) k ps ≡ option_map (λ (n : ℕ). k + n) (place_of s ps)
position_from-place_of s k [] = refl
position_from-place_of s k (p ∷ ps) =
    elim (cases_Bool (serves s p)) [
      | inl here ↦ let e : k ≡ k + 0 = omega arith in rw here (ap (λ (m : ℕ). Some m) e)
      | inr later ↦ rw later (position_from-place_of s (k + 1) ps ∙ shifted k (place_of s ps))
    ]

from_zero : (o : Option ℕ) → option_map (λ (n : ℕ). 0 + n) o ≡ o
from_zero None = refl
from_zero (Some n) = let e : 0 + n ≡ n = omega arith in ap (λ (m : ℕ). Some m) e

pub position-place_of : (s : Subscribed) (ps : List Provided) → position (serves s) ps ≡ place_of s ps
position-place_of s ps = position_from-zero (serves s) ps ∙ position_from-place_of s 0 ps ∙ from_zero (place_of s ps)

-- With room for one more, there are fewer than there are domains.
pub length-room : (seats : List Seat) (x : Seat) → AreSeats (seats ++ x ∷ []) → length seats < domain_count
length-room seats x fits = omega (arith, length-append seats (x ∷ []), length-seats (seats ++ x ∷ []) fits)
