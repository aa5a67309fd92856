-- What a slot leads to: found by looking for it, and where it leads it is found.
use Rattle.std.proofs.Common.{◌≡◌, ◌⊎◌, ℕ, ◌+◌, ◌≤◌, zero, suc, eqb, nat_eq, Bool, true, false, cond, List, [], ◌∷◌, length, slice_get, Option, Some, None, inl, inr, refl, sym, ap, ◌∙◌, arith}
use Rattle.std.specs.List.{Contains}
use Rattle.std.specs.Option.{option_and_then, option_map}
use Rattle.std.specs.Cmp.Lexicographic.{pointwise, bytes_decides}
use Rattle.std.proofs.lemmas.Bool.{cases_Bool, eqb-true, eq-eqb, false≢true}
use Rattle.std.proofs.lemmas.Bool.Decides.{nat_tests}
use Rattle.std.proofs.lemmas.Option.{slice_get_within, get_or_from_slice_get, slice_get_read, option_and_then_some, some_pair_parts}
use Rattle.module_image.specs.declared.face.Provided.{Provided}
use Rattle.module_image.specs.declared.face.Subscribed.{Subscribed}
use Rattle.module_image.specs.Contents.{FaceRules, AreProvided}
use Rattle.module_image.specs.Links.{Seat, serves, place_of, seat_in, seat_of, provider_of, bound_slot}
use Rattle.func_link.specs.Links.{AreSeats, Leads}
use Rattle.func_link.proofs.Seats.{other_way}

-- the k-th of the seats is one of them
contains : (seats : List Seat) (k : ℕ) (s : Seat) → slice_get seats k ≡ Some s → Contains seats s
contains seats k s at = (k, slice_get_within seats k s at, get_or_from_slice_get seats k s s at)

-- a choice that gives a seat
some_parts : (b : Bool) (t s : Seat) (o : Option Seat) → cond b (Some t) o ≡ Some s → ((b ≡ true) × (t ≡ s)) ⊎ ((b ≡ false) × (o ≡ Some s))
some_parts true t s o e = inl (refl, cc)
some_parts false t s o e = inr (refl, e)

-- what is looked for by domain is one of the seats
seat_in-at : (d : ℕ) (seats : List Seat) (s : Seat) → seat_in d seats ≡ Some s → (k : ℕ) × (slice_get seats k ≡ Some s) × (s.domain ≡ d)
seat_in-at d [] s found = absurd cc
seat_in-at d (t ∷ seats) s found =
    elim (some_parts (eqb t.domain d) t s (seat_in d seats) found) [
      | inl here ↦ (zero, ap (λ (x : Seat). Some x) here.1, ap (λ (x : Seat). x.domain) (sym here.1) ∙ eqb-true t.domain d here.0)
      | inr later ↦ let at = seat_in-at d seats s later.1 in (suc at.0, at.1, at.2)
    ]

seat_of-at : (id : ℕ) (seats : List Seat) (s : Seat) → seat_of id seats ≡ Some s → (k : ℕ) × (slice_get seats k ≡ Some s) × (s.face.id ≡ id)
seat_of-at id [] s found = absurd cc
seat_of-at id (t ∷ seats) s found =
    elim (some_parts (eqb t.face.id id) t s (seat_of id seats) found) [
      | inl here ↦ (zero, ap (λ (x : Seat). Some x) here.1, ap (λ (x : Seat). x.face.id) (sym here.1) ∙ eqb-true t.face.id id here.0)
      | inr later ↦ let at = seat_of-at id seats s later.1 in (suc at.0, at.1, at.2)
    ]

-- where none has the domain, each has another
other_domain : (d : ℕ) (seats : List Seat) (k : ℕ) (s : Seat) → seat_in d seats ≡ None → slice_get seats k ≡ Some s → eqb s.domain d ≡ false
other_domain d [] k s none at = absurd cc
other_domain d (t ∷ seats) zero s none at =
    elim (cases_Bool (eqb t.domain d)) [
      | inl here ↦ let e = rw here at none in absurd cc
      | inr other ↦ let same : t ≡ s = cc in rw (← same) other
    ]
other_domain d (t ∷ seats) (suc k) s none at =
    elim (cases_Bool (eqb t.domain d)) [
      | inl here ↦ let e = rw here at none in absurd cc
      | inr other ↦ let e = rw other at none in other_domain d seats k s e at
    ]

other_id : (id : ℕ) (seats : List Seat) (k : ℕ) (s : Seat) → seat_of id seats ≡ None → slice_get seats k ≡ Some s → eqb s.face.id id ≡ false
other_id id [] k s none at = absurd cc
other_id id (t ∷ seats) zero s none at =
    elim (cases_Bool (eqb t.face.id id)) [
      | inl here ↦ let e = rw here at none in absurd cc
      | inr other ↦ let same : t ≡ s = cc in rw (← same) other
    ]
other_id id (t ∷ seats) (suc k) s none at =
    elim (cases_Bool (eqb t.face.id id)) [
      | inl here ↦ let e = rw here at none in absurd cc
      | inr other ↦ let e = rw other at none in other_id id seats k s e at
    ]

-- each of the seats is found by its domain, and by its id
at-seat_in : (seats : List Seat) (k : ℕ) (s : Seat) → AreSeats seats → slice_get seats k ≡ Some s → seat_in s.domain seats ≡ Some s
at-seat_in [] k s fits at = absurd cc
at-seat_in (t ∷ seats) zero s fits at =
    let same : t ≡ s = cc in
    let here : eqb t.domain s.domain ≡ true = eq-eqb t.domain s.domain (ap (λ (x : Seat). x.domain) same) in
    rw here at
at-seat_in (t ∷ seats) (suc k) s fits at =
    rw (other_way s.domain t.domain (other_domain t.domain seats k s fits.2 at)) (at-seat_in seats k s fits.4 at)

at-seat_of : (seats : List Seat) (k : ℕ) (s : Seat) → AreSeats seats → slice_get seats k ≡ Some s → seat_of s.face.id seats ≡ Some s
at-seat_of [] k s fits at = absurd cc
at-seat_of (t ∷ seats) zero s fits at =
    let same : t ≡ s = cc in
    let here : eqb t.face.id s.face.id ≡ true = eq-eqb t.face.id s.face.id (ap (λ (x : Seat). x.face.id) same) in
    rw here at
at-seat_of (t ∷ seats) (suc k) s fits at =
    rw (other_way s.face.id t.face.id (other_id t.face.id seats k s fits.3 at)) (at-seat_of seats k s fits.4 at)

rules_at : (seats : List Seat) (k : ℕ) (s : Seat) → AreSeats seats → slice_get seats k ≡ Some s → FaceRules s.face
rules_at [] k s fits at = absurd cc
rules_at (t ∷ seats) zero s fits at = let same : t ≡ s = cc in rw (← same) fits.1
rules_at (t ∷ seats) (suc k) s fits at = rules_at seats k s fits.4 at

-- what serves has the function id and the prototype
serves-parts : (s : Subscribed) (p : Provided) → serves s p ≡ true → (p.func ≡ s.func) × (p.proto ≡ s.proto)
serves-parts s p e =
    elim (cases_Bool (eqb p.func s.func)) [
      | inl same ↦ let e' = rw same at e in (eqb-true p.func s.func same, (bytes_decides p.proto s.proto).0 e')
      | inr other ↦ let e' = rw other at e in absurd (false≢true e')
    ]

parts-serves : (s : Subscribed) (p : Provided) → p.func ≡ s.func → p.proto ≡ s.proto → serves s p ≡ true
parts-serves s p func proto =
    let f : eqb p.func s.func ≡ true = eq-eqb p.func s.func func in
    let q : pointwise nat_eq p.proto s.proto ≡ true = (bytes_decides p.proto s.proto).1 proto in
    rw (f, q) refl

-- another function id serves nothing
other-serves : (s : Subscribed) (p : Provided) → eqb p.func s.func ≡ false → serves s p ≡ false
other-serves s p other = rw other refl

one_more : (o : Option ℕ) (n : ℕ) → option_map (λ (k : ℕ). k + 1) o ≡ Some n → (k : ℕ) × (o ≡ Some k) × (n ≡ suc k)
one_more None n e = absurd cc
one_more (Some k) n e =
    let same : k + 1 ≡ n = cc in
    let next : n ≡ suc k = omega arith in
    (k, refl, next)

-- what is at the place that is found serves
place_of-at : (s : Subscribed) (ps : List Provided) (n : ℕ) → place_of s ps ≡ Some n → (p : Provided) × (slice_get ps n ≡ Some p) × (p.func ≡ s.func) × (p.proto ≡ s.proto)
place_of-at s [] n found = absurd cc
place_of-at s (p ∷ ps) n found =
    elim (cases_Bool (serves s p)) [
      | inl here ↦
          let e = rw here at found in
          let first : n ≡ zero = cc in
          let parts = serves-parts s p here in
          (p, ap (slice_get (p ∷ ps)) first, parts.0, parts.1)
      | inr later ↦
          let e = rw later at found in
          let next = one_more (place_of s ps) n e in
          let at = place_of-at s ps next.0 next.1 in
          (at.0, ap (slice_get (p ∷ ps)) next.2 ∙ at.1, at.2, at.3)
    ]

-- the function ids rise
rises : (least : ℕ) (ps : List Provided) (n : ℕ) (p : Provided) → AreProvided least ps → slice_get ps n ≡ Some p → least ≤ p.func
rises least [] n p fits at = absurd cc
rises least (q ∷ ps) zero p fits at = let same : q ≡ p = cc in rw (← same) fits.0
rises least (q ∷ ps) (suc n) p fits at =
    let later = rises (q.func + 1) ps n p fits.4 at in
    let first : least ≤ q.func = fits.0 in
    omega (arith, later, first)

-- what serves is found at its place
at-place_of : (s : Subscribed) (least : ℕ) (ps : List Provided) (n : ℕ) (p : Provided) → AreProvided least ps → slice_get ps n ≡ Some p → p.func ≡ s.func → p.proto ≡ s.proto → place_of s ps ≡ Some n
at-place_of s least [] n p fits at func proto = absurd cc
at-place_of s least (q ∷ ps) zero p fits at func proto =
    let same : q ≡ p = cc in
    let here = parts-serves s q (ap (λ (x : Provided). x.func) same ∙ func) (ap (λ (x : Provided). x.proto) same ∙ proto) in
    rw here refl
at-place_of s least (q ∷ ps) (suc n) p fits at func proto =
    let above : q.func + 1 ≤ p.func = rises (q.func + 1) ps n p fits.4 at in
    let other : eqb q.func s.func ≡ false = grind (arith, nat_tests) in
    let found = at-place_of s (q.func + 1) ps n p fits.4 at func proto in
    let next : n + 1 ≡ suc n = omega arith in
    rw (other-serves s q other, found) (ap (λ (k : ℕ). Some k) next)

pair_parts : (domain : ℕ) (o : Option ℕ) (p n : ℕ) → option_map {U = ℕ × ℕ} (λ k. (domain, k)) o ≡ Some (p, n) → (domain ≡ p) × (o ≡ Some n)
pair_parts domain None p n e = absurd cc
pair_parts domain (Some k) p n e =
    let parts = some_pair_parts domain p k n e in
    (parts.0, ap (λ (m : ℕ). Some m) parts.1)

-- what is found is what the slot leads to
pub found-leads : (seats : List Seat) (d i p n : ℕ) → bound_slot seats d i ≡ Some (p, n) → Leads seats d i p n
found-leads seats d i p n found =
    option_and_then_some (λ (user : Seat). option_and_then (provider_of seats) (slice_get user.face.subscribed.items i)) (seat_in d seats) (p, n) found (λ user is_user of_user.
    option_and_then_some (provider_of seats) (slice_get user.face.subscribed.items i) (p, n) of_user (λ s is_slot of_slot.
    option_and_then_some (λ (provider : Seat). option_map {U = ℕ × ℕ} (λ k. (provider.domain, k)) (place_of s provider.face.provided.items)) (seat_of s.module seats) (p, n) of_slot (λ provider is_provider of_provider.
    let placed = pair_parts provider.domain (place_of s provider.face.provided.items) p n of_provider in
    let user_at = seat_in-at d seats user is_user in
    let provider_at = seat_of-at s.module seats provider is_provider in
    let place_at = place_of-at s provider.face.provided.items n placed.1 in
    record {
      user = user;
      subscribed = s;
      provider = provider;
      provided = place_at.0;
      user_is_in = contains seats user_at.0 user user_at.1;
      user_domain = user_at.2;
      slot = is_slot;
      provider_is_in = contains seats provider_at.0 provider provider_at.1;
      provider_domain = placed.0;
      place = place_at.1;
      same_module = provider_at.2;
      same_function = place_at.2;
      same_prototype = place_at.3;
    })))

-- what the slot leads to is found
pub leads-found : (seats : List Seat) (d i p n : ℕ) → AreSeats seats → Leads seats d i p n → bound_slot seats d i ≡ Some (p, n)
leads-found seats d i p n fits l =
    let user_at = slice_get_read seats (length seats) l.user_is_in.0 l.user refl l.user_is_in.1 (sym l.user_is_in.2) in
    let provider_at = slice_get_read seats (length seats) l.provider_is_in.0 l.provider refl l.provider_is_in.1 (sym l.provider_is_in.2) in
    let user = ap (λ e. seat_in e seats) (sym l.user_domain) ∙ at-seat_in seats l.user_is_in.0 l.user fits user_at in
    let provider = ap (λ e. seat_of e seats) (sym l.same_module) ∙ at-seat_of seats l.provider_is_in.0 l.provider fits provider_at in
    let rules = rules_at seats l.provider_is_in.0 l.provider fits provider_at in
    let place = at-place_of l.subscribed 0 l.provider.face.provided.items n l.provided rules.provided l.place l.same_function l.same_prototype in
    rw (user, l.slot, provider, place) (ap (λ (e : ℕ). Some (e, n)) l.provider_domain)
