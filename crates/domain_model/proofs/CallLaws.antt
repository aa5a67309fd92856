-- What a slot is bound to: a module that is in, which provides the function that is entered.
use Rattle.std.proofs.Common.{◌≡◌, ℕ, zero, suc, ◌+◌, ◌<◌, ◌==◌, List, [], ◌∷◌, length, true, refl, sym, ap, ◌∙◌, subst, arith, inl, inr, Option, Some, None, slice_get}
use Rattle.std.specs.Prelude.{slice_index_or}
use Rattle.std.specs.List.{AllByRecursion, Contains}
use Rattle.std.specs.Option.{option_and_then, option_map, option_map_or}
use Rattle.std.proofs.lemmas.Bool.{cases_Bool, cond-true, cond-false}
use Rattle.std.proofs.lemmas.Option.{none-some, same_Some, some_pair_parts}
use Rattle.module_image.specs.declared.face.Provided.{Provided}
use Rattle.module_image.specs.declared.face.Subscribed.{Subscribed}
use Rattle.module_image.specs.Links.{Seat, bound_slot, place_of, provider_of, seat_in, seat_of, serves}
use Rattle.domain_model.specs.State.{Loaded, KernelState, RunnerState, seats}
use Rattle.domain_model.specs.Modules.{in_use}
use Rattle.domain_model.specs.Frames.{entry_unit}
use Rattle.domain_model.specs.Act.{bank}
use Rattle.domain_model.specs.Good.{GoodModule, GoodMachine}
use Rattle.domain_model.proofs.Kept.{each_contained, contained_nowhere, contained_first, contained_later, contained_cases}
use Rattle.domain_model.proofs.ModuleLaws.{found, contained_in_use, same_module}

-- a seat that is found by an id is one of the seats
seat_contained : (ss : List Seat) (id : ℕ) (seat : Seat) → seat_of id ss ≡ Some seat → Contains ss seat
seat_contained [] id seat e = absurd (none-some seat e)
seat_contained (s ∷ ss) id seat e =
    elim (cases_Bool (s.face.id == id)) [
      | inl here ↦
          subst (Contains (s ∷ ss)) (same_Some s seat (sym (cond-true (s.face.id == id) (Some s) (seat_of id ss) here) ∙ e)) (contained_first ss s)
      | inr other ↦
          contained_later s ss seat (seat_contained ss id seat (sym (cond-false (s.face.id == id) (Some s) (seat_of id ss) other) ∙ e))
    ]

-- a place that is found is one of the places
one_later : (o : Option ℕ) (k limit : ℕ) → ((n : ℕ) → o ≡ Some n → n < limit) → option_map (λ n. n + 1) o ≡ Some k → k < limit + 1
one_later None k limit within e = absurd (none-some k e)
one_later (Some n) k limit within e = omega (arith, within n refl, same_Some (n + 1) k e)

place_within : (s : Subscribed) (ps : List Provided) (k : ℕ) → place_of s ps ≡ Some k → k < length ps
place_within s [] k e = absurd (none-some k e)
place_within s (p ∷ ps) k e =
    elim (cases_Bool (serves s p)) [
      | inl here ↦ omega (arith, same_Some 0 k (sym (cond-true (serves s p) (Some 0) (option_map (λ n. n + 1) (place_of s ps)) here) ∙ e))
      | inr other ↦
          let later = one_later (place_of s ps) k (length ps) (λ n at. place_within s ps n at) (sym (cond-false (serves s p) (Some 0) (option_map (λ n. n + 1) (place_of s ps)) other) ∙ e) in
          omega (arith, later)
    ]

-- What a slot is bound to, among the seats.
pub record IsSeated (ss : List Seat) (domain place : ℕ) : Type 0 where
  pub seat : Seat
  pub contained : Contains ss seat
  pub domain_of : seat.domain ≡ domain
  pub within : place < length seat.face.provided.items

pub bound_to : (ss : List Seat) (d i p place : ℕ) → bound_slot ss d i ≡ Some (p, place) → IsSeated ss p place
bound_to ss d i p place e = slot_of (seat_in d ss) e
  where
    at : (s : Subscribed) (seat : Seat) (o : Option ℕ) → Contains ss seat → place_of s seat.face.provided.items ≡ o → (let paired : ℕ → ℕ × ℕ = λ k. (seat.domain, k) in option_map paired o ≡ Some (p, place)) → IsSeated ss p place
    at s seat None c is e = absurd (cc)
    at s seat (Some k) c is e =
        let parts = some_pair_parts seat.domain p k place e in
        record { seat = seat; contained = c; domain_of = parts.0; within = subst (λ n. n < length seat.face.provided.items) parts.1 (place_within s seat.face.provided.items k is) }

    served : (s : Subscribed) (o : Option Seat) → seat_of s.module ss ≡ o → option_and_then (λ (provider : Seat). let paired : ℕ → ℕ × ℕ = λ k. (provider.domain, k) in option_map paired (place_of s provider.face.provided.items)) o ≡ Some (p, place) → IsSeated ss p place
    served s None is e = absurd (cc)
    served s (Some seat) is e = at s seat (place_of s seat.face.provided.items) (seat_contained ss s.module seat is) refl e

    wanted : (o : Option Subscribed) → option_and_then (provider_of ss) o ≡ Some (p, place) → IsSeated ss p place
    wanted None e = absurd (cc)
    wanted (Some s) e = served s (seat_of s.module ss) refl e

    slot_of : (o : Option Seat) → option_and_then (λ (user : Seat). option_and_then (provider_of ss) (slice_get user.face.subscribed.items i)) o ≡ Some (p, place) → IsSeated ss p place
    slot_of None e = absurd (cc)
    slot_of (Some user) e = wanted (slice_get user.face.subscribed.items i) e

-- A seat is that of a module.
pub record IsSeatOf (modules : List Loaded) (seat : Seat) : Type 0 where
  pub row : Loaded
  pub contained : Contains modules row
  pub is : seat ≡ record { domain = row.domain; face = row.face }

pub seat_row : (modules : List Loaded) (seat : Seat) → Contains (seats modules) seat → IsSeatOf modules seat
seat_row [] seat c = absurd (contained_nowhere seat c)
seat_row (m ∷ ms) seat c =
    elim (contained_cases (record { domain = m.domain; face = m.face }) (seats ms) seat c) [
      | inl here ↦ record { row = m; contained = contained_first ms m; is = sym here }
      | inr later ↦ let rest = seat_row ms seat later in record { row = rest.row; contained = contained_later m ms rest.row rest.contained; is = rest.is }
    ]

-- one of a list of numbers below a limit
below_at : (limit : ℕ) (xs : List ℕ) (i : ℕ) → AllByRecursion (λ n. n < limit) xs → i < length xs → slice_index_or xs i 0 < limit
below_at limit [] i h within = absurd (omega (arith, within))
below_at limit (x ∷ xs) zero h within = h.0
below_at limit (x ∷ xs) (suc i) h within = below_at limit xs i h.1 (omega (arith, within))

-- A slot that is bound leads to a domain in use, and to one of its units.
pub record IsEntered (k : KernelState) (r : RunnerState) (domain place : ℕ) : Type 0 where
  pub used : in_use k.modules domain ≡ true
  pub unit : entry_unit k.modules domain place < length (bank r domain)

pub bound_enters : (k : KernelState) (r : RunnerState) (d i domain place : ℕ) → GoodMachine k r → bound_slot (seats k.modules) d i ≡ Some (domain, place) → IsEntered k r domain place
bound_enters k r d i domain place h e =
    let seated = bound_to (seats k.modules) d i domain place e in
    let of = seat_row k.modules seated.seat seated.contained in
    let there : of.row.domain ≡ domain = ap (λ (s : Seat). s.domain) (sym of.is) ∙ seated.domain_of in
    let used : in_use k.modules domain ≡ true = subst (λ (n : ℕ). in_use k.modules n ≡ true) there (contained_in_use k.modules of.row of.contained) in
    let f = found k.modules domain used in
    let same : f.row ≡ of.row = same_module k.modules f.row of.row h.distinct f.contained of.contained (inr (f.domain_of ∙ sym there)) in
    let good = each_contained (GoodModule r) k.modules of.row h.modules of.contained in
    let provided : length seated.seat.face.provided.items ≡ length of.row.face.provided.items = ap (λ (s : Seat). length s.face.provided.items) of.is in
    let unit : entry_unit k.modules domain place ≡ slice_index_or of.row.entries place 0
    = ap (λ (o : Option Loaded). option_map_or (λ (m : Loaded). slice_index_or m.entries place 0) o 0) (f.at ∙ ap (λ (m : Loaded). Some m) same) in
    let below = below_at (length (bank r of.row.domain)) of.row.entries place good.entered.entries (omega (arith, seated.within, provided, good.entered.provided)) in
    record {
      used = used;
      unit = subst (λ (n : ℕ). n < length (bank r domain)) (sym unit) (subst (λ (n : ℕ). slice_index_or of.row.entries place 0 < length (bank r n)) there below);
    }
