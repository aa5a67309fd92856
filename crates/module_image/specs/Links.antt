-- Which provided entry a slot is bound to, over the modules that are in.
use Rattle.std.specs.Prelude.{ℕ, ◌+◌, Bool, nat_eq, ◌==◌, ◌&&◌, if◌then◌else◌, List, [], ◌∷◌, slice_get, Option, Some, None}
use Rattle.std.specs.Option.{option_and_then, option_map}
use Rattle.std.specs.Cmp.Lexicographic.{pointwise}
use Rattle.module_image.specs.declared.face.Provided.{Provided}
use Rattle.module_image.specs.declared.face.Subscribed.{Subscribed}
use Rattle.module_image.specs.declared.face.Face.{Face}

-- a module that is in: its domain and its face
pub record Seat : Type 0 where
  pub domain : ℕ
  pub face : Face

-- The function ids and the four prototype bytes are equal.
abbrev pub serves : Subscribed → Provided → Bool
serves s p = (p.func == s.func) && pointwise nat_eq p.proto s.proto

-- the place of the first provided entry that serves
abbrev pub place_of : Subscribed → List Provided → Option ℕ
place_of s [] = None
place_of s (p ∷ ps) = if serves s p then Some 0 else option_map (λ k. k + 1) (place_of s ps)

-- the module in that domain
abbrev pub seat_in : ℕ → List Seat → Option Seat
seat_in d [] = None
seat_in d (seat ∷ seats) = if seat.domain == d then Some seat else seat_in d seats

-- the module of that id
abbrev pub seat_of : ℕ → List Seat → Option Seat
seat_of id [] = None
seat_of id (seat ∷ seats) = if seat.face.id == id then Some seat else seat_of id seats

-- the domain and the place in its provided list at which a subscription is served
abbrev pub provider_of : List Seat → Subscribed → Option (ℕ × ℕ)
provider_of seats s = option_and_then (λ (provider : Seat). option_map (λ k. (provider.domain, k)) (place_of s provider.face.provided.items)) (seat_of s.module seats)

-- Bound slot: what slot i of the module in domain d leads to, counted from 0. A module may be bound to itself.
abbrev pub bound_slot : List Seat → ℕ → ℕ → Option (ℕ × ℕ)
bound_slot seats d i = option_and_then (λ (user : Seat). option_and_then (provider_of seats) (slice_get user.face.subscribed.items i)) (seat_in d seats)
