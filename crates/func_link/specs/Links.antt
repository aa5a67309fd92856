-- The modules that are in, and what their slots lead to.
use Rattle.std.specs.Prelude.{◌≡◌, ℕ, ◌<◌, ◌==◌, not, List, [], ◌∷◌, filter, slice_get, Contains, Some, None}
use Rattle.mote_layout.specs.Memory.{domain_count}
use Rattle.module_image.specs.declared.face.Provided.{Provided}
use Rattle.module_image.specs.declared.face.Subscribed.{Subscribed}
use Rattle.module_image.specs.Contents.{FaceRules}
use Rattle.module_image.specs.Links.{Seat, seat_in, seat_of}

-- Each module is in a domain that there is, its face keeps the field rules, and no other has its domain or its id.
abbrev pub AreSeats : List Seat → Type 0
AreSeats [] = Unit {0}
AreSeats (s ∷ seats) =
    (s.domain < domain_count) × FaceRules s.face × (seat_in s.domain seats ≡ None) × (seat_of s.face.id seats ≡ None) × AreSeats seats

-- the modules in the other domains
abbrev pub without : ℕ → List Seat → List Seat
without d seats = filter (λ s. not (s.domain == d)) seats

-- Slot i of the module in domain d leads to the function at place n of the module in domain p: to the one that it
-- subscribes to, by the module's id, the function's id and the prototype.
pub record Leads (seats : List Seat) (d i p n : ℕ) : Type 0 where
  pub user : Seat
  pub subscribed : Subscribed
  pub provider : Seat
  pub provided : Provided
  pub user_is_in : Contains seats user
  pub user_domain : user.domain ≡ d
  pub slot : slice_get user.face.subscribed.items i ≡ Some subscribed
  pub provider_is_in : Contains seats provider
  pub provider_domain : provider.domain ≡ p
  pub place : slice_get provider.face.provided.items n ≡ Some provided
  pub same_module : provider.face.id ≡ subscribed.module
  pub same_function : provided.func ≡ subscribed.func
  pub same_prototype : provided.proto ≡ subscribed.proto
