-- The modules that stay are seats.
use Rattle.std.proofs.Common.{◌≡◌, ◌==◌, not, arith, rules}
use Rattle.std.proofs.lemmas.Fn.{filter_same}
use Rattle.module_image.specs.Links.{Seat}
use Rattle.func_link.specs.Links.{AreSeats, without}
use Rattle.func_link.specs.Slots.{AreSlots}
use Rattle.func_link.proofs.Seats.{AreSeats-filter}
use Rattle.func_link.proofs.links.Links.module_out.Goals.{After-retain}
use Rattle.func_link.proofs.links.Links.module_out.Goals as goal

-- those that stay
stay : (c : After-retain) → c.retain.new.self.items ≡ without c.args.d c.self.inside.seats.items
stay c = filter_same _ (λ (s : Seat). not (s.domain == c.args.d)) _ (λ x b f' called. search rules) _ _ c.retain.ensures.filtered

seats : (c : After-retain) → AreSeats c.retain.new.self.items
seats c = rw (stay c) (AreSeats-filter (λ (s : Seat). not (s.domain == c.args.d)) c.self.inside.seats.items c.self.invariant.0)

pub of-self-inside-requires : goal.of-self-inside-requires
of-self-inside-requires c = rw c.deref.ensures.value (seats (goal.at.of-self-inside-requires c).After-retain)

pub invariant_of-self : goal.invariant_of-self
invariant_of-self c =
    let slots : AreSlots c.retain.new.self.items c.of-self-inside.result = rw c.deref.ensures.value at c.of-self-inside.ensures in
    (seats (goal.at.invariant_of-self c).After-retain, slots, omega (arith, c.retain.ensures.capacity, c.self.invariant.2))

pub returns-clause-seats : goal.returns-clause-seats
returns-clause-seats c = rw (← c.self.view_is) (stay (goal.at.returns-clause-seats c).After-retain)

pub returns-clause-rules : goal.returns-clause-rules
returns-clause-rules c = (rw (← c.self.view_is) c.self.invariant.0, seats (goal.at.returns-clause-rules c).After-retain)
