-- There is room for one more module, and with it the modules are seats again.
use Rattle.std.proofs.Common.{◌≡◌, length, [], ◌∷◌, ◌++◌, ap, sym, ◌∙◌, arith, rules}
use Rattle.std.specs.Vec.{vec_len}
use Rattle.module_image.specs.Links.{Seat}
use Rattle.func_link.specs.Links.{AreSeats}
use Rattle.func_link.specs.Slots.{AreSlots}
use Rattle.func_link.proofs.Seats.{AreSeats-push, length-room}
use Rattle.func_link.proofs.links.Links.module_in.Goals.{After-self, After-push, After-deref}
use Rattle.func_link.proofs.links.Links.module_in.Goals as goal

-- the modules and the new one
all : (c : After-self) → AreSeats (c.self.inside.seats.items ++ record { domain = c.args.d; face = c.args.face.now } ∷ [])
all c =
    let before = sym c.self.view_is in
    AreSeats-push c.self.inside.seats.items (record { domain = c.args.d; face = c.args.face.now }) c.self.invariant.0 c.requires.domain c.requires.face (rw before at c.requires.free) (rw before at c.requires.id)

-- what is kept then
kept : (c : After-deref) → c.push.new.self.items ≡ c.self.inside.seats.items ++ record { domain = c.args.d; face = c.args.face.now } ∷ []
kept c =
    let pushed = rw c.unwrap.ensures at c.push.ensures.items in
    pushed ∙ ap (λ (x : Seat). c.self.inside.seats.items ++ x ∷ []) c.new.ensures

pub unwrap-requires : goal.unwrap-requires
unwrap-requires c =
    let seats = c.self.inside.seats.items in
    let size : vec_len c.self.inside.seats ≡ length seats = search rules in
    let x : Seat = record { domain = c.args.d; face = c.args.face.now } in
    c.push.ensures.succeeds (omega (arith, length-room seats x (all (goal.at.unwrap-requires c).After-self), c.self.invariant.2))

pub of-self-inside-requires : goal.of-self-inside-requires
of-self-inside-requires c =
    let at = (goal.at.of-self-inside-requires c).After-deref in
    let is = c.deref.ensures.value ∙ kept at in
    rw is (all (goal.at.of-self-inside-requires c).After-self)

pub invariant_of-self : goal.invariant_of-self
invariant_of-self c =
    let is = kept (goal.at.invariant_of-self c).After-deref in
    let slots : AreSlots c.push.new.self.items c.of-self-inside.result = rw c.deref.ensures.value at c.of-self-inside.ensures in
    (rw is (all (goal.at.invariant_of-self c).After-self), slots, omega (arith, c.push.ensures.capacity, c.self.invariant.2))

pub returns-clause-rules : goal.returns-clause-rules
returns-clause-rules c =
    let is = kept (goal.at.returns-clause-rules c).After-deref in
    (rw (← c.self.view_is) c.self.invariant.0, rw is (all (goal.at.returns-clause-rules c).After-self))
