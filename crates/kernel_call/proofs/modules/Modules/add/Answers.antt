use Rattle.std.proofs.Common.{◌≡◌, ◌∙◌, ap, arith, sym, subst, List, [], ◌∷◌, ◌++◌, ℕ, false}
use Rattle.domain_model.specs.State.{Loaded}
use Rattle.domain_model.specs.Modules.{in_use, is_loaded}
use Rattle.kernel_call.specs.Tables.{AreTabled, with_entries}
use Rattle.kernel_call.proofs.Rooms.{seated_push}
use Rattle.kernel_call.proofs.Tables.{no_seat_in, no_seat_of, none_entered, tabled_more}
use Rattle.kernel_call.proofs.modules.Modules.add.Goals as goal

pub module_in-requires-clause-free : goal.module_in-requires-clause-free
module_in-requires-clause-free c =
    let free : in_use c.self.inside.list.items c.loaded.inside.domain ≡ false = rw c.self.view_is (subst (λ (m : Loaded). in_use c.args.self.now m.domain ≡ false) (sym c.loaded.view_is) c.requires.free) in
    rw c.self.invariant.tabled.linked (no_seat_in c.self.inside.list.items c.loaded.inside.domain free)

pub module_in-requires-clause-id : goal.module_in-requires-clause-id
module_in-requires-clause-id c =
    let new : is_loaded c.self.inside.list.items c.loaded.inside.face.id ≡ false = rw c.self.view_is (subst (λ (m : Loaded). is_loaded c.args.self.now m.face.id ≡ false) (sym c.loaded.view_is) c.requires.id) in
    rw c.self.invariant.tabled.linked (no_seat_of c.self.inside.list.items c.loaded.inside.face.id new)

pub enter_all-requires-clause-none : goal.enter_all-requires-clause-none
enter_all-requires-clause-none c = λ place.
    let free : in_use c.self.inside.list.items c.loaded.inside.domain ≡ false = rw c.self.view_is (subst (λ (m : Loaded). in_use c.args.self.now m.domain ≡ false) (sym c.loaded.view_is) c.requires.free) in
    none_entered c.self.inside.list.items c.self.inside.links c.self.inside.jumps c.loaded.inside.domain place c.self.invariant.tabled free

pub invariant_of-self : goal.invariant_of-self
invariant_of-self c =
    let items = c.self.inside.list.items in
    let links = c.self.inside.links in
    let table = c.enter_all.new.table in
    let inside = c.loaded.inside in
    let row : Loaded = record {
      face = inside.face;
      domain = inside.domain;
      state = inside.place.state;
      constants = inside.place.constants;
      handler = inside.handler;
      entries = inside.entries.items;
      sealed = inside.sealed;
    } in
    let free : in_use items c.args.loaded.domain ≡ false = rw c.self.view_is c.requires.free in
    let new : is_loaded items c.args.loaded.face.id ≡ false = rw c.self.view_is c.requires.id in
    let free_here : in_use items row.domain ≡ false = subst (λ (m : Loaded). in_use items m.domain ≡ false) (sym c.loaded.view_is) free in
    let tabled = tabled_more items row links c.self.inside.jumps table c.self.invariant.tabled free_here
    (λ d place. c.enter_all.ensures d place ∙ ap (λ (us : List ℕ). with_entries inside.domain us c.self.inside.jumps d place) c.as_slice.ensures.value) in
    record {
      room = omega (arith, c.self.invariant.room, c.append.ensures.capacity);
      seated = rw c.append.ensures.items (seated_push items c.args.loaded c.self.invariant.seated c.requires.domain free new);
      tabled = rw (c.append.ensures.items, c.module_in.ensures.seats)
          (subst (λ (m : Loaded). AreTabled (items ++ m ∷ []) (links ++ record { domain = inside.domain; face = inside.face } ∷ []) table) c.loaded.view_is tabled);
    }
