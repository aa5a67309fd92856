use Rattle.std.proofs.Common.{◌∙◌, sym, ap}
use Rattle.std.specs.Option.{option_map}
use Rattle.std.proofs.lemmas.Option.{none-some, same_Some}
use Rattle.kernel_call.specs.Rows.{row_of}
use Rattle.mote_core.proofs.RowLaws.{received}
use Rattle.mote_core.proofs.turns.dispatch.Goals as goal

pub unreachable-requires : goal.unreachable-requires
unreachable-requires g c =
    let receiver = received c.args.k.now (g.R.Runner.part c.args.r.now) c.next_message.new.self.modules c.next_message.result c.in-Some.domain c.requires.machine c.in-Some.is c.next_message.ensures.none c.next_message.ensures.receiver in
    none-some (row_of receiver.loaded) (sym c.in_default-module_at.is ∙ c.module_at.ensures.row ∙ ap (λ o. option_map row_of o) receiver.there)

pub enter-requires : goal.enter-requires
enter-requires g c =
    let receiver = received c.args.k.now (g.R.Runner.part c.args.r.now) c.next_message.new.self.modules c.next_message.result c.in-Some.domain c.requires.machine c.in-Some.is c.next_message.ensures.none c.next_message.ensures.receiver in
    let row = same_Some c.in-Some-module_at.row (row_of receiver.loaded) (sym c.in-Some-module_at.is ∙ c.module_at.ensures.row ∙ ap (λ o. option_map row_of o) receiver.there) in
    rw row (record { domain = receiver.can.domain; unit = receiver.can.handler })
