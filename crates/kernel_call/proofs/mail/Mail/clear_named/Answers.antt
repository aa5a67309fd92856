use Rattle.std.proofs.Common.{◌≡◌, ◌∙◌, ◌<◌, refl, sym, subst, length, None}
use Rattle.mote_base.specs.Messages.{Lists, in_order, first, names}
use Rattle.mote_base.proofs.Named.{fewer}
use Rattle.mote_layout.specs.Blocks.{AreBlocks}
use Rattle.domain_model.specs.State.{Message}
use Rattle.domain_model.specs.Payloads.{HoldsPayloads}
use Rattle.kernel_call.specs.Mail.{MailState}
use Rattle.kernel_call.proofs.Mails.{clearing_begins, clearing_next, next_held, queues_left, blocks_left, holds_left}
use Rattle.kernel_call.proofs.mail.Mail.clear_named.Goals as goal

pub named-init : goal.named-init
named-init c =
    let blocks : AreBlocks c.self.inside.heap = subst (λ (s : MailState). AreBlocks s.blocks) (sym c.self.view_is) c.requires in
    rw (← c.self.view_is) (clearing_begins c.args.id c.self.inside.heap c.self.inside.queues c.self.inside.hand c.self.inside.kept blocks c.self.invariant)

pub free_load-requires : goal.free_load-requires
free_load-requires c = next_held c.named.invariant c.in-Some.message (sym c.take_named.ensures.first ∙ c.in-Some.is)

pub named-preserved : goal.named-preserved
named-preserved c =
    rw (c.take_named.ensures.rest, c.free_load.ensures.load) (clearing_next c.named.invariant c.in-Some.message (sym c.take_named.ensures.first ∙ c.in-Some.is))

pub named-smaller : goal.named-smaller
named-smaller c =
    subst (λ (q : Lists Message). length (in_order q) < length (in_order c.named.self-inside.queues)) (sym c.take_named.ensures.rest)
    (fewer c.args.id c.named.self-inside.queues c.in-Some.message (sym c.take_named.ensures.first ∙ c.in-Some.is))

pub invariant_of-self : goal.invariant_of-self
invariant_of-self c =
    let none : first (names c.args.id) c.named.self-inside.queues ≡ None = sym c.take_named.ensures.first ∙ c.in-None.is in
    let held : HoldsPayloads c.args.self.now.blocks c.args.self.now.queues c.args.self.now.hand c.args.self.now.kept = subst (λ (s : MailState). HoldsPayloads s.blocks s.queues s.hand s.kept) c.self.view_is c.self.invariant in
    rw c.take_named.ensures.rest (holds_left c.named.invariant none c.requires held)

pub returns-in-None : goal.returns-in-None
returns-in-None c =
    let none : first (names c.args.id) c.named.self-inside.queues ≡ None = sym c.take_named.ensures.first ∙ c.in-None.is in
    rw (c.take_named.ensures.rest, queues_left c.named.invariant none, blocks_left c.named.invariant none, c.named.invariant.in_hand, c.named.invariant.beside) refl
