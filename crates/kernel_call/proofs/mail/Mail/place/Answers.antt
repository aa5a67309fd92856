use Rattle.std.proofs.Common.{◌≡◌, ◌∙◌, sym, subst, List, None}
use Rattle.mote_layout.specs.Requests.{Holds}
use Rattle.mote_layout.specs.declared.segment.Segment.{Segment}
use Rattle.domain_model.specs.Payloads.{HoldsPayloads}
use Rattle.kernel_call.specs.Mail.{MailState, kept_for}
use Rattle.domain_model.proofs.PayloadLaws.{payloads_stay}
use Rattle.kernel_call.proofs.Parcels.{kept_in_place}
use Rattle.kernel_call.proofs.TakenBack.{given_at_address, none_served, taken_back}
use Rattle.kernel_call.proofs.mail.Mail.place.Goals as goal

pub invariant_of-self-in-Some : goal.invariant_of-self-in-Some
invariant_of-self-in-Some c =
    let free : kept_for c.self.inside.kept c.args.d ≡ None = subst (λ (s : MailState). kept_for s.kept c.args.d ≡ None) (sym c.self.view_is) c.requires.free in
    let first = payloads_stay c.self.inside.heap c.give_asked.new.heap c.self.inside.queues c.self.inside.hand c.self.inside.kept c.give_asked.ensures.kernel c.self.invariant in
    rw c.keep.ensures
    (kept_in_place c.give_asked.new.heap c.issue.new.self c.self.inside.queues c.self.inside.hand c.self.inside.kept c.args.d c.in-Some.parcel
    (rw c.known.ensures c.requires.domain) free c.in-Some.ensures.kernel first)

pub take_back-requires-clause-held : goal.take_back-requires-clause-held
take_back-requires-clause-held c = λ some.
    let late = c.issue.ensures.issued ∙ none_served c.give_asked.new.heap _ c.args.constants (sym c.issue.ensures.parcel ∙ c.in-None.is) ∙ c.give_asked.ensures.given in
    subst (λ (l : List Segment). Holds l c.args.d c.in_ok-first.first) (sym late)
    (given_at_address c.self.inside.heap c.args.d c.args.state c.in_ok-first.first c.give_asked.ensures.blocks.0 some (sym c.give_asked.ensures.address ∙ c.in_ok-first.was)).held

pub invariant_of-self-in-None : goal.invariant_of-self-in-None
invariant_of-self-in-None c =
    let same = taken_back c.self.inside.heap c.give_asked.new.heap c.issue.new.self c.take_back.new.heap c.args.d c.args.state c.args.constants c.in_ok-first.first
    c.give_asked.ensures.blocks.0 c.give_asked.ensures.given c.issue.ensures.issued (sym c.issue.ensures.parcel ∙ c.in-None.is)
    (sym c.give_asked.ensures.address ∙ c.in_ok-first.was) c.take_back.ensures.none c.take_back.ensures.back in
    subst (λ (l : List Segment). HoldsPayloads l c.self.inside.queues c.self.inside.hand c.self.inside.kept) (sym same) c.self.invariant

pub returns-in-None-clause-same : goal.returns-in-None-clause-same
returns-in-None-clause-same c = λ none.
    let same = taken_back c.self.inside.heap c.give_asked.new.heap c.issue.new.self c.take_back.new.heap c.args.d c.args.state c.args.constants c.in_ok-first.first
    c.give_asked.ensures.blocks.0 c.give_asked.ensures.given c.issue.ensures.issued (sym c.issue.ensures.parcel ∙ c.in-None.is)
    (sym c.give_asked.ensures.address ∙ c.in_ok-first.was) c.take_back.ensures.none c.take_back.ensures.back in
    rw same c.self.view_is
