use Rattle.std.proofs.Common.{◌≡◌, ◌<◌, get_or, [], length, None, inl, inr, ap, sym, ◌∙◌, arith, rules}
use Rattle.std.proofs.lemmas.Bool.{cases_eq, cases_lt}
use Rattle.std.proofs.lemmas.List.{get_or_past, get_or-set_other, length-set}
use Rattle.std.proofs.lemmas.Grind.{get_or-set_at}
use Rattle.module_image.specs.Links.{bound_slot}
use Rattle.mote_layout.specs.Memory.{domain_count}
use Rattle.func_link.proofs.Seats.{bound_slot-outside}
use Rattle.func_link.proofs.slots.Slots.of.Goals as goal

pub loop-domain-preserved : goal.loop-domain-preserved
loop-domain-preserved c =
    let size = c.loop-domain.invariant.0 in
    let at : c.from.result ≡ c.loop-domain.domain = search rules in
    let within : c.from.result < length c.loop-domain.rows = omega arith in (
      length-set c.loop-domain.rows c.from.result c.row_of.result ∙ size,
      λ k i below.
          elim (cases_eq k c.loop-domain.domain) [
            | inl here ↦
                ap (λ row. get_or row i None) (get_or-set_at c.loop-domain.rows c.from.result k c.row_of.result [] (omega arith) within)
                ∙ c.row_of.ensures i
                ∙ ap (λ d. bound_slot c.args.seats.now d i) (sym here)
            | inr other ↦
                ap (λ row. get_or row i None) (get_or-set_other c.loop-domain.rows c.from.result k c.row_of.result [] (λ e. other (e ∙ at)))
                ∙ c.loop-domain.invariant.1 k i (omega arith)
          ],
    )

pub returns : goal.returns
returns c = λ d i.
    elim (cases_lt d domain_count) [
      | inl below ↦ c.loop-domain.invariant.1 d i (omega arith)
      | inr outside ↦
          let size = c.loop-domain.invariant.0 in
          ap (λ row. get_or row i None) (get_or_past c.loop-domain.rows d [] (omega arith)) ∙ sym (bound_slot-outside c.args.seats.now d i c.requires outside)
    ]
