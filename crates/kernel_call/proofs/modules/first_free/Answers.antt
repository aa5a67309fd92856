use Rattle.std.proofs.Common.{◌≡◌, ◌∙◌, sym, ap, subst, inl, inr, arith, not, ℕ, true}
use Rattle.std.proofs.lemmas.Bool.{cases_eq}
use Rattle.mote_layout.specs.Memory.{domain_count}
use Rattle.domain_model.specs.Modules.{in_use}
use Rattle.kernel_call.proofs.Least.{least_of-at, least_of-none}
use Rattle.kernel_call.proofs.modules.first_free.Goals as goal

pub returns-then-not-in_use-clause-domain : goal.returns-then-not-in_use-clause-domain
returns-then-not-in_use-clause-domain c =
    sym (least_of-at (λ domain. not (in_use c.args.list.now domain)) 0 domain_count c.loop-domain.domain (omega arith) (omega arith)
    (ap not (sym c.in_use.ensures ∙ c.if-not-in_use.true)) (λ j from below. ap not (c.loop-domain.invariant j below)))

pub loop-domain-preserved : goal.loop-domain-preserved
loop-domain-preserved c = λ lower below.
    elim (cases_eq lower c.loop-domain.domain) [
      | inl same ↦ subst (λ (d : ℕ). in_use c.args.list.now d ≡ true) (sym same) (sym c.in_use.ensures ∙ c.if-not-in_use.false)
      | inr other ↦ c.loop-domain.invariant lower (omega (arith, other))
    ]

pub returns-clause-domain : goal.returns-clause-domain
returns-clause-domain c =
    sym (least_of-none (λ domain. not (in_use c.args.list.now domain)) 0 domain_count
    (λ j from within. ap not (c.loop-domain.invariant j (omega arith))))
