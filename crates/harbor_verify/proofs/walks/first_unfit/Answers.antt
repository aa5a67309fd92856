use Rattle.std.proofs.Common.{◌∙◌, ◌<◌, arith, length, sym}
use Rattle.harbor_spell.proofs.Starts.{instruction_length-some}
use Rattle.harbor_verify.proofs.Walking.{fit_end, fit_on, no_instruction, none_seen, unfit_instruction}
use Rattle.harbor_verify.proofs.walks.first_unfit.Goals as goal

pub returns-then-next-end : goal.returns-then-next-end
returns-then-next-end c =
    fit_end c.args.sealed c.args.code.now c.loop.next c.loop.invariant.read (omega (arith, c.if-next-end.true, c.loop.invariant.end_is))

pub returns-in_default : goal.returns-in_default
returns-in_default c =
    let inside : c.loop.next < length c.args.code.now = omega (arith, c.if-next-end.false, c.loop.invariant.end_is, c.loop.invariant.inside) in
    no_instruction c.args.sealed c.args.code.now c.loop.next c.loop.invariant.read inside
    (none_seen (λ found. found.instruction) c.instruction_at.result _ c.in_default.not-Some c.instruction_at.ensures.first)

pub returns-then-not-may_appear : goal.returns-then-not-may_appear
returns-then-not-may_appear c =
    let inside : c.loop.next < length c.args.code.now = omega (arith, c.if-next-end.false, c.loop.invariant.end_is, c.loop.invariant.inside) in
    unfit_instruction c.args.sealed c.args.code.now c.loop.next c.loop.invariant.read c.in-Some.found.instruction inside c.in-Some.ensures.first (sym c.may_appear.ensures ∙ c.if-not-may_appear.true)

pub loop-preserved : goal.loop-preserved
loop-preserved c =
    record {
      end_is = c.loop.invariant.end_is;
      inside = c.in-Some.ensures.within;
      turns = omega (arith, c.in-Some.ensures.next, c.loop.invariant.turns, instruction_length-some c.in-Some.found.instruction);
      read = fit_on c.args.sealed c.args.code.now c.loop.next c.loop.invariant.read c.in-Some.found.instruction c.in-Some.found.next c.in-Some.ensures.first (sym c.may_appear.ensures ∙ c.if-not-may_appear.false) c.in-Some.ensures.next;
    }

pub returns : goal.returns
returns c =
    fit_end c.args.sealed c.args.code.now c.loop.next c.loop.invariant.read
    (omega (arith, c.loop-test.false, c.loop.invariant.turns, c.loop.invariant.inside, c.loop.invariant.end_is))
