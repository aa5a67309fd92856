use Rattle.std.proofs.Common.{◌≡◌, ◌∙◌, drop, None, arith, rules}
use Rattle.unit_code.proofs.FirstRefused.{first_refused-passed}
use Rattle.unit_code.specs.Refusals.{refused_by}
use Rattle.unit_code.proofs.refusals.first_refused.Goals as goal

pub loop-i-preserved : goal.loop-i-preserved
loop-i-preserved c =
    let test = refused_by c.args.condition c.args.places.now in
    let none : test (drop c.loop-i.i c.args.items.now) ≡ None = search rules in
    first_refused-passed test c.args.items.now c.loop-i.i (omega arith) none ∙ c.loop-i.invariant
