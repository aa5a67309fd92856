use Rattle.std.proofs.Common.{◌∙◌, ◌++◌, ap}
use Rattle.word_run.specs.Entries.{Reached}
use Rattle.unit_run.proofs.Rounds.{led}
use Rattle.unit_run.proofs.flash.FlashRunner.run_one.Goals as goal

pub returns-clause-way : goal.returns-clause-way
returns-clause-way c =
    c.arrive.ensures.way
    ∙ ap (λ (r : Reached). r.way) (led c.args.self.now c.args.run.now c.args.k.now c.step-next.new.k c.args.address c.step-next.result c.step-next.ensures.counter c.step-next.ensures.kernel)

pub returns-clause-kernel : goal.returns-clause-kernel
returns-clause-kernel c =
    c.arrive.ensures.kernel
    ∙ ap (λ (r : Reached). r.kernel) (led c.args.self.now c.args.run.now c.args.k.now c.step-next.new.k c.args.address c.step-next.result c.step-next.ensures.counter c.step-next.ensures.kernel)

pub returns-clause-lines : goal.returns-clause-lines
returns-clause-lines c =
    c.arrive.ensures.lines
    ∙ ap (λ (r : Reached). c.args.lines.now ++ r.lines) (led c.args.self.now c.args.run.now c.args.k.now c.step-next.new.k c.args.address c.step-next.result c.step-next.ensures.counter c.step-next.ensures.kernel)
