use Rattle.std.proofs.Common.{◌≡◌, ◌∙◌, sym, ap, arith}
use Rattle.domain_model.specs.State.{KernelState}
use Rattle.domain_model.specs.Free.{ends_handler}
use Rattle.domain_model.specs.declared.event.Choice.TheVariants.{Acts}
use Rattle.domain_model.proofs.ActLaws.{running_good}
use Rattle.domain_model.proofs.TurnLaws.{settled_clock, step_changes_alone, step_ends}
use Rattle.mote_core.specs.Value.{acted, state_of}
use Rattle.mote_core.proofs.Clocks.{clock_far}
use Rattle.mote_core.proofs.RowLaws.{good_in_domains}
use Rattle.mote_core.proofs.MoteLaws.{facts_of, good_of}
use Rattle.mote_core.proofs.mote.Mote.act.Goals as goal

pub overflow_add-now : goal.overflow_add-now
overflow_add-now g c =
    let alone = step_changes_alone c.self.inside.kernel (g.R.Runner.part c.self.inside.runner) _ c.run_one-ending.ensures.step in
    let before : c.clock-now.result ≡ c.self.inside.kernel.clock =
    c.clock-now.ensures.clock ∙ ap (λ (k : KernelState). k.clock) c.settle.ensures.kernel
    ∙ settled_clock c.run_one-ending.result c.args.run.now c.run_one-ending.new.k _ c.run_one-ending.new.lines
    ∙ ap (λ (k : KernelState). k.clock) (c.run_one-ending.ensures.kernel ∙ alone) in
    omega (arith, before, clock_far _ c.self.invariant)

pub invariant_of-self : goal.invariant_of-self
invariant_of-self g c =
    good_of (Acts c.args.run.now) (state_of g.R.Runner.part c.args.self.now) _ (acted g.R.Runner.part g.R.Runner.acts c.args.self.now) (rw (← c.self.view_is) c.self.invariant) c.requires.chosen (rw (← c.self.view_is) c.run_one-ending.ensures.step)
    (rw (← c.self.view_is, c.set_clock.ensures, c.clock-now.ensures.clock, c.settle.ensures.kernel, c.settle.ensures.runner, c.run_one-ending.ensures.kernel, c.run_one-ending.ensures.runner, c.run_one-ending.ensures.ending, c.run_one-ending.ensures.lines))

pub settle-requires-clause-modules : goal.settle-requires-clause-modules
settle-requires-clause-modules g c =
    let alone = step_changes_alone c.self.inside.kernel (g.R.Runner.part c.self.inside.runner) _ c.run_one-ending.ensures.step in
    rw (ap (λ (k : KernelState). k.modules) (c.run_one-ending.ensures.kernel ∙ alone))
    (good_in_domains c.self.inside.kernel (g.R.Runner.part c.self.inside.runner) c.self.invariant.machine)

pub settle-requires-clause-room : goal.settle-requires-clause-room
settle-requires-clause-room g c = omega (arith, c.run_one-ending.ensures.few)

pub settle-requires-clause-running : goal.settle-requires-clause-running
settle-requires-clause-running g c = λ over.
    let ends = ap ends_handler (sym c.run_one-ending.ensures.ending) ∙ over in
    let still = step_ends c.self.inside.kernel (g.R.Runner.part c.self.inside.runner) _ c.run_one-ending.ensures.step ends in
    let facts = facts_of (Acts c.args.run.now) (state_of g.R.Runner.part c.args.self.now) c.requires.chosen in
    ap (λ (k : KernelState). k.running) (c.run_one-ending.ensures.kernel ∙ still) ∙ (rw (← c.self.view_is) at facts.running)

pub settle-requires-clause-loaded : goal.settle-requires-clause-loaded
settle-requires-clause-loaded g c =
    let alone = step_changes_alone c.self.inside.kernel (g.R.Runner.part c.self.inside.runner) _ c.run_one-ending.ensures.step in
    let facts = facts_of (Acts c.args.run.now) (state_of g.R.Runner.part c.args.self.now) c.requires.chosen in
    rw (ap (λ (k : KernelState). k.modules) (c.run_one-ending.ensures.kernel ∙ alone))
    (running_good c.self.inside.kernel (g.R.Runner.part c.self.inside.runner) c.args.run.now c.self.invariant.machine (rw (← c.self.view_is) at facts.running)).0.loaded

pub set_clock-requires-clause-last : goal.set_clock-requires-clause-last
set_clock-requires-clause-last g c =
    let alone = step_changes_alone c.self.inside.kernel (g.R.Runner.part c.self.inside.runner) _ c.run_one-ending.ensures.step in
    let before : c.clock-now.result ≡ c.self.inside.kernel.clock =
    c.clock-now.ensures.clock ∙ ap (λ (k : KernelState). k.clock) c.settle.ensures.kernel
    ∙ settled_clock c.run_one-ending.result c.args.run.now c.run_one-ending.new.k _ c.run_one-ending.new.lines
    ∙ ap (λ (k : KernelState). k.clock) (c.run_one-ending.ensures.kernel ∙ alone) in
    omega (arith, before, clock_far _ c.self.invariant)
