use Rattle.domain_model.specs.declared.event.Choice.TheVariants.{Jumps}
use Rattle.mote_core.specs.Value.{acted, state_of}
use Rattle.mote_core.proofs.Clocks.{jump_far}
use Rattle.mote_core.proofs.MoteLaws.{facts_of, good_of}
use Rattle.mote_core.proofs.mote.Mote.jump.Goals as goal

pub set_clock-requires-clause-last : goal.set_clock-requires-clause-last
set_clock-requires-clause-last g c =
    (jump_far (state_of g.R.Runner.part c.args.self.now) c.args.now (rw (← c.self.view_is) c.self.invariant) (facts_of (Jumps c.args.now) (state_of g.R.Runner.part c.args.self.now) c.requires.chosen)).far

pub invariant_of-self : goal.invariant_of-self
invariant_of-self g c =
    good_of (Jumps c.args.now) (state_of g.R.Runner.part c.args.self.now) _ (acted g.R.Runner.part g.R.Runner.acts c.args.self.now) (rw (← c.self.view_is) c.self.invariant) c.requires.chosen tt
    (rw (← c.self.view_is, c.set_clock.ensures))
