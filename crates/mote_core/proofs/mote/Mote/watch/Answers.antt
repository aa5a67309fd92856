use Rattle.domain_model.specs.declared.event.Choice.TheVariants.{Watches}
use Rattle.mote_core.specs.Value.{acted, state_of}
use Rattle.mote_core.proofs.MoteLaws.{good_of}
use Rattle.mote_core.proofs.mote.Mote.watch.Goals as goal

pub invariant_of-self : goal.invariant_of-self
invariant_of-self g c =
    good_of (Watches c.args.run.now) (state_of g.R.Runner.part c.args.self.now) _ (acted g.R.Runner.part g.R.Runner.acts c.args.self.now) (rw (← c.self.view_is) c.self.invariant) c.requires.chosen tt
    (rw (← c.self.view_is, c.stop.ensures.kernel, c.stop.ensures.runner, c.stack_pointer.ensures, c.requires.empty))
