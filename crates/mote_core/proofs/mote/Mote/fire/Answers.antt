use Rattle.domain_model.specs.declared.event.Choice.TheVariants.{Fires}
use Rattle.mote_core.specs.Value.{acted, state_of}
use Rattle.mote_core.proofs.MoteLaws.{good_of}
use Rattle.mote_core.proofs.mote.Mote.fire.Goals as goal

pub invariant_of-self : goal.invariant_of-self
invariant_of-self g c =
    good_of Fires (state_of g.R.Runner.part c.args.self.now) _ (acted g.R.Runner.part g.R.Runner.acts c.args.self.now) (rw (← c.self.view_is) c.self.invariant) c.requires.chosen tt
    (rw (← c.self.view_is, c.fire.ensures.kernel))
