use Rattle.domain_model.specs.declared.event.Choice.TheVariants.{Hears}
use Rattle.mote_core.specs.Value.{acted, state_of}
use Rattle.mote_core.proofs.MoteLaws.{good_of}
use Rattle.mote_core.proofs.mote.Mote.hear.Goals as goal

pub invariant_of-self : goal.invariant_of-self
invariant_of-self g c =
    good_of Hears (state_of g.R.Runner.part c.args.self.now) _ (acted g.R.Runner.part g.R.Runner.acts c.args.self.now) (rw (← c.self.view_is) c.self.invariant) c.requires.chosen tt
    (rw (← c.self.view_is, c.pass_packet.ensures, c.in-Some.ensures, c.radio.ensures.kernel c.in-Some.packet.now.time, c.as_slice.ensures.bytes))
