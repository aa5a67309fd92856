use Rattle.std.proofs.Common.{◌∙◌}
use Rattle.std.proofs.lemmas.Option.{slice_get_within}
use Rattle.domain_model.specs.declared.event.Choice.TheVariants.{Comes}
use Rattle.mote_core.specs.Value.{acted, state_of}
use Rattle.mote_core.proofs.MoteLaws.{facts_of, good_of, same_first}
use Rattle.mote_core.proofs.mote.Mote.come.Goals as goal

pub pass_event-requires : goal.pass_event-requires
pass_event-requires g c =
    let facts = facts_of (Comes c.args.event.now) (state_of g.R.Runner.part c.args.self.now) c.requires.chosen in
    slice_get_within c.self.inside.agenda.events 0 c.args.event.now (same_first c.self.view_is ∙ facts.first)

pub invariant_of-self : goal.invariant_of-self
invariant_of-self g c =
    good_of (Comes c.args.event.now) (state_of g.R.Runner.part c.args.self.now) _ (acted g.R.Runner.part g.R.Runner.acts c.args.self.now) (rw (← c.self.view_is) c.self.invariant) c.requires.chosen tt
    (rw (← c.self.view_is, c.come.ensures.kernel, c.come.ensures.runner, c.pass_event.ensures, c.deref.ensures.value))
