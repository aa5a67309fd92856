use Rattle.std.proofs.Common.{◌∙◌, ap, sym}
use Rattle.domain_model.proofs.LawfulLaws.{turns_are_lawful}
use Rattle.domain_model.proofs.FewerLaws.{remaining_falls}
use Rattle.domain_model.specs.declared.event.Choice.{Choice}
use Rattle.mote_core.specs.Exact.{turned, turned_by}
use Rattle.mote_core.specs.Value.{acted, state_of}
use Rattle.mote_core.proofs.MoteLaws.{turn_of, turning_is}
use Rattle.mote_core.proofs.mote.Mote.turn.Goals as goal

pub returns-clause-lawful : goal.returns-clause-lawful
returns-clause-lawful g c =
    turns_are_lawful (state_of g.R.Runner.part c.args.self.now) _ _ c.choose-next.ensures.good
    (turn_of c.choose-next.result (state_of g.R.Runner.part c.args.self.now) _ (acted g.R.Runner.part g.R.Runner.acts c.args.self.now) c.take.new.lines c.choose-next.ensures.good (sym c.choose-next.ensures.next) c.take.ensures.may c.take.ensures.state c.take.ensures.lines)

pub returns-clause-fewer : goal.returns-clause-fewer
returns-clause-fewer g c = λ live.
    remaining_falls (state_of g.R.Runner.part c.args.self.now) _ _ c.choose-next.ensures.good live
    (turn_of c.choose-next.result (state_of g.R.Runner.part c.args.self.now) _ (acted g.R.Runner.part g.R.Runner.acts c.args.self.now) c.take.new.lines c.choose-next.ensures.good (sym c.choose-next.ensures.next) c.take.ensures.may c.take.ensures.state c.take.ensures.lines)

pub returns-clause-exact : goal.returns-clause-exact
returns-clause-exact g c =
    turning_is (turned (record {
      part = g.R.Runner.part;
      acts = g.R.Runner.acts;
      placed_by = g.R.Runner.placed_by;
      cleared_by = g.R.Runner.cleared_by;
      entered_by = g.R.Runner.entered_by;
    }) c.args.self.now) _ _ (c.take.ensures.exact
    ∙ ap (λ (x : Choice). (turned_by (record {
      part = g.R.Runner.part;
      acts = g.R.Runner.acts;
      placed_by = g.R.Runner.placed_by;
      cleared_by = g.R.Runner.cleared_by;
      entered_by = g.R.Runner.entered_by;
    }) x c.args.self.now).value) c.choose-next.ensures.next)
    (rw c.choose-next.ensures.next at c.take.ensures.lines)
