-- Every turn from a good state is lawful, and every run from one.
use Rattle.domain_model.specs.Turn.{over, more}
use Rattle.domain_model.specs.Laws.{TurnsAreLawful, RunsAreLawful}
use Rattle.domain_model.proofs.TurnLaws.{turn_good}
use Rattle.domain_model.proofs.ConfinedLaws.{turn_confined}
use Rattle.domain_model.proofs.CrossingLaws.{turn_crosses}
use Rattle.domain_model.proofs.UnloadLaws.{turn_unloads}
use Rattle.domain_model.proofs.InterruptLaws.{turn_interrupts}
use Rattle.domain_model.proofs.OthersLaws.{turn_unloads_alone}

pub turns_are_lawful : TurnsAreLawful
turns_are_lawful s t lines g turn = record {
  turn = turn;
  good = turn_good s t lines g turn;
  confined = turn_confined s t lines g turn;
  crosses = turn_crosses s t lines turn;
  unloads = turn_unloads s t lines g turn;
  unloads_alone = turn_unloads_alone s t lines g turn;
  interrupts = turn_interrupts s t lines g turn;
}

pub runs_are_lawful : RunsAreLawful
runs_are_lawful s _ g (over ended) = over ended
runs_are_lawful s _ g (more t lines rest live turn run) =
    more t lines rest live (turns_are_lawful s t lines g turn) (runs_are_lawful t rest (turn_good s t lines g turn) run)
