use Rattle.std.proofs.Common.{◌≡◌, Some, drop}
use Rattle.command_line.specs.Command.{given_by, nothing_given}
use Rattle.mote_sim.proofs.request.given_by.Given as goal

abbrev pub invariant-loop-word : goal.invariant-loop-word
invariant-loop-word l = given_by (drop l.word-index l.words) (Some l.given) ≡ given_by l.words (Some nothing_given)
