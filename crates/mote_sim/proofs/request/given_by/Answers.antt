use Rattle.std.proofs.Common.{◌≡◌, Some, None, rules}
use Rattle.command_line.specs.Command.{given_by, nothing_given, with_word}
use Rattle.mote_sim.proofs.Stopped.{none_behind}
use Rattle.mote_sim.proofs.request.given_by.Goals as goal

pub returns-in_err-take : goal.returns-in_err-take
returns-in_err-take c =
    let never : with_word c.loop-word.given.place c.word-item.result c.loop-word.given ≡ None = search rules in
    let none : c.from_residual.result ≡ None = search rules in
    rw none (none_behind c.args.words.now c.loop-word.word-index c.word-item.result c.loop-word.given (given_by c.args.words.now (Some nothing_given)) c.loop-word-test.true c.word-item.is never c.loop-word.invariant)
