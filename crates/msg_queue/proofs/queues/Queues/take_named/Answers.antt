use Rattle.std.proofs.Common.{◌∙◌, ap, is_some}
use Rattle.mote_base.specs.Messages.{in_order, names}
use Rattle.msg_queue.proofs.Taken.{is_some-find}
use Rattle.msg_queue.proofs.queues.Queues.take_named.Goals as goal

pub returns-clause-found : goal.returns-clause-found
returns-clause-found g c = ap is_some c.take.ensures.first ∙ is_some-find (names {P = g.row.P.Denot} c.args.id) (in_order c.args.self.now)
