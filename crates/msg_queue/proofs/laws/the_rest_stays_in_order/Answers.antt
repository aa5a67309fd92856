use Rattle.mote_base.specs.Messages.{names}
use Rattle.msg_queue.proofs.Rest.{rest-front, rest-first}
use Rattle.msg_queue.proofs.laws.the_rest_stays_in_order.Goals as goal

pub returns-clause-front : goal.returns-clause-front
returns-clause-front g c = λ lists. rest-front lists

pub returns-clause-named : goal.returns-clause-named
returns-clause-named g c = λ id lists. rest-first (names id) lists
