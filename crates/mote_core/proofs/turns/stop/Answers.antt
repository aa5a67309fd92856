use Rattle.mote_core.proofs.RowLaws.{rest_in_domains}
use Rattle.mote_core.proofs.turns.stop.Goals as goal

pub purge_ending-requires-clause-modules : goal.purge_ending-requires-clause-modules
purge_ending-requires-clause-modules g c = rw (c.purge.ensures, c.end_handler-ending.ensures.kernel) (rest_in_domains c.args.k.now.modules c.args.run.now.domain c.requires.modules)
