use Rattle.mote_core.proofs.RowLaws.{named_in_domain, row_is}
use Rattle.mote_core.proofs.turns.purge_ending.Goals as goal

pub clear-requires : goal.clear-requires
clear-requires g c =
    let row = row_is _ _ c.in-Some-module_named.ensures.row in
    rw row.is (named_in_domain c.args.k.now.modules c.in-Some.id row.loaded c.requires.modules row.found)
