use Rattle.avr_isa.proofs.Exact.{decodes_rows, refuses_undefined, refuses_cut_short}
use Rattle.avr_isa.proofs.laws.decoded_is_the_table.Goals as goal

pub returns-clause-rows : goal.returns-clause-rows
returns-clause-rows c = decodes_rows

pub returns-clause-undefined : goal.returns-clause-undefined
returns-clause-undefined c = refuses_undefined

pub returns-clause-needs_second : goal.returns-clause-needs_second
returns-clause-needs_second c = refuses_cut_short
