-- No entry of the new table is set.
use Rattle.std.proofs.Common.{refl, replicate, None}
use Rattle.mote_layout.specs.Limits.{provided_limit}
use Rattle.mote_layout.specs.Memory.{domain_count}
use Rattle.jump_table.specs.Entries.{Entries}
use Rattle.jump_table.proofs.Empty.{table_none}
use Rattle.jump_table.proofs.table.JumpTable.new.Goals as goal

abbrev rows : Entries
rows = replicate domain_count (replicate provided_limit None)

pub returns : goal.returns
returns c = λ d i. table_none rows d i refl
