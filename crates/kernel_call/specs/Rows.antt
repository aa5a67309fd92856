-- The row of a loaded module.
use Rattle.domain_model.specs.State.{Loaded}
use Rattle.kernel_call.specs.declared.loaded.ModuleRow.{ModuleRow}

-- what a turn has to know of a module
abbrev pub row_of : Loaded → ModuleRow
row_of m = record { id = m.face.id; domain = m.domain; state = m.state; handler = m.handler }
