-- Where a run of words stands, as the code tells it.
use Rattle.std.specs.Prelude.{⊤}
use Rattle.mote_layout.specs.declared.page.Entry.{Entry}
use Rattle.mote_layout.specs.declared.page.Entry.TheVariants as entry
use Rattle.word_run.specs.Entries.{Way, Goes, Ends}
use Rattle.unit_run.specs.declared.arrived.Arrived.{Arrived}
use Rattle.unit_run.specs.declared.arrived.Arrived.TheVariants as arrived

abbrev pub way_of : Arrived → Way
way_of (arrived.Going address) = Goes address
way_of (arrived.Stopped ending) = Ends ending

-- The entry is the guard of a store or a load.
abbrev pub GuardsAccess : Entry → Type 0
GuardsAccess entry.PushGuard = ⊥
GuardsAccess entry.PopGuard = ⊥
GuardsAccess entry.SpGuard = ⊥
GuardsAccess entry.Reserve = ⊥
GuardsAccess entry.LocalCall = ⊥
GuardsAccess entry.SlotIndirect = ⊥
GuardsAccess entry.Return = ⊥
GuardsAccess (entry.Kernel n) = ⊥
GuardsAccess (entry.Slot i) = ⊥
GuardsAccess _ = ⊤

-- and that of a load
abbrev pub GuardsLoad : Entry → Type 0
GuardsLoad entry.LoadX = ⊤
GuardsLoad entry.LoadXInc = ⊤
GuardsLoad entry.LoadXDec = ⊤
GuardsLoad entry.LoadYInc = ⊤
GuardsLoad entry.LoadYDec = ⊤
GuardsLoad entry.LoadZInc = ⊤
GuardsLoad entry.LoadZDec = ⊤
GuardsLoad (entry.LoadY q) = ⊤
GuardsLoad (entry.LoadZ q) = ⊤
GuardsLoad entry.LoadLds = ⊤
GuardsLoad _ = ⊥
