-- What the values of the code stand for.
use Rattle.std.specs.Prelude.{Option, Some, None}
use Rattle.avr_asm.specs.declared.row.Said.{Said}
use Rattle.avr_asm.specs.declared.row.Said.TheVariants as said
use Rattle.avr_asm.specs.declared.row.Row as declared
use Rattle.avr_asm.specs.Line.{Line, Module, Version, State, Handler, Sealed, Provides, Subscribes, Const, Code, Label, Item}
use Rattle.avr_asm.specs.Rows.{Row}

abbrev pub seen : Said → Line
seen (said.Module id) = Module id
seen (said.Version version) = Version version
seen (said.State size) = State size
seen (said.Handler goal) = Handler goal.now
seen said.Sealed = Sealed
seen (said.Provides func proto goal) = Provides func proto goal.now
seen (said.Subscribes provider func proto) = Subscribes provider func proto
seen (said.Const pairs) = Const pairs.now
seen said.Code = Code
seen (said.Label name) = Label name.now
seen (said.Item unit goal) = Item unit goal.now

abbrev pub seen_option : Option Said → Option Line
seen_option None = None
seen_option (Some s) = Some (seen s)

abbrev pub row_seen : declared.Row → Row
row_seen r = record { line = r.line; stage = r.stage; unit = r.unit; place = r.place; says = seen_option r.says }

abbrev pub row_option : Option declared.Row → Option Row
row_option None = None
row_option (Some r) = Some (row_seen r)
