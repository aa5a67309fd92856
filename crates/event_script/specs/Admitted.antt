-- Whether an event can stand where it does, told by the latest time before it and by how many events stand before it.
use Rattle.std.specs.Prelude.{ℕ, nat_le, nat_lt, Result, Ok, Err, if◌then◌else◌}
use Rattle.mote_layout.specs.Limits.{event_limit}
use Rattle.domain_model.specs.declared.script.Event.{Event}
use Rattle.event_script.specs.declared.error.ScriptError.{ScriptError}
use Rattle.event_script.specs.declared.error.ScriptError.TheVariants.{Order, ImageIndex, TooMany}
use Rattle.event_script.specs.Refusals.{asks_beyond}

abbrev pub admitted : ℕ → ℕ → ℕ → ℕ → Event → Result (Unit {0}) ScriptError
admitted latest count images line event =
    if nat_lt event.time latest then Err (Order line)
    else (if asks_beyond images event.what then Err (ImageIndex line)
    else (if nat_le event_limit count then Err (TooMany line) else Ok tt))
