-- What a line of a script says.
use Rattle.std.specs.Prelude.{ℕ, ◌==◌, ◌||◌, Bool, List, [], ◌∷◌, length, slice_index, Option, Some, None, codes, if◌then◌else◌}
use Rattle.std.specs.Str.{bytes_eq}
use Rattle.domain_model.specs.declared.script.Event.{Event}
use Rattle.domain_model.specs.declared.script.What.{What}
use Rattle.domain_model.specs.declared.script.What.TheVariants.{Load, Unload, Radio, Dump}
use Rattle.event_script.specs.Lines.{TextLine}
use Rattle.mote_base.specs.Spaced.{words_of}
use Rattle.mote_base.specs.Numbers.{number_in}
use Rattle.event_script.specs.Numbers.{last_time, last_image, first_id, last_id, last_type}
use Rattle.event_script.specs.Bytes.{bytes_of}

-- `load I`
abbrev pub load_with : Option ℕ → Option What
load_with None = None
load_with (Some image) = Some (Load image)

abbrev pub load_of : List (List ℕ) → Option What
load_of (image ∷ []) = load_with (number_in 0 last_image image)
load_of _ = None

-- `unload ID`
abbrev pub unload_with : Option ℕ → Option What
unload_with None = None
unload_with (Some id) = Some (Unload id)

abbrev pub unload_of : List (List ℕ) → Option What
unload_of (id ∷ []) = unload_with (number_in first_id last_id id)
unload_of _ = None

-- `radio ID TYPE HEX`
abbrev pub radio_with : Option ℕ → Option ℕ → Option (List ℕ) → Option What
radio_with (Some to) (Some sort) (Some bytes) = Some (Radio to sort bytes)
radio_with _ _ _ = None

abbrev pub radio_of : List (List ℕ) → Option What
radio_of (to ∷ sort ∷ bytes ∷ []) =
    radio_with (number_in first_id last_id to) (number_in 0 last_type sort) (bytes_of bytes)
radio_of _ = None

-- `dump`
abbrev pub dump_of : List (List ℕ) → Option What
dump_of [] = Some Dump
dump_of _ = None

abbrev pub what_of : List ℕ → List (List ℕ) → Option What
what_of verb operands =
    if bytes_eq verb (codes "load") then load_of operands
    else (if bytes_eq verb (codes "unload") then unload_of operands
    else (if bytes_eq verb (codes "radio") then radio_of operands
    else (if bytes_eq verb (codes "dump") then dump_of operands else None)))

abbrev pub event_with : Option ℕ → Option What → Option Event
event_with (Some time) (Some asked) = Some (record { time = time; what = asked })
event_with _ _ = None

-- what the words behind the time ask for
abbrev pub asked_by : List (List ℕ) → Option What
asked_by [] = None
asked_by (verb ∷ operands) = what_of verb operands

-- An event is its time and what it asks for.
abbrev pub event_of : List (List ℕ) → Option Event
event_of [] = None
event_of (time ∷ words) = event_with (number_in 0 last_time time) (asked_by words)

-- An empty line, and one that begins with `#` (35), says nothing.
abbrev pub is_blank : List ℕ → Bool
is_blank line = length line == 0 || slice_index line 0 == 35

-- What a line says: nothing, an event, or what is no line of a script.
pub data Said : Type 0 where
  Nothing : Said
  An : Event → Said
  Wrong : Said

abbrev pub said_event : Option Event → Said
said_event None = Wrong
said_event (Some event) = An event

-- A line without its end is no line of a script, whatever stands in it.
abbrev pub said : TextLine → Said
said line = if line.ended then (if is_blank line.bytes then Nothing else said_event (event_of (words_of line.bytes))) else Wrong

-- The events that lines say, in their order.
abbrev pub onto_events : Said → List Event → List Event
onto_events (An event) events = event ∷ events
onto_events _ events = events

abbrev pub events_in : List TextLine → List Event
events_in [] = []
events_in (line ∷ lines) = onto_events (said line) (events_in lines)
