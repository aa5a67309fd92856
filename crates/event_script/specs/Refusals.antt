-- The refusal of a script.
use Rattle.std.specs.Prelude.{ℕ, ◌+◌, nat_le, nat_lt, Bool, false, List, [], ◌∷◌, ◌++◌, length, Option, Some, None, if◌then◌else◌}
use Rattle.std.specs.List.{list_any}
use Rattle.mote_layout.specs.Limits.{event_limit}
use Rattle.domain_model.specs.declared.script.Event.{Event}
use Rattle.domain_model.specs.declared.script.What.{What}
use Rattle.domain_model.specs.declared.script.What.TheVariants as what
use Rattle.event_script.specs.declared.error.ScriptError.{ScriptError}
use Rattle.event_script.specs.declared.error.ScriptError.TheVariants.{Line, Order, ImageIndex, TooMany}
use Rattle.event_script.specs.Lines.{TextLine, lines_of}
use Rattle.event_script.specs.Events.{Said, An, Nothing, Wrong, said, onto_events, events_in}

-- Some earlier event has a later time.
abbrev pub comes_late : List Event → Event → Bool
comes_late before event = list_any (λ (e : Event). nat_lt event.time e.time) before

-- It asks for an image that isn't given.
abbrev pub asks_beyond : ℕ → What → Bool
asks_beyond images (what.Load image) = nat_le images image
asks_beyond images _ = false

-- As many events as there may be stand before it.
abbrev pub is_too_much : List Event → Bool
is_too_much before = nat_le event_limit (length before)

-- What stands against the line with this number, behind the events of the lines before it.
abbrev pub against_event : ℕ → List Event → ℕ → Event → Option ScriptError
against_event images before number event =
    if comes_late before event then Some (Order number)
    else (if asks_beyond images event.what then Some (ImageIndex number)
    else (if is_too_much before then Some (TooMany number) else None))

abbrev pub against : ℕ → List Event → ℕ → Said → Option ScriptError
against images before number Wrong = Some (Line number)
against images before number (An event) = against_event images before number event
against images before number Nothing = None

-- the first that stands against a line, where the lines before it have these events
abbrev pub or_later : Option ScriptError → Option ScriptError → Option ScriptError
or_later (Some error) later = Some error
or_later None later = later

abbrev pub first_against : ℕ → List Event → ℕ → List TextLine → Option ScriptError
first_against images before number [] = None
first_against images before number (line ∷ lines) =
    or_later (against images before number (said line))
    (first_against images (before ++ onto_events (said line) []) (number + 1) lines)

-- The refusal of a script, where it has one: of the first line that something stands against. Lines are counted
-- from 1.
abbrev pub refusal_of : ℕ → List ℕ → Option ScriptError
refusal_of images text = first_against images [] 1 (lines_of text)

-- The events of a script, which are those of its lines.
abbrev pub events_of : List ℕ → List Event
events_of text = events_in (lines_of text)
