-- What the refusal of a script says of its lines.
use Rattle.std.specs.Prelude.{ℕ, ◌-◌, ◌≡◌, ◌<◌, ◌≤◌, ◌⊎◌, ◌↔◌, true, List, take, slice_get, Some, None}
use Rattle.domain_model.specs.declared.script.Event.{Event}
use Rattle.event_script.specs.declared.error.ScriptError.{ScriptError}
use Rattle.event_script.specs.declared.error.ScriptError.TheVariants.{Line, Order, ImageIndex, TooMany, NoMemory}
use Rattle.event_script.specs.Lines.{TextLine, lines_of}
use Rattle.event_script.specs.Events.{Said, An, Wrong, said, events_in}
use Rattle.event_script.specs.Refusals.{comes_late, asks_beyond, is_too_much, refusal_of}

-- The line with a number, counted from 1, says this.
pub record Says (lines : List TextLine) (number : ℕ) (what : Said) : Type 0 where
  pub line : TextLine
  pub counted : 1 ≤ number
  pub there : slice_get lines (number - 1) ≡ Some line
  pub says : said line ≡ what

-- the events of the lines before it
abbrev pub before : List TextLine → ℕ → List Event
before lines number = events_in (take (number - 1) lines)

-- What stands against a script, by its refusal: a line that is no line of a script; an event with a time before that
-- of an earlier event; one that asks for an image that isn't given; one behind as many events as there may be.
abbrev pub Holds : ℕ → List TextLine → ScriptError → Type 0
Holds images lines (Line n) = Says lines n Wrong
Holds images lines (Order n) = (e : Event) × Says lines n (An e) × (comes_late (before lines n) e ≡ true)
Holds images lines (ImageIndex n) = (e : Event) × Says lines n (An e) × (asks_beyond images e.what ≡ true)
Holds images lines (TooMany n) = (e : Event) × Says lines n (An e) × (is_too_much (before lines n) ≡ true)
Holds images lines NoMemory = ⊥

-- the number of the line that a refusal names, and the number of its kind
abbrev pub line_number : ScriptError → ℕ
line_number (Line n) = n
line_number (Order n) = n
line_number (ImageIndex n) = n
line_number (TooMany n) = n
line_number NoMemory = 0

abbrev pub kind_number : ScriptError → ℕ
kind_number (Line n) = 1
kind_number (Order n) = 2
kind_number (ImageIndex n) = 3
kind_number (TooMany n) = 4
kind_number NoMemory = 0

-- It holds, at the least line where one holds, and there it has the least kind.
pub record IsRefusal (images : ℕ) (lines : List TextLine) (error : ScriptError) : Type 0 where
  pub holds : Holds images lines error
  pub first : (other : ScriptError) → Holds images lines other
      → (line_number error < line_number other) ⊎ ((line_number error ≡ line_number other) × (kind_number error ≤ kind_number other))

-- The refusal of a text is the first that holds of its lines, and there is none exactly where none holds.
abbrev pub RefusalIsFirst : Type 0
RefusalIsFirst = (images : ℕ) (text : List ℕ) (error : ScriptError)
    → (refusal_of images text ≡ Some error) ↔ IsRefusal images (lines_of text) error

abbrev pub NoneIsRefused : Type 0
NoneIsRefused = (images : ℕ) (text : List ℕ)
    → (refusal_of images text ≡ None) ↔ ((error : ScriptError) → ¬ Holds images (lines_of text) error)
