-- What holds of every bundle.
use Rattle.std.specs.Prelude.{ℕ, ◌≡◌, List, None}
use Rattle.std.specs.List.{AllByRecursion}
use Rattle.unit_code.specs.Law.{NoneHolds}
use Rattle.module_image.specs.Contents.{Contents, first_version}
use Rattle.domain_model.specs.Files.{IsImageWith}
use Rattle.domain_model.specs.Prepared.{marks_of}
use Rattle.event_script.specs.Refusals as script
use Rattle.event_script.specs.Spelled.{AreEvents, script_text}
use Rattle.mote_gen.specs.Numbers.{module_count, numbers_of}
use Rattle.mote_gen.specs.Bundle.{images_of}
use Rattle.mote_gen.specs.Packets.{events_of}

-- It is of the first version, and no condition refuses its code.
pub record HasUnits (c : Contents) : Type 0 where
  pub first : c.version ≡ first_version
  pub accepted : NoneHolds c.code (marks_of c) c.sealed

-- Each file is an image whose code has units.
abbrev pub ImagesAreAccepted : Type 0
ImagesAreAccepted = (seed : ℕ) → AllByRecursion (IsImageWith HasUnits) (images_of (numbers_of seed))

-- The events are such as a script of a run with these images can have.
abbrev pub EventsAreOfAScript : Type 0
EventsAreOfAScript = (seed : ℕ) → AreEvents module_count (events_of (numbers_of seed))

-- The text of the events is such a script, and it says these events.
abbrev pub EventsAreRead : Type 0
EventsAreRead = (seed : ℕ) → let text : List ℕ = script_text (events_of (numbers_of seed)) in
    (script.refusal_of module_count text ≡ None) × (script.events_of text ≡ events_of (numbers_of seed))
