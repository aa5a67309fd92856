-- Events as text, and the lists of events that a script can have.
use Rattle.std.specs.Prelude.{ℕ, ◌≡◌, ◌<◌, ◌≤◌, ⊤, List, [], ◌∷◌, ◌++◌, length, codes, decimal, None}
use Rattle.std.specs.List.{AllByRecursion}
use Rattle.mote_base.specs.Digits.{bytes_text}
use Rattle.mote_base.specs.Spaced.{spaced}
use Rattle.mote_layout.specs.Limits.{event_limit, payload_limit}
use Rattle.domain_model.specs.declared.script.Event.{Event}
use Rattle.domain_model.specs.declared.script.What.{What}
use Rattle.domain_model.specs.declared.script.What.TheVariants.{Load, Unload, Radio, Dump}
use Rattle.event_script.specs.Numbers.{last_time, last_image, first_id, last_id, last_type}
use Rattle.event_script.specs.Refusals.{refusal_of, events_of}

-- The words of an event.
abbrev pub what_words : What → List (List ℕ)
what_words (Load image) = codes "load" ∷ decimal image ∷ []
what_words (Unload id) = codes "unload" ∷ decimal id ∷ []
what_words (Radio to sort bytes) = codes "radio" ∷ decimal to ∷ decimal sort ∷ bytes_text bytes ∷ []
what_words Dump = codes "dump" ∷ []

abbrev pub event_words : Event → List (List ℕ)
event_words e = decimal e.time ∷ what_words e.what

-- The line of an event has its words with single spaces between them.
abbrev pub event_text : Event → List ℕ
event_text e = spaced (event_words e) ++ (10 ∷ [])

abbrev pub script_text : List Event → List ℕ
script_text [] = []
script_text (e ∷ es) = event_text e ++ script_text es

-- The times of events don't fall.
abbrev pub AreInOrder : List Event → Type 0
AreInOrder [] = ⊤
AreInOrder (e ∷ es) = AllByRecursion (λ (x : Event). e.time ≤ x.time) es × AreInOrder es

-- An event's numbers are in their ranges, and the image that it loads is given.
abbrev pub AsksInRange : ℕ → What → Type 0
AsksInRange images (Load image) = (image < images) × (image ≤ last_image)
AsksInRange images (Unload id) = (first_id ≤ id) × (id ≤ last_id)
AsksInRange images (Radio to sort bytes) =
    ((first_id ≤ to) × (to ≤ last_id)) × (sort ≤ last_type) × (length bytes ≤ payload_limit) × AllByRecursion (λ b. b < 256) bytes
AsksInRange images Dump = ⊤

abbrev pub IsInRange : ℕ → Event → Type 0
IsInRange images e = (e.time ≤ last_time) × AsksInRange images e.what

-- The events that a script can have.
pub record AreEvents (images : ℕ) (events : List Event) : Type 0 where
  pub order : AreInOrder events
  pub ranges : AllByRecursion (IsInRange images) events
  pub few : length events ≤ event_limit

-- A script has such events.
abbrev pub ScriptsHaveEvents : Type 0
ScriptsHaveEvents = (images : ℕ) (text : List ℕ) → refusal_of images text ≡ None → AreEvents images (events_of text)

-- Such events, spelled, are read as themselves.
abbrev pub SpelledEventsAreRead : Type 0
SpelledEventsAreRead = (images : ℕ) (events : List Event) → AreEvents images events
    → (refusal_of images (script_text events) ≡ None) × (events_of (script_text events) ≡ events)
