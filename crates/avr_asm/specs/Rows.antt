-- The lines of a text that say something: where each stands, and what stood before it.
use Rattle.std.specs.Prelude.{ℕ, suc, ◌+◌, ◌==◌, ◌&&◌, nat_le, nat_lt, Bool, true, false, if◌then◌else◌, List, [], ◌∷◌, Option, Some, None}
use Rattle.mote_layout.specs.Limits.{provided_limit, subscribed_limit}
use Rattle.module_image.specs.Contents.{second_version}
use Rattle.unit_code.specs.declared.unit.Unit.{Unit}
use Rattle.unit_code.specs.declared.unit.Unit.TheVariants.{Plain, Store, Load, SpGroup, Skip, KernelCall, SlotCall}
use Rattle.unit_code.specs.Lengths.{instruction_length}
use Rattle.avr_asm.specs.declared.stage.Step.{Step}
use Rattle.avr_asm.specs.declared.stage.Step.TheVariants.{Opening, Named, Versioned, Sized, Handled, Closed, Providing, Subscribing, Constants, Body}
use Rattle.avr_asm.specs.declared.stage.Stage.{Stage}
use Rattle.avr_asm.specs.Text.{is_blank}
use Rattle.avr_asm.specs.Line.{Line, Module, Version, State, Handler, Sealed, Provides, Subscribes, Const, Code, Label, Item}
use Rattle.avr_asm.specs.Reading.{said}

-- the place of a step in their order
abbrev pub rank : Step → ℕ
rank Opening = 0
rank Named = 1
rank Versioned = 2
rank Sized = 3
rank Handled = 4
rank Closed = 5
rank Providing = 6
rank Subscribing = 7
rank Constants = 8
rank Body = 9

abbrev pub is_at : Step → Step → Bool
is_at wanted step = rank step == rank wanted

-- behind the handler's line, and before what comes behind the last step
abbrev pub is_between : Step → Step → Bool
is_between last step = nat_le 4 (rank step) && nat_le (rank step) (rank last)

-- the first line is yet to come
abbrev pub start : Stage
start = record { step = Opening; version = 0; provided = 0; least = 0; subscribed = 0 }

abbrev pub at_step : Step → Stage → Stage
at_step step s = record { step = step; version = s.version; provided = s.provided; least = s.least; subscribed = s.subscribed }

abbrev pub with_version : ℕ → Stage → Stage
with_version version s = record { step = Versioned; version = version; provided = s.provided; least = s.least; subscribed = s.subscribed }

abbrev pub with_provided : ℕ → Stage → Stage
with_provided func s = record { step = Providing; version = s.version; provided = s.provided + 1; least = func + 1; subscribed = s.subscribed }

abbrev pub with_subscribed : Stage → Stage
with_subscribed s = record { step = Subscribing; version = s.version; provided = s.provided; least = s.least; subscribed = s.subscribed + 1 }

abbrev pub allowed : Bool → Stage → Option Stage
allowed true s = Some s
allowed false s = None

-- What comes behind the line where it is in its place: the lines of the head once each and in their order, of which the second
-- version alone has the seal and the constants; then labels and units. Provided functions have rising ids.
abbrev pub behind : Stage → Option Line → Option Stage
behind s None = None
behind s (Some (Module id)) = allowed (is_at Opening s.step) (at_step Named s)
behind s (Some (Version version)) = allowed (is_at Named s.step) (with_version version s)
behind s (Some (State size)) = allowed (is_at Versioned s.step) (at_step Sized s)
behind s (Some (Handler goal)) = allowed (is_at Sized s.step) (at_step Handled s)
behind s (Some Sealed) = allowed (is_at Handled s.step && (s.version == second_version)) (at_step Closed s)
behind s (Some (Provides func proto goal)) =
    allowed (is_between Providing s.step && (nat_lt s.provided provided_limit && nat_le s.least func)) (with_provided func s)
behind s (Some (Subscribes provider func proto)) =
    allowed (is_between Subscribing s.step && nat_lt s.subscribed subscribed_limit) (with_subscribed s)
behind s (Some (Const pairs)) = allowed (is_between Subscribing s.step && (s.version == second_version)) (at_step Constants s)
behind s (Some Code) = allowed (is_between Constants s.step) (at_step Body s)
behind s (Some (Label name)) = allowed (is_at Body s.step) s
behind s (Some (Item unit goal)) = allowed (is_at Body s.step) s

-- A line that is out of its place changes nothing.
abbrev pub kept : Stage → Option Stage → Stage
kept s None = s
kept s (Some next) = next

abbrev pub unit_after : ℕ → Option Line → ℕ
unit_after k (Some (Item unit goal)) = suc k
unit_after k _ = k

-- how many words of code a unit has
abbrev pub unit_words : Unit → ℕ
unit_words (Plain i) = instruction_length i
unit_words (Store i) = instruction_length i
unit_words (Load i) = instruction_length i
unit_words (Skip i) = instruction_length i
unit_words (SpGroup true) = 3
unit_words (SpGroup false) = 2
unit_words (KernelCall n) = 2
unit_words (SlotCall n) = 2
unit_words _ = 1

abbrev pub place_after : ℕ → Option Line → ℕ
place_after place (Some (Item unit goal)) = place + unit_words unit
place_after place _ = place

-- A line that isn't blank: its number, where it stands, how many units and how many words of code come before it, and what it
-- says.
pub record Row : Type 0 where
  pub line : ℕ
  pub stage : Stage
  pub unit : ℕ
  pub place : ℕ
  pub says : Option Line

abbrev pub rows : ℕ → Stage → ℕ → ℕ → List (List ℕ) → List Row
rows n s k place [] = []
rows n s k place (t ∷ ts) =
    if is_blank t then rows (suc n) s k place ts
    else record { line = n; stage = s; unit = k; place = place; says = said t }
    ∷ rows (suc n) (kept s (behind s (said t))) (unit_after k (said t)) (place_after place (said t)) ts

-- The rows of a text's lines.
abbrev pub rows_of : List (List ℕ) → List Row
rows_of lines = rows 1 start 0 0 lines
