-- Why a text is not assembled: four conditions, each of a row and of those behind it, and the least line of each.
use Rattle.std.specs.Prelude.{ℕ, suc, ◌+◌, ◌==◌, ◌&&◌, ◌||◌, not, nat_le, nat_lt, Bool, true, false, if◌then◌else◌, List, [], ◌∷◌, length, Option, Some, None, is_none, option_map}
use Rattle.std.specs.Str.{bytes_eq}
use Rattle.mote_layout.specs.Memory.{bank_words}
use Rattle.unit_code.specs.declared.unit.Unit.{Unit}
use Rattle.unit_code.specs.declared.unit.Unit.TheVariants.{Skip, Branch, LocalCall}
use Rattle.unit_code.specs.Ends.{leaves, long_length}
use Rattle.unit_code.specs.Loads.{guarded}
use Rattle.unit_code.specs.Proper.{is_group_unit}
use Rattle.avr_asm.specs.declared.error.AsmError.{AsmError}
use Rattle.avr_asm.specs.declared.error.AsmError.TheVariants as error
use Rattle.avr_asm.specs.Text.{is_number, lines_in, value}
use Rattle.avr_asm.specs.Line.{Line, Handler, Sealed, Provides, Label, Item}
use Rattle.avr_asm.specs.Rows.{Row, behind, rows_of, unit_after}

-- the line of the first row at which a test holds, by it and those behind it
abbrev pub first : (Row → List Row → Bool) → List Row → Option ℕ
first p [] = None
first p (r ∷ rs) = if p r rs then Some r.line else first p rs

-- how many units there are
abbrev pub count : List Row → ℕ
count [] = 0
count (r ∷ rs) = unit_after (count rs) r.says

abbrev pub is_labelled : List ℕ → Option Line → Bool
is_labelled name (Some (Label other)) = bytes_eq name other
is_labelled name _ = false

-- the first row with that label
abbrev pub labelled : List ℕ → List Row → Option Row
labelled name [] = None
labelled name (r ∷ rs) = if is_labelled name r.says then Some r else labelled name rs

abbrev pub unit_of : Option Row → Option ℕ
unit_of None = None
unit_of (Some r) = Some r.unit

-- the unit that a goal names: by its number, or by the label before it
abbrev pub resolved : List Row → List ℕ → Option ℕ
resolved all goal = if is_number goal then Some (value goal) else unit_of (labelled goal all)

abbrev pub some_goal : List ℕ → Option (List ℕ)
some_goal [] = None
some_goal (c ∷ cs) = Some (c ∷ cs)

-- the goal of a line that has one
abbrev pub goal_of : Option Line → Option (List ℕ)
goal_of (Some (Handler goal)) = some_goal goal
goal_of (Some (Provides func proto goal)) = some_goal goal
goal_of (Some (Item unit goal)) = some_goal goal
goal_of _ = None

-- the unit to which a line leads
abbrev pub led : List Row → Option (List ℕ) → Option ℕ
led all None = None
led all (Some goal) = resolved all goal

-- 1: it says nothing, or stands out of its place.
abbrev pub is_misplaced : Row → List Row → Bool
is_misplaced r rs = is_none (behind r.stage r.says)

-- The text ends too early where it has no unit.
abbrev pub too_early : ℕ → ℕ → Option ℕ
too_early end total = if total == 0 then Some end else None

-- 2: a label that was given before or has no unit behind it, or a name without its label.
abbrev pub is_given_before : ℕ → Option Row → Bool
is_given_before line None = false
is_given_before line (Some r) = nat_lt r.line line

abbrev pub lacks_label : List Row → Option (List ℕ) → Bool
lacks_label all None = false
lacks_label all (Some goal) = is_none (resolved all goal)

abbrev pub is_mislabelled : List Row → ℕ → ℕ → ℕ → Option Line → Bool
is_mislabelled all total line k (Some (Label name)) = nat_le total k || is_given_before line (labelled name all)
is_mislabelled all total line k says = lacks_label all (goal_of says)

-- 3: a target that is no unit, a branch that doesn't reach it, or a call of the next unit, which would make room on the stack.
abbrev pub has_unit : Option Line → Bool
has_unit (Some (Item unit goal)) = true
has_unit _ = false

-- the row of the unit with that number
abbrev pub row_of : List Row → ℕ → Option Row
row_of [] k = None
row_of (r ∷ rs) k = if (r.unit == k) && has_unit r.says then Some r else row_of rs k

abbrev pub place_in : Option Row → ℕ
place_in None = 0
place_in (Some r) = r.place

abbrev pub line_in : Option Row → ℕ
line_in None = 0
line_in (Some r) = r.line

-- 64 words back from the next word, or 63 on
abbrev pub is_far : ℕ → ℕ → Bool
is_far from to = nat_lt (to + 64) (from + 1) || nat_lt (from + 64) to

abbrev pub is_beyond : List Row → ℕ → ℕ → ℕ → Option Line → Bool
is_beyond all k place target (Some (Item (Branch set bit u) goal)) = is_far place (place_in (row_of all target))
is_beyond all k place target (Some (Item (LocalCall u) goal)) = target == k + 1
is_beyond all k place target _ = false

abbrev pub is_off : List Row → ℕ → Row → Option ℕ → Bool
is_off all total r None = false
is_off all total r (Some target) = nat_le total target || is_beyond all r.unit r.place target r.says

abbrev pub leads_astray : List Row → ℕ → Row → Option (List ℕ) → Bool
leads_astray all total r None = false
leads_astray all total r (Some goal) = is_off all total r (resolved all goal)

-- 4: a skip without two further units behind it or over a group, or the last unit where control runs past it or the code
-- is too long. Where a unit leads has no part in it.
abbrev pub seals : Option Line → Bool
seals (Some Sealed) = true
seals _ = false

-- whether a line seals the text
abbrev pub is_sealed : List Row → Bool
is_sealed [] = false
is_sealed (r ∷ rs) = seals r.says || is_sealed rs

abbrev pub onto_kinds : Bool → Option Line → List Unit → List Unit
onto_kinds sealed (Some (Item unit goal)) others = guarded sealed unit ∷ others
onto_kinds sealed _ others = others

-- The units of rows without their targets, of a text that is sealed or not.
abbrev pub kinds_in : Bool → List Row → List Unit
kinds_in sealed [] = []
kinds_in sealed (r ∷ rs) = onto_kinds sealed r.says (kinds_in sealed rs)

abbrev pub can_be_skipped : List Unit → Bool
can_be_skipped [] = false
can_be_skipped (next ∷ []) = false
can_be_skipped (next ∷ other ∷ behind) = not (is_group_unit next)

abbrev pub cannot_skip : Unit → List Unit → Bool
cannot_skip (Skip i) behind = not (can_be_skipped behind)
cannot_skip _ behind = false

abbrev pub cannot_end : Bool → Unit → List Unit → Bool
cannot_end long u [] = long || not (leaves u)
cannot_end long u (v ∷ us) = false

-- the first unit behind which the code can't go on, or at whose end it is too long, counted from a number on
abbrev pub stuck : Bool → ℕ → List Unit → Option ℕ
stuck long k [] = None
stuck long k (u ∷ us) = if cannot_skip u us || cannot_end long u us then Some k else stuck long (suc k) us

abbrev pub is_too_long : List Unit → Bool
is_too_long us = nat_lt bank_words (long_length us)

abbrev pub stuck_in : List Unit → Option ℕ
stuck_in us = stuck (is_too_long us) 0 us

-- the least line of each condition
abbrev pub misplaced : List Row → Option ℕ
misplaced all = first is_misplaced all

abbrev pub mislabelled : List Row → Option ℕ
mislabelled all = first (λ r rs. is_mislabelled all (count all) r.line r.unit r.says) all

abbrev pub misled : List Row → Option ℕ
misled all = first (λ r rs. leads_astray all (count all) r (goal_of r.says)) all

abbrev pub miscoded : List Row → Option ℕ
miscoded all = option_map (λ k. line_in (row_of all k)) (stuck_in (kinds_in (is_sealed all) all))

-- Refused at that line, or else by what comes next.
abbrev pub unless : Option ℕ → (ℕ → AsmError) → Option AsmError → Option AsmError
unless (Some n) kind next = Some (kind n)
unless None kind next = next

-- The first kind that holds, with its least line; the text ends at line `end`, behind the last.
unfoldable pub refused : ℕ → List Row → Option AsmError
refused end all =
    unless (misplaced all) error.Line
    (unless (too_early end (count all)) error.Line
    (unless (mislabelled all) error.Label
    (unless (misled all) error.Target
    (unless (miscoded all) error.Code
    None))))

-- Why a text is not assembled.
unfoldable pub refusal_of : List ℕ → Option AsmError
refusal_of text = refused (suc (length (lines_in text))) (rows_of (lines_in text))
