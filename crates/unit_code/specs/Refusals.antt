-- The conditions under which words are refused, each of the whole list: what is wrong, and the least word where it is.
use Rattle.std.specs.Prelude.{ℕ, min, nat_lt, Bool, true, false, not, is_some, List, [], ◌∷◌, Option, Some, None, option_map, if◌then◌else◌}
use Rattle.mote_layout.specs.Memory.{bank_words}
use Rattle.unit_code.specs.declared.error.CodeError.{CodeError}
use Rattle.unit_code.specs.declared.error.CodeError.TheVariants.{Undefined, Refused, Target, FallsOff, Empty, TooLong, Entry}
use Rattle.unit_code.specs.declared.unit.Unit.{Unit}
use Rattle.unit_code.specs.declared.unit.Unit.TheVariants.{SpGroup, Skip}
use Rattle.unit_code.specs.declared.kinds.Standing.{Standing}
use Rattle.unit_code.specs.declared.kinds.Standing.TheVariants as standing
use Rattle.unit_code.specs.declared.kinds.Piece.{Piece}
use Rattle.unit_code.specs.declared.kinds.Piece.TheVariants.{Whole, Aimed}
use Rattle.unit_code.specs.declared.items.Item.{Item}
use Rattle.unit_code.specs.declared.refusals.Condition.{Condition}
use Rattle.unit_code.specs.declared.refusals.Condition.TheVariants as condition
use Rattle.unit_code.specs.Ends.{goes_on, long_length}
use Rattle.unit_code.specs.Targets.{number_of, number_reached, reached}

-- the first of two refusals
abbrev pub or_else : Option CodeError → Option CodeError → Option CodeError
or_else (Some e) other = Some e
or_else None other = other

-- whether it is a group that sets the stack pointer
abbrev pub is_group : Standing → Bool
is_group (standing.Part (Whole (SpGroup with_sreg))) = true
is_group _ = false

-- a skip needs two further units, of which the first is no group
abbrev pub may_skip : List Item → Bool
may_skip [] = false
may_skip (next ∷ []) = false
may_skip (next ∷ other ∷ behind) = not (is_group next.standing)

-- whether the target of a unit is the first word of one; a skip leads over what it may pass
abbrev pub leads : Piece → ℕ → List ℕ → List Item → Bool
leads (Aimed aim offset) place places behind = is_some (number_reached places (reached place offset))
leads (Whole (Skip i)) place places behind = may_skip behind
leads (Whole _) place places behind = true

abbrev pub misaimed : Piece → ℕ → List ℕ → List Item → Option CodeError
misaimed piece place places behind = if leads piece place places behind then None else Some (Target place)

-- whether a condition on single words holds of an item, with those behind it
abbrev pub refused_at : Condition → List ℕ → ℕ → Standing → List Item → Option CodeError
refused_at condition.NoInstruction places place standing.NoInstruction behind = Some (Undefined place)
refused_at condition.Barred places place (standing.Barred kind) behind = Some (Refused place kind)
refused_at condition.Misaimed places place (standing.Part piece) behind = misaimed piece place places behind
refused_at _ places place _ behind = None

abbrev pub refused_by : Condition → List ℕ → List Item → Option CodeError
refused_by condition places [] = None
refused_by condition places (item ∷ behind) = refused_at condition places item.place item.standing behind

-- the first item at which a condition holds
abbrev pub first_refused : (List Item → Option CodeError) → List Item → Option CodeError
first_refused test [] = None
first_refused test (item ∷ behind) = or_else (test (item ∷ behind)) (first_refused test behind)

-- Undefined, Refused and Target: the first of them that holds, at its least word
unfoldable pub refusal_of_items : List ℕ → List Item → Option CodeError
refusal_of_items places items =
    or_else (first_refused (refused_by condition.NoInstruction places) items)
    (or_else (first_refused (refused_by condition.Barred places) items) (first_refused (refused_by condition.Misaimed places) items))

abbrev pub is_empty : List ℕ → Bool
is_empty [] = true
is_empty (w ∷ ws) = false

-- FallsOff, Empty and TooLong: the first of them that holds
unfoldable pub refusal_of_units : List ℕ → List Unit → Option CodeError
refusal_of_units words us =
    if goes_on us then Some FallsOff
    else (if is_empty words then Some Empty
    else (if nat_lt bank_words (long_length us) then Some (TooLong (min (long_length us) 65535)) else None))

abbrev pub lesser : Option ℕ → ℕ → Option ℕ
lesser None mark = Some mark
lesser (Some other) mark = Some (min other mark)

-- the least of the marks at which no unit begins
abbrev pub least_stray : List ℕ → List ℕ → Option ℕ
least_stray places [] = None
least_stray places (mark ∷ marks) =
    if is_some (number_of places mark) then least_stray places marks else lesser (least_stray places marks) mark

-- Entry
unfoldable pub stray_mark : List ℕ → List ℕ → Option CodeError
stray_mark places marks = option_map Entry (least_stray places marks)
