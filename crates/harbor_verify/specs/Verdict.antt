-- The verdict on words: the units that stand in them, and the first refusal, if there is one.
use Rattle.std.specs.Prelude.{ℕ, min, nat_lt, Bool, List, Option, Some, None, option_map, if◌then◌else◌}
use Rattle.mote_layout.specs.Memory.{bank_words}
use Rattle.unit_code.specs.Ends.{goes_on, long_length}
use Rattle.unit_code.specs.Refusals.{is_empty, least_stray}
use Rattle.unit_code.specs.declared.unit.Unit.{Unit}
use Rattle.harbor_verify.specs.Resolved.{astray_at, resolved, units_or_none}
use Rattle.harbor_verify.specs.Walks.{gap, starts_in, unfit}
use Rattle.harbor_verify.specs.declared.error.VerifyError.{VerifyError}
use Rattle.harbor_verify.specs.declared.error.VerifyError.TheVariants.{Word, Guard, Target, FallsOff, Empty, TooLong, Entry}

-- The units whose templates are the words, side by side; none where a template leads astray.
unfoldable pub units_in : List ℕ → List Unit
units_in words = units_or_none (resolved words)

-- the first of two refusals
abbrev pub or_else : Option VerifyError → Option VerifyError → Option VerifyError
or_else None later = later
or_else (Some e) later = Some e

abbrev pub told_where : Bool → VerifyError → Option VerifyError
told_where holds e = if holds then Some e else None

-- an instruction that may not appear
unfoldable pub refusal_of_words : Bool → List ℕ → Option VerifyError
refusal_of_words sealed words = option_map (λ place. Word place) (unfit sealed words)

-- a place at which no template stands
unfoldable pub refusal_of_templates : Bool → List ℕ → Option VerifyError
refusal_of_templates sealed words = option_map (λ place. Guard place) (gap sealed words)

-- a template that leads astray
unfoldable pub refusal_of_targets : List ℕ → Option VerifyError
refusal_of_targets words = option_map (λ place. Target place) (astray_at (resolved words))

-- the units themselves: they run past their end, there are none, or their long spelling is too long
unfoldable pub refusal_of_units : List ℕ → List Unit → Option VerifyError
refusal_of_units words us =
    or_else (told_where (goes_on us) FallsOff)
    (or_else (told_where (is_empty words) Empty)
    (told_where (nat_lt bank_words (long_length us)) (TooLong (min (long_length us) 65535))))

-- a mark that is no start
unfoldable pub stray_mark : List ℕ → List ℕ → Option VerifyError
stray_mark starts marks = option_map (λ mark. Entry mark) (least_stray starts marks)

-- what is told of words that are templates side by side
abbrev pub refusal_of_parts : List ℕ → List ℕ → Option VerifyError
refusal_of_parts words marks =
    or_else (refusal_of_targets words) (or_else (refusal_of_units words (units_in words)) (stray_mark (starts_in words) marks))

-- The first of the seven refusals of which the condition holds, if there is one.
unfoldable pub refusal : List ℕ → List ℕ → Bool → Option VerifyError
refusal words marks sealed = or_else (refusal_of_words sealed words) (or_else (refusal_of_templates sealed words) (refusal_of_parts words marks))
