-- Where templates start: each behind the one before it.
use Rattle.std.proofs.Common.{◌≡◌, ℕ, zero, suc, ◌+◌, ◌<◌, ◌≤◌, Bool, List, [], ◌∷◌, length, get_or, Some, None, refl, ap, arith}
use Rattle.std.specs.Prelude.{⊤}
use Rattle.avr_isa.specs.declared.instruction.Instr.{Instr}
use Rattle.avr_isa.specs.Place.{second_word}
use Rattle.avr_isa.specs.Table.{word_count}
use Rattle.unit_code.specs.declared.form.Form.{Form}
use Rattle.unit_code.specs.Beside.{StandBy, form_words, starts_from, words_in}
use Rattle.unit_code.specs.Lengths.{instruction_length}
use Rattle.unit_code.specs.Templates.{IsForm, template}
use Rattle.harbor_spell.proofs.Keys.{template_some}

pub instruction_length-some : (i : Instr) → 0 < instruction_length i
instruction_length-some i = elim (second_word i) as (λ o. 0 < word_count o) [ Some w ↦ omega arith | None ↦ omega arith ]

pub form_words-some : (f : Form) → IsForm f → 0 < form_words f
form_words-some f kind =
    elim (template f) as (λ is. 0 < length is → 0 < words_in is) [
      | [] ↦ λ some. absurd (omega (arith, some))
      | i ∷ is ↦ λ some. omega (arith, instruction_length-some i)
    ] (template_some f kind)

abbrev pub AreForms : List Form → Type 0
AreForms (f ∷ fs) = IsForm f × AreForms fs
AreForms [] = Unit {0}

pub are_forms : (sealed : Bool) (fs : List Form) (is rest : List Instr) → StandBy sealed fs is rest → AreForms fs
are_forms sealed (f ∷ fs) is rest (left, first, others) = (first.kind, are_forms sealed fs left rest others)
are_forms sealed [] is rest h = tt

pub length-starts : (fs : List Form) (place : ℕ) → length (starts_from place fs) ≡ length fs
length-starts (f ∷ fs) place = ap suc (length-starts fs (place + form_words f))
length-starts [] place = refl

-- Numbers that rise, from a bound on.
abbrev pub RiseFrom : ℕ → List ℕ → Type 0
RiseFrom bound [] = ⊤
RiseFrom bound (n ∷ ns) = (bound ≤ n) × RiseFrom (n + 1) ns

pub starts_rise_from : (fs : List Form) (bound place : ℕ) → AreForms fs → bound ≤ place → RiseFrom bound (starts_from place fs)
starts_rise_from [] bound place forms low = tt
starts_rise_from (f ∷ fs) bound place forms low = (low, starts_rise_from fs (place + 1) (place + form_words f) forms.1 (omega (arith, form_words-some f forms.0)))

pub bounded : (ns : List ℕ) (bound k : ℕ) → RiseFrom bound ns → k < length ns → bound ≤ get_or ns k 0
bounded [] bound k rise inside = absurd (omega (arith, inside))
bounded (n ∷ ns) bound zero rise inside = rise.0
bounded (n ∷ ns) bound (suc k) rise inside = omega (arith, rise.0, bounded ns (n + 1) k rise.1 (omega (arith, inside)))

ordered : (ns : List ℕ) (bound i j : ℕ) → RiseFrom bound ns → i < j → j < length ns → get_or ns i 0 < get_or ns j 0
ordered [] bound i j rise order inside = absurd (omega (arith, inside))
ordered (n ∷ ns) bound i zero rise order inside = absurd (omega (arith, order))
ordered (n ∷ ns) bound zero (suc j) rise order inside = omega (arith, bounded ns (n + 1) j rise.1 (omega (arith, inside)))
ordered (n ∷ ns) bound (suc i) (suc j) rise order inside = ordered ns (n + 1) i j rise.1 (omega (arith, order)) (omega (arith, inside))

pub starts_rise : (fs : List Form) (place i j : ℕ) → AreForms fs → i < j → j < length (starts_from place fs) → get_or (starts_from place fs) i 0 < get_or (starts_from place fs) j 0
starts_rise fs place i j forms order inside = ordered (starts_from place fs) 0 i j (starts_rise_from fs 0 place forms (omega arith)) order inside
