-- Emitted words are determined, and spell.
use Rattle.std.proofs.Common.{◌≡◌, ◌∙◌, ℕ, Bool, List, sym, ap, subst}
use Rattle.std.specs.List.{AllByRecursion, Contains, flat_map}
use Rattle.avr_isa.specs.declared.instruction.Instr.{Instr}
use Rattle.unit_code.specs.declared.unit.Unit.{Unit}
use Rattle.unit_code.specs.declared.unit.Shape.{Shape}
use Rattle.unit_code.specs.Beside.{AreWordsOf}
use Rattle.unit_code.specs.Proper.{IsProper}
use Rattle.unit_code.specs.Spelling.{Lays, Spells, forms_from, starts_of}
use Rattle.unit_code.specs.Templates.{template}
use Rattle.harbor_short.proofs.Chosen.{chosen_read, chosen_shapes, one_choice}
use Rattle.harbor_spell.proofs.Emitted.{emitted_words_spell}
use Rattle.harbor_spell.proofs.Wording.{one_wording}
use Rattle.harbor_rewrite.specs.Emit.{AreEmitted}

pub emitted_spell : (us : List Unit) (words marks starts : List ℕ) (sealed : Bool) → IsProper us sealed → AreEmitted us words starts → AllByRecursion (λ mark. Contains starts mark) marks → Spells words marks sealed us starts
emitted_spell us words marks starts sealed proper h entered =
    let P : List ℕ → Type 0 = λ l. Lays words sealed us l in
    record {
      lays = subst P (sym h.places) (emitted_words_spell words sealed us h.shapes proper (chosen_shapes us h.shapes proper.targets h.chosen) (chosen_read us h.shapes h.chosen) h.templates);
      entered = entered;
      proper = proper;
    }

-- the instructions of the units in these shapes
abbrev pub instructions_of : List Unit → List Shape → List Instr
instructions_of us ss = flat_map template (forms_from (starts_of us ss) 0 us ss)

pub one_emission : (us : List Unit) (words others starts places : List ℕ) → AreEmitted us words starts → AreEmitted us others places → (words ≡ others) × (starts ≡ places)
one_emission us words others starts places h k =
    let same : h.shapes ≡ k.shapes = one_choice us h.shapes k.shapes h.chosen k.chosen in
    let P : List Instr → Type 0 = λ is. AreWordsOf is others in
    let is : k.templates.instructions ≡ h.templates.instructions = k.templates.templates ∙ ap (instructions_of us) (sym same) ∙ sym h.templates.templates in (
      one_wording h.templates.instructions words others h.small k.small h.templates.spelled (subst P is k.templates.spelled),
      h.places ∙ ap (starts_of us) same ∙ sym k.places,
    )
