-- How words that units lay are read.
use Rattle.std.proofs.Common.{◌≡◌, ◌≢◌, ◌∙◌, ℕ, ◌+◌, ◌≤◌, ◌<◌, Bool, false, List, [], ◌∷◌, length, Ok, None, refl, sym, ap, ap₂, subst, arith}
use Rattle.std.specs.List.{AllByRecursion}
use Rattle.std.proofs.lemmas.List.Sums.{sum_by-cons}
use Rattle.avr_isa.specs.declared.instruction.Instr.{Instr}
use Rattle.unit_code.specs.Beside.{StandBy, Stands, forms_words, starts_from, words_in}
use Rattle.unit_code.specs.Ends.{goes_on, long_length}
use Rattle.unit_code.specs.Lengths.{spelled_length}
use Rattle.unit_code.specs.Proper.{IsOfKind, LeadsBelow}
use Rattle.unit_code.specs.Spelling.{Lays, Spells, forms_from, start_of}
use Rattle.unit_code.specs.Templates.{template}
use Rattle.unit_code.specs.declared.form.Form.{Form}
use Rattle.unit_code.specs.declared.unit.Shape.{Shape}
use Rattle.unit_code.specs.declared.unit.Shape.TheVariants.{Long}
use Rattle.unit_code.specs.declared.unit.Unit.{Unit}
use Rattle.harbor_spell.proofs.Added.{words_more}
use Rattle.harbor_spell.proofs.Lengths.{form_length}
use Rattle.harbor_spell.proofs.OneSpelling.{Words16, places_are, starts_count}
use Rattle.harbor_spell.proofs.Placed.{spelled-least}
use Rattle.harbor_spell.proofs.Starts.{form_words-some, instruction_length-some}
use Rattle.harbor_verify.specs.Parts.{ArePartsOf, HaveUnits, IsAccepted}
use Rattle.harbor_verify.specs.Resolved.{resolve_from, resolved, units_or_none}
use Rattle.harbor_verify.specs.Verdict.{units_in}
use Rattle.harbor_verify.specs.Walks.{allowed_forms, forms_in, gap, starts_in, unfit}
use Rattle.harbor_verify.proofs.Decoded.{all_read, words_count}
use Rattle.harbor_verify.proofs.Fits.{templates_fit}
use Rattle.harbor_verify.proofs.NthForm.{first_words}
use Rattle.harbor_verify.proofs.Partings.{same_forms, stand_forms, stops_nowhere}
use Rattle.harbor_verify.proofs.Resolving.{forms_resolve}

-- templates side by side have their words
pub stand_count : (sealed : Bool) (fs : List Form) (is rest : List Instr) → StandBy sealed fs is rest → words_in is ≡ forms_words fs + words_in rest
stand_count sealed [] is rest h = let same = ap words_in h in omega (arith, same)
stand_count sealed (f ∷ fs) is rest h =
    let all = ap words_in h.1.words ∙ words_more (template f) h.0 in
    omega (arith, all, stand_count sealed fs h.0 rest h.2)

pub words_left : (is : List Instr) → is ≢ [] → 0 < words_in is
words_left [] h = absurd (h refl)
words_left (i ∷ is) h = omega (arith, instruction_length-some i)

-- no template stands where no instruction is left
pub nothing_stands : (sealed : Bool) (f : Form) (behind : List Instr) → Stands sealed f [] behind → ⊥
nothing_stands sealed f behind h =
    let all = ap words_in h.words ∙ words_more (template f) behind in
    omega (arith, all, form_words-some f h.kind)

module _ (sealed : Bool) (words : List ℕ) (us : List Unit) (starts : List ℕ) (small : Words16 words) (laid : Lays words sealed us starts) where
  abbrev is : List Instr
  is = laid.1.instructions

  abbrev fs : List Form
  fs = forms_from starts 0 us laid.0

  pub laid_fit : unfit sealed words ≡ None
  laid_fit = templates_fit sealed fs is words laid.1.spelled laid.1.templates

  laid_allowed : allowed_forms sealed words ≡ fs
  laid_allowed =
      let P : List Instr → Type 0 = λ l. StandBy sealed fs l [] in
      stand_forms sealed fs words [] small (subst P (sym (all_read is words laid.1.spelled)) laid.1.templates) (nothing_stands sealed)

  pub laid_stand : gap sealed words ≡ None
  unfolding gap
  laid_stand =
      let read = ap forms_words laid_allowed in
      stops_nowhere (forms_words (allowed_forms sealed words)) (length words) (omega (arith, read, words_count is words laid.1.spelled, stand_count sealed fs is [] laid.1.templates))

  laid_forms : forms_in words ≡ fs
  laid_forms = sym (same_forms sealed words small laid_stand) ∙ laid_allowed

  pub laid_starts : starts_in words ≡ starts
  unfolding starts_in
  laid_starts = ap (starts_from 0) laid_forms ∙ sym (places_are words sealed laid.0 us starts laid.1)

  pub laid_parts : length words ≤ 65535 → ArePartsOf words starts
  laid_parts few = record { sealed = sealed; small = small; few = few; fit = laid_fit; stand = laid_stand; starts_are = sym laid_starts }

  pub laid_units : length words ≤ 65535 → goes_on us ≡ false → resolved words ≡ Ok us
  unfolding resolved
  laid_units few ends =
      let count = starts_count words sealed laid.0 us starts laid.1 in
      let P : ℕ → Type 0 = λ n. AllByRecursion (LeadsBelow n) us in
      ap₂ (λ (l : List ℕ) (gs : List Form). resolve_from l 0 gs) laid_starts laid_forms
      ∙ forms_resolve starts (first_words words starts (laid_parts few)) 0 us laid.0 laid.1.shaped (omega (arith, count)) (subst P (sym count) laid.1.targets) laid.1.skips ends

-- Accepted words fit a bank of flash.
short_templates : (starts : List ℕ) (i : ℕ) (us : List Unit) (ss : List Shape) → AllByRecursion IsOfKind us → forms_words (forms_from starts i us ss) ≤ long_length us
short_templates starts i [] ss kinds = omega arith
short_templates starts i (u ∷ us) [] kinds = omega arith
short_templates starts i (u ∷ us) (s ∷ ss) kinds =
    omega (arith, sum_by-cons (λ v. spelled_length v Long) u us, form_length starts i (start_of starts i) u s kinds.0, spelled-least u s, short_templates starts (i + 1) us ss kinds.1)

pub few_accepted : (words starts : List ℕ) → IsAccepted words starts → length words ≤ 65535
few_accepted words starts h =
    let laid = h.spells.lays in
    let fs = forms_from starts 0 h.units laid.0 in
    let fits = h.spells.proper.fits in
    omega (
      arith,
      fits,
      words_count laid.1.instructions words laid.1.spelled,
      stand_count h.sealed fs laid.1.instructions [] laid.1.templates,
      short_templates starts 0 h.units laid.0 h.spells.proper.kinds,
    )

module _ (words starts : List ℕ) (few : length words ≤ 65535) (small : Words16 words) (h : IsAccepted words starts) where
  pub accepted_parts : ArePartsOf words starts
  accepted_parts = laid_parts h.sealed words h.units starts small h.spells.lays few

  pub accepted_units : HaveUnits words
  accepted_units = record { units = h.units; are = laid_units h.sealed words h.units starts small h.spells.lays few h.spells.proper.ends }

-- the units of accepted words, whatever they are said to spell
pub units_are : (words marks starts : List ℕ) (sealed : Bool) (us : List Unit) → length words ≤ 65535 → Words16 words → Spells words marks sealed us starts → units_in words ≡ us
unfolding units_in
units_are words marks starts sealed us few small h = ap units_or_none (laid_units sealed words us starts small h.lays few h.proper.ends)
