-- The words of a bank spell its units.
use Rattle.std.proofs.Common.{◌≡◌, ◌∙◌, ◌+◌, ◌≤◌, ℕ, List, [], ◌∷◌, length, Bool, true, false, sym, subst, arith}
use Rattle.std.specs.List.{AllByRecursion}
use Rattle.std.proofs.lemmas.List.Sums.{sum_by-cons}
use Rattle.mote_layout.specs.Memory.{bank_words}
use Rattle.unit_code.specs.Beside.{forms_words}
use Rattle.unit_code.specs.Ends.{long_length}
use Rattle.unit_code.specs.Lengths.{spelled_length}
use Rattle.unit_code.specs.declared.unit.Shape.{Shape}
use Rattle.unit_code.specs.declared.unit.Shape.TheVariants.{Long}
use Rattle.unit_code.specs.declared.unit.Unit.{Unit}
use Rattle.unit_code.specs.Listing.{BankListing}
use Rattle.unit_code.specs.Proper.{IsOfKind, IsProper}
use Rattle.unit_code.specs.Spelling.{Spells, forms_from, start_of}
use Rattle.harbor_spell.proofs.Lengths.{form_length}
use Rattle.harbor_spell.proofs.Placed.{spelled-least}
use Rattle.harbor_verify.proofs.Accepted.{stand_count}
use Rattle.harbor_verify.proofs.Decoded.{words_count}
use Rattle.harbor_rewrite.specs.Emit.{AreEmitted}
use Rattle.harbor_rewrite.proofs.Emission.{emitted_spell}
use Rattle.module_image.specs.Contents.{Contents}
use Rattle.domain_model.specs.Runners.{IsPlaceable}
use Rattle.mod_loader.specs.Banks.{AreWordsFor, SpellUnits}

-- those that the rewriter gives to the units of an original image
pub original_spelled : (code : BankListing) (units : List Unit) (sealed : Bool) → IsProper units sealed → code.units ≡ units → AreEmitted units code.words code.starts → SpellUnits code sealed
original_spelled code units sealed proper same emitted =
    subst (λ (us : List Unit). Spells code.words [] sealed us code.starts) (sym same) (emitted_spell units code.words [] code.starts sealed proper emitted tt)

pub original_words : (code : BankListing) (c : Contents) (units : List Unit) → c.rewritten ≡ false → code.units ≡ units → AreEmitted units code.words code.starts → AreWordsFor code c
original_words code c units original same emitted = record {
  own = λ rewritten. let both : true ≡ false = sym rewritten ∙ original in absurd (cc);
  emitted = λ e. subst (λ (us : List Unit). AreEmitted us code.words code.starts) (sym same) emitted;
}

-- those of a rewriter's image, which were accepted
pub own_words : (code : BankListing) (c : Contents) (words : List ℕ) → c.rewritten ≡ true → code.words ≡ words → words ≡ c.code → AreWordsFor code c
own_words code c words rewritten same are = record {
  own = λ e. same ∙ are;
  emitted = λ original. let both : true ≡ false = sym rewritten ∙ original in absurd (cc);
}

-- Templates in any shapes are no longer than the long ones,
templates_fit : (starts : List ℕ) (i : ℕ) (us : List Unit) (ss : List Shape) → AllByRecursion IsOfKind us → forms_words (forms_from starts i us ss) ≤ long_length us
templates_fit starts i [] ss kinds = omega arith
templates_fit starts i (u ∷ us) [] kinds = omega arith
templates_fit starts i (u ∷ us) (s ∷ ss) kinds =
    omega (arith, sum_by-cons (λ v. spelled_length v Long) u us, form_length starts i (start_of starts i) u s kinds.0, spelled-least u s, templates_fit starts (i + 1) us ss kinds.1)

-- so that words which spell proper units fit a bank of flash.
spelled_fit : (words starts : List ℕ) (sealed : Bool) (us : List Unit) → Spells words [] sealed us starts → length words ≤ bank_words
spelled_fit words starts sealed us h =
    let laid = h.lays in
    let forms = forms_from starts 0 us laid.0 in
    omega (
      arith,
      h.proper.fits,
      words_count laid.1.instructions words laid.1.spelled,
      stand_count sealed forms laid.1.instructions [] laid.1.templates,
      templates_fit starts 0 us laid.0 h.proper.kinds,
    )

-- A runner may be given such code.
pub placeable : (code : BankListing) (sealed : Bool) → SpellUnits code sealed → IsPlaceable code
placeable code sealed h = record { sealed = sealed; spelled = h; fits = spelled_fit code.words code.starts sealed code.units h }
