-- The image of a text that is not refused.
use Rattle.std.specs.Prelude.{◌≡◌, ℕ, ◌<◌, List, [], ◌∷◌, length, map, slice_index, Option, Some, None}
use Rattle.std.specs.List.{AllByRecursion}
use Rattle.std.proofs.Common.{refl, sym, ◌∙◌, ap, subst}
use Rattle.unit_code.specs.Spelled.{AreEntered, IsSpelled, Spell}
use Rattle.module_image.specs.declared.face.Provided.{Provided}
use Rattle.avr_asm.specs.Text.{lines_in}
use Rattle.avr_asm.specs.Line.{Line, Provides}
use Rattle.avr_asm.specs.Rows.{Row, rows_of}
use Rattle.avr_asm.specs.Refusals.{is_sealed, refused}
use Rattle.avr_asm.specs.Assembly.{IsAssembled, IsImageOf, contents_of, handler_of, listing_of, marks_of, number_of, numbers_of, onto_numbers, onto_provided, places_in, provided_of, word_of}
use Rattle.avr_asm.specs.Encoding.{IsClear, IsWritten, own_units, places_from}
use Rattle.avr_asm.proofs.Clear.{clear}
use Rattle.avr_asm.proofs.Sound.{places_length}

pub clear_rows : (end : ℕ) (lines : List (List ℕ)) (all : List Row) → all ≡ rows_of lines → refused end all ≡ None → IsClear all
clear_rows end lines all e h = subst IsClear (sym e) (clear end lines (ap (refused end) (sym e) ∙ h))

-- The entries of the provided functions are the first words of their units.
entered_step : (all : List Row) (firsts : List ℕ) (o : Option Line) (ps : List Provided) (ns : List ℕ) → ((goal : List ℕ) → number_of all goal < length firsts → slice_index firsts (number_of all goal) ≡ word_of all goal) → AllByRecursion (λ n. n < length firsts) (onto_numbers all o ns)
    → (AllByRecursion (λ n. n < length firsts) ns → AreEntered firsts ns (map (λ (p : Provided). p.word) ps)) → AreEntered firsts (onto_numbers all o ns) (map (λ (p : Provided). p.word) (onto_provided all o ps))
entered_step all firsts (Some (Provides func proto goal)) ps ns at low ih = (low.0, at goal low.0, ih low.1)
entered_step all firsts None ps ns at low ih = ih low
entered_step all firsts (Some _) ps ns at low ih = ih low

entered : (all : List Row) (firsts : List ℕ) (rs : List Row) → ((goal : List ℕ) → number_of all goal < length firsts → slice_index firsts (number_of all goal) ≡ word_of all goal) → AllByRecursion (λ n. n < length firsts) (numbers_of all rs) → AreEntered firsts (numbers_of all rs) (map (λ (p : Provided). p.word) (provided_of all rs))
entered all firsts [] at low = tt
entered all firsts (r ∷ rs) at low = entered_step all firsts r.says (provided_of all rs) (numbers_of all rs) at low (entered all firsts rs at)

spelled_so : (all : List Row) (code : List ℕ) → IsClear all → Spell (places_from 0 (own_units all)) 0 (places_from 0 (own_units all)) (own_units all) code → IsSpelled code (marks_of (contents_of all code)) (is_sealed all) (listing_of all)
spelled_so all code c s =
    let size : length (own_units all) ≡ length (places_in all) = sym (ap length c.places ∙ places_length 0 (own_units all)) in
    let at : (goal : List ℕ) → number_of all goal < length (places_in all) → slice_index (places_in all) (number_of all goal) ≡ word_of all goal =
    λ goal low. c.words (number_of all goal) (subst (λ (n : ℕ). number_of all goal < n) (sym size) low) in
    let handler : number_of all (handler_of all) < length (places_in all) = subst (λ (n : ℕ). number_of all (handler_of all) < n) size c.handler in
    record {
      spelled = subst (λ (z : List ℕ). Spell z 0 z (own_units all) code) (sym c.places) s;
      entered = (handler, at (handler_of all) handler, entered all (places_in all) all at (subst (λ (n : ℕ). AllByRecursion (λ m. m < n) (numbers_of all all)) size c.provided));
      proper = c.proper;
    }

pub image_is : (text bytes : List ℕ) (all : List Row) → all ≡ rows_of (lines_in text) → IsClear all → IsWritten all bytes → IsImageOf text bytes
image_is text bytes all e c w = record {
  contents = contents_of all w.code;
  image = w.image;
  assembled = subst (λ (z : List Row). IsAssembled z (contents_of all w.code)) e (record { fields = refl; code = spelled_so all w.code c w.spelled });
}
