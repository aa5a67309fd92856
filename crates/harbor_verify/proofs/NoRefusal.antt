-- Words that nothing stands against spell the units that are read from them.
use Rattle.std.proofs.Common.{◌≡◌, ◌∙◌, ℕ, suc, ◌+◌, ◌<◌, ltb, min, Bool, true, false, List, [], ◌∷◌, length, Option, Some, None, Result, Ok, Err, refl, sym, ap, subst, arith}
use Rattle.std.specs.Prelude.{option_map}
use Rattle.std.specs.List.{AllByRecursion, Contains}
use Rattle.std.proofs.Math.ListN.{length-map}
use Rattle.std.proofs.lemmas.Bool.{ltb-false}
use Rattle.std.proofs.lemmas.List.{get_or_default}
use Rattle.avr_isa.specs.declared.instruction.Instr.{Instr}
use Rattle.mote_layout.specs.Memory.{bank_words}
use Rattle.unit_code.specs.Beside.{StandBy, forms_words, starts_from}
use Rattle.unit_code.specs.Ends.{goes_on, long_length}
use Rattle.unit_code.specs.Proper.{IsGuardedSo, LeadsBelow}
use Rattle.unit_code.specs.Refusals.{is_empty, least_stray}
use Rattle.unit_code.specs.Spelling.{Lays, Spells, form_of, forms_from, start_of}
use Rattle.unit_code.specs.Targets.{number_of}
use Rattle.unit_code.specs.Templates.{MayStandIn}
use Rattle.unit_code.specs.declared.form.Form.{Form}
use Rattle.unit_code.specs.declared.unit.Shape.{Shape}
use Rattle.unit_code.specs.declared.unit.Unit.{Unit}
use Rattle.unit_code.specs.declared.unit.Unit.TheVariants.{Skip, Branch, Jump, LocalCall}
use Rattle.unit_code.proofs.Numbers.{number_of-some}
use Rattle.unit_code.proofs.Strays.{least_stray-none}
use Rattle.harbor_spell.proofs.OneSpelling.{Words16, same_starts}
use Rattle.harbor_spell.proofs.Starts.{are_forms, length-starts}
use Rattle.harbor_verify.specs.Resolved.{astray_at, resolved, units_or_none}
use Rattle.harbor_verify.specs.Verdict.{or_else, refusal, refusal_of_targets, refusal_of_templates, refusal_of_units, refusal_of_words, stray_mark, told_where, units_in}
use Rattle.harbor_verify.specs.Walks.{forms_in, gap, instructions, starts_in, unfit}
use Rattle.harbor_verify.specs.declared.error.VerifyError.{VerifyError}
use Rattle.harbor_verify.specs.declared.error.VerifyError.TheVariants.{Word, Guard, Target, FallsOff, Empty, TooLong, Entry}
use Rattle.harbor_verify.proofs.Accepted.{stand_count}
use Rattle.harbor_verify.proofs.Decoded.{words_count}
use Rattle.harbor_verify.proofs.Fits.{all_fit}
use Rattle.harbor_verify.proofs.Partings.{no_gap}
use Rattle.harbor_verify.proofs.Resolving.{AreUnitsOf, shape_of, shapes_of, units_of_forms}

pub neither : (a b : Option VerifyError) → or_else a b ≡ None → (a ≡ None) × (b ≡ None)
neither None b e = (refl, e)
neither (Some x) b e = cc

pub none_of : (o : Option ℕ) (f : ℕ → VerifyError) → option_map f o ≡ None → o ≡ None
none_of (Some n) f e = cc
none_of None f e = refl

not_told : (b : Bool) (x : VerifyError) → told_where b x ≡ None → b ≡ false
not_told true x e = cc
not_told false x e = refl

pub all_resolve : (r : Result (List Unit) ℕ) → astray_at r ≡ None → r ≡ Ok (units_or_none r)
all_resolve (Ok us) e = refl
all_resolve (Err at) e = cc

-- loads have their guards in the units as in the forms
guarded_unit : (sealed : Bool) (starts : List ℕ) (i at : ℕ) (u : Unit) (s : Shape) → MayStandIn sealed (form_of starts i at u s) → IsGuardedSo sealed u
guarded_unit sealed starts i at (Skip x) s h = tt
guarded_unit sealed starts i at (Branch set bit t) s h = tt
guarded_unit sealed starts i at (Jump t) s h = tt
guarded_unit sealed starts i at (LocalCall t) s h = tt
guarded_unit sealed starts i at u s h = h

guarded_units : (sealed : Bool) (starts : List ℕ) (i : ℕ) (us : List Unit) (ss : List Shape) (is : List Instr) → length ss ≡ length us → StandBy sealed (forms_from starts i us ss) is [] → AllByRecursion (IsGuardedSo sealed) us
guarded_units sealed starts i [] ss is shaped h = tt
guarded_units sealed starts i (u ∷ us) [] is shaped h = absurd (omega (arith, shaped))
guarded_units sealed starts i (u ∷ us) (s ∷ ss) is shaped h =
    (guarded_unit sealed starts i (start_of starts i) u s h.1.guarded, guarded_units sealed starts (i + 1) us ss h.0 (omega (arith, shaped)) h.2)

entered : (starts marks : List ℕ) → ((mark : ℕ) → Contains marks mark → number_of starts mark ≡ None → ⊥) → AllByRecursion (λ mark. Contains starts mark) marks
entered starts [] h = tt
entered starts (m ∷ marks) h = (
  elim (number_of starts m) as (λ o. number_of starts m ≡ o → Contains starts m) [
    | None ↦ λ e. absurd (h m (0, omega arith, refl) e)
    | Some n ↦ λ e. let at = number_of-some starts m n e in (n, at.0, get_or_default starts n m 0 at.0 ∙ at.1)
  ] refl,
  entered starts marks (λ mark there. h mark (suc there.0, omega (arith, there.1), there.2)),
)

some_words : (words : List ℕ) → is_empty words ≡ false → 0 < length words
some_words [] e = cc
some_words (w ∷ ws) e = omega arith

module _ (sealed : Bool) (words : List ℕ) (small : Words16 words) (fit : unfit sealed words ≡ None) (gapless : gap sealed words ≡ None) (us : List Unit) (units : resolved words ≡ Ok us) where
  side_by_side : StandBy sealed (forms_in words) (instructions words) []
  side_by_side = no_gap sealed words small gapless

  starts_are : starts_in words ≡ starts_from 0 (forms_in words)
  unfolding starts_in
  starts_are = refl

  known : AreUnitsOf (starts_in words) 0 (forms_in words) us
  unfolding resolved
  known = units_of_forms (starts_in words) 0 (forms_in words) us (are_forms sealed (forms_in words) (instructions words) [] side_by_side) units

  units_many : length us ≡ length (starts_in words)
  units_many = known.count ∙ sym (ap length starts_are ∙ length-starts (forms_in words) 0)

  -- the units that are read lay the words
  pub lay : Lays words sealed us (starts_in words)
  lay =
      let starts = starts_in words in
      let fs = forms_in words in
      let P : List Form → Type 0 = λ l. StandBy sealed l (instructions words) [] in
      let Q : ℕ → Type 0 = λ n. AllByRecursion (LeadsBelow n) us in
      let templates = subst P (sym known.forms) side_by_side in (
        shapes_of fs,
        record {
          shaped = length-map fs shape_of ∙ sym known.count;
          places =
              starts_are ∙ ap (starts_from 0) (sym known.forms)
              ∙ sym (same_starts starts 0 0 us (shapes_of fs) (are_forms sealed (forms_from starts 0 us (shapes_of fs)) (instructions words) [] templates));
          instructions = instructions words;
          spelled = all_fit sealed words fit;
          templates = templates;
          targets = subst Q (sym units_many) known.targets;
          skips = known.skips;
        },
      )

  units_some : is_empty words ≡ false → 0 < length us
  units_some e =
      let none : (fs : List Form) → length fs ≡ length us → length words ≡ forms_words fs → 0 < length us = λ fs many long.
      elim fs as (λ l. length l ≡ length us → length words ≡ forms_words l → 0 < length us) [
        | [] ↦ λ many long. absurd (let some = some_words words e in omega (arith, long, some))
        | f ∷ rest ↦ λ many long. omega (arith, many)
      ] many long in
      none (forms_in words) (sym known.count) (omega (arith, words_count (instructions words) words (all_fit sealed words fit), stand_count sealed (forms_in words) (instructions words) [] side_by_side))

  pub proper_units : (marks : List ℕ) → refusal_of_units words us ≡ None → stray_mark (starts_in words) marks ≡ None → Spells words marks sealed us (starts_in words)
  unfolding refusal_of_units stray_mark
  proper_units marks u s =
      let first = neither (told_where (goes_on us) FallsOff) (or_else (told_where (is_empty words) Empty) (told_where (ltb bank_words (long_length us)) (TooLong (min (long_length us) 65535)))) u in
      let second = neither (told_where (is_empty words) Empty) (told_where (ltb bank_words (long_length us)) (TooLong (min (long_length us) 65535))) first.1 in
      let laid = lay in
      record {
        lays = laid;
        entered = entered (starts_in words) marks (least_stray-none (starts_in words) marks (none_of (least_stray (starts_in words) marks) (λ mark. Entry mark) s));
        proper = record {
          some = units_some (not_told (is_empty words) Empty second.0);
          kinds = known.kinds;
          loads = guarded_units sealed (starts_in words) 0 us laid.0 laid.1.instructions laid.1.shaped laid.1.templates;
          targets = laid.1.targets;
          skips = known.skips;
          ends = not_told (goes_on us) FallsOff first.0;
          fits = ltb-false bank_words (long_length us) (not_told (ltb bank_words (long_length us)) (TooLong (min (long_length us) 65535)) second.1);
        };
      }

-- What words that nothing stands against are, part by part.
pub record NothingAgainst (sealed : Bool) (words marks : List ℕ) : Type 0 where
  pub fit : unfit sealed words ≡ None
  pub stand : gap sealed words ≡ None
  pub aims : astray_at (resolved words) ≡ None
  pub units : refusal_of_units words (units_in words) ≡ None
  pub marks_start : stray_mark (starts_in words) marks ≡ None

pub nothing_against : (sealed : Bool) (words marks : List ℕ) → refusal words marks sealed ≡ None → NothingAgainst sealed words marks
unfolding refusal refusal_of_words refusal_of_templates refusal_of_targets
nothing_against sealed words marks e =
    let last = or_else (refusal_of_units words (units_in words)) (stray_mark (starts_in words) marks) in
    let three = or_else (refusal_of_targets words) last in
    let one = neither (refusal_of_words sealed words) (or_else (refusal_of_templates sealed words) three) e in
    let two = neither (refusal_of_templates sealed words) three one.1 in
    let aims = neither (refusal_of_targets words) last two.1 in
    let ends = neither (refusal_of_units words (units_in words)) (stray_mark (starts_in words) marks) aims.1 in
    record {
      fit = none_of (unfit sealed words) (λ place. Word place) one.0;
      stand = none_of (gap sealed words) (λ place. Guard place) two.0;
      aims = none_of (astray_at (resolved words)) (λ place. Target place) aims.0;
      units = ends.0;
      marks_start = ends.1;
    }

pub no_refusal_spells : (sealed : Bool) (words marks : List ℕ) → Words16 words → refusal words marks sealed ≡ None → Spells words marks sealed (units_in words) (starts_in words)
unfolding units_in
no_refusal_spells sealed words marks small e =
    let h = nothing_against sealed words marks e in
    proper_units sealed words small h.fit h.stand (units_or_none (resolved words)) (all_resolve (resolved words) h.aims) marks h.units h.marks_start
