-- Words spell one list of units: the forms are one list, and a form with the starts gives back its unit.
use Rattle.std.proofs.Common.{◌≡◌, ◌∙◌, ℕ, zero, suc, ◌+◌, ◌^◌, ◌<◌, ◌≤◌, Bool, cond, eqb, ℤ, List, [], ◌∷◌, length, get_or, drop, Option, Some, None, refl, sym, ap, ap₂, subst, arith}
use Rattle.std.specs.Prelude.{IfSome}
use Rattle.std.specs.List.{AllByRecursion}
use Rattle.std.proofs.lemmas.Bool.{cond-false, cond-true, eq-eqb, ne_eqb}
use Rattle.avr_isa.specs.Operands.{IsEncodable}
use Rattle.avr_isa.specs.declared.instruction.Instr.{Instr}
use Rattle.avr_isa.proofs.TableLaws.{decoded_is_encodable}
use Rattle.unit_code.specs.declared.form.Form.TheVariants.{Whole, ShortSkip, LongSkip, ShortBranch, LongBranch, Jumping, Calling}
use Rattle.unit_code.specs.declared.form.Form.{Form}
use Rattle.unit_code.specs.declared.unit.Shape.TheVariants.{Long, Short}
use Rattle.unit_code.specs.declared.unit.Shape.{Shape}
use Rattle.unit_code.specs.declared.unit.Unit.TheVariants as unit
use Rattle.unit_code.specs.declared.unit.Unit.{Unit}
use Rattle.unit_code.specs.Beside.{AreWordsOf, StandBy, form_words, starts_from}
use Rattle.unit_code.specs.Items.{next_word}
use Rattle.unit_code.specs.Lengths.{instruction_length}
use Rattle.unit_code.specs.Proper.{IsOfKind, LeadsBelow}
use Rattle.unit_code.specs.Spelled.{offset_to}
use Rattle.unit_code.specs.Spelling.{AreSpelledBy, Lays, Spells, form_of, forms_from, start_of, starts_after}
use Rattle.unit_code.specs.Targets.{reached}
use Rattle.unit_code.specs.Templates.{IsForm}
use Rattle.unit_code.proofs.Offsets.{reached-offset_to}
use Rattle.harbor_spell.proofs.Lengths.{form_length}
use Rattle.harbor_spell.proofs.Starts.{AreForms, RiseFrom, are_forms, bounded, length-starts, starts_rise_from}
use Rattle.harbor_spell.proofs.Unique.{one_parting, one_reading}

abbrev pub Words16 : List ℕ → Type 0
Words16 words = AllByRecursion (λ w. w < 2 ^ 16) words

pub next_small : (ws : List ℕ) → Words16 ws → IfSome (next_word ws) (λ k. k < 2 ^ 16)
next_small (w ∷ ws) small = small.0
next_small [] small = tt

left_small : (n : ℕ) (ws : List ℕ) → Words16 ws → Words16 (drop n ws)
left_small (suc n) (w ∷ ws) small = left_small n ws small.1
left_small (suc n) [] small = tt
left_small zero ws small = small

-- what was read from words of 16 bits has its operands in range
pub words_encodable : (is : List Instr) (words : List ℕ) → Words16 words → AreWordsOf is words → AllByRecursion IsEncodable is
words_encodable (i ∷ is) (w ∷ ws) small h =
    let n = instruction_length i in
    (decoded_is_encodable w (next_word ws) i n (small.0, next_small ws small.1) h.0, words_encodable is (drop n (w ∷ ws)) (left_small n (w ∷ ws) small) h.1)
words_encodable (i ∷ is) [] small h = absurd h
words_encodable [] words small h = tt

-- Which of rising starts a word is.
seat : List ℕ → ℕ → ℕ
seat [] word = 0
seat (s ∷ starts) word = cond (eqb s word) 0 (suc (seat starts word))

seated : (starts : List ℕ) (bound t : ℕ) → RiseFrom bound starts → t < length starts → seat starts (get_or starts t 0) ≡ t
unfolding seat
seated [] bound t rise inside = absurd (omega (arith, inside))
seated (s ∷ starts) bound zero rise inside = cond-true (eqb s s) 0 (suc (seat starts s)) (eq-eqb s s refl)
seated (s ∷ starts) bound (suc t) rise inside =
    let word = get_or starts t 0 in
    let past : s + 1 ≤ word = bounded starts (s + 1) t rise.1 (omega (arith, inside)) in
    cond-false (eqb s word) 0 (suc (seat starts word)) (ne_eqb s word (λ e. omega (arith, past, e))) ∙ ap suc (seated starts (s + 1) t rise.1 (omega (arith, inside)))

seat_reached : List ℕ → Option ℕ → ℕ
seat_reached starts None = 0
seat_reached starts (Some word) = seat starts word

target : List ℕ → ℕ → ℤ → ℕ
target starts place far = seat_reached starts (reached place far)

target_is : (starts : List ℕ) (place t : ℕ) → RiseFrom 0 starts → t < length starts → target starts place (offset_to place (start_of starts t)) ≡ t
unfolding target seat_reached
target_is starts place t rise inside = ap (seat_reached starts) (reached-offset_to place (start_of starts t)) ∙ seated starts 0 t rise inside

-- the unit that has the form, where its template starts so
unit_back : List ℕ → ℕ → Form → Unit
unit_back starts at (Whole u) = u
unit_back starts at (ShortSkip skip) = unit.Skip skip
unit_back starts at (LongSkip skip far) = unit.Skip skip
unit_back starts at (ShortBranch set bit far) = unit.Branch set bit (target starts at far)
unit_back starts at (LongBranch set bit far) = unit.Branch set bit (target starts (at + 1) far)
unit_back starts at (Jumping far) = unit.Jump (target starts at far)
unit_back starts at (Calling far) = unit.LocalCall (target starts (at + 2) far)

comes_back : (starts : List ℕ) (i at : ℕ) (u : Unit) (s : Shape) → RiseFrom 0 starts → LeadsBelow (length starts) u → unit_back starts at (form_of starts i at u s) ≡ u
unfolding unit_back
comes_back starts i at (unit.Skip x) Long rise leads = refl
comes_back starts i at (unit.Skip x) Short rise leads = refl
comes_back starts i at (unit.Branch set bit t) Long rise leads = ap (unit.Branch set bit) (target_is starts (at + 1) t rise leads)
comes_back starts i at (unit.Branch set bit t) Short rise leads = ap (unit.Branch set bit) (target_is starts at t rise leads)
comes_back starts i at (unit.Jump t) s rise leads = ap unit.Jump (target_is starts at t rise leads)
comes_back starts i at (unit.LocalCall t) s rise leads = ap unit.LocalCall (target_is starts (at + 2) t rise leads)
comes_back starts i at other s rise leads = refl

units_back : List ℕ → ℕ → List Form → List Unit
units_back starts i [] = []
units_back starts i (f ∷ fs) = unit_back starts (start_of starts i) f ∷ units_back starts (i + 1) fs

come_back : (starts : List ℕ) (i : ℕ) (us : List Unit) (ss : List Shape) → RiseFrom 0 starts → length ss ≡ length us → AllByRecursion (LeadsBelow (length starts)) us
    → units_back starts i (forms_from starts i us ss) ≡ us
unfolding units_back
come_back starts i [] ss rise shaped lead = refl
come_back starts i (u ∷ us) [] rise shaped lead = absurd (omega (arith, shaped))
come_back starts i (u ∷ us) (s ∷ ss) rise shaped lead =
    ap₂ (λ (x : Unit) (l : List Unit). x ∷ l) (comes_back starts i (start_of starts i) u s rise lead.0) (come_back starts (i + 1) us ss rise (omega (arith, shaped)) lead.1)

pub length-forms : (starts : List ℕ) (i : ℕ) (us : List Unit) (ss : List Shape) → length ss ≡ length us → length (forms_from starts i us ss) ≡ length us
length-forms starts i (u ∷ us) (s ∷ ss) shaped = ap suc (length-forms starts (i + 1) us ss (omega (arith, shaped)))
length-forms starts i (u ∷ us) [] shaped = absurd (omega (arith, shaped))
length-forms starts i [] ss shaped = refl

-- a unit whose form may stand is of its kind
kind_of : (starts : List ℕ) (i at : ℕ) (u : Unit) (s : Shape) → IsForm (form_of starts i at u s) → IsOfKind u
kind_of starts i at (unit.Skip x) Long kind = kind
kind_of starts i at (unit.Skip x) Short kind = kind
kind_of starts i at (unit.Branch set bit t) Long kind = kind
kind_of starts i at (unit.Branch set bit t) Short kind = kind
kind_of starts i at (unit.Jump t) s kind = tt
kind_of starts i at (unit.LocalCall t) s kind = tt
kind_of starts i at other s kind = kind.0

-- The starts that the shapes give are those of the forms.
pub same_starts : (starts : List ℕ) (i place : ℕ) (us : List Unit) (ss : List Shape) → AreForms (forms_from starts i us ss)
    → starts_after place us ss ≡ starts_from place (forms_from starts i us ss)
same_starts starts i place (u ∷ us) (s ∷ ss) kinds =
    let at = start_of starts i in
    let words = form_length starts i at u s (kind_of starts i at u s kinds.0) in
    ap (λ l. place ∷ l) (ap (λ n. starts_after (place + n) us ss) (sym words) ∙ same_starts starts (i + 1) (place + form_words (form_of starts i at u s)) us ss kinds.1)
same_starts starts i place (u ∷ us) [] kinds = refl
same_starts starts i place [] ss kinds = refl

module _ (words : List ℕ) (sealed : Bool) (ss : List Shape) (us : List Unit) (starts : List ℕ) (spelled : AreSpelledBy words sealed ss us starts) where
  abbrev forms : List Form
  forms = forms_from starts 0 us ss

  they_are : AreForms forms
  they_are = are_forms sealed forms spelled.instructions [] spelled.templates

  pub places_are : starts ≡ starts_from 0 (forms_from starts 0 us ss)
  places_are = spelled.places ∙ same_starts starts 0 0 us ss they_are

  pub starts_count : length starts ≡ length us
  starts_count = ap length places_are ∙ length-starts forms 0 ∙ length-forms starts 0 us ss spelled.shaped

  units_are : units_back starts 0 forms ≡ us
  units_are =
      let rise = subst (RiseFrom 0) (sym places_are) (starts_rise_from forms 0 0 they_are (omega arith)) in
      come_back starts 0 us ss rise spelled.shaped (subst (λ (n : ℕ). AllByRecursion (LeadsBelow n) us) (sym starts_count) spelled.targets)

pub one_laying : (words : List ℕ) (sealed : Bool) (us vs : List Unit) (starts places : List ℕ) → Words16 words → Lays words sealed us starts
    → Lays words sealed vs places → (us ≡ vs) × (starts ≡ places)
one_laying words sealed us vs starts places small (ss, one) (ts, other) =
    let fs = forms_from starts 0 us ss in
    let gs = forms_from places 0 vs ts in
    let read = sym (one_reading one.instructions other.instructions words one.spelled other.spelled) in
    let forms : fs ≡ gs = one_parting sealed fs gs one.instructions one.templates
    (subst (λ (l : List Instr). StandBy sealed gs l []) read other.templates) in
    let same : starts ≡ places = places_are words sealed ss us starts one ∙ ap (starts_from 0) forms ∙ sym (places_are words sealed ts vs places other) in
    (sym (units_are words sealed ss us starts one) ∙ ap₂ (λ (l : List ℕ) (hs : List Form). units_back l 0 hs) same forms ∙ units_are words sealed ts vs places other, same)

pub one_spelling : (words marks : List ℕ) (sealed : Bool) (us vs : List Unit) (starts places : List ℕ) → Words16 words
    → Spells words marks sealed us starts → Spells words marks sealed vs places → (us ≡ vs) × (starts ≡ places)
one_spelling words marks sealed us vs starts places small h k = one_laying words sealed us vs starts places small h.lays k.lays
