-- Templates side by side in words: those that are read stand there, and those that stand there are read.
use Rattle.std.proofs.Common.{◌≡◌, ◌≢◌, ◌∙◌, ℕ, zero, suc, ◌≤◌, ◌<◌, ◌&&◌, ◌==◌, cond, Bool, true, false, not, List, [], ◌∷◌, ◌++◌, drop, length, Option, Some, None, refl, sym, ap, subst, arith}
use Rattle.std.specs.List.{AllByRecursion}
use Rattle.std.proofs.lemmas.Bool.{eqb-true, eq-eqb}
use Rattle.std.proofs.lemmas.List.{drop-drop, drop_all}
use Rattle.std.proofs.lemmas.Option.{none-some, same_Some}
use Rattle.avr_isa.specs.Operands.{IsEncodable}
use Rattle.avr_isa.specs.declared.instruction.Instr.{Instr}
use Rattle.unit_code.specs.Beside.{IsReadSo, StandBy, Stands, form_words, forms_words, words_in}
use Rattle.unit_code.specs.Loads.{is_load}
use Rattle.unit_code.specs.Templates.{IsForm, MayStandIn, template}
use Rattle.unit_code.specs.declared.form.Form.{Form}
use Rattle.unit_code.specs.declared.form.Form.TheVariants.{Whole}
use Rattle.unit_code.specs.declared.unit.Unit.TheVariants as unit
use Rattle.harbor_spell.proofs.Added.{words_more}
use Rattle.harbor_spell.proofs.OneSpelling.{Words16}
use Rattle.harbor_spell.proofs.Starts.{form_words-some}
use Rattle.harbor_verify.specs.Walks.{allowed_first, allowed_forms, and_behind, form_first, forms_in, gap, instructions, pieces_up_to, stop_at}
use Rattle.harbor_verify.specs.Reading.{allowed, is_allowed, template_first}
use Rattle.harbor_verify.proofs.Decoded.{Any, advances, are_encodable, begins, none_read, small_behind}
use Rattle.harbor_verify.proofs.Families.{template_complete, template_sound}
use Rattle.harbor_verify.proofs.Pieces.{Advances, nothing_behind, nothing_first, one_first, read_within, same_pieces}

-- What a walk says of where it stopped.
pub stopped_nowhere : (place end : ℕ) → stop_at place end ≡ None → place ≡ end
stopped_nowhere place end e =
    elim (place == end) as (λ b. (place == end) ≡ b → cond b None (Some place) ≡ None → place ≡ end) [
      | true ↦ λ same e. eqb-true place end same
      | false ↦ λ same e. cc
    ] refl e

pub stopped_there : (place end at : ℕ) → stop_at place end ≡ Some at → (at ≡ place) × (place ≢ end)
stopped_there place end at e =
    elim (place == end) as (λ b. (place == end) ≡ b → cond b None (Some place) ≡ Some at → (at ≡ place) × (place ≢ end)) [
      | true ↦ λ same e. absurd (none-some at e)
      | false ↦ λ same e. (sym (same_Some place at e), λ at_end. let t = eq-eqb place end at_end in cc)
    ] refl e

pub stops_there : (place end : ℕ) → place < end → stop_at place end ≡ Some place
stops_there place end less =
    elim (place == end) as (λ b. (place == end) ≡ b → cond b None (Some place) ≡ Some place) [
      | true ↦ λ same. let equal = eqb-true place end same in absurd (omega (arith, equal, less))
      | false ↦ λ same. refl
    ] refl

pub stops_nowhere : (place end : ℕ) → place ≡ end → stop_at place end ≡ None
stops_nowhere place end e = ap (λ b. cond b None (Some place)) (eq-eqb place end e)

-- The form that words begin with.
pub record BeginsForm (words : List ℕ) (f : Form) : Type 0 where
  pub kind : IsForm f
  pub read : IsReadSo f (instructions (drop (form_words f) words))
  pub split : instructions words ≡ template f ++ instructions (drop (form_words f) words)
  pub within : form_words f ≤ length words

words_of_instructions : (words : List ℕ) → words_in (instructions words) ≤ length words
unfolding instructions
words_of_instructions words = read_within _ _ words_in Any advances words tt

pub begins_form : (words : List ℕ) (f : Form) → Words16 words → form_first words ≡ Some f → BeginsForm words f
begins_form words f small e =
    let h = template_sound (instructions words) f (are_encodable words small) e in
    let behind : instructions (drop (form_words f) words) ≡ h.rest = (begins (template f) h.rest words h.words).1 in
    let all = ap words_in h.words ∙ words_more (template f) h.rest in
    record {
      kind = h.kind;
      read = subst (IsReadSo f) (sym behind) h.read;
      split = h.words ∙ ap (λ l. template f ++ l) (sym behind);
      within = omega (arith, all, words_of_instructions words);
    }

pub none_begins : form_first [] ≡ None
none_begins = ap template_first (none_read [] refl)

pub form_advances : Advances form_first form_words forms_words Words16
form_advances = record {
  empty = none_begins;
  some = λ words f small e. let h = begins_form words f small e in (form_words-some f h.kind, h.within);
  behind = λ n words small. small_behind n words small;
  none = refl;
  more = λ f fs. refl;
}

-- what may stand in an image
pub allowed_is : (sealed : Bool) (o : Option Form) (f : Form) → allowed sealed o ≡ Some f → (o ≡ Some f) × (is_allowed sealed f ≡ true)
allowed_is sealed None f e = absurd (none-some f e)
allowed_is sealed (Some g) f e =
    elim (is_allowed sealed g) as (λ b. is_allowed sealed g ≡ b → cond b (Some g) None ≡ Some f → (Some g ≡ Some f) × (is_allowed sealed f ≡ true)) [
      | true ↦ λ may e. (e, ap (is_allowed sealed) (sym (same_Some g f e)) ∙ may)
      | false ↦ λ may e. absurd (none-some f e)
    ] refl e

not_true : (b : Bool) → not b ≡ true → b ≡ false
not_true true e = cc
not_true false e = refl

may_stand : (sealed : Bool) (f : Form) → is_allowed sealed f ≡ true → MayStandIn sealed f
may_stand sealed (Whole (unit.Plain i)) e = not_true (sealed && is_load i) e
may_stand sealed (Whole (unit.Load i)) e = e
may_stand sealed _ e = tt

stands_allowed : (sealed : Bool) (f : Form) → MayStandIn sealed f → is_allowed sealed f ≡ true
stands_allowed sealed (Whole (unit.Plain i)) h = ap not h
stands_allowed sealed (Whole (unit.Load i)) h = h
stands_allowed sealed _ h = refl

encodable_behind : (front is : List Instr) → AllByRecursion IsEncodable (front ++ is) → AllByRecursion IsEncodable is
encodable_behind [] is h = h
encodable_behind (x ∷ front) is h = encodable_behind front is h.1

module _ (sealed : Bool) where
  pub allowed_advances : Advances (allowed_first sealed) form_words forms_words Words16
  allowed_advances = record {
    empty = ap (allowed sealed) none_begins;
    some = λ words f small e. form_advances.some words f small (allowed_is sealed (form_first words) f e).0;
    behind = form_advances.behind;
    none = refl;
    more = λ f fs. refl;
  }

  pub none_allowed : (words : List ℕ) → allowed_first sealed words ≡ None → allowed_forms sealed words ≡ []
  unfolding allowed_forms
  none_allowed words e = nothing_first (allowed_first sealed) form_words forms_words Words16 allowed_advances words e

  pub one_allowed : (words : List ℕ) (f : Form) → Words16 words → allowed_first sealed words ≡ Some f → allowed_forms sealed words ≡ f ∷ allowed_forms sealed (drop (form_words f) words)
  unfolding allowed_forms
  one_allowed words f small e = one_first (allowed_first sealed) form_words forms_words Words16 allowed_advances words f small e

  -- a template that is read stands there
  pub read_stands : (words : List ℕ) (f : Form) → Words16 words → allowed_first sealed words ≡ Some f → Stands sealed f (instructions words) (instructions (drop (form_words f) words))
  read_stands words f small e =
      let both = allowed_is sealed (form_first words) f e in
      let h = begins_form words f small both.0 in
      record { kind = h.kind; guarded = may_stand sealed f both.1; words = h.split; read = h.read }

  -- and one that stands there is read
  pub stands_read : (words : List ℕ) (f : Form) (rest : List Instr) → Words16 words → Stands sealed f (instructions words) rest
      → (allowed_first sealed words ≡ Some f) × (instructions (drop (form_words f) words) ≡ rest)
  stands_read words f rest small h =
      let P : List Instr → Type 0 = AllByRecursion IsEncodable in
      let enc = encodable_behind (template f) rest (subst P h.words (are_encodable words small)) in (
        ap (λ l. allowed sealed (template_first l)) h.words ∙ ap (allowed sealed) (template_complete f rest enc h.kind h.read)
            ∙ ap (λ b. cond b (Some f) None) (stands_allowed sealed f h.guarded),
        (begins (template f) rest words h.words).1,
      )

  stand_up_to : (n : ℕ) (words : List ℕ) → Words16 words
      → StandBy sealed (pieces_up_to (allowed_first sealed) form_words n words) (instructions words) (instructions (drop (forms_words (pieces_up_to (allowed_first sealed) form_words n words)) words))
  unfolding pieces_up_to
  stand_up_to zero words small = refl
  stand_up_to (suc n) words small =
      elim (allowed_first sealed words) as (λ o. allowed_first sealed words ≡ o → let fs = and_behind o (λ f. pieces_up_to (allowed_first sealed) form_words n (drop (form_words f) words)) in StandBy sealed fs (instructions words) (instructions (drop (forms_words fs) words))) [
        | None ↦ λ e. refl
        | Some f ↦ λ e.
            let behind = drop (form_words f) words in
            let fs = pieces_up_to (allowed_first sealed) form_words n behind in
            let P : List ℕ → Type 0 = λ l. StandBy sealed fs (instructions behind) (instructions l) in
            (instructions behind, read_stands words f small e, subst P (drop-drop (forms_words fs) (form_words f) words) (stand_up_to n behind (small_behind (form_words f) words small)))
      ] refl

  pub forms_stand : (words : List ℕ) → Words16 words → StandBy sealed (allowed_forms sealed words) (instructions words) (instructions (drop (forms_words (allowed_forms sealed words)) words))
  unfolding allowed_forms
  forms_stand words small = stand_up_to (length words) words small

  none_reads : (words : List ℕ) → Words16 words → ((f : Form) (behind : List Instr) → ¬ Stands sealed f (instructions words) behind) → allowed_first sealed words ≡ None
  none_reads words small none =
      elim (allowed_first sealed words) as (λ o. allowed_first sealed words ≡ o → o ≡ None) [
        | None ↦ λ e. refl
        | Some f ↦ λ e. absurd (none f (instructions (drop (form_words f) words)) (read_stands words f small e))
      ] refl

  -- forms up to where none stands are those that are read
  pub stand_forms : (fs : List Form) (words : List ℕ) (rest : List Instr) → Words16 words → StandBy sealed fs (instructions words) rest → ((f : Form) (behind : List Instr) → ¬ Stands sealed f rest behind)
      → allowed_forms sealed words ≡ fs
  stand_forms [] words rest small h none =
      let P : List Instr → Type 0 = λ l. (f : Form) (behind : List Instr) → ¬ Stands sealed f l behind in
      none_allowed words (none_reads words small (subst P (sym h) none))
  stand_forms (f ∷ fs) words rest small h none =
      let first = stands_read words f h.0 small h.1 in
      let behind = drop (form_words f) words in
      let P : List Instr → Type 0 = λ l. StandBy sealed fs l rest in
      one_allowed words f small first.0
      ∙ ap (λ l. f ∷ l) (stand_forms fs behind rest (small_behind (form_words f) words small) (subst P (sym first.1) h.2) none)

  pub allowed_words : (words : List ℕ) → gap sealed words ≡ None → forms_words (allowed_forms sealed words) ≡ length words
  unfolding gap
  allowed_words words e = stopped_nowhere (forms_words (allowed_forms sealed words)) (length words) e

  -- words without a gap are templates side by side
  pub same_forms : (words : List ℕ) → Words16 words → gap sealed words ≡ None → allowed_forms sealed words ≡ forms_in words
  unfolding allowed_forms forms_in
  same_forms words small e =
      same_pieces (allowed_first sealed) form_first form_words forms_words Words16 allowed_advances none_begins (λ ws f e. (allowed_is sealed (form_first ws) f e).0) words small (allowed_words words e)

  pub no_gap : (words : List ℕ) → Words16 words → gap sealed words ≡ None → StandBy sealed (forms_in words) (instructions words) []
  no_gap words small e =
      let P : List Instr → Type 0 = λ l. StandBy sealed (allowed_forms sealed words) (instructions words) l in
      let Q : List Form → Type 0 = λ fs. StandBy sealed fs (instructions words) [] in
      let past : instructions (drop (forms_words (allowed_forms sealed words)) words) ≡ [] =
      ap (λ n. instructions (drop n words)) (allowed_words words e) ∙ ap instructions (drop_all (length words) words (omega arith)) ∙ none_read [] refl in
      subst Q (same_forms words small e) (subst P past (forms_stand words small))

  -- where the templates stop, none stands
  pub nothing_allowed : (words : List ℕ) → Words16 words → (f : Form) (behind : List Instr) → ¬ Stands sealed f (instructions (drop (forms_words (allowed_forms sealed words)) words)) behind
  unfolding allowed_forms
  nothing_allowed words small f behind h =
      let n = forms_words (allowed_forms sealed words) in
      none-some f (sym (nothing_behind (allowed_first sealed) form_words forms_words Words16 allowed_advances words small) ∙ (stands_read (drop n words) f behind (small_behind n words small) h).0)
