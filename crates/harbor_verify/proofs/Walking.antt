-- The walks of the verifier, from a place on.
use Rattle.std.proofs.Common.{◌≡◌, ◌∙◌, ℕ, ◌+◌, ◌<◌, cond, Bool, true, false, List, [], ◌∷◌, ◌++◌, drop, length, Option, Some, None, refl, sym, ap, arith, append_assoc, append-nil}
use Rattle.std.specs.Prelude.{option_map}
use Rattle.std.proofs.lemmas.List.{drop-drop, drop_all}
use Rattle.avr_isa.specs.declared.instruction.Instr.{Instr}
use Rattle.unit_code.specs.Beside.{form_words, forms_words, starts_from, words_in}
use Rattle.unit_code.specs.Lengths.{instruction_length}
use Rattle.unit_code.specs.declared.form.Form.{Form}
use Rattle.harbor_spell.proofs.OneSpelling.{Words16}
use Rattle.harbor_verify.specs.Decoding.{instruction_first, may_appear}
use Rattle.harbor_verify.specs.Walks.{allowed_first, allowed_forms, fit_first, fit_instructions, gap, only_fit, starts_in, unfit}
use Rattle.harbor_verify.proofs.Decoded.{small_behind}
use Rattle.harbor_verify.proofs.Fits.{fit_nothing, fit_one}
use Rattle.harbor_verify.proofs.Partings.{none_allowed, none_begins, one_allowed, same_forms, stops_nowhere, stops_there}
use Rattle.harbor_verify.specs.Reading.{allowed}

pub none_left : {A : Type 0} (o : Option A) → ((x : A) → o ≡ Some x → ⊥) → o ≡ None
none_left None h = refl
none_left (Some x) h = absurd (h x refl)

-- an answer that is none, seen through a part of it
pub none_seen : {A : Type 0} {B : Type 0} (f : A → B) (o : Option A) (x : Option B) → ((y : A) → o ≡ Some y → ⊥) → option_map f o ≡ x → x ≡ None
none_seen f o x none e = sym e ∙ ap (option_map f) (none_left o none)

module _ (sealed : Bool) (words : List ℕ) (next : ℕ) where
  nothing_more : next ≡ length words → drop next words ≡ []
  nothing_more e = drop_all next words (omega (arith, e))

  -- instruction by instruction
  module _ (read : next + words_in (fit_instructions sealed (drop next words)) ≡ words_in (fit_instructions sealed words)) where
    at_most : fit_first sealed (drop next words) ≡ None → words_in (fit_instructions sealed words) ≡ next
    at_most none = let stop = ap words_in (fit_nothing sealed (drop next words) none) in omega (arith, read, stop)

    pub fit_end : next ≡ length words → None ≡ unfit sealed words
    unfolding unfit
    fit_end e =
        let all = at_most (ap (fit_first sealed) (nothing_more e)) in
        sym (stops_nowhere (words_in (fit_instructions sealed words)) (length words) (all ∙ e))

    pub unfit_here : next < length words → fit_first sealed (drop next words) ≡ None → Some next ≡ unfit sealed words
    unfolding unfit
    unfit_here inside none =
        let all = at_most none in
        sym (stops_there (words_in (fit_instructions sealed words)) (length words) (omega (arith, all, inside)) ∙ ap Some all)

    pub no_instruction : next < length words → instruction_first (drop next words) ≡ None → Some next ≡ unfit sealed words
    no_instruction inside none = unfit_here inside (ap (only_fit sealed) none)

    pub unfit_instruction : (i : Instr) → next < length words → Some i ≡ instruction_first (drop next words) → may_appear sealed i ≡ false → Some next ≡ unfit sealed words
    unfit_instruction i inside there not_fit = unfit_here inside (ap (only_fit sealed) (sym there) ∙ ap (λ b. cond b (Some i) None) not_fit)

    pub fit_on : (i : Instr) (behind : ℕ) → Some i ≡ instruction_first (drop next words) → may_appear sealed i ≡ true → behind ≡ next + instruction_length i
        → behind + words_in (fit_instructions sealed (drop behind words)) ≡ words_in (fit_instructions sealed words)
    fit_on i behind there fits at =
        let all = ap words_in (fit_one sealed (drop next words) i (ap (only_fit sealed) (sym there) ∙ ap (λ b. cond b (Some i) None) fits)) in
        let rest = ap (λ l. words_in (fit_instructions sealed l)) (drop-drop (instruction_length i) next words ∙ ap (λ m. drop m words) (sym at)) in
        omega (arith, read, all, rest, at)

  -- template by template
  module _ (small : Words16 words) (read : next + forms_words (allowed_forms sealed (drop next words)) ≡ forms_words (allowed_forms sealed words)) where
    all_read_here : allowed_first sealed (drop next words) ≡ None → forms_words (allowed_forms sealed words) ≡ next
    all_read_here none = let stop = ap forms_words (none_allowed sealed (drop next words) none) in omega (arith, read, stop)

    pub stand_end : next ≡ length words → gap sealed words ≡ None
    unfolding gap
    stand_end e =
        let all = all_read_here (ap (allowed_first sealed) (nothing_more e) ∙ ap (allowed sealed) none_begins) in
        stops_nowhere (forms_words (allowed_forms sealed words)) (length words) (all ∙ e)

    pub gap_here : next < length words → allowed_first sealed (drop next words) ≡ None → gap sealed words ≡ Some next
    unfolding gap
    gap_here inside none =
        let all = all_read_here none in
        stops_there (forms_words (allowed_forms sealed words)) (length words) (omega (arith, all, inside)) ∙ ap Some all

    one_here : (f : Form) (behind : ℕ) → allowed_first sealed (drop next words) ≡ Some f → behind ≡ next + form_words f → allowed_forms sealed (drop next words) ≡ f ∷ allowed_forms sealed (drop behind words)
    one_here f behind there at =
        one_allowed sealed (drop next words) f (small_behind next words small) there
        ∙ ap (λ l. f ∷ allowed_forms sealed l) (drop-drop (form_words f) next words ∙ ap (λ m. drop m words) (sym at))

    pub stand_on : (f : Form) (behind : ℕ) → allowed_first sealed (drop next words) ≡ Some f → behind ≡ next + form_words f
        → behind + forms_words (allowed_forms sealed (drop behind words)) ≡ forms_words (allowed_forms sealed words)
    stand_on f behind there at = let all = ap forms_words (one_here f behind there at) in omega (arith, read, all, at)

    pub told_on : (f : Form) (behind : ℕ) (told new all : List ℕ) → allowed_first sealed (drop next words) ≡ Some f → behind ≡ next + form_words f → new ≡ told ++ next ∷ []
        → told ++ starts_from next (allowed_forms sealed (drop next words)) ≡ all → new ++ starts_from behind (allowed_forms sealed (drop behind words)) ≡ all
    told_on f behind told new all there at pushed so =
        let rest = starts_from behind (allowed_forms sealed (drop behind words)) in
        ap (λ l. l ++ rest) pushed ∙ append_assoc told (next ∷ []) rest
        ∙ ap (λ m. told ++ next ∷ starts_from m (allowed_forms sealed (drop behind words))) at
        ∙ sym (ap (λ l. told ++ starts_from next l) (one_here f behind there at)) ∙ so

    pub told_end : (told : List ℕ) → next ≡ length words → told ++ starts_from next (allowed_forms sealed (drop next words)) ≡ starts_from 0 (allowed_forms sealed words) → told ≡ starts_in words
    unfolding starts_in
    told_end told e so =
        let none = none_allowed sealed (drop next words) (ap (allowed_first sealed) (nothing_more e) ∙ ap (allowed sealed) none_begins) in
        sym (append-nil told) ∙ sym (ap (λ l. told ++ starts_from next l) none) ∙ so ∙ ap (starts_from 0) (same_forms sealed words small (stand_end e))
