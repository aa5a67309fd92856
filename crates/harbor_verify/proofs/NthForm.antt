-- The n-th template of words that are templates side by side.
use Rattle.std.proofs.Common.{◌≡◌, ◌∙◌, ℕ, zero, suc, ◌+◌, ◌≤◌, ◌<◌, cond, eqb, ℤ, not, Bool, true, false, List, [], ◌∷◌, drop, take, length, get_or, Some, None, Result, Err, refl, sym, ap, subst, arith, length-drop}
use Rattle.std.proofs.lemmas.Bool.{eq-eqb, eqb-true}
use Rattle.std.proofs.lemmas.List.{drop-drop, drop_all}
use Rattle.unit_code.specs.Beside.{StandBy, form_words, forms_words, starts_from}
use Rattle.unit_code.specs.Spelling.{start_of}
use Rattle.unit_code.specs.Targets.{AreFirstWords}
use Rattle.unit_code.specs.declared.form.Form.{Form}
use Rattle.unit_code.specs.declared.form.Form.TheVariants.{LongBranch}
use Rattle.unit_code.specs.declared.unit.Unit.{Unit}
use Rattle.unit_code.specs.declared.unit.Unit.TheVariants.{Branch}
use Rattle.harbor_spell.proofs.OneSpelling.{Words16}
use Rattle.harbor_spell.proofs.Starts.{AreForms, are_forms, form_words-some, length-starts, starts_rise}
use Rattle.harbor_verify.specs.Parts.{ArePartsOf}
use Rattle.harbor_verify.specs.Resolved.{can_skip, is_group, led, no_more, resolve}
use Rattle.harbor_verify.specs.Walks.{form_first, forms_in, instructions, starts_in}
use Rattle.harbor_verify.proofs.Partings.{allowed_words, begins_form, form_advances, no_gap, same_forms}
use Rattle.harbor_verify.proofs.Decoded.{small_behind}
use Rattle.harbor_verify.proofs.Pieces.{nothing_first, one_first, pieces_behind}
use Rattle.harbor_verify.proofs.Straying.{IsPlaced}

-- Starts of forms, as sums over those in front.
start_is : (place n : ℕ) (fs : List Form) → n < length fs → get_or (starts_from place fs) n 0 ≡ place + forms_words (take n fs)
start_is place n [] h = absurd (omega (arith, h))
start_is place zero (f ∷ fs) h = omega arith
start_is place (suc n) (f ∷ fs) h = omega (arith, start_is (place + form_words f) n fs (omega (arith, h)))

next_start : (place n : ℕ) (fs : List Form) (f g : Form) (behind : List Form) → drop n fs ≡ f ∷ g ∷ behind → get_or (starts_from place fs) (suc n) 0 ≡ get_or (starts_from place fs) n 0 + form_words f
next_start place zero [] f g behind e = cc
next_start place zero (x ∷ []) f g behind e = cc
next_start place zero (x ∷ y ∷ fs) f g behind e = let same : x ≡ f = cc in let w = ap form_words same in omega (arith, w)
next_start place (suc n) [] f g behind e = cc
next_start place (suc n) (x ∷ fs) f g behind e = next_start (place + form_words x) n fs f g behind e

-- What is known of the form that starts at the n-th start.
pub record IsNth (words starts : List ℕ) (n : ℕ) (f : Form) : Type 0 where
  pub behind : drop n (forms_in words) ≡ f ∷ drop (n + 1) (forms_in words)
  pub read : form_first (drop (start_of starts n) words) ≡ Some f
  pub within : start_of starts n + form_words f ≤ length words
  pub some : 0 < form_words f

one_behind : (n : ℕ) (fs : List Form) (f : Form) (rest : List Form) → drop n fs ≡ f ∷ rest → drop n fs ≡ f ∷ drop (n + 1) fs
one_behind n fs f rest e = e ∙ ap (λ l. f ∷ l) (ap (drop 1) (sym e) ∙ drop-drop 1 n fs)

-- a long branch, as the last template or before another
pub long_last : (starts : List ℕ) (n at : ℕ) (set : Bool) (bit : ℕ) (k : ℤ) (behind : List Form) → no_more behind ≡ true → Err at ≡ resolve starts n at (LongBranch set bit k) behind
long_last starts n at set bit k behind e = sym (ap (λ b. cond {A = Result Unit ℕ} b (Err at) (led (λ t. Branch set bit t) starts (at + 1) k)) e)

pub long_more : (starts : List ℕ) (n at : ℕ) (set : Bool) (bit : ℕ) (k : ℤ) (behind : List Form) (r : Result Unit ℕ) → no_more behind ≡ false → r ≡ led (λ t. Branch set bit t) starts (at + 1) k
    → r ≡ resolve starts n at (LongBranch set bit k) behind
long_more starts n at set bit k behind r e is = is ∙ sym (ap (λ b. cond {A = Result Unit ℕ} b (Err at) (led (λ t. Branch set bit t) starts (at + 1) k)) e)

module _ (words starts : List ℕ) (parts : ArePartsOf words starts) where
  pub stand : StandBy parts.sealed (forms_in words) (instructions words) []
  stand = no_gap parts.sealed words parts.small parts.stand

  pub forms_are : AreForms (forms_in words)
  forms_are = are_forms parts.sealed (forms_in words) (instructions words) [] stand

  pub starts_are : starts ≡ starts_from 0 (forms_in words)
  unfolding starts_in
  starts_are = parts.starts_are

  pub count : length starts ≡ length (forms_in words)
  count = ap length starts_are ∙ length-starts (forms_in words) 0

  pub nth : (n : ℕ) → n < length starts → (f : Form) × IsNth words starts n f
  unfolding forms_in
  nth n h =
      let fs = forms_in words in
      let many : n < length fs = omega (arith, h, count) in
      let s = forms_words (take n fs) in
      let start : start_of starts n ≡ s = ap (λ l. get_or l n 0) starts_are ∙ (let e = start_is 0 n fs many in omega (arith, e)) in
      let small = small_behind s words parts.small in
      let rest : drop n fs ≡ forms_in (drop s words) = pieces_behind form_first form_words forms_words Words16 form_advances n words parts.small (omega (arith, many)) in
      let left = length-drop n fs in
      elim (form_first (drop s words)) as (λ o. form_first (drop s words) ≡ o → (f : Form) × IsNth words starts n f) [
        | None ↦ λ e.
            let none = ap length (rest ∙ nothing_first form_first form_words forms_words Words16 form_advances (drop s words) e) in
            absurd (omega (arith, none, left, many))
        | Some f ↦ λ e.
            let all : drop n fs ≡ f ∷ forms_in (drop (form_words f) (drop s words)) = rest ∙ one_first form_first form_words forms_words Words16 form_advances (drop s words) f small e in
            let form = begins_form (drop s words) f small e in
            let some = form_words-some f form.kind in (
              f,
              record {
                behind = one_behind n fs f (forms_in (drop (form_words f) (drop s words))) all;
                read = ap (λ k. form_first (drop k words)) start ∙ e;
                within = omega (arith, start, form.within, length-drop s words, some);
                some = some;
              },
            )
      ] refl

  few_forms : (fs : List Form) → AreForms fs → length fs ≤ forms_words fs
  few_forms [] h = omega arith
  few_forms (f ∷ fs) h = omega (arith, form_words-some f h.0, few_forms fs h.1)

  pub first_words : AreFirstWords starts
  first_words =
      let fs = forms_in words in
      let P : List ℕ → Type 0 = λ l. (i j : ℕ) → i < j → j < length l → get_or l i 0 < get_or l j 0 in
      let all : forms_words fs ≡ length words = ap forms_words (sym (same_forms parts.sealed words parts.small parts.stand)) ∙ allowed_words parts.sealed words parts.stand in
      record {
        rise = subst P (sym starts_are) (λ i j order within. starts_rise fs 0 i j forms_are order within);
        few = omega (arith, count, few_forms fs forms_are, all, parts.few);
      }

  forms_behind : (n : ℕ) (fs : List Form) → AreForms fs → AreForms (drop n fs)
  forms_behind zero fs h = h
  forms_behind (suc n) [] h = tt
  forms_behind (suc n) (f ∷ fs) h = forms_behind n fs h.1

  next_is : (n : ℕ) (f : Form) (behind : List Form) → drop n (forms_in words) ≡ f ∷ behind → 0 < length behind → start_of starts (n + 1) ≡ start_of starts n + form_words f
  next_is n f [] e some = absurd (omega (arith, some))
  next_is n f (g ∷ behind) e some =
      let fs = forms_in words in
      let next = next_start 0 n fs f g behind e in
      ap (λ l. get_or l (n + 1) 0) starts_are ∙ ap (λ m. get_or (starts_from 0 fs) m 0) (omega arith) ∙ next
      ∙ ap (λ m. m + form_words f) (ap (λ l. get_or l n 0) (sym starts_are))

  pub placed : (n : ℕ) (f : Form) (behind : List Form) → drop n (forms_in words) ≡ f ∷ behind → IsPlaced starts n (start_of starts n) f behind
  placed n f behind e =
      let fs = forms_in words in
      let kinds : AreForms (f ∷ behind) = subst AreForms e (forms_behind n fs forms_are) in
      let left = ap length e in
      record {
        first = first_words;
        at = refl;
        count = omega (arith, left, length-drop n fs, count);
        next = next_is n f behind e;
        kind = kinds.0;
      }

  none_behind : (n : ℕ) → length starts ≤ n → drop n (forms_in words) ≡ []
  none_behind n past = drop_all n (forms_in words) (omega (arith, past, count))

  pub no_more-is : (n : ℕ) → n ≤ length starts → eqb n (length starts) ≡ no_more (drop n (forms_in words))
  no_more-is n inside =
      elim (eqb n (length starts)) as (λ b. eqb n (length starts) ≡ b → b ≡ no_more (drop n (forms_in words))) [
        | true ↦ λ e. let same = eqb-true n (length starts) e in sym (ap no_more (none_behind n (omega (arith, same))))
        | false ↦ λ e.
            let apart : n ≡ length starts → ⊥ = λ same. let t : true ≡ false = sym (eq-eqb n (length starts) same) ∙ e in cc in
            sym (ap no_more (nth n (omega (arith, inside, apart))).1.behind)
      ] refl

  pub can_more : (n : ℕ) (f : Form) → drop n (forms_in words) ≡ f ∷ drop (n + 1) (forms_in words) → n + 1 < length starts → can_skip (drop n (forms_in words)) ≡ not (is_group f)
  can_more n f e more = ap can_skip (e ∙ ap (λ l. f ∷ l) (nth (n + 1) more).1.behind)

  few_left : (fs : List Form) → length fs ≤ 1 → can_skip fs ≡ false
  few_left [] h = refl
  few_left (f ∷ []) h = refl
  few_left (f ∷ g ∷ fs) h = absurd (omega (arith, h))

  pub can_few : (n : ℕ) → length starts ≤ n + 1 → can_skip (drop n (forms_in words)) ≡ false
  can_few n few = few_left (drop n (forms_in words)) (omega (arith, length-drop n (forms_in words), count, few))
