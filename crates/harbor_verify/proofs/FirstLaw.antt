-- What is told is the first condition that holds, at its least word.
use Rattle.std.proofs.Common.{◌≡◌, ◌≢◌, ◌∙◌, ℕ, suc, ◌+◌, ◌≤◌, ◌<◌, ◌⊎◌, ⊎_elim, inl, inr, ltb, min, Bool, true, false, List, [], ◌∷◌, drop, length, get_or, Option, Some, None, Err, refl, sym, ap, subst, arith}
use Rattle.std.specs.Prelude.{option_map}
use Rattle.std.specs.List.{Contains}
use Rattle.std.proofs.lemmas.Bool.{lt-ltb, ltb-true}
use Rattle.std.proofs.lemmas.List.{get_or_default}
use Rattle.std.proofs.lemmas.Option.{none-some, same_Some}
use Rattle.avr_isa.specs.declared.instruction.Instr.{Instr}
use Rattle.mote_layout.specs.Memory.{bank_words}
use Rattle.unit_code.specs.Beside.{AreWordsOf, StandBy, forms_words, starts_from, words_in}
use Rattle.unit_code.specs.Ends.{goes_on, long_length}
use Rattle.unit_code.specs.Refusals.{is_empty, least_stray}
use Rattle.unit_code.specs.Spelling.{Lays, start_of}
use Rattle.unit_code.specs.Targets.{AreFirstWords, number_of}
use Rattle.unit_code.specs.declared.form.Form.{Form}
use Rattle.unit_code.specs.declared.unit.Unit.{Unit}
use Rattle.unit_code.proofs.Numbers.{number_of-at, number_of-some}
use Rattle.unit_code.proofs.Strays.{least_stray-none, least_stray-some}
use Rattle.harbor_spell.proofs.OneSpelling.{Words16, one_laying}
use Rattle.harbor_verify.specs.Conditions.{Holds, LaySome, LeadsAstray}
use Rattle.harbor_verify.specs.Law.{IsFirst, IsNoLater, error_word, order}
use Rattle.harbor_verify.specs.Parts.{ArePartsOf}
use Rattle.harbor_verify.specs.Resolved.{astray_at, resolve, resolved}
use Rattle.harbor_verify.specs.Verdict.{or_else, refusal, refusal_of_parts, refusal_of_targets, refusal_of_templates, refusal_of_units, refusal_of_words, stray_mark, told_where, units_in}
use Rattle.harbor_verify.specs.Walks.{allowed_forms, fit_instructions, forms_in, gap, instructions, starts_in, unfit}
use Rattle.harbor_verify.specs.declared.error.VerifyError.{VerifyError}
use Rattle.harbor_verify.specs.declared.error.VerifyError.TheVariants.{Word, Guard, Target, FallsOff, Empty, TooLong, Entry}
use Rattle.harbor_verify.proofs.Accepted.{nothing_stands, stand_count, words_left}
use Rattle.harbor_verify.proofs.Decoded.{all_read, words_count}
use Rattle.harbor_verify.proofs.Fits.{all_fit, begin_count, fit_before, fit_stop}
use Rattle.harbor_verify.proofs.Lost.{is_astray}
use Rattle.harbor_verify.proofs.NoRefusal.{all_resolve, lay, none_of}
use Rattle.harbor_verify.proofs.NthForm.{first_words, placed}
use Rattle.harbor_verify.proofs.Partings.{forms_stand, no_gap, nothing_allowed, same_forms, stand_forms, stopped_nowhere, stopped_there}
use Rattle.harbor_verify.proofs.Straying.{strays}
use Rattle.harbor_verify.proofs.Unfolded.{astray_found, first_strays}

-- An answer to the one condition with a number, and to all from a number on.
pub record AnswersTo (words marks : List ℕ) (sealed : Bool) (n : ℕ) (o : Option VerifyError) : Type 0 where
  pub none : o ≡ None → (e : VerifyError) → Holds words marks sealed e → order e ≡ n → ⊥
  pub some : (e : VerifyError) → o ≡ Some e → Holds words marks sealed e × (order e ≡ n) × ((other : VerifyError) → Holds words marks sealed other → order other ≡ n → error_word e ≤ error_word other)

pub record AnswersFrom (words marks : List ℕ) (sealed : Bool) (n : ℕ) (o : Option VerifyError) : Type 0 where
  pub none : o ≡ None → (e : VerifyError) → Holds words marks sealed e → n ≤ order e → ⊥
  pub some : (e : VerifyError) → o ≡ Some e → Holds words marks sealed e × (n ≤ order e) × ((other : VerifyError) → Holds words marks sealed other → n ≤ order other → IsNoLater e other)

module _ (words marks : List ℕ) (sealed : Bool) where
  abbrev To : ℕ → Option VerifyError → Type 0
  To n o = AnswersTo words marks sealed n o

  abbrev From : ℕ → Option VerifyError → Type 0
  From n o = AnswersFrom words marks sealed n o

  this_or_later : {C : Type 0} (n m : ℕ) → n ≤ m → (m ≡ n → C) → (suc n ≤ m → C) → C
  this_or_later n m h this later = let cases : (m ≡ n) ⊎ (suc n ≤ m) = grind arith in ⊎_elim this later cases

  told_from : (n : ℕ) (e : VerifyError) → To n (Some e) → (rest : Option VerifyError) → From n (or_else (Some e) rest)
  told_from n e to rest =
      let h = to.some e refl in
      record {
        none = λ none. cc;
        some = λ x is.
            let same : e ≡ x = same_Some e x is in
            let P : VerifyError → Type 0 = λ y. Holds words marks sealed y × (n ≤ order y) × ((other : VerifyError) → Holds words marks sealed other → n ≤ order other → IsNoLater y other) in
            subst P same (
              h.0,
              omega (arith, h.1),
              λ other holds past. this_or_later n (order other) past (λ this. inr (h.1 ∙ sym this, h.2 other holds this)) (λ later. inl (omega (arith, later, h.1))),
            );
      }

  untold_from : (n : ℕ) (rest : Option VerifyError) → To n None → From (suc n) rest → From n (or_else None rest)
  untold_from n rest to from =
      record {
        none = λ none e holds past. this_or_later n (order e) past (λ this. to.none refl e holds this) (λ later. from.none none e holds later);
        some = λ e is.
            let h = from.some e is in
            (h.0, omega (arith, h.1), λ other holds past. this_or_later n (order other) past (λ this. absurd (to.none refl other holds this)) (λ later. h.2 other holds later));
      }

  first_from : (n : ℕ) (o rest : Option VerifyError) → To n o → (o ≡ None → From (suc n) rest) → From n (or_else o rest)
  first_from n None rest to from = untold_from n rest to (from refl)
  first_from n (Some e) rest to from = told_from n e to rest

  seven : (e : VerifyError) → order e ≤ 7
  seven (Word place) = omega arith
  seven (Guard place) = omega arith
  seven (Target place) = omega arith
  seven FallsOff = omega arith
  seven Empty = omega arith
  seven (TooLong count) = omega arith
  seven (Entry mark) = omega arith

  last_from : (o : Option VerifyError) → To 7 o → From 7 o
  last_from o to =
      record {
        none = λ none e holds past. to.none none e holds (let high = seven e in omega (arith, past, high));
        some = λ e is.
            let h = to.some e is in
            (h.0, omega (arith, h.1), λ other holds past. let same : order other ≡ 7 = (let high = seven other in omega (arith, past, high)) in inr (h.1 ∙ sym same, h.2 other holds same));
      }

  -- The condition with each number.
  is_word : {C : Type 0} (e : VerifyError) → Holds words marks sealed e → order e ≡ 1 → ((at : ℕ) → Word at ≡ e → Holds words marks sealed (Word at) → C) → C
  is_word (Word at) h n so = so at refl h
  is_word _ h n so = absurd (omega (arith, n))

  is_guard : {C : Type 0} (e : VerifyError) → Holds words marks sealed e → order e ≡ 2 → ((at : ℕ) → Guard at ≡ e → Holds words marks sealed (Guard at) → C) → C
  is_guard (Guard at) h n so = so at refl h
  is_guard _ h n so = absurd (omega (arith, n))

  is_target : {C : Type 0} (e : VerifyError) → Holds words marks sealed e → order e ≡ 3 → ((at : ℕ) → Target at ≡ e → Holds words marks sealed (Target at) → C) → C
  is_target (Target at) h n so = so at refl h
  is_target _ h n so = absurd (omega (arith, n))

  is_fall : {C : Type 0} (e : VerifyError) → Holds words marks sealed e → order e ≡ 4 → (Holds words marks sealed FallsOff → C) → C
  is_fall FallsOff h n so = so h
  is_fall _ h n so = absurd (omega (arith, n))

  is_nothing : {C : Type 0} (e : VerifyError) → Holds words marks sealed e → order e ≡ 5 → (words ≡ [] → C) → C
  is_nothing Empty h n so = so h
  is_nothing _ h n so = absurd (omega (arith, n))

  is_long : {C : Type 0} (e : VerifyError) → Holds words marks sealed e → order e ≡ 6 → ((count : ℕ) → TooLong count ≡ e → Holds words marks sealed (TooLong count) → C) → C
  is_long (TooLong count) h n so = so count refl h
  is_long _ h n so = absurd (omega (arith, n))

  is_entry : {C : Type 0} (e : VerifyError) → Holds words marks sealed e → order e ≡ 7 → ((mark : ℕ) → Entry mark ≡ e → Holds words marks sealed (Entry mark) → C) → C
  is_entry (Entry mark) h n so = so mark refl h
  is_entry _ h n so = absurd (omega (arith, n))

  no_less : (e other : VerifyError) (a b : ℕ) → error_word e ≡ a → error_word other ≡ b → a ≤ b → error_word e ≤ error_word other
  no_less e other a b h k order = omega (arith, h, k, order)

  -- Words.
  word_after : (at : ℕ) → Holds words marks sealed (Word at) → (words_in (fit_instructions sealed words) ≤ at) × (at < length words)
  word_after at h =
      let rest : List ℕ = h.1 in
      let before = fit_before sealed h.0 words rest h.2 h.4 in
      let all = begin_count h.0 words rest h.2 in
      (omega (arith, before, h.5), omega (arith, all, h.5, some_left rest h.3)) where
        some_left : (rest : List ℕ) → rest ≢ [] → 0 < length rest
        some_left [] h = absurd (h refl)
        some_left (w ∷ ws) h = omega arith

  word_holds : (at : ℕ) → unfit sealed words ≡ Some at → Holds words marks sealed (Word at) × (at ≡ words_in (fit_instructions sealed words))
  unfolding unfit
  word_holds at e =
      let is = fit_instructions sealed words in
      let there = stopped_there (words_in is) (length words) at e in
      let stop = fit_stop sealed words in
      let all = begin_count is words (drop (words_in is) words) stop.0 in
      ((is, drop (words_in is) words, stop.0, λ none. there.1 (let left = ap length none in omega (arith, all, left)), stop.1, there.0), there.0)

  word_none : unfit sealed words ≡ None → (at : ℕ) → Holds words marks sealed (Word at) → ⊥
  unfolding unfit
  word_none e at h =
      let all = stopped_nowhere (words_in (fit_instructions sealed words)) (length words) e in
      let after = word_after at h in
      omega (arith, all, after.0, after.1)

  to_words : To 1 (refusal_of_words sealed words)
  unfolding refusal_of_words
  to_words =
      elim (unfit sealed words) as (λ o. unfit sealed words ≡ o → To 1 (option_map (λ place. Word place) o)) [
        | None ↦ λ e. record { none = λ _ x holds n. is_word x holds n (λ at same h. word_none e at h); some = λ x is. cc }
        | Some at ↦ λ e.
            let h = word_holds at e in
            record {
              none = λ none. cc;
              some = λ x is.
                  let same : Word at ≡ x = same_Some (Word at) x is in
                  let P : VerifyError → Type 0 = λ y. Holds words marks sealed y × (order y ≡ 1) × ((other : VerifyError) → Holds words marks sealed other → order other ≡ 1 → error_word y ≤ error_word other) in
                  subst P same (h.0, refl, λ other holds n. is_word other holds n (λ b is_b k. no_less (Word at) other at b refl (ap error_word (sym is_b)) (let after = word_after b k in omega (arith, after.0, h.1))));
            }
      ] refl

  -- Templates, where all instructions may appear.
  guard_at : Words16 words → (at : ℕ) → Holds words marks sealed (Guard at) → (at ≡ forms_words (allowed_forms sealed words)) × (at < length words)
  guard_at small at h =
      let is : List Instr = h.0 in
      let fs : List Form = h.1 in
      let rest : List Instr = h.2 in
      let P : List Instr → Type 0 = λ l. StandBy sealed fs l rest in
      let read = ap forms_words (stand_forms sealed fs words rest small (subst P (sym (all_read is words h.3)) h.4) h.6) in
      let all = stand_count sealed fs is rest h.4 in
      let long = words_count is words h.3 in
      (omega (arith, read, h.7), omega (arith, all, long, h.7, words_left rest h.5))

  guard_holds : Words16 words → unfit sealed words ≡ None → (at : ℕ) → gap sealed words ≡ Some at → Holds words marks sealed (Guard at) × (at ≡ forms_words (allowed_forms sealed words))
  unfolding gap
  guard_holds small fit at e =
      let fs = allowed_forms sealed words in
      let is = instructions words in
      let rest = instructions (drop (forms_words fs) words) in
      let there = stopped_there (forms_words fs) (length words) at e in
      let spelled = all_fit sealed words fit in
      let stand = forms_stand sealed words small in
      let all = stand_count sealed fs is rest stand in
      let long = words_count is words spelled in
      ((is, fs, rest, spelled, stand, λ none. there.1 (let left = ap words_in none in omega (arith, all, long, left)), nothing_allowed sealed words small, there.0), there.0)

  guard_none : Words16 words → gap sealed words ≡ None → (at : ℕ) → Holds words marks sealed (Guard at) → ⊥
  unfolding gap
  guard_none small e at h =
      let all = stopped_nowhere (forms_words (allowed_forms sealed words)) (length words) e in
      let there = guard_at small at h in
      omega (arith, all, there.0, there.1)

  to_templates : Words16 words → unfit sealed words ≡ None → To 2 (refusal_of_templates sealed words)
  unfolding refusal_of_templates
  to_templates small fit =
      elim (gap sealed words) as (λ o. gap sealed words ≡ o → To 2 (option_map (λ place. Guard place) o)) [
        | None ↦ λ e. record { none = λ _ x holds n. is_guard x holds n (λ at same h. guard_none small e at h); some = λ x is. cc }
        | Some at ↦ λ e.
            let h = guard_holds small fit at e in
            record {
              none = λ none. cc;
              some = λ x is.
                  let same : Guard at ≡ x = same_Some (Guard at) x is in
                  let P : VerifyError → Type 0 = λ y. Holds words marks sealed y × (order y ≡ 2) × ((other : VerifyError) → Holds words marks sealed other → order other ≡ 2 → error_word y ≤ error_word other) in
                  subst P same (h.0, refl, λ other holds n. is_guard other holds n (λ b is_b k. no_less (Guard at) other at b refl (ap error_word (sym is_b)) (let there = guard_at small b k in omega (arith, there.0, h.1))));
            }
      ] refl

  -- Targets, where the words are templates side by side.
  module _ (small : Words16 words) (few : length words ≤ 65535) (fit : unfit sealed words ≡ None) (gapless : gap sealed words ≡ None) where
    parts : ArePartsOf words (starts_in words)
    parts = record { sealed = sealed; small = small; few = few; fit = fit; stand = gapless; starts_are = refl }

    same_parting : (is : List Instr) (fs : List Form) → AreWordsOf is words → StandBy sealed fs is [] → forms_in words ≡ fs
    same_parting is fs spelled stand =
        let P : List Instr → Type 0 = λ l. StandBy sealed fs l [] in
        sym (same_forms sealed words small gapless) ∙ stand_forms sealed fs words [] small (subst P (sym (all_read is words spelled)) stand) (nothing_stands sealed)

    target_after : (at : ℕ) → Holds words marks sealed (Target at) → (first : ℕ) × (astray_at (resolved words) ≡ Some first) × (first ≤ at)
    unfolding resolved starts_in
    target_after at h =
        let fs : List Form = h.1 in
        let starts = starts_in words in
        let same = same_parting h.0 fs h.5 h.6 in
        let P : List Form → Type 0 = λ l. (drop h.2 l ≡ h.3 ∷ h.4) × LeadsAstray (starts_from 0 l) h.2 (start_of (starts_from 0 l) h.2) h.3 h.4 at in
        let k = subst P (sym same) (h.7, h.8) in
        let here = placed words starts parts in
        let s = strays starts h.2 (start_of starts h.2) h.4 at h.3 (here h.2 h.3 h.4 k.0) k.1 in
        let found = first_strays (forms_in words) starts here 0 (forms_in words) refl h.2 h.3 h.4 s.found k.0 (ap (λ j. resolve starts j (start_of starts j) h.3 h.4) (omega arith) ∙ s.is) in
        (found.0, found.1, let before = s.before in omega (arith, found.2, before))

    target_holds : (at : ℕ) → astray_at (resolved words) ≡ Some at → Holds words marks sealed (Target at)
    unfolding resolved starts_in
    target_holds at e =
        let starts = starts_in words in
        let h = astray_found starts 0 at (forms_in words) e in
        let same : 0 + h.n ≡ h.n = omega arith in
        let now : resolve starts h.n (start_of starts h.n) h.f h.behind ≡ Err at = ap (λ j. resolve starts j (start_of starts j) h.f h.behind) (sym same) ∙ h.is in
        let astray = is_astray starts h.n (start_of starts h.n) h.behind at h.f (placed words starts parts h.n h.f h.behind h.there) now in
        (instructions words, forms_in words, h.n, h.f, h.behind, all_fit sealed words fit, no_gap sealed words small gapless, h.there, astray.astray)

    to_targets : To 3 (refusal_of_targets words)
    unfolding refusal_of_targets
    to_targets =
        elim (astray_at (resolved words)) as (λ o. astray_at (resolved words) ≡ o → To 3 (option_map (λ place. Target place) o)) [
          | None ↦ λ e. record { none = λ _ x holds n. is_target x holds n (λ at same h. let first = target_after at h in none-some first.0 (sym e ∙ first.1)); some = λ x is. cc }
          | Some at ↦ λ e.
              record {
                none = λ none. cc;
                some = λ x is.
                    let same : Target at ≡ x = same_Some (Target at) x is in
                    let P : VerifyError → Type 0 = λ y. Holds words marks sealed y × (order y ≡ 3) × ((other : VerifyError) → Holds words marks sealed other → order other ≡ 3 → error_word y ≤ error_word other) in
                    subst P same (target_holds at e, refl, λ other holds n. is_target other holds n (λ b is_b k. no_less (Target at) other at b refl (ap error_word (sym is_b)) (let first = target_after b k in let equal : at ≡ first.0 = same_Some at first.0 (sym e ∙ first.1) in omega (arith, equal, first.2))));
              }
        ] refl

  -- The units, where the words lay them.
  module _ (small : Words16 words) (us : List Unit) (starts : List ℕ) (laid : Lays words sealed us starts) where
    of_these : (P : List Unit → List ℕ → Type 0) → LaySome words sealed P → P us starts
    of_these P h =
        let vs : List Unit = h.0 in
        let places : List ℕ = h.1 in
        let same = one_laying words sealed vs us places starts small h.2 laid in
        subst (λ (l : List ℕ). P us l) same.1 (subst (λ (l : List Unit). P l places) same.0 h.3)

    to_falling : To 4 (told_where (goes_on us) FallsOff)
    to_falling =
        elim (goes_on us) as (λ b. goes_on us ≡ b → To 4 (told_where b FallsOff)) [
          | false ↦ λ e. record { none = λ _ x holds n. is_fall x holds n (λ h. let on = of_these (λ l places. goes_on l ≡ true) h in let t : true ≡ false = sym on ∙ e in cc); some = λ x is. cc }
          | true ↦ λ e.
              record {
                none = λ none. cc;
                some = λ x is.
                    let same : FallsOff ≡ x = same_Some FallsOff x is in
                    let P : VerifyError → Type 0 = λ y. Holds words marks sealed y × (order y ≡ 4) × ((other : VerifyError) → Holds words marks sealed other → order other ≡ 4 → error_word y ≤ error_word other) in
                    subst P same ((us, starts, laid, e), refl, λ other holds n. omega arith);
              }
        ] refl

    to_nothing : To 5 (told_where (is_empty words) Empty)
    to_nothing =
        elim (is_empty words) as (λ b. is_empty words ≡ b → To 5 (told_where b Empty)) [
          | false ↦ λ e. record { none = λ _ x holds n. is_nothing x holds n (λ h. let t : true ≡ false = sym (ap is_empty h) ∙ e in cc); some = λ x is. cc }
          | true ↦ λ e.
              record {
                none = λ none. cc;
                some = λ x is.
                    let same : Empty ≡ x = same_Some Empty x is in
                    let P : VerifyError → Type 0 = λ y. Holds words marks sealed y × (order y ≡ 5) × ((other : VerifyError) → Holds words marks sealed other → order other ≡ 5 → error_word y ≤ error_word other) in
                    subst P same (no_words words e, refl, λ other holds n. omega arith);
              }
        ] refl where
          no_words : (ws : List ℕ) → is_empty ws ≡ true → ws ≡ []
          no_words [] e = refl
          no_words (w ∷ ws) e = cc

    to_length : To 6 (told_where (ltb bank_words (long_length us)) (TooLong (min (long_length us) 65535)))
    to_length =
        let count = min (long_length us) 65535 in
        elim (ltb bank_words (long_length us)) as (λ b. ltb bank_words (long_length us) ≡ b → To 6 (told_where b (TooLong count))) [
          | false ↦ λ e.
              record {
                none = λ _ x holds n. is_long x holds n (λ c same h.
                    let long = of_these (λ l places. (bank_words < long_length l) × (c ≡ min (long_length l) 65535)) h in
                    let t : true ≡ false = sym (lt-ltb bank_words (long_length us) long.0) ∙ e in cc);
                some = λ x is. cc;
              }
          | true ↦ λ e.
              record {
                none = λ none. cc;
                some = λ x is.
                    let same : TooLong count ≡ x = same_Some (TooLong count) x is in
                    let P : VerifyError → Type 0 = λ y. Holds words marks sealed y × (order y ≡ 6) × ((other : VerifyError) → Holds words marks sealed other → order other ≡ 6 → error_word y ≤ error_word other) in
                    subst P same (
                      (us, starts, laid, (ltb-true bank_words (long_length us) e, refl)),
                      refl,
                      λ other holds n.
                          is_long other holds n (λ c is_c h.
                          let long = of_these (λ l places. (bank_words < long_length l) × (c ≡ min (long_length l) 65535)) h in
                          no_less (TooLong count) other count c refl (ap error_word (sym is_c)) (omega (arith, long.1))),
                    );
              }
        ] refl

    not_contained : AreFirstWords starts → (word : ℕ) → number_of starts word ≡ None → ¬ Contains starts word
    not_contained first word none h =
        let at : get_or starts h.0 0 ≡ word = sym (get_or_default starts h.0 word 0 h.1) ∙ h.2 in
        none-some h.0 (sym none ∙ number_of-at starts word h.0 first h.1 at)

    not_numbered : (word : ℕ) → (¬ Contains starts word) → number_of starts word ≡ None
    not_numbered word h =
        elim (number_of starts word) as (λ o. number_of starts word ≡ o → o ≡ None) [
          | None ↦ λ e. refl
          | Some n ↦ λ e. let at = number_of-some starts word n e in absurd (h (n, at.0, get_or_default starts n word 0 at.0 ∙ at.1))
        ] refl

    to_marks : AreFirstWords starts → To 7 (stray_mark starts marks)
    unfolding stray_mark
    to_marks first =
        elim (least_stray starts marks) as (λ o. least_stray starts marks ≡ o → To 7 (option_map (λ mark. Entry mark) o)) [
          | None ↦ λ e.
              record {
                none = λ _ x holds n. is_entry x holds n (λ mark same h.
                    let k = of_these (λ l places. Contains marks mark × (¬ Contains places mark)) h in
                    least_stray-none starts marks e mark k.0 (not_numbered mark k.1));
                some = λ x is. cc;
              }
          | Some w ↦ λ e.
              let stray = least_stray-some starts marks w e in
              record {
                none = λ none. cc;
                some = λ x is.
                    let same : Entry w ≡ x = same_Some (Entry w) x is in
                    let P : VerifyError → Type 0 = λ y. Holds words marks sealed y × (order y ≡ 7) × ((other : VerifyError) → Holds words marks sealed other → order other ≡ 7 → error_word y ≤ error_word other) in
                    subst P same (
                      (us, starts, laid, (stray.0, not_contained first w stray.1)),
                      refl,
                      λ other holds n.
                          is_entry other holds n (λ mark is_mark h.
                          let k = of_these (λ l places. Contains marks mark × (¬ Contains places mark)) h in
                          no_less (Entry w) other w mark refl (ap error_word (sym is_mark)) (stray.2 mark k.0 (not_numbered mark k.1))),
                    );
              }
        ] refl

    regrouped : (a b c d : Option VerifyError) → or_else (or_else a (or_else b c)) d ≡ or_else a (or_else b (or_else c d))
    regrouped (Some e) b c d = refl
    regrouped None (Some e) c d = refl
    regrouped None None c d = refl

    from_units : AreFirstWords starts → From 4 (or_else (refusal_of_units words us) (stray_mark starts marks))
    unfolding refusal_of_units
    from_units first =
        let falls = told_where (goes_on us) FallsOff in
        let empty = told_where (is_empty words) Empty in
        let long = told_where (ltb bank_words (long_length us)) (TooLong (min (long_length us) 65535)) in
        let last = stray_mark starts marks in
        let P : Option VerifyError → Type 0 = From 4 in
        subst P (sym (regrouped falls empty long last))
        (first_from 4 falls (or_else empty (or_else long last)) to_falling (λ a.
        first_from 5 empty (or_else long last) to_nothing (λ b.
        first_from 6 long last to_length (λ c. last_from last (to_marks first)))))

  all_from : Words16 words → length words ≤ 65535 → From 1 (refusal words marks sealed)
  unfolding refusal units_in refusal_of_words refusal_of_templates refusal_of_targets
  all_from small few =
      let parts_told = refusal_of_parts words marks in
      let ends = or_else (refusal_of_units words (units_in words)) (stray_mark (starts_in words) marks) in
      first_from 1 (refusal_of_words sealed words) (or_else (refusal_of_templates sealed words) parts_told) to_words (λ a.
      let fit = none_of (unfit sealed words) (λ place. Word place) a in
      first_from 2 (refusal_of_templates sealed words) parts_told (to_templates small fit) (λ b.
      let stand = none_of (gap sealed words) (λ place. Guard place) b in
      first_from 3 (refusal_of_targets words) ends (to_targets small few fit stand) (λ c.
      let units = all_resolve (resolved words) (none_of (astray_at (resolved words)) (λ place. Target place) c) in
      from_units small (units_in words) (starts_in words) (lay sealed words small fit stand (units_in words) units)
      (first_words words (starts_in words) (parts small few fit stand)))))

pub refusal_is_first : (sealed : Bool) (words marks : List ℕ) → length words ≤ 65535 → Words16 words → (e : VerifyError) → refusal words marks sealed ≡ Some e → IsFirst words marks sealed e
refusal_is_first sealed words marks few small e is =
    let h = (all_from words marks sealed small few).some e is in
    record { holds = h.0; first = λ other holds. h.2 other holds (one other) } where
      one : (other : VerifyError) → 1 ≤ order other
      one (Word at) = omega arith
      one (Guard at) = omega arith
      one (Target at) = omega arith
      one FallsOff = omega arith
      one Empty = omega arith
      one (TooLong count) = omega arith
      one (Entry mark) = omega arith
