-- Nothing stands against words that spell units.
use Rattle.std.proofs.Common.{◌≡◌, ◌∙◌, ℕ, zero, suc, ◌≤◌, ltb, min, Bool, false, List, [], ◌∷◌, length, get_or, Option, Some, None, Ok, refl, sym, ap, subst, arith}
use Rattle.std.specs.Prelude.{option_map}
use Rattle.std.specs.List.{AllByRecursion, Contains}
use Rattle.std.proofs.lemmas.Bool.{le-ltb}
use Rattle.std.proofs.lemmas.List.{get_or_default}
use Rattle.std.proofs.lemmas.Option.{none-some}
use Rattle.mote_layout.specs.Memory.{bank_words}
use Rattle.unit_code.specs.Ends.{goes_on, long_length}
use Rattle.unit_code.specs.Refusals.{is_empty, least_stray}
use Rattle.unit_code.specs.Spelling.{Spells}
use Rattle.unit_code.specs.Targets.{AreFirstWords}
use Rattle.unit_code.specs.declared.unit.Unit.{Unit}
use Rattle.unit_code.proofs.Numbers.{number_of-at}
use Rattle.unit_code.proofs.Strays.{least_stray-some}
use Rattle.harbor_spell.proofs.OneSpelling.{Words16, starts_count}
use Rattle.harbor_verify.specs.Resolved.{astray_at, resolved, units_or_none}
use Rattle.harbor_verify.specs.Verdict.{or_else, refusal, refusal_of_targets, refusal_of_templates, refusal_of_units, refusal_of_words, stray_mark, told_where, units_in}
use Rattle.harbor_verify.specs.Walks.{forms_in, pieces_up_to, starts_in}
use Rattle.harbor_verify.specs.declared.error.VerifyError.{VerifyError}
use Rattle.harbor_verify.specs.declared.error.VerifyError.TheVariants.{Word, Guard, Target, FallsOff, Empty, TooLong, Entry}
use Rattle.harbor_verify.proofs.Accepted.{laid_fit, laid_parts, laid_stand, laid_starts, laid_units}
use Rattle.harbor_verify.proofs.NoRefusal.{no_refusal_spells}
use Rattle.harbor_verify.proofs.NthForm.{first_words}

both_none : (a b : Option VerifyError) → a ≡ None → b ≡ None → or_else a b ≡ None
both_none a b e f = ap (λ o. or_else o b) e ∙ f

untold : (b : Bool) (x : VerifyError) → b ≡ false → told_where b x ≡ None
untold b x e = ap (λ t. told_where t x) e

no_option : (o : Option ℕ) → ((n : ℕ) → o ≡ Some n → ⊥) → o ≡ None
no_option None h = refl
no_option (Some n) h = absurd (h n refl)

entered_at : (marks starts : List ℕ) (mark : ℕ) → AllByRecursion (λ m. Contains starts m) marks → Contains marks mark → Contains starts mark
entered_at [] starts mark h (k, within, is) = absurd (omega (arith, within))
entered_at (m ∷ marks) starts mark h (zero, within, is) = let P : ℕ → Type 0 = λ x. Contains starts x in subst P is h.0
entered_at (m ∷ marks) starts mark h (suc k, within, is) = entered_at marks starts mark h.1 (k, omega (arith, within), is)

none_strays : (starts marks : List ℕ) → AreFirstWords starts → AllByRecursion (λ m. Contains starts m) marks → least_stray starts marks ≡ None
none_strays starts marks first h =
    no_option (least_stray starts marks) (λ w e.
    let stray = least_stray-some starts marks w e in
    let there : Contains starts w = entered_at marks starts w h stray.0 in
    let at : get_or starts there.0 0 ≡ w = sym (get_or_default starts there.0 w 0 there.1) ∙ there.2 in
    none-some there.0 (sym stray.1 ∙ number_of-at starts w there.0 first there.1 at))

not_empty : (words : List ℕ) (us : List Unit) → (words ≡ [] → ⊥) → is_empty words ≡ false
not_empty [] us h = absurd (h refl)
not_empty (w ∷ ws) us h = refl

nothing_starts : length (starts_in []) ≡ 0
unfolding starts_in forms_in pieces_up_to
nothing_starts = refl

module _ (sealed : Bool) (words marks : List ℕ) (few : length words ≤ 65535) (small : Words16 words) (us : List Unit) (starts : List ℕ) (h : Spells words marks sealed us starts) where
  whole : resolved words ≡ Ok us
  whole = laid_units sealed words us starts small h.lays few h.proper.ends

  same_starts : starts_in words ≡ starts
  same_starts = laid_starts sealed words us starts small h.lays

  same_units : units_in words ≡ us
  unfolding units_in
  same_units = ap units_or_none whole

  no_words_no_units : words ≡ [] → ⊥
  no_words_no_units e =
      let none : length starts ≡ 0 = ap length (sym same_starts) ∙ ap (λ l. length (starts_in l)) e ∙ nothing_starts in
      omega (arith, none, h.proper.some, starts_count words sealed h.lays.0 us starts h.lays.1)

  proper_told : refusal_of_units words us ≡ None
  unfolding refusal_of_units
  proper_told =
      both_none (told_where (goes_on us) FallsOff) _ (untold (goes_on us) FallsOff h.proper.ends)
      (both_none (told_where (is_empty words) Empty) _ (untold (is_empty words) Empty (not_empty words us no_words_no_units))
      (untold (ltb bank_words (long_length us)) (TooLong (min (long_length us) 65535)) (le-ltb bank_words (long_length us) h.proper.fits)))

  marks_told : stray_mark (starts_in words) marks ≡ None
  unfolding stray_mark
  marks_told =
      ap (λ l. option_map (λ mark. Entry mark) (least_stray l marks)) same_starts
      ∙ ap (option_map (λ mark. Entry mark)) (none_strays starts marks (first_words words starts (laid_parts sealed words us starts small h.lays few)) h.entered)

  pub nothing_told : refusal words marks sealed ≡ None
  unfolding refusal refusal_of_words refusal_of_templates refusal_of_targets
  nothing_told =
      both_none (refusal_of_words sealed words) _ (ap (option_map (λ place. Word place)) (laid_fit sealed words us starts small h.lays))
      (both_none (refusal_of_templates sealed words) _ (ap (option_map (λ place. Guard place)) (laid_stand sealed words us starts small h.lays))
      (both_none (refusal_of_targets words) _ (ap (λ r. option_map (λ place. Target place) (astray_at r)) whole)
      (both_none (refusal_of_units words (units_in words)) _ (ap (refusal_of_units words) same_units ∙ proper_told) marks_told)))

-- What is told of words that spell units, as functions of them.
pub judged : (sealed : Bool) (words marks : List ℕ) → length words ≤ 65535 → Words16 words → (us : List Unit) (starts : List ℕ) → Spells words marks sealed us starts
    → (refusal words marks sealed ≡ None) × (units_in words ≡ us) × (starts_in words ≡ starts)
judged sealed words marks few small us starts h =
    (nothing_told sealed words marks few small us starts h, same_units sealed words marks few small us starts h, same_starts sealed words marks few small us starts h)

-- What is told of words that nothing stands against, with the starts and their number.
pub record IsTold (sealed : Bool) (words marks told : List ℕ) (number : ℕ) : Type 0 where
  pub spells : Spells words marks sealed (units_in words) told
  pub many : number ≡ length (units_in words)
  pub only : (us : List Unit) (places : List ℕ) → Spells words marks sealed us places → (number ≡ length us) × (told ≡ places)

pub is_told : (sealed : Bool) (words marks told : List ℕ) (number : ℕ) → length words ≤ 65535 → Words16 words → refusal words marks sealed ≡ None → told ≡ starts_in words → number ≡ length told → IsTold sealed words marks told number
is_told sealed words marks told number few small none starts counted =
    let P : List ℕ → Type 0 = λ l. Spells words marks sealed (units_in words) l in
    let spells = subst P (sym starts) (no_refusal_spells sealed words marks small none) in
    let many : number ≡ length (units_in words) = counted ∙ starts_count words sealed spells.lays.0 (units_in words) told spells.lays.1 in
    record {
      spells = spells;
      many = many;
      only = λ us places h. let same = judged sealed words marks few small us places h in (many ∙ ap length same.1, starts ∙ same.2);
    }

pub refused_spells_none : (sealed : Bool) (words marks : List ℕ) (e : VerifyError) → length words ≤ 65535 → Words16 words → refusal words marks sealed ≡ Some e → (us : List Unit) (places : List ℕ) → Spells words marks sealed us places → ⊥
refused_spells_none sealed words marks e few small is us places h = none-some e (sym (judged sealed words marks few small us places h).0 ∙ is)

pub few_starts : (sealed : Bool) (words marks told : List ℕ) (number : ℕ) → length words ≤ 65535 → Words16 words → IsTold sealed words marks told number → length told ≤ 65535
few_starts sealed words marks told number few small h = (first_words words told (laid_parts sealed words (units_in words) told small h.spells.lays few)).few
