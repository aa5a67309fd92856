-- The refusal, step by step.
use Rattle.std.proofs.Common.{◌≡◌, ◌∙◌, ℕ, Bool, List, Option, Some, None, sym, ap}
use Rattle.std.specs.Prelude.{option_map}
use Rattle.harbor_verify.specs.Parts.{ArePartsOf, HaveUnits}
use Rattle.harbor_verify.specs.Resolved.{astray_at, resolve_from, resolved, units_or_none}
use Rattle.harbor_verify.specs.Verdict.{or_else, refusal, refusal_of_parts, refusal_of_targets, refusal_of_templates, refusal_of_units, refusal_of_words, stray_mark, units_in}
use Rattle.harbor_verify.specs.Walks.{forms_in, gap, starts_in, unfit}
use Rattle.harbor_verify.specs.declared.error.VerifyError.{VerifyError}
use Rattle.harbor_verify.specs.declared.error.VerifyError.TheVariants.{Word, Guard, Target}
use Rattle.harbor_verify.proofs.NoRefusal.{all_resolve}

module _ (words marks starts : List ℕ) (parts : ArePartsOf words starts) where
  same : (o : Option ℕ) → astray_at (resolve_from starts 0 (forms_in words)) ≡ o → astray_at (resolved words) ≡ o
  unfolding resolved
  same o e = ap (λ l. astray_at (resolve_from l 0 (forms_in words))) (sym parts.starts_are) ∙ e

  past_targets : astray_at (resolve_from starts 0 (forms_in words)) ≡ None → refusal_of_parts words marks ≡ or_else (refusal_of_units words (units_in words)) (stray_mark (starts_in words) marks)
  unfolding refusal_of_targets
  past_targets e = ap (λ o. or_else (option_map (λ place. Target place) o) (or_else (refusal_of_units words (units_in words)) (stray_mark (starts_in words) marks))) (same None e)

  pub parts_target : (at : ℕ) → astray_at (resolve_from starts 0 (forms_in words)) ≡ Some at → refusal_of_parts words marks ≡ Some (Target at)
  unfolding refusal_of_targets
  parts_target at e = ap (λ o. or_else (option_map (λ place. Target place) o) (or_else (refusal_of_units words (units_in words)) (stray_mark (starts_in words) marks))) (same (Some at) e)

  pub parts_units : (x : VerifyError) → astray_at (resolve_from starts 0 (forms_in words)) ≡ None → refusal_of_units words (units_in words) ≡ Some x → refusal_of_parts words marks ≡ Some x
  parts_units x e f = past_targets e ∙ ap (λ o. or_else o (stray_mark (starts_in words) marks)) f

  pub parts_end : astray_at (resolve_from starts 0 (forms_in words)) ≡ None → refusal_of_units words (units_in words) ≡ None → refusal_of_parts words marks ≡ stray_mark starts marks
  parts_end e f = past_targets e ∙ ap (λ o. or_else o (stray_mark (starts_in words) marks)) f ∙ ap (λ l. stray_mark l marks) (sym parts.starts_are)

module _ (words starts : List ℕ) (parts : ArePartsOf words starts) where
  pub have_units : astray_at (resolve_from starts 0 (forms_in words)) ≡ None → HaveUnits words
  unfolding resolved
  have_units e =
      record {
        units = units_or_none (resolved words);
        are = all_resolve (resolved words) (ap (λ l. astray_at (resolve_from l 0 (forms_in words))) (sym parts.starts_are) ∙ e);
      }

module _ (words marks : List ℕ) (sealed : Bool) where
  pub by_words : (at : ℕ) → unfit sealed words ≡ Some at → refusal words marks sealed ≡ Some (Word at)
  unfolding refusal refusal_of_words
  by_words at e = ap (λ o. or_else (option_map (λ place. Word place) o) (or_else (refusal_of_templates sealed words) (refusal_of_parts words marks))) e

  past_words : unfit sealed words ≡ None → refusal words marks sealed ≡ or_else (refusal_of_templates sealed words) (refusal_of_parts words marks)
  unfolding refusal refusal_of_words
  past_words e = ap (λ o. or_else (option_map (λ place. Word place) o) (or_else (refusal_of_templates sealed words) (refusal_of_parts words marks))) e

  pub by_templates : (at : ℕ) → unfit sealed words ≡ None → gap sealed words ≡ Some at → refusal words marks sealed ≡ Some (Guard at)
  unfolding refusal_of_templates
  by_templates at e f = past_words e ∙ ap (λ o. or_else (option_map (λ place. Guard place) o) (refusal_of_parts words marks)) f

  pub by_parts : unfit sealed words ≡ None → gap sealed words ≡ None → refusal words marks sealed ≡ refusal_of_parts words marks
  unfolding refusal_of_templates
  by_parts e f = past_words e ∙ ap (λ o. or_else (option_map (λ place. Guard place) o) (refusal_of_parts words marks)) f
