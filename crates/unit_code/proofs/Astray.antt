-- Targets that are no unit's first word, as the conditions test them.
use Rattle.std.proofs.Common.{◌≡◌, ◌∙◌, ℕ, not, true, false, List, [], ◌∷◌, get_or, Option, Some, None, is_some, sym, refl, ap}
use Rattle.std.specs.List.{Contains}
use Rattle.std.proofs.lemmas.List.{get_or_default}
use Rattle.unit_code.specs.declared.unit.Unit.TheVariants.{Skip}
use Rattle.unit_code.specs.declared.kinds.Piece.{Piece}
use Rattle.unit_code.specs.declared.kinds.Piece.TheVariants.{Whole, Aimed}
use Rattle.unit_code.specs.declared.items.Item.{Item}
use Rattle.unit_code.specs.Law.{CanPass, LeadsAstray}
use Rattle.unit_code.specs.Refusals.{is_group, leads, may_skip}
use Rattle.unit_code.specs.Targets.{AreFirstWords, number_of, number_reached, reached}
use Rattle.unit_code.proofs.Numbers.{number_of-at, number_of-none}

pub no_start : (places : List ℕ) (word : ℕ) → AreFirstWords places → number_of places word ≡ None → ¬ Contains places word
no_start places word first none (k, within, is) =
    let at : get_or places k 0 ≡ word = get_or_default places k 0 word within ∙ is in
    let some = number_of-at places word k first within at in
    cc

pub start_less : (places : List ℕ) (word : ℕ) → ¬ Contains places word → number_of places word ≡ None
start_less places word no_place =
    number_of-none places word (λ k within same. no_place (k, within, get_or_default places k word 0 within ∙ same))

none_there : (o : Option ℕ) → is_some o ≡ false → o ≡ None
none_there None h = refl
none_there (Some n) h = cc

cannot_pass : (behind : List Item) → may_skip behind ≡ false → ¬ CanPass behind
cannot_pass [] h p = p
cannot_pass (next ∷ []) h p = p
cannot_pass (next ∷ other ∷ behind) h p = let t : not (is_group next.standing) ≡ true = ap not p in cc

cannot_skip : (behind : List Item) → ¬ CanPass behind → may_skip behind ≡ false
cannot_skip [] h = refl
cannot_skip (next ∷ []) h = refl
cannot_skip (next ∷ other ∷ behind) h = elim (is_group next.standing) as (λ b. (b ≡ false → ⊥) → not b ≡ false) [ true ↦ λ f. refl | false ↦ λ f. absurd (f refl) ] h

pub astray_told : (places : List ℕ) (place : ℕ) (piece : Piece) (behind : List Item) → AreFirstWords places → leads piece place places behind ≡ false → LeadsAstray places place piece behind
astray_told places place (Aimed aim offset) behind first h = λ word is.
    let at : is_some (number_of places word) ≡ false = ap (λ o. is_some (number_reached places o)) (sym is) ∙ h in
    no_start places word first (none_there (number_of places word) at)
astray_told places place (Whole (Skip i)) behind first h = cannot_pass behind h
astray_told places place (Whole _) behind first h = cc

astray_at : (places : List ℕ) (o : Option ℕ) → ((word : ℕ) → o ≡ Some word → ¬ Contains places word) → is_some (number_reached places o) ≡ false
astray_at places None h = refl
astray_at places (Some word) h = ap is_some (start_less places word (h word refl))

pub astray_tested : (places : List ℕ) (place : ℕ) (piece : Piece) (behind : List Item) → LeadsAstray places place piece behind → leads piece place places behind ≡ false
astray_tested places place (Aimed aim offset) behind h = astray_at places (reached place offset) h
astray_tested places place (Whole (Skip i)) behind h = cannot_skip behind h
astray_tested places place (Whole _) behind h = absurd h
