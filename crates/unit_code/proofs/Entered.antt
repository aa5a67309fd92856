-- Where words are not refused, each unit has a place and each mark the number of a unit.
use Rattle.std.proofs.Common.{Bool, ◌≡◌, ℕ, suc, ◌<◌, List, [], ◌∷◌, length, cond, Option, Some, None, is_some, sym, refl, ap, subst}
use Rattle.std.specs.Prelude.{option_map}
use Rattle.std.specs.List.{AllByRecursion, cons_option, filter_map}
use Rattle.unit_code.specs.declared.error.CodeError.TheVariants.{Entry}
use Rattle.unit_code.specs.Items.{items_of}
use Rattle.unit_code.specs.Listing.{Listing, FitsTogether}
use Rattle.unit_code.specs.Refusals.{least_stray, lesser, stray_mark}
use Rattle.unit_code.specs.Sound.{AreSound}
use Rattle.unit_code.specs.Spelled.{AreEntered}
use Rattle.unit_code.specs.Targets.{number_of}
use Rattle.unit_code.specs.Units.{listed, places_of, refusal}
use Rattle.unit_code.proofs.Numbers.{number_of-some}
use Rattle.unit_code.proofs.ProperUnits.{no_refusal, same_count}

-- The marks have numbers, each of a unit.
record AreNumbers (places marks numbers : List ℕ) : Type 0 where
  as_many : length numbers ≡ length marks
  below : AllByRecursion (λ n. n < length places) numbers

lesser_is_some : (o : Option ℕ) (m : ℕ) → lesser o m ≡ None → ⊥
lesser_is_some None m e = absurd (cc)
lesser_is_some (Some w) m e = absurd (cc)

one_more : (places : List ℕ) (m : ℕ) (marks : List ℕ) (o : Option ℕ) → number_of places m ≡ o → cond (is_some o) (least_stray places marks) (lesser (least_stray places marks) m) ≡ None → (least_stray places marks ≡ None → AreNumbers places marks (filter_map (number_of places) marks)) → AreNumbers places (m ∷ marks) (cons_option o (filter_map (number_of places) marks))
one_more places m marks None is e rest = absurd (lesser_is_some (least_stray places marks) m e)
one_more places m marks (Some n) is e rest =
    let r = rest e in
    record { as_many = ap suc r.as_many; below = ((number_of-some places m n is).0, r.below) }

numbered : (places marks : List ℕ) → least_stray places marks ≡ None → AreNumbers places marks (filter_map (number_of places) marks)
numbered places [] e = record { as_many = refl; below = tt }
numbered places (m ∷ marks) e = one_more places m marks (number_of places m) refl e (numbered places marks)

none_stray : (o : Option ℕ) → option_map Entry o ≡ None → o ≡ None
none_stray None e = refl
none_stray (Some w) e = absurd (cc)

no_stray : (places marks : List ℕ) → stray_mark places marks ≡ None → least_stray places marks ≡ None
unfolding stray_mark
no_stray places marks e = none_stray (least_stray places marks) e

-- the marks are the first words of the units with their numbers
one_mark : (places : List ℕ) (m : ℕ) (marks : List ℕ) (o : Option ℕ) → number_of places m ≡ o → cond (is_some o) (least_stray places marks) (lesser (least_stray places marks) m) ≡ None → (least_stray places marks ≡ None → AreEntered places (filter_map (number_of places) marks) marks) → AreEntered places (cons_option o (filter_map (number_of places) marks)) (m ∷ marks)
one_mark places m marks None is e rest = absurd (lesser_is_some (least_stray places marks) m e)
one_mark places m marks (Some n) is e rest = let at = number_of-some places m n is in (at.0, at.1, rest e)

entered : (places marks : List ℕ) → least_stray places marks ≡ None → AreEntered places (filter_map (number_of places) marks) marks
entered places [] e = tt
entered places (m ∷ marks) e = one_mark places m marks (number_of places m) refl e (entered places marks)

pub marks_numbered : (places marks : List ℕ) → stray_mark places marks ≡ None → AreEntered places (filter_map (number_of places) marks) marks
marks_numbered places marks e = entered places marks (no_stray places marks e)

pub fits_together : (words marks : List ℕ) (sealed : Bool) (l : Listing) → refusal words marks sealed ≡ None → l ≡ listed words marks sealed → AreSound (items_of words) → FitsTogether l marks
unfolding listed
fits_together words marks sealed l h is sound =
    let numbers = numbered (places_of words) marks (no_stray (places_of words) marks (no_refusal words marks sealed h).2) in
    let count = same_count words marks sealed h sound in
    let P : Listing → Type 0 = λ x. FitsTogether x marks in
    let Q : ℕ → Type 0 = λ n. AllByRecursion (λ number. number < n) (filter_map (number_of (places_of words)) marks) in
    subst P (sym is) (record { placed = count; marked = numbers.as_many; entered = subst Q count numbers.below })
