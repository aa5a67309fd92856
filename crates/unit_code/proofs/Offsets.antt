-- Offsets and the words that they lead to.
use Rattle.std.proofs.Common.{◌≡◌, ◌∙◌, ℕ, ◌+◌, ◌-◌, ◌<◌, ◌≤◌, ℤ, pos, negsuc, ltb, leb, true, Option, Some, None, is_some, List, length, get_or, refl, sym, ap, inl, inr, arith}
use Rattle.std.proofs.lemmas.Bool.{cases_lt, cond-true, cond-false, le-leb, le-ltb, lt-leb, lt-ltb}
use Rattle.std.proofs.lemmas.Option.{none-some, same_Some}
use Rattle.unit_code.specs.Spelled.{offset_to}
use Rattle.unit_code.specs.Targets.{number_of, number_reached, reached}
use Rattle.unit_code.proofs.Numbers.{number_of-some}

forward : (place word : ℕ) → place < word → offset_to place word ≡ pos (word - place - 1)
forward place word less = cond-true (ltb place word) (pos (word - place - 1)) (negsuc (place - word)) (lt-ltb place word less)

backward : (place word : ℕ) → word ≤ place → offset_to place word ≡ negsuc (place - word)
backward place word past = cond-false (ltb place word) (pos (word - place - 1)) (negsuc (place - word)) (le-ltb place word past)

-- the offset leads to the word
pub reached-offset_to : (place word : ℕ) → reached place (offset_to place word) ≡ Some word
unfolding reached
reached-offset_to place word =
    elim (cases_lt place word) [
      | inl less ↦ ap (reached place) (forward place word less) ∙ ap Some (omega arith)
      | inr past ↦
          ap (reached place) (backward place word past)
          ∙ cond-true (leb (place - word) place) (Some (place - (place - word))) None (le-leb (place - word) place (omega arith))
          ∙ ap Some (omega arith)
    ]

-- and it is the only one that does
pub offset_to-reached : (place : ℕ) (offset : ℤ) (word : ℕ) → reached place offset ≡ Some word → offset_to place word ≡ offset
unfolding reached
offset_to-reached place (pos k) word is =
    let same : place + 1 + k ≡ word = same_Some (place + 1 + k) word is in
    forward place word (omega (arith, same)) ∙ ap pos (omega (arith, same))
offset_to-reached place (negsuc k) word is =
    elim (cases_lt place k) [
      | inl less ↦ absurd (none-some word (sym (cond-false (leb k place) (Some (place - k)) None (lt-leb k place less)) ∙ is))
      | inr past ↦
          let same : place - k ≡ word = same_Some (place - k) word (sym (cond-true (leb k place) (Some (place - k)) None (le-leb k place past)) ∙ is) in
          backward place word (omega (arith, same)) ∙ ap negsuc (omega (arith, same, past))
    ]

-- the word behind the place is reached by 0
pub next_is_zero : (place : ℕ) → offset_to place (place + 1) ≡ pos 0
next_is_zero place = forward place (place + 1) (omega arith) ∙ ap pos (omega arith)

-- What is known where an offset leads to a unit.
pub record LeadsTo (firsts : List ℕ) (place : ℕ) (offset : ℤ) : Type 0 where
  pub number : ℕ
  pub is : number_reached firsts (reached place offset) ≡ Some number
  pub below : number < length firsts
  pub offset_is : offset_to place (get_or firsts number 0) ≡ offset

of_word : (firsts : List ℕ) (place : ℕ) (offset : ℤ) (word : ℕ) (o : Option ℕ) → reached place offset ≡ Some word → number_of firsts word ≡ o → is_some o ≡ true → LeadsTo firsts place offset
of_word firsts place offset word None there is some = cc
of_word firsts place offset word (Some n) there is some =
    let at = number_of-some firsts word n is in
    record {
      number = n;
      is = ap (number_reached firsts) there ∙ is;
      below = at.0;
      offset_is = ap (offset_to place) at.1 ∙ offset_to-reached place offset word there;
    }

pub leads_to : (firsts : List ℕ) (place : ℕ) (offset : ℤ) (o : Option ℕ) → reached place offset ≡ o → is_some (number_reached firsts o) ≡ true → LeadsTo firsts place offset
leads_to firsts place offset None there some = cc
leads_to firsts place offset (Some word) there some = of_word firsts place offset word (number_of firsts word) there refl some
