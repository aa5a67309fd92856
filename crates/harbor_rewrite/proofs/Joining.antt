-- The loop that joins templates, by what is left of the units, and how many words they have.
use Rattle.std.proofs.Common.{◌≡◌, ◌∙◌, ℕ, zero, suc, ◌+◌, ◌<◌, ◌≤◌, List, [], ◌∷◌, ◌++◌, length, drop, Some, refl, sym, ap, ap₂, subst, arith, append_assoc, slice_get}
use Rattle.std.specs.List.{AllByRecursion, flat_map}
use Rattle.std.proofs.lemmas.List.{append-nil, drop_all, length-drop}
use Rattle.std.proofs.lemmas.List.Sums.{sum_by-cons}
use Rattle.avr_isa.specs.declared.instruction.Instr.{Instr}
use Rattle.unit_code.specs.declared.unit.Unit.{Unit}
use Rattle.unit_code.specs.declared.unit.Shape.{Shape}
use Rattle.unit_code.specs.declared.unit.Shape.TheVariants.{Long}
use Rattle.unit_code.specs.Beside.{AreWordsOf, words_in}
use Rattle.unit_code.specs.Ends.{long_length}
use Rattle.unit_code.specs.Lengths.{instruction_length, spelled_length}
use Rattle.unit_code.specs.Proper.{IsOfKind}
use Rattle.unit_code.specs.Spelling.{AreShapesOf, AreTemplatesOf, form_of, forms_from, start_of, starts_of}
use Rattle.unit_code.specs.Templates.{template}
use Rattle.harbor_spell.proofs.Added.{words_more}
use Rattle.harbor_spell.proofs.Lengths.{form_length}
use Rattle.harbor_spell.proofs.Joined.{words_joined}
use Rattle.harbor_spell.proofs.Placed.{same_count, spelled-least}

-- the instructions of the templates from the i-th on
abbrev pub instructions_from : List ℕ → ℕ → List Unit → List Shape → List Instr
instructions_from starts i us ss = flat_map template (forms_from starts i us ss)

-- what is joined so far, with the words of what is left, is the whole
pub record HaveJoined (us : List Unit) (ss : List Shape) (starts words : List ℕ) (i : ℕ) : Type 0 where
  pub rest : (ws : List ℕ) → AreWordsOf (instructions_from starts i (drop i us) (drop i ss)) ws → AreWordsOf (instructions_from starts 0 us ss) (words ++ ws)

pub joined_first : (us : List Unit) (ss : List Shape) (starts : List ℕ) → HaveJoined us ss starts [] 0
joined_first us ss starts = record { rest = λ ws h. h }

found_at : {A : Type 0} (xs : List A) (i : ℕ) → i < length xs → (x : A) × (slice_get xs i ≡ Some x) × (drop i xs ≡ x ∷ drop (suc i) xs)
found_at [] i h = absurd (omega (arith, h))
found_at (x ∷ xs) zero h = (x, refl, refl)
found_at (x ∷ xs) (suc i) h = found_at xs i (omega (arith, h))

pub joined_next : (us : List Unit) (ss : List Shape) (starts words new t : List ℕ) (i : ℕ) → AreShapesOf us ss → starts ≡ starts_of us ss → i < length us
    → ((u : Unit) (s : Shape) → slice_get us i ≡ Some u → slice_get ss i ≡ Some s → AreWordsOf (template (form_of starts i (start_of starts i) u s)) t)
    → new ≡ words ++ t → HaveJoined us ss starts words i → HaveJoined us ss starts new (i + 1)
joined_next us ss starts words new t i shapes e h spelled at was =
    let many : length ss ≡ length us = same_count (starts_of us ss) 0 us ss shapes in
    let unit = found_at us i h in
    let shape = found_at ss i (omega (arith, h, many)) in
    let more : suc i ≡ i + 1 = omega arith in
    let us_is : drop i us ≡ unit.0 ∷ drop (i + 1) us = unit.2 ∙ ap (λ k. unit.0 ∷ drop k us) more in
    let ss_is : drop i ss ≡ shape.0 ∷ drop (i + 1) ss = shape.2 ∙ ap (λ k. shape.0 ∷ drop k ss) more in
    record {
      rest = λ ws k.
          let P : List Instr → Type 0 = λ is. AreWordsOf is (t ++ ws) in
          let Q : List ℕ → Type 0 = λ l. AreWordsOf (instructions_from starts 0 us ss) l in
          let first = spelled unit.0 shape.0 unit.1 shape.1 in
          let both = words_joined (template (form_of starts i (start_of starts i) unit.0 shape.0)) (instructions_from starts (i + 1) (drop (i + 1) us) (drop (i + 1) ss)) t ws first k in
          let here : AreWordsOf (instructions_from starts i (drop i us) (drop i ss)) (t ++ ws) =
          subst P (sym (ap₂ (λ (xs : List Unit) (ys : List Shape). instructions_from starts i xs ys) us_is ss_is)) both in
          subst Q (sym (append_assoc words t ws) ∙ ap (λ (l : List ℕ). l ++ ws) (sym at)) (was.rest (t ++ ws) here);
    }

pub joined_all : (us : List Unit) (ss : List Shape) (starts words : List ℕ) (i : ℕ) → starts ≡ starts_of us ss → i ≡ length us → HaveJoined us ss starts words i → AreTemplatesOf us ss words
joined_all us ss starts words i e end was =
    let none : drop i us ≡ [] = drop_all i us (omega (arith, end)) in
    let P : List Unit → Type 0 = λ xs. AreWordsOf (instructions_from starts i xs (drop i ss)) [] in
    let Q : List ℕ → Type 0 = λ l. AreWordsOf (instructions_from starts 0 us ss) l in
    let R : List ℕ → Type 0 = λ l. AreWordsOf (instructions_from l 0 us ss) words in
    record {
      instructions = instructions_from (starts_of us ss) 0 us ss;
      spelled = subst R e (subst Q (append-nil words) (was.rest [] (subst P (sym none) refl)));
      templates = refl;
    }

at_most : (is : List Instr) (ws : List ℕ) → AreWordsOf is ws → length ws ≤ words_in is
at_most [] ws h = omega (arith, ap length h)
at_most (i ∷ is) [] h = absurd h
at_most (i ∷ is) (w ∷ ws) h =
    let n = instruction_length i in
    omega (arith, at_most is (drop n (w ∷ ws)) h.1, length-drop n (w ∷ ws))

forms_within : (starts : List ℕ) (i : ℕ) (us : List Unit) (ss : List Shape) → AllByRecursion IsOfKind us → words_in (instructions_from starts i us ss) ≤ long_length us
forms_within starts i [] ss kinds = omega arith
forms_within starts i (u ∷ us) [] kinds = omega arith
forms_within starts i (u ∷ us) (s ∷ ss) kinds =
    let f = form_of starts i (start_of starts i) u s in
    let sum : long_length (u ∷ us) ≡ spelled_length u Long + long_length us = sum_by-cons (λ (v : Unit). spelled_length v Long) u us in
    omega (arith, words_more (template f) (instructions_from starts (i + 1) us ss), form_length starts i (start_of starts i) u s kinds.0, spelled-least u s, forms_within starts (i + 1) us ss kinds.1, sum)

pub templates_within : (us : List Unit) (ss : List Shape) (words : List ℕ) → AllByRecursion IsOfKind us → AreTemplatesOf us ss words → length words ≤ long_length us
templates_within us ss words kinds h =
    let P : List Instr → Type 0 = λ is. length words ≤ words_in is in
    let least : length words ≤ words_in (instructions_from (starts_of us ss) 0 us ss) = subst P h.templates (at_most h.instructions words h.spelled) in
    omega (arith, least, forms_within (starts_of us ss) 0 us ss kinds)
