-- The loop that sets the starts, by what is left of the units.
use Rattle.std.proofs.Common.{◌≡◌, ◌∙◌, ℕ, ◌+◌, ◌<◌, ◌≤◌, List, [], ◌∷◌, ◌++◌, length, get_or, take, drop, set, refl, sym, ap, ap₂, arith, append_assoc}
use Rattle.std.proofs.lemmas.List.{drop_more, length-set, append-nil, take_all, take_more_set, drop_all}
use Rattle.std.proofs.lemmas.List.Sums.{sum_by-cons}
use Rattle.mote_layout.specs.Memory.{bank_words}
use Rattle.unit_code.specs.declared.unit.Unit.{Unit}
use Rattle.unit_code.specs.declared.unit.Shape.{Shape}
use Rattle.unit_code.specs.declared.unit.Shape.TheVariants.{Long}
use Rattle.unit_code.specs.Ends.{long_length}
use Rattle.unit_code.specs.Lengths.{spelled_length}
use Rattle.unit_code.specs.Spelling.{starts_after, starts_of}
use Rattle.harbor_short.proofs.Shorter.{long_least}

pub record HasMeasured (us : List Unit) (ss : List Shape) (starts : List ℕ) (place i : ℕ) : Type 0 where
  pub placed : length starts ≡ length us
  pub joined : take i starts ++ starts_after place (drop i us) (drop i ss) ≡ starts_of us ss
  pub fits : place + long_length (drop i us) ≤ bank_words

pub here : {A : Type 0} (xs : List A) (x : A) (i : ℕ) → x ≡ get_or xs i x → i < length xs → drop i xs ≡ x ∷ drop (i + 1) xs
here xs x i e h = drop_more xs i x h ∙ ap (λ y. y ∷ drop (i + 1) xs) (sym e)

pub measured_first : (us : List Unit) (ss : List Shape) (starts : List ℕ) → length starts ≡ length us → long_length us ≤ bank_words → HasMeasured us ss starts 0 0
measured_first us ss starts e h = record { placed = e; joined = refl; fits = omega (arith, h) }

-- the words of a unit in either shape are there in the long spelling
pub room_left : (us : List Unit) (u : Unit) (s : Shape) (place i : ℕ) → u ≡ get_or us i u → i < length us → place + long_length (drop i us) ≤ bank_words → place + spelled_length u s + long_length (drop (i + 1) us) ≤ bank_words
room_left us u s place i at h fits =
    let e : long_length (drop i us) ≡ spelled_length u Long + long_length (drop (i + 1) us) = ap long_length (here us u i at h) ∙ sum_by-cons (λ (v : Unit). spelled_length v Long) u (drop (i + 1) us) in
    omega (arith, e, fits, long_least u s)

pub measured_next : (us : List Unit) (ss : List Shape) (starts : List ℕ) (u : Unit) (s : Shape) (place i : ℕ) → u ≡ get_or us i u → s ≡ get_or ss i s → i < length us → length ss ≡ length us → HasMeasured us ss starts place i → HasMeasured us ss (set starts i place) (place + spelled_length u s) (i + 1)
measured_next us ss starts u s place i at shape h e was = record {
  placed = length-set starts i place ∙ was.placed;
  joined =
      let inside : i < length starts = omega (arith, h, was.placed) in
      let within : i < length ss = omega (arith, h, e) in
      ap (λ (l : List ℕ). l ++ starts_after (place + spelled_length u s) (drop (i + 1) us) (drop (i + 1) ss)) (take_more_set starts i place inside)
      ∙ append_assoc (take i starts) (place ∷ []) (starts_after (place + spelled_length u s) (drop (i + 1) us) (drop (i + 1) ss))
      ∙ ap (λ (l : List ℕ). take i starts ++ l) (sym (ap₂ (λ (xs : List Unit) (ys : List Shape). starts_after place xs ys) (here us u i at h) (here ss s i shape within)))
      ∙ was.joined;
  fits = room_left us u s place i at h was.fits;
}

pub measured_all : (us : List Unit) (ss : List Shape) (starts : List ℕ) (place i : ℕ) → i ≡ length us → HasMeasured us ss starts place i → starts ≡ starts_of us ss
measured_all us ss starts place i e was =
    let none : drop i us ≡ [] = drop_all i us (omega (arith, e)) in
    sym (take_all i starts (omega (arith, e, was.placed)))
    ∙ sym (append-nil (take i starts))
    ∙ ap (λ (l : List ℕ). take i starts ++ l) (sym (ap (λ (xs : List Unit). starts_after place xs (drop i ss)) none))
    ∙ was.joined
