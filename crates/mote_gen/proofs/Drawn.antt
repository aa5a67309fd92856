-- The numbers behind one of a seed's are those of the list from its place on.
use Rattle.std.proofs.Common.{◌≡◌, ℕ, zero, suc, ◌+◌, ◌<◌, refl, sym, ap, ◌∙◌, arith, get_or}
use Rattle.std.proofs.lemmas.List.FromFn.{get_or-map-range_with_len}
use Rattle.mote_gen.specs.Numbers.{behind, draw_count, first_numbers, from, next, number, numbers_of}

-- places are counted on from any number
pub number-number : (seed start place : ℕ) → number (number seed start) place ≡ number seed (start + place)
unfolding number
number-number seed start zero = ap (number seed) (omega arith)
number-number seed start (suc place) =
    ap next (number-number seed start place) ∙ ap (number seed) (let at : suc (start + place) ≡ start + suc place = omega arith in at)

pub get_or-first_numbers : (seed count place : ℕ) → place < count → get_or (first_numbers seed count) place 0 ≡ number seed (place + 1)
unfolding first_numbers
get_or-first_numbers seed count place lt = get_or-map-range_with_len (number seed) 1 count place (place + 1) 0 lt (omega arith)

pub from-numbers_of : (seed start place : ℕ) → start + place < draw_count
    → behind (number seed start) place ≡ from (numbers_of seed) start place
from-numbers_of seed start place lt =
    number-number seed start (place + 1)
    ∙ (ap (number seed) (let at : start + (place + 1) ≡ start + place + 1 = omega arith in at)
    ∙ sym (get_or-first_numbers seed draw_count (start + place) lt))

pub number-zero : (seed : ℕ) → number seed 0 ≡ seed
unfolding number
number-zero seed = refl

pub number-next : (seed last place now : ℕ) → last ≡ number seed place → now ≡ next last → now ≡ number seed (place + 1)
unfolding number
number-next seed last place now at is =
    is ∙ (ap next at ∙ ap (number seed) (let one : suc place ≡ place + 1 = omega arith in one))

-- The number that comes behind one is the one behind its place.
pub number_later : (seed last place more now : ℕ) → last ≡ number seed place → now ≡ number last more → now ≡ number seed (place + more)
number_later seed last place more now at is = is ∙ (ap (λ n. number n more) at ∙ number-number seed place more)
