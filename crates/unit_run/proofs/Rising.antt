-- Where the templates of a bank start.
use Rattle.std.proofs.Common.{◌≡◌, ◌∙◌, ℕ, zero, suc, ◌+◌, ◌≤◌, ◌<◌, Bool, true, false, List, [], ◌∷◌, length, get_or, Some, None, refl, sym, ap, subst, arith}
use Rattle.std.specs.Prelude.{slice_index}
use Rattle.std.proofs.lemmas.List.Sums.{sum_by-cons}
use Rattle.avr_isa.specs.declared.instruction.Instr.{Instr}
use Rattle.avr_isa.specs.Place.{second_word}
use Rattle.avr_isa.specs.Table.{word_count}
use Rattle.mote_layout.specs.Memory.{bank_words}
use Rattle.unit_code.specs.declared.unit.Unit.{Unit}
use Rattle.unit_code.specs.declared.unit.Unit.TheVariants.{Plain, Store, Load, SpGroup, Skip, Branch}
use Rattle.unit_code.specs.declared.unit.Shape.{Shape}
use Rattle.unit_code.specs.declared.unit.Shape.TheVariants.{Long, Short}
use Rattle.unit_code.specs.Ends.{long_length}
use Rattle.unit_code.specs.Lengths.{instruction_length, spelled_length}
use Rattle.unit_code.specs.Spelling.{Spells, starts_after}
use Rattle.unit_code.specs.Targets.{AreFirstWords}
use Rattle.domain_model.proofs.UnitLaws.{proper_fits}

-- A template has a word, and is the longest in its long shape.
abbrev IsBetween : Unit → Shape → Type 0
IsBetween u s = (0 < spelled_length u s) × (spelled_length u s ≤ spelled_length u Long)

some_words : (i : Instr) → 0 < instruction_length i
some_words i = elim (second_word i) as (λ o. 0 < word_count o) [ None ↦ omega arith | Some k ↦ omega arith ]

between : (u : Unit) (s : Shape) → IsBetween u s
between (Plain i) s = (some_words i, omega arith)
between (Store i) s = (omega arith, omega arith)
between (Load i) s = (omega arith, omega arith)
between (SpGroup true) s = (omega arith, omega arith)
between (SpGroup false) s = (omega arith, omega arith)
between (Skip i) Long = (omega arith, omega arith)
between (Skip i) Short = (omega arith, omega arith)
between (Branch set bit t) Long = (omega arith, omega arith)
between (Branch set bit t) Short = (omega arith, omega arith)
between other s = (omega arith, omega arith)

-- There are as many starts as units,
starts_count : (place : ℕ) (us : List Unit) (ss : List Shape) → length ss ≡ length us → length (starts_after place us ss) ≡ length us
starts_count place [] ss many = refl
starts_count place (u ∷ us) [] many = absurd (omega (arith, many))
starts_count place (u ∷ us) (s ∷ ss) many = ap suc (starts_count (place + spelled_length u s) us ss (omega (arith, many)))

-- none is before the first place,
from_place : (place i : ℕ) (us : List Unit) (ss : List Shape) → i < length (starts_after place us ss) → place ≤ get_or (starts_after place us ss) i 0
from_place place i [] ss within = absurd (omega (arith, within))
from_place place i (u ∷ us) [] within = absurd (omega (arith, within))
from_place place zero (u ∷ us) (s ∷ ss) within = omega arith
from_place place (suc i) (u ∷ us) (s ∷ ss) within = omega (arith, from_place (place + spelled_length u s) i us ss (omega (arith, within)))

-- each is behind the one before,
rising : (place i j : ℕ) (us : List Unit) (ss : List Shape) → i < j → j < length (starts_after place us ss) → get_or (starts_after place us ss) i 0 < get_or (starts_after place us ss) j 0
rising place i j [] ss less within = absurd (omega (arith, within))
rising place i j (u ∷ us) [] less within = absurd (omega (arith, within))
rising place i zero (u ∷ us) (s ∷ ss) less within = absurd (omega (arith, less))
rising place zero (suc j) (u ∷ us) (s ∷ ss) less within =
    omega (arith, between u s, from_place (place + spelled_length u s) j us ss (omega (arith, within)))
rising place (suc i) (suc j) (u ∷ us) (s ∷ ss) less within =
    rising (place + spelled_length u s) i j us ss (omega (arith, less)) (omega (arith, within))

-- and none is behind the end of the long spelling.
below_end : (place i bound : ℕ) (us : List Unit) (ss : List Shape) → place + long_length us ≤ bound → 0 < bound → get_or (starts_after place us ss) i 0 < bound
below_end place i bound [] ss ends some = omega (arith, some)
below_end place i bound (u ∷ us) [] ends some = omega (arith, some)
below_end place zero bound (u ∷ us) (s ∷ ss) ends some =
    omega (arith, ends, sum_by-cons (λ x. spelled_length x Long) u us, between u Long)
below_end place (suc i) bound (u ∷ us) (s ∷ ss) ends some =
    below_end (place + spelled_length u s) i bound us ss (omega (arith, ends, sum_by-cons (λ x. spelled_length x Long) u us, between u s)) some

module _ (words starts : List ℕ) (sealed : Bool) (us : List Unit) (h : Spells words [] sealed us starts) where
  pub spelled_count : length starts ≡ length us
  spelled_count = ap length h.lays.1.places ∙ starts_count 0 us h.lays.0 h.lays.1.shaped

  pub spelled_first : AreFirstWords starts
  spelled_first = record {
    rise = subst (λ (l : List ℕ). (i j : ℕ) → i < j → j < length l → slice_index l i < slice_index l j) (sym h.lays.1.places) (λ i j less within. rising 0 i j us h.lays.0 less within);
    few = omega (arith, spelled_count, proper_fits us h.proper);
  }

  pub spelled_low : (i : ℕ) → slice_index starts i < bank_words
  spelled_low i = subst (λ (l : List ℕ). slice_index l i < bank_words) (sym h.lays.1.places) (below_end 0 i bank_words us h.lays.0 (omega (arith, h.proper.fits)) (omega arith))
