-- The places of items rise, and there are no more than words.
use Rattle.std.proofs.Common.{◌≡◌, ◌∙◌, ℕ, zero, suc, ◌+◌, ◌<◌, ◌≤◌, List, [], ◌∷◌, length, get_or, drop, map, sym, ap, subst, arith}
use Rattle.std.proofs.Math.ListN.{length-map}
use Rattle.unit_code.specs.declared.items.Item.{Item}
use Rattle.unit_code.specs.Items.{found, items_from, items_of, next_word}
use Rattle.unit_code.specs.Targets.{AreFirstWords}

abbrev pub places_in : List Item → List ℕ
places_in items = map (λ item. item.place) items

record Rising (low : ℕ) (places : List ℕ) : Type 0 where
  above : (k : ℕ) → k < length places → low ≤ get_or places k 0
  rise : (i j : ℕ) → i < j → j < length places → get_or places i 0 < get_or places j 0

none : (low : ℕ) → Rising low []
none low = record { above = λ k within. absurd (omega (arith, within)); rise = λ i j below within. absurd (omega (arith, within)) }

above_more : (low : ℕ) (places : List ℕ) → Rising (low + 1) places → (k : ℕ) → k < length (low ∷ places) → low ≤ get_or (low ∷ places) k 0
above_more low places rising zero within = omega arith
above_more low places rising (suc k) within = let more : low + 1 ≤ get_or places k 0 = rising.above k (omega (arith, within)) in omega (arith, more)

rise_more : (low : ℕ) (places : List ℕ) → Rising (low + 1) places → (i j : ℕ) → i < j → j < length (low ∷ places) → get_or (low ∷ places) i 0 < get_or (low ∷ places) j 0
rise_more low places rising i zero below within = absurd (omega (arith, below))
rise_more low places rising zero (suc j) below within = let more : low + 1 ≤ get_or places j 0 = rising.above j (omega (arith, within)) in omega (arith, more)
rise_more low places rising (suc i) (suc j) below within = rising.rise i j (omega (arith, below)) (omega (arith, within))

one_more : (low : ℕ) (places : List ℕ) → Rising (low + 1) places → Rising low (low ∷ places)
one_more low places rising = record { above = above_more low places rising; rise = rise_more low places rising }

lower : (low : ℕ) (places : List ℕ) → Rising (low + 1) places → Rising low places
lower low places rising = record { above = λ k within. let more : low + 1 ≤ get_or places k 0 = rising.above k within in omega (arith, more); rise = rising.rise }

rising : (over place : ℕ) (words : List ℕ) → Rising place (places_in (items_from over place words))
rising over place [] = none place
rising zero place (w ∷ ws) = one_more place _ (rising ((found w (next_word ws) (next_word (drop 1 ws))).1) (place + 1) ws)
rising (suc over) place (w ∷ ws) = lower place _ (rising over (place + 1) ws)

few : (over place : ℕ) (words : List ℕ) → length (items_from over place words) ≤ length words
few over place [] = omega arith
few zero place (w ∷ ws) = let behind = few ((found w (next_word ws) (next_word (drop 1 ws))).1) (place + 1) ws in omega (arith, behind)
few (suc over) place (w ∷ ws) = let behind = few over (place + 1) ws in omega (arith, behind)

pub places_rise : (words : List ℕ) (i j : ℕ) → i < j → j < length (places_in (items_of words)) → get_or (places_in (items_of words)) i 0 < get_or (places_in (items_of words)) j 0
places_rise words = (rising 0 0 words).rise

pub few_items : (words : List ℕ) → length (items_of words) ≤ length words
few_items words = few 0 0 words

-- the places of the words' items
pub places_are_first_words : (words : List ℕ) → length words ≤ 65535 → AreFirstWords (places_in (items_of words))
places_are_first_words words small = record {
  rise = (rising 0 0 words).rise;
  few = let same : length (places_in (items_of words)) ≡ length (items_of words) = length-map (items_of words) (λ item. item.place) in
      let less : length (items_of words) ≤ length words = few 0 0 words in omega (arith, same, less);
}

-- the same, of lists that are equal to them
pub these_are_first_words : (words places : List ℕ) (items : List Item) → length words ≤ 65535 → items ≡ items_of words → places ≡ places_in items → AreFirstWords places
these_are_first_words words places items small read told =
    let whole : places_in (items_of words) ≡ places = ap places_in (sym read) ∙ sym told in
    let P : List ℕ → Type 0 = AreFirstWords in
    subst P whole (places_are_first_words words small)
