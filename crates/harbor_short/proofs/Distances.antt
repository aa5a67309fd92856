-- Distances between starts, as numbers of words.
use Rattle.std.proofs.Common.{◌≡◌, ℕ, zero, suc, ◌+◌, ◌<◌, ◌≤◌, List, [], ◌∷◌, length, get_or, refl, ap, arith}
use Rattle.unit_code.specs.declared.unit.Unit.{Unit}
use Rattle.unit_code.specs.declared.unit.Shape.{Shape}
use Rattle.unit_code.specs.Lengths.{spelled_length}
use Rattle.unit_code.specs.Spelling.{start_of, starts_after, starts_of}
use Rattle.harbor_short.specs.Laws.{DistancesStay}
use Rattle.harbor_short.specs.Rounds.{IsRound}
use Rattle.harbor_short.proofs.Shorter.{AreShorter, fewer_words, turned_length, turned_shorter}

-- how many words stand before the j-th unit
abbrev pub words_before : List Unit → List Shape → ℕ → ℕ
words_before us ss zero = 0
words_before [] ss (suc j) = 0
words_before (u ∷ us) [] (suc j) = 0
words_before (u ∷ us) (s ∷ ss) (suc j) = spelled_length u s + words_before us ss j

pub start_after-is : (us : List Unit) (ss : List Shape) (place j : ℕ) → length ss ≡ length us → j < length us → get_or (starts_after place us ss) j 0 ≡ place + words_before us ss j
start_after-is [] ss place j e h = absurd (omega (arith, h))
start_after-is (u ∷ us) [] place j e h = absurd (omega (arith, e))
start_after-is (u ∷ us) (s ∷ ss) place zero e h = omega arith
start_after-is (u ∷ us) (s ∷ ss) place (suc j) e h = omega (arith, start_after-is us ss (place + spelled_length u s) j (omega (arith, e)) (omega (arith, h)))

pub start_is : (us : List Unit) (ss : List Shape) (j : ℕ) → length ss ≡ length us → j < length us → start_of (starts_of us ss) j ≡ words_before us ss j
start_is us ss j e h = omega (arith, start_after-is us ss 0 j e h)

pub starts_after-length : (us : List Unit) (ss : List Shape) (place : ℕ) → length ss ≡ length us → length (starts_after place us ss) ≡ length us
starts_after-length [] ss place e = refl
starts_after-length (u ∷ us) [] place e = absurd (omega (arith, e))
starts_after-length (u ∷ us) (s ∷ ss) place e = ap suc (starts_after-length us ss (place + spelled_length u s) (omega (arith, e)))

pub words_rise : (us : List Unit) (ss : List Shape) (i j : ℕ) → i ≤ j → words_before us ss i ≤ words_before us ss j
words_rise us ss zero j h = omega arith
words_rise us ss (suc i) zero h = absurd (omega (arith, h))
words_rise [] ss (suc i) (suc j) h = omega arith
words_rise (u ∷ us) [] (suc i) (suc j) h = omega arith
words_rise (u ∷ us) (s ∷ ss) (suc i) (suc j) h = omega (arith, words_rise us ss i j (omega (arith, h)))

words_less : (us : List Unit) (ss ts : List Shape) (j : ℕ) → AreShorter ss ts → words_before us ts j ≤ words_before us ss j
words_less us ss ts zero h = omega arith
words_less [] ss ts (suc j) h = omega arith
words_less (u ∷ us) [] [] (suc j) h = omega arith
words_less (u ∷ us) [] (t ∷ ts) (suc j) h = absurd h
words_less (u ∷ us) (s ∷ ss) [] (suc j) h = absurd h
words_less (u ∷ us) (s ∷ ss) (t ∷ ts) (suc j) h = omega (arith, words_less us ss ts j h.1, fewer_words u s t h.0)

pub words_between : (us : List Unit) (ss ts : List Shape) (i j : ℕ) → AreShorter ss ts → i ≤ j → words_before us ts j + words_before us ss i ≤ words_before us ss j + words_before us ts i
words_between us ss ts zero j h order = omega (arith, words_less us ss ts j h)
words_between us ss ts (suc i) zero h order = absurd (omega (arith, order))
words_between [] ss ts (suc i) (suc j) h order = omega arith
words_between (u ∷ us) [] [] (suc i) (suc j) h order = omega arith
words_between (u ∷ us) [] (t ∷ ts) (suc i) (suc j) h order = absurd h
words_between (u ∷ us) (s ∷ ss) [] (suc i) (suc j) h order = absurd h
words_between (u ∷ us) (s ∷ ss) (t ∷ ts) (suc i) (suc j) h order = omega (arith, words_between us ss ts i j h.1 (omega (arith, order)))

pub distances_stay : (us : List Unit) (ss ts : List Shape) → IsRound us ss ts → DistancesStay us ss ts
distances_stay us ss ts h i j order inside =
    let shorter : AreShorter ss ts = turned_shorter (starts_of us ss) 0 us ss ts h in
    let lengths : (length ss ≡ length us) × (length ts ≡ length us) = turned_length (starts_of us ss) 0 us ss ts h in
    let before : i < length us = omega (arith, order, inside) in
    let a : start_of (starts_of us ts) j ≡ words_before us ts j = start_is us ts j lengths.1 inside in
    let b : start_of (starts_of us ss) i ≡ words_before us ss i = start_is us ss i lengths.0 before in
    let c : start_of (starts_of us ss) j ≡ words_before us ss j = start_is us ss j lengths.0 inside in
    let d : start_of (starts_of us ts) i ≡ words_before us ts i = start_is us ts i lengths.1 before in
    let between : words_before us ts j + words_before us ss i ≤ words_before us ss j + words_before us ts i = words_between us ss ts i j shorter order in
    omega (arith, a, b, c, d, between)

pub starts_rise : (us : List Unit) (ss : List Shape) (i j : ℕ) → length ss ≡ length us → i ≤ j → j < length us → start_of (starts_of us ss) i ≤ start_of (starts_of us ss) j
starts_rise us ss i j e order inside =
    let a : start_of (starts_of us ss) i ≡ words_before us ss i = start_is us ss i e (omega (arith, order, inside)) in
    let b : start_of (starts_of us ss) j ≡ words_before us ss j = start_is us ss j e inside in
    omega (arith, a, b, words_rise us ss i j order)
