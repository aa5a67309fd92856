-- The words that bytes make, by their number and by their places.
use Rattle.std.proofs.Common.{◌≡◌, ℕ, zero, suc, ◌+◌, ◌*◌, ◌/◌, ◌<◌, List, [], ◌∷◌, length, get_or, refl, arith}
use Rattle.mote_base.specs.Words.{words_of, AreWords}

pub length-words_of : (bytes : List ℕ) → length (words_of bytes) ≡ length bytes / 2
length-words_of [] = refl
length-words_of (low ∷ []) = refl
length-words_of (low ∷ high ∷ rest) = omega (arith, length-words_of rest)

pub get_or-words_of : (bytes : List ℕ) (i : ℕ) → i < length (words_of bytes) → get_or (words_of bytes) i 0 ≡ get_or bytes (2 * i) 0 + 256 * get_or bytes (2 * i + 1) 0
get_or-words_of [] i below = absurd (omega arith)
get_or-words_of (low ∷ []) i below = absurd (omega arith)
get_or-words_of (low ∷ high ∷ rest) zero below = refl
get_or-words_of (low ∷ high ∷ rest) (suc i) below =
    let first : 2 * suc i ≡ suc (suc (2 * i)) = omega arith in
    let second : 2 * suc i + 1 ≡ suc (suc (2 * i + 1)) = omega arith in
    let less : i < length (words_of rest) = omega arith in
    rw (second, first) (get_or-words_of rest i less)

-- two bytes make a word
pub words_fit : (bytes : List ℕ) → ((i : ℕ) → get_or bytes i 0 < 256) → AreWords (words_of bytes)
words_fit [] fits = tt
words_fit (low ∷ []) fits = tt
words_fit (low ∷ high ∷ rest) fits = (omega (arith, fits 0, fits 1), words_fit rest (λ i. fits (suc (suc i))))
