-- What a cut of a text at a byte makes of its lines and words.
use Rattle.std.specs.Prelude.{ℕ, ◌≡◌, ◌≢◌, ◌<◌, ◌++◌, ◌==◌, true, false, List, [], ◌∷◌, length}
use Rattle.std.proofs.Common.{refl, ap, ◌∙◌, arith, suc, length-append}
use Rattle.event_script.specs.Cut.{Lacks, IsCut}
use Rattle.event_script.specs.Lines.{onto_line, lines_of}
use Rattle.mote_base.specs.Spaced.{onto_word, words_of}

differs : (m n : ℕ) → m ≢ n → (m == n) ≡ false
differs m n h = grind arith

others : (byte x : ℕ) (xs : List ℕ) → Lacks byte (x ∷ xs) → Lacks byte xs
others byte x xs h = λ k p. h (suc k) (omega arith)

head : (byte x : ℕ) (xs : List ℕ) → Lacks byte (x ∷ xs) → (x == byte) ≡ false
head byte x xs h = differs x byte (h 0 (omega arith))

-- The lines of a text are its first line and the lines behind it.
pub lines_of-front : (front back : List ℕ) → Lacks 10 front → lines_of (front ++ (10 ∷ back)) ≡ record { bytes = front; ended = true } ∷ lines_of back
lines_of-front [] back h = refl
lines_of-front (x ∷ xs) back h = rw (head 10 x xs h) (ap (onto_line x) (lines_of-front xs back (others 10 x xs h)))

pub lines_of-cut : (text line back : List ℕ) → IsCut 10 text line back → lines_of text ≡ record { bytes = line; ended = true } ∷ lines_of back
lines_of-cut text line back h = ap lines_of h.whole ∙ lines_of-front line back h.first

-- A text that has no line feed is a line without its end.
pub lines_of-unended : (text : List ℕ) → Lacks 10 text → 0 < length text → lines_of text ≡ record { bytes = text; ended = false } ∷ []
lines_of-unended [] h p = absurd (omega arith)
lines_of-unended (x ∷ []) h p = rw (head 10 x [] h) refl
lines_of-unended (x ∷ y ∷ ys) h p = rw (head 10 x (y ∷ ys) h) (ap (onto_line x) (lines_of-unended (y ∷ ys) (others 10 x (y ∷ ys) h) (omega arith)))

-- The words of a line are its first word and the words behind it.
pub words_of-front : (front back : List ℕ) → Lacks 32 front → words_of (front ++ (32 ∷ back)) ≡ front ∷ words_of back
words_of-front [] back h = refl
words_of-front (x ∷ xs) back h = rw (head 32 x xs h) (ap (onto_word x) (words_of-front xs back (others 32 x xs h)))

pub words_behind_cut : (text word back : List ℕ) → IsCut 32 text word back → words_of text ≡ word ∷ words_of back
words_behind_cut text word back h = ap words_of h.whole ∙ words_of-front word back h.first

pub one_word_alone : (text : List ℕ) → Lacks 32 text → words_of text ≡ text ∷ []
one_word_alone [] h = refl
one_word_alone (x ∷ xs) h = rw (head 32 x xs h) (ap (onto_word x) (one_word_alone xs (others 32 x xs h)))

-- The back of a cut is shorter than the text.
pub back_is_shorter : (byte : ℕ) (text front back : List ℕ) → IsCut byte text front back → length back < length text
back_is_shorter byte text front back h = omega (arith, ap length h.whole, length-append front (byte ∷ back))
