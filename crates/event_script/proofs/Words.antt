-- Events with a word too many are none.
use Rattle.std.specs.Prelude.{ℕ, ◌≡◌, ◌<◌, ◌==◌, true, false, List, [], ◌∷◌, length, None}
use Rattle.std.proofs.Common.{refl, ap, ◌∙◌, arith, cond}
use Rattle.mote_base.specs.Spaced.{onto_word, words_of}
use Rattle.event_script.specs.Events.{load_of, unload_of, radio_of, dump_of}

onto_word-some : (byte : ℕ) (words : List (List ℕ)) → 0 < length (onto_word byte words)
onto_word-some byte [] = omega arith
onto_word-some byte (word ∷ words) = omega arith

-- Even an empty text has a word.
pub some_words : (text : List ℕ) → 0 < length (words_of text)
some_words [] = omega arith
some_words (x ∷ xs) = elim (x == 32) as (λ b. 0 < length (cond b ([] ∷ words_of xs) (onto_word x (words_of xs)))) [ true ↦ omega arith | false ↦ onto_word-some x (words_of xs) ]

load_two : (word : List ℕ) (words : List (List ℕ)) → 0 < length words → load_of (word ∷ words) ≡ None
load_two word [] p = absurd (omega arith)
load_two word (x ∷ xs) p = refl

unload_two : (word : List ℕ) (words : List (List ℕ)) → 0 < length words → unload_of (word ∷ words) ≡ None
unload_two word [] p = absurd (omega arith)
unload_two word (x ∷ xs) p = refl

radio_four : (a b c : List ℕ) (words : List (List ℕ)) → 0 < length words → radio_of (a ∷ b ∷ c ∷ words) ≡ None
radio_four a b c [] p = absurd (omega arith)
radio_four a b c (x ∷ xs) p = refl

dump_one : (words : List (List ℕ)) → 0 < length words → dump_of words ≡ None
dump_one [] p = absurd (omega arith)
dump_one (x ∷ xs) p = refl

pub more_than_load : (text word rest : List ℕ) → words_of text ≡ word ∷ words_of rest → load_of (words_of text) ≡ None
more_than_load text word rest is = ap load_of is ∙ load_two word (words_of rest) (some_words rest)

pub more_than_unload : (text word rest : List ℕ) → words_of text ≡ word ∷ words_of rest → unload_of (words_of text) ≡ None
more_than_unload text word rest is = ap unload_of is ∙ unload_two word (words_of rest) (some_words rest)

pub more_than_radio : (text a first b second c rest : List ℕ) → words_of text ≡ a ∷ words_of first → words_of first ≡ b ∷ words_of second → words_of second ≡ c ∷ words_of rest → radio_of (words_of text) ≡ None
more_than_radio text a first b second c rest one two three =
    ap radio_of (one ∙ ap (λ ws. a ∷ ws) (two ∙ ap (λ ws. b ∷ ws) three)) ∙ radio_four a b c (words_of rest) (some_words rest)

pub more_than_dump : (text : List ℕ) → dump_of (words_of text) ≡ None
more_than_dump text = dump_one (words_of text) (some_words text)
