-- The clauses of `encode` from the row that its words have.
use Rattle.std.proofs.Common.{◌≡◌, ℕ, Option, Some, None, Ok, sym, ap₂, ◌∙◌, refl}
use Rattle.avr_isa.specs.Table.{Row, word_count}
use Rattle.avr_isa.specs.Decoded.{decoded}
use Rattle.avr_isa.specs.Laws.{AreWords, kept}
use Rattle.avr_isa.specs.declared.instruction.Instr.{Instr}
use Rattle.avr_isa.proofs.Exact.{decoded-row}
use Rattle.avr_isa.proofs.Unique.{words_are_unique}

pub decoded_words : (words : ℕ × Option ℕ) (i : Instr) → Row words.0 words.1 i (word_count words.1) → decoded words.0 words.1 ≡ Ok (i, word_count words.1)
decoded_words words i row = decoded-row words.0 words.1 i (word_count words.1) row

kept_all : (second : Option ℕ) → kept (word_count second) second ≡ second
kept_all None = refl
kept_all (Some k) = refl

pub only_words : (words : ℕ × Option ℕ) (i : Instr) → Row words.0 words.1 i (word_count words.1) → AreWords words.0 words.1 → (first : ℕ) (second : Option ℕ) (n : ℕ) → AreWords first second → Row first second i n → words ≡ (first, kept n second)
only_words words i row here first second n there other =
    let same = words_are_unique words.0 first words.1 second i (word_count words.1) n here there row other in
    ap₂ (λ (a : ℕ) (b : Option ℕ). (a, b)) same.0 (sym (kept_all words.1) ∙ same.1)

pub ruleset spelled = (decoded_words, only_words)
