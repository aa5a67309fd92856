-- The opcodes of the ATmega128, a line each, as the sections "16-bit Opcode" and "32-bit Opcode" of the AVR Instruction
-- Set Manual print them, and the instruction that each stands for. A word in no line is undefined.
use Rattle.std.specs.Prelude.{◌≡◌, ◌+◌, ◌*◌, ◌^◌, ℕ, List, [], ◌∷◌, Option, None, Some, Result, Ok, Err, slice_get}
use Rattle.avr_isa.specs.Pattern.{symbols, Matches, operand, signed}
use Rattle.avr_isa.specs.declared.instruction.Instr.{Instr}
use Rattle.avr_isa.specs.declared.instruction.Instr.TheVariants.{Nop, Movw, Muls, Mulsu, Fmul, Fmuls, Fmulsu, Cpc, Sbc, Add, Cpse, Cp, Sub, Adc, And, Eor, Or, Mov, Cpi, Sbci, Subi, Ori, Andi, Ldi, LddZ, LddY, StdZ, StdY, Lds, LdZInc, LdZDec, LpmZ, LpmZInc, ElpmZ, ElpmZInc, LdYInc, LdYDec, LdX, LdXInc, LdXDec, Pop, Sts, StZInc, StZDec, StYInc, StYDec, StX, StXInc, StXDec, Push, Com, Neg, Swap, Inc, Asr, Lsr, Ror, Dec, Bset, Bclr, Ijmp, Icall, Ret, Reti, Sleep, Break, Wdr, LpmR0, ElpmR0, Spm, Jmp, Call, Adiw, Sbiw, Cbi, Sbic, Sbi, Sbis, Mul, In, Out, Rjmp, Rcall, Brbs, Brbc, Bld, Bst, Sbrc, Sbrs}
use Rattle.avr_isa.specs.declared.instruction.DecodeError.{DecodeError}
use Rattle.avr_isa.specs.declared.instruction.DecodeError.TheVariants.{Undefined, NeedsSecond}
use Prim.Native.String.{String}
use Prim.Native.Char.{Char}

-- how a line gives its instruction: of the numbers at its letters, and of the second word where it has one
pub data Form : Type 0 where
  one_word : ((Char → ℕ) → Instr) → Form
  two_words : ((Char → ℕ) → ℕ → Instr) → Form

pub record Line : Type 0 where
  pub pattern : String
  pub form : Form

abbrev pub line : String → ((Char → ℕ) → Instr) → Line
line pattern instruction = record { pattern = pattern; form = one_word instruction }

abbrev pub line_and_word : String → ((Char → ℕ) → ℕ → Instr) → Line
line_and_word pattern instruction = record { pattern = pattern; form = two_words instruction }

-- the lines
abbrev pub table : List Line
table =
    line "0000 0000 0000 0000" (λ at. Nop)
    ∷ line "0000 0001 dddd rrrr" (λ at. Movw (2 * at "d") (2 * at "r"))
    ∷ line "0000 0010 dddd rrrr" (λ at. Muls (16 + at "d") (16 + at "r"))
    ∷ line "0000 0011 0ddd 0rrr" (λ at. Mulsu (16 + at "d") (16 + at "r"))
    ∷ line "0000 0011 0ddd 1rrr" (λ at. Fmul (16 + at "d") (16 + at "r"))
    ∷ line "0000 0011 1ddd 0rrr" (λ at. Fmuls (16 + at "d") (16 + at "r"))
    ∷ line "0000 0011 1ddd 1rrr" (λ at. Fmulsu (16 + at "d") (16 + at "r"))
    ∷ line "0000 01rd dddd rrrr" (λ at. Cpc (at "d") (at "r"))
    ∷ line "0000 10rd dddd rrrr" (λ at. Sbc (at "d") (at "r"))
    ∷ line "0000 11rd dddd rrrr" (λ at. Add (at "d") (at "r"))
    ∷ line "0001 00rd dddd rrrr" (λ at. Cpse (at "d") (at "r"))
    ∷ line "0001 01rd dddd rrrr" (λ at. Cp (at "d") (at "r"))
    ∷ line "0001 10rd dddd rrrr" (λ at. Sub (at "d") (at "r"))
    ∷ line "0001 11rd dddd rrrr" (λ at. Adc (at "d") (at "r"))
    ∷ line "0010 00rd dddd rrrr" (λ at. And (at "d") (at "r"))
    ∷ line "0010 01rd dddd rrrr" (λ at. Eor (at "d") (at "r"))
    ∷ line "0010 10rd dddd rrrr" (λ at. Or (at "d") (at "r"))
    ∷ line "0010 11rd dddd rrrr" (λ at. Mov (at "d") (at "r"))
    ∷ line "0011 KKKK dddd KKKK" (λ at. Cpi (16 + at "d") (at "K"))
    ∷ line "0100 KKKK dddd KKKK" (λ at. Sbci (16 + at "d") (at "K"))
    ∷ line "0101 KKKK dddd KKKK" (λ at. Subi (16 + at "d") (at "K"))
    ∷ line "0110 KKKK dddd KKKK" (λ at. Ori (16 + at "d") (at "K"))
    ∷ line "0111 KKKK dddd KKKK" (λ at. Andi (16 + at "d") (at "K"))
    ∷ line "10q0 qq0d dddd 0qqq" (λ at. LddZ (at "d") (at "q"))
    ∷ line "10q0 qq0d dddd 1qqq" (λ at. LddY (at "d") (at "q"))
    ∷ line "10q0 qq1r rrrr 0qqq" (λ at. StdZ (at "r") (at "q"))
    ∷ line "10q0 qq1r rrrr 1qqq" (λ at. StdY (at "r") (at "q"))
    ∷ line_and_word "1001 000d dddd 0000" (λ at k. Lds (at "d") k)
    ∷ line "1001 000d dddd 0001" (λ at. LdZInc (at "d"))
    ∷ line "1001 000d dddd 0010" (λ at. LdZDec (at "d"))
    ∷ line "1001 000d dddd 0100" (λ at. LpmZ (at "d"))
    ∷ line "1001 000d dddd 0101" (λ at. LpmZInc (at "d"))
    ∷ line "1001 000d dddd 0110" (λ at. ElpmZ (at "d"))
    ∷ line "1001 000d dddd 0111" (λ at. ElpmZInc (at "d"))
    ∷ line "1001 000d dddd 1001" (λ at. LdYInc (at "d"))
    ∷ line "1001 000d dddd 1010" (λ at. LdYDec (at "d"))
    ∷ line "1001 000d dddd 1100" (λ at. LdX (at "d"))
    ∷ line "1001 000d dddd 1101" (λ at. LdXInc (at "d"))
    ∷ line "1001 000d dddd 1110" (λ at. LdXDec (at "d"))
    ∷ line "1001 000d dddd 1111" (λ at. Pop (at "d"))
    ∷ line_and_word "1001 001r rrrr 0000" (λ at k. Sts (at "r") k)
    ∷ line "1001 001r rrrr 0001" (λ at. StZInc (at "r"))
    ∷ line "1001 001r rrrr 0010" (λ at. StZDec (at "r"))
    ∷ line "1001 001r rrrr 1001" (λ at. StYInc (at "r"))
    ∷ line "1001 001r rrrr 1010" (λ at. StYDec (at "r"))
    ∷ line "1001 001r rrrr 1100" (λ at. StX (at "r"))
    ∷ line "1001 001r rrrr 1101" (λ at. StXInc (at "r"))
    ∷ line "1001 001r rrrr 1110" (λ at. StXDec (at "r"))
    ∷ line "1001 001r rrrr 1111" (λ at. Push (at "r"))
    ∷ line "1001 010d dddd 0000" (λ at. Com (at "d"))
    ∷ line "1001 010d dddd 0001" (λ at. Neg (at "d"))
    ∷ line "1001 010d dddd 0010" (λ at. Swap (at "d"))
    ∷ line "1001 010d dddd 0011" (λ at. Inc (at "d"))
    ∷ line "1001 010d dddd 0101" (λ at. Asr (at "d"))
    ∷ line "1001 010d dddd 0110" (λ at. Lsr (at "d"))
    ∷ line "1001 010d dddd 0111" (λ at. Ror (at "d"))
    ∷ line "1001 010d dddd 1010" (λ at. Dec (at "d"))
    ∷ line "1001 0100 0sss 1000" (λ at. Bset (at "s"))
    ∷ line "1001 0100 1sss 1000" (λ at. Bclr (at "s"))
    ∷ line "1001 0100 0000 1001" (λ at. Ijmp)
    ∷ line "1001 0101 0000 1001" (λ at. Icall)
    ∷ line "1001 0101 0000 1000" (λ at. Ret)
    ∷ line "1001 0101 0001 1000" (λ at. Reti)
    ∷ line "1001 0101 1000 1000" (λ at. Sleep)
    ∷ line "1001 0101 1001 1000" (λ at. Break)
    ∷ line "1001 0101 1010 1000" (λ at. Wdr)
    ∷ line "1001 0101 1100 1000" (λ at. LpmR0)
    ∷ line "1001 0101 1101 1000" (λ at. ElpmR0)
    ∷ line "1001 0101 1110 1000" (λ at. Spm)
    ∷ line_and_word "1001 010k kkkk 110k" (λ at k. Jmp (at "k" * 2 ^ 16 + k))
    ∷ line_and_word "1001 010k kkkk 111k" (λ at k. Call (at "k" * 2 ^ 16 + k))
    ∷ line "1001 0110 KKdd KKKK" (λ at. Adiw (24 + 2 * at "d") (at "K"))
    ∷ line "1001 0111 KKdd KKKK" (λ at. Sbiw (24 + 2 * at "d") (at "K"))
    ∷ line "1001 1000 AAAA Abbb" (λ at. Cbi (at "A") (at "b"))
    ∷ line "1001 1001 AAAA Abbb" (λ at. Sbic (at "A") (at "b"))
    ∷ line "1001 1010 AAAA Abbb" (λ at. Sbi (at "A") (at "b"))
    ∷ line "1001 1011 AAAA Abbb" (λ at. Sbis (at "A") (at "b"))
    ∷ line "1001 11rd dddd rrrr" (λ at. Mul (at "d") (at "r"))
    ∷ line "1011 0AAd dddd AAAA" (λ at. In (at "d") (at "A"))
    ∷ line "1011 1AAr rrrr AAAA" (λ at. Out (at "r") (at "A"))
    ∷ line "1100 kkkk kkkk kkkk" (λ at. Rjmp (signed 12 (at "k")))
    ∷ line "1101 kkkk kkkk kkkk" (λ at. Rcall (signed 12 (at "k")))
    ∷ line "1110 KKKK dddd KKKK" (λ at. Ldi (16 + at "d") (at "K"))
    ∷ line "1111 00kk kkkk ksss" (λ at. Brbs (at "s") (signed 7 (at "k")))
    ∷ line "1111 01kk kkkk ksss" (λ at. Brbc (at "s") (signed 7 (at "k")))
    ∷ line "1111 100d dddd 0bbb" (λ at. Bld (at "d") (at "b"))
    ∷ line "1111 101d dddd 0bbb" (λ at. Bst (at "d") (at "b"))
    ∷ line "1111 110r rrrr 0bbb" (λ at. Sbrc (at "r") (at "b"))
    ∷ line "1111 111r rrrr 0bbb" (λ at. Sbrs (at "r") (at "b"))
    ∷ []

-- the line stands in the table, and the word has its pattern
unfoldable pub HasLine : ℕ → Line → Type 0
HasLine word l = (place : ℕ) × (slice_get table place ≡ Some l) × Matches (symbols l.pattern) word

-- with these numbers at its letters, and perhaps a word that follows, a line gives instruction i of n words;
-- a line of one word does not look at the word that follows
abbrev pub Reads : Form → (Char → ℕ) → Option ℕ → Instr → ℕ → Type 0
Reads (one_word instruction) at second i n = (i ≡ instruction at) × (n ≡ 1)
Reads (two_words instruction) at second i n = (k : ℕ) × (second ≡ Some k) × (i ≡ instruction at k) × (n ≡ 2)

-- a line of the table has the words and gives instruction i of n words
unfoldable pub Row : ℕ → Option ℕ → Instr → ℕ → Type 0
Row first second i n = (l : Line) × HasLine first l × Reads l.form (operand l.pattern first) second i n

-- the word begins no instruction
unfoldable pub HasNoRow : ℕ → Type 0
HasNoRow word = (l : Line) → HasLine word l → ⊥

abbrev pub IsTwoWords : Form → Type 0
IsTwoWords (one_word instruction) = ⊥
IsTwoWords (two_words instruction) = Unit {0}

-- the word begins an instruction of two words
unfoldable pub HasSecondWord : ℕ → Type 0
HasSecondWord word = (l : Line) × HasLine word l × IsTwoWords l.form

-- the number of words, where the second may be missing
abbrev pub word_count : Option ℕ → ℕ
word_count None = 1
word_count (Some k) = 2

-- what the table says of the words
abbrev pub IsDecoded : ℕ → Option ℕ → Result (Instr × ℕ) DecodeError → Type 0
IsDecoded first second (Ok found) = Row first second found.0 found.1
IsDecoded first second (Err (Undefined word)) = (word ≡ first) × HasNoRow first
IsDecoded first second (Err NeedsSecond) = (second ≡ None) × HasSecondWord first
