-- A unit's text proposes that unit.
use Rattle.std.specs.Prelude.{◌≡◌, ℕ, ◌+◌, ◌*◌, ◌/◌, ◌%◌, ◌^◌, ◌<◌, ◌≤◌, nat_le, nat_lt, false, List, [], ◌∷◌, decimal}
use Rattle.std.specs.Char.{digit_char}
use Rattle.std.proofs.Common.{refl, sym, ◌∙◌, ap, ap₂, subst, arith, inl, inr}
use Rattle.std.proofs.lemmas.Bool.{cases_lt, le-leb, le-ltb, lt-leb, lt-ltb, cond-true, cond-false}
use Rattle.avr_isa.specs.declared.instruction.Instr.{Instr}
use Rattle.avr_isa.specs.declared.instruction.Instr.TheVariants as instr
use Rattle.avr_isa.specs.Operands.{IsEncodable}
use Rattle.mote_base.specs.Digits.{word_digits}
use Rattle.unit_code.specs.Kinds.{standing_of}
use Rattle.avr_list.specs.Instructions.{HasText, instruction_text}
use Rattle.avr_list.specs.Operands.{operand_text}
use Rattle.avr_list.proofs.Said.{Operands, nothing, one, two, instruction_said}
use Rattle.avr_asm.specs.Text.{back, front, has, hex_value}
use Rattle.avr_asm.specs.Reading.{address, bit, byte, compared, constant, controlled, headed, load, loaded, middle, named_instruction, named_unit, pair, register, single, six_bits, standing_item, store, upper, upper_pair, wide}
use Rattle.avr_asm.proofs.Texts.{value-decimal}

-- the texts of the operands
abbrev pub first_of : Operands → List ℕ
first_of nothing = []
first_of (one a) = operand_text a
first_of (two a b) = operand_text a

abbrev pub second_of : Operands → List ℕ
second_of nothing = []
second_of (one a) = []
second_of (two a b) = operand_text b

-- the readers on the texts of numbers in their ranges
pub reg : (n : ℕ) → n < 32 → register (114 ∷ decimal n) ≡ n
reg n h = ap (λ (v : ℕ). v % 32) (value-decimal n (omega (arith, h))) ∙ omega (arith, h)

up : (n : ℕ) → 16 ≤ n → n < 32 → upper (114 ∷ decimal n) ≡ n
up n l h = ap (λ (v : ℕ). 16 + v % 16) (value-decimal n (omega (arith, h))) ∙ omega (arith, l, h)

mid : (n : ℕ) → 16 ≤ n → n < 24 → middle (114 ∷ decimal n) ≡ n
mid n l h = ap (λ (v : ℕ). 16 + v % 8) (value-decimal n (omega (arith, h))) ∙ omega (arith, l, h)

even : (n : ℕ) → n < 32 → n % 2 ≡ 0 → pair (114 ∷ decimal n) ≡ n
even n h e = ap (λ (v : ℕ). 2 * (v / 2 % 16)) (value-decimal n (omega (arith, h))) ∙ omega (arith, h, e)

upper_even : (n : ℕ) → 24 ≤ n → n < 32 → n % 2 ≡ 0 → upper_pair (114 ∷ decimal n) ≡ n
upper_even n l h e = ap (λ (v : ℕ). 24 + 2 * (v / 2 % 4)) (value-decimal n (omega (arith, h))) ∙ omega (arith, l, h, e)

eight : (n : ℕ) → n < 256 → byte (decimal n) ≡ n
eight n h = ap (λ (v : ℕ). v % 256) (value-decimal n (omega (arith, h))) ∙ omega (arith, h)

six : (n : ℕ) → n < 64 → six_bits (decimal n) ≡ n
six n h = ap (λ (v : ℕ). v % 64) (value-decimal n (omega (arith, h))) ∙ omega (arith, h)

pub three : (n : ℕ) → n < 8 → bit (decimal n) ≡ n
three n h = ap (λ (v : ℕ). v % 8) (value-decimal n (omega (arith, h))) ∙ omega (arith, h)

low_glyph : (d : ℕ) → hex_value (48 + d) ≡ d → d < 10 → hex_value (digit_char d) ≡ d
low_glyph d e h = subst (λ (c : ℕ). hex_value c ≡ d) (sym (cond-true (nat_lt d 10) (48 + d) (87 + d) (lt-ltb d 10 h))) e

high_glyph : (d : ℕ) → hex_value (87 + d) ≡ d → 10 ≤ d → hex_value (digit_char d) ≡ d
high_glyph d e h = subst (λ (c : ℕ). hex_value c ≡ d) (sym (cond-false (nat_lt d 10) (48 + d) (87 + d) (le-ltb d 10 h))) e

glyph : (d : ℕ) → d < 16 → hex_value (digit_char d) ≡ d
glyph d h = elim (cases_lt d 10) as (λ z. hex_value (digit_char d) ≡ d) [
  | inl low ↦ low_glyph d (cond-false (nat_le 97 (48 + d)) _ _ (lt-leb 97 (48 + d) (omega (arith, low))) ∙ omega arith) low
  | inr high ↦ high_glyph d (cond-true (nat_le 97 (87 + d)) _ _ (le-leb 97 (87 + d) (omega (arith, high))) ∙ omega arith) high
]

far : (a : ℕ) → a < 2 ^ 16 → address (48 ∷ 120 ∷ word_digits a) ≡ a
far a h =
    let one : hex_value (digit_char (a / 4096)) ≡ a / 4096 = glyph (a / 4096) (omega (arith, h)) in
    let two : hex_value (digit_char (a / 256 % 16)) ≡ a / 256 % 16 = glyph (a / 256 % 16) (omega arith) in
    let three : hex_value (digit_char (a / 16 % 16)) ≡ a / 16 % 16 = glyph (a / 16 % 16) (omega arith) in
    let four : hex_value (digit_char (a % 16)) ≡ a % 16 = glyph (a % 16) (omega arith) in
    omega (arith, one, two, three, four, h)

-- An instruction's name and operands name it.
pub instruction_named : (i : Instr) → IsEncodable i → HasText i → named_instruction (instruction_said i).name (first_of (instruction_said i).operands) (second_of (instruction_said i).operands) ≡ i
unfolding instruction_said IsEncodable instruction_text named_instruction compared constant loaded single wide controlled load store
instruction_named instr.Nop e has = refl
instruction_named (instr.Movw d r) e has = ap₂ (λ (x y : ℕ). instr.Movw x y) (even d (omega arith) (omega arith)) (even r (omega arith) (omega arith))
instruction_named (instr.Muls d r) e has = ap₂ (λ (x y : ℕ). instr.Muls x y) (up d (omega arith) (omega arith)) (up r (omega arith) (omega arith))
instruction_named (instr.Mulsu d r) e has = ap₂ (λ (x y : ℕ). instr.Mulsu x y) (mid d (omega arith) (omega arith)) (mid r (omega arith) (omega arith))
instruction_named (instr.Fmul d r) e has = ap₂ (λ (x y : ℕ). instr.Fmul x y) (mid d (omega arith) (omega arith)) (mid r (omega arith) (omega arith))
instruction_named (instr.Fmuls d r) e has = ap₂ (λ (x y : ℕ). instr.Fmuls x y) (mid d (omega arith) (omega arith)) (mid r (omega arith) (omega arith))
instruction_named (instr.Fmulsu d r) e has = ap₂ (λ (x y : ℕ). instr.Fmulsu x y) (mid d (omega arith) (omega arith)) (mid r (omega arith) (omega arith))
instruction_named (instr.Cpc d r) e has = ap₂ (λ (x y : ℕ). instr.Cpc x y) (reg d (omega arith)) (reg r (omega arith))
instruction_named (instr.Sbc d r) e has = ap₂ (λ (x y : ℕ). instr.Sbc x y) (reg d (omega arith)) (reg r (omega arith))
instruction_named (instr.Add d r) e has = ap₂ (λ (x y : ℕ). instr.Add x y) (reg d (omega arith)) (reg r (omega arith))
instruction_named (instr.Cpse d r) e has = ap₂ (λ (x y : ℕ). instr.Cpse x y) (reg d (omega arith)) (reg r (omega arith))
instruction_named (instr.Cp d r) e has = ap₂ (λ (x y : ℕ). instr.Cp x y) (reg d (omega arith)) (reg r (omega arith))
instruction_named (instr.Sub d r) e has = ap₂ (λ (x y : ℕ). instr.Sub x y) (reg d (omega arith)) (reg r (omega arith))
instruction_named (instr.Adc d r) e has = ap₂ (λ (x y : ℕ). instr.Adc x y) (reg d (omega arith)) (reg r (omega arith))
instruction_named (instr.And d r) e has = ap₂ (λ (x y : ℕ). instr.And x y) (reg d (omega arith)) (reg r (omega arith))
instruction_named (instr.Eor d r) e has = ap₂ (λ (x y : ℕ). instr.Eor x y) (reg d (omega arith)) (reg r (omega arith))
instruction_named (instr.Or d r) e has = ap₂ (λ (x y : ℕ). instr.Or x y) (reg d (omega arith)) (reg r (omega arith))
instruction_named (instr.Mov d r) e has = ap₂ (λ (x y : ℕ). instr.Mov x y) (reg d (omega arith)) (reg r (omega arith))
instruction_named (instr.Mul d r) e has = ap₂ (λ (x y : ℕ). instr.Mul x y) (reg d (omega arith)) (reg r (omega arith))
instruction_named (instr.Cpi d k) e has = ap₂ (λ (x y : ℕ). instr.Cpi x y) (up d (omega arith) (omega arith)) (eight k (omega arith))
instruction_named (instr.Sbci d k) e has = ap₂ (λ (x y : ℕ). instr.Sbci x y) (up d (omega arith) (omega arith)) (eight k (omega arith))
instruction_named (instr.Subi d k) e has = ap₂ (λ (x y : ℕ). instr.Subi x y) (up d (omega arith) (omega arith)) (eight k (omega arith))
instruction_named (instr.Ori d k) e has = ap₂ (λ (x y : ℕ). instr.Ori x y) (up d (omega arith) (omega arith)) (eight k (omega arith))
instruction_named (instr.Andi d k) e has = ap₂ (λ (x y : ℕ). instr.Andi x y) (up d (omega arith) (omega arith)) (eight k (omega arith))
instruction_named (instr.Ldi d k) e has = ap₂ (λ (x y : ℕ). instr.Ldi x y) (up d (omega arith) (omega arith)) (eight k (omega arith))
instruction_named (instr.LddZ d q) e has = ap₂ (λ (x y : ℕ). instr.LddZ x y) (reg d (omega arith)) (six q (omega arith))
instruction_named (instr.LddY d q) e has = ap₂ (λ (x y : ℕ). instr.LddY x y) (reg d (omega arith)) (six q (omega arith))
instruction_named (instr.StdZ d q) e has = ap₂ (λ (x y : ℕ). instr.StdZ x y) (reg d (omega arith)) (six q (omega arith))
instruction_named (instr.StdY d q) e has = ap₂ (λ (x y : ℕ). instr.StdY x y) (reg d (omega arith)) (six q (omega arith))
instruction_named (instr.Lds d k) e has = ap₂ (λ (x y : ℕ). instr.Lds x y) (reg d (omega arith)) (far k (omega arith))
instruction_named (instr.Sts d k) e has = ap₂ (λ (x y : ℕ). instr.Sts x y) (reg d (omega arith)) (far k (omega arith))
instruction_named (instr.LdZInc d) e has = ap (λ (x : ℕ). instr.LdZInc x) (reg d (omega arith))
instruction_named (instr.LdZDec d) e has = ap (λ (x : ℕ). instr.LdZDec x) (reg d (omega arith))
instruction_named (instr.LdYInc d) e has = ap (λ (x : ℕ). instr.LdYInc x) (reg d (omega arith))
instruction_named (instr.LdYDec d) e has = ap (λ (x : ℕ). instr.LdYDec x) (reg d (omega arith))
instruction_named (instr.LdX d) e has = ap (λ (x : ℕ). instr.LdX x) (reg d (omega arith))
instruction_named (instr.LdXInc d) e has = ap (λ (x : ℕ). instr.LdXInc x) (reg d (omega arith))
instruction_named (instr.LdXDec d) e has = ap (λ (x : ℕ). instr.LdXDec x) (reg d (omega arith))
instruction_named (instr.StZInc d) e has = ap (λ (x : ℕ). instr.StZInc x) (reg d (omega arith))
instruction_named (instr.StZDec d) e has = ap (λ (x : ℕ). instr.StZDec x) (reg d (omega arith))
instruction_named (instr.StYInc d) e has = ap (λ (x : ℕ). instr.StYInc x) (reg d (omega arith))
instruction_named (instr.StYDec d) e has = ap (λ (x : ℕ). instr.StYDec x) (reg d (omega arith))
instruction_named (instr.StX d) e has = ap (λ (x : ℕ). instr.StX x) (reg d (omega arith))
instruction_named (instr.StXInc d) e has = ap (λ (x : ℕ). instr.StXInc x) (reg d (omega arith))
instruction_named (instr.StXDec d) e has = ap (λ (x : ℕ). instr.StXDec x) (reg d (omega arith))
instruction_named (instr.Com d) e has = ap (λ (x : ℕ). instr.Com x) (reg d (omega arith))
instruction_named (instr.Neg d) e has = ap (λ (x : ℕ). instr.Neg x) (reg d (omega arith))
instruction_named (instr.Swap d) e has = ap (λ (x : ℕ). instr.Swap x) (reg d (omega arith))
instruction_named (instr.Inc d) e has = ap (λ (x : ℕ). instr.Inc x) (reg d (omega arith))
instruction_named (instr.Asr d) e has = ap (λ (x : ℕ). instr.Asr x) (reg d (omega arith))
instruction_named (instr.Lsr d) e has = ap (λ (x : ℕ). instr.Lsr x) (reg d (omega arith))
instruction_named (instr.Ror d) e has = ap (λ (x : ℕ). instr.Ror x) (reg d (omega arith))
instruction_named (instr.Dec d) e has = ap (λ (x : ℕ). instr.Dec x) (reg d (omega arith))
instruction_named (instr.Bset s) e has = ap (λ (x : ℕ). instr.Bset x) (three s (omega arith))
instruction_named (instr.Bclr s) e has = ap (λ (x : ℕ). instr.Bclr x) (three s (omega arith))
instruction_named (instr.Adiw d k) e has = ap₂ (λ (x y : ℕ). instr.Adiw x y) (upper_even d (omega arith) (omega arith) (omega arith)) (six k (omega arith))
instruction_named (instr.Sbiw d k) e has = ap₂ (λ (x y : ℕ). instr.Sbiw x y) (upper_even d (omega arith) (omega arith) (omega arith)) (six k (omega arith))
instruction_named (instr.In d k) e has = ap₂ (λ (x y : ℕ). instr.In x y) (reg d (omega arith)) (six k (omega arith))
instruction_named (instr.Out d k) e has = ap₂ (λ (x y : ℕ). instr.Out x y) (reg d (omega arith)) (six k (omega arith))
instruction_named (instr.Bld d b) e has = ap₂ (λ (x y : ℕ). instr.Bld x y) (reg d (omega arith)) (three b (omega arith))
instruction_named (instr.Bst d b) e has = ap₂ (λ (x y : ℕ). instr.Bst x y) (reg d (omega arith)) (three b (omega arith))
instruction_named (instr.Sbrc d b) e has = ap₂ (λ (x y : ℕ). instr.Sbrc x y) (reg d (omega arith)) (three b (omega arith))
instruction_named (instr.Sbrs d b) e has = ap₂ (λ (x y : ℕ). instr.Sbrs x y) (reg d (omega arith)) (three b (omega arith))
instruction_named (instr.LpmZ d) e has = absurd (has refl)
instruction_named (instr.LpmZInc d) e has = absurd (has refl)
instruction_named (instr.ElpmZ d) e has = absurd (has refl)
instruction_named (instr.ElpmZInc d) e has = absurd (has refl)
instruction_named (instr.Pop d) e has = absurd (has refl)
instruction_named (instr.Push r) e has = absurd (has refl)
instruction_named instr.Ijmp e has = absurd (has refl)
instruction_named instr.Icall e has = absurd (has refl)
instruction_named instr.Ret e has = absurd (has refl)
instruction_named instr.Reti e has = absurd (has refl)
instruction_named instr.Sleep e has = absurd (has refl)
instruction_named instr.Break e has = absurd (has refl)
instruction_named instr.Wdr e has = absurd (has refl)
instruction_named instr.LpmR0 e has = absurd (has refl)
instruction_named instr.ElpmR0 e has = absurd (has refl)
instruction_named instr.Spm e has = absurd (has refl)
instruction_named (instr.Jmp k) e has = absurd (has refl)
instruction_named (instr.Call k) e has = absurd (has refl)
instruction_named (instr.Cbi A b) e has = absurd (has refl)
instruction_named (instr.Sbic A b) e has = absurd (has refl)
instruction_named (instr.Sbi A b) e has = absurd (has refl)
instruction_named (instr.Sbis A b) e has = absurd (has refl)
instruction_named (instr.Rjmp k) e has = absurd (has refl)
instruction_named (instr.Rcall k) e has = absurd (has refl)
instruction_named (instr.Brbs s k) e has = absurd (has refl)
instruction_named (instr.Brbc s k) e has = absurd (has refl)

-- no name of an instruction is one of a line of the head or of another unit
pub instruction_headed : (i : Instr) (rest : List ℕ) → headed (instruction_said i).name rest ≡ standing_item (standing_of (named_instruction (instruction_said i).name (front 44 rest) (back 44 rest)))
unfolding instruction_said headed named_unit
instruction_headed instr.Nop rest = refl
instruction_headed _ rest = refl

pub name_lacks : (i : Instr) → (has 32 (instruction_said i).name ≡ false) × (has 58 (instruction_said i).name ≡ false) × (has 10 (instruction_said i).name ≡ false)
unfolding instruction_said
name_lacks instr.Nop = (refl, refl, refl)
name_lacks _ = (refl, refl, refl)
