-- Reading a line: its words propose the one line that it can say, and it says that line if it is its text.
-- A proposal takes operands as they come and brings numbers into their range: where that changes one, the text is another.
use Rattle.std.specs.Prelude.{ℕ, ◌+◌, ◌-◌, ◌*◌, ◌/◌, ◌%◌, ◌&&◌, nat_le, Bool, true, false, if◌then◌else◌, List, [], ◌∷◌, length, drop, Option, Some, None, codes}
use Rattle.std.specs.Str.{bytes_eq}
use Rattle.avr_isa.specs.declared.instruction.Instr.{Instr}
use Rattle.avr_isa.specs.declared.instruction.Instr.TheVariants as instr
use Rattle.mote_layout.specs.Page.{kernel_call_count, slot_count}
use Rattle.unit_code.specs.declared.unit.Unit.{Unit}
use Rattle.unit_code.specs.declared.unit.Unit.TheVariants as unit
use Rattle.unit_code.specs.declared.kinds.Standing.{Standing}
use Rattle.unit_code.specs.declared.kinds.Standing.TheVariants.{Part}
use Rattle.unit_code.specs.declared.kinds.Piece.TheVariants.{Whole}
use Rattle.unit_code.specs.Kinds.{standing_of}
use Rattle.module_image.specs.Contents.{constants_limit}
use Rattle.avr_asm.specs.Text.{are_pairs, back, begins, front, has, hex_value, is_goal, is_name, is_prototype, value}
use Rattle.avr_asm.specs.Line.{Line, Module, Version, State, Handler, Sealed, Provides, Subscribes, Const, Code, Label, Item, ended}

-- The operands, each by its text: a register of each range, constants, and an address.
abbrev pub register : List ℕ → ℕ
register text = value (drop 1 text) % 32

abbrev pub upper : List ℕ → ℕ
upper text = 16 + value (drop 1 text) % 16

abbrev pub middle : List ℕ → ℕ
middle text = 16 + value (drop 1 text) % 8

abbrev pub pair : List ℕ → ℕ
pair text = 2 * (value (drop 1 text) / 2 % 16)

abbrev pub upper_pair : List ℕ → ℕ
upper_pair text = 24 + 2 * (value (drop 1 text) / 2 % 4)

abbrev pub byte : List ℕ → ℕ
byte text = value text % 256

abbrev pub six_bits : List ℕ → ℕ
six_bits text = value text % 64

abbrev pub bit : List ℕ → ℕ
bit text = value text % 8

-- four hexadecimal digits
abbrev pub four_digits : List ℕ → ℕ
four_digits (a ∷ b ∷ c ∷ d ∷ []) = 4096 * hex_value a + 256 * hex_value b + 16 * hex_value c + hex_value d
four_digits _ = 0

abbrev pub address : List ℕ → ℕ
address text = four_digits (drop 2 text) % 65536

-- loads and stores by how their pointer is written
unfoldable pub load : List ℕ → ℕ → Instr
load pointer d =
    if bytes_eq pointer (codes "x") then instr.LdX d
    else (if bytes_eq pointer (codes "x+") then instr.LdXInc d
    else (if bytes_eq pointer (codes "-x") then instr.LdXDec d
    else (if bytes_eq pointer (codes "y+") then instr.LdYInc d
    else (if bytes_eq pointer (codes "-y") then instr.LdYDec d
    else (if bytes_eq pointer (codes "z+") then instr.LdZInc d
    else instr.LdZDec d)))))

unfoldable pub store : List ℕ → ℕ → Instr
store pointer r =
    if bytes_eq pointer (codes "x") then instr.StX r
    else (if bytes_eq pointer (codes "x+") then instr.StXInc r
    else (if bytes_eq pointer (codes "-x") then instr.StXDec r
    else (if bytes_eq pointer (codes "y+") then instr.StYInc r
    else (if bytes_eq pointer (codes "-y") then instr.StYDec r
    else (if bytes_eq pointer (codes "z+") then instr.StZInc r
    else instr.StZDec r)))))

-- y (121) or z, `+`, and a displacement
abbrev pub load_behind : List ℕ → ℕ → Instr
load_behind pointer d = if begins 121 pointer then instr.LddY d (six_bits (drop 2 pointer)) else instr.LddZ d (six_bits (drop 2 pointer))

abbrev pub store_behind : List ℕ → ℕ → Instr
store_behind pointer r = if begins 121 pointer then instr.StdY r (six_bits (drop 2 pointer)) else instr.StdZ r (six_bits (drop 2 pointer))

-- The instruction of a name and its operands, in groups of the order of the table of opcodes.
unfoldable pub controlled : List ℕ → List ℕ → List ℕ → Instr
controlled name a b =
    if bytes_eq name (codes "bld") then instr.Bld (register a) (bit b)
    else (if bytes_eq name (codes "bst") then instr.Bst (register a) (bit b)
    else (if bytes_eq name (codes "sbrc") then instr.Sbrc (register a) (bit b)
    else (if bytes_eq name (codes "sbrs") then instr.Sbrs (register a) (bit b)
    else (if bytes_eq name (codes "push") then instr.Push (register a)
    else (if bytes_eq name (codes "pop") then instr.Pop (register a)
    else (if bytes_eq name (codes "icall") then instr.Icall
    else (if bytes_eq name (codes "ret") then instr.Ret
    else instr.Nop)))))))

unfoldable pub wide : List ℕ → List ℕ → List ℕ → Instr
wide name a b =
    if bytes_eq name (codes "bset") then instr.Bset (bit a)
    else (if bytes_eq name (codes "bclr") then instr.Bclr (bit a)
    else (if bytes_eq name (codes "adiw") then instr.Adiw (upper_pair a) (six_bits b)
    else (if bytes_eq name (codes "sbiw") then instr.Sbiw (upper_pair a) (six_bits b)
    else (if bytes_eq name (codes "mul") then instr.Mul (register a) (register b)
    else (if bytes_eq name (codes "in") then instr.In (register a) (six_bits b)
    else (if bytes_eq name (codes "out") then instr.Out (register b) (six_bits a)
    else (if bytes_eq name (codes "ldi") then instr.Ldi (upper a) (byte b)
    else controlled name a b)))))))

unfoldable pub single : List ℕ → List ℕ → List ℕ → Instr
single name a b =
    if bytes_eq name (codes "com") then instr.Com (register a)
    else (if bytes_eq name (codes "neg") then instr.Neg (register a)
    else (if bytes_eq name (codes "swap") then instr.Swap (register a)
    else (if bytes_eq name (codes "inc") then instr.Inc (register a)
    else (if bytes_eq name (codes "asr") then instr.Asr (register a)
    else (if bytes_eq name (codes "lsr") then instr.Lsr (register a)
    else (if bytes_eq name (codes "ror") then instr.Ror (register a)
    else (if bytes_eq name (codes "dec") then instr.Dec (register a)
    else wide name a b)))))))

unfoldable pub loaded : List ℕ → List ℕ → List ℕ → Instr
loaded name a b =
    if bytes_eq name (codes "ldd") then load_behind b (register a)
    else (if bytes_eq name (codes "std") then store_behind a (register b)
    else (if bytes_eq name (codes "lds") then instr.Lds (register a) (address b)
    else (if bytes_eq name (codes "sts") then instr.Sts (register b) (address a)
    else (if bytes_eq name (codes "ld") then load b (register a)
    else (if bytes_eq name (codes "st") then store a (register b)
    else single name a b)))))

unfoldable pub constant : List ℕ → List ℕ → List ℕ → Instr
constant name a b =
    if bytes_eq name (codes "cpi") then instr.Cpi (upper a) (byte b)
    else (if bytes_eq name (codes "sbci") then instr.Sbci (upper a) (byte b)
    else (if bytes_eq name (codes "subi") then instr.Subi (upper a) (byte b)
    else (if bytes_eq name (codes "ori") then instr.Ori (upper a) (byte b)
    else (if bytes_eq name (codes "andi") then instr.Andi (upper a) (byte b)
    else loaded name a b))))

unfoldable pub compared : List ℕ → List ℕ → List ℕ → Instr
compared name a b =
    if bytes_eq name (codes "cp") then instr.Cp (register a) (register b)
    else (if bytes_eq name (codes "sub") then instr.Sub (register a) (register b)
    else (if bytes_eq name (codes "adc") then instr.Adc (register a) (register b)
    else (if bytes_eq name (codes "and") then instr.And (register a) (register b)
    else (if bytes_eq name (codes "eor") then instr.Eor (register a) (register b)
    else (if bytes_eq name (codes "or") then instr.Or (register a) (register b)
    else (if bytes_eq name (codes "mov") then instr.Mov (register a) (register b)
    else constant name a b))))))

unfoldable pub named_instruction : List ℕ → List ℕ → List ℕ → Instr
named_instruction name a b =
    if bytes_eq name (codes "movw") then instr.Movw (pair a) (pair b)
    else (if bytes_eq name (codes "muls") then instr.Muls (upper a) (upper b)
    else (if bytes_eq name (codes "mulsu") then instr.Mulsu (middle a) (middle b)
    else (if bytes_eq name (codes "fmul") then instr.Fmul (middle a) (middle b)
    else (if bytes_eq name (codes "fmuls") then instr.Fmuls (middle a) (middle b)
    else (if bytes_eq name (codes "fmulsu") then instr.Fmulsu (middle a) (middle b)
    else (if bytes_eq name (codes "cpc") then instr.Cpc (register a) (register b)
    else (if bytes_eq name (codes "sbc") then instr.Sbc (register a) (register b)
    else (if bytes_eq name (codes "add") then instr.Add (register a) (register b)
    else (if bytes_eq name (codes "cpse") then instr.Cpse (register a) (register b)
    else compared name a b)))))))))

-- The unit that an instruction makes by itself; a refused instruction makes none.
abbrev pub standing_item : Standing → Option Line
standing_item (Part (Whole (unit.Load i))) = None
standing_item (Part (Whole u)) = Some (Item u [])
standing_item _ = None

-- a line that keeps a rule
abbrev pub when : Bool → Line → Option Line
when true l = Some l
when false l = None

-- a unit with a target
abbrev pub aiming : Unit → List ℕ → Option Line
aiming u goal = when (is_goal goal) (Item u goal)

-- The unit of a name and its operands.
unfoldable pub named_unit : List ℕ → List ℕ → List ℕ → Option Line
named_unit name a b =
    if bytes_eq name (codes "setsps") then Some (Item (unit.SpGroup true) [])
    else (if bytes_eq name (codes "setsp") then Some (Item (unit.SpGroup false) [])
    else (if bytes_eq name (codes "reserve") then Some (Item unit.Reserve [])
    else (if bytes_eq name (codes "brbs") then aiming (unit.Branch true (bit a) 0) (drop 1 b)
    else (if bytes_eq name (codes "brbc") then aiming (unit.Branch false (bit a) 0) (drop 1 b)
    else (if bytes_eq name (codes "rjmp") then aiming (unit.Jump 0) (drop 1 a)
    else (if bytes_eq name (codes "rcall") then aiming (unit.LocalCall 0) (drop 1 a)
    else (if bytes_eq name (codes "kcall") then Some (Item (unit.KernelCall (value a % kernel_call_count)) [])
    else (if bytes_eq name (codes "scall") then Some (Item (unit.SlotCall (value a % slot_count)) [])
    else standing_item (standing_of (named_instruction name a b))))))))))

-- the id of a module, from 1 to 254
abbrev pub module_id : List ℕ → ℕ
module_id text = 1 + (value text - 1) % 254

abbrev pub provides : List ℕ → List ℕ → List ℕ → Option Line
provides func proto goal = when (is_prototype proto && is_goal goal) (Provides (value func % 256) proto goal)

abbrev pub subscribes : List ℕ → List ℕ → List ℕ → Option Line
subscribes provider func proto = when (is_prototype proto) (Subscribes (module_id provider) (value func % 256) proto)

abbrev pub const_of : List ℕ → Option Line
const_of pairs = when (are_pairs pairs && (nat_le 1 (length pairs) && nat_le (length pairs) (2 * constants_limit))) (Const pairs)

-- The line of a name and what stands behind it and a space.
unfoldable pub headed : List ℕ → List ℕ → Option Line
headed name rest =
    if bytes_eq name (codes "module") then Some (Module (module_id rest))
    else (if bytes_eq name (codes "version") then Some (Version (1 + (value rest - 1) % 2))
    else (if bytes_eq name (codes "state") then Some (State (value rest % 65536))
    else (if bytes_eq name (codes "handler") then when (is_goal (drop 1 rest)) (Handler (drop 1 rest))
    else (if bytes_eq name (codes "sealed") then Some Sealed
    else (if bytes_eq name (codes "provides") then provides (front 32 rest) (front 32 (back 32 rest)) (drop 1 (back 32 (back 32 rest)))
    else (if bytes_eq name (codes "subscribes") then subscribes (front 32 rest) (front 32 (back 32 rest)) (back 32 (back 32 rest))
    else (if bytes_eq name (codes "const") then const_of rest
    else (if bytes_eq name (codes "code") then Some Code
    else named_unit name (front 44 rest) (back 44 rest)))))))))

-- a text without a space that a colon (58) ends is a label
unfoldable pub candidate : List ℕ → Option Line
candidate text =
    if has 32 text then headed (front 32 text) (back 32 text)
    else (if has 58 text then when (is_name (front 58 text)) (Label (front 58 text)) else headed text [])

abbrev pub spelled : List ℕ → Option Line → Option Line
spelled text None = None
spelled text (Some l) = if bytes_eq (ended l) text then Some l else None

-- What a line, with its line feed, says.
unfoldable pub said : List ℕ → Option Line
said text = spelled text (candidate (front 10 text))
