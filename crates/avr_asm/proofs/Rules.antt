-- What is proposed keeps its rules.
use Rattle.std.specs.Prelude.{◌≡◌, ℕ, ◌+◌, ◌-◌, ◌*◌, ◌%◌, ◌<◌, ◌⊎◌, nat_le, Bool, true, false, List, [], length, drop, Option, Some, None, codes}
use Rattle.std.specs.Str.{bytes_eq}
use Rattle.std.proofs.Common.{refl, subst, cond, arith, inl, inr}
use Rattle.std.proofs.lemmas.Bool.{and_parts, cases_lt, leb-true}
use Rattle.avr_isa.specs.declared.instruction.Instr.{Instr}
use Rattle.avr_isa.specs.declared.instruction.Instr.TheVariants as instr
use Rattle.avr_isa.specs.Operands.{IsEncodable}
use Rattle.mote_layout.specs.Page.{kernel_call_count, slot_count}
use Rattle.unit_code.specs.declared.unit.Unit.TheVariants as unit
use Rattle.unit_code.specs.declared.kinds.Standing.{Standing}
use Rattle.unit_code.specs.declared.kinds.Standing.TheVariants.{NoInstruction, Barred, Part}
use Rattle.unit_code.specs.declared.kinds.Piece.TheVariants.{Whole, Aimed}
use Rattle.unit_code.specs.Sound.{IsSound}
use Rattle.unit_code.proofs.SoundKinds.{standing_is_sound}
use Rattle.module_image.specs.Contents.{constants_limit}
use Rattle.avr_asm.specs.Text.{are_pairs, back, begins, front, has, is_goal, is_name, is_prototype, value}
use Rattle.avr_asm.specs.Line.{Line, Module, Version, State, Handler, Sealed, Code, Label, Item, Rules}
use Rattle.avr_asm.specs.Reading.{register, upper, middle, pair, upper_pair, byte, six_bits, bit, address, module_id, load, store, load_behind, store_behind, controlled, wide, single, loaded, constant, compared, named_instruction, standing_item, when, aiming, named_unit, provides, subscribes, const_of, headed, candidate}

-- the instruction has its operands in range
record E (i : Instr) : Type 0 where
  range : IsEncodable i

both : (b : Bool) (i j : Instr) → E i → E j → E (cond b i j)
both true i j p q = p
both false i j p q = q

load_encodable : (p : List ℕ) (d : ℕ) → d < 32 → E (load p d)
unfolding load IsEncodable
load_encodable p d h = both (bytes_eq p (codes "x")) (instr.LdX d) _ (record { range = h }) (both (bytes_eq p (codes "x+")) (instr.LdXInc d) _ (record { range = h }) (both (bytes_eq p (codes "-x")) (instr.LdXDec d) _ (record { range = h }) (both (bytes_eq p (codes "y+")) (instr.LdYInc d) _ (record { range = h }) (both (bytes_eq p (codes "-y")) (instr.LdYDec d) _ (record { range = h }) (both (bytes_eq p (codes "z+")) (instr.LdZInc d) (instr.LdZDec d) (record { range = h }) (record { range = h }))))))

store_encodable : (p : List ℕ) (r : ℕ) → r < 32 → E (store p r)
unfolding store IsEncodable
store_encodable p r h = both (bytes_eq p (codes "x")) (instr.StX r) _ (record { range = h }) (both (bytes_eq p (codes "x+")) (instr.StXInc r) _ (record { range = h }) (both (bytes_eq p (codes "-x")) (instr.StXDec r) _ (record { range = h }) (both (bytes_eq p (codes "y+")) (instr.StYInc r) _ (record { range = h }) (both (bytes_eq p (codes "-y")) (instr.StYDec r) _ (record { range = h }) (both (bytes_eq p (codes "z+")) (instr.StZInc r) (instr.StZDec r) (record { range = h }) (record { range = h }))))))

load_behind_encodable : (p : List ℕ) (r : ℕ) → r < 32 → E (load_behind p r)
unfolding IsEncodable
load_behind_encodable p r h = both (begins 121 p) (instr.LddY r (six_bits (drop 2 p))) (instr.LddZ r (six_bits (drop 2 p))) (record { range = (h, omega arith) }) (record { range = (h, omega arith) })

store_behind_encodable : (p : List ℕ) (r : ℕ) → r < 32 → E (store_behind p r)
unfolding IsEncodable
store_behind_encodable p r h = both (begins 121 p) (instr.StdY r (six_bits (drop 2 p))) (instr.StdZ r (six_bits (drop 2 p))) (record { range = (h, omega arith) }) (record { range = (h, omega arith) })

controlled_encodable : (name a b : List ℕ) → E (controlled name a b)
unfolding controlled IsEncodable
controlled_encodable name a b =
    both (bytes_eq name (codes "bld")) (instr.Bld (register a) (bit b)) _ (record { range = (omega arith, omega arith) })
    (both (bytes_eq name (codes "bst")) (instr.Bst (register a) (bit b)) _ (record { range = (omega arith, omega arith) })
    (both (bytes_eq name (codes "sbrc")) (instr.Sbrc (register a) (bit b)) _ (record { range = (omega arith, omega arith) })
    (both (bytes_eq name (codes "sbrs")) (instr.Sbrs (register a) (bit b)) _ (record { range = (omega arith, omega arith) })
    (both (bytes_eq name (codes "push")) (instr.Push (register a)) _ (record { range = omega arith })
    (both (bytes_eq name (codes "pop")) (instr.Pop (register a)) _ (record { range = omega arith })
    (both (bytes_eq name (codes "icall")) (instr.Icall) _ (record { range = tt })
    (both (bytes_eq name (codes "ret")) instr.Ret instr.Nop (record { range = tt })
    (record { range = tt }))))))))

wide_encodable : (name a b : List ℕ) → E (wide name a b)
unfolding wide IsEncodable
wide_encodable name a b =
    both (bytes_eq name (codes "bset")) (instr.Bset (bit a)) _ (record { range = omega arith })
    (both (bytes_eq name (codes "bclr")) (instr.Bclr (bit a)) _ (record { range = omega arith })
    (both (bytes_eq name (codes "adiw")) (instr.Adiw (upper_pair a) (six_bits b)) _ (record { range = ((omega arith, omega arith, omega arith), omega arith) })
    (both (bytes_eq name (codes "sbiw")) (instr.Sbiw (upper_pair a) (six_bits b)) _ (record { range = ((omega arith, omega arith, omega arith), omega arith) })
    (both (bytes_eq name (codes "mul")) (instr.Mul (register a) (register b)) _ (record { range = (omega arith, omega arith) })
    (both (bytes_eq name (codes "in")) (instr.In (register a) (six_bits b)) _ (record { range = (omega arith, omega arith) })
    (both (bytes_eq name (codes "out")) (instr.Out (register b) (six_bits a)) _ (record { range = (omega arith, omega arith) })
    (both (bytes_eq name (codes "ldi")) (instr.Ldi (upper a) (byte b)) _ (record { range = ((omega arith, omega arith), omega arith) })
    (controlled_encodable name a b))))))))

single_encodable : (name a b : List ℕ) → E (single name a b)
unfolding single IsEncodable
single_encodable name a b =
    both (bytes_eq name (codes "com")) (instr.Com (register a)) _ (record { range = omega arith })
    (both (bytes_eq name (codes "neg")) (instr.Neg (register a)) _ (record { range = omega arith })
    (both (bytes_eq name (codes "swap")) (instr.Swap (register a)) _ (record { range = omega arith })
    (both (bytes_eq name (codes "inc")) (instr.Inc (register a)) _ (record { range = omega arith })
    (both (bytes_eq name (codes "asr")) (instr.Asr (register a)) _ (record { range = omega arith })
    (both (bytes_eq name (codes "lsr")) (instr.Lsr (register a)) _ (record { range = omega arith })
    (both (bytes_eq name (codes "ror")) (instr.Ror (register a)) _ (record { range = omega arith })
    (both (bytes_eq name (codes "dec")) (instr.Dec (register a)) _ (record { range = omega arith })
    (wide_encodable name a b))))))))

loaded_encodable : (name a b : List ℕ) → E (loaded name a b)
unfolding loaded IsEncodable
loaded_encodable name a b =
    both (bytes_eq name (codes "ldd")) (load_behind b (register a)) _ (load_behind_encodable b _ (omega arith))
    (both (bytes_eq name (codes "std")) (store_behind a (register b)) _ (store_behind_encodable a _ (omega arith))
    (both (bytes_eq name (codes "lds")) (instr.Lds (register a) (address b)) _ (record { range = (omega arith, omega arith) })
    (both (bytes_eq name (codes "sts")) (instr.Sts (register b) (address a)) _ (record { range = (omega arith, omega arith) })
    (both (bytes_eq name (codes "ld")) (load b (register a)) _ (load_encodable b _ (omega arith))
    (both (bytes_eq name (codes "st")) (store a (register b)) _ (store_encodable a _ (omega arith))
    (single_encodable name a b))))))

constant_encodable : (name a b : List ℕ) → E (constant name a b)
unfolding constant IsEncodable
constant_encodable name a b =
    both (bytes_eq name (codes "cpi")) (instr.Cpi (upper a) (byte b)) _ (record { range = ((omega arith, omega arith), omega arith) })
    (both (bytes_eq name (codes "sbci")) (instr.Sbci (upper a) (byte b)) _ (record { range = ((omega arith, omega arith), omega arith) })
    (both (bytes_eq name (codes "subi")) (instr.Subi (upper a) (byte b)) _ (record { range = ((omega arith, omega arith), omega arith) })
    (both (bytes_eq name (codes "ori")) (instr.Ori (upper a) (byte b)) _ (record { range = ((omega arith, omega arith), omega arith) })
    (both (bytes_eq name (codes "andi")) (instr.Andi (upper a) (byte b)) _ (record { range = ((omega arith, omega arith), omega arith) })
    (loaded_encodable name a b)))))

compared_encodable : (name a b : List ℕ) → E (compared name a b)
unfolding compared IsEncodable
compared_encodable name a b =
    both (bytes_eq name (codes "cp")) (instr.Cp (register a) (register b)) _ (record { range = (omega arith, omega arith) })
    (both (bytes_eq name (codes "sub")) (instr.Sub (register a) (register b)) _ (record { range = (omega arith, omega arith) })
    (both (bytes_eq name (codes "adc")) (instr.Adc (register a) (register b)) _ (record { range = (omega arith, omega arith) })
    (both (bytes_eq name (codes "and")) (instr.And (register a) (register b)) _ (record { range = (omega arith, omega arith) })
    (both (bytes_eq name (codes "eor")) (instr.Eor (register a) (register b)) _ (record { range = (omega arith, omega arith) })
    (both (bytes_eq name (codes "or")) (instr.Or (register a) (register b)) _ (record { range = (omega arith, omega arith) })
    (both (bytes_eq name (codes "mov")) (instr.Mov (register a) (register b)) _ (record { range = (omega arith, omega arith) })
    (constant_encodable name a b)))))))

named_instruction_encodable : (name a b : List ℕ) → E (named_instruction name a b)
unfolding named_instruction IsEncodable
named_instruction_encodable name a b =
    both (bytes_eq name (codes "movw")) (instr.Movw (pair a) (pair b)) _ (record { range = ((omega arith, omega arith), (omega arith, omega arith)) })
    (both (bytes_eq name (codes "muls")) (instr.Muls (upper a) (upper b)) _ (record { range = ((omega arith, omega arith), (omega arith, omega arith)) })
    (both (bytes_eq name (codes "mulsu")) (instr.Mulsu (middle a) (middle b)) _ (record { range = ((omega arith, omega arith), (omega arith, omega arith)) })
    (both (bytes_eq name (codes "fmul")) (instr.Fmul (middle a) (middle b)) _ (record { range = ((omega arith, omega arith), (omega arith, omega arith)) })
    (both (bytes_eq name (codes "fmuls")) (instr.Fmuls (middle a) (middle b)) _ (record { range = ((omega arith, omega arith), (omega arith, omega arith)) })
    (both (bytes_eq name (codes "fmulsu")) (instr.Fmulsu (middle a) (middle b)) _ (record { range = ((omega arith, omega arith), (omega arith, omega arith)) })
    (both (bytes_eq name (codes "cpc")) (instr.Cpc (register a) (register b)) _ (record { range = (omega arith, omega arith) })
    (both (bytes_eq name (codes "sbc")) (instr.Sbc (register a) (register b)) _ (record { range = (omega arith, omega arith) })
    (both (bytes_eq name (codes "add")) (instr.Add (register a) (register b)) _ (record { range = (omega arith, omega arith) })
    (both (bytes_eq name (codes "cpse")) (instr.Cpse (register a) (register b)) _ (record { range = (omega arith, omega arith) })
    (compared_encodable name a b))))))))))

-- what an option holds keeps its rules
abbrev AreKept : Option Line → Type 0
AreKept None = Prim.Unit {0}
AreKept (Some l) = Rules l

record K (o : Option Line) : Type 0 where
  rules : AreKept o

either : (b : Bool) (x y : Option Line) → K x → K y → K (cond b x y)
either true x y p q = p
either false x y p q = q

-- a unit that stands by itself has no goal, since it has no target
standing_kept : (s : Standing) → IsSound s → K (standing_item s)
standing_kept (Part (Whole (unit.Load i))) h = record { rules = tt }
standing_kept (Part (Whole (unit.Branch set bit target))) h = absurd (let none = h.1 0 in omega (arith, none))
standing_kept (Part (Whole (unit.Jump target))) h = absurd (let none = h.1 0 in omega (arith, none))
standing_kept (Part (Whole (unit.LocalCall target))) h = absurd (let none = h.1 0 in omega (arith, none))
standing_kept (Part (Whole (unit.Plain i))) h = record { rules = (h.0, refl, refl) }
standing_kept (Part (Whole u)) h = record { rules = (h.0, tt, refl) }
standing_kept (Part (Aimed aim offset)) h = record { rules = tt }
standing_kept NoInstruction h = record { rules = tt }
standing_kept (Barred kind) h = record { rules = tt }

when_kept : (b : Bool) (l : Line) → (b ≡ true → Rules l) → K (when b l)
when_kept true l h = record { rules = h refl }
when_kept false l h = record { rules = tt }

named_unit_kept : (name a b : List ℕ) → K (named_unit name a b)
unfolding named_unit
named_unit_kept name a b =
    either (bytes_eq name (codes "setsps")) (Some (Item (unit.SpGroup true) [])) _ (record { rules = (tt, tt, refl) })
    (either (bytes_eq name (codes "setsp")) (Some (Item (unit.SpGroup false) [])) _ (record { rules = (tt, tt, refl) })
    (either (bytes_eq name (codes "reserve")) (Some (Item unit.Reserve [])) _ (record { rules = (tt, tt, refl) })
    (either (bytes_eq name (codes "brbs")) (aiming (unit.Branch true (bit a) 0) (drop 1 b)) _ (when_kept (is_goal (drop 1 b)) _ (λ h. (omega arith, tt, (refl, h))))
    (either (bytes_eq name (codes "brbc")) (aiming (unit.Branch false (bit a) 0) (drop 1 b)) _ (when_kept (is_goal (drop 1 b)) _ (λ h. (omega arith, tt, (refl, h))))
    (either (bytes_eq name (codes "rjmp")) (aiming (unit.Jump 0) (drop 1 a)) _ (when_kept (is_goal (drop 1 a)) _ (λ h. (tt, tt, (refl, h))))
    (either (bytes_eq name (codes "rcall")) (aiming (unit.LocalCall 0) (drop 1 a)) _ (when_kept (is_goal (drop 1 a)) _ (λ h. (tt, tt, (refl, h))))
    (either (bytes_eq name (codes "kcall")) (Some (Item (unit.KernelCall (value a % kernel_call_count)) [])) _ (record { rules = (omega arith, tt, refl) })
    (either (bytes_eq name (codes "scall")) (Some (Item (unit.SlotCall (value a % slot_count)) [])) _ (record { rules = (omega arith, tt, refl) })
    (standing_kept _ (standing_is_sound (named_instruction name a b) (named_instruction_encodable name a b).range))))))))))

two_versions : (n : ℕ) → (1 + n % 2 ≡ 1) ⊎ (1 + n % 2 ≡ 2)
two_versions n = elim (cases_lt (n % 2) 1) as (λ z. (1 + n % 2 ≡ 1) ⊎ (1 + n % 2 ≡ 2)) [
  | inl low ↦ inl (omega arith)
  | inr high ↦ inr (omega arith)
]

headed_kept : (name rest : List ℕ) → K (headed name rest)
unfolding headed
headed_kept name rest =
    either (bytes_eq name (codes "module")) (Some (Module (module_id rest))) _ (record { rules = (omega arith, omega arith) })
    (either (bytes_eq name (codes "version")) (Some (Version (1 + (value rest - 1) % 2))) _ (record { rules = two_versions (value rest - 1) })
    (either (bytes_eq name (codes "state")) (Some (State (value rest % 65536))) _ (record { rules = omega arith })
    (either (bytes_eq name (codes "handler")) (when (is_goal (drop 1 rest)) (Handler (drop 1 rest))) _ (when_kept (is_goal (drop 1 rest)) _ (λ h. h))
    (either (bytes_eq name (codes "sealed")) (Some Sealed) _ (record { rules = tt })
    (either (bytes_eq name (codes "provides")) (provides (front 32 rest) (front 32 (back 32 rest)) (drop 1 (back 32 (back 32 rest)))) _ (when_kept _ _ (λ h. let p = and_parts (is_prototype (front 32 (back 32 rest))) _ h in (omega arith, p.0, p.1)))
    (either (bytes_eq name (codes "subscribes")) (subscribes (front 32 rest) (front 32 (back 32 rest)) (back 32 (back 32 rest))) _ (when_kept _ _ (λ h. ((omega arith, omega arith), omega arith, h)))
    (either (bytes_eq name (codes "const")) (const_of rest) _ (when_kept _ _ (λ h. let p = and_parts (are_pairs rest) _ h in let q = and_parts (nat_le 1 (length rest)) _ p.1 in (p.0, leb-true 1 (length rest) q.0, leb-true (length rest) (2 * constants_limit) q.1)))
    (either (bytes_eq name (codes "code")) (Some Code) _ (record { rules = tt })
    (named_unit_kept name (front 44 rest) (back 44 rest))))))))))

candidate_kept : (text : List ℕ) → K (candidate text)
unfolding candidate
candidate_kept text =
    either (has 32 text) (headed (front 32 text) (back 32 text)) _ (headed_kept (front 32 text) (back 32 text))
    (either (has 58 text) (when (is_name (front 58 text)) (Label (front 58 text))) (headed text []) (when_kept (is_name (front 58 text)) _ (λ h. h))
    (headed_kept text []))

pub candidate_rules : (text : List ℕ) (l : Line) → candidate text ≡ Some l → Rules l
candidate_rules text l h = subst AreKept h (candidate_kept text).rules
