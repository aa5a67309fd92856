-- What is written is read.
use Rattle.std.specs.Prelude.{◌≡◌, ◌⊎◌, ℕ, ◌+◌, ◌-◌, ◌*◌, ◌/◌, ◌%◌, ◌^◌, ◌<◌, ◌≤◌, ◌==◌, nat_le, nat_lt, Bool, true, false, List, [], ◌∷◌, ◌++◌, length, drop, Option, Some, None, codes, decimal}
use Rattle.std.specs.Str.{bytes_eq}
use Rattle.std.specs.Char.{digit_char}
use Rattle.std.proofs.Common.{refl, sym, ◌∙◌, ap, ap₂, subst, arith, append_assoc, inl, inr}
use Rattle.std.proofs.lemmas.Bool.{and_parts, and_from, cases_lt, ne_eqb, le-leb, le-ltb, lt-ltb, true≢false, cond-true, cond-false}
use Rattle.std.proofs.lemmas.Slice.Eq.{bytes_eq-Decides}
use Rattle.avr_isa.specs.declared.instruction.Instr.{Instr}
use Rattle.avr_isa.specs.Operands.{IsEncodable}
use Rattle.mote_layout.specs.Page.{kernel_call_count, slot_count}
use Rattle.unit_code.specs.declared.unit.Unit.{Unit}
use Rattle.unit_code.specs.declared.unit.Unit.TheVariants as unit
use Rattle.unit_code.specs.Kinds.{standing_of}
use Rattle.module_image.specs.Contents.{constants_limit}
use Rattle.avr_list.specs.declared.operand.Pointer.TheVariants.{X, Y, Z}
use Rattle.avr_list.specs.declared.operand.Operand.{Operand}
use Rattle.avr_list.specs.declared.operand.Operand.TheVariants.{Register, Number, At, Raised, Lowered, Behind, Address, Target}
use Rattle.avr_list.specs.Instructions.{HasText, instruction_text}
use Rattle.avr_list.specs.Lines.{unit_text}
use Rattle.avr_list.specs.Laws.{MayStand}
use Rattle.avr_list.specs.Operands.{operand_text}
use Rattle.avr_list.proofs.Held.{plain_has_text, skip_has_text, store_has_text}
use Rattle.avr_list.proofs.Said.{Operands, nothing, one, two, instruction_said, joined, unit_is_said}
use Rattle.avr_list.proofs.Ranged.{AreRanged, IsRanged, unit_ranged}
use Rattle.avr_list.proofs.Joined.{IsFree, flat, joined_flat, operand_free}
use Rattle.avr_asm.specs.Text.{are_pairs, are_word, back, front, has, is_goal, is_hex, is_name, is_printable, is_prototype, value}
use Rattle.avr_asm.specs.Line.{Line, Module, Version, State, Handler, Sealed, Provides, Subscribes, Const, Code, Label, Item, Rules, Says, ended, item_text, line_text}
use Rattle.avr_asm.specs.Reading.{aiming, bit, candidate, compared, constant, controlled, headed, loaded, module_id, named_instruction, named_unit, provides, register, said, single, spelled, standing_item, subscribes, wide, when}
use Rattle.avr_asm.specs.Laws.{LinesAreReadInOneWay}
use Rattle.avr_asm.proofs.Texts.{back-none, back-parted, front-parted, front-whole, has-behind, has-parted, lacks-decimal, lacks-word, value-decimal}
use Rattle.avr_asm.proofs.Placed.{said_sound}
use Rattle.avr_asm.proofs.Respelled.{first_of, instruction_headed, instruction_named, name_lacks, second_of, three, reg}

-- A text that is free of a byte lacks it.
free_has : (c : ℕ) (xs : List ℕ) → IsFree c xs → has c xs ≡ false
free_has c [] h = refl
free_has c (x ∷ xs) h = cond-false (x == c) true (has c xs) (ne_eqb x c h.0) ∙ free_has c xs h.1

glyph_not : (d : ℕ) → d < 16 → (digit_char d == 10) ≡ false
glyph_not d h = elim (cases_lt d 10) as (λ z. (digit_char d == 10) ≡ false) [
  | inl low ↦ subst (λ (c : ℕ). (c == 10) ≡ false) (sym (cond-true (nat_lt d 10) (48 + d) (87 + d) (lt-ltb d 10 low))) (ne_eqb (48 + d) 10 (λ e. omega (arith, e)))
  | inr high ↦ subst (λ (c : ℕ). (c == 10) ≡ false) (sym (cond-false (nat_lt d 10) (48 + d) (87 + d) (le-ltb d 10 high))) (ne_eqb (87 + d) 10 (λ e. omega (arith, e)))
]

one_glyph : (x : ℕ) (xs : List ℕ) → (x == 10) ≡ false → has 10 xs ≡ false → has 10 (x ∷ xs) ≡ false
one_glyph x xs h k = cond-false (x == 10) true (has 10 xs) h ∙ k

operand_lacks : (a : Operand) → IsRanged a → has 10 (operand_text a) ≡ false
operand_lacks (Register n) r = lacks-decimal 10 n refl r
operand_lacks (Number n) r = lacks-decimal 10 n refl r
operand_lacks (At X) r = refl
operand_lacks (At Y) r = refl
operand_lacks (At Z) r = refl
operand_lacks (Raised X) r = refl
operand_lacks (Raised Y) r = refl
operand_lacks (Raised Z) r = refl
operand_lacks (Lowered X) r = refl
operand_lacks (Lowered Y) r = refl
operand_lacks (Lowered Z) r = refl
operand_lacks (Behind X q) r = lacks-decimal 10 q refl r
operand_lacks (Behind Y q) r = lacks-decimal 10 q refl r
operand_lacks (Behind Z q) r = lacks-decimal 10 q refl r
operand_lacks (Address a) r =
    one_glyph (digit_char (a / 4096)) (digit_char (a / 256 % 16) ∷ digit_char (a / 16 % 16) ∷ digit_char (a % 16) ∷ []) (glyph_not (a / 4096) (omega (arith, r))) (one_glyph (digit_char (a / 256 % 16)) (digit_char (a / 16 % 16) ∷ digit_char (a % 16) ∷ []) (glyph_not (a / 256 % 16) (omega arith))
    (one_glyph (digit_char (a / 16 % 16)) (digit_char (a % 16) ∷ []) (glyph_not (a / 16 % 16) (omega arith)) (one_glyph (digit_char (a % 16)) [] (glyph_not (a % 16) (omega arith)) refl)))
operand_lacks (Target u) r = lacks-decimal 10 u refl r

-- what stands behind the name
abbrev rest_of : Operands → List ℕ
rest_of nothing = []
rest_of (one a) = operand_text a
rest_of (two a b) = operand_text a ++ (44 ∷ operand_text b)

flat_parted : (name : List ℕ) (p : Operands) → has 32 name ≡ false → has 58 name ≡ false → candidate (flat name p) ≡ headed name (rest_of p)
unfolding candidate
flat_parted name nothing n l = cond-false (has 32 name) _ _ n ∙ cond-false (has 58 name) _ _ l
flat_parted name (one a) n l =
    cond-true (has 32 (name ++ (32 ∷ operand_text a))) _ _ (has-parted 32 name (operand_text a))
    ∙ ap₂ headed (front-parted 32 name (operand_text a) n) (back-parted 32 name (operand_text a) n)
flat_parted name (two a b) n l =
    cond-true (has 32 (name ++ (32 ∷ rest_of (two a b)))) _ _ (has-parted 32 name (rest_of (two a b)))
    ∙ ap₂ headed (front-parted 32 name (rest_of (two a b)) n) (back-parted 32 name (rest_of (two a b)) n)

first_part : (p : Operands) → AreRanged p → front 44 (rest_of p) ≡ first_of p
first_part nothing r = refl
first_part (one a) r = front-whole 44 (operand_text a) (free_has 44 (operand_text a) (operand_free a r))
first_part (two a b) r = front-parted 44 (operand_text a) (operand_text b) (free_has 44 (operand_text a) (operand_free a r.0))

second_part : (p : Operands) → AreRanged p → back 44 (rest_of p) ≡ second_of p
second_part nothing r = refl
second_part (one a) r = back-none 44 (operand_text a) (free_has 44 (operand_text a) (operand_free a r))
second_part (two a b) r = back-parted 44 (operand_text a) (operand_text b) (free_has 44 (operand_text a) (operand_free a r.0))

flat_lacks : (name : List ℕ) (p : Operands) → has 10 name ≡ false → AreRanged p → has 10 (flat name p) ≡ false
flat_lacks name nothing n r = n
flat_lacks name (one a) n r = has-behind 10 name (32 ∷ operand_text a) n ∙ operand_lacks a r
flat_lacks name (two a b) n r = has-behind 10 name (32 ∷ rest_of (two a b)) n ∙ has-behind 10 (operand_text a) (44 ∷ operand_text b) (operand_lacks a r.0) ∙ operand_lacks b r.1

-- what a text proposes, and that it has no line feed
pub record Reads (text : List ℕ) (o : Option Line) : Type 0 where
  pub proposes : candidate text ≡ o
  pub lacks : has 10 text ≡ false

held_reads : (i : Instr) → IsEncodable i → HasText i → AreRanged (instruction_said i).operands → unit_text (unit.Plain i) ≡ joined (instruction_said i).name (instruction_said i).operands → Reads (instruction_text i) (standing_item (standing_of i))
held_reads i e has_text r is =
    let name : List ℕ = (instruction_said i).name in
    let p : Operands = (instruction_said i).operands in
    let text : instruction_text i ≡ flat name p = is ∙ joined_flat name p in
    let lacks = name_lacks i in record {
      proposes = ap candidate text ∙ flat_parted name p lacks.0 lacks.1 ∙ instruction_headed i (rest_of p)
          ∙ ap₂ (λ (a b : List ℕ). standing_item (standing_of (named_instruction name a b))) (first_part p r) (second_part p r)
          ∙ ap (λ (j : Instr). standing_item (standing_of j)) (instruction_named i e has_text);
      lacks = ap (has 10) text ∙ flat_lacks name p lacks.2 r;
    }

own : (u : Unit) (goal : List ℕ) → goal ≡ [] → Some (Item u []) ≡ Some (Item u goal)
own u goal h = ap (λ (g : List ℕ). Some (Item u g)) (sym h)

then : (text : List ℕ) (o p : Option Line) → o ≡ p → Reads text o → Reads text p
then text o p e r = record { proposes = r.proposes ∙ e; lacks = r.lacks }

goal_word : (goal : List ℕ) → is_goal goal ≡ true → are_word goal ≡ true
goal_word goal h = (and_parts (are_word goal) _ h).0

branch_text : (first second : List ℕ) (front : List ℕ) → ((front ++ first) ++ (44 ∷ [])) ++ second ≡ front ++ (first ++ (44 ∷ second))
branch_text first second front = append_assoc (front ++ first) (44 ∷ []) second ∙ append_assoc front first (44 ∷ second)

aimed : (u : Unit) (goal : List ℕ) → is_goal goal ≡ true → aiming u goal ≡ Some (Item u goal)
aimed u goal h = ap (λ (b : Bool). when b (Item u goal)) h

zero_is : (f : ℕ → Unit) (t : ℕ) (goal : List ℕ) → t ≡ 0 → Some (Item (f 0) goal) ≡ Some (Item (f t) goal)
zero_is f t goal h = ap (λ (n : ℕ). Some (Item (f n) goal)) (sym h)

branch_rest : (n : ℕ) (goal : List ℕ) → n < 8 → (bit (front 44 (decimal n ++ (44 ∷ 46 ∷ goal))) ≡ n) × (back 44 (decimal n ++ (44 ∷ 46 ∷ goal)) ≡ 46 ∷ goal)
branch_rest n goal h =
    let lacks = lacks-decimal 44 n refl (omega (arith, h)) in
    (ap bit (front-parted 44 (decimal n) (46 ∷ goal) lacks) ∙ three n h, back-parted 44 (decimal n) (46 ∷ goal) lacks)

number_rest : (n : ℕ) → n < 2 ^ 16 → value (front 44 (decimal n)) ≡ n
number_rest n h = ap value (front-whole 44 (decimal n) (lacks-decimal 44 n refl h)) ∙ value-decimal n h

register_rest : (n : ℕ) → n < 32 → register (front 44 (114 ∷ decimal n)) ≡ n
register_rest n h = ap register (front-whole 44 (114 ∷ decimal n) (lacks-decimal 44 n refl (omega (arith, h)))) ∙ reg n h

below_twelve : (n : ℕ) → n < 12 → n % 12 ≡ n
below_twelve n h = omega (arith, h)

below_sixteen : (n : ℕ) → n < 16 → n % 16 ≡ n
below_sixteen n h = omega (arith, h)

flat_branch : Bool → ℕ → List ℕ → List ℕ
flat_branch true n goal = codes "brbs " ++ (decimal n ++ (44 ∷ 46 ∷ goal))
flat_branch false n goal = codes "brbc " ++ (decimal n ++ (44 ∷ 46 ∷ goal))

branch_is : (set : Bool) (n t : ℕ) (goal : List ℕ) → item_text (unit.Branch set n t) goal ≡ flat_branch set n goal
unfolding flat_branch
branch_is true n t goal = branch_text (decimal n) (46 ∷ goal) (codes "brbs ")
branch_is false n t goal = branch_text (decimal n) (46 ∷ goal) (codes "brbc ")

branch_proposed : (set : Bool) (n : ℕ) (goal : List ℕ) → n < 8 → candidate (flat_branch set n goal) ≡ aiming (unit.Branch set n 0) goal
unfolding candidate headed named_unit flat_branch
branch_proposed true n goal h = let r = branch_rest n goal h in ap₂ (λ (b : ℕ) (rest : List ℕ). aiming (unit.Branch true b 0) (drop 1 rest)) r.0 r.1
branch_proposed false n goal h = let r = branch_rest n goal h in ap₂ (λ (b : ℕ) (rest : List ℕ). aiming (unit.Branch false b 0) (drop 1 rest)) r.0 r.1

branch_lacks : (set : Bool) (n : ℕ) (goal : List ℕ) → n < 8 → are_word goal ≡ true → has 10 (flat_branch set n goal) ≡ false
unfolding flat_branch
branch_lacks true n goal h w = has-behind 10 (decimal n) (44 ∷ 46 ∷ goal) (lacks-decimal 10 n refl (omega (arith, h))) ∙ lacks-word 10 goal refl w
branch_lacks false n goal h w = has-behind 10 (decimal n) (44 ∷ 46 ∷ goal) (lacks-decimal 10 n refl (omega (arith, h))) ∙ lacks-word 10 goal refl w

branch_reads : (set : Bool) (n t : ℕ) (goal : List ℕ) → Rules (Item (unit.Branch set n t) goal) → Reads (item_text (unit.Branch set n t) goal) (Some (Item (unit.Branch set n t) goal))
branch_reads set n t goal h = record {
  proposes = ap candidate (branch_is set n t goal) ∙ branch_proposed set n goal h.0 ∙ aimed (unit.Branch set n 0) goal h.2.1 ∙ zero_is (λ z. unit.Branch set n z) t goal h.2.0;
  lacks = ap (has 10) (branch_is set n t goal) ∙ branch_lacks set n goal h.0 (goal_word goal h.2.1);
}

head_reads : (l : Line) (o : Option Line) → candidate (line_text l) ≡ o → has 10 (line_text l) ≡ false → Reads (line_text l) o
head_reads l o p n = record { proposes = p; lacks = n }

item_reads : (u : Unit) (goal : List ℕ) → Rules (Item u goal) → Reads (item_text u goal) (Some (Item u goal))
unfolding candidate headed named_unit named_instruction compared constant loaded single wide controlled standing_of
item_reads (unit.Plain i) goal h =
    let kind = h.0 in
    let may : MayStand false (unit.Plain i) = record { kind = kind; load = refl; target = tt } in
    then (instruction_text i) _ _ (ap standing_item kind.0 ∙ own (unit.Plain i) goal h.2) (held_reads i kind.1 (plain_has_text i kind.0) (unit_ranged false (unit.Plain i) may) (unit_is_said (unit.Plain i)))
item_reads (unit.Store i) goal h =
    let kind = h.0 in
    let may : MayStand false (unit.Store i) = record { kind = kind; load = tt; target = tt } in
    then (instruction_text i) _ _ (ap standing_item kind.0 ∙ own (unit.Store i) goal h.2) (held_reads i kind.1 (store_has_text i kind.0) (unit_ranged false (unit.Store i) may) (unit_is_said (unit.Store i)))
item_reads (unit.Skip i) goal h =
    let kind = h.0 in
    let may : MayStand false (unit.Skip i) = record { kind = kind; load = tt; target = tt } in
    then (instruction_text i) _ _ (ap standing_item kind.0 ∙ own (unit.Skip i) goal h.2) (held_reads i kind.1 (skip_has_text i kind.0) (unit_ranged false (unit.Skip i) may) (unit_is_said (unit.Skip i)))
item_reads (unit.Load i) goal h = absurd (true≢false (sym h.1))
item_reads (unit.Push r) goal h = record { proposes = ap (λ (n : ℕ). Some (Item (unit.Push n) [])) (register_rest r h.0) ∙ own (unit.Push r) goal h.2; lacks = (let low = h.0 in lacks-decimal 10 r refl (omega (arith, low))) }
item_reads (unit.Pop d) goal h = record { proposes = ap (λ (n : ℕ). Some (Item (unit.Pop n) [])) (register_rest d h.0) ∙ own (unit.Pop d) goal h.2; lacks = (let low = h.0 in lacks-decimal 10 d refl (omega (arith, low))) }
item_reads (unit.SpGroup true) goal h = record { proposes = own (unit.SpGroup true) goal h.2; lacks = refl }
item_reads (unit.SpGroup false) goal h = record { proposes = own (unit.SpGroup false) goal h.2; lacks = refl }
item_reads unit.Reserve goal h = record { proposes = own unit.Reserve goal h.2; lacks = refl }
item_reads unit.SlotIndirect goal h = record { proposes = own unit.SlotIndirect goal h.2; lacks = refl }
item_reads unit.Return goal h = record { proposes = own unit.Return goal h.2; lacks = refl }
item_reads (unit.KernelCall n) goal h =
    let low = h.0 in record {
      proposes = ap (λ (v : ℕ). Some (Item (unit.KernelCall (v % kernel_call_count)) [])) (number_rest n (omega (arith, low)))
          ∙ ap (λ (v : ℕ). Some (Item (unit.KernelCall v) [])) (below_twelve n low) ∙ own (unit.KernelCall n) goal h.2;
      lacks = lacks-decimal 10 n refl (omega (arith, low));
    }
item_reads (unit.SlotCall n) goal h =
    let low = h.0 in record {
      proposes = ap (λ (v : ℕ). Some (Item (unit.SlotCall (v % slot_count)) [])) (number_rest n (omega (arith, low)))
          ∙ ap (λ (v : ℕ). Some (Item (unit.SlotCall v) [])) (below_sixteen n low) ∙ own (unit.SlotCall n) goal h.2;
      lacks = lacks-decimal 10 n refl (omega (arith, low));
    }
item_reads (unit.Jump t) goal h = record {
  proposes = ap (λ (g : List ℕ). aiming (unit.Jump 0) g) (front-whole 44 goal (lacks-word 44 goal refl (goal_word goal h.2.1))) ∙ aimed (unit.Jump 0) goal h.2.1 ∙ zero_is (λ n. unit.Jump n) t goal h.2.0;
  lacks = lacks-word 10 goal refl (goal_word goal h.2.1);
}
item_reads (unit.LocalCall t) goal h = record {
  proposes = ap (λ (g : List ℕ). aiming (unit.LocalCall 0) g) (front-whole 44 goal (lacks-word 44 goal refl (goal_word goal h.2.1))) ∙ aimed (unit.LocalCall 0) goal h.2.1 ∙ zero_is (λ n. unit.LocalCall n) t goal h.2.0;
  lacks = lacks-word 10 goal refl (goal_word goal h.2.1);
}
item_reads (unit.Branch true n t) goal h = branch_reads true n t goal h
item_reads (unit.Branch false n t) goal h = branch_reads false n t goal h

-- a prototype lacks what isn't printable
printable_not : (b c : ℕ) → is_printable b ≡ false → is_printable c ≡ true → (c == b) ≡ false
printable_not b c hb hc = ne_eqb c b (λ e. absurd (true≢false (sym hc ∙ ap is_printable e ∙ hb)))

prototype_lacks : (b : ℕ) (proto : List ℕ) → is_printable b ≡ false → is_prototype proto ≡ true → has b proto ≡ false
prototype_lacks b (w ∷ x ∷ y ∷ z ∷ []) hb h =
    let p = and_parts (is_printable w) _ h in let q = and_parts (is_printable x) _ p.1 in let r = and_parts (is_printable y) _ q.1 in
    cond-false (w == b) true _ (printable_not b w hb p.0) ∙ cond-false (x == b) true _ (printable_not b x hb q.0)
    ∙ cond-false (y == b) true _ (printable_not b y hb r.0) ∙ cond-false (z == b) true _ (printable_not b z hb r.1)
prototype_lacks b _ hb h = absurd (true≢false (sym h))

hex_not : (c : ℕ) → is_hex c ≡ true → (c == 10) ≡ false
hex_not c h = ne_eqb c 10 (λ e. absurd (true≢false (sym h ∙ ap is_hex e)))

pairs_lack : (pairs : List ℕ) → are_pairs pairs ≡ true → has 10 pairs ≡ false
pairs_lack [] h = refl
pairs_lack (x ∷ []) h = absurd (true≢false (sym h))
pairs_lack (x ∷ y ∷ rest) h =
    let p = and_parts (is_hex x) _ h in let q = and_parts (is_hex y) _ p.1 in
    cond-false (x == 10) true _ (hex_not x p.0) ∙ cond-false (y == 10) true _ (hex_not y q.0) ∙ pairs_lack rest q.1

id_is : (id : ℕ) → (1 ≤ id) × (id ≤ 254) → module_id (decimal id) ≡ id
id_is id h = ap (λ (v : ℕ). 1 + (v - 1) % 254) (value-decimal id (omega (arith, h))) ∙ omega (arith, h)

version_is : (v : ℕ) → (v ≡ 1) ⊎ (v ≡ 2) → (v < 2 ^ 16) × (1 + (v - 1) % 2 ≡ v)
version_is v (inl e) = (omega (arith, e), omega (arith, e))
version_is v (inr e) = (omega (arith, e), omega (arith, e))

func_is : (n : ℕ) → n < 256 → value (decimal n) % 256 ≡ n
func_is n h = ap (λ (v : ℕ). v % 256) (value-decimal n (omega (arith, h))) ∙ omega (arith, h)

line_reads : (l : Line) → Rules l → Reads (line_text l) (Some l)
unfolding candidate headed
line_reads (Module id) h = head_reads (Module id) _ (ap (λ (n : ℕ). Some (Module n)) (id_is id h)) (lacks-decimal 10 id refl (omega (arith, h)))
line_reads (Version v) h =
    let e = version_is v h in
    head_reads (Version v) _ (ap (λ (n : ℕ). Some (Version (1 + (n - 1) % 2))) (value-decimal v e.0) ∙ ap (λ (n : ℕ). Some (Version n)) e.1) (lacks-decimal 10 v refl e.0)
line_reads (State size) h =
    let e : size % 65536 ≡ size = omega (arith, h) in
    head_reads (State size) _ (ap (λ (n : ℕ). Some (State (n % 65536))) (value-decimal size h) ∙ ap (λ (n : ℕ). Some (State n)) e) (lacks-decimal 10 size refl h)
line_reads (Handler goal) h = head_reads (Handler goal) _ (ap (λ (b : Bool). when b (Handler goal)) h) (lacks-word 10 goal refl (goal_word goal h))
line_reads Sealed h = record { proposes = refl; lacks = refl }
line_reads Code h = record { proposes = refl; lacks = refl }
line_reads (Const pairs) h =
    head_reads (Const pairs) _ (ap (λ (b : Bool). when b (Const pairs)) (and_from (are_pairs pairs) _ h.0 (and_from (nat_le 1 (length pairs)) _ (le-leb 1 (length pairs) h.1) (le-leb (length pairs) (2 * constants_limit) h.2)))) (pairs_lack pairs h.0)
line_reads (Label name) h =
    let w : are_word name ≡ true = (and_parts (are_word name) _ h).0 in
    head_reads (Label name) _
    (cond-false (has 32 (name ++ (58 ∷ []))) _ _ (has-behind 32 name (58 ∷ []) (lacks-word 32 name refl w))
    ∙ cond-true (has 58 (name ++ (58 ∷ []))) _ _ (has-parted 58 name [])
    ∙ ap (λ (n : List ℕ). when (is_name n) (Label n)) (front-parted 58 name [] (lacks-word 58 name refl w))
    ∙ ap (λ (b : Bool). when b (Label name)) h)
    (has-behind 10 name (58 ∷ []) (lacks-word 10 name refl w))
line_reads (Provides func proto goal) h =
    let number = lacks-decimal 32 func refl (let low = h.0 in omega (arith, low)) in
    let chars = prototype_lacks 32 proto refl h.1 in
    let behind : List ℕ = proto ++ (32 ∷ 46 ∷ goal) in
    let a = front-parted 32 (decimal func) behind number in
    let b = back-parted 32 (decimal func) behind number in
    head_reads (Provides func proto goal) _
    (ap₂ (λ (f rest : List ℕ). provides f (front 32 rest) (drop 1 (back 32 rest))) a b
    ∙ ap₂ (λ (p rest : List ℕ). provides (decimal func) p (drop 1 rest)) (front-parted 32 proto (46 ∷ goal) chars) (back-parted 32 proto (46 ∷ goal) chars)
    ∙ ap (λ (t : Bool). when t (Provides (value (decimal func) % 256) proto goal)) (and_from (is_prototype proto) _ h.1 h.2)
    ∙ ap (λ (n : ℕ). Some (Provides n proto goal)) (func_is func h.0))
    (has-behind 10 (decimal func) (32 ∷ behind) (lacks-decimal 10 func refl (let low = h.0 in omega (arith, low)))
    ∙ has-behind 10 proto (32 ∷ 46 ∷ goal) (prototype_lacks 10 proto refl h.1) ∙ lacks-word 10 goal refl (goal_word goal h.2))
line_reads (Subscribes provider func proto) h =
    let low : provider < 2 ^ 16 = (let p = h.0 in omega (arith, p)) in
    let small : func < 2 ^ 16 = (let p = h.1 in omega (arith, p)) in
    let one = lacks-decimal 32 provider refl low in
    let other = lacks-decimal 32 func refl small in
    let behind : List ℕ = decimal func ++ (32 ∷ proto) in
    head_reads (Subscribes provider func proto) _
    (ap₂ (λ (m rest : List ℕ). subscribes m (front 32 rest) (back 32 rest)) (front-parted 32 (decimal provider) behind one) (back-parted 32 (decimal provider) behind one)
    ∙ ap₂ (λ (f p : List ℕ). subscribes (decimal provider) f p) (front-parted 32 (decimal func) proto other) (back-parted 32 (decimal func) proto other)
    ∙ ap (λ (t : Bool). when t (Subscribes (module_id (decimal provider)) (value (decimal func) % 256) proto)) h.2
    ∙ ap₂ (λ (m n : ℕ). Some (Subscribes m n proto)) (id_is provider h.0) (func_is func h.1))
    (has-behind 10 (decimal provider) (32 ∷ behind) (lacks-decimal 10 provider refl low)
    ∙ has-behind 10 (decimal func) (32 ∷ proto) (lacks-decimal 10 func refl small) ∙ prototype_lacks 10 proto refl h.2)
line_reads (Item u goal) h = item_reads u goal h

pub lines_lack : (l : Line) → Rules l → has 10 (line_text l) ≡ false
lines_lack l h = (line_reads l h).lacks

pub said_own : (l : Line) → Rules l → said (ended l) ≡ Some l
unfolding said
said_own l h =
    let r = line_reads l h in
    ap (λ (t : List ℕ). spelled (ended l) (candidate t)) (front-parted 10 (line_text l) [] r.lacks)
    ∙ ap (spelled (ended l)) r.proposes
    ∙ cond-true (bytes_eq (ended l) (ended l)) (Some l) None ((bytes_eq-Decides (ended l) (ended l)).1 refl)

said_is : (text : List ℕ) (l : Line) → Says text l → said text ≡ Some l
said_is text l h = ap said h.spelled ∙ said_own l h.rules

some_same : (l m : Line) → Some l ≡ Some m → l ≡ m
some_same l m h = cc

pub lines_are_read_in_one_way : LinesAreReadInOneWay
lines_are_read_in_one_way = record {
  sound = said_sound;
  whole = said_is;
  one = λ text l m a b. some_same l m (sym (said_is text l a) ∙ said_is text m b);
}
