-- Units of words that are not refused are spelled by these words.
use Rattle.std.proofs.Common.{◌≡◌, ◌≢◌, ◌∙◌, ℕ, zero, suc, ◌+◌, ◌-◌, ◌^◌, ◌<◌, ◌==◌, ◌||◌, ◌&&◌, ℤ, pos, negsuc, cond, ltb, Bool, true, false, List, [], ◌∷◌, drop, Option, Some, None, Result, Ok, Err, refl, sym, ap, subst, arith}
use Rattle.std.specs.Prelude.{⊤, sum_by, IfSome, option_map}
use Rattle.std.specs.List.{AllByRecursion, cons_option, filter_map}
use Rattle.std.proofs.lemmas.Bool.{and_parts}
use Rattle.std.proofs.lemmas.Bool.Decides.{nat_tests}
use Rattle.avr_isa.specs.Decoded.{decoded}
use Rattle.avr_isa.specs.declared.instruction.Instr.{Instr}
use Rattle.avr_isa.specs.declared.instruction.Instr.TheVariants.{StXInc, StXDec, StYInc, StYDec, StZInc, StZDec, LdXInc, LdXDec, LdYInc, LdYDec, LdZInc, LdZDec, In, Out, Ijmp, Jmp, LpmR0, LpmZ, LpmZInc, ElpmR0, ElpmZ, ElpmZInc, Spm, Reti, Sleep, Wdr, Break, Sbi, Cbi, Sbic, Sbis, Brbs, Brbc, Rjmp, Rcall, Call, Icall, Ret}
use Rattle.avr_isa.specs.declared.instruction.DecodeError.{DecodeError}
use Rattle.avr_isa.specs.Laws.{AreWords}
use Rattle.avr_isa.proofs.TableLaws.{decoded_count, decoded_is_encodable, decoded_length}
use Rattle.mote_layout.specs.Memory.{pointer_x, pointer_y, pointer_z}
use Rattle.mote_layout.specs.declared.page.Entry.{Entry}
use Rattle.mote_layout.specs.declared.page.Entry.TheVariants.{Kernel, Slot}
use Rattle.mote_layout.specs.Page.{entry_at}
use Rattle.mote_layout.proofs.EntryPage.{entry_at-some}
use Rattle.unit_code.specs.declared.items.Item.{Item}
use Rattle.unit_code.specs.declared.unit.Unit.{Unit}
use Rattle.unit_code.specs.declared.unit.Unit.TheVariants.{Plain, Load, Store, SpGroup}
use Rattle.unit_code.specs.declared.kinds.Standing.{Standing}
use Rattle.unit_code.specs.declared.kinds.Standing.TheVariants.{NoInstruction, Barred, Part}
use Rattle.unit_code.specs.declared.kinds.Piece.TheVariants.{Whole, Aimed}
use Rattle.unit_code.specs.declared.kinds.Aim.{Aim}
use Rattle.unit_code.specs.declared.kinds.Aim.TheVariants.{Branching, Jumping, Calling}
use Rattle.unit_code.specs.Items.{found, is_word, items_from, items_of, next_word, out_sph, out_spl, out_sreg, read}
use Rattle.unit_code.specs.Kinds.{is_spl_or_sph, is_sreg, off_pointer, standing_call, standing_entry, standing_in, standing_of, standing_out, standing_rcall, whole}
use Rattle.unit_code.specs.Lengths.{instruction_length}
use Rattle.unit_code.specs.Loads.{guarded, is_load, load_where}
use Rattle.unit_code.specs.Sound.{AreSound, IsSound}
use Rattle.unit_code.specs.Spelled.{AreInstructionsOf, BeginWith, IsSpelled, Spell, offset_to, out_high, out_low, out_status}
use Rattle.unit_code.specs.Targets.{reached}
use Rattle.unit_code.specs.Units.{listed, places_of, refusal, to_unit, unit_at, unit_of}
use Rattle.unit_code.proofs.Entered.{marks_numbered}
use Rattle.unit_code.proofs.Offsets.{LeadsTo, leads_to, next_is_zero}
use Rattle.unit_code.proofs.Places.{places_in}
use Rattle.unit_code.proofs.ProperUnits.{AreClean, IsClean, clean_items, no_refusal, proper_units}
use Rattle.unit_code.proofs.SoundKinds.{standing_is_sound}

-- what an aimed instruction is
abbrev pub IsAimedBy : Instr → Aim → ℤ → Type 0
IsAimedBy i (Branching true bit) offset = i ≡ Brbs bit offset
IsAimedBy i (Branching false bit) offset = i ≡ Brbc bit offset
IsAimedBy i Jumping offset = i ≡ Rjmp offset
IsAimedBy i Calling offset = (i ≡ Rcall offset) × (offset ≢ pos zero)

-- What stands at a word tells its instruction.
abbrev pub IsBack : List ℕ → ℕ → Instr → Standing → Type 0
IsBack firsts place i NoInstruction = ⊤
IsBack firsts place i (Barred kind) = ⊤
IsBack firsts place i (Part (Whole u)) = AreInstructionsOf firsts place u (i ∷ [])
IsBack firsts place i (Part (Aimed aim offset)) = IsAimedBy i aim offset

by_test : (firsts : List ℕ) (place : ℕ) (i : Instr) (b : Bool) (s t : Standing) → (b ≡ true → IsBack firsts place i s) → (b ≡ false → IsBack firsts place i t) → IsBack firsts place i (cond b s t)
by_test firsts place i true s t holds fails = holds refl
by_test firsts place i false s t holds fails = fails refl

off_back : (firsts : List ℕ) (place : ℕ) (i : Instr) (low r : ℕ) (u : Unit) → AreInstructionsOf firsts place u (i ∷ []) → IsBack firsts place i (off_pointer low r u)
off_back firsts place i low r u back = by_test firsts place i (r == low || r == low + 1) (Barred 6) (whole u) (λ _. tt) (λ _. back)

in_back : (firsts : List ℕ) (place : ℕ) (i : Instr) (port : ℕ) (u : Unit) → AreInstructionsOf firsts place u (i ∷ []) → IsBack firsts place i (standing_in port u)
in_back firsts place i port u back = by_test firsts place i (is_spl_or_sph port || is_sreg port) (whole u) (Barred 4) (λ _. back) (λ _. tt)

out_back : (firsts : List ℕ) (place : ℕ) (i : Instr) (port : ℕ) (u : Unit) → AreInstructionsOf firsts place u (i ∷ []) → IsBack firsts place i (standing_out port u)
out_back firsts place i port u back =
    by_test firsts place i (is_sreg port) (whole u) (cond (is_spl_or_sph port) (Barred 5) (Barred 4)) (λ _. back) (λ _. by_test firsts place i (is_spl_or_sph port) (Barred 5) (Barred 4) (λ _. tt) (λ _. tt))

rcall_back : (firsts : List ℕ) (place : ℕ) (offset : ℤ) → IsBack firsts place (Rcall offset) (standing_rcall offset)
rcall_back firsts place (pos zero) = refl
rcall_back firsts place (pos (suc k)) = (refl, λ same. cc)
rcall_back firsts place (negsuc k) = (refl, λ same. cc)

entry_back : (firsts : List ℕ) (place : ℕ) (o : Option Entry) (address : ℕ) → entry_at address ≡ o → IsBack firsts place (Call address) (standing_entry o)
entry_back firsts place None address is = tt
entry_back firsts place (Some (Kernel n)) address is = (address, (entry_at-some address (Kernel n)).0 is, refl)
entry_back firsts place (Some (Slot n)) address is = (address, (entry_at-some address (Slot n)).0 is, refl)
entry_back firsts place (Some _) address is = tt

call_back : (firsts : List ℕ) (place address : ℕ) → IsBack firsts place (Call address) (standing_call address)
call_back firsts place address = by_test firsts place (Call address) (ltb address (2 ^ 16)) (standing_entry (entry_at address)) (Barred 7) (λ _. entry_back firsts place (entry_at address) address refl) (λ _. tt)

standing_back : (firsts : List ℕ) (place : ℕ) (i : Instr) → IsBack firsts place i (standing_of i)
unfolding standing_of
standing_back firsts place (Brbs bit offset) = refl
standing_back firsts place (Brbc bit offset) = refl
standing_back firsts place (Rjmp offset) = refl
standing_back firsts place (Rcall offset) = rcall_back firsts place offset
standing_back firsts place (Call address) = call_back firsts place address
standing_back firsts place Icall = refl
standing_back firsts place Ret = refl
standing_back firsts place (StXInc r) = off_back firsts place (StXInc r) pointer_x r (Store (StXInc r)) refl
standing_back firsts place (StXDec r) = off_back firsts place (StXDec r) pointer_x r (Store (StXDec r)) refl
standing_back firsts place (StYInc r) = off_back firsts place (StYInc r) pointer_y r (Store (StYInc r)) refl
standing_back firsts place (StYDec r) = off_back firsts place (StYDec r) pointer_y r (Store (StYDec r)) refl
standing_back firsts place (StZInc r) = off_back firsts place (StZInc r) pointer_z r (Store (StZInc r)) refl
standing_back firsts place (StZDec r) = off_back firsts place (StZDec r) pointer_z r (Store (StZDec r)) refl
standing_back firsts place (LdXInc d) = off_back firsts place (LdXInc d) pointer_x d (Plain (LdXInc d)) refl
standing_back firsts place (LdXDec d) = off_back firsts place (LdXDec d) pointer_x d (Plain (LdXDec d)) refl
standing_back firsts place (LdYInc d) = off_back firsts place (LdYInc d) pointer_y d (Plain (LdYInc d)) refl
standing_back firsts place (LdYDec d) = off_back firsts place (LdYDec d) pointer_y d (Plain (LdYDec d)) refl
standing_back firsts place (LdZInc d) = off_back firsts place (LdZInc d) pointer_z d (Plain (LdZInc d)) refl
standing_back firsts place (LdZDec d) = off_back firsts place (LdZDec d) pointer_z d (Plain (LdZDec d)) refl
standing_back firsts place (In d port) = in_back firsts place (In d port) port (Plain (In d port)) refl
standing_back firsts place (Out r port) = out_back firsts place (Out r port) port (Plain (Out r port)) refl
standing_back firsts place Ijmp = tt
standing_back firsts place (Jmp k) = tt
standing_back firsts place LpmR0 = tt
standing_back firsts place (LpmZ d) = tt
standing_back firsts place (LpmZInc d) = tt
standing_back firsts place ElpmR0 = tt
standing_back firsts place (ElpmZ d) = tt
standing_back firsts place (ElpmZInc d) = tt
standing_back firsts place Spm = tt
standing_back firsts place Reti = tt
standing_back firsts place Sleep = tt
standing_back firsts place Wdr = tt
standing_back firsts place Break = tt
standing_back firsts place (Sbi A b) = tt
standing_back firsts place (Cbi A b) = tt
standing_back firsts place (Sbic A b) = tt
standing_back firsts place (Sbis A b) = tt
standing_back firsts place i = refl

-- What is known of an item: its unit, with the words of the unit's instructions.
record IsUnitThere (sealed : Bool) (firsts : List ℕ) (place : ℕ) (standing : Standing) (words rest : List ℕ) (further : ℕ) : Type 0 where
  unit : Unit
  is : unit_at sealed firsts place standing ≡ Some unit
  instructions : List Instr
  opened : AreInstructionsOf firsts place unit instructions
  begin : BeginWith instructions words rest
  count : sum_by instruction_length instructions ≡ suc further

-- an aimed instruction is that of its unit
aimed_back : (firsts : List ℕ) (place : ℕ) (i : Instr) (aim : Aim) (offset : ℤ) → IsAimedBy i aim offset → (l : LeadsTo firsts place offset) → AreInstructionsOf firsts place (to_unit aim l.number) (i ∷ [])
aimed_back firsts place i (Branching true bit) offset is l = ap (λ j. j ∷ []) (is ∙ ap (Brbs bit) (sym l.offset_is))
aimed_back firsts place i (Branching false bit) offset is l = ap (λ j. j ∷ []) (is ∙ ap (Brbc bit) (sym l.offset_is))
aimed_back firsts place i Jumping offset is l = ap (λ j. j ∷ []) (is ∙ ap Rjmp (sym l.offset_is))
aimed_back firsts place i Calling offset is l =
    (ap (λ j. j ∷ []) (is.0 ∙ ap Rcall (sym l.offset_is)), λ next. is.1 (sym l.offset_is ∙ ap (offset_to place) next ∙ next_is_zero place))

-- a word and its instruction
alone : (w : ℕ) (ws : List ℕ) (i : Instr) (n : ℕ) → decoded w (next_word ws) ≡ Ok (i, n) → decoded w (next_word ws) ≡ Ok (i, instruction_length i)
alone w ws i n is = is ∙ ap (λ k. Ok (i, k)) (decoded_length w (next_word ws) i n is)

counted : (w : ℕ) (ws : List ℕ) (i : Instr) (n : ℕ) → decoded w (next_word ws) ≡ Ok (i, n) → sum_by instruction_length (i ∷ []) ≡ suc (n - 1)
counted w ws i n is =
    let one = decoded_count w (next_word ws) i n is in
    let length = decoded_length w (next_word ws) i n is in
    omega (arith, one.0, length)

left : (w : ℕ) (ws : List ℕ) (i : Instr) (n : ℕ) → decoded w (next_word ws) ≡ Ok (i, n) → drop (instruction_length i) (w ∷ ws) ≡ drop (n - 1) ws
left w ws i n is =
    let one = decoded_count w (next_word ws) i n is in
    let length = decoded_length w (next_word ws) i n is in
    let more : instruction_length i ≡ suc (n - 1) = omega (arith, one.0, length) in
    ap (λ k. drop k (w ∷ ws)) more

-- what holds on both sides of a test holds of the choice
pick : (P : Standing × ℕ → Type 0) (b : Bool) (x y : Standing × ℕ) → (b ≡ true → P x) → P y → P (cond b x y)
pick P true x y holds other = holds refl
pick P false x y holds other = other

equal : (a b : ℕ) → (a == b) ≡ true → a ≡ b
equal a b h = grind (arith, nat_tests)

-- a load has its one instruction in any image
load_opened : (b : Bool) (firsts : List ℕ) (place : ℕ) (i : Instr) (is : List Instr) → is ≡ i ∷ [] → AreInstructionsOf firsts place (load_where b i) is
load_opened true firsts place i is opened = opened
load_opened false firsts place i is opened = opened

guarded_opened : (sealed : Bool) (firsts : List ℕ) (place : ℕ) (u : Unit) (is : List Instr) → AreInstructionsOf firsts place u is → AreInstructionsOf firsts place (guarded sealed u) is
guarded_opened sealed firsts place (Plain i) is opened = load_opened (sealed && is_load i) firsts place i is opened
guarded_opened sealed firsts place (Load i) is opened = load_opened (sealed && is_load i) firsts place i is opened
guarded_opened sealed firsts place _ is opened = opened

-- one instruction by itself
single : (sealed : Bool) (firsts : List ℕ) (place : ℕ) (i : Instr) (n : ℕ) (standing : Standing) (behind : List Item) (w : ℕ) (ws : List ℕ)
    → decoded w (next_word ws) ≡ Ok (i, n) → IsBack firsts place i standing → IsClean firsts place standing behind
    → IsUnitThere sealed firsts place standing (w ∷ ws) (drop (n - 1) ws) (n - 1)
single sealed firsts place i n NoInstruction behind w ws is back clean = absurd clean
single sealed firsts place i n (Barred kind) behind w ws is back clean = absurd clean
single sealed firsts place i n (Part (Whole u)) behind w ws is back clean =
    record { unit = guarded sealed u; is = refl; instructions = i ∷ []; opened = guarded_opened sealed firsts place u (i ∷ []) back; begin = (alone w ws i n is, left w ws i n is); count = counted w ws i n is }
single sealed firsts place i n (Part (Aimed aim offset)) behind w ws is back clean =
    let l = leads_to firsts place offset (reached place offset) refl clean in
    record {
      unit = to_unit aim l.number;
      is = ap (option_map (to_unit aim)) l.is;
      instructions = i ∷ [];
      opened = aimed_back firsts place i aim offset back l;
      begin = (alone w ws i n is, left w ws i n is);
      count = counted w ws i n is;
    }

read_there : (sealed : Bool) (firsts : List ℕ) (place : ℕ) (behind : List Item) (w : ℕ) (ws : List ℕ) (o : Result (Instr × ℕ) DecodeError)
    → decoded w (next_word ws) ≡ o → IsClean firsts place (read o).0 behind
    → IsUnitThere sealed firsts place (read o).0 (w ∷ ws) (drop (read o).1 ws) (read o).1
read_there sealed firsts place behind w ws (Err e) is clean = absurd clean
read_there sealed firsts place behind w ws (Ok (i, n)) is clean = single sealed firsts place i n (standing_of i) behind w ws is (standing_back firsts place i) clean

word_is : (expected : ℕ) (o : Option ℕ) → is_word expected o ≡ true → o ≡ Some expected
word_is expected None h = cc
word_is expected (Some w) h = let same : w ≡ expected = grind (arith, nat_tests) in ap Some same

-- the words of a group
pub high_word : (second : Option ℕ) → decoded out_sph second ≡ Ok (out_high, 1)
unfolding decoded
high_word second = refl

pub status_word : (second : Option ℕ) → decoded out_sreg second ≡ Ok (out_status, 1)
unfolding decoded
status_word second = refl

pub low_word : (second : Option ℕ) → decoded out_spl second ≡ Ok (out_low, 1)
unfolding decoded
low_word second = refl

three : (w : ℕ) (ws : List ℕ) → w ≡ out_sph → next_word ws ≡ Some out_sreg → next_word (drop 1 ws) ≡ Some out_spl
    → BeginWith (out_high ∷ out_status ∷ out_low ∷ []) (w ∷ ws) (drop 2 ws)
three w [] is second third = cc
three w (v ∷ []) is second third = cc
three w (v ∷ u ∷ ws) is second third =
    let v_is : v ≡ out_sreg = cc in
    let u_is : u ≡ out_spl = cc in
    (ap (λ x. decoded x (Some v)) is ∙ high_word (Some v), (ap (λ x. decoded x (Some u)) v_is ∙ status_word (Some u), (ap (λ x. decoded x (next_word ws)) u_is ∙ low_word (next_word ws), refl)))

two : (w : ℕ) (ws : List ℕ) → w ≡ out_sph → next_word ws ≡ Some out_spl → BeginWith (out_high ∷ out_low ∷ []) (w ∷ ws) (drop 1 ws)
two w [] is second = cc
two w (v ∷ ws) is second =
    let v_is : v ≡ out_spl = cc in
    (ap (λ x. decoded x (Some v)) is ∙ high_word (Some v), (ap (λ x. decoded x (next_word ws)) v_is ∙ low_word (next_word ws), refl))

-- what stands at a word is a unit, with its words
there : (sealed : Bool) (firsts : List ℕ) (place : ℕ) (behind : List Item) (w : ℕ) (ws : List ℕ)
    → IsClean firsts place (found w (next_word ws) (next_word (drop 1 ws))).0 behind
    → IsUnitThere sealed firsts place (found w (next_word ws) (next_word (drop 1 ws))).0 (w ∷ ws) (drop (found w (next_word ws) (next_word (drop 1 ws))).1 ws) (found w (next_word ws) (next_word (drop 1 ws))).1
unfolding found
there sealed firsts place behind w ws =
    let P : Standing × ℕ → Type 0 = λ f. IsClean firsts place f.0 behind → IsUnitThere sealed firsts place f.0 (w ∷ ws) (drop f.1 ws) f.1 in
    let s = next_word ws in
    let t = next_word (drop 1 ws) in
    let plain : P (read (decoded w s)) = read_there sealed firsts place behind w ws (decoded w s) refl in
    let second : P (cond (w == out_sph && is_word out_spl s) (whole (SpGroup false), 1) (read (decoded w s))) =
    pick P (w == out_sph && is_word out_spl s) (whole (SpGroup false), 1) (read (decoded w s)) (λ h. let parts = and_parts (w == out_sph) (is_word out_spl s) h in λ clean. record {
      unit = SpGroup false;
      is = refl;
      instructions = out_high ∷ out_low ∷ [];
      opened = refl;
      begin = two w ws (equal w out_sph parts.0) (word_is out_spl s parts.1);
      count = refl;
    }) plain in
    pick P (w == out_sph && is_word out_sreg s && is_word out_spl t) (whole (SpGroup true), 2) (cond (w == out_sph && is_word out_spl s) (whole (SpGroup false), 1) (read (decoded w s))) (λ h.
    let parts = and_parts (w == out_sph && is_word out_sreg s) (is_word out_spl t) h in
    let words = and_parts (w == out_sph) (is_word out_sreg s) parts.0 in λ clean. record {
      unit = SpGroup true;
      is = refl;
      instructions = out_high ∷ out_status ∷ out_low ∷ [];
      opened = refl;
      begin = three w ws (equal w out_sph words.0) (word_is out_sreg s words.1) (word_is out_spl t parts.1);
      count = refl;
    }) second

-- The items' units, one after the other.
spelled_from : (sealed : Bool) (firsts : List ℕ) (over place : ℕ) (words : List ℕ) → AreClean firsts (items_from over place words)
    → Spell firsts (place + over) (places_in (items_from over place words)) (filter_map (unit_of sealed firsts) (items_from over place words)) (drop over words)
spelled_from sealed firsts zero place [] clean = refl
spelled_from sealed firsts (suc over) place [] clean = refl
spelled_from sealed firsts zero place (w ∷ ws) clean =
    let f = found w (next_word ws) (next_word (drop 1 ws)) in
    let items = items_from f.1 (place + 1) ws in
    let here = there sealed firsts place items w ws clean.0 in
    let rest = spelled_from sealed firsts f.1 (place + 1) ws clean.1 in
    let us = filter_map (unit_of sealed firsts) items in
    let next : place + 1 + f.1 ≡ place + 0 + sum_by instruction_length here.instructions = omega (arith, here.count) in
    let same : place + 0 ≡ place = omega arith in
    let P : List Unit → Type 0 = λ l. Spell firsts (place + 0) (place ∷ places_in items) l (w ∷ ws) in
    let Q : ℕ → Type 0 = λ n. Spell firsts n (places_in items) us (drop f.1 ws) in
    let R : ℕ → Type 0 = λ n. AreInstructionsOf firsts n here.unit here.instructions in
    subst P (sym (ap (λ o. cons_option o us) here.is))
    (sym same, here.instructions, drop f.1 ws, subst R (sym same) here.opened, here.begin, subst Q next rest)
spelled_from sealed firsts (suc over) place (w ∷ ws) clean =
    let rest = spelled_from sealed firsts over (place + 1) ws clean in
    let next : place + 1 + over ≡ place + suc over = omega arith in
    let Q : ℕ → Type 0 = λ n. Spell firsts n (places_in (items_from over (place + 1) ws)) (filter_map (unit_of sealed firsts) (items_from over (place + 1) ws)) (drop over ws) in
    subst Q next rest

-- What is read is sound, since each word has 16 bits.
pub small_next : (ws : List ℕ) → AllByRecursion (λ word. word < 2 ^ 16) ws → IfSome (next_word ws) (λ k. k < 2 ^ 16)
small_next [] small = tt
small_next (w ∷ ws) small = small.0

read_sound : (w : ℕ) (second : Option ℕ) (o : Result (Instr × ℕ) DecodeError) → AreWords w second → decoded w second ≡ o → IsSound (read o).0
read_sound w second (Err e) words is = tt
read_sound w second (Ok (i, n)) words is = standing_is_sound i (decoded_is_encodable w second i n words is)

found_sound : (w : ℕ) (second third : Option ℕ) → AreWords w second → IsSound (found w second third).0
unfolding found
found_sound w second third words =
    let P : Standing × ℕ → Type 0 = λ f. IsSound f.0 in
    pick P (w == out_sph && is_word out_sreg second && is_word out_spl third) (whole (SpGroup true), 2) (cond (w == out_sph && is_word out_spl second) (whole (SpGroup false), 1) (read (decoded w second))) (λ _. (tt, λ count. tt))
    (pick P (w == out_sph && is_word out_spl second) (whole (SpGroup false), 1) (read (decoded w second)) (λ _. (tt, λ count. tt)) (read_sound w second (decoded w second) words refl))

sound_from : (over place : ℕ) (words : List ℕ) → AllByRecursion (λ word. word < 2 ^ 16) words → AreSound (items_from over place words)
sound_from over place [] small = tt
sound_from zero place (w ∷ ws) small =
    (found_sound w (next_word ws) (next_word (drop 1 ws)) (small.0, small_next ws small.1), sound_from (found w (next_word ws) (next_word (drop 1 ws))).1 (place + 1) ws small.1)
sound_from (suc over) place (w ∷ ws) small = sound_from over (place + 1) ws small.1

pub sound_items : (words : List ℕ) → AllByRecursion (λ word. word < 2 ^ 16) words → AreSound (items_of words)
sound_items words small = sound_from 0 0 words small

pub accepted_are_spelled : (words marks : List ℕ) (sealed : Bool) → AllByRecursion (λ word. word < 2 ^ 16) words → refusal words marks sealed ≡ None → IsSpelled words marks sealed (listed words marks sealed)
unfolding listed
accepted_are_spelled words marks sealed small none =
    let parts = no_refusal words marks sealed none in
    record {
      spelled = spelled_from sealed (places_of words) 0 0 words (clean_items (places_of words) (items_of words) parts.0);
      entered = marks_numbered (places_of words) marks parts.2;
      proper = proper_units words marks sealed none (sound_items words small);
    }
