-- Instructions that begin with a template tell its form, by the first of them and what it asks of the next ones.
use Rattle.std.proofs.Common.{◌≡◌, ◌∙◌, ℕ, ◌==◌, Bool, true, false, cond, not, ℤ, pos, negsuc, List, [], ◌∷◌, ◌++◌, length, Option, Some, refl, sym, ap, subst, arith, ◌<◌}
use Rattle.std.specs.Prelude.{⊤}
use Rattle.std.proofs.lemmas.Bool.{cond-false, eqb-true, false_from_ne_true}
use Rattle.std.proofs.lemmas.List.{append_cancel_left}
use Rattle.avr_isa.specs.declared.instruction.Instr.TheVariants as instr
use Rattle.avr_isa.specs.declared.instruction.Instr.{Instr}
use Rattle.avr_isa.specs.Operands.{IsEncodable}
use Rattle.mote_layout.specs.declared.page.Entry.TheVariants as entry
use Rattle.mote_layout.specs.declared.page.Entry.{Entry}
use Rattle.mote_layout.specs.Memory.{sreg_port}
use Rattle.mote_layout.specs.Page.{entry_at}
use Rattle.mote_layout.proofs.EntryPage.{entry_at-some}
use Rattle.unit_code.specs.declared.form.Form.TheVariants.{Whole, ShortSkip, LongSkip, ShortBranch, LongBranch, Jumping, Calling}
use Rattle.unit_code.specs.declared.form.Form.{Form}
use Rattle.unit_code.specs.declared.kinds.Piece.TheVariants as piece
use Rattle.unit_code.specs.declared.kinds.Standing.TheVariants.{Part}
use Rattle.unit_code.specs.declared.kinds.Standing.{Standing}
use Rattle.unit_code.specs.declared.unit.Unit.TheVariants as unit
use Rattle.unit_code.specs.declared.unit.Unit.{Unit}
use Rattle.unit_code.specs.Beside.{BeginsWithJump, BeginsWithJumpOver, IsReadSo, Stands}
use Rattle.unit_code.specs.Kinds.{standing_of, whole}
use Rattle.unit_code.specs.Spelled.{out_high, out_low, out_status}
use Rattle.unit_code.specs.Templates.{IsEntry, IsForm, address_of, enter, guard_of, template}
use Rattle.unit_code.proofs.Entries.{stands}
use Rattle.harbor_spell.proofs.Standings.{IsCalled, is_called}

-- The unit behind a guard. OUT stands there for a group: it sets SREG too where the next one does.
with_sreg : List Instr → Bool
with_sreg (instr.Out r port ∷ left) = port == sreg_port
with_sreg left = false

behind : Instr → Standing → List Instr → Unit
behind i (Part (piece.Whole (unit.Store x))) left = unit.Store i
behind i (Part (piece.Whole (unit.Plain x))) left = unit.Load i
behind i (Part (piece.Whole u)) left = u
behind i other left = unit.SpGroup (with_sreg left)

-- how far the RJMP leads that comes first
far_of : List Instr → ℤ
far_of (instr.Rjmp far ∷ left) = far
far_of left = pos 0

key_call : Option Entry → List Instr → Form
key_call (Some entry.LocalCall) left = Calling (far_of left)
key_call (Some entry.SlotIndirect) left = Whole unit.SlotIndirect
key_call (Some entry.Reserve) left = Whole unit.Reserve
key_call (Some (entry.Kernel n)) left = Whole (unit.KernelCall n)
key_call (Some (entry.Slot n)) left = Whole (unit.SlotCall n)
key_call e (i ∷ left) = Whole (behind i (standing_of i) left)
key_call e [] = Whole unit.Return

-- one over a word is long where an RJMP follows
key_branch : Bool → ℕ → ℤ → List Instr → Form
key_branch set bit (pos n) (instr.Rjmp far ∷ left) = cond (n == 1) (LongBranch (not set) bit far) (ShortBranch set bit (pos n))
key_branch set bit far left = ShortBranch set bit far

key_skip : Instr → List Instr → Form
key_skip skip (instr.Rjmp (pos n) ∷ left) = cond (n == 1) (LongSkip skip (far_of left)) (ShortSkip skip)
key_skip skip left = ShortSkip skip

key_other : Instr → Standing → List Instr → Form
key_other i (Part (piece.Whole (unit.Skip x))) left = key_skip i left
key_other i other left = Whole (unit.Plain i)

-- The form by which the instructions begin, if they begin with a template.
key : List Instr → Form
key [] = Whole unit.Return
key (instr.Call address ∷ left) = key_call (entry_at address) left
key (instr.Jmp address ∷ left) = Whole unit.Return
key (instr.Rjmp far ∷ left) = Jumping far
key (instr.Brbs bit far ∷ left) = key_branch true bit far left
key (instr.Brbc bit far ∷ left) = key_branch false bit far left
key (i ∷ left) = key_other i (standing_of i) left

-- no RJMP follows that makes a short form long
abbrev pub StaysShort : Form → List Instr → Type 0
StaysShort (ShortSkip skip) left = ¬ BeginsWithJumpOver left
StaysShort (ShortBranch set bit far) left = far ≡ pos 1 → ¬ BeginsWithJump left
StaysShort other left = ⊤

pub stays_short : (f : Form) (left : List Instr) → IsReadSo f left → StaysShort f left
stays_short (ShortSkip skip) left reads = reads.0
stays_short (ShortBranch set bit far) left reads = reads
stays_short other left reads = tt

at_entry : (e : Entry) (left : List Instr) → IsEntry e → key (enter e ∷ left) ≡ key_call (Some e) left
unfolding key
at_entry e left h = ap (λ o. key_call o left) ((entry_at-some (address_of e) e).1 (stands e h))

guard_entry : (i : Instr) → IsEncodable i → IsEntry (guard_of i)
unfolding IsEncodable
guard_entry (instr.StdY r q) enc = enc.1
guard_entry (instr.StdZ r q) enc = enc.1
guard_entry (instr.LddY d q) enc = enc.1
guard_entry (instr.LddZ d q) enc = enc.1
guard_entry other enc = tt

guard_call : (i j : Instr) (left : List Instr) → key_call (Some (guard_of i)) (j ∷ left) ≡ Whole (behind j (standing_of j) left)
unfolding key_call
guard_call (instr.StX r) j left = refl
guard_call other j left = refl

at_guard : (i : Instr) (left : List Instr) (st : Standing) → standing_of i ≡ st → IsEncodable i → key (enter (guard_of i) ∷ i ∷ left) ≡ Whole (behind i st left)
at_guard i left st is enc = at_entry (guard_of i) (i ∷ left) (guard_entry i enc) ∙ guard_call i i left ∙ ap (λ s. Whole (behind i s left)) is

-- an instruction that stands for a unit by itself, and is no call of an entry
at_other : (i : Instr) (u : Unit) (left : List Instr) → standing_of i ≡ whole u → ((a : ℕ) → IsCalled a (whole u) → ⊥) → key (i ∷ left) ≡ key_other i (whole u) left
unfolding key standing_of
at_other (instr.Call a) u left is uncalled = absurd (uncalled a (subst (IsCalled a) is (is_called a)))
at_other (instr.Jmp a) u left is uncalled = cc
at_other (instr.Rjmp far) u left is uncalled = cc
at_other (instr.Brbs bit far) u left is uncalled = cc
at_other (instr.Brbc bit far) u left is uncalled = cc
at_other i u left is uncalled = ap (λ st. key_other i st left) is

short_skip : (skip : Instr) (left : List Instr) → ¬ BeginsWithJumpOver left → key_skip skip left ≡ ShortSkip skip
unfolding key_skip
short_skip skip [] none = refl
short_skip skip (instr.Rjmp (pos n) ∷ left) none =
    cond-false (n == 1) _ _ (false_from_ne_true (n == 1) (λ one. none (left, ap (λ m. instr.Rjmp (pos m) ∷ left) (eqb-true n 1 one))))
short_skip skip (instr.Rjmp (negsuc n) ∷ left) none = refl
short_skip skip (j ∷ left) none = refl

short_branch : (set : Bool) (bit : ℕ) (far : ℤ) (left : List Instr) → (far ≡ pos 1 → ¬ BeginsWithJump left) → key_branch set bit far left ≡ ShortBranch set bit far
unfolding key_branch
short_branch set bit (pos n) (instr.Rjmp far ∷ left) none =
    cond-false (n == 1) _ _ (false_from_ne_true (n == 1) (λ one. none (ap pos (eqb-true n 1 one)) (far, left, refl)))
short_branch set bit (pos n) [] none = refl
short_branch set bit (pos n) (j ∷ left) none = refl
short_branch set bit (negsuc n) left none = refl

whole_key : (u : Unit) (left : List Instr) → IsForm (Whole u) → key (template (Whole u) ++ left) ≡ Whole u
unfolding key key_call key_other behind with_sreg standing_of
whole_key (unit.Plain i) left h = at_other i (unit.Plain i) left h.0.0 (λ a so. so)
whole_key (unit.Store i) left h = at_guard i left (whole (unit.Store i)) h.0.0 h.0.1
whole_key (unit.Load i) left h = at_guard i left (whole (unit.Plain i)) h.0.0 h.0.2
whole_key (unit.Push r) left h = at_entry entry.PushGuard (instr.Push r ∷ left) tt
whole_key (unit.Pop d) left h = at_entry entry.PopGuard (instr.Pop d ∷ left) tt
whole_key (unit.SpGroup true) left h = at_entry entry.SpGuard (out_high ∷ out_status ∷ out_low ∷ left) tt
whole_key (unit.SpGroup false) left h = at_entry entry.SpGuard (out_high ∷ out_low ∷ left) tt
whole_key unit.Reserve left h = at_entry entry.Reserve left tt
whole_key (unit.KernelCall n) left h = at_entry (entry.Kernel n) left h.0
whole_key (unit.SlotCall n) left h = at_entry (entry.Slot n) left h.0
whole_key unit.SlotIndirect left h = at_entry entry.SlotIndirect left tt
whole_key unit.Return left h = refl
whole_key other left h = absurd h.1

-- Instructions that begin with a template tell its form.
key_is : (f : Form) (left : List Instr) → IsForm f → StaysShort f left → key (template f ++ left) ≡ f
unfolding key key_call key_branch key_skip key_other far_of
key_is (Whole u) left kind short = whole_key u left kind
key_is (ShortSkip skip) left kind short = at_other skip (unit.Skip skip) left kind.0 (λ a so. so) ∙ short_skip skip left short
key_is (LongSkip skip far) left kind short = at_other skip (unit.Skip skip) (instr.Rjmp (pos 1) ∷ instr.Rjmp far ∷ left) kind.0 (λ a so. so)
key_is (ShortBranch true bit far) left kind short = short_branch true bit far left short
key_is (ShortBranch false bit far) left kind short = short_branch false bit far left short
key_is (LongBranch true bit far) left kind short = refl
key_is (LongBranch false bit far) left kind short = refl
key_is (Jumping far) left kind short = refl
key_is (Calling far) left kind short = at_entry entry.LocalCall (instr.Rjmp far ∷ left) tt

-- So one template comes first.
pub one_form : (f g : Form) (is left others : List Instr) → IsForm f → IsForm g → StaysShort f left → StaysShort g others → is ≡ template f ++ left → is ≡ template g ++ others → f ≡ g
one_form f g is left others kind sort short brief at there = sym (key_is f left kind short) ∙ ap key (sym at ∙ there) ∙ key_is g others sort brief

pub one_stands : (sealed : Bool) (f g : Form) (is left others : List Instr) → Stands sealed f is left → Stands sealed g is others → (f ≡ g) × (left ≡ others)
one_stands sealed f g is left others h k =
    let same = one_form f g is left others h.kind k.kind (stays_short f left h.read) (stays_short g others k.read) h.words k.words in
    (same, append_cancel_left (template g) left others (ap (λ x. template x ++ left) (sym same) ∙ sym h.words ∙ k.words))

-- a template has an instruction
pub template_some : (f : Form) → IsForm f → 0 < length (template f)
template_some (Whole (unit.SpGroup true)) kind = omega arith
template_some (Whole (unit.SpGroup false)) kind = omega arith
template_some (Whole (unit.Skip i)) kind = absurd kind.1
template_some (Whole (unit.Branch set bit t)) kind = absurd kind.1
template_some (Whole (unit.Jump t)) kind = absurd kind.1
template_some (Whole (unit.LocalCall t)) kind = absurd kind.1
template_some other kind = omega arith
