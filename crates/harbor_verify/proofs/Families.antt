-- The template that is read first stands there, and one that stands there is read.
use Rattle.std.proofs.Common.{◌≡◌, ◌∙◌, ℕ, ◌+◌, ◌≤◌, ◌<◌, ◌==◌, ◌&&◌, ◌||◌, cond, Bool, true, false, not, List, [], ◌∷◌, ◌++◌, drop, length, Option, Some, None, is_some, ℤ, pos, negsuc, refl, sym, ap, ap₂, subst, arith, inl, inr}
use Rattle.std.specs.Prelude.{⊤, option_map}
use Rattle.std.specs.List.{AllByRecursion}
use Rattle.std.proofs.lemmas.Bool.{cases_lt, cond-true, eq-eqb, eqb-true}
use Rattle.std.proofs.lemmas.Option.{none-some, same_Some}
use Rattle.avr_isa.specs.Operands.{IsBit, IsEncodable}
use Rattle.avr_isa.specs.declared.instruction.Instr.{Instr}
use Rattle.avr_isa.specs.declared.instruction.Instr.TheVariants as instr
use Rattle.mote_layout.specs.Memory.{pointer_y, spl_port, sph_port, sreg_port}
use Rattle.mote_layout.specs.declared.page.Entry.{Entry}
use Rattle.mote_layout.specs.declared.page.Entry.TheVariants as entry
use Rattle.unit_code.specs.Beside.{BeginsWithJump, BeginsWithJumpOver, BeginsWithSeveral, IsReadSo}
use Rattle.unit_code.specs.Kinds.{standing_of, whole}
use Rattle.unit_code.specs.Loads.{is_load}
use Rattle.unit_code.specs.Spelled.{out_high, out_low, out_status}
use Rattle.unit_code.specs.Templates.{IsForm, address_of, branch, enter, guard_of, template}
use Rattle.unit_code.specs.declared.form.Form.{Form}
use Rattle.unit_code.specs.declared.form.Form.TheVariants.{Whole, ShortSkip, LongSkip, ShortBranch, LongBranch, Jumping, Calling}
use Rattle.unit_code.specs.declared.kinds.Aim.TheVariants as aim
use Rattle.unit_code.specs.declared.kinds.Piece.TheVariants as piece
use Rattle.unit_code.specs.declared.kinds.Standing.{Standing}
use Rattle.unit_code.specs.declared.kinds.Standing.TheVariants.{Barred, Part}
use Rattle.unit_code.specs.declared.unit.Unit.{Unit}
use Rattle.unit_code.specs.declared.unit.Unit.TheVariants as unit
use Rattle.harbor_spell.proofs.Standings.{Back, back}
use Rattle.harbor_verify.specs.Decoding.{entry_called}
use Rattle.harbor_verify.specs.Reading.{checked, first_of_two, group, group_behind, group_low, guarded, guarded_by, is_out, is_over_one, jump_first, jumps_over, long_branch, long_skip, offset_of_jump, out_first, several_by, several_called, several_entered, several_first, short_skip, single_by, single_called, single_entered, template_first}
use Rattle.harbor_verify.proofs.Entered.{entered_several, entered_single, is_store, load_guarded, standing_called, stands_called, store_guarded}

abbrev Encodable : List Instr → Type 0
Encodable is = AllByRecursion IsEncodable is

-- What the tests say.
jump_is : (i : Instr) (k : ℤ) → offset_of_jump i ≡ Some k → i ≡ instr.Rjmp k
jump_is (instr.Rjmp offset) k e = ap instr.Rjmp (same_Some offset k e)
jump_is _ k e = cc

jump_there : (is : List Instr) (k : ℤ) → jump_first is ≡ Some k → is ≡ instr.Rjmp k ∷ drop 1 is
jump_there [] k e = cc
jump_there (i ∷ is) k e = ap (λ j. j ∷ is) (jump_is i k e)

over_one : (k : ℤ) → is_over_one k ≡ true → k ≡ pos 1
over_one (pos n) e = ap pos (eqb-true n 1 e)
over_one (negsuc n) e = cc

jump_over : (o : Option ℤ) → jumps_over o ≡ true → o ≡ Some (pos 1)
jump_over None e = cc
jump_over (Some k) e = ap Some (over_one k e)

both_hold : (a b : Bool) → (a && b) ≡ true → (a ≡ true) × (b ≡ true)
both_hold true b e = (refl, e)
both_hold false b e = cc

neither_holds : (a b : Bool) → (a || b) ≡ false → (a ≡ false) × (b ≡ false)
neither_holds true b e = cc
neither_holds false b e = (refl, e)

out_is : (r p : ℕ) (i : Instr) → is_out r p i ≡ true → i ≡ instr.Out r p
out_is r p (instr.Out q o) e =
    let same = both_hold (q == r) (o == p) e in
    ap₂ (λ (x y : ℕ). instr.Out x y) (eqb-true q r same.0) (eqb-true o p same.1)
out_is r p _ e = cc

out_there : (r p : ℕ) (is : List Instr) → out_first r p is ≡ true → is ≡ instr.Out r p ∷ drop 1 is
out_there r p [] e = cc
out_there r p (i ∷ is) e = ap (λ j. j ∷ is) (out_is r p i e)

twice : (b : Bool) → not (not b) ≡ b
twice true = refl
twice false = refl

-- A template of several instructions comes first.
pub record IsSeveral (f : Form) (is : List Instr) : Type 0 where
  pub kind : IsForm f
  pub rest : List Instr
  pub words : is ≡ template f ++ rest
  pub two : 2 ≤ length (template f)

abbrev Severals : List Instr → Option Form → Type 0
Severals is None = ⊤
Severals is (Some f) = IsSeveral f is

-- what holds where a test does
where_true : (is : List Instr) (b : Bool) (o : Option Form) → (b ≡ true → Severals is o) → Severals is (cond b o None)
where_true is true o h = h refl
where_true is false o h = tt

-- what holds of a form with the offset of a jump
with_jump : (is behind : List Instr) (make : ℤ → Form) → ((k : ℤ) → behind ≡ instr.Rjmp k ∷ drop 1 behind → IsSeveral (make k) is) → Severals is (option_map make (jump_first behind))
with_jump is behind make h =
    elim (jump_first behind) as (λ o. jump_first behind ≡ o → Severals is (option_map make o)) [
      | None ↦ λ e. tt
      | Some k ↦ λ e. h k (jump_there behind k e)
    ] refl

skip_sound : (i : Instr) (is : List Instr) → standing_of i ≡ whole (unit.Skip i) → IsEncodable i → Severals (i ∷ is) (long_skip i is)
skip_sound i is st enc =
    where_true (i ∷ is) (jumps_over (jump_first is)) (option_map (λ k. LongSkip i k) (jump_first (drop 1 is))) (λ e.
    with_jump (i ∷ is) (drop 1 is) (λ k. LongSkip i k) (λ k there. record {
      kind = (st, enc);
      rest = drop 1 (drop 1 is);
      words = ap (λ l. i ∷ l) (jump_there is (pos 1) (jump_over (jump_first is) e) ∙ ap (λ l. instr.Rjmp (pos 1) ∷ l) there);
      two = omega arith;
    }))

branch_sound : (i : Instr) (set : Bool) (bit : ℕ) (offset : ℤ) (is : List Instr) → i ≡ branch set bit offset → IsBit bit → Severals (i ∷ is) (long_branch set bit offset is)
branch_sound i set bit offset is same fits =
    where_true (i ∷ is) (is_over_one offset) (option_map (λ k. LongBranch (not set) bit k) (jump_first is)) (λ e.
    with_jump (i ∷ is) is (λ k. LongBranch (not set) bit k) (λ k there. record {
      kind = fits;
      rest = drop 1 is;
      words = ap₂ (λ (x : Instr) (l : List Instr). x ∷ l) (same ∙ ap (branch set bit) (over_one offset e) ∙ ap (λ b. branch b bit (pos 1)) (sym (twice set))) there;
      two = omega arith;
    }))

local_sound : (a : ℕ) (is : List Instr) → a ≡ 0xF094 → Severals (instr.Call a ∷ is) (option_map (λ k. Calling k) (jump_first is))
local_sound a is at =
    with_jump (instr.Call a ∷ is) is (λ k. Calling k) (λ k there. record {
      kind = tt;
      rest = drop 1 is;
      words = ap₂ (λ (x : ℕ) (l : List Instr). instr.Call x ∷ l) at there;
      two = omega arith;
    })

low_sound : (with_sreg : Bool) (front is : List Instr) → template (Whole (unit.SpGroup with_sreg)) ≡ front ++ out_low ∷ [] → 2 ≤ length (template (Whole (unit.SpGroup with_sreg)))
    → (all : List Instr) → all ≡ front ++ is → ((rest : List Instr) → front ++ out_low ∷ rest ≡ template (Whole (unit.SpGroup with_sreg)) ++ rest) → Severals all (group_low with_sreg is)
low_sound with_sreg front is written two all split so =
    where_true all (out_first pointer_y spl_port is) (Some (Whole (unit.SpGroup with_sreg))) (λ e. record {
      kind = (tt, tt);
      rest = drop 1 is;
      words = split ∙ ap (λ l. front ++ l) (out_there pointer_y spl_port is e) ∙ so (drop 1 is);
      two = two;
    })

behind_sound : (a : ℕ) (is : List Instr) → a ≡ 0xF093 → Severals (instr.Call a ∷ out_high ∷ is) (group_behind is)
behind_sound a is at =
    let all = instr.Call a ∷ out_high ∷ is in
    let begun : all ≡ (enter entry.SpGuard ∷ out_high ∷ is) = ap (λ x. instr.Call x ∷ out_high ∷ is) at in
    elim (out_first 0 sreg_port is) as (λ b. out_first 0 sreg_port is ≡ b → Severals all (cond b (group_low true (drop 1 is)) (group_low false is))) [
      | true ↦ λ e.
          low_sound true (enter entry.SpGuard ∷ out_high ∷ out_status ∷ []) (drop 1 is) refl (omega arith) all
          (begun ∙ ap (λ l. enter entry.SpGuard ∷ out_high ∷ l) (out_there 0 sreg_port is e)) (λ rest. refl)
      | false ↦ λ e. low_sound false (enter entry.SpGuard ∷ out_high ∷ []) is refl (omega arith) all begun (λ rest. refl)
    ] refl

group_sound : (a : ℕ) (is : List Instr) → a ≡ 0xF093 → Severals (instr.Call a ∷ is) (group is)
group_sound a is at =
    where_true (instr.Call a ∷ is) (out_first (pointer_y + 1) sph_port is) (group_behind (drop 1 is)) (λ e.
    let P : List Instr → Type 0 = λ l. Severals (instr.Call a ∷ l) (group_behind (drop 1 is)) in
    subst P (sym (out_there (pointer_y + 1) sph_port is e)) (behind_sound a (drop 1 is) at))

-- behind the guard of a unit
checked_at : (a : ℕ) (i : Instr) (is : List Instr) (u : Unit) (e : Entry) → IsForm (Whole u) → template (Whole u) ≡ enter e ∷ i ∷ [] → Severals (instr.Call a ∷ i ∷ is) (guarded_by a (Some (u, e)))
checked_at a i is u e kind written =
    where_true (instr.Call a ∷ i ∷ is) (a == address_of e) (Some (Whole u)) (λ at. record {
      kind = kind;
      rest = is;
      words = ap (λ x. instr.Call x ∷ i ∷ is) (eqb-true a (address_of e) at) ∙ sym (ap (λ l. l ++ is) written);
      two = let n = ap length written in omega (arith, n);
    })

checked_sound : (a : ℕ) (i : Instr) (st : Standing) (is : List Instr) → standing_of i ≡ st → Back i st → IsEncodable i → Severals (instr.Call a ∷ i ∷ is) (guarded_by a (checked i st))
unfolding IsEncodable
checked_sound a i (Part (piece.Whole (unit.Push r))) is st so enc =
    checked_at a i is (unit.Push r) entry.PushGuard ((let fits : IsEncodable (instr.Push r) = subst IsEncodable so enc in fits), tt) (ap (λ x. enter entry.PushGuard ∷ x ∷ []) (sym so))
checked_sound a i (Part (piece.Whole (unit.Pop d))) is st so enc =
    checked_at a i is (unit.Pop d) entry.PopGuard ((let fits : IsEncodable (instr.Pop d) = subst IsEncodable so enc in fits), tt) (ap (λ x. enter entry.PopGuard ∷ x ∷ []) (sym so))
checked_sound a i (Part (piece.Whole (unit.Store x))) is st so enc =
    checked_at a i is (unit.Store i) (guard_of i) ((st ∙ ap (λ y. whole (unit.Store y)) so.0, enc), tt) refl
checked_sound a i (Part (piece.Whole (unit.Plain x))) is st so enc =
    elim (is_load i) as (λ b. is_load i ≡ b → Severals (instr.Call a ∷ i ∷ is) (guarded_by a (cond b (Some (unit.Load i, guard_of i)) None))) [
      | true ↦ λ load. checked_at a i is (unit.Load i) (guard_of i) ((st ∙ ap (λ y. whole (unit.Plain y)) so, load, enc), tt) refl
      | false ↦ λ load. tt
    ] refl
checked_sound a i _ is st so enc = tt

guarded_sound : (a : ℕ) (is : List Instr) → Encodable is → Severals (instr.Call a ∷ is) (guarded a is)
guarded_sound a [] enc = tt
guarded_sound a (i ∷ is) enc = checked_sound a i (standing_of i) is refl (back i) enc.0

entered_sound : (a : ℕ) (o : Option Entry) (is : List Instr) → entry_called a ≡ o → Encodable is → Severals (instr.Call a ∷ is) (several_entered a o is)
entered_sound a None is e enc = tt
entered_sound a (Some entry.LocalCall) is e enc = local_sound a is (stands_called a entry.LocalCall e)
entered_sound a (Some entry.SpGuard) is e enc = group_sound a is (stands_called a entry.SpGuard e)
entered_sound a (Some entry.SlotIndirect) is e enc = tt
entered_sound a (Some entry.Reserve) is e enc = tt
entered_sound a (Some _) is e enc = guarded_sound a is enc

called_sound : (i : Instr) (is : List Instr) → Encodable is → Severals (i ∷ is) (several_called i is)
called_sound (instr.Call a) is enc = entered_sound a (entry_called a) is refl enc
called_sound _ is enc = tt

bit_of_branch : (i : Instr) (set : Bool) (bit : ℕ) (offset : ℤ) → IsEncodable i → i ≡ branch set bit offset → IsBit bit
unfolding IsEncodable
bit_of_branch i true bit offset enc same = let e : IsEncodable (instr.Brbs bit offset) = subst IsEncodable same enc in e.0
bit_of_branch i false bit offset enc same = let e : IsEncodable (instr.Brbc bit offset) = subst IsEncodable same enc in e.0

is_branch : (i : Instr) (set : Bool) (bit : ℕ) (offset : ℤ) → Back i (Part (piece.Aimed (aim.Branching set bit) offset)) → i ≡ branch set bit offset
is_branch i true bit offset so = so
is_branch i false bit offset so = so

several_by_sound : (i : Instr) (st : Standing) (is : List Instr) → standing_of i ≡ st → Back i st → IsEncodable i → Encodable is → Severals (i ∷ is) (several_by i st is)
several_by_sound i (Part (piece.Whole (unit.Skip x))) is st so enc all = skip_sound i is (st ∙ ap (λ y. whole (unit.Skip y)) so.0) enc
several_by_sound i (Part (piece.Aimed (aim.Branching set bit) offset)) is st so enc all =
    let same = is_branch i set bit offset so in
    branch_sound i set bit offset is same (bit_of_branch i set bit offset enc same)
several_by_sound i (Barred kind) is st so enc all = called_sound i is all
several_by_sound i _ is st so enc all = tt

severals : (is : List Instr) → Encodable is → Severals is (several_first is)
severals [] enc = tt
severals (i ∷ is) enc = several_by_sound i (standing_of i) is refl (back i) enc.0 enc.1

pub several_sound : (is : List Instr) (f : Form) → Encodable is → several_first is ≡ Some f → IsSeveral f is
several_sound is f enc e = let P : Option Form → Type 0 = Severals is in subst P e (severals is enc)

-- The other way: a template of several instructions is read.
several_whole : (u : Unit) (rest : List Instr) → IsForm (Whole u) → 2 ≤ length (template (Whole u)) → several_first (template (Whole u) ++ rest) ≡ Some (Whole u)
unfolding standing_of
several_whole (unit.Plain i) rest kind two = absurd (omega (arith, two))
several_whole (unit.Store i) rest kind two =
    let g = store_guarded i kind.0.1 (is_store i kind.0.0) in
    let a = address_of (guard_of i) in
    entered_several (guard_of i) (i ∷ rest) g.entry g.barred ∙ g.several a (i ∷ rest)
    ∙ ap (λ st. guarded_by a (checked i st)) kind.0.0 ∙ cond-true (a == a) (Some (Whole (unit.Store i))) None (eq-eqb a a refl)
several_whole (unit.Load i) rest kind two =
    let g = load_guarded i kind.0.2 kind.0.1 in
    let a = address_of (guard_of i) in
    entered_several (guard_of i) (i ∷ rest) g.entry g.barred ∙ g.several a (i ∷ rest)
    ∙ ap (λ st. guarded_by a (checked i st)) kind.0.0
    ∙ ap (λ b. guarded_by a (cond b (Some (unit.Load i, guard_of i)) None)) kind.0.1
    ∙ cond-true (a == a) (Some (Whole (unit.Load i))) None (eq-eqb a a refl)
several_whole (unit.Push r) rest kind two = entered_several entry.PushGuard (instr.Push r ∷ rest) tt refl
several_whole (unit.Pop d) rest kind two = entered_several entry.PopGuard (instr.Pop d ∷ rest) tt refl
several_whole (unit.SpGroup true) rest kind two = entered_several entry.SpGuard (out_high ∷ out_status ∷ out_low ∷ rest) tt refl
several_whole (unit.SpGroup false) rest kind two = entered_several entry.SpGuard (out_high ∷ out_low ∷ rest) tt refl
several_whole (unit.Skip i) rest kind two = absurd kind.1
several_whole (unit.Branch set bit t) rest kind two = absurd kind.1
several_whole (unit.Jump t) rest kind two = absurd kind.1
several_whole (unit.LocalCall t) rest kind two = absurd kind.1
several_whole _ rest kind two = absurd (omega (arith, two))

pub several_complete : (f : Form) (rest : List Instr) → IsForm f → 2 ≤ length (template f) → several_first (template f ++ rest) ≡ Some f
unfolding standing_of
several_complete (Whole u) rest kind two = several_whole u rest kind two
several_complete (ShortSkip i) rest kind two = absurd (omega (arith, two))
several_complete (LongSkip i k) rest kind two = ap (λ st. several_by i st (instr.Rjmp (pos 1) ∷ instr.Rjmp k ∷ rest)) kind.0
several_complete (ShortBranch set bit k) rest kind two = absurd (omega (arith, two))
several_complete (LongBranch true bit k) rest kind two = refl
several_complete (LongBranch false bit k) rest kind two = refl
several_complete (Jumping k) rest kind two = absurd (omega (arith, two))
several_complete (Calling k) rest kind two = entered_several entry.LocalCall (instr.Rjmp k ∷ rest) tt refl

-- The template that is read first.
pub record IsRead (f : Form) (is : List Instr) : Type 0 where
  pub kind : IsForm f
  pub rest : List Instr
  pub words : is ≡ template f ++ rest
  pub read : IsReadSo f rest

abbrev Reads : List Instr → Option Form → Type 0
Reads is None = ⊤
Reads is (Some f) = IsRead f is

-- a template of several instructions is so whatever follows
several_reads : (f : Form) (rest : List Instr) → 2 ≤ length (template f) → IsReadSo f rest
several_reads (ShortSkip i) rest two = absurd (omega (arith, two))
several_reads (ShortBranch set bit k) rest two = absurd (omega (arith, two))
several_reads _ rest two = tt

no_jump_over : (is : List Instr) → jumps_over (jump_first is) ≡ false → ¬ BeginsWithJumpOver is
no_jump_over is e h = let t : jumps_over (jump_first is) ≡ true = ap (λ l. jumps_over (jump_first l)) h.1 in cc

no_several : (is : List Instr) → is_some (several_first is) ≡ false → ¬ BeginsWithSeveral is
no_several is e h =
    let f : Form = h.0 in
    let there : several_first is ≡ Some f = ap several_first h.4 ∙ several_complete f h.1 h.2 h.3 in
    let t : is_some (several_first is) ≡ true = ap (λ o. is_some o) there in
    cc

short_skip_reads : (i : Instr) (is : List Instr) → standing_of i ≡ whole (unit.Skip i) → IsEncodable i → Reads (i ∷ is) (short_skip i is)
short_skip_reads i is st enc =
    elim (jumps_over (jump_first is) || is_some (several_first is)) as (λ b. (jumps_over (jump_first is) || is_some (several_first is)) ≡ b → Reads (i ∷ is) (cond b None (Some (ShortSkip i)))) [
      | true ↦ λ e. tt
      | false ↦ λ e.
          let both = neither_holds (jumps_over (jump_first is)) (is_some (several_first is)) e in
          record { kind = (st, enc); rest = is; words = refl; read = (no_jump_over is both.0, no_several is both.1) }
    ] refl

no_long_branch : (set : Bool) (bit : ℕ) (offset : ℤ) (is : List Instr) → long_branch set bit offset is ≡ None → offset ≡ pos 1 → ¬ BeginsWithJump is
no_long_branch set bit offset is e one h =
    let there : long_branch set bit offset is ≡ Some (LongBranch (not set) bit h.0) = ap (λ k. long_branch set bit k is) one ∙ ap (long_branch set bit (pos 1)) h.2 in
    none-some (LongBranch (not set) bit h.0) (sym e ∙ there)

single_entered_reads : (a : ℕ) (o : Option Entry) (is : List Instr) → entry_called a ≡ o → Reads (instr.Call a ∷ is) (single_entered o)
single_entered_reads a (Some entry.SlotIndirect) is e = record { kind = (tt, tt); rest = is; words = ap (λ x. instr.Call x ∷ is) (stands_called a entry.SlotIndirect e); read = tt }
single_entered_reads a (Some entry.Reserve) is e = record { kind = (tt, tt); rest = is; words = ap (λ x. instr.Call x ∷ is) (stands_called a entry.Reserve e); read = tt }
single_entered_reads a _ is e = tt

single_called_reads : (i : Instr) (is : List Instr) → Reads (i ∷ is) (single_called i)
single_called_reads (instr.Call a) is = single_entered_reads a (entry_called a) is refl
single_called_reads (instr.Jmp a) is =
    elim (a == address_of entry.Return) as (λ b. (a == address_of entry.Return) ≡ b → Reads (instr.Jmp a ∷ is) (cond b (Some (Whole unit.Return)) None)) [
      | true ↦ λ e. record { kind = (tt, tt); rest = is; words = ap (λ x. instr.Jmp x ∷ is) (eqb-true a (address_of entry.Return) e); read = tt }
      | false ↦ λ e. tt
    ] refl
single_called_reads _ is = tt

single_reads : (i : Instr) (st : Standing) (is : List Instr) → standing_of i ≡ st → Back i st → IsEncodable i → several_by i st is ≡ None → Reads (i ∷ is) (single_by i st is)
single_reads i (Part (piece.Whole (unit.Plain x))) is st so enc none =
    record { kind = ((st ∙ ap (λ y. whole (unit.Plain y)) so, enc), tt); rest = is; words = refl; read = tt }
single_reads i (Part (piece.Whole (unit.KernelCall n))) is st so enc none = record { kind = (so.1, tt); rest = is; words = ap (λ x. x ∷ is) so.0; read = tt }
single_reads i (Part (piece.Whole (unit.SlotCall n))) is st so enc none = record { kind = (so.1, tt); rest = is; words = ap (λ x. x ∷ is) so.0; read = tt }
single_reads i (Part (piece.Whole (unit.Skip x))) is st so enc none = short_skip_reads i is (st ∙ ap (λ y. whole (unit.Skip y)) so.0) enc
single_reads i (Part (piece.Aimed (aim.Branching set bit) offset)) is st so enc none =
    let same = is_branch i set bit offset so in
    record { kind = bit_of_branch i set bit offset enc same; rest = is; words = ap (λ x. x ∷ is) same; read = no_long_branch set bit offset is none }
single_reads i (Part (piece.Aimed aim.Jumping offset)) is st so enc none = record { kind = tt; rest = is; words = ap (λ x. x ∷ is) so; read = tt }
single_reads i (Barred kind) is st so enc none = single_called_reads i is
single_reads i _ is st so enc none = tt

reads_first : (is : List Instr) → Encodable is → Reads is (template_first is)
reads_first [] enc = tt
reads_first (i ∷ is) enc =
    elim (several_by i (standing_of i) is) as (λ o. several_by i (standing_of i) is ≡ o → Reads (i ∷ is) (first_of_two o (single_by i (standing_of i) is))) [
      | None ↦ λ e. single_reads i (standing_of i) is refl (back i) enc.0 e
      | Some f ↦ λ e.
          let h = several_sound (i ∷ is) f enc e in
          record { kind = h.kind; rest = h.rest; words = h.words; read = several_reads f h.rest h.two }
    ] refl

-- what is read stands there
pub template_sound : (is : List Instr) (f : Form) → Encodable is → template_first is ≡ Some f → IsRead f is
template_sound is f enc e = let P : Option Form → Type 0 = Reads is in subst P e (reads_first is enc)

several_is_first : (is : List Instr) (f : Form) → several_first is ≡ Some f → template_first is ≡ Some f
several_is_first [] f e = cc
several_is_first (i ∷ is) f e = ap (λ o. first_of_two o (single_by i (standing_of i) is)) e

-- a short skip is read where it may stand
jump_over_comes : (is : List Instr) → jumps_over (jump_first is) ≡ true → BeginsWithJumpOver is
jump_over_comes is e = (drop 1 is, jump_there is (pos 1) (jump_over (jump_first is) e))

several_comes : (is : List Instr) → Encodable is → is_some (several_first is) ≡ true → BeginsWithSeveral is
several_comes is enc e =
    elim (several_first is) as (λ o. several_first is ≡ o → is_some o ≡ true → BeginsWithSeveral is) [
      | None ↦ λ there e. cc
      | Some f ↦ λ there e. let h = several_sound is f enc there in (f, h.rest, h.kind, h.two, h.words)
    ] refl e

not_true : (b : Bool) → (b ≡ true → ⊥) → b ≡ false
not_true true h = absurd (h refl)
not_true false h = refl

short_skip_read : (i : Instr) (rest : List Instr) → Encodable rest → IsReadSo (ShortSkip i) rest → first_of_two (long_skip i rest) (short_skip i rest) ≡ Some (ShortSkip i)
short_skip_read i rest enc so =
    let over = not_true (jumps_over (jump_first rest)) (λ e. so.0 (jump_over_comes rest e)) in
    let several = not_true (is_some (several_first rest)) (λ e. so.1 (several_comes rest enc e)) in
    ap (λ b. first_of_two (cond b (option_map (λ k. LongSkip i k) (jump_first (drop 1 rest))) None) (short_skip i rest)) over
    ∙ ap₂ (λ (a b : Bool). cond (a || b) None (Some (ShortSkip i))) over several

short_branch_read : (set : Bool) (bit : ℕ) (k : ℤ) (rest : List Instr) → IsReadSo (ShortBranch set bit k) rest → long_branch set bit k rest ≡ None
short_branch_read set bit k rest so =
    elim (is_over_one k) as (λ b. is_over_one k ≡ b → cond b (option_map (λ o. LongBranch (not set) bit o) (jump_first rest)) None ≡ None) [
      | false ↦ λ e. refl
      | true ↦ λ e.
          elim (jump_first rest) as (λ o. jump_first rest ≡ o → option_map (λ j. LongBranch (not set) bit j) o ≡ None) [
            | None ↦ λ there. refl
            | Some j ↦ λ there. absurd (so (over_one k e) (j, drop 1 rest, jump_there rest j there))
          ] refl
    ] refl

single_whole : (u : Unit) (rest : List Instr) → IsForm (Whole u) → length (template (Whole u)) < 2 → template_first (template (Whole u) ++ rest) ≡ Some (Whole u)
unfolding standing_of
single_whole (unit.Plain i) rest kind one = ap (λ st. first_of_two (several_by i st rest) (single_by i st rest)) kind.0.0
single_whole (unit.KernelCall n) rest kind one =
    let i = enter (entry.Kernel n) in
    ap (λ st. first_of_two (several_by i st rest) (single_by i st rest)) (standing_called (entry.Kernel n) kind.0)
single_whole (unit.SlotCall n) rest kind one =
    let i = enter (entry.Slot n) in
    ap (λ st. first_of_two (several_by i st rest) (single_by i st rest)) (standing_called (entry.Slot n) kind.0)
single_whole unit.SlotIndirect rest kind one = ap₂ first_of_two (entered_several entry.SlotIndirect rest tt refl) (entered_single entry.SlotIndirect rest tt refl)
single_whole unit.Reserve rest kind one = ap₂ first_of_two (entered_several entry.Reserve rest tt refl) (entered_single entry.Reserve rest tt refl)
single_whole unit.Return rest kind one = refl
single_whole (unit.SpGroup true) rest kind one = absurd (omega (arith, one))
single_whole (unit.SpGroup false) rest kind one = absurd (omega (arith, one))
single_whole (unit.Skip i) rest kind one = absurd kind.1
single_whole (unit.Branch set bit t) rest kind one = absurd kind.1
single_whole (unit.Jump t) rest kind one = absurd kind.1
single_whole (unit.LocalCall t) rest kind one = absurd kind.1
single_whole _ rest kind one = absurd (omega (arith, one))

single_complete : (f : Form) (rest : List Instr) → Encodable rest → IsForm f → length (template f) < 2 → IsReadSo f rest → template_first (template f ++ rest) ≡ Some f
unfolding standing_of
single_complete (Whole u) rest enc kind one so = single_whole u rest kind one
single_complete (ShortSkip i) rest enc kind one so = ap (λ st. first_of_two (several_by i st rest) (single_by i st rest)) kind.0 ∙ short_skip_read i rest enc so
single_complete (ShortBranch true bit k) rest enc kind one so = ap (λ o. first_of_two o (Some (ShortBranch true bit k))) (short_branch_read true bit k rest so)
single_complete (ShortBranch false bit k) rest enc kind one so = ap (λ o. first_of_two o (Some (ShortBranch false bit k))) (short_branch_read false bit k rest so)
single_complete (Jumping k) rest enc kind one so = refl
single_complete (LongSkip i k) rest enc kind one so = absurd (omega (arith, one))
single_complete (LongBranch set bit k) rest enc kind one so = absurd (omega (arith, one))
single_complete (Calling k) rest enc kind one so = absurd (omega (arith, one))

-- and what stands there is read
pub template_complete : (f : Form) (rest : List Instr) → Encodable rest → IsForm f → IsReadSo f rest → template_first (template f ++ rest) ≡ Some f
template_complete f rest enc kind so =
    elim (cases_lt (length (template f)) 2) [
      | inl one ↦ single_complete f rest enc kind one so
      | inr two ↦ several_is_first (template f ++ rest) f (several_complete f rest kind two)
    ]
