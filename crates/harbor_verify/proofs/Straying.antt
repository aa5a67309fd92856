-- Where a template leads astray, the form resolves to no unit, and the place told is the first one.
use Rattle.std.proofs.Common.{◌≡◌, ◌∙◌, ℕ, ◌+◌, ◌≤◌, ◌<◌, ◌==◌, ◌⊎◌, ⊎_elim, inl, inr, cond, not, Bool, true, false, List, [], ◌∷◌, ◌++◌, length, Some, None, Result, Ok, Err, ℤ, pos, refl, sym, ap, subst, arith}
use Rattle.std.specs.List.{AllByRecursion, Contains}
use Rattle.std.proofs.lemmas.Bool.{eqb-true}
use Rattle.std.proofs.lemmas.List.{get_or_default}
use Rattle.std.proofs.lemmas.Option.{none-some, same_Some}
use Rattle.avr_isa.specs.declared.instruction.Instr.{Instr}
use Rattle.avr_isa.specs.declared.instruction.Instr.TheVariants as instr
use Rattle.mote_layout.specs.declared.page.Entry.TheVariants as entry
use Rattle.unit_code.specs.Beside.{form_words, words_in}
use Rattle.unit_code.specs.Kinds.{standing_of, whole}
use Rattle.unit_code.specs.Lengths.{instruction_length}
use Rattle.unit_code.specs.Spelling.{start_of}
use Rattle.unit_code.specs.Targets.{AreFirstWords, number_of, number_reached, reached}
use Rattle.unit_code.specs.Templates.{IsForm, branch, enter, template}
use Rattle.unit_code.specs.declared.form.Form.{Form}
use Rattle.unit_code.specs.declared.form.Form.TheVariants.{Whole, ShortSkip, LongSkip, ShortBranch, LongBranch, Jumping, Calling}
use Rattle.unit_code.specs.declared.unit.Unit.{Unit}
use Rattle.unit_code.specs.declared.unit.Unit.TheVariants as unit
use Rattle.unit_code.proofs.Numbers.{number_of-at, number_of-some}
use Rattle.unit_code.proofs.Offsets.{reached-offset_to}
use Rattle.harbor_spell.proofs.Lengths.{skip_length}
use Rattle.harbor_verify.specs.Conditions.{CanSkip, IsGroup, IsJumpAt, IsLost, IsSkip, LeadsAstray, Overshoots, offset_by}
use Rattle.harbor_verify.specs.Resolved.{before_next, can_skip, is_group, landed, led, pointed, resolve}
use Rattle.harbor_verify.proofs.Resolving.{leads_so}

-- The jumps among instructions.
abbrev Jumps : ℕ → List Instr → ℕ → ℤ → Type 0
Jumps place [] at k = ⊥
Jumps place (i ∷ is) at k = ((at ≡ place) × (offset_by i ≡ Some k)) ⊎ Jumps (place + instruction_length i) is at k

jump_among : (front back : List Instr) (i : Instr) (place at : ℕ) (k : ℤ) → at ≡ place + words_in front → offset_by i ≡ Some k → Jumps place (front ++ i ∷ back) at k
jump_among [] back i place at k there is = inl (omega (arith, there), is)
jump_among (x ∷ front) back i place at k there is = inr (jump_among front back i (place + instruction_length x) at k (omega (arith, there)) is)

jumps : (is : List Instr) (place at : ℕ) (k : ℤ) → IsJumpAt is place at k → Jumps place is at k
jumps is place at k h = let P : List Instr → Type 0 = λ l. Jumps place l at k in subst P (sym h.split) (jump_among h.front h.back h.jump place at k h.there h.offset_of)

jump_past : (is : List Instr) (place at : ℕ) (k : ℤ) → Jumps place is at k → place ≤ at
jump_past [] place at k h = absurd h
jump_past (i ∷ is) place at k h = ⊎_elim (λ here. omega (arith, here.0)) (λ more. omega (arith, jump_past is (place + instruction_length i) at k more)) h

abbrev NoJumps : List Instr → Type 0
NoJumps is = AllByRecursion (λ i. offset_by i ≡ None) is

no_jumps : (is : List Instr) (place at : ℕ) (k : ℤ) → NoJumps is → Jumps place is at k → ⊥
no_jumps [] place at k none h = h
no_jumps (i ∷ is) place at k none h = ⊎_elim (λ here. none-some k (sym none.0 ∙ here.1)) (λ more. no_jumps is (place + instruction_length i) at k none.1 more) h

whole_is_no_jump : (i : Instr) (u : Unit) → standing_of i ≡ whole u → offset_by i ≡ None
unfolding standing_of
whole_is_no_jump (instr.Rjmp k) u e = cc
whole_is_no_jump (instr.Brbs bit k) u e = cc
whole_is_no_jump (instr.Brbc bit k) u e = cc
whole_is_no_jump _ u e = refl

whole_has_no_jump : (u : Unit) → IsForm (Whole u) → NoJumps (template (Whole u))
whole_has_no_jump (unit.Plain i) h = (whole_is_no_jump i _ h.0.0, tt)
whole_has_no_jump (unit.Store i) h = (refl, (whole_is_no_jump i _ h.0.0, tt))
whole_has_no_jump (unit.Load i) h = (refl, (whole_is_no_jump i _ h.0.0, tt))
whole_has_no_jump (unit.Push r) h = (refl, (refl, tt))
whole_has_no_jump (unit.Pop d) h = (refl, (refl, tt))
whole_has_no_jump (unit.SpGroup true) h = (refl, (refl, (refl, (refl, tt))))
whole_has_no_jump (unit.SpGroup false) h = (refl, (refl, (refl, tt)))
whole_has_no_jump (unit.Skip i) h = absurd h.1
whole_has_no_jump (unit.Branch set bit t) h = absurd h.1
whole_has_no_jump (unit.Jump t) h = absurd h.1
whole_has_no_jump (unit.LocalCall t) h = absurd h.1
whole_has_no_jump _ h = (refl, tt)

pub branch_offset : (set : Bool) (bit : ℕ) (k : ℤ) → offset_by (branch set bit k) ≡ Some k
branch_offset true bit k = refl
branch_offset false bit k = refl

pub branch_length : (set : Bool) (bit : ℕ) (k : ℤ) → instruction_length (branch set bit k) ≡ 1
branch_length true bit k = refl
branch_length false bit k = refl

pub can_so : (behind : List Form) → can_skip behind ≡ true → CanSkip behind
can_so [] e = cc
can_so (f ∷ []) e = cc
can_so (Whole (unit.SpGroup b) ∷ g ∷ behind) e = cc
can_so (f ∷ g ∷ behind) e = λ h. group_only f h e where
  group_only : (f : Form) → IsGroup f → not (is_group f) ≡ true → ⊥
  group_only (Whole (unit.SpGroup b)) h e = cc
  group_only _ h e = h

pub so_can : (behind : List Form) → CanSkip behind → can_skip behind ≡ true
so_can [] h = absurd h
so_can (f ∷ []) h = absurd h
so_can (f ∷ g ∷ behind) h = ap not (no_group f h) where
  no_group : (f : Form) → (IsGroup f → ⊥) → is_group f ≡ false
  no_group (Whole (unit.SpGroup b)) h = absurd (h tt)
  no_group _ h = refl

pub long_enough : (behind : List Form) → can_skip behind ≡ true → 0 < length behind
long_enough [] e = cc
long_enough (f ∷ behind) e = omega arith

-- What is known of the place of the n-th form, before others, among the starts.
pub record IsPlaced (starts : List ℕ) (n place : ℕ) (f : Form) (behind : List Form) : Type 0 where
  pub first : AreFirstWords starts
  pub at : start_of starts n ≡ place
  pub count : n + 1 + length behind ≡ length starts
  pub next : 0 < length behind → start_of starts (n + 1) ≡ place + form_words f
  pub kind : IsForm f

pub contains_start : (starts : List ℕ) (m word : ℕ) → m < length starts → start_of starts m ≡ word → Contains starts word
contains_start starts m word below e = (m, below, get_or_default starts m word 0 below ∙ e)

module _ (starts : List ℕ) (first : AreFirstWords starts) where
  number_contained : (word : ℕ) → Contains starts word → (m : ℕ) × (number_of starts word ≡ Some m)
  number_contained word h = (h.0, number_of-at starts word h.0 first h.1 (sym (get_or_default starts h.0 word 0 h.1) ∙ h.2))

  pub lost_number : (at : ℕ) (k : ℤ) → IsLost starts at k → number_reached starts (reached at k) ≡ None
  lost_number at k lost =
      elim (reached at k) as (λ o. reached at k ≡ o → number_reached starts o ≡ None) [
        | None ↦ λ e. refl
        | Some word ↦ λ e.
            elim (number_of starts word) as (λ o. number_of starts word ≡ o → o ≡ None) [
              | None ↦ λ there. refl
              | Some m ↦ λ there. let at = number_of-some starts word m there in absurd (lost word e (contains_start starts m word at.0 at.1))
            ] refl
      ] refl

  pub number_lost : (at : ℕ) (k : ℤ) → number_reached starts (reached at k) ≡ None → IsLost starts at k
  number_lost at k none word e h =
      let m = number_contained word h in
      none-some m.0 (sym none ∙ ap (number_reached starts) e ∙ m.1)

-- a jump over one word leads behind the next
pub over_one : (at : ℕ) → reached at (pos 1) ≡ Some (at + 2)
unfolding reached
over_one at = ap Some (omega arith)

-- The form resolves to no unit, at this place or before.
pub record Strays (r : Result Unit ℕ) (at : ℕ) : Type 0 where
  pub found : ℕ
  pub is : r ≡ Err found
  pub before : found ≤ at

tested_false : (b : Bool) (r : Result Unit ℕ) (at : ℕ) → b ≡ false → cond b r (Err at) ≡ Err at
tested_false b r at e = ap (λ t. cond {A = Result Unit ℕ} t r (Err at)) e

tested_true : (b : Bool) (r : Result Unit ℕ) (at : ℕ) → b ≡ true → cond b r (Err at) ≡ r
tested_true b r at e = ap (λ t. cond {A = Result Unit ℕ} t r (Err at)) e

module _ (starts : List ℕ) (n place : ℕ) (behind : List Form) (at : ℕ) where
  -- the jump at a place is lost
  led_strays : (r : Result Unit ℕ) (make : ℕ → Unit) (from : ℕ) (o k : ℤ) → AreFirstWords starts → r ≡ led make starts from o → at ≡ from → o ≡ k → IsLost starts at k → Strays r at
  led_strays r make from o k first is here same lost =
      let P : ℕ → Type 0 = λ p. IsLost starts p k in
      let Q : ℤ → Type 0 = λ j. IsLost starts from j in
      record {
        found = from;
        is = is ∙ ap (pointed make from) (lost_number starts first from o (subst Q (sym same) (subst P here lost)));
        before = omega (arith, here);
      }

  -- a jump to the next start isn't lost
  next_is_there : (f : Form) (from : ℕ) (k : ℤ) → IsPlaced starts n place f behind → 0 < length behind → from + 2 ≡ place + form_words f → at ≡ from → pos 1 ≡ k → IsLost starts at k → ⊥
  next_is_there f from k h some there here same lost =
      let P : ℕ → Type 0 = λ p. IsLost starts p k in
      let Q : ℤ → Type 0 = λ j. IsLost starts from j in
      let next = h.next some in
      let below : n + 1 < length starts = omega (arith, h.count, some) in
      let start : start_of starts (n + 1) ≡ from + 2 = omega (arith, next, there) in
      subst Q (sym same) (subst P here lost) (from + 2) (over_one from) (contains_start starts (n + 1) (from + 2) below start)

  skip_strays : (r : Result Unit ℕ) (rest : Result Unit ℕ) → r ≡ cond (can_skip behind) rest (Err place) → place ≤ at → can_skip behind ≡ false → Strays r at
  skip_strays r rest is past e = record { found = place; is = is ∙ tested_false (can_skip behind) rest place e; before = past }

  cannot : ¬ CanSkip behind → can_skip behind ≡ false
  cannot none =
      elim (can_skip behind) as (λ b. can_skip behind ≡ b → b ≡ false) [
        | true ↦ λ e. absurd (none (can_so behind e))
        | false ↦ λ e. refl
      ] refl

  landed_strays : (i : Instr) (o : ℤ) → at ≡ place + 2 → (number_reached starts (reached (place + 2) o) ≡ Some (n + 2) → ⊥) → Strays (landed i (n + 2) (place + 2) (number_reached starts (reached (place + 2) o))) at
  landed_strays i o here none =
      elim (number_reached starts (reached (place + 2) o)) as (λ r. number_reached starts (reached (place + 2) o) ≡ r → Strays (landed i (n + 2) (place + 2) r) at) [
        | None ↦ λ e. record { found = place + 2; is = refl; before = omega (arith, here) }
        | Some m ↦ λ e.
            elim (m == n + 2) as (λ b. (m == n + 2) ≡ b → Strays (cond b (Ok (unit.Skip i)) (Err (place + 2))) at) [
              | true ↦ λ same. absurd (none (e ∙ ap Some (eqb-true m (n + 2) same)))
              | false ↦ λ same. record { found = place + 2; is = refl; before = omega (arith, here) }
            ] refl
      ] refl

  long_skip_strays : (i : Instr) (o : ℤ) → IsPlaced starts n place (LongSkip i o) behind → LeadsAstray starts n place (LongSkip i o) behind at → Strays (resolve starts n place (LongSkip i o) behind) at
  long_skip_strays i o h astray =
      let long = skip_length i h.kind in
      let rest = landed i (n + 2) (place + 2) (number_reached starts (reached (place + 2) o)) in
      let past : place ≤ at =
      ⊎_elim (λ jump. jump_past (template (LongSkip i o)) place at jump.0 (jumps (template (LongSkip i o)) place at jump.0 jump.1))
      (λ more. ⊎_elim (λ skip. omega (arith, skip.2)) (λ over. omega (arith, over.0)) more) astray in
      elim (can_skip behind) as (λ b. can_skip behind ≡ b → Strays (cond b rest (Err place)) at) [
        | false ↦ λ can. record { found = place; is = refl; before = past }
        | true ↦ λ can.
            let some : 0 < length behind = long_enough behind can in
            ⊎_elim (λ jump.
            ⊎_elim (λ here. absurd (none-some jump.0 (sym (whole_is_no_jump i _ h.kind.0) ∙ here.1))) (λ more.
            ⊎_elim (λ here. absurd (next_is_there (LongSkip i o) (place + 1) jump.0 h some (omega (arith, long)) (omega (arith, here.0, long)) (same_Some (pos 1) jump.0 here.1) jump.2)) (λ more.
            ⊎_elim (λ here.
            let at_third : at ≡ place + 2 = omega (arith, here.0, long) in
            let P : ℕ → Type 0 = λ p. IsLost starts p jump.0 in
            let Q : ℤ → Type 0 = λ j. IsLost starts (place + 2) j in
            let lost = lost_number starts h.first (place + 2) o (subst Q (sym (same_Some o jump.0 here.1)) (subst P at_third jump.2)) in
            landed_strays i o at_third (λ e. none-some (n + 2) (sym lost ∙ e))) (λ none. absurd none) more) more)
            (jumps (template (LongSkip i o)) place at jump.0 jump.1)) (λ more.
            ⊎_elim (λ skip. absurd (skip.1 (can_so behind can))) (λ over.
            landed_strays i o over.0 (λ e.
            let there = leads_so starts (place + 2) o (n + 2) e in
            let word : reached (place + 2) o ≡ Some (start_of starts (n + 2)) = ap (reached (place + 2)) (sym there.offset_is) ∙ reached-offset_to (place + 2) (start_of starts (n + 2)) in
            over.1 (ap (λ p. reached p o) over.0 ∙ word))) more) astray
      ] refl

  no_skip : (f : Form) → (IsSkip f → ⊥) → (Overshoots starts (n + 2) place at f → ⊥) → LeadsAstray starts n place f behind at → (k : ℤ) × Jumps place (template f) at k × IsLost starts at k
  no_skip f skip over h =
      ⊎_elim (λ jump. (jump.0, jumps (template f) place at jump.0 jump.1, jump.2)) (λ more. ⊎_elim (λ s. absurd (skip s.0)) (λ o. absurd (over o)) more) h

  first_only : (i : Instr) (k o : ℤ) → offset_by i ≡ Some o → Jumps place (i ∷ []) at k → (at ≡ place) × (o ≡ k)
  first_only i k o is h = ⊎_elim (λ here. (here.0, same_Some o k (sym is ∙ here.1))) (λ none. absurd none) h

  second_only : (x i : Instr) (k o : ℤ) → offset_by x ≡ None → offset_by i ≡ Some o → Jumps place (x ∷ i ∷ []) at k → (at ≡ place + instruction_length x) × (o ≡ k)
  second_only x i k o none is h =
      ⊎_elim (λ here. absurd (none-some k (sym none ∙ here.1))) (λ more. ⊎_elim (λ here. (here.0, same_Some o k (sym is ∙ here.1))) (λ none. absurd none) more) h

  pub strays : (f : Form) → IsPlaced starts n place f behind → LeadsAstray starts n place f behind at → Strays (resolve starts n place f behind) at
  strays (Whole u) h astray =
      let j = no_skip (Whole u) (λ e. e) (λ e. e) astray in
      absurd (no_jumps (template (Whole u)) place at j.0 (whole_has_no_jump u h.kind) j.1)
  strays (ShortSkip i) h astray =
      ⊎_elim (λ jump. absurd (no_jumps (i ∷ []) place at jump.0 (whole_is_no_jump i _ h.kind.0, tt) (jumps (i ∷ []) place at jump.0 jump.1)))
      (λ more. ⊎_elim (λ skip. skip_strays _ (Ok (unit.Skip i)) refl (omega (arith, skip.2)) (cannot skip.1)) (λ none. absurd none) more) astray
  strays (LongSkip i o) h astray = long_skip_strays i o h astray
  strays (ShortBranch set bit o) h astray =
      let j = no_skip (ShortBranch set bit o) (λ e. e) (λ e. e) astray in
      let here = first_only (branch set bit o) j.0 o (branch_offset set bit o) j.1 in
      led_strays _ (λ t. unit.Branch set bit t) place o j.0 h.first refl here.0 here.1 j.2
  strays (Jumping o) h astray =
      let j = no_skip (Jumping o) (λ e. e) (λ e. e) astray in
      let here = first_only (instr.Rjmp o) j.0 o refl j.1 in
      led_strays _ (λ t. unit.Jump t) place o j.0 h.first refl here.0 here.1 j.2
  strays (Calling o) h astray =
      let j = no_skip (Calling o) (λ e. e) (λ e. e) astray in
      let here = second_only (enter entry.LocalCall) (instr.Rjmp o) j.0 o refl refl j.1 in
      led_strays _ (λ t. unit.LocalCall t) (place + 2) o j.0 h.first refl here.0 here.1 j.2
  strays (LongBranch set bit o) h astray =
      let j = no_skip (LongBranch set bit o) (λ e. e) (λ e. e) astray in
      let r = led (λ t. unit.Branch set bit t) starts (place + 1) o in
      let one = branch_length (not set) bit (pos 1) in
      elim behind as (λ l. behind ≡ l → Strays (before_next place l r) at) [
        | [] ↦ λ e. record { found = place; is = refl; before = jump_past (template (LongBranch set bit o)) place at j.0 j.1 }
        | g ∷ gs ↦ λ e.
            let some : 0 < length behind = let count = ap length e in omega (arith, count) in
            ⊎_elim (λ here. absurd (next_is_there (LongBranch set bit o) place j.0 h some (omega (arith, one)) here.0 (same_Some (pos 1) j.0 (sym (branch_offset (not set) bit (pos 1)) ∙ here.1)) j.2))
            (λ more.
            let here = first_jump_of o j.0 more in
            led_strays r (λ t. unit.Branch set bit t) (place + 1) o j.0 h.first refl (omega (arith, here.0, one)) here.1 j.2) j.1
      ] refl where
        first_jump_of : (o k : ℤ) → Jumps (place + instruction_length (branch (not set) bit (pos 1))) (instr.Rjmp o ∷ []) at k → (at ≡ place + instruction_length (branch (not set) bit (pos 1))) × (o ≡ k)
        first_jump_of o k h = ⊎_elim (λ here. (here.0, same_Some o k here.1)) (λ none. absurd none) h
