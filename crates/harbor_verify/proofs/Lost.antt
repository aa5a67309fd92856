-- A form that resolves to no unit leads astray there, within its template.
use Rattle.std.proofs.Common.{◌≡◌, ◌∙◌, ℕ, ◌+◌, ◌≤◌, ◌<◌, ◌==◌, ◌⊎◌, ⊎_elim, inl, inr, cond, not, true, false, List, [], ◌∷◌, length, get_or, Option, Some, None, Result, Ok, Err, ℤ, pos, refl, sym, ap, subst, arith}
use Rattle.std.proofs.lemmas.Bool.{eq-eqb}
use Rattle.std.proofs.lemmas.List.{get_or_default}
use Rattle.std.proofs.lemmas.Option.{none-some, same_Some}
use Rattle.avr_isa.specs.declared.instruction.Instr.{Instr}
use Rattle.avr_isa.specs.declared.instruction.Instr.TheVariants as instr
use Rattle.mote_layout.specs.declared.page.Entry.TheVariants as entry
use Rattle.unit_code.specs.Beside.{form_words}
use Rattle.unit_code.specs.Lengths.{instruction_length}
use Rattle.unit_code.specs.Spelling.{start_of}
use Rattle.unit_code.specs.Targets.{AreFirstWords, number_reached, reached}
use Rattle.unit_code.specs.Templates.{branch, enter, template}
use Rattle.unit_code.specs.declared.form.Form.{Form}
use Rattle.unit_code.specs.declared.form.Form.TheVariants.{Whole, ShortSkip, LongSkip, ShortBranch, LongBranch, Jumping, Calling}
use Rattle.unit_code.specs.declared.unit.Unit.{Unit}
use Rattle.unit_code.specs.declared.unit.Unit.TheVariants as unit
use Rattle.unit_code.proofs.Numbers.{number_of-at}
use Rattle.harbor_spell.proofs.Starts.{instruction_length-some}
use Rattle.harbor_verify.specs.Conditions.{CanSkip, IsJumpAt, IsLost, LeadsAstray, offset_by}
use Rattle.harbor_verify.specs.Resolved.{before_next, can_skip, landed, led, pointed, resolve}
use Rattle.harbor_verify.proofs.Straying.{IsPlaced, branch_length, branch_offset, number_lost, over_one, so_can}

first_jump : (i : Instr) (is : List Instr) (place : ℕ) (k : ℤ) → offset_by i ≡ Some k → IsJumpAt (i ∷ is) place place k
first_jump i is place k is_jump = record { front = []; jump = i; back = is; split = refl; offset_of = is_jump; there = omega arith }

second_jump : (x i : Instr) (place at : ℕ) (k : ℤ) → offset_by i ≡ Some k → at ≡ place + instruction_length x → IsJumpAt (x ∷ i ∷ []) place at k
second_jump x i place at k is_jump there = record { front = x ∷ []; jump = i; back = []; split = refl; offset_of = is_jump; there = omega (arith, there) }

same_place : (a b : ℕ) → (let r : Result Unit ℕ = Err a in r ≡ Err b) → a ≡ b
same_place a b e = cc

no_place : {C : Type 0} (u : Unit) (at : ℕ) → (let r : Result Unit ℕ = Ok u in r ≡ Err at) → C
no_place u at e = cc

led_astray : (starts : List ℕ) (make : ℕ → Unit) (from at : ℕ) (k : ℤ) → AreFirstWords starts → led make starts from k ≡ Err at → (from ≡ at) × IsLost starts from k
led_astray starts make from at k first e =
    elim (number_reached starts (reached from k)) as (λ o. number_reached starts (reached from k) ≡ o → pointed make from o ≡ Err at → (from ≡ at) × IsLost starts from k) [
      | None ↦ λ there e. (same_place from at e, number_lost starts first from k there)
      | Some m ↦ λ there e. no_place (make m) at e
    ] refl e

-- What a form that resolves to no unit does, at a place of its template.
pub record IsAstray (starts : List ℕ) (n place : ℕ) (f : Form) (behind : List Form) (at : ℕ) : Type 0 where
  pub astray : LeadsAstray starts n place f behind at
  pub from : place ≤ at
  pub within : at < place + form_words f

module _ (starts : List ℕ) (n place : ℕ) (behind : List Form) (at : ℕ) where
  abbrev Astray : Form → Type 0
  Astray f = IsAstray starts n place f behind at

  lost_astray : (f : Form) (from : ℕ) (k : ℤ) → IsJumpAt (template f) place from k → (from ≡ at) × IsLost starts from k → place ≤ from → from < place + form_words f → Astray f
  lost_astray f from k jump lost past within =
      let P : ℕ → Type 0 = λ p. IsAstray starts n place f behind p in
      subst P lost.0 (record { astray = inl (k, jump, lost.1); from = past; within = within })

  not_can : can_skip behind ≡ false → CanSkip behind → ⊥
  not_can e h = let t = so_can behind h in let u : true ≡ false = sym t ∙ e in cc

  -- no start stands behind the last template
  no_next : (f : Form) → IsPlaced starts n place f behind → behind ≡ [] → IsLost starts place (pos 1)
  no_next f h none word e contained =
      let there : place + 2 ≡ word = same_Some (place + 2) word (sym (over_one place) ∙ e) in
      let count = ap length none in
      let start : get_or starts contained.0 0 ≡ word = sym (get_or_default starts contained.0 word 0 contained.1) ∙ contained.2 in
      let here : get_or starts n 0 ≡ place = h.at in
      let no_later : contained.0 ≤ n = omega (arith, contained.1, h.count, count) in
      let cases : (contained.0 < n) ⊎ (contained.0 ≡ n) = grind arith in
      ⊎_elim (λ (before : contained.0 < n). let less : get_or starts contained.0 0 < get_or starts n 0 = h.first.rise contained.0 n before (omega (arith, h.count)) in omega (arith, less, start, there, here))
      (λ (same : contained.0 ≡ n). let equal = ap (λ m. get_or starts m 0) same in omega (arith, equal, start, there, here)) cases

  landed_astray : (i : Instr) (k : ℤ) → IsPlaced starts n place (LongSkip i k) behind → can_skip behind ≡ true
      → landed i (n + 2) (place + 2) (number_reached starts (reached (place + 2) k)) ≡ Err at → Astray (LongSkip i k)
  landed_astray i k h can e =
      let two : 2 ≤ length behind = two_behind behind can in
      let wrong : (o : Option ℕ) → landed i (n + 2) (place + 2) o ≡ Err at → (place + 2 ≡ at) × (o ≡ Some (n + 2) → ⊥) = λ o e.
      elim o as (λ o. landed i (n + 2) (place + 2) o ≡ Err at → (place + 2 ≡ at) × (o ≡ Some (n + 2) → ⊥)) [
        | None ↦ λ e. (same_place (place + 2) at e, λ same. none-some (n + 2) same)
        | Some m ↦ λ e.
            elim (m == n + 2) as (λ b. (m == n + 2) ≡ b → cond {A = Result Unit ℕ} b (Ok (unit.Skip i)) (Err (place + 2)) ≡ Err at → (place + 2 ≡ at) × (Some m ≡ Some (n + 2) → ⊥)) [
              | true ↦ λ same e. no_place (unit.Skip i) at e
              | false ↦ λ same e. (same_place (place + 2) at e, λ equal. let t = eq-eqb m (n + 2) (same_Some m (n + 2) equal) in let u : true ≡ false = sym t ∙ same in cc)
            ] refl e
      ] e in
      let parts = wrong (number_reached starts (reached (place + 2) k)) e in
      let over : at ≡ place + 2 = sym parts.0 in
      record {
        astray = inr (inr (
          over,
          λ there. parts.1 (ap (λ p. number_reached starts (reached p k)) parts.0 ∙ ap (number_reached starts) there
              ∙ number_of-at starts (start_of starts (n + 2)) (n + 2) h.first (omega (arith, h.count, two)) refl),
        ));
        from = omega (arith, over);
        within = omega (arith, over, instruction_length-some i);
      } where
        two_behind : (fs : List Form) → can_skip fs ≡ true → 2 ≤ length fs
        two_behind [] e = cc
        two_behind (f ∷ []) e = cc
        two_behind (f ∷ g ∷ fs) e = omega arith

  pub is_astray : (f : Form) → IsPlaced starts n place f behind → resolve starts n place f behind ≡ Err at → Astray f
  is_astray (Whole u) h e = no_place u at e
  is_astray (ShortSkip i) h e =
      elim (can_skip behind) as (λ b. can_skip behind ≡ b → cond {A = Result Unit ℕ} b (Ok (unit.Skip i)) (Err place) ≡ Err at → Astray (ShortSkip i)) [
        | true ↦ λ can e. no_place (unit.Skip i) at e
        | false ↦ λ can e.
            let here = same_place place at e in
            record { astray = inr (inl (tt, not_can can, sym here)); from = omega (arith, here); within = omega (arith, here, instruction_length-some i) }
      ] refl e
  is_astray (LongSkip i k) h e =
      elim (can_skip behind) as (λ b. can_skip behind ≡ b → cond {A = Result Unit ℕ} b (landed i (n + 2) (place + 2) (number_reached starts (reached (place + 2) k))) (Err place) ≡ Err at → Astray (LongSkip i k)) [
        | true ↦ λ can e. landed_astray i k h can e
        | false ↦ λ can e.
            let here = same_place place at e in
            record { astray = inr (inl (tt, not_can can, sym here)); from = omega (arith, here); within = omega (arith, here, instruction_length-some i) }
      ] refl e
  is_astray (ShortBranch set bit k) h e =
      lost_astray (ShortBranch set bit k) place k (first_jump (branch set bit k) [] place k (branch_offset set bit k)) (led_astray starts (λ t. unit.Branch set bit t) place at k h.first e) (omega arith) (omega (arith, branch_length set bit k))
  is_astray (Jumping k) h e =
      lost_astray (Jumping k) place k (first_jump (instr.Rjmp k) [] place k refl) (led_astray starts (λ t. unit.Jump t) place at k h.first e) (omega arith) (omega arith)
  is_astray (Calling k) h e =
      lost_astray (Calling k) (place + 2) k (second_jump (enter entry.LocalCall) (instr.Rjmp k) place (place + 2) k refl refl) (led_astray starts (λ t. unit.LocalCall t) (place + 2) at k h.first e) (omega arith) (omega arith)
  is_astray (LongBranch set bit k) h e =
      let one = branch_length (not set) bit (pos 1) in
      let f = LongBranch set bit k in
      elim behind as (λ l. behind ≡ l → before_next place l (led (λ t. unit.Branch set bit t) starts (place + 1) k) ≡ Err at → Astray f) [
        | [] ↦ λ none e.
            lost_astray f place (pos 1) (first_jump (branch (not set) bit (pos 1)) (instr.Rjmp k ∷ []) place (pos 1) (branch_offset (not set) bit (pos 1))) (same_place place at e, no_next f h none) (omega arith) (omega (arith, one))
        | g ∷ gs ↦ λ some e.
            lost_astray f (place + 1) k (second_jump (branch (not set) bit (pos 1)) (instr.Rjmp k) place (place + 1) k refl (omega (arith, one))) (led_astray starts (λ t. unit.Branch set bit t) (place + 1) at k h.first e) (omega arith) (omega (arith, one))
      ] refl e
