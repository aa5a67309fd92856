-- Words are the words of one list of instructions, and instructions the templates of one list of forms.
use Rattle.std.proofs.Common.{◌≡◌, ◌∙◌, ℕ, ◌<◌, Bool, List, [], ◌∷◌, ◌++◌, length, drop, Result, Ok, refl, sym, ap, ap₂, subst, arith}
use Rattle.avr_isa.specs.Decoded.{decoded}
use Rattle.avr_isa.specs.declared.instruction.DecodeError.{DecodeError}
use Rattle.avr_isa.specs.declared.instruction.Instr.{Instr}
use Rattle.unit_code.specs.declared.form.Form.{Form}
use Rattle.unit_code.specs.Beside.{AreWordsOf, StandBy, Stands}
use Rattle.unit_code.specs.Items.{next_word}
use Rattle.unit_code.specs.Lengths.{instruction_length}
use Rattle.unit_code.specs.Templates.{template}
use Rattle.harbor_spell.proofs.Keys.{one_stands, template_some}

read_once : (i j : Instr) (n m : ℕ) (read : Result (Instr × ℕ) DecodeError) → read ≡ Ok (i, n) → read ≡ Ok (j, m) → i ≡ j
read_once i j n m read one other =
    let x : Instr × ℕ = (i, n) in
    let y : Instr × ℕ = (j, m) in
    let there : Ok x ≡ Ok y = sym one ∙ other in
    let same : x ≡ y = cc in
    ap (λ z. z.0) same

no_instructions : (is : List Instr) → AreWordsOf is [] → [] ≡ is
no_instructions [] h = refl
no_instructions (i ∷ is) h = absurd h

pub one_reading : (is js : List Instr) (words : List ℕ) → AreWordsOf is words → AreWordsOf js words → is ≡ js
one_reading is js [] h k = sym (no_instructions is h) ∙ no_instructions js k
one_reading (i ∷ is) (j ∷ js) (w ∷ ws) h k =
    let first = read_once i j (instruction_length i) (instruction_length j) (decoded w (next_word ws)) h.0 k.0 in
    let rest = subst (λ (x : Instr). AreWordsOf js (drop (instruction_length x) (w ∷ ws))) (sym first) k.1 in
    ap₂ (λ (x : Instr) (l : List Instr). x ∷ l) first (one_reading is js (drop (instruction_length i) (w ∷ ws)) h.1 rest)
one_reading [] js (w ∷ ws) h k = cc
one_reading is [] (w ∷ ws) h k = cc

pub no_template : (sealed : Bool) (f : Form) (rest : List Instr) → Stands sealed f [] rest → ⊥
no_template sealed f rest stands =
    elim (template f) as (λ l. 0 < length l → [] ≡ l ++ rest → ⊥) [
      | [] ↦ λ some at. omega (arith, some)
      | i ∷ l ↦ λ some at. cc
    ] (template_some f stands.kind) stands.words

none_left : (sealed : Bool) (fs : List Form) (is : List Instr) → is ≡ [] → StandBy sealed fs is [] → [] ≡ fs
none_left sealed [] is empty h = refl
none_left sealed (f ∷ fs) is empty h = absurd (no_template sealed f h.0 (subst (λ (l : List Instr). Stands sealed f l h.0) empty h.1))

pub one_parting : (sealed : Bool) (fs gs : List Form) (is : List Instr) → StandBy sealed fs is [] → StandBy sealed gs is [] → fs ≡ gs
one_parting sealed [] gs is h k = none_left sealed gs is h k
one_parting sealed fs [] is h k = sym (none_left sealed fs is k h)
one_parting sealed (f ∷ fs) (g ∷ gs) is (left, first, others) k =
    let same = one_stands sealed f g is left k.0 first k.1 in
    ap₂ (λ (x : Form) (l : List Form). x ∷ l) same.0 (one_parting sealed fs gs left others (subst (λ (l : List Instr). StandBy sealed gs l []) (sym same.1) k.2))
