-- Templates side by side spell their units.
use Rattle.std.proofs.Common.{◌≡◌, ◌∙◌, ℕ, ◌+◌, not, Bool, true, false, List, [], ◌∷◌, ◌++◌, ℤ, pos, ◌≤◌, leb, length, refl, sym, ap, subst, arith}
use Rattle.std.specs.List.{AllByRecursion, flat_map}
use Rattle.std.proofs.lemmas.Bool.{and_parts, leb-false}
use Rattle.std.proofs.lemmas.List.Concat.{flat_map-cons}
use Rattle.avr_isa.specs.declared.instruction.Instr.{Instr}
use Rattle.avr_isa.specs.declared.instruction.Instr.TheVariants.{Rjmp}
use Rattle.unit_code.specs.declared.form.Form.{Form}
use Rattle.unit_code.specs.declared.form.Form.TheVariants.{ShortSkip, ShortBranch}
use Rattle.unit_code.specs.declared.unit.Shape.{Shape}
use Rattle.unit_code.specs.declared.unit.Shape.TheVariants.{Long, Short}
use Rattle.unit_code.specs.declared.unit.Unit.{Unit}
use Rattle.unit_code.specs.declared.unit.Unit.TheVariants.{Plain, SpGroup, Skip, Branch, Jump, LocalCall}
use Rattle.unit_code.specs.Beside.{BeginsWithJump, BeginsWithSeveral, IsReadSo, StandBy}
use Rattle.unit_code.specs.Kinds.{standing_of, whole}
use Rattle.unit_code.specs.Proper.{IsGuardedSo, IsOfKind, IsProper}
use Rattle.unit_code.specs.Spelled.{offset_to}
use Rattle.unit_code.specs.Spelling.{AreReadSo, AreShapesOf, AreTemplatesOf, Lays, begins_with_jump, begins_with_single, form_of, forms_from, is_jump, is_single, reads_short, start_of, starts_of}
use Rattle.unit_code.specs.Templates.{MayStandIn, template}
use Rattle.harbor_spell.proofs.Encodes.{form_kind}
use Rattle.harbor_spell.proofs.Keys.{StaysShort, one_form, stays_short}
use Rattle.harbor_spell.proofs.Placed.{same_count}

form_guarded : (sealed : Bool) (starts : List ℕ) (i at : ℕ) (u : Unit) (s : Shape) → IsGuardedSo sealed u → MayStandIn sealed (form_of starts i at u s)
form_guarded sealed starts i at (Skip x) Long h = tt
form_guarded sealed starts i at (Skip x) Short h = tt
form_guarded sealed starts i at (Branch set bit t) Long h = tt
form_guarded sealed starts i at (Branch set bit t) Short h = tt
form_guarded sealed starts i at (Jump t) s h = tt
form_guarded sealed starts i at (LocalCall t) s h = tt
form_guarded sealed starts i at other s h = h

-- Only a jump's template begins with an RJMP.
no_unit : (far : ℤ) (u : Unit) → standing_of (Rjmp far) ≡ whole u → ⊥
unfolding standing_of
no_unit far u st = cc

of_unit : (x : Instr) (u : Unit) (left : List Instr) → standing_of x ≡ whole u → ¬ BeginsWithJump (x ∷ left)
of_unit x u left st h = let first : x ≡ Rjmp h.0 = let e = h.2 in cc in no_unit h.0 u (ap standing_of (sym first) ∙ st)

no_jump_first : (starts : List ℕ) (i at : ℕ) (u : Unit) (s : Shape) (left : List Instr) → IsOfKind u → is_jump u ≡ false
    → ¬ BeginsWithJump (template (form_of starts i at u s) ++ left)
no_jump_first starts i at (Plain x) s left kind other h = of_unit x (Plain x) left kind.0 h
no_jump_first starts i at (Skip x) Short left kind other h = of_unit x (Skip x) left kind.0 h
no_jump_first starts i at (Skip x) Long left kind other h = of_unit x (Skip x) (Rjmp (pos 1) ∷ Rjmp (offset_to (at + 2) (start_of starts (i + 2))) ∷ left) kind.0 h
no_jump_first starts i at (Jump t) s left kind other h = cc
no_jump_first starts i at (SpGroup true) s left kind other h = let e = h.2 in cc
no_jump_first starts i at (SpGroup false) s left kind other h = let e = h.2 in cc
no_jump_first starts i at (Branch true bit t) Long left kind other h = let e = h.2 in cc
no_jump_first starts i at (Branch true bit t) Short left kind other h = let e = h.2 in cc
no_jump_first starts i at (Branch false bit t) Long left kind other h = let e = h.2 in cc
no_jump_first starts i at (Branch false bit t) Short left kind other h = let e = h.2 in cc
no_jump_first starts i at u s left kind other h = let e = h.2 in cc

-- the instructions of units from the i-th on
abbrev spelled : List ℕ → ℕ → List Unit → List Shape → List Instr
spelled starts i us ss = flat_map template (forms_from starts i us ss)

no_jump : (starts : List ℕ) (i : ℕ) (us : List Unit) (ss : List Shape) → AllByRecursion IsOfKind us → begins_with_jump us ≡ false → ¬ BeginsWithJump (spelled starts i us ss)
no_jump starts i [] ss kinds none h = let e = h.2 in cc
no_jump starts i (u ∷ us) [] kinds none h = let e = h.2 in cc
no_jump starts i (u ∷ us) (s ∷ ss) kinds none h =
    no_jump_first starts i (start_of starts i) u s (spelled starts (i + 1) us ss) kinds.0 none
    (subst BeginsWithJump (flat_map-cons template (form_of starts i (start_of starts i) u s) (forms_from starts (i + 1) us ss)) h)

-- One of several instructions is no short form.
several_stays : (f : Form) (left : List Instr) → 2 ≤ length (template f) → StaysShort f left
several_stays (ShortSkip skip) left more = absurd (omega (arith, more))
several_stays (ShortBranch true bit far) left more = absurd (omega (arith, more))
several_stays (ShortBranch false bit far) left more = absurd (omega (arith, more))
several_stays other left more = tt

-- A template has several instructions, or it is single.
several_or_single : (starts : List ℕ) (i at : ℕ) (u : Unit) (s : Shape) → leb 2 (length (template (form_of starts i at u s))) ≡ not (is_single u s)
several_or_single starts i at (SpGroup true) s = refl
several_or_single starts i at (SpGroup false) s = refl
several_or_single starts i at (Skip x) Long = refl
several_or_single starts i at (Skip x) Short = refl
several_or_single starts i at (Branch set bit t) Long = refl
several_or_single starts i at (Branch set bit t) Short = refl
several_or_single starts i at other s = refl

single_first : (sealed : Bool) (starts : List ℕ) (i : ℕ) (us : List Unit) (ss : List Shape) → begins_with_single us ss ≡ true
    → StandBy sealed (forms_from starts i us ss) (spelled starts i us ss) [] → ¬ BeginsWithSeveral (spelled starts i us ss)
single_first sealed starts i [] ss one h more = absurd (cc)
single_first sealed starts i (u ∷ us) [] one h more = absurd (cc)
single_first sealed starts i (u ∷ us) (s ∷ ss) one (left, first, others) (g, behind, sort, more, at) =
    let f = form_of starts i (start_of starts i) u s in
    let same : f ≡ g = one_form f g (spelled starts i (u ∷ us) (s ∷ ss)) left behind first.kind sort (stays_short f left first.read) (several_stays g behind more) first.words at in
    let count = several_or_single starts i (start_of starts i) u s ∙ ap not one in
    absurd (omega (arith, ap (λ x. length (template x)) same, leb-false 2 (length (template f)) count, more))

not_so : (b : Bool) → not b ≡ true → b ≡ false
not_so true e = cc
not_so false e = refl

read_short : (sealed : Bool) (starts : List ℕ) (i at : ℕ) (u : Unit) (us : List Unit) (ss : List Shape) → AllByRecursion IsOfKind us → reads_short u us ss ≡ true
    → StandBy sealed (forms_from starts (i + 1) us ss) (spelled starts (i + 1) us ss) [] → IsReadSo (form_of starts i at u Short) (spelled starts (i + 1) us ss)
read_short sealed starts i at (Skip x) us ss kinds reads h =
    let parts = and_parts (not (begins_with_jump us)) (begins_with_single us ss) reads in
    let none = no_jump starts (i + 1) us ss kinds (not_so (begins_with_jump us) parts.0) in
    (λ over. none (pos 1, over.0, over.1), single_first sealed starts (i + 1) us ss parts.1 h)
read_short sealed starts i at (Branch set bit t) us ss kinds reads h = λ one. no_jump starts (i + 1) us ss kinds (not_so (begins_with_jump us) reads)
read_short sealed starts i at other us ss kinds reads h = tt

read_long : (starts : List ℕ) (i at : ℕ) (u : Unit) (left : List Instr) → IsReadSo (form_of starts i at u Long) left
read_long starts i at (Skip x) left = tt
read_long starts i at (Branch set bit t) left = tt
read_long starts i at other left = tt

-- One template in front of others.
in_front : (sealed : Bool) (starts : List ℕ) (i : ℕ) (u : Unit) (s : Shape) (us : List Unit) (ss : List Shape) → IsOfKind u → IsGuardedSo sealed u
    → IsReadSo (form_of starts i (start_of starts i) u s) (spelled starts (i + 1) us ss) → StandBy sealed (forms_from starts (i + 1) us ss) (spelled starts (i + 1) us ss) []
    → StandBy sealed (forms_from starts i (u ∷ us) (s ∷ ss)) (spelled starts i (u ∷ us) (s ∷ ss)) []
in_front sealed starts i u s us ss kind load reads others =
    let at = start_of starts i in (
      spelled starts (i + 1) us ss,
      record {
        kind = form_kind starts i at u s kind;
        guarded = form_guarded sealed starts i at u s load;
        words = flat_map-cons template (form_of starts i at u s) (forms_from starts (i + 1) us ss);
        read = reads;
      },
      others,
    )

stand : (sealed : Bool) (starts : List ℕ) (i : ℕ) (us : List Unit) (ss : List Shape) → AllByRecursion IsOfKind us → AllByRecursion (IsGuardedSo sealed) us → AreReadSo us ss
    → StandBy sealed (forms_from starts i us ss) (spelled starts i us ss) []
stand sealed starts i [] ss kinds loads reads = refl
stand sealed starts i (u ∷ us) [] kinds loads reads = refl
stand sealed starts i (u ∷ us) (Long ∷ ss) kinds loads reads =
    in_front sealed starts i u Long us ss kinds.0 loads.0 (read_long starts i (start_of starts i) u (spelled starts (i + 1) us ss)) (stand sealed starts (i + 1) us ss kinds.1 loads.1 reads)
stand sealed starts i (u ∷ us) (Short ∷ ss) kinds loads reads =
    let others = stand sealed starts (i + 1) us ss kinds.1 loads.1 reads.1 in
    in_front sealed starts i u Short us ss kinds.0 loads.0 (read_short sealed starts i (start_of starts i) u us ss kinds.1 reads.0 others) others

pub emitted_words_spell : (words : List ℕ) (sealed : Bool) (us : List Unit) (ss : List Shape) → IsProper us sealed → AreShapesOf us ss → AreReadSo us ss
    → AreTemplatesOf us ss words → Lays words sealed us (starts_of us ss)
emitted_words_spell words sealed us ss proper shapes reads h =
    let starts = starts_of us ss in (
      ss,
      record {
        shaped = same_count starts 0 us ss shapes;
        places = refl;
        instructions = h.instructions;
        spelled = h.spelled;
        templates = subst (λ (is : List Instr). StandBy sealed (forms_from starts 0 us ss) is []) (sym h.templates) (stand sealed starts 0 us ss proper.kinds proper.loads reads);
        targets = proper.targets;
        skips = proper.skips;
      },
    )
