-- The templates of a bank from any unit on.
use Rattle.std.proofs.Common.{◌≡◌, ◌∙◌, ℕ, zero, suc, ◌+◌, Bool, List, [], ◌∷◌, ◌++◌, drop, length, get_or, Some, refl, sym, ap, subst, arith}
use Rattle.std.specs.Prelude.{slice_get}
use Rattle.std.specs.List.{AllByRecursion}
use Rattle.avr_isa.specs.declared.instruction.Instr.{Instr}
use Rattle.unit_code.specs.declared.unit.Shape.{Shape}
use Rattle.unit_code.specs.declared.unit.Unit.{Unit}
use Rattle.unit_code.specs.Beside.{StandBy, Stands, form_words, words_in}
use Rattle.unit_code.specs.Lengths.{instruction_length, spelled_length}
use Rattle.unit_code.specs.Proper.{IsOfKind}
use Rattle.unit_code.specs.Spelling.{Lays, form_of, forms_from, start_of, starts_after}
use Rattle.unit_code.specs.Templates.{template}
use Rattle.harbor_spell.proofs.Lengths.{form_length}
use Rattle.harbor_spell.proofs.Placed.{length-starts_after}
use Rattle.word_run.proofs.Fetched.{Stand, stand_behind}

-- instructions behind others
pub stand_past : (words : List ℕ) (place : ℕ) (is js : List Instr) → Stand words place (is ++ js) → Stand words (place + words_in is) js
stand_past words place [] js s = subst (λ (n : ℕ). Stand words n js) (omega arith) s
stand_past words place (i ∷ is) js s =
    subst (λ (n : ℕ). Stand words n js) (omega arith)
    (stand_past words (place + instruction_length i) is js (stand_behind words place i (is ++ js) s))

-- From a place on stand the templates of these units, the first of which is the i-th, in these shapes.
pub record AreLaid (words starts : List ℕ) (sealed : Bool) (i place : ℕ) (us : List Unit) (ss : List Shape) : Type 0 where
  pub instructions : List Instr
  pub templates : StandBy sealed (forms_from starts i us ss) instructions []
  pub stand : Stand words place instructions
  pub shaped : length ss ≡ length us

-- The first of them: its template, and the others behind it.
pub record IsLaid (words starts : List ℕ) (sealed : Bool) (i place : ℕ) (u : Unit) (us : List Unit) (s : Shape) (ss : List Shape) : Type 0 where
  pub behind : List Instr
  pub form : Stands sealed (form_of starts i (start_of starts i) u s) (template (form_of starts i (start_of starts i) u s) ++ behind) behind
  pub stand : Stand words place (template (form_of starts i (start_of starts i) u s) ++ behind)
  pub others : StandBy sealed (forms_from starts (i + 1) us ss) behind []
  pub shaped : length ss ≡ length us

pub first_laid : (words starts : List ℕ) (sealed : Bool) (i place : ℕ) (u : Unit) (us : List Unit) (s : Shape) (ss : List Shape)
    → AreLaid words starts sealed i place (u ∷ us) (s ∷ ss) → IsLaid words starts sealed i place u us s ss
first_laid words starts sealed i place u us s ss h =
    let behind = h.templates.0 in
    let st = h.templates.1 in
    let f = form_of starts i (start_of starts i) u s in
    record {
      behind = behind;
      form = record { kind = st.kind; guarded = st.guarded; words = refl; read = st.read };
      stand = subst (Stand words place) st.words h.stand;
      others = h.templates.2;
      shaped = let counted = h.shaped in omega (arith, counted);
    }

-- and the others
pub others_laid : (words starts : List ℕ) (sealed : Bool) (i place : ℕ) (u : Unit) (us : List Unit) (s : Shape) (ss : List Shape) → IsOfKind u
    → IsLaid words starts sealed i place u us s ss → AreLaid words starts sealed (i + 1) (place + spelled_length u s) us ss
others_laid words starts sealed i place u us s ss kind h =
    let f = form_of starts i (start_of starts i) u s in
    let long : form_words f ≡ spelled_length u s = form_length starts i (start_of starts i) u s kind in
    record {
      instructions = h.behind;
      templates = h.others;
      stand = subst (λ (n : ℕ). Stand words (place + n) h.behind) long (stand_past words place (template f) h.behind h.stand);
      shaped = h.shaped;
    }

-- The n-th unit of a bank, in its place among the others.
pub record NthLaid (words starts : List ℕ) (sealed : Bool) (units : List Unit) (n : ℕ) (u : Unit) : Type 0 where
  pub shape : Shape
  pub us : List Unit
  pub ss : List Shape
  pub laid : AreLaid words starts sealed n (start_of starts n) (u ∷ us) (shape ∷ ss)
  pub units_are : drop n units ≡ u ∷ us
  pub starts_are : drop n starts ≡ starts_after (start_of starts n) (u ∷ us) (shape ∷ ss)

nth_from : (words starts : List ℕ) (sealed : Bool) (i place n : ℕ) (us : List Unit) (ss : List Shape) (u : Unit) → AllByRecursion IsOfKind us
    → AreLaid words starts sealed i place us ss → slice_get us n ≡ Some u
    → (s : Shape) × (vs : List Unit) × (rs : List Shape) × AreLaid words starts sealed (i + n) (get_or (starts_after place us ss) n 0) (u ∷ vs) (s ∷ rs)
    × (drop n us ≡ u ∷ vs) × (drop n (starts_after place us ss) ≡ starts_after (get_or (starts_after place us ss) n 0) (u ∷ vs) (s ∷ rs))
nth_from words starts sealed i place n [] ss u kinds h e = cc
nth_from words starts sealed i place n (x ∷ us) [] u kinds h e = let counted = h.shaped in absurd (omega (arith, counted))
nth_from words starts sealed i place zero (x ∷ us) (s ∷ ss) u kinds h e =
    let same : x ≡ u = cc in
    let here : i ≡ i + 0 = omega arith in (
      s,
      us,
      ss,
      subst (λ (m : ℕ). AreLaid words starts sealed m place (u ∷ us) (s ∷ ss)) here (subst (λ (y : Unit). AreLaid words starts sealed i place (y ∷ us) (s ∷ ss)) same h),
      ap (λ y. y ∷ us) same,
      ap (λ (y : Unit). place ∷ starts_after (place + spelled_length y s) us ss) same,
    )
nth_from words starts sealed i place (suc n) (x ∷ us) (s ∷ ss) u kinds h e =
    let r = nth_from words starts sealed (i + 1) (place + spelled_length x s) n us ss u kinds.1
    (others_laid words starts sealed i place x us s ss kinds.0 (first_laid words starts sealed i place x us s ss h)) e in
    let there : i + 1 + n ≡ i + suc n = omega arith in (
      r.0,
      r.1,
      r.2,
      subst (λ (m : ℕ). AreLaid words starts sealed m (get_or (starts_after (place + spelled_length x s) us ss) n 0) (u ∷ r.1) (r.0 ∷ r.2)) there r.3,
      r.4,
      r.5,
    )

pub nth_laid : (words starts : List ℕ) (sealed : Bool) (units : List Unit) (n : ℕ) (u : Unit) → AllByRecursion IsOfKind units → Lays words sealed units starts → slice_get units n ≡ Some u
    → NthLaid words starts sealed units n u
nth_laid words starts sealed units n u kinds lays e =
    let shapes = lays.0 in
    let by = lays.1 in
    let all : AreLaid words starts sealed 0 0 units shapes = record { instructions = by.instructions; templates = by.templates; stand = ([], by.spelled); shaped = by.shaped } in
    let r = nth_from words starts sealed 0 0 n units shapes u kinds all e in
    let here : 0 + n ≡ n = omega arith in
    let at : get_or (starts_after 0 units shapes) n 0 ≡ start_of starts n = ap (λ l. get_or l n 0) (sym by.places) in
    record {
      shape = r.0;
      us = r.1;
      ss = r.2;
      laid = subst (λ (m : ℕ). AreLaid words starts sealed m (start_of starts n) (u ∷ r.1) (r.0 ∷ r.2)) here
          (subst (λ (place : ℕ). AreLaid words starts sealed (0 + n) place (u ∷ r.1) (r.0 ∷ r.2)) at r.3);
      units_are = r.4;
      starts_are = ap (drop n) by.places ∙ r.5 ∙ ap (λ place. starts_after place (u ∷ r.1) (r.0 ∷ r.2)) at;
    }

-- as many starts as units
pub starts_counted : (words starts : List ℕ) (sealed : Bool) (units : List Unit) → Lays words sealed units starts → length starts ≡ length units
starts_counted words starts sealed units lays = ap length lays.1.places ∙ length-starts_after 0 units lays.0 lays.1.shaped
