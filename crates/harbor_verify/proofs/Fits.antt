-- Which instructions may appear: those of templates may, and the walk stops before the first that may not.
use Rattle.std.proofs.Common.{◌≡◌, ◌∙◌, ℕ, zero, suc, ◌+◌, ◌≤◌, ◌^◌, cond, ltb, Bool, true, false, List, [], ◌∷◌, ◌++◌, drop, length, Option, Some, None, refl, sym, ap, subst, arith, length-drop}
use Rattle.std.specs.List.{AllByRecursion}
use Rattle.std.proofs.lemmas.List.{drop-drop, drop_all}
use Rattle.std.proofs.lemmas.Option.{none-some}
use Rattle.avr_isa.specs.declared.instruction.Instr.{Instr}
use Rattle.avr_isa.specs.declared.instruction.Instr.TheVariants as instr
use Rattle.mote_layout.specs.Page.{entry_at}
use Rattle.mote_layout.specs.declared.page.Entry.{Entry}
use Rattle.mote_layout.specs.declared.page.Entry.TheVariants as entry
use Rattle.unit_code.specs.Beside.{AreWordsOf, StandBy, words_in}
use Rattle.unit_code.specs.Kinds.{standing_entry, standing_of}
use Rattle.unit_code.specs.Lengths.{instruction_length}
use Rattle.unit_code.specs.Spelled.{BeginWith}
use Rattle.unit_code.specs.Templates.{IsEntry, IsForm, MayStandIn, enter, guard_of, template}
use Rattle.unit_code.specs.declared.form.Form.{Form}
use Rattle.unit_code.specs.declared.form.Form.TheVariants.{Whole, ShortSkip, LongSkip, ShortBranch, LongBranch, Jumping, Calling}
use Rattle.unit_code.specs.declared.kinds.Piece.{Piece}
use Rattle.unit_code.specs.declared.kinds.Standing.TheVariants.{Barred, Part}
use Rattle.unit_code.specs.declared.unit.Unit.{Unit}
use Rattle.unit_code.specs.declared.unit.Unit.TheVariants as unit
use Rattle.harbor_spell.proofs.Joined.{within}
use Rattle.harbor_spell.proofs.Starts.{instruction_length-some}
use Rattle.harbor_verify.specs.Decoding.{instruction_first, may_appear, may_call, may_stand_as}
use Rattle.harbor_verify.specs.Walks.{and_behind, fit_first, fit_instructions, instructions, only_fit, pieces_up_to, unfit}
use Rattle.harbor_verify.proofs.Decoded.{Any, begins, decoded_first, first_decoded, instruction_within}
use Rattle.harbor_verify.proofs.Entered.{called, is_store, load_guarded, store_guarded}
use Rattle.harbor_verify.proofs.Partings.{stopped_nowhere, stops_nowhere}
use Rattle.harbor_verify.proofs.Pieces.{Advances, nothing_behind, nothing_first, one_first, same_pieces}

-- Instructions that are units may appear, and calls of the entries in templates.
called_part : (sealed : Bool) (o : Option Entry) (p : Piece) → standing_entry o ≡ Part p → may_call sealed o ≡ true
called_part sealed (Some (entry.Kernel n)) p e = refl
called_part sealed (Some (entry.Slot n)) p e = refl
called_part sealed None p e = cc
called_part sealed (Some _) p e = cc

part_appears : (sealed : Bool) (i : Instr) (p : Piece) → standing_of i ≡ Part p → may_appear sealed i ≡ true
unfolding standing_of
part_appears sealed (instr.Call a) p e =
    elim (ltb a (2 ^ 16)) as (λ b. cond b (standing_entry (entry_at a)) (Barred 7) ≡ Part p → may_call sealed (cond b (entry_at a) None) ≡ true) [
      | true ↦ λ e. called_part sealed (entry_at a) p e
      | false ↦ λ e. cc
    ] e
part_appears sealed (instr.Jmp a) p e = cc
part_appears sealed _ p e = ap may_stand_as e

entry_appears : (sealed : Bool) (e : Entry) → IsEntry e → may_call sealed (Some e) ≡ true → may_appear sealed (enter e) ≡ true
entry_appears sealed e h may = ap (may_call sealed) (called e h) ∙ may

abbrev Appear : Bool → List Instr → Type 0
Appear sealed is = AllByRecursion (λ i. may_appear sealed i ≡ true) is

whole_appears : (sealed : Bool) (u : Unit) → IsForm (Whole u) → MayStandIn sealed (Whole u) → Appear sealed (template (Whole u))
unfolding standing_of
whole_appears sealed (unit.Plain i) h may = (part_appears sealed i _ h.0.0, tt)
whole_appears sealed (unit.Store i) h may =
    let g = store_guarded i h.0.1 (is_store i h.0.0) in
    (entry_appears sealed (guard_of i) g.entry (g.call sealed), (part_appears sealed i _ h.0.0, tt))
whole_appears sealed (unit.Load i) h may =
    let g = load_guarded i h.0.2 h.0.1 in
    (entry_appears sealed (guard_of i) g.entry (g.call sealed ∙ may), (part_appears sealed i _ h.0.0, tt))
whole_appears sealed (unit.Push r) h may = (entry_appears sealed entry.PushGuard tt refl, (refl, tt))
whole_appears sealed (unit.Pop d) h may = (entry_appears sealed entry.PopGuard tt refl, (refl, tt))
whole_appears sealed (unit.SpGroup true) h may = (entry_appears sealed entry.SpGuard tt refl, (refl, (refl, (refl, tt))))
whole_appears sealed (unit.SpGroup false) h may = (entry_appears sealed entry.SpGuard tt refl, (refl, (refl, tt)))
whole_appears sealed unit.Reserve h may = (entry_appears sealed entry.Reserve tt refl, tt)
whole_appears sealed (unit.KernelCall n) h may = (entry_appears sealed (entry.Kernel n) h.0 refl, tt)
whole_appears sealed (unit.SlotCall n) h may = (entry_appears sealed (entry.Slot n) h.0 refl, tt)
whole_appears sealed unit.SlotIndirect h may = (entry_appears sealed entry.SlotIndirect tt refl, tt)
whole_appears sealed unit.Return h may = (refl, tt)
whole_appears sealed _ h may = absurd h.1

template_appears : (sealed : Bool) (f : Form) → IsForm f → MayStandIn sealed f → Appear sealed (template f)
unfolding standing_of
template_appears sealed (Whole u) h may = whole_appears sealed u h may
template_appears sealed (ShortSkip i) h may = (part_appears sealed i _ h.0, tt)
template_appears sealed (LongSkip i k) h may = (part_appears sealed i _ h.0, (refl, (refl, tt)))
template_appears sealed (ShortBranch true bit k) h may = (refl, tt)
template_appears sealed (ShortBranch false bit k) h may = (refl, tt)
template_appears sealed (LongBranch true bit k) h may = (refl, (refl, tt))
template_appears sealed (LongBranch false bit k) h may = (refl, (refl, tt))
template_appears sealed (Jumping k) h may = (refl, tt)
template_appears sealed (Calling k) h may = (entry_appears sealed entry.LocalCall tt refl, (refl, tt))

all_appear : (sealed : Bool) (front is : List Instr) → Appear sealed front → Appear sealed is → Appear sealed (front ++ is)
all_appear sealed [] is h k = k
all_appear sealed (i ∷ front) is h k = (h.0, all_appear sealed front is h.1 k)

templates_appear : (sealed : Bool) (fs : List Form) (is : List Instr) → StandBy sealed fs is [] → Appear sealed is
templates_appear sealed [] is h = let P : List Instr → Type 0 = Appear sealed in subst P (sym h) tt
templates_appear sealed (f ∷ fs) is h =
    let P : List Instr → Type 0 = Appear sealed in
    subst P (sym h.1.words) (all_appear sealed (template f) h.0 (template_appears sealed f h.1.kind h.1.guarded) (templates_appear sealed fs h.0 h.2))

-- What may appear first.
only_is : (sealed : Bool) (o : Option Instr) (i : Instr) → only_fit sealed o ≡ Some i → o ≡ Some i
only_is sealed None i e = absurd (none-some i e)
only_is sealed (Some j) i e =
    elim (may_appear sealed j) as (λ b. cond b (Some j) None ≡ Some i → Some j ≡ Some i) [
      | true ↦ λ e. e
      | false ↦ λ e. absurd (none-some i e)
    ] e

-- words begin with instructions, and others are behind them
pub begin_count : (is : List Instr) (words rest : List ℕ) → BeginWith is words rest → length words ≡ words_in is + length rest
begin_count [] words rest h = let same = ap length h in omega (arith, same)
begin_count (i ∷ is) [] rest h = absurd h
begin_count (i ∷ is) (w ∷ ws) rest h =
    let n = instruction_length i in
    omega (arith, begin_count is (drop n (w ∷ ws)) rest h.1, length-drop n (w ∷ ws), within w ws i n h.0)

module _ (sealed : Bool) where
  fit_advances : Advances (fit_first sealed) instruction_length words_in Any
  fit_advances = record {
    empty = refl;
    some = λ words i good e. (instruction_length-some i, instruction_within words i (only_is sealed (instruction_first words) i e));
    behind = λ n words good. tt;
    none = refl;
    more = λ i is. refl;
  }

  pub fit_nothing : (words : List ℕ) → fit_first sealed words ≡ None → fit_instructions sealed words ≡ []
  unfolding fit_instructions
  fit_nothing words e = nothing_first (fit_first sealed) instruction_length words_in Any fit_advances words e

  pub fit_one : (words : List ℕ) (i : Instr) → fit_first sealed words ≡ Some i → fit_instructions sealed words ≡ i ∷ fit_instructions sealed (drop (instruction_length i) words)
  unfolding fit_instructions
  fit_one words i e = one_first (fit_first sealed) instruction_length words_in Any fit_advances words i tt e

  fit_words : (words : List ℕ) → unfit sealed words ≡ None → words_in (fit_instructions sealed words) ≡ length words
  unfolding unfit
  fit_words words e = stopped_nowhere (words_in (fit_instructions sealed words)) (length words) e

  same_instructions : (words : List ℕ) → unfit sealed words ≡ None → fit_instructions sealed words ≡ instructions words
  unfolding fit_instructions instructions
  same_instructions words e =
      same_pieces (fit_first sealed) instruction_first instruction_length words_in Any fit_advances refl (λ ws i e. only_is sealed (instruction_first ws) i e) words tt (fit_words words e)

  append_nothing : (is : List Instr) → is ≡ is ++ []
  append_nothing [] = refl
  append_nothing (i ∷ is) = ap (λ l. i ∷ l) (append_nothing is)

  -- words of which each is read are those of their instructions
  pub all_fit : (words : List ℕ) → unfit sealed words ≡ None → AreWordsOf (instructions words) words
  all_fit words e =
      let is = instructions words in
      let count : words_in is ≡ length words = ap words_in (sym (same_instructions words e)) ∙ fit_words words e in
      let P : List ℕ → Type 0 = λ l. BeginWith is words l in
      subst P (ap (λ n. drop n words) count ∙ drop_all (length words) words (omega arith)) (begins is [] words (append_nothing is)).0

  -- the walk stops at or before words that begin with nothing that may appear
  pub fit_before : (is : List Instr) (words rest : List ℕ) → BeginWith is words rest → fit_first sealed rest ≡ None → words_in (fit_instructions sealed words) ≤ words_in is
  fit_before [] words rest h none =
      let stop = ap words_in (fit_nothing words (ap (fit_first sealed) h ∙ none)) in
      omega (arith, stop)
  fit_before (i ∷ is) [] rest h none = absurd h
  fit_before (i ∷ is) (w ∷ ws) rest h none =
      let first = first_decoded w ws i (instruction_length i) h.0 in
      elim (may_appear sealed i) as (λ b. may_appear sealed i ≡ b → words_in (fit_instructions sealed (w ∷ ws)) ≤ words_in (i ∷ is)) [
        | false ↦ λ e.
            let stop = ap words_in (fit_nothing (w ∷ ws) (ap (only_fit sealed) first ∙ ap (λ b. cond b (Some i) None) e)) in
            omega (arith, stop)
        | true ↦ λ e.
            let behind = drop (instruction_length i) (w ∷ ws) in
            let all = ap words_in (fit_one (w ∷ ws) i (ap (only_fit sealed) first ∙ ap (λ b. cond b (Some i) None) e)) in
            omega (arith, all, fit_before is behind rest h.1 none)
      ] refl

  -- instructions that may all appear are read
  fit_are : (is : List Instr) (words : List ℕ) → AreWordsOf is words → Appear sealed is → fit_instructions sealed words ≡ is
  fit_are [] words h may = fit_nothing words (ap (fit_first sealed) h)
  fit_are (i ∷ is) [] h may = absurd h
  fit_are (i ∷ is) (w ∷ ws) h may =
      fit_one (w ∷ ws) i (ap (only_fit sealed) (first_decoded w ws i (instruction_length i) h.0) ∙ ap (λ b. cond b (Some i) None) may.0)
      ∙ ap (λ l. i ∷ l) (fit_are is (drop (instruction_length i) (w ∷ ws)) h.1 may.1)

  -- words of templates are all fit
  pub templates_fit : (fs : List Form) (is : List Instr) (words : List ℕ) → AreWordsOf is words → StandBy sealed fs is [] → unfit sealed words ≡ None
  unfolding unfit
  templates_fit fs is words h stand =
      let all : words_in (fit_instructions sealed words) ≡ words_in is = ap words_in (fit_are is words h (templates_appear sealed fs is stand)) in
      stops_nowhere (words_in (fit_instructions sealed words)) (length words) (let count = begin_count is words [] h in omega (arith, all, count))

  -- where the walk stops, nothing begins that may appear
  fit_begins : (n : ℕ) (words : List ℕ) → let is = pieces_up_to (fit_first sealed) instruction_length n words in BeginWith is words (drop (words_in is) words)
  unfolding pieces_up_to
  fit_begins zero words = refl
  fit_begins (suc n) [] = refl
  fit_begins (suc n) (w ∷ ws) =
      elim (fit_first sealed (w ∷ ws)) as (λ o. fit_first sealed (w ∷ ws) ≡ o → let is = and_behind o (λ i. pieces_up_to (fit_first sealed) instruction_length n (drop (instruction_length i) (w ∷ ws))) in BeginWith is (w ∷ ws) (drop (words_in is) (w ∷ ws))) [
        | None ↦ λ e. refl
        | Some i ↦ λ e.
            let behind = drop (instruction_length i) (w ∷ ws) in
            let is = pieces_up_to (fit_first sealed) instruction_length n behind in
            let P : List ℕ → Type 0 = λ l. BeginWith is behind l in
            (decoded_first w ws i (only_is sealed (instruction_first (w ∷ ws)) i e), subst P (drop-drop (words_in is) (instruction_length i) (w ∷ ws)) (fit_begins n behind))
      ] refl

  pub fit_stop : (words : List ℕ) → let is = fit_instructions sealed words in BeginWith is words (drop (words_in is) words) × (fit_first sealed (drop (words_in is) words) ≡ None)
  unfolding fit_instructions
  fit_stop words = (fit_begins (length words) words, nothing_behind (fit_first sealed) instruction_length words_in Any fit_advances words tt)
