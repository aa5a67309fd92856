-- A unit whose words are about to run, and where control lands behind it.
use Rattle.std.proofs.Common.{◌≡◌, ◌∙◌, ℕ, zero, suc, ◌+◌, ◌-◌, ◌<◌, ◌≤◌, Bool, true, List, [], ◌∷◌, ◌++◌, length, length-drop, get_or, None, Some, refl, sym, ap, arith, inl, inr}
use Rattle.std.specs.Prelude.{slice_get, slice_index}
use Rattle.std.specs.List.{AllByRecursion}
use Rattle.std.proofs.lemmas.Bool.{cases_lt}
use Rattle.std.proofs.lemmas.List.{get_or-drop}
use Rattle.avr_isa.specs.declared.instruction.Instr.{Instr}
use Rattle.mote_layout.specs.Memory.{bank_start, bank_words, domain_count, floor, stack_top}
use Rattle.unit_code.specs.Lengths.{spelled_length}
use Rattle.unit_code.specs.Proper.{IsOfKind}
use Rattle.unit_code.specs.Spelling.{Lays, form_of, start_of, starts_after}
use Rattle.unit_code.specs.Targets.{AreFirstWords, number_of}
use Rattle.unit_code.specs.Templates.{template}
use Rattle.unit_code.specs.declared.unit.Shape.{Shape}
use Rattle.unit_code.specs.declared.unit.Unit.{Unit}
use Rattle.unit_code.proofs.Numbers.{number_of-at, number_of-none}
use Rattle.harbor_spell.proofs.Keys.{template_some}
use Rattle.domain_model.specs.declared.handler.Running.{Running}
use Rattle.domain_model.specs.State.{KernelState, RunnerState}
use Rattle.domain_model.specs.Act.{bank, next_unit}
use Rattle.domain_model.specs.Good.{GoodMachine, GoodModule, GoodProcessor}
use Rattle.domain_model.specs.Modules.{in_use}
use Rattle.domain_model.proofs.ActLaws.{bank_proper, running_good, unit_of_kind}
use Rattle.domain_model.proofs.Kept.{each_contained}
use Rattle.domain_model.proofs.ModuleLaws.{found}
use Rattle.word_run.specs.FlashValue.{FlashValue, HoldsWords, part, words_of, starts_of, address_in, entry_point, unit_at}
use Rattle.word_run.proofs.Fetched.{Stand, stand_within}
use Rattle.word_run.proofs.Laid.{IsLaid, NthLaid, first_laid, nth_laid, starts_counted}
use Rattle.word_run.proofs.Steps.{InBank}

-- a domain that is in use is one
pub used_below : (k : KernelState) (r : RunnerState) (domain : ℕ) → GoodMachine k r → in_use k.modules domain ≡ true → domain < domain_count
used_below k r domain good used =
    let f = found k.modules domain used in
    let module_good = each_contained (GoodModule r) k.modules f.row good.modules f.contained in
    omega (arith, module_good.domain, f.domain_of)

-- the place in its bank at which the next unit's template starts
abbrev pub start : FlashValue → Running → ℕ
start v run = slice_index (starts_of v run.domain) v.unit

pub record Setting (v : FlashValue) (run : Running) (k : KernelState) (x : Unit) : Type 0 where
  pub in_bank : InBank v run k
  pub first : AreFirstWords (starts_of v run.domain)
  pub counted : length (starts_of v run.domain) ≡ length (bank (part v) run.domain)
  pub here : v.unit < length (starts_of v run.domain)
  pub sealed : Bool
  pub lays : Lays (words_of v run.domain) sealed (bank (part v) run.domain) (starts_of v run.domain)
  pub kinds : AllByRecursion IsOfKind (bank (part v) run.domain)
  pub nth : NthLaid (words_of v run.domain) (starts_of v run.domain) sealed (bank (part v) run.domain) v.unit x
  pub kind : IsOfKind x
  pub floor : floor ≤ k.processor.sp
  pub base : k.processor.sp ≤ run.base
  pub top : run.base ≤ stack_top
  pub processor : GoodProcessor k.processor

pub setting : (k : KernelState) (v : FlashValue) (run : Running) (x : Unit) → HoldsWords v → GoodMachine k (part v) → k.running ≡ Some run → next_unit (part v) run ≡ Some x → Setting v run k x
setting k v run x held good e next =
    let runs = (running_good k (part v) run good e).0 in
    let below = used_below k (part v) run.domain good runs.loaded in
    let words = held.spelled run.domain below in
    let kinds = (bank_proper k (part v) run good e).kinds in
    let counted = starts_counted (words_of v run.domain) (starts_of v run.domain) words.sealed (bank (part v) run.domain) words.lays in
    record {
      in_bank = record { running = e; below = below; fits = words.fits };
      first = words.first;
      counted = counted;
      here = omega (arith, counted, runs.unit);
      sealed = words.sealed;
      lays = words.lays;
      kinds = kinds;
      nth = nth_laid (words_of v run.domain) (starts_of v run.domain) words.sealed (bank (part v) run.domain) v.unit x kinds words.lays next;
      kind = unit_of_kind k (part v) run x good e next;
      floor = runs.floor;
      base = runs.base;
      top = omega (arith, runs.bound, runs.top);
      processor = good.processor;
    }

pub there : {X : Type 0} (xs : List X) (i : ℕ) → i < length xs → (x : X) × (slice_get xs i ≡ Some x)
there [] i h = absurd (omega (arith, h))
there (x ∷ xs) zero h = (x, refl)
there (x ∷ xs) (suc i) h = there xs i (omega (arith, h))

-- Control lands at the template of a unit.
pub lands : (v : FlashValue) (domain u : ℕ) → AreFirstWords (starts_of v domain) → u < length (starts_of v domain) → unit_at v domain (entry_point v domain u) ≡ Some u
lands v domain u first below =
    let starts = starts_of v domain in
    let place : entry_point v domain u - bank_start domain ≡ slice_index starts u = omega arith in
    ap (number_of starts) place ∙ number_of-at starts (slice_index starts u) u first below refl

form_within : (words : List ℕ) (place : ℕ) (is js : List Instr) → 0 < length is → Stand words place (is ++ js) → place < length words
form_within words place [] js some s = absurd (omega (arith, some))
form_within words place (i ∷ is) js some s = stand_within words place i (is ++ js) s

laid_below : (words starts : List ℕ) (sealed : Bool) (units : List Unit) (u : ℕ) (x : Unit) → NthLaid words starts sealed units u x → start_of starts u < length words
laid_below words starts sealed units u x n =
    let l = first_laid words starts sealed u (start_of starts u) x n.us n.shape n.ss n.laid in
    let f = form_of starts u (start_of starts u) x n.shape in
    form_within words (start_of starts u) (template f) l.behind (template_some f l.form.kind) l.stand

-- The templates behind a unit start behind its own, the first of them where that ends.
next_by : (place behind : ℕ) (us : List Unit) (ss : List Shape) → length ss ≡ length us → 0 < length us → get_or (place ∷ starts_after behind us ss) 1 0 ≡ behind
next_by place behind [] ss shaped some = absurd (omega (arith, some))
next_by place behind (u ∷ us) [] shaped some = absurd (omega (arith, shaped))
next_by place behind (u ∷ us) (s ∷ ss) shaped some = refl

module _ (v : FlashValue) (run : Running) (k : KernelState) (x : Unit) (s : Setting v run k x) where
  starts : List ℕ
  starts = starts_of v run.domain

  pub laid : IsLaid (words_of v run.domain) (starts_of v run.domain) s.sealed v.unit (start v run) x s.nth.us s.nth.shape s.nth.ss
  laid = first_laid (words_of v run.domain) (starts_of v run.domain) s.sealed v.unit (start v run) x s.nth.us s.nth.shape s.nth.ss s.nth.laid

  -- each template starts below the bank's end
  pub start_below : (u : ℕ) → u < length (starts_of v run.domain) → slice_index (starts_of v run.domain) u < bank_words
  start_below u within =
      let y = there (bank (part v) run.domain) u (let c = s.counted in omega (arith, c, within)) in
      let n = nth_laid (words_of v run.domain) (starts_of v run.domain) s.sealed (bank (part v) run.domain) u y.0 s.kinds s.lays y.1 in
      let low = laid_below (words_of v run.domain) (starts_of v run.domain) s.sealed (bank (part v) run.domain) u y.0 n in
      let fits = s.in_bank.fits in
      omega (arith, low, fits)

  pub next_start : v.unit + 1 < length (starts_of v run.domain) → slice_index (starts_of v run.domain) (v.unit + 1) ≡ start v run + spelled_length x s.nth.shape
  next_start more =
      let n = s.nth in
      let behind = start v run + spelled_length x n.shape in
      let left = ap length n.units_are in
      let some : 0 < length n.us = let c = s.counted in omega (arith, left, length-drop v.unit (bank (part v) run.domain), c, more) in
      sym (get_or-drop v.unit (starts_of v run.domain) 1 0)
      ∙ ap (λ l. get_or l 1 0) n.starts_are
      ∙ next_by (start v run) behind n.us n.ss (laid.shaped) some

  -- Behind its template starts that of the next unit.
  pub lands_next : v.unit + 1 < length (starts_of v run.domain) → unit_at v run.domain (address_in run.domain (start v run + spelled_length x s.nth.shape)) ≡ Some (v.unit + 1)
  lands_next more =
      ap (λ place. unit_at v run.domain (address_in run.domain place)) (sym (next_start more))
      ∙ lands v run.domain (v.unit + 1) s.first more

  -- Inside of it starts none.
  pub lands_inside : (place : ℕ) → start v run < place → place < start v run + spelled_length x s.nth.shape → unit_at v run.domain (address_in run.domain place) ≡ None
  lands_inside place after before =
      let at : address_in run.domain place - bank_start run.domain ≡ place = omega arith in
      ap (number_of (starts_of v run.domain)) at
      ∙ number_of-none (starts_of v run.domain) place (λ j within same.
      elim (cases_lt j v.unit) [
        | inl lower ↦ let rise = s.first.rise j v.unit lower s.here in omega (arith, rise, same, after)
        | inr not_lower ↦ elim (cases_lt v.unit j) [
          | inr equal ↦
              let is : j ≡ v.unit = omega (arith, not_lower, equal) in
              let e : slice_index (starts_of v run.domain) j ≡ start v run = ap (slice_index (starts_of v run.domain)) is in
              omega (arith, e, same, after)
          | inl higher ↦
              let next = next_start (omega (arith, higher, within)) in
              elim (cases_lt (v.unit + 1) j) [
                | inl past ↦ let rise = s.first.rise (v.unit + 1) j past within in omega (arith, rise, same, before, next)
                | inr not_past ↦
                    let is : j ≡ v.unit + 1 = omega (arith, not_past, higher) in
                    let e : slice_index (starts_of v run.domain) j ≡ slice_index (starts_of v run.domain) (v.unit + 1) = ap (slice_index (starts_of v run.domain)) is in
                    omega (arith, e, same, before, next)
              ]
        ]
      ])
