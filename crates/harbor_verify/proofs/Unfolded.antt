-- The units of all templates, and the first place that leads astray, template by template.
use Rattle.std.proofs.Common.{◌≡◌, ◌∙◌, ℕ, zero, suc, ◌+◌, ◌≤◌, ◌<◌, ◌⊎◌, ⊎_elim, not, false, List, [], ◌∷◌, ◌++◌, append-nil, drop, length, get_or, Some, None, Result, Ok, Err, refl, sym, ap, ap₂, subst, arith, length-drop}
use Rattle.std.proofs.lemmas.List.{drop-drop, drop_all}
use Rattle.unit_code.specs.Beside.{form_words}
use Rattle.unit_code.specs.Ends.{goes_on, leaves, long_length}
use Rattle.unit_code.specs.Spelling.{start_of}
use Rattle.unit_code.specs.declared.form.Form.{Form}
use Rattle.unit_code.specs.declared.unit.Unit.{Unit}
use Rattle.harbor_verify.specs.Parts.{ArePartsOf, HaveUnits}
use Rattle.harbor_verify.specs.Resolved.{astray_at, joined, resolve, resolve_from, resolved, units_or_none}
use Rattle.harbor_verify.specs.Verdict.{units_in}
use Rattle.harbor_verify.specs.Walks.{forms_in}
use Rattle.harbor_verify.proofs.Lost.{is_astray}
use Rattle.harbor_verify.proofs.NthForm.{count, forms_are, nth}
use Rattle.harbor_verify.proofs.Resolving.{AreUnitsOf, joined_is, units_of_forms}
use Rattle.harbor_verify.proofs.Straying.{IsPlaced}

abbrev none_of_forms : List Form
none_of_forms = []

abbrev none_of_units : List Unit
none_of_units = []

-- The n-th unit among those that forms resolve to.
pub record IsUnit (starts : List ℕ) (n k : ℕ) (f : Form) (behind : List Form) (us : List Unit) : Type 0 where
  pub unit : Unit
  pub resolves : resolve starts n (start_of starts n) f behind ≡ Ok unit
  pub there : drop k us ≡ unit ∷ drop (suc k) us

no_more : (k : ℕ) → length (drop k (none_of_forms)) ≡ 0
no_more zero = refl
no_more (suc k) = refl

no_units : (k : ℕ) → length (drop k (none_of_units)) ≡ 0
no_units zero = refl
no_units (suc k) = refl

unit_among : (starts : List ℕ) (m k : ℕ) (fs : List Form) (us : List Unit) (f : Form) (behind : List Form) → resolve_from starts m fs ≡ Ok us → drop k fs ≡ f ∷ behind → IsUnit starts (m + k) k f behind us
unit_among starts m k [] us f behind e is = let left = ap length is in absurd (omega (arith, left, no_more k))
unit_among starts m zero (g ∷ fs) us f behind e is =
    let same : g ≡ f = cc in
    let rest : fs ≡ behind = cc in
    let parts = joined_is (resolve starts m (start_of starts m) g fs) (resolve_from starts (m + 1) fs) us e in
    let P : List Unit → Type 0 = λ l. IsUnit starts (m + 0) 0 f behind l in
    let here : m + 0 ≡ m = omega arith in
    subst P parts.are (record {
      unit = parts.u;
      resolves =
          ap (λ j. resolve starts j (start_of starts j) f behind) here
          ∙ ap₂ (λ (x : Form) (l : List Form). resolve starts m (start_of starts m) x l) (sym same) (sym rest) ∙ parts.first_is;
      there = refl;
    })
unit_among starts m (suc k) (g ∷ fs) us f behind e is =
    let parts = joined_is (resolve starts m (start_of starts m) g fs) (resolve_from starts (m + 1) fs) us e in
    let h = unit_among starts (m + 1) k fs parts.more f behind parts.rest_is is in
    let P : List Unit → Type 0 = λ l. IsUnit starts (m + suc k) (suc k) f behind l in
    let same : m + 1 + k ≡ m + suc k = omega arith in
    subst P parts.are (record {
      unit = h.unit;
      resolves = ap (λ j. resolve starts j (start_of starts j) f behind) (sym same) ∙ h.resolves;
      there = h.there;
    })

module _ (words starts : List ℕ) (parts : ArePartsOf words starts) where
  abbrev pub fs : List Form
  fs = forms_in words

  step : (n : ℕ) (f : Form) → drop n fs ≡ f ∷ drop (n + 1) fs → resolve_from starts n (drop n fs) ≡ joined (resolve starts n (start_of starts n) f (drop (n + 1) fs)) (resolve_from starts (n + 1) (drop (n + 1) fs))
  step n f e = ap (resolve_from starts n) e

  behind_unit : (u : Unit) (r : Result (List Unit) ℕ) → astray_at (joined (Ok u) r) ≡ astray_at r
  behind_unit u (Ok us) = refl
  behind_unit u (Err at) = refl

  -- what leads astray from a template on
  pub astray_here : (n : ℕ) (f : Form) (at : ℕ) → drop n fs ≡ f ∷ drop (n + 1) fs → resolve starts n (start_of starts n) f (drop (n + 1) fs) ≡ Err at → astray_at (resolve_from starts n (drop n fs)) ≡ Some at
  astray_here n f at e is = ap astray_at (step n f e ∙ ap (λ r. joined r (resolve_from starts (n + 1) (drop (n + 1) fs))) is)

  pub astray_behind : (n : ℕ) (f : Form) (u : Unit) → drop n fs ≡ f ∷ drop (n + 1) fs → resolve starts n (start_of starts n) f (drop (n + 1) fs) ≡ Ok u
      → astray_at (resolve_from starts n (drop n fs)) ≡ astray_at (resolve_from starts (n + 1) (drop (n + 1) fs))
  astray_behind n f u e is =
      let rest = resolve_from starts (n + 1) (drop (n + 1) fs) in
      ap astray_at (step n f e ∙ ap (λ r. joined r rest) is) ∙ behind_unit u rest

  pub astray_none : (n : ℕ) → length starts ≤ n → astray_at (resolve_from starts n (drop n fs)) ≡ None
  astray_none n past = ap (λ l. astray_at (resolve_from starts n l)) (drop_all n fs (omega (arith, past, count words starts parts)))

  -- where nothing leads astray
  whole : (h : HaveUnits words) → resolve_from starts 0 fs ≡ Ok h.units
  unfolding resolved
  whole h = ap (λ l. resolve_from l 0 fs) parts.starts_are ∙ h.are

  units_are : (h : HaveUnits words) → units_in words ≡ h.units
  unfolding units_in
  units_are h = ap units_or_none h.are

  pub units_known : (h : HaveUnits words) → AreUnitsOf starts 0 fs (units_in words)
  units_known h =
      let P : List Unit → Type 0 = λ l. AreUnitsOf starts 0 fs l in
      subst P (sym (units_are h)) (units_of_forms starts 0 fs h.units (forms_are words starts parts) (whole h))

  pub units_count : HaveUnits words → length (units_in words) ≡ length starts
  units_count h = (units_known h).count ∙ sym (count words starts parts)

  pub unit_is : HaveUnits words → (n : ℕ) (f : Form) → drop n fs ≡ f ∷ drop (n + 1) fs → IsUnit starts n n f (drop (n + 1) fs) (units_in words)
  unit_is h n f e =
      let P : List Unit → Type 0 = λ l. IsUnit starts n n f (drop (n + 1) fs) l in
      let Q : ℕ → Type 0 = λ m. IsUnit starts m n f (drop (n + 1) fs) h.units in
      let zero_more : 0 + n ≡ n = omega arith in
      subst P (sym (units_are h)) (subst Q zero_more (unit_among starts 0 n fs h.units f (drop (n + 1) fs) (whole h) e))

  -- the unit that is read at a start
  pub unit_read : HaveUnits words → (n : ℕ) (u : Unit) → n < length starts
      → ((f : Form) → drop n fs ≡ f ∷ drop (n + 1) fs → Ok u ≡ resolve starts n (start_of starts n) f (drop (n + 1) fs)) → drop n (units_in words) ≡ u ∷ drop (n + 1) (units_in words)
  unit_read h n u inside so =
      let there = nth words starts parts n inside in
      let is = unit_is h n there.0 there.1.behind in
      let same : (let r : Result Unit ℕ = Ok u in r ≡ Ok is.unit) = so there.0 there.1.behind ∙ is.resolves in
      let equal : u ≡ is.unit = cc in
      let next : suc n ≡ n + 1 = omega arith in
      is.there ∙ ap₂ (λ (x : Unit) (m : ℕ). x ∷ drop m (units_in words)) (sym equal) next

  pub unit_found : HaveUnits words → (n at : ℕ) → n < length starts
      → ((f : Form) → drop n fs ≡ f ∷ drop (n + 1) fs → Err at ≡ resolve starts n (start_of starts n) f (drop (n + 1) fs)) → ⊥
  unit_found h n at inside so =
      let there = nth words starts parts n inside in
      let is = unit_is h n there.0 there.1.behind in
      let same : (let r : Result Unit ℕ = Err at in r ≡ Ok is.unit) = so there.0 there.1.behind ∙ is.resolves in
      cc

  pub none_after : HaveUnits words → (n : ℕ) → length starts ≤ n → drop n (units_in words) ≡ []
  none_after h n past = drop_all n (units_in words) (omega (arith, past, units_count h))

  pub length_end : HaveUnits words → (n sum : ℕ) → length starts ≤ n → sum + long_length (drop n (units_in words)) ≡ long_length (units_in words) → sum ≡ long_length (units_in words)
  length_end h n sum past so = let none = ap long_length (none_after h n past) in let nothing : long_length [] ≡ 0 = refl in omega (arith, so, none, nothing)

  pub units_end : HaveUnits words → (n : ℕ) (read : List Unit) → length starts ≤ n → read ++ drop n (units_in words) ≡ units_in words → read ≡ units_in words
  units_end h n read past so = sym (append-nil read) ∙ ap (λ l. read ++ l) (sym (none_after h n past)) ∙ so

  last_leaves : (n : ℕ) (us : List Unit) (u : Unit) → drop n us ≡ u ∷ [] → goes_on us ≡ not (leaves u)
  last_leaves zero us u e = ap goes_on e
  last_leaves (suc n) [] u e = cc
  last_leaves (suc n) (v ∷ []) u e = let left = ap length e in absurd (omega (arith, left, no_units n))
  last_leaves (suc n) (v ∷ w ∷ us) u e = last_leaves n (w ∷ us) u e

  pub ends_with : HaveUnits words → (n : ℕ) (u : Unit) → length starts ≡ n + 1 → drop n (units_in words) ≡ u ∷ drop (n + 1) (units_in words) → goes_on (units_in words) ≡ not (leaves u)
  ends_with h n u all e =
      last_leaves n (units_in words) u (e ∙ ap (λ l. u ∷ l) (drop_all (n + 1) (units_in words) (omega (arith, all, units_count h))))

  no_end : (us : List Unit) → length us ≡ 0 → goes_on us ≡ false
  no_end [] e = refl
  no_end (u ∷ us) e = absurd (omega (arith, e))

  pub ends_nowhere : HaveUnits words → length starts ≡ 0 → goes_on (units_in words) ≡ false
  ends_nowhere h none = no_end (units_in words) (units_count h ∙ none)

-- an answer that is no place is a unit
pub unit_or_none : (r : Result Unit ℕ) → ((at : ℕ) → r ≡ Err at → ⊥) → (u : Unit) × (r ≡ Ok u)
unit_or_none (Ok u) none = (u, refl)
unit_or_none (Err at) none = absurd (none at refl)

-- The first place that leads astray.
pub record FindsAstray (fs : List Form) (starts : List ℕ) (m at : ℕ) : Type 0 where
  pub n : ℕ
  pub f : Form
  pub behind : List Form
  pub there : drop n fs ≡ f ∷ behind
  pub is : resolve starts (m + n) (start_of starts (m + n)) f behind ≡ Err at

pub astray_found : (starts : List ℕ) (m at : ℕ) (fs : List Form) → astray_at (resolve_from starts m fs) ≡ Some at → FindsAstray fs starts m at
astray_found starts m at [] e = cc
astray_found starts m at (f ∷ fs) e =
    let rest = resolve_from starts (m + 1) fs in
    elim (resolve starts m (start_of starts m) f fs) as (λ r. resolve starts m (start_of starts m) f fs ≡ r → astray_at (joined r rest) ≡ Some at → FindsAstray (f ∷ fs) starts m at) [
      | Err here ↦ λ is e. let same : here ≡ at = cc in record { n = 0; f = f; behind = fs; there = refl; is = ap (λ j. resolve starts j (start_of starts j) f fs) (omega arith) ∙ is ∙ ap (λ a. Err a) same }
      | Ok u ↦ λ is e.
          let h = astray_found starts (m + 1) at fs (sym (behind_ok u rest) ∙ e) in
          let same : m + 1 + h.n ≡ m + suc h.n = omega arith in
          record { n = suc h.n; f = h.f; behind = h.behind; there = h.there; is = ap (λ j. resolve starts j (start_of starts j) h.f h.behind) (sym same) ∙ h.is }
    ] refl e where
      behind_ok : (u : Unit) (r : Result (List Unit) ℕ) → astray_at (joined (Ok u) r) ≡ astray_at r
      behind_ok u (Ok us) = refl
      behind_ok u (Err at) = refl

module _ (all : List Form) (starts : List ℕ) (placed : (n : ℕ) (f : Form) (behind : List Form) → drop n all ≡ f ∷ behind → IsPlaced starts n (start_of starts n) f behind) where
  behind_one : (m : ℕ) (g : Form) (rest : List Form) → drop m all ≡ g ∷ rest → drop (m + 1) all ≡ rest
  behind_one m g rest e = sym (drop-drop 1 m all) ∙ ap (drop 1) e

  -- later templates start behind an earlier one
  later : (m k : ℕ) (g h : Form) (fs behind : List Form) → drop m all ≡ g ∷ fs → drop k fs ≡ h ∷ behind → start_of starts m + form_words g ≤ start_of starts (m + 1 + k)
  later m k g h fs behind e f =
      let here = placed m g fs e in
      let left = ap length f in
      let gone = length-drop k fs in
      let some : k < length fs = omega (arith, left, gone) in
      let next = here.next (omega (arith, some)) in
      let inside : m + 1 + k < length starts = omega (arith, here.count, some) in
      let cases : (0 < k) ⊎ (0 ≡ k) = grind arith in
      ⊎_elim (λ (above : 0 < k). let less : get_or starts (m + 1) 0 < get_or starts (m + 1 + k) 0 = here.first.rise (m + 1) (m + 1 + k) (omega (arith, above)) inside in omega (arith, less, next))
      (λ (same : 0 ≡ k). let equal = ap (λ j. get_or starts (m + 1 + j) 0) same in let none : get_or starts (m + 1 + 0) 0 ≡ get_or starts (m + 1) 0 = ap (λ j. get_or starts j 0) (omega arith) in omega (arith, equal, next, none)) cases

  pub first_strays : (m : ℕ) (fs : List Form) → drop m all ≡ fs → (k : ℕ) (f : Form) (behind : List Form) (at : ℕ) → drop k fs ≡ f ∷ behind → resolve starts (m + k) (start_of starts (m + k)) f behind ≡ Err at
      → (first : ℕ) × (astray_at (resolve_from starts m fs) ≡ Some first) × (first ≤ at)
  first_strays m [] e k f behind at is astray = let left = ap length is in absurd (omega (arith, left, no_more k))
  first_strays m (g ∷ fs) e zero f behind at is astray =
      let same : f ≡ g = cc in
      let rest : behind ≡ fs = cc in
      let here : resolve starts m (start_of starts m) g fs ≡ Err at = ap₂ (λ (x : Form) (l : List Form). resolve starts m (start_of starts m) x l) (sym same) (sym rest) ∙ ap (λ j. resolve starts j (start_of starts j) f behind) (omega arith) ∙ astray in
      (at, ap (λ r. astray_at (joined r (resolve_from starts (m + 1) fs))) here, omega arith)
  first_strays m (g ∷ fs) e (suc k) f behind at is astray =
      let rest = resolve_from starts (m + 1) fs in
      let same : m + suc k ≡ m + 1 + k = omega arith in
      let there : resolve starts (m + 1 + k) (start_of starts (m + 1 + k)) f behind ≡ Err at = ap (λ j. resolve starts j (start_of starts j) f behind) (sym same) ∙ astray in
      let more = first_strays (m + 1) fs (behind_one m g fs e) k f behind at is there in
      elim (resolve starts m (start_of starts m) g fs) as (λ r. resolve starts m (start_of starts m) g fs ≡ r → (first : ℕ) × (astray_at (joined r rest) ≡ Some first) × (first ≤ at)) [
        | Err here ↦ λ now.
            let first = is_astray starts m (start_of starts m) fs here g (placed m g fs e) now in
            let last = is_astray starts (m + 1 + k) (start_of starts (m + 1 + k)) behind at f (placed (m + 1 + k) f behind (sym (drop-drop k (m + 1) all) ∙ ap (drop k) (behind_one m g fs e) ∙ is)) there in
            (here, refl, let order = later m k g f fs behind e is in omega (arith, first.within, order, last.from))
        | Ok u ↦ λ now. (more.0, behind_ok u rest ∙ more.1, more.2)
      ] refl where
        behind_ok : (u : Unit) (r : Result (List Unit) ℕ) → astray_at (joined (Ok u) r) ≡ astray_at r
        behind_ok u (Ok us) = refl
        behind_ok u (Err at) = refl
