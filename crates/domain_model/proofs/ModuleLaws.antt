-- The list of loaded modules: which domains and ids it has, and that no two modules share one.
use Rattle.std.proofs.Common.{◌≡◌, ◌≢◌, ℕ, ◌⊎◌, inl, inr, ◌==◌, List, [], ◌∷◌, ◌++◌, filter, not, Bool, true, false, refl, sym, ap, subst, ◌∙◌, Option, Some}
use Rattle.std.specs.List.{AllByRecursion, Contains}
use Rattle.std.specs.Option.{option_map_or}
use Rattle.std.proofs.lemmas.Bool.{cases_Bool, cond-true, cond-false, cond_both, eqb-true, eqb-false, eq-eqb, ne_eqb, or_parts, not-true, not_from_false}
use Rattle.std.proofs.lemmas.Option.{none-some, same_Some}
use Rattle.std.proofs.lemmas.Map.Views.{any-filter_same}
use Rattle.domain_model.specs.State.{Loaded}
use Rattle.domain_model.specs.Modules.{module_at, id_at, constants_at, is_loaded, in_use, module_named, without_domain}
use Rattle.domain_model.specs.Good.{IsApart, AreDistinct}
use Rattle.domain_model.proofs.Kept.{each_filter, each_push, each_contained, contained_nowhere, contained_first, contained_later, contained_cases, contained_filter, filter_contained, any_old, any_new, any_contained}

-- the module behind a domain in use
pub record Found (modules : List Loaded) (domain : ℕ) : Type 0 where
  pub row : Loaded
  pub at : module_at modules domain ≡ Some row
  pub contained : Contains modules row
  pub domain_of : row.domain ≡ domain

pub found : (modules : List Loaded) (domain : ℕ) → in_use modules domain ≡ true → Found modules domain
found [] domain e = absurd (cc)
found (m ∷ ms) domain e =
    elim (cases_Bool (m.domain == domain)) [
      | inl here ↦ record {
        row = m;
        at = cond-true (m.domain == domain) (Some m) (module_at ms domain) here;
        contained = contained_first ms m;
        domain_of = eqb-true m.domain domain here;
      }
      | inr other ↦ later other (found ms domain (rw other at e))
    ]
  where
    later : (m.domain == domain) ≡ false → Found ms domain → Found (m ∷ ms) domain
    later other f = record {
      row = f.row;
      at = cond-false (m.domain == domain) (Some m) (module_at ms domain) other ∙ f.at;
      contained = contained_later m ms f.row f.contained;
      domain_of = f.domain_of;
    }

-- its id is the domain's
pub found_id : (modules : List Loaded) (domain : ℕ) (f : Found modules domain) → id_at modules domain ≡ f.row.face.id
found_id modules domain f = ap (λ (o : Option Loaded). option_map_or (λ (m : Loaded). m.face.id) o 0) f.at

-- domains and ids that are there stay where a module comes in, and its own are there
pub in_use_old : (modules : List Loaded) (row : Loaded) (domain : ℕ) → in_use modules domain ≡ true → in_use (modules ++ row ∷ []) domain ≡ true
in_use_old modules row domain h = any_old (λ (m : Loaded). m.domain == domain) modules row h

pub in_use_new : (modules : List Loaded) (row : Loaded) → in_use (modules ++ row ∷ []) row.domain ≡ true
in_use_new modules row = any_new (λ (m : Loaded). m.domain == row.domain) modules row (eq-eqb row.domain row.domain refl)

pub is_loaded_new : (modules : List Loaded) (row : Loaded) → is_loaded (modules ++ row ∷ []) row.face.id ≡ true
is_loaded_new modules row = any_new (λ (m : Loaded). m.face.id == row.face.id) modules row (eq-eqb row.face.id row.face.id refl)

-- another domain stays in use where one is given up
pub in_use_without : (modules : List Loaded) (gone domain : ℕ) → domain ≢ gone → in_use modules domain ≡ true → in_use (without_domain gone modules) domain ≡ true
in_use_without modules gone domain ne h =
    any-filter_same (λ (m : Loaded). m.domain == domain) (λ (m : Loaded). not (m.domain == gone)) true
    (λ m here. not_from_false (m.domain == gone) (ne_eqb m.domain gone (λ e. ne (sym (eqb-true m.domain domain here) ∙ e)))) modules
    ∙ h

-- what is left has another domain
pub other_domain : (domain gone : ℕ) → not (domain == gone) ≡ true → domain ≢ gone
other_domain domain gone h = eqb-false domain gone (not-true (domain == gone) h)

pub contained_without : (modules : List Loaded) (gone : ℕ) (m : Loaded) → Contains (without_domain gone modules) m → Contains modules m × (m.domain ≢ gone)
contained_without modules gone m c =
    let kept = contained_filter (λ (n : Loaded). not (n.domain == gone)) modules m c in
    (kept.0, other_domain m.domain gone kept.1)

-- a module with a new id and a new domain is apart from each
pub all_apart : (modules : List Loaded) (row : Loaded) → is_loaded modules row.face.id ≡ false → in_use modules row.domain ≡ false → AllByRecursion (λ m. IsApart m row) modules
all_apart [] row id domain = tt
all_apart (m ∷ ms) row id domain =
    let ids = or_parts (m.face.id == row.face.id) (is_loaded ms row.face.id) id in
    let domains = or_parts (m.domain == row.domain) (in_use ms row.domain) domain in
    ((λ e. eqb-false m.face.id row.face.id ids.0 (sym e), λ e. eqb-false m.domain row.domain domains.0 (sym e)), all_apart ms row ids.1 domains.1)

pub distinct_push : (modules : List Loaded) (row : Loaded) → AreDistinct modules → AllByRecursion (λ m. IsApart m row) modules → AreDistinct (modules ++ row ∷ [])
distinct_push [] row d a = (tt, tt)
distinct_push (m ∷ ms) row d a = (each_push (IsApart m) ms row d.0 a.0, distinct_push ms row d.1 a.1)

pub distinct_filter : (test : Loaded → Bool) (modules : List Loaded) → AreDistinct modules → AreDistinct (filter test modules)
distinct_filter test [] d = tt
distinct_filter test (m ∷ ms) d =
    cond_both (test m) (m ∷ filter test ms) (filter test ms) AreDistinct
    (λ kept. (each_filter (IsApart m) (IsApart m) test (λ n e h. h) ms d.0, distinct_filter test ms d.1))
    (λ lost. distinct_filter test ms d.1)

-- two modules that share an id or a domain are one
abbrev Share : Loaded → Loaded → Type 0
Share a b = (a.face.id ≡ b.face.id) ⊎ (a.domain ≡ b.domain)

share_not : (m a b : Loaded) → m ≡ a → IsApart m b → Share a b → ⊥
share_not m a b e apart (inl same) = apart.0 (sym same ∙ ap (λ (x : Loaded). x.face.id) (sym e))
share_not m a b e apart (inr same) = apart.1 (sym same ∙ ap (λ (x : Loaded). x.domain) (sym e))

swapped : (a b : Loaded) → Share a b → Share b a
swapped a b (inl e) = inl (sym e)
swapped a b (inr e) = inr (sym e)

pub same_module : (modules : List Loaded) (a b : Loaded) → AreDistinct modules → Contains modules a → Contains modules b → Share a b → a ≡ b
same_module [] a b d ca cb share = absurd (contained_nowhere a ca)
same_module (m ∷ ms) a b d ca cb share =
    elim (contained_cases m ms a ca) [
      | inl ea ↦
          elim (contained_cases m ms b cb) [
            | inl eb ↦ sym ea ∙ eb
            | inr inb ↦ absurd (share_not m a b ea (each_contained (IsApart m) ms b d.0 inb) share)
          ]
      | inr ina ↦
          elim (contained_cases m ms b cb) [
            | inl eb ↦ absurd (share_not m b a eb (each_contained (IsApart m) ms a d.0 ina) (swapped a b share))
            | inr inb ↦ same_module ms a b d.1 ina inb share
          ]
    ]

-- The module with an id.

-- what is found by an id has it, and is loaded
pub record Named (modules : List Loaded) (id : ℕ) (row : Loaded) : Type 0 where
  pub contained : Contains modules row
  pub id_of : row.face.id ≡ id

pub named : (modules : List Loaded) (id : ℕ) (row : Loaded) → module_named modules id ≡ Some row → Named modules id row
named [] id row e = absurd (none-some row e)
named (m ∷ ms) id row e =
    elim (cases_Bool (m.face.id == id)) [
      | inl here ↦
          let same : m ≡ row = same_Some m row (sym (cond-true (m.face.id == id) (Some m) (module_named ms id) here) ∙ e) in
          subst (Named (m ∷ ms) id) same (record { contained = contained_first ms m; id_of = eqb-true m.face.id id here })
      | inr other ↦
          let rest = named ms id row (sym (cond-false (m.face.id == id) (Some m) (module_named ms id) other) ∙ e) in
          record { contained = contained_later m ms row rest.contained; id_of = rest.id_of }
    ]

-- each loaded id is found
pub loaded_named : (modules : List Loaded) (id : ℕ) → is_loaded modules id ≡ true → (row : Loaded) × (module_named modules id ≡ Some row)
loaded_named [] id e = absurd (cc)
loaded_named (m ∷ ms) id e =
    elim (cases_Bool (m.face.id == id)) [
      | inl here ↦ (m, cond-true (m.face.id == id) (Some m) (module_named ms id) here)
      | inr other ↦
          let rest = loaded_named ms id (rw other at e) in
          (rest.0, cond-false (m.face.id == id) (Some m) (module_named ms id) other ∙ rest.1)
    ]

-- a module that is there is loaded, by its id and its domain
pub contained_loaded : (modules : List Loaded) (row : Loaded) → Contains modules row → is_loaded modules row.face.id ≡ true
contained_loaded modules row c = any_contained (λ (m : Loaded). m.face.id == row.face.id) modules row c (eq-eqb row.face.id row.face.id refl)

pub contained_in_use : (modules : List Loaded) (row : Loaded) → Contains modules row → in_use modules row.domain ≡ true
contained_in_use modules row c = any_contained (λ (m : Loaded). m.domain == row.domain) modules row c (eq-eqb row.domain row.domain refl)

-- the running domain's module has a loaded id
pub id_at_loaded : (modules : List Loaded) (domain : ℕ) → in_use modules domain ≡ true → is_loaded modules (id_at modules domain) ≡ true
id_at_loaded modules domain used =
    let f = found modules domain used in
    subst (λ (id : ℕ). is_loaded modules id ≡ true) (sym (found_id modules domain f)) (contained_loaded modules f.row f.contained)

-- a module's domain has its id
pub id_at_row : (modules : List Loaded) (row : Loaded) → AreDistinct modules → Contains modules row → id_at modules row.domain ≡ row.face.id
id_at_row modules row d c =
    let f = found modules row.domain (contained_in_use modules row c) in
    found_id modules row.domain f ∙ ap (λ (m : Loaded). m.face.id) (same_module modules f.row row d f.contained c (inr f.domain_of))

-- and its constants
pub constants_at_row : (modules : List Loaded) (row : Loaded) → AreDistinct modules → Contains modules row → constants_at modules row.domain ≡ row.constants
constants_at_row modules row d c =
    let f = found modules row.domain (contained_in_use modules row c) in
    ap (λ (o : Option Loaded). option_map_or (λ (m : Loaded). m.constants) o 0) f.at
    ∙ ap (λ (m : Loaded). m.constants) (same_module modules f.row row d f.contained c (inr f.domain_of))

-- loaded ids stay loaded where a module comes in
pub is_loaded_old : (modules : List Loaded) (row : Loaded) (id : ℕ) → is_loaded modules id ≡ true → is_loaded (modules ++ row ∷ []) id ≡ true
is_loaded_old modules row id h = any_old (λ (m : Loaded). m.face.id == id) modules row h

-- another id stays loaded where a module goes out
pub is_loaded_without : (modules : List Loaded) (row : Loaded) (id : ℕ) → AreDistinct modules → Contains modules row → id ≢ row.face.id → is_loaded modules id ≡ true → is_loaded (without_domain row.domain modules) id ≡ true
is_loaded_without modules row id d c ne h =
    let found = loaded_named modules id h in
    let m = named modules id found.0 found.1 in
    let apart : found.0.domain ≢ row.domain
    = λ e. ne (sym m.id_of ∙ ap (λ (x : Loaded). x.face.id) (same_module modules found.0 row d m.contained c (inr e))) in
    any_contained (λ (n : Loaded). n.face.id == id) (without_domain row.domain modules) found.0
    (filter_contained (λ (n : Loaded). not (n.domain == row.domain)) modules found.0 m.contained (not_from_false (found.0.domain == row.domain) (ne_eqb found.0.domain row.domain apart)))
    (eq-eqb found.0.face.id id m.id_of)
