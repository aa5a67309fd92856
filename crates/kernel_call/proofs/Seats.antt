-- Rows of modules that are looked up.
use Rattle.std.proofs.Common.{refl, ◌≡◌, ◌≢◌, ◌∙◌, ◌<◌, ◌==◌, [], ◌∷◌, ◌++◌, false, inl, sym, ap, subst, ℕ, inr, List, true, Option, Some, None}
use Rattle.std.specs.Option.{option_map, option_map_or}
use Rattle.std.specs.List.{Contains}
use Rattle.std.proofs.lemmas.Bool.{cases_Bool, cond-true, cond-false, eq-eqb, eqb-true, ne_eqb, or_left, or_parts, or_right}
use Rattle.std.proofs.lemmas.Option.{none-some, same_Some}
use Rattle.mote_layout.specs.Memory.{domain_count}
use Rattle.domain_model.specs.State.{Loaded}
use Rattle.domain_model.specs.Modules.{constants_at, in_use, is_loaded, module_at, module_named, without_domain}
use Rattle.domain_model.proofs.Kept.{each_contained, contained_first, contained_later}
use Rattle.domain_model.proofs.ModuleLaws.{found, loaded_named, named, same_module, contained_in_use}
use Rattle.kernel_call.specs.declared.loaded.ModuleRow.{ModuleRow}
use Rattle.kernel_call.specs.Rows.{row_of}
use Rattle.kernel_call.specs.Sound.{AreSeated}

-- a module that is there is in a domain that there is
pub contained_within : (modules : List Loaded) (m : Loaded) → AreSeated modules → Contains modules m → m.domain < domain_count
contained_within modules m seated there = each_contained (λ (n : Loaded). n.domain < domain_count) modules m seated.domains there

-- and so is a domain in use
pub in_use_within : (modules : List Loaded) (domain : ℕ) → AreSeated modules → in_use modules domain ≡ true → domain < domain_count
in_use_within modules domain seated used =
    let f = found modules domain used in
    subst (λ (d : ℕ). d < domain_count) f.domain_of (contained_within modules f.row seated f.contained)

-- a module that is found by its domain is there
pub at_contained : (modules : List Loaded) (domain : ℕ) (m : Loaded) → module_at modules domain ≡ Some m → Contains modules m
at_contained [] domain m is = absurd (none-some m is)
at_contained (n ∷ ns) domain m is =
    elim (cases_Bool (n.domain == domain)) [
      | inl here ↦
          let same : n ≡ m = same_Some n m (sym (cond-true (n.domain == domain) (Some n) (module_at ns domain) here) ∙ is) in
          subst (Contains (n ∷ ns)) same (contained_first ns n)
      | inr other ↦
          contained_later n ns m (at_contained ns domain m (sym (cond-false (n.domain == domain) (Some n) (module_at ns domain) other) ∙ is))
    ]

pub at_used : (modules : List Loaded) (domain : ℕ) (m : Loaded) → module_at modules domain ≡ Some m → in_use modules domain ≡ true
at_used [] domain m is = absurd (none-some m is)
at_used (n ∷ ns) domain m is =
    elim (cases_Bool (n.domain == domain)) [
      | inl here ↦ or_left (n.domain == domain) (in_use ns domain) here
      | inr other ↦ or_right (n.domain == domain) (in_use ns domain) (at_used ns domain m (sym (cond-false (n.domain == domain) (Some n) (module_at ns domain) other) ∙ is))
    ]

-- a row that is found by a domain is in use
pub row_in_use : (modules : List Loaded) (domain : ℕ) (row : ModuleRow) → Some row ≡ option_map row_of (module_at modules domain) → in_use modules row.domain ≡ true
row_in_use modules domain row is = by_case (module_at modules domain) refl
  where
    by_case : (o : Option Loaded) → module_at modules domain ≡ o → in_use modules row.domain ≡ true
    by_case None e = absurd (none-some row (sym (is ∙ ap (λ o. option_map row_of o) e)))
    by_case (Some m) e =
        let same : row ≡ row_of m = same_Some row (row_of m) (is ∙ ap (λ o. option_map row_of o) e) in
        subst (λ (x : ModuleRow). in_use modules x.domain ≡ true) (sym same) (contained_in_use modules m (at_contained modules domain m e))

-- and its constants are those of its domain
pub constants_there : (modules : List Loaded) (domain : ℕ) (m : Loaded) → module_at modules domain ≡ Some m → constants_at modules m.domain ≡ m.constants
constants_there modules domain m is =
    let f = found modules domain (at_used modules domain m is) in
    let same : f.row ≡ m = same_Some f.row m (sym f.at ∙ is) in
    let within : m.domain ≡ domain = subst (λ (x : Loaded). x.domain ≡ domain) same f.domain_of in
    ap (λ (d : ℕ). constants_at modules d) within ∙ ap (λ (o : Option Loaded). option_map_or (λ (x : Loaded). x.constants) o 0) is

-- a module that is found by its id is the one in its domain
named_there : (modules : List Loaded) (id : ℕ) (m : Loaded) → AreSeated modules → module_named modules id ≡ Some m → module_at modules m.domain ≡ module_named modules id
named_there modules id m seated is =
    let n = named modules id m is in
    let f = found modules m.domain (contained_in_use modules m n.contained) in
    f.at ∙ ap (λ x. Some x) (same_module modules f.row m seated.distinct f.contained n.contained (inr f.domain_of)) ∙ sym is

-- The same of its row.
pub record IsSeat (modules : List Loaded) (id : ℕ) (row : ModuleRow) : Type 0 where
  pub within : row.domain < domain_count
  pub there : module_at modules row.domain ≡ module_named modules id

pub named_row : (modules : List Loaded) (id : ℕ) (row : ModuleRow) → AreSeated modules → Some row ≡ option_map row_of (module_named modules id) → IsSeat modules id row
named_row modules id row seated is = by_case (module_named modules id) refl
  where
    by_case : (o : Option Loaded) → module_named modules id ≡ o → IsSeat modules id row
    by_case None e = absurd (none-some row (sym (is ∙ ap (λ o. option_map row_of o) e)))
    by_case (Some m) e =
        let same : row ≡ row_of m = same_Some row (row_of m) (is ∙ ap (λ o. option_map row_of o) e) in
        subst (IsSeat modules id) (sym same) (record {
          within = contained_within modules m seated (named modules id m e).contained;
          there = named_there modules id m seated e;
        })

pub named_within : (modules : List Loaded) (id : ℕ) (row : ModuleRow) → AreSeated modules → Some row ≡ option_map row_of (module_named modules id) → row.domain < domain_count
named_within modules id row seated is = (named_row modules id row seated is).within

pub at_row : (modules : List Loaded) (domain : ℕ) (row : ModuleRow) → AreSeated modules → Some row ≡ option_map row_of (module_at modules domain) → row.domain < domain_count
at_row modules domain row seated is = by_case (module_at modules domain) refl
  where
    by_case : (o : Option Loaded) → module_at modules domain ≡ o → row.domain < domain_count
    by_case None e = absurd (none-some row (sym (is ∙ ap (λ o. option_map row_of o) e)))
    by_case (Some m) e =
        let same : row ≡ row_of m = same_Some row (row_of m) (is ∙ ap (λ o. option_map row_of o) e) in
        subst (λ (x : ModuleRow). x.domain < domain_count) (sym same) (contained_within modules m seated (at_contained modules domain m e))

-- a domain in use has a row
pub used_row : (modules : List Loaded) (domain : ℕ) → in_use modules domain ≡ true → None ≡ option_map row_of (module_at modules domain) → ⊥
used_row modules domain used none =
    let f = found modules domain used in
    none-some (row_of f.row) (none ∙ ap (λ o. option_map row_of o) f.at)

-- and so has a loaded id
pub loaded_row : (modules : List Loaded) (id : ℕ) → is_loaded modules id ≡ true → None ≡ option_map row_of (module_named modules id) → ⊥
loaded_row modules id loaded none =
    let n = loaded_named modules id loaded in
    none-some (row_of n.0) (none ∙ ap (λ o. option_map row_of o) n.1)

-- a domain with a row is in use
pub row_used : (modules : List Loaded) (domain : ℕ) (row : ModuleRow) → Some row ≡ option_map row_of (module_at modules domain) → in_use modules domain ≡ true
row_used modules domain row is = by_case (module_at modules domain) refl
  where
    by_case : (o : Option Loaded) → module_at modules domain ≡ o → in_use modules domain ≡ true
    by_case None e = absurd (none-some row (sym (is ∙ ap (λ o. option_map row_of o) e)))
    by_case (Some m) e = at_used modules domain m e

-- and that of a module that is found by its id is in use
pub named_used : (modules : List Loaded) (id : ℕ) (row : ModuleRow) → AreSeated modules → Some row ≡ option_map row_of (module_named modules id) → in_use modules row.domain ≡ true
named_used modules id row seated is =
    row_used modules row.domain row (is ∙ sym (ap (λ o. option_map row_of o) (named_row modules id row seated is).there))

-- and so is the module's that is found by its id, where it is the one in its domain
pub seat_used : (modules : List Loaded) (id : ℕ) (row : ModuleRow) → Some row ≡ option_map row_of (module_named modules id) → module_at modules row.domain ≡ module_named modules id → in_use modules row.domain ≡ true
seat_used modules id row is there = row_used modules row.domain row (is ∙ sym (ap (λ o. option_map row_of o) there))

-- a module that comes into a free domain is the one there
pub pushed_there : (modules : List Loaded) (m : Loaded) → in_use modules m.domain ≡ false → module_at (modules ++ m ∷ []) m.domain ≡ Some m
pushed_there [] m free = cond-true (m.domain == m.domain) (Some m) None (eq-eqb m.domain m.domain refl)
pushed_there (n ∷ ns) m free =
    let apart = or_parts (n.domain == m.domain) (in_use ns m.domain) free in
    cond-false (n.domain == m.domain) (Some n) (module_at (ns ++ m ∷ []) m.domain) apart.0 ∙ pushed_there ns m apart.1

-- and the others stay where they were
pub beside_there : (modules : List Loaded) (m : Loaded) (domain : ℕ) → m.domain ≢ domain → module_at (modules ++ m ∷ []) domain ≡ module_at modules domain
beside_there [] m domain other = cond-false (m.domain == domain) (Some m) None (ne_eqb m.domain domain other)
beside_there (n ∷ ns) m domain other =
    elim (cases_Bool (n.domain == domain)) [ inl here ↦ rw here refl | inr there ↦ rw there (beside_there ns m domain other) ]

-- what goes out of a domain leaves none there
pub gone_there : (modules : List Loaded) (domain : ℕ) → module_at (without_domain domain modules) domain ≡ None
gone_there [] domain = refl
gone_there (m ∷ ms) domain =
    elim (cases_Bool (m.domain == domain)) [ inl here ↦ rw here (gone_there ms domain) | inr there ↦ rw (there, there) (gone_there ms domain) ]

-- and the others where they were
pub left_there : (modules : List Loaded) (gone domain : ℕ) → domain ≢ gone → module_at (without_domain gone modules) domain ≡ module_at modules domain
left_there [] gone domain other = refl
left_there (m ∷ ms) gone domain other =
    elim (cases_Bool (m.domain == gone)) [
      | inl here ↦
          let apart = ne_eqb m.domain domain (λ e. other (sym e ∙ eqb-true m.domain gone here)) in
          rw (here, apart) (left_there ms gone domain other)
      | inr there ↦
          elim (cases_Bool (m.domain == domain)) [ inl at ↦ rw (there, at) refl | inr away ↦ rw (there, away) (left_there ms gone domain other) ]
    ]

-- no module is in a free domain
pub none_there : (modules : List Loaded) (domain : ℕ) → in_use modules domain ≡ false → module_at modules domain ≡ None
none_there [] domain free = refl
none_there (m ∷ ms) domain free =
    let parts = or_parts (m.domain == domain) (in_use ms domain) free in
    cond-false (m.domain == domain) (Some m) (module_at ms domain) parts.0 ∙ none_there ms domain parts.1
