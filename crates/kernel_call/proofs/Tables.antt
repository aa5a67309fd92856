-- The tables stay those of the modules.
use Rattle.std.proofs.Common.{◌≡◌, ◌≢◌, ◌∙◌, refl, sym, ap, subst, arith, ℕ, zero, suc, ◌<◌, ◌==◌, inl, inr, true, false, List, [], ◌∷◌, ◌++◌, length, take, get_or, cond, Option, Some, None}
use Rattle.std.specs.Prelude.{slice_get, unwrap_or, IfSome}
use Rattle.std.specs.Option.{option_map_or}
use Rattle.std.specs.List.{AllByRecursion, Contains}
use Rattle.std.proofs.lemmas.Bool.{cases_Bool, cases_eq, eq-eqb, ne_eqb, or_left, or_parts, or_right}
use Rattle.std.proofs.lemmas.Option.{none-some}
use Rattle.mote_layout.specs.Memory.{domain_count}
use Rattle.module_image.specs.Links.{Seat, bound_slot, seat_in, seat_of}
use Rattle.func_link.specs.Links.{without}
use Rattle.func_link.proofs.Leading.{found-leads}
use Rattle.jump_table.specs.Entries.{Entries, unit_at, with_unit}
use Rattle.domain_model.specs.State.{Loaded, seats}
use Rattle.domain_model.specs.Modules.{in_use, is_loaded, module_at, without_domain}
use Rattle.domain_model.specs.Frames.{entry_unit}
use Rattle.domain_model.proofs.Kept.{contained_cases, contained_nowhere, each_contained}
use Rattle.kernel_call.specs.Sound.{AreSeated}
use Rattle.kernel_call.specs.Tables.{AreTabled, entry_at, entry_in, with_entries}
use Rattle.kernel_call.proofs.Seats.{beside_there, gone_there, left_there, none_there, pushed_there}

-- The seats of the modules.

abbrev seat : Loaded → Seat
seat m = record { domain = m.domain; face = m.face }

pub seats_more : (modules : List Loaded) (m : Loaded) → seats (modules ++ m ∷ []) ≡ seats modules ++ seat m ∷ []
seats_more [] m = refl
seats_more (n ∷ ns) m = ap (λ (l : List Seat). seat n ∷ l) (seats_more ns m)

pub seats_rest : (modules : List Loaded) (domain : ℕ) → seats (without_domain domain modules) ≡ without domain (seats modules)
seats_rest [] domain = refl
seats_rest (m ∷ ms) domain =
    elim (cases_Bool (m.domain == domain)) [
      | inl gone ↦ rw gone (seats_rest ms domain)
      | inr stays ↦ rw stays (ap (λ (l : List Seat). seat m ∷ l) (seats_rest ms domain))
    ]

-- none in a free domain, and none with a new id
pub no_seat_in : (modules : List Loaded) (domain : ℕ) → in_use modules domain ≡ false → seat_in domain (seats modules) ≡ None
no_seat_in [] domain free = refl
no_seat_in (m ∷ ms) domain free =
    let parts = or_parts (m.domain == domain) (in_use ms domain) free in rw parts.0 (no_seat_in ms domain parts.1)

pub no_seat_of : (modules : List Loaded) (id : ℕ) → is_loaded modules id ≡ false → seat_of id (seats modules) ≡ None
no_seat_of [] id new = refl
no_seat_of (m ∷ ms) id new =
    let parts = or_parts (m.face.id == id) (is_loaded ms id) new in rw parts.0 (no_seat_of ms id parts.1)

-- A slot leads into a domain that there is.
each_seat : (modules : List Loaded) → AllByRecursion (λ (m : Loaded). m.domain < domain_count) modules → AllByRecursion (λ (s : Seat). s.domain < domain_count) (seats modules)
each_seat [] h = tt
each_seat (m ∷ ms) h = (h.0, each_seat ms h.1)

pub bound_within : (modules : List Loaded) (domain slot to place : ℕ) → AreSeated modules → bound_slot (seats modules) domain slot ≡ Some (to, place) → to < domain_count
bound_within modules domain slot to place seated is =
    let leads = found-leads (seats modules) domain slot to place is in
    subst (λ (d : ℕ). d < domain_count) leads.provider_domain
    (each_contained (λ (s : Seat). s.domain < domain_count) (seats modules) leads.provider (each_seat modules seated.domains) leads.provider_is_in)

pub bound_target : (modules : List Loaded) (domain slot : ℕ) (o : Option (ℕ × ℕ)) → AreSeated modules → o ≡ bound_slot (seats modules) domain slot → IfSome o (λ target. target.0 < domain_count)
bound_target modules domain slot None seated is = tt
bound_target modules domain slot (Some (to, place)) seated is = bound_within modules domain slot to place seated (sym is)

-- and one that is in use
seat_used : (modules : List Loaded) (s : Seat) → Contains (seats modules) s → in_use modules s.domain ≡ true
seat_used [] s there = absurd (contained_nowhere s there)
seat_used (m ∷ ms) s there =
    elim (contained_cases (seat m) (seats ms) s there) [
      | inl same ↦ or_left (m.domain == s.domain) (in_use ms s.domain) (eq-eqb m.domain s.domain (ap (λ (x : Seat). x.domain) same))
      | inr later ↦ or_right (m.domain == s.domain) (in_use ms s.domain) (seat_used ms s later)
    ]

pub bound_used : (modules : List Loaded) (domain slot : ℕ) (o : Option (ℕ × ℕ)) → o ≡ bound_slot (seats modules) domain slot → IfSome o (λ target. in_use modules target.0 ≡ true)
bound_used modules domain slot None is = tt
bound_used modules domain slot (Some (to, place)) is =
    let leads = found-leads (seats modules) domain slot to place (sym is) in
    subst (λ (d : ℕ). in_use modules d ≡ true) leads.provider_domain (seat_used modules leads.provider leads.provider_is_in)

-- The entries.

got_or : (units : List ℕ) (place : ℕ) → unwrap_or (slice_get units place) 0 ≡ get_or units place 0
got_or [] place = refl
got_or (u ∷ us) zero = refl
got_or (u ∷ us) (suc place) = got_or us place

pub got_at : (units : List ℕ) (place : ℕ) → place < length units → slice_get units place ≡ Some (get_or units place 0)
got_at [] place within = absurd (omega (arith, within))
got_at (u ∷ us) zero within = refl
got_at (u ∷ us) (suc place) within = got_at us place (omega (arith, within))

pub entry_found : (modules : List Loaded) (domain place : ℕ) → unwrap_or (entry_at modules domain place) 0 ≡ entry_unit modules domain place
entry_found modules domain place = by_case (module_at modules domain)
  where
    by_case : (o : Option Loaded) → unwrap_or (entry_in o place) 0 ≡ option_map_or (λ (m : Loaded). get_or m.entries place 0) o 0
    by_case None = refl
    by_case (Some m) = got_or m.entries place

-- One more of the entries is among those that are set, and the others are as before.
pub entry_here : (units : List ℕ) (count unit : ℕ) → slice_get units count ≡ Some unit → slice_get (take (suc count) units) count ≡ Some unit
entry_here [] count unit is = absurd (none-some unit is)
entry_here (u ∷ us) zero unit is = is
entry_here (u ∷ us) (suc count) unit is = entry_here us count unit is

pub entry_other : (units : List ℕ) (count place unit : ℕ) → slice_get units count ≡ Some unit → place ≢ count → slice_get (take (suc count) units) place ≡ slice_get (take count units) place
entry_other [] count place unit is other = absurd (none-some unit is)
entry_other (u ∷ us) zero zero unit is other = absurd (other refl)
entry_other (u ∷ us) zero (suc place) unit is other = refl
entry_other (u ∷ us) (suc count) zero unit is other = refl
entry_other (u ∷ us) (suc count) (suc place) unit is other = entry_other us count place unit is (λ e. other (ap suc e))

-- A domain's entry is set.
pub one_entered : (units : List ℕ) (domain count unit : ℕ) (first old new : Entries) → slice_get units count ≡ Some unit → ((d place : ℕ) → unit_at old d place ≡ with_entries domain (take count units) first d place) → ((d place : ℕ) → unit_at new d place ≡ with_unit domain count unit (unit_at old) d place) → (d place : ℕ) → unit_at new d place ≡ with_entries domain (take (suc count) units) first d place
one_entered units domain count unit first old new is before set d place =
    elim (cases_Bool (d == domain)) [
      | inl here ↦
          elim (cases_eq place count) [
            | inl same ↦
                let at = eq-eqb place count same in
                set d place ∙ rw (here, at) (sym (entry_here units count unit is) ∙ ap (λ (p : ℕ). slice_get (take (suc count) units) p) (sym same))
            | inr other ↦
                let away = ne_eqb place count other in
                let was : unit_at old d place ≡ slice_get (take count units) place = before d place ∙ rw here refl in
                set d place ∙ rw (here, away) (was ∙ sym (entry_other units count place unit is other))
          ]
      | inr there ↦
          let was : unit_at old d place ≡ unit_at first d place = before d place ∙ rw there refl in
          set d place ∙ rw there was
    ]

pub tabled_more : (modules : List Loaded) (m : Loaded) (links : List Seat) (old new : Entries) → AreTabled modules links old → in_use modules m.domain ≡ false → ((domain place : ℕ) → unit_at new domain place ≡ with_entries m.domain m.entries old domain place) → AreTabled (modules ++ m ∷ []) (links ++ seat m ∷ []) new
tabled_more modules m links old new are free came = record {
  linked = ap (λ (l : List Seat). l ++ seat m ∷ []) are.linked ∙ sym (seats_more modules m);
  entered = λ domain place.
      elim (cases_eq domain m.domain) [
        | inl same ↦
            let here = eq-eqb domain m.domain same in
            came domain place ∙ rw here (ap (λ (o : Option Loaded). entry_in o place) (sym (pushed_there modules m free)) ∙ ap (λ (d : ℕ). entry_at (modules ++ m ∷ []) d place) (sym same))
        | inr other ↦
            let apart = ne_eqb domain m.domain other in
            came domain place ∙ rw apart (are.entered domain place ∙ ap (λ (o : Option Loaded). entry_in o place) (sym (beside_there modules m domain (λ e. other (sym e)))))
      ];
}

-- before a module comes in, its domain has no entry
pub none_entered : (modules : List Loaded) (links : List Seat) (entries : Entries) (domain place : ℕ) → AreTabled modules links entries → in_use modules domain ≡ false → unit_at entries domain place ≡ None
none_entered modules links entries domain place are free =
    are.entered domain place ∙ ap (λ (o : Option Loaded). entry_in o place) (none_there modules domain free)

pub tabled_rest : (modules : List Loaded) (gone : ℕ) (links : List Seat) (old new : Entries) → AreTabled modules links old → ((domain place : ℕ) → unit_at new domain place ≡ cond (domain == gone) None (unit_at old domain place)) → AreTabled (without_domain gone modules) (without gone links) new
tabled_rest modules gone links old new are left = record {
  linked = ap (λ (l : List Seat). without gone l) are.linked ∙ sym (seats_rest modules gone);
  entered = λ domain place.
      elim (cases_eq domain gone) [
        | inl same ↦
            let here = eq-eqb domain gone same in
            left domain place ∙ rw here (ap (λ (o : Option Loaded). entry_in o place) (sym (gone_there modules gone)) ∙ ap (λ (d : ℕ). entry_at (without_domain gone modules) d place) (sym same))
        | inr other ↦
            let apart = ne_eqb domain gone other in
            left domain place ∙ rw apart (are.entered domain place ∙ ap (λ (o : Option Loaded). entry_in o place) (sym (left_there modules gone domain other)))
      ];
}
