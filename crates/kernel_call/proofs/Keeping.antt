-- What is kept for each domain stays the constants of the module in it.
use Rattle.std.proofs.Common.{◌≡◌, ◌≢◌, ◌∙◌, refl, sym, ap, subst, arith, ℕ, zero, suc, ◌<◌, inl, inr, false, List, [], ◌∷◌, ◌++◌, length, get_or, set, Option, Some, None}
use Rattle.std.specs.Option.{option_map_or}
use Rattle.std.proofs.lemmas.Bool.{cases_eq, ne_eqb}
use Rattle.std.proofs.lemmas.List.{get_or-set_same, get_or-set_other}
use Rattle.mote_layout.specs.Blocks.{block_address, block_of, without}
use Rattle.mote_layout.specs.Parcels.{Payload}
use Rattle.mote_layout.specs.declared.segment.Segment.{Segment}
use Rattle.domain_model.specs.State.{Loaded, payload_address}
use Rattle.domain_model.specs.Modules.{constants_at, in_use, without_domain}
use Rattle.domain_model.specs.Payloads.{kept_at, without_load}
use Rattle.kernel_call.specs.Mail.{keeping, kept_for}
use Rattle.kernel_call.specs.Sound.{AreKept}
use Rattle.kernel_call.proofs.Seats.{beside_there, gone_there, left_there, none_there, pushed_there}

-- no parcel begins at 0
pub none_at_zero : (o : Option Payload) → payload_address o ≡ 0 → o ≡ None
none_at_zero None is = refl
none_at_zero (Some p) is = absurd (omega (arith, is))

-- a parcel goes by its address
pub let_go_by : (o : Option Payload) (ss : List Segment) → without_load (kept_at (payload_address o)) ss ≡ without_load o ss
let_go_by None ss = refl
let_go_by (Some p) ss =
    let some = ne_eqb (block_address p.block) 0 (λ e. omega (arith, e)) in
    let block : block_of (block_address p.block) ≡ p.block = omega arith in
    rw some (ap (λ (b : ℕ). without b ss) block)

-- the address of the constants of what is found in a domain
abbrev constants_of : Option Loaded → ℕ
constants_of o = option_map_or (λ (m : Loaded). m.constants) o 0

-- No module is in the domain, so nothing is kept for it.
pub free_keeps_none : (modules : List Loaded) (kept : List (Option Payload)) (domain : ℕ) → AreKept modules kept → in_use modules domain ≡ false → kept_for kept domain ≡ None
free_keeps_none modules kept domain are free = none_at_zero (kept_for kept domain) (are domain ∙ ap constants_of (none_there modules domain free))

kept_none : (kept : List (Option Payload)) (domain : ℕ) → get_or (set kept domain None) domain None ≡ None
kept_none [] domain = refl
kept_none (o ∷ os) zero = refl
kept_none (o ∷ os) (suc domain) = kept_none os domain

-- A module comes in.
pub kept_more : (modules : List Loaded) (m : Loaded) (kept : List (Option Payload)) (o : Option Payload) → AreKept modules kept → in_use modules m.domain ≡ false → m.domain < length kept → payload_address o ≡ m.constants → AreKept (modules ++ m ∷ []) (keeping o m.domain kept)
kept_more modules m kept o are free within is = λ domain.
    elim (cases_eq domain m.domain) [
      | inl same ↦
          subst (λ (d : ℕ). payload_address (kept_for (keeping o m.domain kept) d) ≡ constants_at (modules ++ m ∷ []) d) (sym same)
          (here o is ∙ sym (ap constants_of (pushed_there modules m free)))
      | inr other ↦ there o domain other ∙ are domain ∙ sym (ap constants_of (beside_there modules m domain (λ e. other (sym e))))
    ]
  where
    here : (o : Option Payload) → payload_address o ≡ m.constants → payload_address (kept_for (keeping o m.domain kept) m.domain) ≡ m.constants
    here None is = ap (λ (k : Option Payload). payload_address k) (free_keeps_none modules kept m.domain are free) ∙ is
    here (Some p) is = ap (λ (k : Option Payload). payload_address k) (get_or-set_same kept m.domain (Some p) None within) ∙ is

    there : (o : Option Payload) (domain : ℕ) → domain ≢ m.domain → payload_address (kept_for (keeping o m.domain kept) domain) ≡ payload_address (kept_for kept domain)
    there None domain other = refl
    there (Some p) domain other = ap (λ (k : Option Payload). payload_address k) (get_or-set_other kept m.domain domain (Some p) None other)

-- One goes out.
pub kept_rest : (modules : List Loaded) (kept : List (Option Payload)) (gone : ℕ) → AreKept modules kept → AreKept (without_domain gone modules) (set kept gone None)
kept_rest modules kept gone are = λ domain.
    elim (cases_eq domain gone) [
      | inl same ↦
          subst (λ (d : ℕ). payload_address (kept_for (set kept gone None) d) ≡ constants_at (without_domain gone modules) d) (sym same)
          (ap (λ (k : Option Payload). payload_address k) (kept_none kept gone) ∙ sym (ap constants_of (gone_there modules gone)))
      | inr other ↦
          ap (λ (k : Option Payload). payload_address k) (get_or-set_other kept gone domain None None other) ∙ are domain ∙ sym (ap constants_of (left_there modules gone domain other))
    ]
