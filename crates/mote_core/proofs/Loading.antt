-- A load by the loader, as the machine's.
use Rattle.std.proofs.Common.{◌≡◌, ◌<◌, ℕ, List, [], ◌∷◌, ◌++◌, Bool, true, false, Result, Ok, Err, Option, None, Some, refl, ◌∙◌, sym, ap, subst, length}
use Rattle.std.proofs.lemmas.Option.{none-some, same_Some}
use Rattle.std.specs.Prelude.{IfSome}
use Rattle.mote_layout.specs.Memory.{domain_count}
use Rattle.unit_code.specs.Listing.{BankListing}
use Rattle.domain_model.specs.declared.line.TraceLine.{TraceLine}
use Rattle.domain_model.specs.declared.line.TraceLine.TheVariants as line
use Rattle.domain_model.specs.declared.refusal.Refusal.TheVariants as why
use Rattle.domain_model.specs.Given.{Given, with_given}
use Rattle.domain_model.specs.Modules.{free_domain, in_use, is_loaded, module_at}
use Rattle.domain_model.specs.State.{KernelState, RunnerState}
use Rattle.domain_model.specs.Turn.{Moved, admitted, begun, constants_block, entered, init_to, load_beside, load_given, load_in, load_new, load_prepared, loaded, placed, seated, state_block}
use Rattle.domain_model.proofs.BlockLaws.{free_domain_is_free}
use Rattle.kernel_call.specs.Admission.{admit_beside, admit_given, admit_in, admit_new}
use Rattle.kernel_call.proofs.Seats.{pushed_there}
use Rattle.mod_loader.specs.declared.refusal.LoadRefusal.{LoadRefusal}
use Rattle.domain_model.specs.Good.{GoodImage, IsGoodImage}
use Rattle.mod_loader.specs.Banks.{Banked, Readied, bank_of, code_of, prepared_of}
use Rattle.mod_loader.specs.Loads.{Moving, brought, load_detail, load_kind, load_number, load_value, loading, newcomer_of}
use Rattle.mote_core.specs.Exact.{loaded_by, loaded_into}

-- The module is in a domain: the load starts it.
pub record IsPlaced (p : Readied) (domain : ℕ) (k : KernelState) (r : RunnerState) (new : KernelState) (end : Moved) : Type 0 where
  pub banked : Banked
  pub held : p ≡ Ok banked
  pub state : ℕ
  pub given : Given
  pub within : domain < domain_count
  pub kernel : new ≡ admitted k (seated banked.loadable domain state given) given
  pub there : module_at (k.modules ++ seated banked.loadable domain state given ∷ []) domain ≡ Some (seated banked.loadable domain state given)
  pub is : end ≡ loaded banked.loadable domain state given k r

abbrev pub refused_line : LoadRefusal → ℕ → KernelState → TraceLine
refused_line e image k = line.Refused k.clock image (load_number e) (load_kind e) (load_value e) (load_detail e)

-- the load is refused, and changes nothing
pub record IsRefused (e : LoadRefusal) (image : ℕ) (k : KernelState) (r : RunnerState) (new : KernelState) (end : Moved) : Type 0 where
  pub kernel : new ≡ k
  pub is : end ≡ record { kernel = k; runner = r; lines = refused_line e image k ∷ [] }

abbrev pub LoadsAs : Result ℕ LoadRefusal → Readied → ℕ → KernelState → RunnerState → KernelState → Moved → Type 0
LoadsAs (Ok domain) p image k r new moved = IsPlaced p domain k r new moved
LoadsAs (Err e) p image k r new moved = IsRefused e image k r new moved

module _ (image : ℕ) (k : KernelState) (r : RunnerState) where
  abbrev Loads : Readied → Moving LoadRefusal → Moved → Type 0
  Loads p m moved = LoadsAs m.answer p image k r m.kernel moved

  beside_loads : (o : Option Given) (state : ℕ) (b : Banked) (domain : ℕ) → domain < domain_count → in_use k.modules domain ≡ false → Loads (Ok b) (brought (admit_beside o state (newcomer_of b.loadable) domain k)) (load_beside o state b.loadable domain image k r)
  beside_loads None state b domain within free = record { kernel = refl; is = refl }
  beside_loads (Some g) state b domain within free = record {
    banked = b;
    held = refl;
    state = state;
    given = g;
    within = within;
    kernel = refl;
    there = pushed_there k.modules (seated b.loadable domain state g) free;
    is = refl;
  }

  given_loads : (o : Option Given) (b : Banked) (domain : ℕ) → domain < domain_count → in_use k.modules domain ≡ false → Loads (Ok b) (brought (admit_given o (newcomer_of b.loadable) domain k)) (load_given o b.loadable domain image k r)
  given_loads None b domain within free = record { kernel = refl; is = refl }
  given_loads (Some g) b domain within free = beside_loads (constants_block (with_given k g) b.loadable.constants) g.address b domain within free

  in_loads : (o : Option ℕ) (b : Banked) → free_domain k.modules ≡ o → Loads (Ok b) (brought (admit_in o (newcomer_of b.loadable) k)) (load_in o b.loadable image k r)
  in_loads None b e = record { kernel = refl; is = refl }
  in_loads (Some domain) b e =
      let free = free_domain_is_free k.modules domain e in
      given_loads (state_block k domain b.loadable.state_size) b domain free.0 free.1

  new_loads : (loaded_before : Bool) (b : Banked) → Loads (Ok b) (brought (admit_new loaded_before (newcomer_of b.loadable) k)) (load_new loaded_before b.loadable image k r)
  new_loads true b = record { kernel = refl; is = refl }
  new_loads false b = in_loads (free_domain k.modules) b refl

  -- a load is what the loader answers
  pub loading_loads : (p : Readied) → Loads p (loading p k) (load_prepared (prepared_of p) image k r)
  loading_loads (Ok b) = new_loads (is_loaded k.modules b.loadable.face.id) b
  loading_loads (Err (why.Image e)) = record { kernel = refl; is = refl }
  loading_loads (Err (why.Code e)) = record { kernel = refl; is = refl }
  loading_loads (Err (why.Verify e)) = record { kernel = refl; is = refl }

  -- the same of an answer and a kernel that are those
  pub as_loading : (p : Readied) (answer : Result ℕ LoadRefusal) (new : KernelState) → answer ≡ (loading p k).answer → new ≡ (loading p k).kernel → LoadsAs answer p image k r new (load_prepared (prepared_of p) image k r)
  as_loading p answer new tells is =
      let end : Moved = load_prepared (prepared_of p) image k r in
      subst (λ (n : KernelState). LoadsAs answer p image k r n end) (sym is)
      (subst (λ (a : Result ℕ LoadRefusal). LoadsAs a p image k r (loading p k).kernel end) (sym tells) (loading_loads p))

-- The module was put into a domain,
pub placing : (image : ℕ) (k : KernelState) (r : RunnerState) (p : Readied) (domain : ℕ) (answer : Result ℕ LoadRefusal) (new : KernelState) → answer ≡ Ok domain → answer ≡ (loading p k).answer → new ≡ (loading p k).kernel → IsPlaced p domain k r new (load_prepared (prepared_of p) image k r)
placing image k r p domain answer new ok tells is =
    subst (λ (a : Result ℕ LoadRefusal). LoadsAs a p image k r new (load_prepared (prepared_of p) image k r)) ok (as_loading image k r p answer new tells is)

-- or its load was refused.
pub refusing : (image : ℕ) (k : KernelState) (r : RunnerState) (p : Readied) (e : LoadRefusal) (answer : Result ℕ LoadRefusal) (new : KernelState) → answer ≡ Err e → answer ≡ (loading p k).answer → new ≡ (loading p k).kernel → IsRefused e image k r new (load_prepared (prepared_of p) image k r)
refusing image k r p e answer new err tells is =
    subst (λ (a : Result ℕ LoadRefusal). LoadsAs a p image k r new (load_prepared (prepared_of p) image k r)) err (as_loading image k r p answer new tells is)

-- The module that was put into a domain is the one there,
pub placed_there : {p : Readied} {domain : ℕ} {k : KernelState} {r : RunnerState} {new : KernelState} {end : Moved} (i : IsPlaced p domain k r new end) → module_at new.modules domain ≡ Some (seated i.banked.loadable domain i.state i.given)
placed_there {domain = domain} i = ap (λ (n : KernelState). module_at n.modules domain) i.kernel ∙ i.there

-- and its first handler starts.
pub started_kernel : {p : Readied} {domain : ℕ} {k : KernelState} {r : RunnerState} {new : KernelState} {end : Moved} → IsPlaced p domain k r new end → (after : KernelState) → IfSome (module_at new.modules domain) (λ x. after ≡ begun new x.domain x.state x.constants (init_to x.face.id)) → after ≡ end.kernel
started_kernel {domain = domain} i after starts =
    let is = rw (placed_there i) at starts in
    is ∙ ap (λ (n : KernelState). begun n domain i.state i.given.address (init_to i.banked.loadable.face.id)) i.kernel ∙ sym (ap (λ (e : Moved). e.kernel) i.is)

pub started_runner : {p : Readied} {domain : ℕ} {k : KernelState} {r : RunnerState} {new : KernelState} {end : Moved} (i : IsPlaced p domain k r new end) → (after : RunnerState) → (code : BankListing) → bank_of p ≡ Some code → IfSome (module_at new.modules domain) (λ x. after ≡ entered (placed r domain code.units) x.handler) → after ≡ end.runner
started_runner {p = p} {domain = domain} {r = r} i after code held starts =
    let is = rw (placed_there i) at starts in
    let same : code_of i.banked ≡ code = same_Some (code_of i.banked) code (sym (ap bank_of i.held) ∙ held) in
    is ∙ ap (λ (c : BankListing). entered (placed r domain c.units) i.banked.loadable.handler) (sym same) ∙ sym (ap (λ (e : Moved). e.runner) i.is)

pub started_lines : {p : Readied} {domain : ℕ} {k : KernelState} {r : RunnerState} {new : KernelState} {end : Moved} (i : IsPlaced p domain k r new end) → (lines : List TraceLine) → IfSome (module_at new.modules domain) (λ x. lines ≡ line.Load new.clock x.face.id x.domain x.state ∷ line.Run new.clock x.face.id 0 0 ∷ []) → lines ≡ end.lines
started_lines {domain = domain} i lines tells =
    let is = rw (placed_there i) at tells in
    is ∙ ap (λ (n : KernelState). line.Load n.clock i.banked.loadable.face.id domain i.state ∷ line.Run n.clock i.banked.loadable.face.id 0 0 ∷ []) i.kernel ∙ sym (ap (λ (e : Moved). e.lines) i.is)

-- the bank of what was placed: its handler is one of its units
pub placed_bank : {p : Readied} {domain : ℕ} {k : KernelState} {r : RunnerState} {new : KernelState} {end : Moved} (i : IsPlaced p domain k r new end) → IsGoodImage (prepared_of p) → (code : BankListing) → bank_of p ≡ Some code → IfSome (module_at new.modules domain) (λ x. x.handler < length code.units)
placed_bank {p = p} i good code held =
    let image : GoodImage i.banked.loadable = subst (λ (x : Readied). IsGoodImage (prepared_of x)) i.held good in
    let same : code_of i.banked ≡ code = same_Some (code_of i.banked) code (sym (ap bank_of i.held) ∙ held) in
    rw (placed_there i) (subst (λ (c : BankListing). i.banked.loadable.handler < length c.units) same image.entered.handler)

-- what was placed has a bank
pub placed_has : {p : Readied} {domain : ℕ} {k : KernelState} {r : RunnerState} {new : KernelState} {end : Moved} → IsPlaced p domain k r new end → bank_of p ≡ None → ⊥
placed_has i none = none-some (code_of i.banked) (sym none ∙ ap bank_of i.held)

-- a refused load writes its line
pub refused_lines : {e : LoadRefusal} {image : ℕ} {k : KernelState} {r : RunnerState} {new : KernelState} {end : Moved} → IsRefused e image k r new end → (old lines : List TraceLine) → old ≡ [] → lines ≡ old ++ refused_line e image new ∷ [] → lines ≡ end.lines
refused_lines {e = e} {image = image} {new = new} i old lines empty tells =
    tells ∙ ap (λ (ls : List TraceLine). ls ++ refused_line e image new ∷ []) empty ∙ ap (λ (n : KernelState). refused_line e image n ∷ []) i.kernel ∙ sym (ap (λ (m : Moved). m.lines) i.is)

-- The runner's own value behind a load: where the module is in a domain,
pub started_by : {R : Type 0} (place : R → ℕ → BankListing → R) (enter : R → ℕ → ℕ → R) {p : Readied} {domain : ℕ} {k : KernelState} {r : RunnerState} {new : KernelState} {end : Moved} (i : IsPlaced p domain k r new end) (answer : Result ℕ LoadRefusal) → answer ≡ Ok domain → answer ≡ (loading p k).answer → (old after : R) (code : BankListing) → bank_of p ≡ Some code → IfSome (module_at new.modules domain) (λ x. after ≡ enter (place old domain code) domain x.handler) → after ≡ loaded_by place enter (Some p) k old
started_by {R} place enter {p = p} {domain = domain} {k = k} i answer ok tells old after code held starts =
    let is = rw (placed_there i) at starts in
    let same : code_of i.banked ≡ code = same_Some (code_of i.banked) code (sym (ap bank_of i.held) ∙ held) in
    let answers : (loading (Ok i.banked) k).answer ≡ Ok domain = ap (λ (x : Readied). (loading x k).answer) (sym i.held) ∙ sym tells ∙ ok in
    is ∙ ap (λ (c : BankListing). enter (place old domain c) domain i.banked.loadable.handler) (sym same)
    ∙ sym (ap (λ (x : Readied). loaded_by place enter (Some x) k old) i.held ∙ ap (λ (a : Result ℕ LoadRefusal). loaded_into place enter a i.banked old) answers)

-- and where the load is refused.
pub refused_by : {R : Type 0} (place : R → ℕ → BankListing → R) (enter : R → ℕ → ℕ → R) (p : Readied) (k : KernelState) (e : LoadRefusal) (answer : Result ℕ LoadRefusal) → answer ≡ Err e → answer ≡ (loading p k).answer → (old : R) → old ≡ loaded_by place enter (Some p) k old
refused_by place enter (Err why) k e answer err tells old = refl
refused_by place enter (Ok b) k e answer err tells old =
    sym (ap (λ (a : Result ℕ LoadRefusal). loaded_into place enter a b old) (sym tells ∙ err))
