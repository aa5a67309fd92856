-- The modules that are loaded: their domains, and the units at which they are entered.
use Rattle.std.proofs.Common.{◌≡◌, ◌∙◌, ◌<◌, ℕ, List, [], ◌∷◌, Option, None, Some, refl, sym, subst, length, true, ◌↔◌}
use Rattle.std.specs.Prelude.{IfSome}
use Rattle.std.specs.Option.{option_map}
use Rattle.mote_base.specs.Messages.{front}
use Rattle.std.proofs.lemmas.Option.{none-some, same_Some}
use Rattle.mote_layout.specs.Memory.{domain_count}
use Rattle.domain_model.specs.State.{Loaded, Message, KernelState, RunnerState}
use Rattle.domain_model.specs.Act.{bank}
use Rattle.domain_model.specs.Modules.{id_at, in_use, module_at, module_named, without_domain}
use Rattle.domain_model.specs.declared.line.TraceLine.{TraceLine}
use Rattle.domain_model.specs.declared.line.TraceLine.TheVariants as line
use Rattle.domain_model.specs.Turn.{begun, final_to, unload_module}
use Rattle.domain_model.specs.Good.{GoodModule, GoodMachine}
use Rattle.domain_model.proofs.Kept.{each_contained, each_filter, each_weaker}
use Rattle.domain_model.proofs.ModuleLaws.{found, id_at_row, named}
use Rattle.domain_model.proofs.MachineLaws.{receiver_loaded}
use Rattle.kernel_call.specs.Rows.{row_of}
use Rattle.kernel_call.specs.declared.loaded.ModuleRow.{ModuleRow}
use Rattle.mote_core.specs.Rows.{AreInDomains}

-- A row that came of a look-up is that of a module.
pub record IsRowOf (o : Option Loaded) (row : ModuleRow) : Type 0 where
  pub loaded : Loaded
  pub found : o ≡ Some loaded
  pub is : row ≡ row_of loaded

pub row_is : (o : Option Loaded) (row : ModuleRow) → Some row ≡ option_map row_of o → IsRowOf o row
row_is None row e = absurd (none-some row (sym e))
row_is (Some m) row e = record { loaded = m; found = refl; is = same_Some row (row_of m) e }

-- What is found by its id can be entered.
pub record IsNamed (k : KernelState) (r : RunnerState) (id : ℕ) (m : Loaded) : Type 0 where
  pub id_of : m.face.id ≡ id
  pub domain : m.domain < domain_count
  pub handler : m.handler < length (bank r m.domain)
  pub id_there : id_at k.modules m.domain ≡ m.face.id

pub named_module : (k : KernelState) (r : RunnerState) (id : ℕ) (m : Loaded) → GoodMachine k r → module_named k.modules id ≡ Some m → IsNamed k r id m
named_module k r id m good is =
    let n = named k.modules id m is in
    let g = each_contained (GoodModule r) k.modules m good.modules n.contained in
    record {
      id_of = n.id_of;
      domain = g.domain;
      handler = g.entered.handler;
      id_there = id_at_row k.modules m good.distinct n.contained;
    }

-- The receiver of the first message can be entered.
pub record IsReceiver (k : KernelState) (r : RunnerState) (modules : List Loaded) (domain : ℕ) : Type 0 where
  pub message : Message
  pub first : front k.queues ≡ Some message
  pub loaded : Loaded
  pub found : module_named k.modules message.to ≡ Some loaded
  pub there : module_at modules domain ≡ Some loaded
  pub can : IsNamed k r message.to loaded

pub received : (k : KernelState) (r : RunnerState) (modules : List Loaded) (answer : Option ℕ) (domain : ℕ) → GoodMachine k r → answer ≡ Some domain → ((answer ≡ None) ↔ (front k.queues ≡ None)) → IfSome answer (λ d. IfSome (front k.queues) (λ m. module_at modules d ≡ module_named k.modules m.to)) → IsReceiver k r modules domain
received k r modules answer domain good is none told = by_case (front k.queues) refl
  where
    by_case : (o : Option Message) → front k.queues ≡ o → IsReceiver k r modules domain
    by_case None e = absurd (none-some domain (sym (none.1 e) ∙ is))
    by_case (Some m) e =
        let to = receiver_loaded k r m good e in
        let there = rw (is, e) at told in
        record {
          message = m;
          first = e;
          loaded = to.row;
          found = to.found;
          there = there ∙ to.found;
          can = named_module k r m.to to.row good to.found;
        }

pub named_in_domain : (modules : List Loaded) (id : ℕ) (m : Loaded) → AreInDomains modules → module_named modules id ≡ Some m → m.domain < domain_count
named_in_domain modules id m each is = each_contained (λ (x : Loaded). x.domain < domain_count) modules m each (named modules id m is).contained

-- a domain in use is one that there is
pub used_in_domain : (modules : List Loaded) (domain : ℕ) → AreInDomains modules → in_use modules domain ≡ true → domain < domain_count
used_in_domain modules domain each used =
    let f = found modules domain used in
    subst (λ (d : ℕ). d < domain_count) f.domain_of (each_contained (λ (x : Loaded). x.domain < domain_count) modules f.row each f.contained)

-- those that are left are in domains
pub rest_in_domains : (modules : List Loaded) (domain : ℕ) → AreInDomains modules → AreInDomains (without_domain domain modules)
rest_in_domains modules domain each = each_filter (λ (m : Loaded). m.domain < domain_count) (λ m. m.domain < domain_count) _ (λ m kept h. h) modules each

-- and so are all in a good machine
pub good_in_domains : (k : KernelState) (r : RunnerState) → GoodMachine k r → AreInDomains k.modules
good_in_domains k r good = each_weaker (GoodModule r) (λ m. m.domain < domain_count) (λ m h. h.domain) k.modules good.modules

-- The last handler of a module starts.
pub unloads_kernel : (k : KernelState) (r : RunnerState) (id : ℕ) (m : Loaded) (new : KernelState) → module_named k.modules id ≡ Some m → m.face.id ≡ id → new ≡ record (begun k m.domain m.state m.constants (final_to m.face.id)) { ending = Some m.face.id } → new ≡ (unload_module (module_named k.modules id) id k r).kernel
unloads_kernel k r id m new found id_of is =
    rw found (subst (λ n. new ≡ record (begun k m.domain m.state m.constants (final_to n)) { ending = Some n }) id_of is)

pub unloads_lines : (k : KernelState) (r : RunnerState) (id : ℕ) (m : Loaded) (lines : List TraceLine) → module_named k.modules id ≡ Some m → m.face.id ≡ id → lines ≡ line.Run k.clock m.face.id 1 0 ∷ [] → lines ≡ (unload_module (module_named k.modules id) id k r).lines
unloads_lines k r id m lines found id_of tells = rw found (subst (λ n. lines ≡ line.Run k.clock n 1 0 ∷ []) id_of tells)
