-- Kernel and runner stay good: each change of the two on its own.
use Rattle.std.specs.List.{AllByRecursion, Contains}
use Rattle.std.specs.Prelude.{slice_index_or}
use Rattle.std.proofs.lemmas.List.{length-set, length-append, length-drop, get_or-set_same, get_or-set_other}
use Rattle.mote_base.specs.Frames.{frame_limit}
use Rattle.mote_base.specs.declared.frame.Frame.{Frame}
use Rattle.mote_base.specs.Messages.{Lists, queue_limit, list_of, in_order, front, without_front, appended, names, unnamed}
use Rattle.unit_code.specs.declared.unit.Unit.{Unit}
use Rattle.unit_code.specs.Proper.{IsProper}
use Rattle.domain_model.specs.declared.handler.Running.{Running}
use Rattle.domain_model.specs.declared.event.LoaderOrder.{LoaderOrder}
use Rattle.domain_model.specs.declared.event.LoaderOrder.TheVariants as what
use Rattle.domain_model.specs.declared.fault.FaultNote.{FaultNote}
use Rattle.domain_model.specs.declared.fault.UnitEnd.{UnitEnd}
use Rattle.domain_model.specs.declared.fault.UnitEnd.TheVariants.{On, Over, Fault}
use Rattle.domain_model.specs.declared.line.TraceLine.{TraceLine}
use Rattle.domain_model.specs.Bytes.{AreBytes}
use Rattle.domain_model.specs.Prepared.{Module, Prep}
use Rattle.domain_model.specs.Modules.{id_at, constants_at, is_loaded, in_use, module_named, without_domain, free_domain}
use Rattle.domain_model.specs.Turn.{state_block, seated, init_to, final_to, Moved, loaded, load_given, load_beside, constants_block, load_in, load_new, load_prepared, load_image, unload_module, deliver, dispatch, begun, came, with_none_ending, close_module, close, settled, faulted, purged, handler_ended, at_clock, placed, emptied, entered}
use Rattle.domain_model.specs.Good.{GoodProcessor, IsBlockOrNone, GoodModule, AreEntered, GoodMachine, GoodHandler, AreFrames, GoodRunning, GoodQueues, GoodTimers, IsFramed, IsKnown, AreDistinct, GoodImage, IsGoodImage}
use Rattle.domain_model.proofs.Kept.{each_weaker, each_filter, each_push, each_at, each_drop, each_contained, each_either, filter_shorter}
use Rattle.domain_model.proofs.ModuleLaws.{found, found_id, named, loaded_named, contained_loaded, contained_in_use, constants_at_row, is_loaded_old, is_loaded_without, in_use_old, in_use_new, is_loaded_new, other_domain, all_apart, distinct_push, distinct_filter}
use Rattle.domain_model.proofs.TimerLaws.{timers_later, timers_without}
use Rattle.domain_model.proofs.BlockLaws.{GoodGiven, state_block_good, free_domain_is_free, owned_more, owned_without, owned_unloaded, owned_unnamed}
use Rattle.domain_model.proofs.ConstantsLaws.{word_or_none, GoodConstants, constants_block_good, constants_kept-append, constants_lost}
use Rattle.domain_model.proofs.PayloadLaws.{Unnamed, payloads_stay, payloads_next, payloads_handed, payloads_ended, payloads_unnamed, without_load-blocks, without_owner_stays}
use Rattle.std.proofs.lemmas.Bool.{eqb-false, or_parts, cond_both, ltb-true, not-true}
use Rattle.std.proofs.Common.{◌≡◌, ◌≢◌, ◌⊎◌, inl, inr, ℕ, ◌^◌, ◌<◌, ◌≤◌, ◌==◌, nat_lt, not, List, [], ◌∷◌, ◌++◌, length, drop, Bool, true, false, refl, sym, ap, ◌∙◌, subst, arith, Option, Some, None, Ok, Err, slice_get}
use Rattle.mote_layout.specs.Memory.{domain_count, ram_bytes, floor, message_frame_bytes, stack_top}
use Rattle.mote_layout.specs.Blocks.{without_owner}
use Rattle.mote_layout.specs.declared.segment.Segment.{Segment}
use Rattle.mote_layout.proofs.BlockLists.{AreBlocks-without_owner}
use Rattle.domain_model.specs.State.{Loaded, Processor, Message, radio, KernelState, RunnerState, frame_of, dispatched}
use Rattle.domain_model.specs.Act.{bank}
use Rattle.domain_model.specs.Given.{Given, with_given}
use Rattle.domain_model.specs.Payloads.{load_of, kept_at, constants_kept, without_load, without_payloads, HoldsPayloads}
use Rattle.domain_model.specs.Free.{SameKernel, with_memory, ends_handler}
use Rattle.domain_model.proofs.ByteLists.{bytes_kept, kernel_framed, dispatched_bytes}
use Rattle.domain_model.proofs.ActLaws.{running_good}

-- The banks.

pub bank_same : (r : RunnerState) (domain : ℕ) (units : List Unit) → domain < length r.banks → bank (placed r domain units) domain ≡ units
bank_same r domain units below =
    get_or-set_same r.banks domain units [] below

pub bank_other : (r : RunnerState) (domain other : ℕ) (units : List Unit) → other ≢ domain → bank (placed r domain units) other ≡ bank r other
bank_other r domain other units ne =
    get_or-set_other r.banks domain other units [] ne

-- a module whose bank is the same
module_kept : (r s : RunnerState) (m : Loaded) → bank s m.domain ≡ bank r m.domain → GoodModule r m → GoodModule s m
module_kept r s m e h = record {
  face = h.face;
  domain = h.domain;
  state = h.state;
  constants = h.constants;
  units = subst (λ (us : List Unit). IsProper us m.sealed) (sym e) h.units;
  entered = subst (λ (us : List Unit). AreEntered us m.face m.handler m.entries) (sym e) h.entered;
}

pub same_banks : (r s : RunnerState) → s.banks ≡ r.banks → (domain : ℕ) → bank s domain ≡ bank r domain
same_banks r s e domain = ap (λ (bs : List (List Unit)). slice_index_or bs domain []) e

pub modules_kept : (r s : RunnerState) → s.banks ≡ r.banks → (ms : List Loaded) → AllByRecursion (GoodModule r) ms → AllByRecursion (GoodModule s) ms
modules_kept r s e ms h = each_weaker (GoodModule r) (GoodModule s) (λ m. module_kept r s m (same_banks r s e m.domain)) ms h

-- A change of the processor, the clock or the next unit.

kept_good : (k n : KernelState) (r s : RunnerState) → n.modules ≡ k.modules → n.blocks ≡ k.blocks → n.queues ≡ k.queues → n.hand ≡ k.hand → s.banks ≡ r.banks → GoodTimers k.modules n.clock n.timers → GoodProcessor n.processor → GoodHandler n s n.running → GoodMachine k r → GoodMachine n s
kept_good k n r s modules blocks queues hand banks timers processor handler h = record {
  processor = processor;
  banks = ap (λ (bs : List (List Unit)). length bs) banks ∙ h.banks;
  modules = rw modules (modules_kept r s banks k.modules h.modules);
  distinct = rw modules h.distinct;
  blocks = rw blocks h.blocks;
  owners = rw (modules, blocks) h.owners;
  queues = rw (modules, queues) h.queues;
  timers = rw modules timers;
  payloads = rw (blocks, queues, hand, modules) h.payloads;
  handler = handler;
}

-- the calls below what runs
frames_kept : (k n : KernelState) (r s : RunnerState) (run : Running) → n.modules ≡ k.modules → n.frames ≡ k.frames → s.banks ≡ r.banks → AreFrames k.modules r.banks run k.frames → AreFrames n.modules s.banks run n.frames
frames_kept k n r s run modules frames banks h = rw (modules, frames, banks) h

pub running_kept : (k n : KernelState) (r s : RunnerState) (run : Running) → n.processor.sp ≡ k.processor.sp → n.modules ≡ k.modules → n.frames ≡ k.frames → s.banks ≡ r.banks → s.unit < length (bank s run.domain) → GoodRunning k r run → GoodRunning n s run
running_kept k n r s run sp modules frames banks unit h = record {
  loaded = subst (λ (ms : List Loaded). in_use ms run.domain ≡ true) (sym modules) h.loaded;
  unit = unit;
  floor = omega (arith, sp, h.floor);
  base = omega (arith, sp, h.base);
  bound = h.bound;
  top = h.top;
  depth = subst (λ (fs : List Frame). length fs ≤ frame_limit) (sym frames) h.depth;
  frames = frames_kept k n r s run modules frames banks h.frames;
}

-- the stack pointer moved between the floor and the base
pub running_moved : (k n : KernelState) (r s : RunnerState) (run : Running) → floor ≤ n.processor.sp → n.processor.sp ≤ run.base → n.modules ≡ k.modules → n.frames ≡ k.frames → s.banks ≡ r.banks → s.unit < length (bank s run.domain) → GoodRunning k r run → GoodRunning n s run
running_moved k n r s run above below modules frames banks unit h = record {
  loaded = subst (λ (ms : List Loaded). in_use ms run.domain ≡ true) (sym modules) h.loaded;
  unit = unit;
  floor = above;
  base = below;
  bound = h.bound;
  top = h.top;
  depth = subst (λ (fs : List Frame). length fs ≤ frame_limit) (sym frames) h.depth;
  frames = frames_kept k n r s run modules frames banks h.frames;
}

-- the same unit is next: the stack pointer, the modules, the calls and the message in hand are the same
pub handler_kept : (o : Option Running) (k n : KernelState) (r : RunnerState) → n.processor.sp ≡ k.processor.sp → n.modules ≡ k.modules → n.frames ≡ k.frames → n.hand ≡ k.hand → n.ending ≡ k.ending → GoodHandler k r o → GoodHandler n r o
handler_kept None k n r sp modules frames hand ending h = (hand ∙ h.0, ending ∙ h.1, frames ∙ h.2)
handler_kept (Some run) k n r sp modules frames hand ending h =
    (running_kept k n r r run sp modules frames refl h.0.unit h.0, rw (modules, hand) h.1)

pub clock_good : (k : KernelState) (r : RunnerState) (now : ℕ) → k.clock ≤ now → GoodMachine k r → GoodMachine (at_clock k now) r
clock_good k r now later h =
    kept_good k (at_clock k now) r r refl refl refl refl refl (timers_later k.modules k.modules k.clock now k.timers (λ id there. there) later h.timers) h.processor (handler_kept k.running k (at_clock k now) r refl refl refl refl refl h.handler) h

pub memory_good : (k : KernelState) (r : RunnerState) (memory : List ℕ) → length memory ≡ length k.processor.memory → AreBytes memory → GoodMachine k r → GoodMachine (with_memory k memory) r
memory_good k r memory same bytes h =
    kept_good k (with_memory k memory) r r refl refl refl refl refl h.timers (record { registers = h.processor.registers; memory = same ∙ h.processor.memory; register_bytes = h.processor.register_bytes; memory_bytes = bytes; sreg_byte = h.processor.sreg_byte })
    (handler_kept k.running k (with_memory k memory) r refl refl refl refl refl h.handler) h

-- whatever the free bytes became
pub same_kernel_good : (free : ℕ → Bool) (want got : KernelState) (r : RunnerState) → SameKernel free want got → GoodMachine want r → GoodMachine got r
same_kernel_good free want got r same h =
    subst (λ (k : KernelState). GoodMachine k r) (sym same.rest) (memory_good want r got.processor.memory same.memory.same_length
    (bytes_kept free want.processor.memory got.processor.memory same.memory h.processor.memory_bytes) h)

-- no handler runs and no module ends
pub ended_good : (k : KernelState) (r : RunnerState) → GoodMachine k r → GoodMachine (with_none_ending (handler_ended k)) r
ended_good k r h = record {
  processor = h.processor;
  banks = h.banks;
  modules = h.modules;
  distinct = h.distinct;
  blocks = without_load-blocks (load_of k.hand) k.blocks h.blocks;
  owners = owned_unloaded k.modules (load_of k.hand) k.blocks h.owners;
  queues = h.queues;
  timers = h.timers;
  payloads = payloads_ended k.blocks k.queues k.hand (constants_kept k.modules) h.blocks h.payloads;
  handler = (refl, refl, refl);
}

-- Messages that wait.

-- what is known stays so where more ids are loaded
known_more : (modules more : List Loaded) → ((id : ℕ) → is_loaded modules id ≡ true → is_loaded more id ≡ true) → (m : Message) → IsKnown modules m → IsKnown more m
known_more modules more f m h = record { receiver = f m.to h.receiver; sender = still h.sender; framed = h.framed; load = h.load }
  where
    still : ((m.from ≡ 0) ⊎ (m.from ≡ radio)) ⊎ (is_loaded modules m.from ≡ true) → ((m.from ≡ 0) ⊎ (m.from ≡ radio)) ⊎ (is_loaded more m.from ≡ true)
    still (inl other) = inl other
    still (inr there) = inr (f m.from there)

queues_more : (modules more : List Loaded) (queues : Lists Message) → ((id : ℕ) → is_loaded modules id ≡ true → is_loaded more id ≡ true) → GoodQueues modules queues → GoodQueues more queues
queues_more modules more queues f h = record {
  within = h.within;
  high = each_weaker (IsKnown modules) (IsKnown more) (known_more modules more f) queues.high h.high;
  low = each_weaker (IsKnown modules) (IsKnown more) (known_more modules more f) queues.low h.low;
}

-- where a module goes out, what doesn't name it
known_without : (modules : List Loaded) (row : Loaded) → AreDistinct modules → Contains modules row → (m : Message) → not (names row.face.id m) ≡ true → IsKnown modules m → IsKnown (without_domain row.domain modules) m
known_without modules row d c m kept h =
    let parts = or_parts (m.from == row.face.id) (m.to == row.face.id) (not-true (names row.face.id m) kept) in
    record {
      receiver = is_loaded_without modules row m.to d c (eqb-false m.to row.face.id parts.1) h.receiver;
      sender = still (eqb-false m.from row.face.id parts.0) h.sender;
      framed = h.framed;
      load = h.load;
    }
  where
    still : m.from ≢ row.face.id → ((m.from ≡ 0) ⊎ (m.from ≡ radio)) ⊎ (is_loaded modules m.from ≡ true) → ((m.from ≡ 0) ⊎ (m.from ≡ radio)) ⊎ (is_loaded (without_domain row.domain modules) m.from ≡ true)
    still ne (inl other) = inl other
    still ne (inr there) = inr (is_loaded_without modules row m.from d c ne there)

queues_without : (modules : List Loaded) (row : Loaded) (queues : Lists Message) → AreDistinct modules → Contains modules row → GoodQueues modules queues → GoodQueues (without_domain row.domain modules) (unnamed row.face.id queues)
queues_without modules row queues d c h = record {
  within = (
    omega (arith, h.within.0, filter_shorter (λ (m : Message). not (names row.face.id m)) queues.high),
    omega (arith, h.within.1, filter_shorter (λ (m : Message). not (names row.face.id m)) queues.low),
  );
  high =
      each_filter (IsKnown modules) (IsKnown (without_domain row.domain modules)) (λ (m : Message). not (names row.face.id m))
      (known_without modules row d c) queues.high h.high;
  low =
      each_filter (IsKnown modules) (IsKnown (without_domain row.domain modules)) (λ (m : Message). not (names row.face.id m))
      (known_without modules row d c) queues.low h.low;
}

-- without the front
queues_taken : (modules : List Loaded) (queues : Lists Message) → GoodQueues modules queues → GoodQueues modules (without_front queues)
queues_taken modules queues h = record {
  within = (
    omega (arith, h.within.0, length-drop 1 queues.high),
    cond_both (nat_lt 0 (length queues.high)) queues.low (drop 1 queues.low) (λ (ms : List Message). length ms ≤ queue_limit)
        (λ first. h.within.1) (λ second. omega (arith, h.within.1, length-drop 1 queues.low)),
  );
  high = each_drop (IsKnown modules) queues.high h.high;
  low =
      cond_both (nat_lt 0 (length queues.high)) queues.low (drop 1 queues.low) (AllByRecursion (IsKnown modules))
      (λ first. h.low) (λ second. each_drop (IsKnown modules) queues.low h.low);
}

-- one more where there is room
pub queues_posted : (modules : List Loaded) (high : Bool) (m : Message) (queues : Lists Message) → IsKnown modules m → nat_lt (length (list_of high queues)) queue_limit ≡ true → GoodQueues modules queues → GoodQueues modules (appended high m queues)
queues_posted modules true m queues known room h =
    let below = ltb-true (length queues.high) queue_limit room in
    record {
      within = (omega (arith, below, length-append queues.high (m ∷ [])), h.within.1);
      high = each_push (IsKnown modules) queues.high m h.high known;
      low = h.low;
    }
queues_posted modules false m queues known room h =
    let below = ltb-true (length queues.low) queue_limit room in
    record {
      within = (h.within.0, omega (arith, below, length-append queues.low (m ∷ [])));
      high = h.high;
      low = each_push (IsKnown modules) queues.low m h.low known;
    }

-- the front is known
pub front_known : (modules : List Loaded) (queues : Lists Message) (m : Message) → GoodQueues modules queues → front queues ≡ Some m → IsKnown modules m
front_known modules queues m h e =
    each_at (IsKnown modules) (in_order queues) 0 m (each_either (IsKnown modules) queues.high queues.low h.high h.low) e

-- What is found by an id in a good machine: it has that id, is loaded, and its domain is a domain.
pub record GoodNamed (k : KernelState) (id : ℕ) (row : Loaded) : Type 0 where
  pub id_of : row.face.id ≡ id
  pub contained : Contains k.modules row
  pub below : row.domain < domain_count

pub named_good : (k : KernelState) (r : RunnerState) (id : ℕ) (row : Loaded) → GoodMachine k r → module_named k.modules id ≡ Some row → GoodNamed k id row
named_good k r id row h e =
    let n = named k.modules id row e in
    record { id_of = n.id_of; contained = n.contained; below = (each_contained (GoodModule r) k.modules row h.modules n.contained).domain }

-- The module to which the first message goes: it is loaded.
pub record Receiver (k : KernelState) (m : Message) : Type 0 where
  pub row : Loaded
  pub found : module_named k.modules m.to ≡ Some row
  pub good : GoodNamed k m.to row

pub receiver_loaded : (k : KernelState) (r : RunnerState) (m : Message) → GoodMachine k r → front k.queues ≡ Some m → Receiver k m
receiver_loaded k r m h e =
    let there = loaded_named k.modules m.to (front_known k.modules k.queues m h.queues e).receiver in
    record { row = there.0; found = there.1; good = named_good k r m.to there.0 h there.1 }

-- A module goes out.

-- the blocks without the payload in hand and the constants of the module in a domain
abbrev pub unkept_blocks : KernelState → ℕ → List Segment
unkept_blocks k domain = without_load (kept_at (constants_at k.modules domain)) (handler_ended k).blocks

-- and without those of the messages that name an id
abbrev pub unnamed_blocks : KernelState → ℕ → ℕ → List Segment
unnamed_blocks k id domain = without_payloads id (in_order k.queues) (unkept_blocks k domain)

-- What is left where a module's constants are gone.
unkept : (k : KernelState) (r : RunnerState) (row : Loaded) → GoodMachine k r → Contains k.modules row → Unnamed (handler_ended k).blocks (unkept_blocks k row.domain) k.queues None (constants_kept (without_domain row.domain k.modules))
unkept k r row h c =
    let ended = ended_good k r h in
    subst (λ (a : ℕ). Unnamed (handler_ended k).blocks (without_load (kept_at a) (handler_ended k).blocks) k.queues None (constants_kept (without_domain row.domain k.modules)))
    (sym (constants_at_row k.modules row h.distinct c)) (constants_lost (handler_ended k).blocks k.queues None k.modules row ended.blocks h.distinct c ended.payloads)

pub purged_good : (k : KernelState) (r : RunnerState) (row : Loaded) → GoodMachine k r → Contains k.modules row → GoodMachine (with_none_ending (purged (handler_ended k) row.face.id row.domain)) (emptied r row.domain)
purged_good k r row h c =
    let ended = ended_good k r h in
    let first = unkept k r row h c in
    let rest = payloads_unnamed row.face.id (unkept_blocks k row.domain) k.queues None (constants_kept (without_domain row.domain k.modules)) first.blocks first.payloads in
    let domain = (each_contained (GoodModule r) k.modules row h.modules c).domain in
    record {
      processor = h.processor;
      banks = length-set r.banks row.domain [] ∙ h.banks;
      modules =
          each_filter (GoodModule r) (GoodModule (emptied r row.domain)) (λ (m : Loaded). not (m.domain == row.domain))
          (λ m kept g. module_kept r (emptied r row.domain) m (bank_other r row.domain m.domain [] (other_domain m.domain row.domain kept)) g) k.modules h.modules;
      distinct = distinct_filter (λ (m : Loaded). not (m.domain == row.domain)) k.modules h.distinct;
      blocks = AreBlocks-without_owner row.domain (unnamed_blocks k row.face.id row.domain) rest.blocks;
      owners =
          owned_without k.modules row.domain (unnamed_blocks k row.face.id row.domain)
          (owned_unnamed k.modules row.face.id (in_order k.queues) (unkept_blocks k row.domain)
          (owned_unloaded k.modules (kept_at (constants_at k.modules row.domain)) (handler_ended k).blocks ended.owners));
      queues = queues_without k.modules row k.queues h.distinct c h.queues;
      timers = timers_without k.modules row k.clock k.timers h.distinct c h.timers;
      payloads =
          payloads_stay (unnamed_blocks k row.face.id row.domain) (without_owner row.domain (unnamed_blocks k row.face.id row.domain)) (unnamed row.face.id k.queues) None
          (constants_kept (without_domain row.domain k.modules)) (without_owner_stays row.domain (unnamed_blocks k row.face.id row.domain) (λ e. omega (arith, domain, e))) rest.payloads;
      handler = (refl, refl, refl);
    }

-- the module of the running domain
running_purged : (k : KernelState) (r : RunnerState) (domain : ℕ) → GoodMachine k r → in_use k.modules domain ≡ true → GoodMachine (with_none_ending (purged (handler_ended k) (id_at k.modules domain) domain)) (emptied r domain)
running_purged k r domain h used =
    let f = found k.modules domain used in
    subst (λ (id : ℕ). GoodMachine (with_none_ending (purged (handler_ended k) id domain)) (emptied r domain)) (sym (found_id k.modules domain f))
    (subst (λ (d : ℕ). GoodMachine (with_none_ending (purged (handler_ended k) f.row.face.id d)) (emptied r d)) f.domain_of (purged_good k r f.row h f.contained))

-- A handler's end, by the module that ends.

abbrev GoodMoved : Moved → Type 0
GoodMoved m = GoodMachine m.kernel m.runner

module_closed : (o : Option Loaded) (k : KernelState) (r : RunnerState) (lines : List TraceLine) → ((row : Loaded) → o ≡ Some row → Contains k.modules row) → GoodMachine (with_none_ending (handler_ended k)) r → GoodMoved (close_module o (handler_ended k) r lines)
module_closed None k r lines c h = h
module_closed (Some row) k r lines c h = purged_good (with_none_ending (handler_ended k)) r row h (c row refl)

closed_good : (o : Option ℕ) (k : KernelState) (r : RunnerState) (lines : List TraceLine) → k.ending ≡ o → GoodMachine (with_none_ending (handler_ended k)) r → GoodMoved (close o (handler_ended k) r lines)
closed_good None k r lines e h = subst (λ (o : Option ℕ). GoodMachine (record (handler_ended k) { ending = o }) r) (sym e) h
closed_good (Some id) k r lines e h =
    module_closed (module_named k.modules id) k r lines (λ row at. (named k.modules id row at).contained) h

-- A module comes in, and its handler starts.

-- each old module has a domain other than an unused one
others_kept : (r : RunnerState) (domain : ℕ) (units : List Unit) (unit : ℕ) (modules : List Loaded) → in_use modules domain ≡ false → AllByRecursion (GoodModule r) modules → AllByRecursion (GoodModule (entered (placed r domain units) unit)) modules
others_kept r domain units unit [] unused h = tt
others_kept r domain units unit (m ∷ ms) unused h =
    let parts = or_parts (m.domain == domain) (in_use ms domain) unused in (
      module_kept r (entered (placed r domain units) unit) m (bank_other r domain m.domain units (eqb-false m.domain domain parts.0)) h.0,
      others_kept r domain units unit ms parts.1 h.1,
    )

-- the new module's bank holds its units
new_module : (r : RunnerState) (m : Module) (domain state : ℕ) (c : Given) → length r.banks ≡ domain_count → GoodImage m → domain < domain_count → state < 2 ^ 16 → IsBlockOrNone c.address → GoodModule (entered (placed r domain m.units) m.handler) (seated m domain state c)
new_module r m domain state c banks image below address also =
    let same = bank_same r domain m.units (omega (arith, banks, below)) in
    record {
      face = image.face;
      domain = below;
      state = address;
      constants = also;
      units = subst (λ (us : List Unit). IsProper us m.sealed) (sym same) image.units;
      entered = subst (λ (us : List Unit). AreEntered us m.face m.handler m.entries) (sym same) image.entered;
    }

-- a processor as a handler finds it
dispatched_good : (p : Processor) (state constants : ℕ) (m : Message) → length p.memory ≡ ram_bytes → AreBytes p.memory → state < 2 ^ 16 → constants < 2 ^ 16 → IsFramed m → GoodProcessor (dispatched p state constants m)
dispatched_good p state constants m memory bytes small also framed = record {
  registers = simp length-set refl;
  memory = length-append (frame_of m) (drop message_frame_bytes p.memory) ∙ omega (arith, memory, length-drop message_frame_bytes p.memory);
  register_bytes = (dispatched_bytes p state constants m small also framed bytes).registers;
  memory_bytes = (dispatched_bytes p state constants m small also framed bytes).memory;
  sreg_byte = omega arith;
}

-- where no call waits
no_frames : (modules : List Loaded) (banks : List (List Unit)) (domain : ℕ) (frames : List Frame) → frames ≡ [] → AreFrames modules banks (record { domain = domain; base = stack_top; bound = stack_top }) frames
no_frames modules banks domain frames none = rw none (refl, refl)

pub loaded_good : (k : KernelState) (r : RunnerState) (m : Module) (domain : ℕ) (g c : Given) → k.frames ≡ [] → k.hand ≡ None → GoodMachine k r → GoodImage m → domain < domain_count → in_use k.modules domain ≡ false → is_loaded k.modules m.face.id ≡ false → GoodGiven k domain g → GoodConstants (with_given k g) c → GoodMachine (loaded m domain g.address c k r).kernel (loaded m domain g.address c k r).runner
loaded_good k r m domain g c none free h image below unused unloaded block kept =
    let same = bank_same r domain m.units (omega (arith, h.banks, below)) in
    record {
      processor = dispatched_good (record k.processor { memory = c.memory }) g.address c.address (init_to m.face.id) (kept.memory ∙ block.memory ∙ h.processor.memory)
          (kept.bytes (block.bytes h.processor.memory_bytes)) block.address (word_or_none c.address kept.address) (kernel_framed m.face.id 0 image.face.id.1 (omega arith));
      banks = length-set r.banks domain m.units ∙ h.banks;
      modules =
          each_push (GoodModule (entered (placed r domain m.units) m.handler)) k.modules (seated m domain g.address c)
          (others_kept r domain m.units m.handler k.modules unused h.modules) (new_module r m domain g.address c h.banks image below block.address kept.address);
      distinct = distinct_push k.modules (seated m domain g.address c) h.distinct (all_apart k.modules (seated m domain g.address c) unloaded unused);
      blocks = kept.blocks;
      owners =
          kept.owners (k.modules ++ seated m domain g.address c ∷ [])
          (block.owners (k.modules ++ seated m domain g.address c ∷ [])
          (owned_more k.modules (k.modules ++ seated m domain g.address c ∷ []) (in_use_old k.modules (seated m domain g.address c)) k.blocks h.owners)
          (inr (in_use_new k.modules (seated m domain g.address c))));
      queues =
          queues_more k.modules (k.modules ++ seated m domain g.address c ∷ []) k.queues (is_loaded_old k.modules (seated m domain g.address c)) h.queues;
      timers =
          timers_later k.modules (k.modules ++ seated m domain g.address c ∷ []) k.clock k.clock k.timers (is_loaded_old k.modules (seated m domain g.address c)) (omega arith)
          h.timers;
      payloads =
          payloads_handed c.blocks k.queues k.hand (Some (init_to m.face.id)) (constants_kept (k.modules ++ seated m domain g.address c ∷ [])) (ap load_of free) refl
          (subst (HoldsPayloads c.blocks k.queues k.hand) (sym (constants_kept-append k.modules (seated m domain g.address c)))
          (kept.holds k.queues k.hand (constants_kept k.modules) (payloads_stay k.blocks g.blocks k.queues k.hand (constants_kept k.modules) (block.stays (omega (arith, below))) h.payloads)));
      handler = (
        record {
          loaded = in_use_new k.modules (seated m domain g.address c);
          unit = subst (λ (us : List Unit). m.handler < length us) (sym same) image.entered.handler;
          floor = omega arith;
          base = omega arith;
          bound = omega arith;
          top = omega arith;
          depth = subst (λ (fs : List Frame). length fs ≤ frame_limit) (sym none) (omega arith);
          frames = no_frames (k.modules ++ seated m domain g.address c ∷ []) (placed r domain m.units).banks domain k.frames none;
        },
        record {
          receiver = is_loaded_new k.modules (seated m domain g.address c);
          sender = inl (inl refl);
          framed = kernel_framed m.face.id 0 image.face.id.1 (omega arith);
          load = tt;
        },
      );
    }

-- A loaded module's handler starts.

started : (k : KernelState) (r : RunnerState) (row : Loaded) (m : Message) (queues : Lists Message) (o : Option ℕ) → k.frames ≡ [] → GoodMachine k r → Contains k.modules row → GoodQueues k.modules queues → HoldsPayloads k.blocks queues (Some m) (constants_kept k.modules) → IsKnown k.modules m → GoodMachine (record (begun (record k { queues = queues }) row.domain row.state row.constants m) { ending = o }) (entered r row.handler)
started k r row m queues o none h c waiting held known = record {
  processor =
      dispatched_good k.processor row.state row.constants m h.processor.memory h.processor.memory_bytes
      (each_contained (GoodModule r) k.modules row h.modules c).state (word_or_none row.constants (each_contained (GoodModule r) k.modules row h.modules c).constants) known.framed;
  banks = h.banks;
  modules = modules_kept r (entered r row.handler) refl k.modules h.modules;
  distinct = h.distinct;
  blocks = h.blocks;
  owners = h.owners;
  queues = waiting;
  timers = h.timers;
  payloads = held;
  handler = (
    record {
      loaded = contained_in_use k.modules row c;
      unit = (each_contained (GoodModule r) k.modules row h.modules c).entered.handler;
      floor = omega arith;
      base = omega arith;
      bound = omega arith;
      top = omega arith;
      depth = subst (λ (fs : List Frame). length fs ≤ frame_limit) (sym none) (omega arith);
      frames = no_frames k.modules r.banks row.domain k.frames none;
    },
    known,
  );
}

-- A load, by the first reason for which it is refused.

module _ (k : KernelState) (r : RunnerState) (none : k.frames ≡ []) (quiet : k.ending ≡ None) (free : k.hand ≡ None) (h : GoodMachine k r) where
  constants_moved : (o : Option Given) (g : Given) (m : Module) (domain image : ℕ) → GoodImage m → domain < domain_count → in_use k.modules domain ≡ false → is_loaded k.modules m.face.id ≡ false → GoodGiven k domain g → constants_block (with_given k g) m.constants ≡ o → GoodMoved (load_beside o g.address m domain image k r)
  constants_moved None g m domain image good below unused unloaded block e = h
  constants_moved (Some c) g m domain image good below unused unloaded block e =
      loaded_good k r m domain g c none free h good below unused unloaded block
      (constants_block_good (with_given k g) m.constants block.blocks (block.memory ∙ h.processor.memory) good.constants.0 c e)

  given_moved : (o : Option Given) (m : Module) (domain image : ℕ) → GoodImage m → domain < domain_count → in_use k.modules domain ≡ false → is_loaded k.modules m.face.id ≡ false → state_block k domain m.state_size ≡ o → GoodMoved (load_given o m domain image k r)
  given_moved None m domain image good below unused unloaded e = h
  given_moved (Some g) m domain image good below unused unloaded e =
      constants_moved (constants_block (with_given k g) m.constants) g m domain image good below unused unloaded
      (state_block_good k domain m.state_size g h.blocks h.processor.memory (omega (arith, below)) e) refl

  in_moved : (o : Option ℕ) (m : Module) (image : ℕ) → GoodImage m → is_loaded k.modules m.face.id ≡ false → free_domain k.modules ≡ o → GoodMoved (load_in o m image k r)
  in_moved None m image good unloaded e = h
  in_moved (Some domain) m image good unloaded e =
      let free = free_domain_is_free k.modules domain e in
      given_moved (state_block k domain m.state_size) m domain image good free.0 free.1 unloaded refl

  new_moved : (b : Bool) (m : Module) (image : ℕ) → GoodImage m → is_loaded k.modules m.face.id ≡ b → GoodMoved (load_new b m image k r)
  new_moved true m image good e = h
  new_moved false m image good e = in_moved (free_domain k.modules) m image good e refl

  prepared_moved : (prep : Prep) (image : ℕ) → IsGoodImage prep → GoodMoved (load_prepared prep image k r)
  prepared_moved (Err refusal) image good = h
  prepared_moved (Ok m) image good = new_moved (is_loaded k.modules m.face.id) m image good refl

  image_moved : (o : Option Prep) (images : List Prep) (image : ℕ) → AllByRecursion IsGoodImage images → slice_get images image ≡ o → GoodMoved (load_image o image k r)
  image_moved None images image good e = h
  image_moved (Some prep) images image good e = prepared_moved prep image (each_at IsGoodImage images image prep good e)

  -- an unload starts the module's last handler
  unload_moved : (o : Option Loaded) (id : ℕ) → module_named k.modules id ≡ o → GoodMoved (unload_module o id k r)
  unload_moved None id e = h
  unload_moved (Some row) id e =
      let n = named k.modules id row e in
      started k r row (final_to id) k.queues (Some id) none h n.contained h.queues
      (payloads_handed k.blocks k.queues k.hand (Some (final_to id)) (constants_kept k.modules) (ap load_of free) refl h.payloads)
      (record {
        receiver = subst (λ (i : ℕ). is_loaded k.modules i ≡ true) n.id_of (contained_loaded k.modules row n.contained);
        sender = inl (inl refl);
        framed = kernel_framed id 1 (omega (arith, n.id_of, (each_contained (GoodModule r) k.modules row h.modules n.contained).face.id.1)) (omega arith);
        load = tt;
      })

  -- a dispatch starts the receiver's handler
  deliver_moved : (o : Option Loaded) (m : Message) → front k.queues ≡ Some m → module_named k.modules m.to ≡ o → GoodMoved (deliver o m k r)
  deliver_moved None m first e = h
  deliver_moved (Some row) m first e =
      let n = named k.modules m.to row e in
      subst (λ (o : Option ℕ). GoodMachine (record (begun (record k { queues = without_front k.queues }) row.domain row.state row.constants m) { ending = o }) (entered r row.handler)) (sym quiet)
      (started k r row m (without_front k.queues) None none h n.contained (queues_taken k.modules k.queues h.queues)
      (subst (λ (o : Option Message). HoldsPayloads k.blocks (without_front k.queues) o (constants_kept k.modules)) first (payloads_next k.blocks k.queues k.hand (constants_kept k.modules) free h.payloads))
      (front_known k.modules k.queues m h.queues first))

  dispatch_moved : (o : Option Message) → front k.queues ≡ o → GoodMoved (dispatch o k r)
  dispatch_moved None first = h
  dispatch_moved (Some m) first = deliver_moved (module_named k.modules m.to) m first refl

  came_moved : (images : List Prep) (w : LoaderOrder) → AllByRecursion IsGoodImage images → GoodMoved (came images w k r)
  came_moved images (what.Load n) good = image_moved (slice_get images n) images n good refl
  came_moved images (what.Unload id) good = unload_moved (module_named k.modules id) id refl
  came_moved images what.Dump good = h

-- outside a handler no message is in hand, no module ends and no call waits
pub nothing_runs : (k : KernelState) (r : RunnerState) → GoodMachine k r → k.running ≡ None → (k.hand ≡ None) × (k.ending ≡ None) × (k.frames ≡ [])
nothing_runs k r h out = subst (GoodHandler k r) out h.handler

pub came_good : (images : List Prep) (w : LoaderOrder) (k : KernelState) (r : RunnerState) → GoodMachine k r → k.running ≡ None → AllByRecursion IsGoodImage images → GoodMachine (came images w k r).kernel (came images w k r).runner
came_good images w k r h out good = came_moved k r (nothing_runs k r h out).2 (nothing_runs k r h out).1 (nothing_runs k r h out).0 h images w good

pub dispatch_good : (k : KernelState) (r : RunnerState) → GoodMachine k r → k.running ≡ None → GoodMachine (dispatch (front k.queues) k r).kernel (dispatch (front k.queues) k r).runner
dispatch_good k r h out = dispatch_moved k r (nothing_runs k r h out).2 (nothing_runs k r h out).1 (nothing_runs k r h out).0 h (front k.queues) refl

pub faulted_good : (note : FaultNote) (run : Running) (k : KernelState) (r : RunnerState) (lines : List TraceLine) → GoodMachine k r → k.running ≡ Some run → GoodMachine (faulted note run k r lines).kernel (faulted note run k r lines).runner
faulted_good note run k r lines h i =
    closed_good k.ending (purged (handler_ended k) (id_at k.modules run.domain) run.domain) (emptied r run.domain) _ refl
    (running_purged k r run.domain h (running_good k r run h i).0.loaded)

pub settled_good : (e : UnitEnd) (run : Running) (k : KernelState) (r : RunnerState) (lines : List TraceLine) → GoodMachine k r → (ends_handler e ≡ true → k.running ≡ Some run) → GoodMachine (settled e run k r lines).kernel (settled e run k r lines).runner
settled_good On run k r lines h i = h
settled_good Over run k r lines h i = closed_good k.ending k r _ refl (ended_good k r h)
settled_good (Fault note) run k r lines h i = faulted_good note run k r lines h (i refl)
