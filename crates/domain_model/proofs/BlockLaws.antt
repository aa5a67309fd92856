-- The blocks of the heap under the loaded modules: who owns them, where they lie, and what a state block is.
use Rattle.std.proofs.Common.{◌≡◌, ℕ, zero, suc, ◌+◌, ◌-◌, ◌*◌, ◌^◌, ◌<◌, ◌≤◌, ◌⊎◌, ◌↔◌, inl, inr, IsSomeAnd, eq-eqb, nat_le, ◌==◌, ◌&&◌, List, [], ◌∷◌, length, not, Bool, true, false, refl, sym, ap, ◌∙◌, subst, arith, Option, Some, None, nat_lt, if◌then◌else◌}
use Rattle.std.specs.List.{AllByRecursion}
use Rattle.std.specs.Prelude.{option_map}
use Rattle.std.specs.Option.{option_map_or}
use Rattle.std.proofs.lemmas.Bool.{cases_Bool, cond-true, cond-false, cond_both, eqb-true, eqb-false, leb-true, le-leb, or_cases, and_parts, and_from, not-true, true≢false}
use Rattle.std.proofs.lemmas.Option.{none-some, same_Some}
use Rattle.std.proofs.lemmas.List.{length-append, length-take, length-drop, length-replicate}
use Rattle.mote_base.specs.Messages.{names}
use Rattle.mote_layout.specs.Memory.{ram_start, ram_bytes, heap_start, red_zone_start, block_bytes, domain_count, kernel}
use Rattle.mote_layout.specs.Blocks.{AreBlocks, AreBlocksFrom, block_address, block_of, covers, starting_at, inserted, without, without_owner, given_to, handed_over, owns}
use Rattle.mote_layout.specs.Fit.{IsLeastFit, least_of, fit, blocks_for}
use Rattle.mote_layout.specs.Requests.{address_for, place_for, segment_for, served, beginning_at, holds, HoldsBytes}
use Rattle.mote_layout.specs.Parcels.{Payload, IsParcelOf, KernelStays, KernelGains, KernelLoses}
use Rattle.mote_layout.specs.declared.segment.Segment.{Segment}
use Rattle.mote_layout.proofs.BlockLists.{AreBlocks-inserted}
use Rattle.mote_layout.proofs.Owners.{covers-true, holds-true}
use Rattle.mote_layout.proofs.LeastFit.{fit-some}
use Rattle.mote_layout.proofs.Beginnings.{begins_at}
use Rattle.mote_layout.proofs.Entries.{served_stays, served_gains, without_stays, handed_over_stays, handed_over_gains, handed_over_loses}
use Rattle.domain_model.specs.Bytes.{AreBytes}
use Rattle.domain_model.specs.State.{Message, Loaded, KernelState, with_zeros, with_bytes}
use Rattle.domain_model.specs.Payloads.{holds_bytes, without_load, without_payloads}
use Rattle.domain_model.specs.Modules.{in_use, free_domain, without_domain}
use Rattle.domain_model.specs.Given.{Given, given_at, given, nothing_given}
use Rattle.domain_model.specs.Turn.{state_where, state_block}
use Rattle.domain_model.specs.Good.{IsOwned, AreOwned}
use Rattle.domain_model.proofs.ByteLists.{zeros_bytes}
use Rattle.domain_model.proofs.Kept.{each_weaker, each_filter}
use Rattle.domain_model.proofs.ModuleLaws.{in_use_without, other_domain}

-- an owned address lies in the heap
owned_from : (low : ℕ) (blocks : List Segment) (domain address : ℕ) → AreBlocksFrom low blocks → owns blocks domain address ≡ true → (heap_start ≤ address) × (address < red_zone_start)
owned_from low [] domain address fit e = absurd (cc)
owned_from low (s ∷ ss) domain address fit e =
    elim (or_cases (s.owner == domain && covers s address) (owns ss domain address) e) [
      | inl here ↦
          let within = covers-true s address (and_parts (s.owner == domain) (covers s address) here).1 in
          (omega (arith, within.0), omega (arith, within.1, fit.0.2))
      | inr later ↦ owned_from (s.first + s.count) ss domain address fit.1 later
    ]

pub owned_in_heap : (blocks : List Segment) (domain address : ℕ) → AreBlocks blocks → owns blocks domain address ≡ true → (heap_start ≤ address) × (address < red_zone_start)
owned_in_heap blocks domain address fit e = owned_from 0 blocks domain address fit e

-- the least number that passes a test is one of them, and passes
pub least_of_within : (test : ℕ → Bool) (low count k : ℕ) → least_of test low count ≡ Some k → (k < low + count) × (test k ≡ true)
least_of_within test low zero k e = absurd (none-some k e)
least_of_within test low (suc count) k e =
    elim (cases_Bool (test low)) [
      | inl here ↦
          let same : low ≡ k = same_Some low k (sym (cond-true (test low) (Some low) (least_of test (suc low) count) here) ∙ e) in
          (omega (arith, same), subst (λ (n : ℕ). test n ≡ true) same here)
      | inr other ↦
          let rest = least_of_within test (suc low) count k (sym (cond-false (test low) (Some low) (least_of test (suc low) count) other) ∙ e) in
          (omega (arith, rest.0), rest.1)
    ]

-- a free domain is a domain, and no module is in it
pub free_domain_is_free : (modules : List Loaded) (domain : ℕ) → free_domain modules ≡ Some domain → (domain < domain_count) × (in_use modules domain ≡ false)
free_domain_is_free modules domain e =
    let found = least_of_within (λ d. not (in_use modules d)) 0 domain_count domain e in
    (omega (arith, found.0), not-true (in_use modules domain) found.1)

-- a request for bytes is one for blocks
pub some_blocks : (bytes : ℕ) → (bytes == 0) ≡ false → 1 ≤ blocks_for bytes
some_blocks bytes h = let ne = eqb-false bytes 0 h in omega (arith, ne)

-- zeros leave the length
pub zeros_length : (bytes : List ℕ) (i n : ℕ) → i + n ≤ length bytes → length (with_zeros bytes i n) ≡ length bytes
zeros_length bytes i n h = simp (length-append, length-take, length-replicate, length-drop) (omega arith)

-- bytes that are put leave the length
pub put_length : (memory : List ℕ) (place : ℕ) (bytes : List ℕ) → place + length bytes ≤ length memory → length (with_bytes memory place bytes) ≡ length memory
put_length memory place bytes h = simp (length-append, length-take, length-drop) (omega (arith, h))

-- each block, and one more
each_inserted : (P : Segment → Type 0) (s : Segment) (ss : List Segment) → P s → AllByRecursion P ss → AllByRecursion P (inserted s ss)
each_inserted P s [] p h = (p, tt)
each_inserted P s (t ∷ ts) p h =
    cond_both (nat_lt s.first t.first) (s ∷ t ∷ ts) (t ∷ inserted s ts) (AllByRecursion P)
    (λ before. (p, h))
    (λ after. (h.0, each_inserted P s ts p h.1))

-- What a block that is given out leaves: *Blocks*, whose owners are the old ones and the one that it is given to, a memory as long and
-- of bytes, and its address, which is a word. Given to a domain, it leaves the kernel's blocks as they were.
pub record GoodGiven (k : KernelState) (domain : ℕ) (g : Given) : Type 0 where
  pub blocks : AreBlocks g.blocks
  pub owners : (modules : List Loaded) → AreOwned modules k.blocks → (domain ≡ kernel) ⊎ (in_use modules domain ≡ true) → AreOwned modules g.blocks
  pub stays : domain < kernel → KernelStays k.blocks g.blocks
  pub memory : length g.memory ≡ length k.processor.memory
  pub bytes : AreBytes k.processor.memory → AreBytes g.memory
  pub address : g.address < 2 ^ 16

-- where a request has an address, it is that of the least fit
pub record IsPlaced (ss : List Segment) (size address : ℕ) : Type 0 where
  pub block : ℕ
  pub place : place_for ss size ≡ Some block
  pub some : 1 ≤ blocks_for size
  pub least : IsLeastFit ss (blocks_for size) block
  pub address_of : block_address block ≡ address

placed_at : (b : Bool) (ss : List Segment) (size block : ℕ) → (size == 0) ≡ b → (if b then None else fit ss (blocks_for size)) ≡ Some block → (1 ≤ blocks_for size) × IsLeastFit ss (blocks_for size) block
placed_at true ss size block e h = absurd (none-some block h)
placed_at false ss size block e h = let some = some_blocks size e in (some, (fit-some ss (blocks_for size) block some).0 h)

addressed : (o : Option ℕ) (ss : List Segment) (size address : ℕ) → place_for ss size ≡ o → option_map (λ block. block_address block) o ≡ Some address → IsPlaced ss size address
addressed None ss size address e h = absurd (none-some address h)
addressed (Some block) ss size address e h =
    let at = placed_at (size == 0) ss size block refl e in
    record { block = block; place = e; some = at.0; least = at.1; address_of = same_Some (block_address block) address h }

pub is_placed : (ss : List Segment) (size address : ℕ) → address_for ss size ≡ Some address → IsPlaced ss size address
is_placed ss size address h = addressed (place_for ss size) ss size address refl h

given_at_good : (o : Option ℕ) (k : KernelState) (domain size : ℕ) (g : Given) → AreBlocks k.blocks → length k.processor.memory ≡ ram_bytes → domain ≤ kernel → address_for k.blocks size ≡ o → given_at o k domain size ≡ Some g → GoodGiven k domain g
given_at_good None k domain size g blocks memory below e h = absurd (none-some g h)
given_at_good (Some address) k domain size g blocks memory below e h =
    let at = is_placed k.blocks size address e in
    let first = at.block in
    let least = at.least in
    let start = at.address_of in
    let count = blocks_for size in
    let got : Segment = segment_for domain size first in
    let there : served domain size k.blocks ≡ inserted got k.blocks
    = ap (λ (o : Option ℕ). option_map_or (λ block. inserted (segment_for domain size block) k.blocks) o k.blocks) at.place in
    let made : Given = record {
      blocks = served domain size k.blocks;
      memory = with_zeros k.processor.memory (address - ram_start) (block_bytes * count);
      address = address;
    } in
    subst (GoodGiven k domain) (same_Some made g h) (record {
      blocks = subst AreBlocks (sym there) (AreBlocks-inserted got k.blocks at.some (omega (arith, below)) least.fits blocks);
      owners = λ modules owned own.
          subst (AreOwned modules) (sym there)
          (each_inserted (IsOwned modules) got k.blocks own owned);
      stays = λ for_domain. served_stays k.blocks domain size first at.place for_domain blocks;
      memory = zeros_length k.processor.memory (address - ram_start) (block_bytes * count) (omega (arith, memory, start, least.fits.0));
      bytes = zeros_bytes k.processor.memory (address - ram_start) (block_bytes * count);
      address = omega (arith, start, least.fits.0);
    })

pub given_good : (k : KernelState) (domain size : ℕ) (g : Given) → AreBlocks k.blocks → length k.processor.memory ≡ ram_bytes → domain ≤ kernel → given k domain size ≡ Some g → GoodGiven k domain g
given_good k domain size g blocks memory below h =
    given_at_good (address_for k.blocks size) k domain size g blocks memory below refl h

state_where_good : (b : Bool) (k : KernelState) (domain size : ℕ) (g : Given) → AreBlocks k.blocks → length k.processor.memory ≡ ram_bytes → domain ≤ kernel → state_where b k domain size ≡ Some g → GoodGiven k domain g
state_where_good true k domain size g blocks memory below h =
    subst (GoodGiven k domain) (same_Some (nothing_given k) g h) (record { blocks = blocks; owners = λ modules owned own. owned; stays = λ for_domain. record { entries = λ b. refl; parcels = λ q h. h }; memory = refl; bytes = λ h. h; address = omega arith })
state_where_good false k domain size g blocks memory below h = given_good k domain size g blocks memory below h

pub state_block_good : (k : KernelState) (domain size : ℕ) (g : Given) → AreBlocks k.blocks → length k.processor.memory ≡ ram_bytes → domain ≤ kernel → state_block k domain size ≡ Some g → GoodGiven k domain g
state_block_good k domain size g blocks memory below h = state_where_good (size == 0) k domain size g blocks memory below h

-- Given to the kernel, it is one more of its blocks.
gained_at : (o : Option ℕ) (k : KernelState) (size : ℕ) (g : Given) → AreBlocks k.blocks → address_for k.blocks size ≡ o → given_at o k kernel size ≡ Some g → KernelGains (record { block = block_of g.address; len = size }) k.blocks g.blocks
gained_at None k size g blocks e h = absurd (none-some g h)
gained_at (Some address) k size g blocks e h =
    let at = is_placed k.blocks size address e in
    let start = at.address_of in
    let made : Given = record {
      blocks = served kernel size k.blocks;
      memory = with_zeros k.processor.memory (address - ram_start) (block_bytes * blocks_for size);
      address = address;
    } in
    let block : at.block ≡ block_of address = omega (arith, start) in
    subst (λ (x : Given). KernelGains (record { block = block_of x.address; len = size }) k.blocks x.blocks) (same_Some made g h)
    (subst (λ (b : ℕ). KernelGains (record { block = b; len = size }) k.blocks (served kernel size k.blocks)) block (served_gains k.blocks size at.block at.place blocks))

pub given_gains : (k : KernelState) (size : ℕ) (g : Given) → AreBlocks k.blocks → given k kernel size ≡ Some g → KernelGains (record { block = block_of g.address; len = size }) k.blocks g.blocks
given_gains k size g blocks h = gained_at (address_for k.blocks size) k size g blocks refl h

-- The bytes that were asked for lie in the memory.
bytes_at_place : (o : Option ℕ) (k : KernelState) (domain size : ℕ) (g : Given) → address_for k.blocks size ≡ o → given_at o k domain size ≡ Some g → (ram_start ≤ g.address) × (g.address - ram_start + size ≤ ram_bytes)
bytes_at_place None k domain size g e h = absurd (none-some g h)
bytes_at_place (Some address) k domain size g e h =
    let at = is_placed k.blocks size address e in
    let start = at.address_of in
    let same : address ≡ g.address = ap (λ (x : Given). x.address) (same_Some (record {
      blocks = served domain size k.blocks;
      memory = with_zeros k.processor.memory (address - ram_start) (block_bytes * blocks_for size);
      address = address;
    }) g h) in
    (omega (arith, start, same), omega (arith, start, same, at.least.fits.0))

pub given_within : (k : KernelState) (domain size : ℕ) (g : Given) → given k domain size ≡ Some g → (ram_start ≤ g.address) × (g.address - ram_start + size ≤ ram_bytes)
given_within k domain size g h = bytes_at_place (address_for k.blocks size) k domain size g refl h

-- What a caller holds at an address, as its segment.
pub record HeldAt (ss : List Segment) (owner address bytes : ℕ) : Type 0 where
  pub segment : Segment
  pub begins : beginning_at ss address ≡ Some segment
  pub owner_of : segment.owner ≡ owner
  pub room : bytes ≤ block_bytes * segment.count

held_from : (o : Option Segment) (ss : List Segment) (owner address bytes : ℕ) → beginning_at ss address ≡ o → IsSomeAnd o (λ s. (s.owner ≡ owner) × (bytes ≤ block_bytes * s.count)) → HeldAt ss owner address bytes
held_from None ss owner address bytes e h = absurd h
held_from (Some s) ss owner address bytes e h = record { segment = s; begins = e; owner_of = h.0; room = h.1 }

pub bytes_held : (ss : List Segment) (owner address bytes : ℕ) → HoldsBytes ss owner address bytes → HeldAt ss owner address bytes
bytes_held ss owner address bytes h = held_from (beginning_at ss address) ss owner address bytes refl h

bytes_test : (o : Option Segment) (owner bytes : ℕ) → (option_map_or (λ (s : Segment). s.owner == owner && nat_le bytes (block_bytes * s.count)) o false ≡ true) ↔ IsSomeAnd o (λ s. (s.owner ≡ owner) × (bytes ≤ block_bytes * s.count))
bytes_test None owner bytes = (λ e. absurd (true≢false (sym e)), λ h. absurd h)
bytes_test (Some s) owner bytes = (
  λ e. let parts = and_parts (s.owner == owner) (nat_le bytes (block_bytes * s.count)) e in (eqb-true s.owner owner parts.0, leb-true bytes (block_bytes * s.count) parts.1),
  λ h. and_from (s.owner == owner) (nat_le bytes (block_bytes * s.count)) (eq-eqb s.owner owner h.0) (le-leb bytes (block_bytes * s.count) h.1),
)

pub holds_bytes-true : (ss : List Segment) (owner address bytes : ℕ) → (holds_bytes ss owner address bytes ≡ true) ↔ HoldsBytes ss owner address bytes
holds_bytes-true ss owner address bytes = bytes_test (beginning_at ss address) owner bytes

some_bytes : (o : Option Segment) (owner : ℕ) → IsSomeAnd o (λ s. s.owner ≡ owner) ↔ IsSomeAnd o (λ s. (s.owner ≡ owner) × (0 ≤ block_bytes * s.count))
some_bytes None owner = (λ h. h, λ h. h)
some_bytes (Some s) owner = (λ h. (h, omega arith), λ h. h.0)

pub holds_none : (ss : List Segment) (owner address : ℕ) → (holds ss owner address ≡ true) ↔ HoldsBytes ss owner address 0
holds_none ss owner address =
    let test = holds-true ss owner address in
    let bytes = some_bytes (beginning_at ss address) owner in
    (λ e. bytes.0 (test.0 e), λ h. test.1 (bytes.1 h))

-- It is freed, handed to another domain, or made a payload of the kernel's.
pub freed_stays : (ss : List Segment) (owner address bytes : ℕ) → AreBlocks ss → owner < kernel → HoldsBytes ss owner address bytes → KernelStays ss (without (block_of address) ss)
freed_stays ss owner address bytes blocks domain h =
    let held = bytes_held ss owner address bytes h in
    subst (λ (b : ℕ). KernelStays ss (without b ss)) (sym (begins_at ss address held.segment blocks held.begins).block)
    (without_stays ss address held.segment blocks held.begins (omega (arith, held.owner_of, domain)))

pub changed_stays : (ss : List Segment) (owner address bytes to : ℕ) → AreBlocks ss → owner < kernel → to < kernel → HoldsBytes ss owner address bytes → KernelStays ss (handed_over (block_of address) to ss)
changed_stays ss owner address bytes to blocks domain other h =
    let held = bytes_held ss owner address bytes h in
    subst (λ (b : ℕ). KernelStays ss (handed_over b to ss)) (sym (begins_at ss address held.segment blocks held.begins).block)
    (handed_over_stays ss address to held.segment blocks held.begins (omega (arith, held.owner_of, domain)) other)

pub lifted_gains : (ss : List Segment) (owner address bytes : ℕ) → AreBlocks ss → owner < kernel → HoldsBytes ss owner address bytes → KernelGains (record { block = block_of address; len = bytes }) ss (handed_over (block_of address) kernel ss)
lifted_gains ss owner address bytes blocks domain h =
    let held = bytes_held ss owner address bytes h in
    subst (λ (b : ℕ). KernelGains (record { block = b; len = bytes }) ss (handed_over b kernel ss)) (sym (begins_at ss address held.segment blocks held.begins).block)
    (handed_over_gains ss address bytes held.segment blocks held.begins (omega (arith, held.owner_of, domain)) held.room)

-- A payload is handed to a domain.
settled_from : (o : Option Segment) (ss : List Segment) (p : Payload) (to : ℕ) → AreBlocks ss → IsParcelOf ss p → to < kernel → starting_at ss p.block ≡ o → KernelLoses p ss (handed_over p.block to ss)
settled_from None ss p to blocks parcel domain e =
    absurd (subst (λ (o : Option Segment). IsSomeAnd o (λ s. (s.owner ≡ kernel) × (p.len ≤ block_bytes * s.count))) e parcel)
settled_from (Some s) ss p to blocks parcel domain e = handed_over_loses ss p to s blocks parcel e domain

pub settled_loses : (ss : List Segment) (p : Payload) (to : ℕ) → AreBlocks ss → IsParcelOf ss p → to < kernel → KernelLoses p ss (handed_over p.block to ss)
settled_loses ss p to blocks parcel domain = settled_from (starting_at ss p.block) ss p to blocks parcel domain refl

-- Owners.

owner_more : (modules more : List Loaded) → ((domain : ℕ) → in_use modules domain ≡ true → in_use more domain ≡ true) → (b : Segment) → IsOwned modules b → IsOwned more b
owner_more modules more f b (inl kernels) = inl kernels
owner_more modules more f b (inr used) = inr (f b.owner used)

-- a module comes in: the old blocks keep their owners
pub owned_more : (modules more : List Loaded) → ((domain : ℕ) → in_use modules domain ≡ true → in_use more domain ≡ true) → (blocks : List Segment) → AreOwned modules blocks → AreOwned more blocks
owned_more modules more f blocks h = each_weaker (IsOwned modules) (IsOwned more) (owner_more modules more f) blocks h

-- a module goes out with its blocks: the other blocks keep their owners
owner_without : (modules : List Loaded) (gone : ℕ) (b : Segment) → not (b.owner == gone) ≡ true → IsOwned modules b → IsOwned (without_domain gone modules) b
owner_without modules gone b kept (inl kernels) = inl kernels
owner_without modules gone b kept (inr used) = inr (in_use_without modules gone b.owner (other_domain b.owner gone kept) used)

pub owned_without : (modules : List Loaded) (gone : ℕ) (blocks : List Segment) → AreOwned modules blocks → AreOwned (without_domain gone modules) (without_owner gone blocks)
owned_without modules gone blocks h =
    each_filter (IsOwned modules) (IsOwned (without_domain gone modules)) (λ (b : Segment). not (b.owner == gone)) (owner_without modules gone) blocks h

-- a block is freed, or given to the kernel or a loaded domain
pub owned_fewer : (modules : List Loaded) (block : ℕ) (blocks : List Segment) → AreOwned modules blocks → AreOwned modules (without block blocks)
owned_fewer modules block blocks h =
    each_filter (IsOwned modules) (IsOwned modules) (λ (b : Segment). not (b.first == block)) (λ b kept e. e) blocks h

pub owned_handed : (modules : List Loaded) (block owner : ℕ) (blocks : List Segment) → (owner ≡ kernel) ⊎ (in_use modules owner ≡ true) → AreOwned modules blocks → AreOwned modules (handed_over block owner blocks)
owned_handed modules block owner [] used h = tt
owned_handed modules block owner (s ∷ ss) used h = (
  cond_both (s.first == block) (given_to owner s) s (IsOwned modules) (λ there. used) (λ other. h.0),
  owned_handed modules block owner ss used h.1,
)

-- payloads are freed
pub owned_unloaded : (modules : List Loaded) (o : Option Payload) (blocks : List Segment) → AreOwned modules blocks → AreOwned modules (without_load o blocks)
owned_unloaded modules None blocks h = h
owned_unloaded modules (Some p) blocks h = owned_fewer modules p.block blocks h

pub owned_unnamed : (modules : List Loaded) (id : ℕ) (ms : List Message) (blocks : List Segment) → AreOwned modules blocks → AreOwned modules (without_payloads id ms blocks)
owned_unnamed modules id [] blocks h = h
owned_unnamed modules id (m ∷ ms) blocks h =
    owned_unnamed modules id ms (if names id m then without_load m.load blocks else blocks)
    (cond_both (names id m) (without_load m.load blocks) blocks (AreOwned modules) (λ named. owned_unloaded modules m.load blocks h) (λ other. h))
