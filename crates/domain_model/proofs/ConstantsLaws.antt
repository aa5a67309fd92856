-- The blocks of modules' constants: what is given out for a module that is loaded, and what is left where one goes out.
use Rattle.std.proofs.Common.{◌≡◌, ◌≢◌, ℕ, ◌+◌, ◌-◌, ◌*◌, ◌^◌, ◌<◌, ◌≤◌, ◌==◌, ◌++◌, ◌∷◌, inl, inr, List, [], length, not, Bool, true, false, refl, sym, ap, ◌∙◌, subst, arith, eq-eqb, Option, Some, None, IsSomeAnd}
use Rattle.std.specs.List.{AllByRecursion, Contains}
use Rattle.std.proofs.lemmas.Bool.{cond-false, ne_eqb}
use Rattle.std.proofs.lemmas.Option.{none-some, same_Some}
use Rattle.mote_base.specs.Messages.{Lists}
use Rattle.mote_layout.specs.Memory.{ram_start, ram_bytes, block_bytes, kernel}
use Rattle.mote_layout.specs.Blocks.{AreBlocks, block_of, starting_at}
use Rattle.mote_layout.specs.Parcels.{Payload, KernelGains}
use Rattle.mote_layout.specs.Requests.{address_for}
use Rattle.mote_layout.specs.declared.segment.Segment.{Segment}
use Rattle.domain_model.specs.Bytes.{AreBytes}
use Rattle.domain_model.specs.State.{Message, Loaded, KernelState}
use Rattle.domain_model.specs.Modules.{without_domain}
use Rattle.domain_model.specs.Given.{Given, given_at, given, nothing_given, filled_with}
use Rattle.domain_model.specs.Payloads.{kept_at, constants_kept, naming_of, naming_kept, without_load, IsHeld, HoldsPayloads}
use Rattle.domain_model.specs.Turn.{constants_given, constants_where, constants_block}
use Rattle.domain_model.specs.Good.{IsBlockOrNone, IsApart, AreDistinct, AreOwned}
use Rattle.domain_model.proofs.Kept.{each_weaker, each_filter, each_contained, contained_nowhere, contained_cases}
use Rattle.domain_model.proofs.ByteLists.{put_bytes}
use Rattle.domain_model.proofs.BlockLaws.{is_placed, put_length, given_good, given_gains, given_within}
use Rattle.domain_model.proofs.PayloadLaws.{Unnamed, none_kept, kept_gained, kept_lost}

-- An address of constants is a word.
pub word_or_none : (address : ℕ) → IsBlockOrNone address → address < 2 ^ 16
word_or_none address (inl none) = omega (arith, none)
word_or_none address (inr at) = omega (arith, at.1, at.2)

-- What is kept at one that is not 0.
kept_at-some : (address : ℕ) → address ≢ 0 → kept_at address ≡ Some (record { block = block_of address; len = 0 })
kept_at-some address some = cond-false (address == 0) None (Some (record { block = block_of address; len = 0 })) (ne_eqb address 0 some)

-- What is given out begins with a block.
block_at : (o : Option ℕ) (k : KernelState) (domain size : ℕ) (g : Given) → address_for k.blocks size ≡ o → given_at o k domain size ≡ Some g → IsBlockOrNone g.address
block_at None k domain size g e h = absurd (none-some g h)
block_at (Some address) k domain size g e h =
    let at = is_placed k.blocks size address e in
    let same : address ≡ g.address = ap (λ (o : Option Given). given_address o) h in
    inr (at.block, omega (arith, at.some, at.least.fits.0), sym same ∙ sym at.address_of)
  where
    given_address : Option Given → ℕ
    given_address None = 0
    given_address (Some x) = x.address

given_block : (k : KernelState) (domain size : ℕ) (g : Given) → given k domain size ≡ Some g → IsBlockOrNone g.address
given_block k domain size g h = block_at (address_for k.blocks size) k domain size g refl h

-- A parcel of fewer bytes is one, too.
shorter : (o : Option Segment) (len : ℕ) → IsSomeAnd o (λ s. (s.owner ≡ kernel) × (len ≤ block_bytes * s.count)) → IsSomeAnd o (λ s. (s.owner ≡ kernel) × (0 ≤ block_bytes * s.count))
shorter None len h = h
shorter (Some s) len h = (h.0, omega arith)

gains_shorter : (block len : ℕ) (old new : List Segment) → KernelGains (record { block = block; len = len }) old new → KernelGains (record { block = block; len = 0 }) old new
gains_shorter block len old new g = record {
  entries = g.entries;
  parcels = g.parcels;
  gained = shorter (starting_at new block) len g.gained;
  alone = g.alone;
}

-- What is given out for constants leaves *Blocks* with their old owners, a memory as long and of bytes, and an address of constants; and
-- the kernel's blocks with that one more.
pub record GoodConstants (k : KernelState) (c : Given) : Type 0 where
  pub blocks : AreBlocks c.blocks
  pub owners : (modules : List Loaded) → AreOwned modules k.blocks → AreOwned modules c.blocks
  pub memory : length c.memory ≡ length k.processor.memory
  pub bytes : AreBytes k.processor.memory → AreBytes c.memory
  pub address : IsBlockOrNone c.address
  pub holds : (q : Lists Message) (hand : Option Message) (kept : List (Option Payload)) → HoldsPayloads k.blocks q hand kept → HoldsPayloads c.blocks q hand (kept ++ kept_at c.address ∷ [])

module _ (k : KernelState) (constants : List ℕ) (blocks : AreBlocks k.blocks) (memory : length k.processor.memory ≡ ram_bytes) (are : AreBytes constants) where
  given_good_by : (o : Option Given) (c : Given) → given k kernel (length constants) ≡ o → constants_given o constants ≡ Some c → GoodConstants k c
  given_good_by None c e h = absurd (none-some c h)
  given_good_by (Some g) c e h =
      let good = given_good k kernel (length constants) g blocks memory (omega arith) e in
      let within = given_within k kernel (length constants) g e in
      let gains = gains_shorter (block_of g.address) (length constants) k.blocks g.blocks (given_gains k (length constants) g blocks e) in
      let some : g.address ≢ 0 = λ none. omega (arith, none, within.0) in
      subst (GoodConstants k) (same_Some (filled_with constants g) c h) (record {
        blocks = good.blocks;
        owners = λ modules owned. good.owners modules owned (inl refl);
        memory = put_length g.memory (g.address - ram_start) constants (omega (arith, within.1, good.memory, memory)) ∙ good.memory;
        bytes = λ before. put_bytes g.memory (g.address - ram_start) constants are (good.bytes before);
        address = given_block k kernel (length constants) g e;
        holds = λ q hand kept held.
            subst (λ (o : Option Payload). HoldsPayloads g.blocks q hand (kept ++ o ∷ [])) (sym (kept_at-some g.address some))
            (kept_gained k.blocks g.blocks q hand kept (record { block = block_of g.address; len = 0 }) gains held);
      })

  where_good : (b : Bool) (c : Given) → constants_where b k constants ≡ Some c → GoodConstants k c
  where_good true c h =
      subst (GoodConstants k) (same_Some (nothing_given k) c h) (record {
        blocks = blocks;
        owners = λ modules owned. owned;
        memory = refl;
        bytes = λ before. before;
        address = inl refl;
        holds = λ q hand kept held. none_kept k.blocks q hand kept held;
      })
  where_good false c h = given_good_by (given k kernel (length constants)) c refl h

  pub constants_block_good : (c : Given) → constants_block k constants ≡ Some c → GoodConstants k c
  constants_block_good c h = where_good (length constants == 0) c h

-- The constants of all modules.

pub constants_kept-append : (modules : List Loaded) (row : Loaded) → constants_kept (modules ++ row ∷ []) ≡ constants_kept modules ++ kept_at row.constants ∷ []
constants_kept-append [] row = refl
constants_kept-append (m ∷ ms) row = ap (λ os. kept_at m.constants ∷ os) (constants_kept-append ms row)

each_kept_by : (P : Option Payload → Type 0) (modules : List Loaded) → AllByRecursion P (constants_kept modules) → AllByRecursion (λ (m : Loaded). P (kept_at m.constants)) modules
each_kept_by P [] h = tt
each_kept_by P (m ∷ ms) h = (h.0, each_kept_by P ms h.1)

each_kept_of : (P : Option Payload → Type 0) (modules : List Loaded) → AllByRecursion (λ (m : Loaded). P (kept_at m.constants)) modules → AllByRecursion P (constants_kept modules)
each_kept_of P [] h = tt
each_kept_of P (m ∷ ms) h = (h.0, each_kept_of P ms h.1)

-- Those of a module that is loaded are held.
pub constants_held : (ss : List Segment) (modules : List Loaded) (m : Loaded) → AllByRecursion (IsHeld ss) (constants_kept modules) → Contains modules m → IsHeld ss (kept_at m.constants)
constants_held ss modules m h c = each_contained (λ (n : Loaded). IsHeld ss (kept_at n.constants)) modules m (each_kept_by (IsHeld ss) modules h) c

-- Where one module goes out its constants do, and no others.
none_in : (domain : ℕ) (ms : List Loaded) → AllByRecursion (λ (m : Loaded). m.domain ≢ domain) ms → without_domain domain ms ≡ ms
none_in domain [] h = refl
none_in domain (m ∷ ms) h = rw (ne_eqb m.domain domain h.0) (ap (λ xs. m ∷ xs) (none_in domain ms h.1))

kept_parted : (b : ℕ) (ms : List Loaded) (row : Loaded) → AreDistinct ms → Contains ms row → naming_kept b (constants_kept ms) ≡ naming_kept b (constants_kept (without_domain row.domain ms)) + naming_of b (kept_at row.constants)
kept_parted b [] row d c = absurd (contained_nowhere row c)
kept_parted b (m ∷ ms) row d c =
    elim (contained_cases m ms row c) [
      | inl same ↦
          let here = eq-eqb m.domain row.domain (ap (λ (x : Loaded). x.domain) same) in
          let rest = none_in row.domain ms (each_weaker (IsApart m) (λ (n : Loaded). n.domain ≢ row.domain) (λ n apart e. apart.1 (e ∙ ap (λ (x : Loaded). x.domain) (sym same))) ms d.0) in
          let one : naming_of b (kept_at m.constants) ≡ naming_of b (kept_at row.constants) = ap (λ (x : Loaded). naming_of b (kept_at x.constants)) same in
          rw here (rw rest (omega (arith, one)))
      | inr later ↦
          let apart = (each_contained (IsApart m) ms row d.0 later).1 in
          rw (ne_eqb m.domain row.domain (λ e. apart (sym e))) (omega (arith, kept_parted b ms row d.1 later))
    ]

pub constants_lost : (ss : List Segment) (q : Lists Message) (hand : Option Message) (modules : List Loaded) (row : Loaded) → AreBlocks ss → AreDistinct modules → Contains modules row → HoldsPayloads ss q hand (constants_kept modules) → Unnamed ss (without_load (kept_at row.constants) ss) q hand (constants_kept (without_domain row.domain modules))
constants_lost ss q hand modules row blocks distinct c h =
    let each = each_kept_by (IsHeld ss) modules h.beside in
    let left = each_kept_of (IsHeld ss) (without_domain row.domain modules)
    (each_filter (λ (m : Loaded). IsHeld ss (kept_at m.constants)) (λ (m : Loaded). IsHeld ss (kept_at m.constants)) (λ (m : Loaded). not (m.domain == row.domain)) (λ m stays k. k) modules each) in
    kept_lost ss q hand (constants_kept modules) (constants_kept (without_domain row.domain modules)) (kept_at row.constants) blocks
    (constants_held ss modules row h.beside c) left (λ b. kept_parted b modules row distinct c) h
