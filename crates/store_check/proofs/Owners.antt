-- What the segment at an address tells of the address.
use Rattle.std.proofs.Common.{◌≡◌, ◌≢◌, ℕ, ◌<◌, ◌&&◌, ◌↔◌, IsTrue, IsSomeAnd, Bool, false, List, Option, Some, None, eqb, MatchOption, eq-eqb, refl, sym, ap, arith, ◌∙◌}
use Rattle.std.specs.Option.{option_map_or}
use Rattle.std.proofs.lemmas.Bool.{eqb-true, false≢true, ne_eqb}
use Rattle.std.proofs.lemmas.Bool.Decides.{same_from_decides}
use Rattle.mote_layout.specs.Memory.{kernel}
use Rattle.mote_layout.specs.Blocks.{AreBlocks, Owns, owns, block_address, segment_at, owner_at}
use Rattle.mote_layout.specs.Load.{AreConstants, are_constants, IsConstant, is_constant}
use Rattle.mote_layout.specs.declared.segment.Segment.{Segment}
use Rattle.mote_layout.proofs.Owners.{Owns-segment_at, owns-true}
use Rattle.mote_layout.proofs.Loads.{are_constants-true, IsConstant-segment_at, is_constant-true}

-- a test of the segment's owner tells whether the segment is there and of that owner
owner_test : (o : Option Segment) (d : ℕ) (r : Bool) → MatchOption o (r ≡ false) (λ s. r ≡ eqb s.owner d) → IsTrue r ↔ IsSomeAnd o (λ s. s.owner ≡ d)
owner_test None d r h = (λ yes. absurd (false≢true (sym h ∙ yes)), λ some. absurd some)
owner_test (Some s) d r h = (λ yes. eqb-true s.owner d (sym h ∙ yes), λ same. h ∙ eq-eqb s.owner d same)

-- so it tells whether the domain owns the address,
pub owner_tells : (ss : List Segment) (d a : ℕ) (o : Option Segment) (r : Bool) → AreBlocks ss → o ≡ segment_at ss a → MatchOption o (r ≡ false) (λ s. r ≡ eqb s.owner d) → IsTrue r ↔ Owns ss d a
owner_tells ss d a o r blocks at h =
    let owner = Owns-segment_at ss d a blocks in
    let test = rw at at (owner_test o d r h) in
    (λ yes. owner.1 (test.0 yes), λ owns. test.1 (owner.0 owns))

-- the owner that the map gives tells of a domain whether its segment is there
by_owner : (o : Option Segment) (d : ℕ) (r : Bool) → d < kernel → r ≡ eqb (option_map_or (λ (s : Segment). s.owner) o kernel) d → MatchOption o (r ≡ false) (λ s. r ≡ eqb s.owner d)
by_owner None d r domain h = h ∙ ne_eqb kernel d (λ e. omega (arith, e, domain))
by_owner (Some s) d r domain h = h

pub domain_tells : (ss : List Segment) (d a : ℕ) (r : Bool) → AreBlocks ss → d < kernel → r ≡ eqb (owner_at ss a) d → IsTrue r ↔ Owns ss d a
domain_tells ss d a r blocks domain h = owner_tells ss d a (segment_at ss a) r blocks refl (by_owner (segment_at ss a) d r domain h)

-- and it is the test of that
pub owner_test-is_owns : (ss : List Segment) (d a : ℕ) (r : Bool) → IsTrue r ↔ Owns ss d a → r ≡ owns ss d a
owner_test-is_owns ss d a r tells =
    let test = owns-true ss d a in
    same_from_decides r (owns ss d a) tells test

-- a test of the segment tells whether it is the block of constants
constants_test : (o : Option Segment) (constants : ℕ) (r : Bool) → MatchOption o (r ≡ false) (λ s. r ≡ are_constants constants s) → IsTrue r ↔ IsSomeAnd o (λ s. AreConstants constants s)
constants_test None constants r h = (λ yes. absurd (false≢true (sym h ∙ yes)), λ some. absurd some)
constants_test (Some s) constants r h =
    let kind = are_constants-true constants s in
    (λ yes. kind.0 (sym h ∙ yes), λ are. h ∙ kind.1 are)

-- so it tells whether the address lies in the block of constants,
pub constants_tell : (ss : List Segment) (constants a : ℕ) (o : Option Segment) (r : Bool) → AreBlocks ss → o ≡ segment_at ss a → MatchOption o (r ≡ false) (λ s. r ≡ are_constants constants s) → IsTrue r ↔ IsConstant ss constants a
constants_tell ss constants a o r blocks at h =
    let there = IsConstant-segment_at ss constants a blocks in
    let test = rw at at (constants_test o constants r h) in
    (λ yes. there.1 (test.0 yes), λ is. test.1 (there.0 is))

-- and it is the test of that
pub constants_test-is : (ss : List Segment) (constants a : ℕ) (r : Bool) → IsTrue r ↔ IsConstant ss constants a → r ≡ is_constant ss constants a
constants_test-is ss constants a r tells = same_from_decides r (is_constant ss constants a) tells (is_constant-true ss constants a)

-- a segment of the kernel's is the block of constants where it begins there, and another's is not
pub kernels_block : (s : Segment) (constants b : ℕ) → s.owner ≡ kernel → b ≡ block_address s.first → eqb b constants ≡ are_constants constants s
kernels_block s constants b own at =
    ap (λ k. eqb k constants) at ∙ sym (ap (λ t. t && eqb (block_address s.first) constants) (eq-eqb s.owner kernel own))

pub others_block : (s : Segment) (constants : ℕ) → s.owner ≢ kernel → eqb s.owner kernel ≡ are_constants constants s
others_block s constants other =
    let not_own = ne_eqb s.owner kernel other in
    not_own ∙ sym (ap (λ t. t && eqb (block_address s.first) constants) not_own)
