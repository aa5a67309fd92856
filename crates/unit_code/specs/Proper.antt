-- Lists of units that may be loaded.
use Rattle.std.specs.Prelude.{◌≡◌, ℕ, ◌<◌, ◌≤◌, ◌&&◌, Bool, true, false, List, [], ◌∷◌, length, ⊤}
use Rattle.std.specs.List.{AllByRecursion}
use Rattle.avr_isa.specs.Operands.{IsEncodable, IsRegister, IsBit}
use Rattle.mote_layout.specs.Memory.{bank_words}
use Rattle.mote_layout.specs.Page.{kernel_call_count, slot_count}
use Rattle.unit_code.specs.declared.unit.Unit.{Unit}
use Rattle.unit_code.specs.declared.unit.Unit.TheVariants.{Plain, Store, Load, Push, Pop, SpGroup, Reserve, Skip, Branch, Jump, LocalCall, KernelCall, SlotCall, SlotIndirect, Return}
use Rattle.unit_code.specs.Ends.{goes_on, long_length}
use Rattle.unit_code.specs.Kinds.{standing_of, whole}
use Rattle.unit_code.specs.Loads.{is_load}

-- The unit holds an instruction or a number that makes a unit of its kind, with operands in range.
abbrev pub IsOfKind : Unit → Type 0
IsOfKind (Plain i) = (standing_of i ≡ whole (Plain i)) × IsEncodable i
IsOfKind (Store i) = (standing_of i ≡ whole (Store i)) × IsEncodable i
IsOfKind (Load i) = (standing_of i ≡ whole (Plain i)) × (is_load i ≡ true) × IsEncodable i
IsOfKind (Skip i) = (standing_of i ≡ whole (Skip i)) × IsEncodable i
IsOfKind (Push r) = IsRegister r
IsOfKind (Pop d) = IsRegister d
IsOfKind (Branch set bit target) = IsBit bit
IsOfKind (KernelCall n) = n < kernel_call_count
IsOfKind (SlotCall i) = i < slot_count
IsOfKind (SpGroup with_sreg) = ⊤
IsOfKind Reserve = ⊤
IsOfKind (Jump target) = ⊤
IsOfKind (LocalCall target) = ⊤
IsOfKind SlotIndirect = ⊤
IsOfKind Return = ⊤

-- A target is the number of a unit.
abbrev pub LeadsBelow : ℕ → Unit → Type 0
LeadsBelow count (Branch set bit target) = target < count
LeadsBelow count (Jump target) = target < count
LeadsBelow count (LocalCall target) = target < count
LeadsBelow count _ = ⊤

abbrev pub is_group_unit : Unit → Bool
is_group_unit (SpGroup with_sreg) = true
is_group_unit _ = false

-- Two further units follow, of which the first is no group.
abbrev pub CanBeSkipped : List Unit → Type 0
CanBeSkipped [] = ⊥
CanBeSkipped (next ∷ []) = ⊥
CanBeSkipped (next ∷ other ∷ behind) = is_group_unit next ≡ false

abbrev pub SkipsTo : Unit → List Unit → Type 0
SkipsTo (Skip i) behind = CanBeSkipped behind
SkipsTo _ behind = ⊤

-- Behind each skip stands what it may pass over, and a unit behind that.
abbrev pub SkipsAreSound : List Unit → Type 0
SkipsAreSound [] = ⊤
SkipsAreSound (u ∷ behind) = SkipsTo u behind × SkipsAreSound behind

-- A load is checked in a sealed list, and in no other.
abbrev pub IsGuardedSo : Bool → Unit → Type 0
IsGuardedSo sealed (Plain i) = (sealed && is_load i) ≡ false
IsGuardedSo sealed (Load i) = sealed ≡ true
IsGuardedSo sealed _ = ⊤

-- A list of units that may be loaded, sealed or not. It isn't empty, each unit is of its kind, loads are checked where
-- it is sealed, targets are units, skips are sound, control doesn't run past the end, and the long spelling fits a bank
-- of flash.
pub record IsProper (us : List Unit) (sealed : Bool) : Type 0 where
  pub some : 0 < length us
  pub kinds : AllByRecursion IsOfKind us
  pub loads : AllByRecursion (IsGuardedSo sealed) us
  pub targets : AllByRecursion (LeadsBelow (length us)) us
  pub skips : SkipsAreSound us
  pub ends : goes_on us ≡ false
  pub fits : long_length us ≤ bank_words
