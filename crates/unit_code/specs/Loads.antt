-- Which instructions are loads, and what each is in an image that is sealed.
use Rattle.std.specs.Prelude.{◌&&◌, Bool, true, false}
use Rattle.avr_isa.specs.declared.instruction.Instr.{Instr}
use Rattle.avr_isa.specs.declared.instruction.Instr.TheVariants.{LdX, LdXInc, LdXDec, LddY, LdYInc, LdYDec, LddZ, LdZInc, LdZDec, Lds}
use Rattle.unit_code.specs.declared.unit.Unit.{Unit}
use Rattle.unit_code.specs.declared.unit.Unit.TheVariants.{Plain, Load}

-- LD, LDD and LDS, which read the data space
unfoldable pub is_load : Instr → Bool
is_load (LdX d) = true
is_load (LdXInc d) = true
is_load (LdXDec d) = true
is_load (LddY d q) = true
is_load (LdYInc d) = true
is_load (LdYDec d) = true
is_load (LddZ d q) = true
is_load (LdZInc d) = true
is_load (LdZDec d) = true
is_load (Lds d k) = true
is_load _ = false

abbrev pub load_where : Bool → Instr → Unit
load_where true i = Load i
load_where false i = Plain i

-- The unit in an image that is sealed or not: a load is checked exactly in a sealed one.
abbrev pub guarded : Bool → Unit → Unit
guarded sealed (Plain i) = load_where (sealed && is_load i) i
guarded sealed (Load i) = load_where (sealed && is_load i) i
guarded sealed u = u
