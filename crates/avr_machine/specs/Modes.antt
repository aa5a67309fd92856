-- The address that a load or a store takes, by its mode.
use Rattle.std.specs.Prelude.{ℕ, ◌+◌, ◌%◌, Option, Some, None}
use Rattle.avr_isa.specs.declared.instruction.Instr.{Instr}
use Rattle.avr_isa.specs.declared.instruction.Instr.TheVariants.{LddZ, LddY, StdZ, StdY, Lds, LdZInc, LdZDec, LdYInc, LdYDec, LdX, LdXInc, LdXDec, Sts, StZInc, StZDec, StYInc, StYDec, StX, StXInc, StXDec}
use Rattle.mote_layout.specs.Memory.{pointer_x, pointer_y, pointer_z}
use Rattle.avr_machine.specs.Processor.{Processor, pair, lowered}

-- the address that lies q bytes behind a pointer, modulo 65536
abbrev pub behind : Processor → ℕ → ℕ → ℕ
behind p pointer q = (pair p pointer + q) % 65536

-- where a store puts its byte: at a pointer as it stands, at the one that has fallen, behind one, or at its word
unfoldable pub store_address : Instr → Processor → Option ℕ
store_address (StX r) p = Some (behind p pointer_x 0)
store_address (StXInc r) p = Some (pair p pointer_x)
store_address (StXDec r) p = Some (lowered (pair p pointer_x))
store_address (StdY r q) p = Some (behind p pointer_y q)
store_address (StYInc r) p = Some (pair p pointer_y)
store_address (StYDec r) p = Some (lowered (pair p pointer_y))
store_address (StdZ r q) p = Some (behind p pointer_z q)
store_address (StZInc r) p = Some (pair p pointer_z)
store_address (StZDec r) p = Some (lowered (pair p pointer_z))
store_address (Sts r k) p = Some k
store_address _ p = None

-- where a load takes its byte
unfoldable pub load_address : Instr → Processor → Option ℕ
load_address (LdX d) p = Some (behind p pointer_x 0)
load_address (LdXInc d) p = Some (pair p pointer_x)
load_address (LdXDec d) p = Some (lowered (pair p pointer_x))
load_address (LddY d q) p = Some (behind p pointer_y q)
load_address (LdYInc d) p = Some (pair p pointer_y)
load_address (LdYDec d) p = Some (lowered (pair p pointer_y))
load_address (LddZ d q) p = Some (behind p pointer_z q)
load_address (LdZInc d) p = Some (pair p pointer_z)
load_address (LdZDec d) p = Some (lowered (pair p pointer_z))
load_address (Lds d k) p = Some k
load_address _ p = None

-- the register that a load fills, or whose byte a store takes; 0 of any other instruction
abbrev pub moved_register : Instr → ℕ
moved_register (StX r) = r
moved_register (StXInc r) = r
moved_register (StXDec r) = r
moved_register (StdY r q) = r
moved_register (StYInc r) = r
moved_register (StYDec r) = r
moved_register (StdZ r q) = r
moved_register (StZInc r) = r
moved_register (StZDec r) = r
moved_register (Sts r k) = r
moved_register (LdX d) = d
moved_register (LdXInc d) = d
moved_register (LdXDec d) = d
moved_register (LddY d q) = d
moved_register (LdYInc d) = d
moved_register (LdYDec d) = d
moved_register (LddZ d q) = d
moved_register (LdZInc d) = d
moved_register (LdZDec d) = d
moved_register (Lds d k) = d
moved_register _ = 0
