-- The addresses of stores and loads.
use Rattle.std.proofs.Common.{◌≡◌, ℕ, ◌<◌, ◌^◌, arith}
use Rattle.avr_isa.specs.declared.instruction.Instr.TheVariants.{LdX, StX}
use Rattle.avr_machine.specs.Modes.{load_address as loaded_by_mode, store_address as stored_by_mode}
use Rattle.mote_layout.specs.Memory.{pointer_x}
use Rattle.domain_model.specs.State.{Processor, pair}
use Rattle.domain_model.specs.Act.{load_address, store_address}

-- X as it stands
pub stores : (r : ℕ) (p : Processor) → pair p pointer_x < 2 ^ 16 → store_address (StX r) p ≡ pair p pointer_x
unfolding stored_by_mode
stores r p word = omega (arith, word)

pub loads : (d : ℕ) (p : Processor) → pair p pointer_x < 2 ^ 16 → load_address (LdX d) p ≡ pair p pointer_x
unfolding loaded_by_mode
loads d p word = omega (arith, word)
