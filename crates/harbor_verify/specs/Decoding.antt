-- The instruction that words begin with, and whether it may appear in rewritten code.
use Rattle.std.specs.Prelude.{ℕ, ◌==◌, ◌^◌, nat_lt, Bool, true, false, List, [], ◌∷◌, Option, Some, None, Result, Ok, Err, if◌then◌else◌}
use Rattle.avr_isa.specs.Decoded.{decoded}
use Rattle.avr_isa.specs.declared.instruction.DecodeError.{DecodeError}
use Rattle.avr_isa.specs.declared.instruction.Instr.{Instr}
use Rattle.avr_isa.specs.declared.instruction.Instr.TheVariants as instr
use Rattle.mote_layout.specs.Page.{entry_at}
use Rattle.mote_layout.specs.declared.page.Entry.{Entry}
use Rattle.mote_layout.specs.declared.page.Entry.TheVariants as entry
use Rattle.unit_code.specs.Items.{next_word}
use Rattle.unit_code.specs.Kinds.{standing_of}
use Rattle.unit_code.specs.Templates.{address_of}
use Rattle.unit_code.specs.declared.kinds.Standing.{Standing}
use Rattle.unit_code.specs.declared.kinds.Standing.TheVariants.{Barred}

-- what a word was decoded to, without the number of words
abbrev pub instruction_of : Result (Instr × ℕ) DecodeError → Option Instr
instruction_of (Err e) = None
instruction_of (Ok (i, n)) = Some i

-- the instruction that words begin with, unless it is undefined or cut short
abbrev pub instruction_first : List ℕ → Option Instr
instruction_first [] = None
instruction_first (w ∷ ws) = instruction_of (decoded w (next_word ws))

-- the entry that a call of an address enters
abbrev pub entry_called : ℕ → Option Entry
entry_called address = if nat_lt address (2 ^ 16) then entry_at address else None

-- Whether an image that is sealed or not may call the entry: the guards of loads in a sealed one alone. The entry of
-- returns is reached by a jump.
abbrev pub may_call : Bool → Option Entry → Bool
may_call sealed None = false
may_call sealed (Some entry.Return) = false
may_call sealed (Some entry.LoadLds) = sealed
may_call sealed (Some entry.LoadX) = sealed
may_call sealed (Some entry.LoadXInc) = sealed
may_call sealed (Some entry.LoadXDec) = sealed
may_call sealed (Some (entry.LoadY q)) = sealed
may_call sealed (Some entry.LoadYInc) = sealed
may_call sealed (Some entry.LoadYDec) = sealed
may_call sealed (Some (entry.LoadZ q)) = sealed
may_call sealed (Some entry.LoadZInc) = sealed
may_call sealed (Some entry.LoadZDec) = sealed
may_call sealed (Some e) = true

-- of the refused kinds only writes of SP's bytes may appear: they stand in the template of a group
abbrev pub may_stand_as : Standing → Bool
may_stand_as (Barred kind) = kind == 5
may_stand_as standing = true

-- Whether the instruction stands in some template of an image that is sealed or not.
abbrev pub may_appear : Bool → Instr → Bool
may_appear sealed (instr.Call address) = may_call sealed (entry_called address)
may_appear sealed (instr.Jmp address) = address == address_of entry.Return
may_appear sealed i = may_stand_as (standing_of i)
