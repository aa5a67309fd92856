-- The numbers of the memory map.
use Rattle.std.specs.Prelude.{ℕ, ◌+◌, ◌*◌}

-- The data space of the ATmega128 (data sheet, "SRAM Data Memory"): 32 registers, then I/O with the
-- stack pointer's two bytes and the status register, then the internal SRAM.
abbrev pub register_count : ℕ
register_count = 32

abbrev pub spl : ℕ
spl = 0x005D

abbrev pub sph : ℕ
sph = 0x005E

abbrev pub sreg : ℕ
sreg = 0x005F

-- The pointer registers X, Y and Z by their lower registers (data sheet, "The X-register, Y-register, and
-- Z-register").
abbrev pub pointer_x : ℕ
pointer_x = 26

abbrev pub pointer_y : ℕ
pointer_y = 28

abbrev pub pointer_z : ℕ
pointer_z = 30

-- The ports of SP's two bytes and of SREG: IN and OUT count the I/O addresses from 0x20 (data sheet, "Register
-- Summary").
abbrev pub first_port : ℕ
first_port = 0x20

abbrev pub spl_port : ℕ
spl_port = 0x3D

abbrev pub sph_port : ℕ
sph_port = 0x3E

abbrev pub sreg_port : ℕ
sreg_port = 0x3F

abbrev pub ram_start : ℕ
ram_start = 0x0100

abbrev pub ram_end : ℕ
ram_end = 0x10FF

abbrev pub ram_bytes : ℕ
ram_bytes = 4096

-- The division of the SRAM, from its first address on: the message frame, the kernel's bytes, the
-- heap, the red zone and the stack. Each pair is the first and the last address.
abbrev pub message_frame : ℕ
message_frame = 0x0100

abbrev pub message_frame_bytes : ℕ
message_frame_bytes = 16

abbrev pub kernel_bytes_start : ℕ
kernel_bytes_start = 0x0110

abbrev pub kernel_bytes_end : ℕ
kernel_bytes_end = 0x01FF

abbrev pub heap_start : ℕ
heap_start = 0x0200

abbrev pub heap_end : ℕ
heap_end = 0x0DFF

abbrev pub red_zone_start : ℕ
red_zone_start = 0x0E00

abbrev pub red_zone_end : ℕ
red_zone_end = 0x0E0F

abbrev pub stack_start : ℕ
stack_start = 0x0E10

abbrev pub stack_top : ℕ
stack_top = 0x10FF

-- The least stack pointer that a unit may begin with: the stack is empty below it.
abbrev pub floor : ℕ
floor = 0x0E0F

-- The heap has blocks of equal size.
abbrev pub block_count : ℕ
block_count = 384

abbrev pub block_bytes : ℕ
block_bytes = 8

-- The domains are numbered from 0, and the kernel is the owner after them.
abbrev pub domain_count : ℕ
domain_count = 15

abbrev pub kernel : ℕ
kernel = domain_count

-- Each domain has a bank of flash words; the bank of domain 0 stands first.
abbrev pub banks_start : ℕ
banks_start = 0x4000

abbrev pub bank_words : ℕ
bank_words = 2048

-- the first word of a domain's bank
abbrev pub bank_start : ℕ → ℕ
bank_start domain = banks_start + bank_words * domain
