-- Blocks that are given out.
use Rattle.std.specs.Prelude.{ℕ, ◌-◌, ◌*◌, List, Option, Some, None}
use Rattle.mote_layout.specs.Memory.{ram_start, block_bytes}
use Rattle.mote_layout.specs.Fit.{blocks_for}
use Rattle.mote_layout.specs.Requests.{address_for, served}
use Rattle.mote_layout.specs.declared.segment.Segment.{Segment}
use Rattle.domain_model.specs.State.{KernelState, with_bytes, with_zeros}

-- What a request leaves: the blocks of the heap, the memory, and the address of what was given out.
pub record Given : Type 0 where
  pub blocks : List Segment
  pub memory : List ℕ
  pub address : ℕ

-- A domain is given a block for so many bytes, where the request has an address: all bytes of the block are cleared.
abbrev pub given_at : Option ℕ → KernelState → ℕ → ℕ → Option Given
given_at None k domain size = None
given_at (Some address) k domain size =
    Some (record {
      blocks = served domain size k.blocks;
      memory = with_zeros k.processor.memory (address - ram_start) (block_bytes * blocks_for size);
      address = address;
    })

abbrev pub given : KernelState → ℕ → ℕ → Option Given
given k domain size = given_at (address_for k.blocks size) k domain size

-- no block, and the address 0
abbrev pub nothing_given : KernelState → Given
nothing_given k = record { blocks = k.blocks; memory = k.processor.memory; address = 0 }

-- what was given out, with these bytes at its beginning
abbrev pub filled_with : List ℕ → Given → Given
filled_with bytes g = record g { memory = with_bytes g.memory (g.address - ram_start) bytes }

-- the kernel after a request
abbrev pub with_given : KernelState → Given → KernelState
with_given k g = record k { processor = record k.processor { memory = g.memory }; blocks = g.blocks }
