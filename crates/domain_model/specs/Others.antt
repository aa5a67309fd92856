-- What a kernel call leaves as it was: everything but its answer, the queues, the caller's own blocks and timers, and
-- the payload that it takes.
use Rattle.std.specs.Prelude.{◌≡◌, ◌≢◌, ◌⊎◌, ℕ, ◌+◌, [], length, slice_index, true, false, Option, Some, None}
use Rattle.mote_base.specs.Timers.{without_module}
use Rattle.mote_layout.specs.Memory.{ram_start, ram_bytes, kernel}
use Rattle.mote_layout.specs.Blocks.{AreBlocks, owns}
use Rattle.mote_layout.specs.Parcels.{Payload}
use Rattle.mote_layout.specs.Requests.{HoldsBytes}
use Rattle.domain_model.specs.declared.handler.Running.{Running}
use Rattle.domain_model.specs.declared.fault.FaultNote.{FaultNote}
use Rattle.domain_model.specs.declared.fault.Rule.TheVariants.{Owner}
use Rattle.domain_model.specs.declared.fault.Served.TheVariants.{Back, Fault}
use Rattle.domain_model.specs.State.{Message, KernelState, Processor, register, pair}
use Rattle.domain_model.specs.Modules.{id_at}
use Rattle.domain_model.specs.Payloads.{load_of, IsHeld}
use Rattle.domain_model.specs.Services.{Service, Free, ChangeOwn, PostLong, Send}
use Rattle.domain_model.specs.Calls.{Serving, serve}

-- A byte of a block that was given out: it is 0, the caller has it now, and nobody had it.
pub record IsGivenOut (k : KernelState) (run : Running) (new : KernelState) (i : ℕ) : Type 0 where
  pub cleared : slice_index new.processor.memory i ≡ 0
  pub own : owns new.blocks run.domain (i + ram_start) ≡ true
  pub unowned : (owner : ℕ) → owns k.blocks owner (i + ram_start) ≡ false

-- The caller takes a payload: it is the receiver of the message in hand, which has that payload, and then has none.
pub record TakesPayload (k : KernelState) (run : Running) (new : KernelState) : Type 0 where
  pub message : Message
  pub payload : Payload
  pub in_hand : k.hand ≡ Some message
  pub receiver : message.to ≡ id_at k.modules run.domain
  pub load : message.load ≡ Some payload
  pub without : new.hand ≡ Some (record message { load = None })

-- All registers stay but R25:R24, SREG and SP stay, and each byte that changes was given out. Every other owner keeps
-- its blocks, but for the kernel's where the caller takes a payload, which the caller has then; and what another owner
-- has besides was the caller's. Every other module keeps its timers. The clock, the modules, what runs, the frames and
-- the module that ends stay, and so does the message in hand but for a payload that is taken.
pub record LeavesOthers (k : KernelState) (run : Running) (new : KernelState) : Type 0 where
  pub registers : (d : ℕ) → d ≢ 24 → d ≢ 25 → register new.processor d ≡ register k.processor d
  pub status : (new.processor.sreg ≡ k.processor.sreg) × (new.processor.sp ≡ k.processor.sp)
  pub memory : (i : ℕ) → slice_index new.processor.memory i ≢ slice_index k.processor.memory i → IsGivenOut k run new i
  pub kept : (owner address : ℕ) → owner ≢ run.domain → owns k.blocks owner address ≡ true → (owns new.blocks owner address ≡ true) ⊎ ((owner ≡ kernel) × TakesPayload k run new × (owns new.blocks run.domain address ≡ true))
  pub handed : (owner address : ℕ) → owner ≢ run.domain → owns new.blocks owner address ≡ true → (owns k.blocks owner address ≡ true) ⊎ (owns k.blocks run.domain address ≡ true)
  pub hand : (new.hand ≡ k.hand) ⊎ TakesPayload k run new
  pub timers : without_module (id_at k.modules run.domain) new.timers ≡ without_module (id_at k.modules run.domain) k.timers
  pub rest : new ≡ record k { processor = new.processor; blocks = new.blocks; queues = new.queues; timers = new.timers; hand = new.hand }

-- What a call asks of the caller's blocks: one that begins at an address and has so many bytes.
pub record BlockArgument : Type 0 where
  pub address : ℕ
  pub bytes : ℕ

-- Four calls have a block as an argument.
abbrev pub block_argument : Option Service → Processor → Option BlockArgument
block_argument (Some Free) p = Some (record { address = pair p 24; bytes = 0 })
block_argument (Some ChangeOwn) p = Some (record { address = pair p 24; bytes = 0 })
block_argument (Some PostLong) p = Some (record { address = pair p 18; bytes = pair p 20 })
block_argument (Some Send) p = Some (record { address = pair p 18; bytes = pair p 20 })
block_argument _ p = None

-- A call that is refused changes nothing and writes nothing: its block argument is no such block of the caller's.
pub record IsRefused (service : Option Service) (k : KernelState) (run : Running) (s : Serving) (note : FaultNote) : Type 0 where
  pub argument : BlockArgument
  pub asks : block_argument service k.processor ≡ Some argument
  pub kernel : s.kernel ≡ k
  pub lines : s.lines ≡ []
  pub note_is : note ≡ record { rule = Owner; address = argument.address }
  pub not_held : ¬ HoldsBytes k.blocks run.domain argument.address argument.bytes

abbrev pub CallsLeaveOthers : Type 0
CallsLeaveOthers = (service : Option Service) (run : Running) (k : KernelState) → AreBlocks k.blocks
    → length k.processor.memory ≡ ram_bytes → IsHeld k.blocks (load_of k.hand) → LeavesOthers k run (serve service run k).kernel

abbrev pub RefusedCallsChangeNothing : Type 0
RefusedCallsChangeNothing = (service : Option Service) (run : Running) (k : KernelState) (note : FaultNote)
    → (serve service run k).served ≡ Fault note → IsRefused service k run (serve service run k) note

-- A call for a block of the caller's is not refused.
abbrev pub OwnBlocksAreServed : Type 0
OwnBlocksAreServed = (service : Option Service) (argument : BlockArgument) (run : Running) (k : KernelState)
    → block_argument service k.processor ≡ Some argument → HoldsBytes k.blocks run.domain argument.address argument.bytes
    → (serve service run k).served ≡ Back
