-- A packet that comes keeps kernel and runner good: it brings one message at most, with a block that was free.
use Rattle.std.proofs.Common.{◌≡◌, ℕ, ◌+◌, ◌-◌, ◌^◌, ◌<◌, ◌≤◌, ◌==◌, nat_lt, inl, inr, List, length, Bool, true, false, refl, ◌∙◌, arith, Option, Some, None, is_some}
use Rattle.std.specs.List.{list_any}
use Rattle.mote_base.specs.Messages.{Lists, in_order, front, appended, queue_limit}
use Rattle.mote_layout.specs.Memory.{ram_start, kernel}
use Rattle.mote_layout.specs.Parcels.{Payload}
use Rattle.mote_layout.specs.declared.segment.Segment.{Segment}
use Rattle.domain_model.specs.declared.event.Packet.{Packet}
use Rattle.domain_model.specs.State.{Message, KernelState, RunnerState, payload_address}
use Rattle.domain_model.specs.Modules.{is_loaded}
use Rattle.domain_model.specs.Payloads.{constants_kept, IsAsLong}
use Rattle.domain_model.specs.Given.{Given, given, with_given}
use Rattle.domain_model.specs.Radio.{Hearing, message_by_radio, queued, filled, payload_in, heard_given, heard_bytes, heard_where, heard_by, heard}
use Rattle.domain_model.specs.Turn.{hear}
use Rattle.domain_model.specs.Good.{GoodProcessor, GoodMachine, IsKnown, IsPacket}
use Rattle.domain_model.proofs.ByteLists.{put_bytes}
use Rattle.domain_model.proofs.BlockLaws.{put_length, GoodGiven, given_good, given_gains, given_within}
use Rattle.domain_model.proofs.PayloadLaws.{payloads_posted, payloads_gained}
use Rattle.domain_model.proofs.ClockLaws.{appended_waits}
use Rattle.domain_model.proofs.ActLaws.{is_unload, one_more}
use Rattle.domain_model.proofs.MachineLaws.{handler_kept, queues_posted}

-- The kernel with another memory, other blocks and other queues.
abbrev pub with_heard : KernelState → List ℕ → List Segment → Lists Message → KernelState
with_heard k memory blocks queues = record k { processor = record k.processor { memory = memory }; blocks = blocks; queues = queues }

-- What a packet makes of the kernel: these alone change, one message comes at most, and one line is written, which unloads nothing.
pub record Hears (k : KernelState) (got : Hearing) : Type 0 where
  pub alone : got.kernel ≡ with_heard k got.kernel.processor.memory got.kernel.blocks got.kernel.queues
  pub more : length (in_order got.kernel.queues) ≤ length (in_order k.queues) + 1
  pub waits : is_some (front k.queues) ≡ true → is_some (front got.kernel.queues) ≡ true
  pub few : length got.lines ≤ 1
  pub quiet : list_any is_unload got.lines ≡ false

queued_hears : (p : Packet) (load : Option Payload) (k : KernelState) → Hears k (queued p load k)
queued_hears p load k = record { alone = refl; more = one_more false (message_by_radio p load) k; waits = λ some. appended_waits false (message_by_radio p load) k.queues; few = omega arith; quiet = refl }

given_hears : (o : Option Given) (p : Packet) (k : KernelState) → Hears k (heard_given o p k)
given_hears None p k = record { alone = refl; more = omega arith; waits = λ some. some; few = omega arith; quiet = refl }
given_hears (Some g) p k =
    let more = queued_hears p (Some (payload_in p g)) (with_given k (filled p g)) in
    record { alone = refl; more = more.more; waits = more.waits; few = omega arith; quiet = refl }

bytes_hears : (b : Bool) (p : Packet) (k : KernelState) → Hears k (heard_bytes b p k)
bytes_hears true p k = queued_hears p None k
bytes_hears false p k = given_hears (given k kernel (length p.bytes)) p k

where_hears : (b : Bool) (p : Packet) (k : KernelState) → Hears k (heard_where b p k)
where_hears true p k = bytes_hears (length p.bytes == 0) p k
where_hears false p k = record { alone = refl; more = omega arith; waits = λ some. some; few = omega arith; quiet = refl }

by_hears : (b : Bool) (p : Packet) (k : KernelState) → Hears k (heard_by b p k)
by_hears true p k = where_hears (nat_lt (length k.queues.low) queue_limit) p k
by_hears false p k = record { alone = refl; more = omega arith; waits = λ some. some; few = omega arith; quiet = refl }

pub packet_hears : (p : Packet) (k : KernelState) → Hears k (heard p k)
packet_hears p k = by_hears (is_loaded k.modules p.to) p k

-- The first packet, if there is one.
pub record HearsFirst (k : KernelState) (r : RunnerState) (o : Option Packet) : Type 0 where
  pub alone : (hear o k r).kernel ≡ with_heard k (hear o k r).kernel.processor.memory (hear o k r).kernel.blocks (hear o k r).kernel.queues
  pub runner : (hear o k r).runner ≡ r
  pub more : length (in_order (hear o k r).kernel.queues) ≤ length (in_order k.queues) + 1
  pub waits : is_some (front k.queues) ≡ true → is_some (front (hear o k r).kernel.queues) ≡ true
  pub quiet : list_any is_unload (hear o k r).lines ≡ false

pub first_hears : (o : Option Packet) (k : KernelState) (r : RunnerState) → HearsFirst k r o
first_hears None k r = record { alone = refl; runner = refl; more = omega arith; waits = λ some. some; quiet = refl }
first_hears (Some p) k r =
    let h = packet_hears p k in
    record { alone = h.alone; runner = refl; more = h.more; waits = h.waits; quiet = h.quiet }

-- Good.

known_by_radio : (k : KernelState) (p : Packet) (load : Option Payload) → IsPacket p → is_loaded k.modules p.to ≡ true → payload_address load < 2 ^ 16 → IsAsLong (length p.bytes) load → IsKnown k.modules (message_by_radio p load)
known_by_radio k p load packet there small long = record {
  receiver = there;
  sender = inl (inr refl);
  framed = record {
    to = packet.to;
    from = omega arith;
    sort = packet.sort;
    byte = omega arith;
    word = omega arith;
    len = omega (arith, packet.short);
    address = small;
  };
  load = long;
}

module _ (k : KernelState) (r : RunnerState) (p : Packet) (h : GoodMachine k r) (packet : IsPacket p) where
  bytes_good : (g : Given) → GoodGiven k kernel g → given k kernel (length p.bytes) ≡ Some g → GoodProcessor (record k.processor { memory = (filled p g).memory })
  bytes_good g good e =
      let within = given_within k kernel (length p.bytes) g e in
      record {
        registers = h.processor.registers;
        memory =
            put_length g.memory (g.address - ram_start) p.bytes (omega (arith, within.1, good.memory, h.processor.memory))
            ∙ good.memory ∙ h.processor.memory;
        register_bytes = h.processor.register_bytes;
        memory_bytes = put_bytes g.memory (g.address - ram_start) p.bytes packet.bytes (good.bytes h.processor.memory_bytes);
        sreg_byte = h.processor.sreg_byte;
      }

  given_heard : (o : Option Given) → is_loaded k.modules p.to ≡ true → nat_lt (length k.queues.low) queue_limit ≡ true → given k kernel (length p.bytes) ≡ o → GoodMachine (heard_given o p k).kernel r
  given_heard None there room e = h
  given_heard (Some g) there room e =
      let good = given_good k kernel (length p.bytes) g h.blocks h.processor.memory (omega arith) e in
      let m = message_by_radio p (Some (payload_in p g)) in
      let now = with_given k (filled p g) in
      record {
        processor = bytes_good g good e;
        banks = h.banks;
        modules = h.modules;
        distinct = h.distinct;
        blocks = good.blocks;
        owners = good.owners k.modules h.owners (inl refl);
        queues = queues_posted k.modules false m k.queues (known_by_radio k p (Some (payload_in p g)) packet there (omega (arith, good.address)) refl) room h.queues;
        timers = h.timers;
        payloads = payloads_gained k.blocks g.blocks k.queues k.hand (constants_kept k.modules) m (payload_in p g) refl (given_gains k (length p.bytes) g h.blocks e) h.payloads;
        handler = handler_kept k.running k (record now { queues = appended false m k.queues }) r refl refl refl refl refl h.handler;
      }

  bytes_heard : (b : Bool) → is_loaded k.modules p.to ≡ true → nat_lt (length k.queues.low) queue_limit ≡ true → GoodMachine (heard_bytes b p k).kernel r
  bytes_heard true there room =
      let m = message_by_radio p None in
      record {
        processor = h.processor;
        banks = h.banks;
        modules = h.modules;
        distinct = h.distinct;
        blocks = h.blocks;
        owners = h.owners;
        queues = queues_posted k.modules false m k.queues (known_by_radio k p None packet there (omega arith) tt) room h.queues;
        timers = h.timers;
        payloads = payloads_posted k.blocks k.queues k.hand (constants_kept k.modules) m refl h.payloads;
        handler = handler_kept k.running k (record k { queues = appended false m k.queues }) r refl refl refl refl refl h.handler;
      }
  bytes_heard false there room = given_heard (given k kernel (length p.bytes)) there room refl

  where_heard : (b : Bool) → is_loaded k.modules p.to ≡ true → nat_lt (length k.queues.low) queue_limit ≡ b → GoodMachine (heard_where b p k).kernel r
  where_heard true there room = bytes_heard (length p.bytes == 0) there room
  where_heard false there room = h

  by_heard : (b : Bool) → is_loaded k.modules p.to ≡ b → GoodMachine (heard_by b p k).kernel r
  by_heard true there = where_heard (nat_lt (length k.queues.low) queue_limit) there refl
  by_heard false there = h

pub heard_good : (k : KernelState) (r : RunnerState) (p : Packet) → GoodMachine k r → IsPacket p → GoodMachine (heard p k).kernel r
heard_good k r p h packet = by_heard k r p h packet (is_loaded k.modules p.to) refl
