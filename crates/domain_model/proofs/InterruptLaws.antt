-- A packet that comes leaves all but the queue and a block that was free, and a timer that fires all but the timers and the queue.
use Rattle.std.proofs.Common.{◌≡◌, ◌≢◌, ◌⊎◌, ℕ, ◌+◌, ◌-◌, ◌*◌, ◌<◌, ◌≤◌, ◌==◌, ◌++◌, nat_lt, inl, inr, List, length, take, drop, Bool, true, false, refl, sym, ap, ◌∙◌, subst, arith, Option, Some, None, slice_get}
use Rattle.std.specs.Prelude.{slice_index}
use Rattle.std.proofs.Math.ListN.{get_or-append}
use Rattle.std.proofs.lemmas.Bool.{cases_eq, cases_lt, cases_Bool}
use Rattle.std.proofs.lemmas.List.{get_or-append_right, get_or-drop, get_or-take, length-take-le}
use Rattle.mote_base.specs.Messages.{Lists, queue_limit}
use Rattle.std.specs.List.{AllByRecursion}
use Rattle.mote_base.specs.Timers.{is_of, after_firing}
use Rattle.mote_base.specs.declared.timer.Timer.{Timer}
use Rattle.mote_layout.specs.Memory.{ram_start, ram_bytes, block_bytes, kernel}
use Rattle.mote_layout.specs.Blocks.{owns}
use Rattle.mote_layout.specs.Fit.{blocks_for}
use Rattle.mote_layout.specs.Requests.{address_for, served}
use Rattle.mote_layout.specs.declared.segment.Segment.{Segment}
use Rattle.domain_model.specs.declared.event.Choice.{Choice}
use Rattle.domain_model.specs.declared.event.Choice.TheVariants.{Hears, Fires}
use Rattle.domain_model.specs.declared.event.Packet.{Packet}
use Rattle.domain_model.specs.declared.line.TraceLine.{TraceLine}
use Rattle.domain_model.specs.State.{Processor, Message, KernelState, RunnerState, State, with_bytes, with_zeros}
use Rattle.domain_model.specs.Modules.{is_loaded}
use Rattle.domain_model.specs.Given.{given_at}
use Rattle.domain_model.specs.Free.{SameState, with_memory, is_kernel_byte}
use Rattle.domain_model.specs.Radio.{message_by_radio, heard_given, heard_bytes, heard_where, heard_by}
use Rattle.domain_model.specs.Firing.{fired}
use Rattle.domain_model.specs.Facts.{Facts}
use Rattle.domain_model.specs.Act.{act}
use Rattle.domain_model.specs.Turn.{hear, made, Turn}
use Rattle.domain_model.specs.Good.{GoodTimer, Good}
use Rattle.domain_model.specs.Laws.{IsNewlyKernels, IsOneMore, none_more, one_more, Interrupted, IsOneReminder, Reminded, InterruptsAlone}
use Rattle.domain_model.proofs.StackLaws.{zeros_within}
use Rattle.domain_model.proofs.BlockLaws.{zeros_length}
use Rattle.domain_model.proofs.OwningLaws.{served_out}
use Rattle.domain_model.proofs.ConfinedLaws.{kernel_byte_at}
use Rattle.domain_model.proofs.ChoiceLaws.{choice_facts}
use Rattle.domain_model.proofs.Kept.{each_at}
use Rattle.domain_model.proofs.TimerLaws.{first_least, fires_once}
use Rattle.domain_model.proofs.FiringLaws.{timer_reminds}

-- bytes that are put change none before them and none behind them
put_within : (xs : List ℕ) (place : ℕ) (bytes : List ℕ) (i : ℕ) → place ≤ length xs → slice_index (with_bytes xs place bytes) i ≢ slice_index xs i → (place ≤ i) × (i < place + length bytes)
put_within xs place bytes i fits differs =
    elim (cases_lt i place) [
      | inl before ↦ absurd (differs (get_or-append (take place xs) (bytes ++ drop (place + length bytes) xs) 0 i (omega (arith, before, length-take-le place xs fits)) ∙ get_or-take place xs i 0 before))
      | inr from ↦
          elim (cases_lt i (place + length bytes)) [
            | inl within ↦ (from, within)
            | inr past ↦
                absurd (differs (get_or-append_right (take place xs) (bytes ++ drop (place + length bytes) xs) place i 0 (length-take-le place xs fits) from
                ∙ get_or-append_right bytes (drop (place + length bytes) xs) (length bytes) (i - place) 0 refl (omega (arith, past))
                ∙ get_or-drop (place + length bytes) xs (i - place - length bytes) 0
                ∙ ap (λ (n : ℕ). slice_index xs n) (let same : place + length bytes + (i - place - length bytes) ≡ i = omega (arith, past, from) in same)))
          ]
    ]

-- nor do zeros with bytes at their beginning
changed_within : (place n : ℕ) (bytes memory : List ℕ) (i : ℕ) → place + n ≤ length memory → place ≤ length (with_zeros memory place n) → length bytes ≤ n → slice_index (with_bytes (with_zeros memory place n) place bytes) i ≢ slice_index memory i → (place ≤ i) × (i < place + n)
changed_within place n bytes memory i fits also room differs =
    let zeros = with_zeros memory place n in
    elim (cases_eq (slice_index (with_bytes zeros place bytes) i) (slice_index zeros i)) [
      | inl same ↦ zeros_within memory place n i (omega (arith, fits)) (λ e. differs (same ∙ e))
      | inr put ↦ let within = put_within zeros place bytes i also put in (within.0, omega (arith, within.1, room))
    ]

-- What a packet leaves of the kernel.
record LeavesRest (k n : KernelState) : Type 0 where
  processor : n.processor ≡ record k.processor { memory = n.processor.memory }
  memory : (i : ℕ) → slice_index n.processor.memory i ≢ slice_index k.processor.memory i → IsNewlyKernels k n (i + ram_start)
  kept : (owner address : ℕ) → owns k.blocks owner address ≡ true → owns n.blocks owner address ≡ true
  new : (owner address : ℕ) → owns n.blocks owner address ≡ true → (owns k.blocks owner address ≡ true) ⊎ ((owner ≡ kernel) × IsNewlyKernels k n address)
  queues : IsOneMore k.queues n.queues
  rest : n ≡ record k { processor = n.processor; blocks = n.blocks; queues = n.queues }

-- a packet that brings no block, or is dropped
queues_leave : (k : KernelState) (queues : Lists Message) → IsOneMore k.queues queues → LeavesRest k (record k { queues = queues })
queues_leave k queues more = record {
  processor = refl;
  memory = λ i differs. absurd (differs refl);
  kept = λ owner a own. own;
  new = λ owner a own. inl own;
  queues = more;
  rest = refl;
}

given_leaves : (o : Option ℕ) (p : Packet) (k : KernelState) → length k.processor.memory ≡ ram_bytes → address_for k.blocks (length p.bytes) ≡ o → LeavesRest k (heard_given (given_at o k kernel (length p.bytes)) p k).kernel
given_leaves None p k whole is = queues_leave k k.queues none_more
given_leaves (Some address) p k whole is =
    let size = length p.bytes in
    let n = block_bytes * blocks_for size in
    let out = served_out k.blocks kernel size address is in
    let place = address - ram_start in
    let zeros = with_zeros k.processor.memory place n in
    let fits : place + n ≤ length k.processor.memory = omega (arith, whole, out.to) in
    let also : place ≤ length zeros = omega (arith, fits, zeros_length k.processor.memory place n fits) in
    record {
      processor = refl;
      memory = λ i differs.
          let within : (place ≤ i) × (i < place + n) = changed_within place n p.bytes k.processor.memory i fits also out.room differs in
          let new = out.given (i + ram_start) (omega (arith, within.0, out.from)) (omega (arith, within.1, out.from)) in
          record { free = new.1; kernels = new.0 };
      kept = λ owner a own. out.kept owner a own;
      new = λ owner a own.
          elim (out.old owner a own) [
            | inl fresh ↦ inr (fresh.0, record { free = fresh.1; kernels = subst (λ (o : ℕ). owns (served kernel size k.blocks) o a ≡ true) fresh.0 own })
            | inr old ↦ inl old
          ];
      queues = one_more (message_by_radio p _) refl refl;
      rest = refl;
    }

bytes_leave : (b : Bool) (p : Packet) (k : KernelState) → length k.processor.memory ≡ ram_bytes → LeavesRest k (heard_bytes b p k).kernel
bytes_leave true p k whole = queues_leave k _ (one_more (message_by_radio p None) refl refl)
bytes_leave false p k whole = given_leaves (address_for k.blocks (length p.bytes)) p k whole refl

where_leaves : (b : Bool) (p : Packet) (k : KernelState) → length k.processor.memory ≡ ram_bytes → LeavesRest k (heard_where b p k).kernel
where_leaves true p k whole = bytes_leave (length p.bytes == 0) p k whole
where_leaves false p k whole = queues_leave k k.queues none_more

by_leaves : (b : Bool) (p : Packet) (k : KernelState) → length k.processor.memory ≡ ram_bytes → LeavesRest k (heard_by b p k).kernel
by_leaves true p k whole = where_leaves (nat_lt (length k.queues.low) queue_limit) p k whole
by_leaves false p k whole = queues_leave k k.queues none_more

first_leaves : (o : Option Packet) (k : KernelState) (r : RunnerState) → length k.processor.memory ≡ ram_bytes → LeavesRest k (hear o k r).kernel × ((hear o k r).runner ≡ r)
first_leaves None k r whole = (queues_leave k k.queues none_more, refl)
first_leaves (Some p) k r whole = (by_leaves (is_loaded k.modules p.to) p k whole, refl)

-- So does the turn, but for the kernel's own bytes.
interrupted_by : (s t : State) → Good s → SameState is_kernel_byte (made Hears s (act s.kernel s.runner)).state t → Interrupted s t
interrupted_by s t g to =
    let leaves = first_leaves (slice_get s.packets 0) s.kernel s.runner g.machine.processor.memory in
    let n : KernelState = (hear (slice_get s.packets 0) s.kernel s.runner).kernel in
    let same : t.kernel ≡ with_memory n t.kernel.processor.memory = to.kernel.rest in
    let blocks : t.kernel.blocks ≡ n.blocks = ap (λ (k : KernelState). k.blocks) same in
    let fresh : (a : ℕ) → IsNewlyKernels s.kernel n a → IsNewlyKernels s.kernel t.kernel a
    = λ a h. record { free = h.free; kernels = subst (λ (bs : List Segment). owns bs kernel a ≡ true) (sym blocks) h.kernels } in
    record {
      processor = ap (λ (k : KernelState). k.processor) same ∙ ap (λ (p : Processor). record p { memory = t.kernel.processor.memory }) leaves.0.processor;
      memory = λ i differs.
          elim (cases_Bool (is_kernel_byte (i + ram_start))) [
            | inl own ↦ inl (kernel_byte_at (i + ram_start) own)
            | inr kept ↦ inr (fresh (i + ram_start) (leaves.0.memory i (λ e. differs (to.kernel.memory.same i kept ∙ e))))
          ];
      kept = λ owner a own. subst (λ (bs : List Segment). owns bs owner a ≡ true) (sym blocks) (leaves.0.kept owner a own);
      new = λ owner a own.
          elim (leaves.0.new owner a (subst (λ (bs : List Segment). owns bs owner a ≡ true) blocks own)) [
            | inl old ↦ inl old
            | inr got ↦ inr (got.0, fresh a got.1)
          ];
      queues = subst (λ (q : Lists Message). IsOneMore s.kernel.queues q) (sym (ap (λ (k : KernelState). k.queues) same)) leaves.0.queues;
      kernel_rest =
          same ∙ ap (λ (k : KernelState). with_memory k t.kernel.processor.memory) leaves.0.rest
          ∙ ap (λ (k : KernelState). record s.kernel { processor = k.processor; blocks = k.blocks; queues = k.queues }) (sym same);
      rest = to.rest ∙ ap (λ (r : RunnerState). record s { kernel = t.kernel; runner = r; packets = drop 1 s.packets }) leaves.1;
    }

-- A timer that fires leaves more: all but the high list, the timers and the kernel's own bytes.
reminded_by : (s t : State) (timer : Timer) → Good s → slice_get s.kernel.timers 0 ≡ Some timer → timer.due ≤ s.kernel.clock → SameState is_kernel_byte (made Fires s (act s.kernel s.runner)).state t → Reminded s t
reminded_by s t timer g first due to =
    let reminds = timer_reminds s.kernel timer first due in
    let n : KernelState = (fired s.kernel).kernel in
    let memory : List ℕ = t.kernel.processor.memory in
    let now : List Timer = after_firing s.kernel.clock s.kernel.timers in
    let same : t.kernel ≡ with_memory n memory = to.kernel.rest in
    let as_was : n.processor ≡ s.kernel.processor = ap (λ (k : KernelState). k.processor) reminds.alone in
    let processor : t.kernel.processor ≡ record s.kernel.processor { memory = memory }
    = ap (λ (k : KernelState). k.processor) same ∙ ap (λ (p : Processor). record p { memory = memory }) as_was in
    let queues : t.kernel.queues ≡ n.queues = ap (λ (k : KernelState). k.queues) same in
    let timers : t.kernel.timers ≡ now = ap (λ (k : KernelState). k.timers) same ∙ ap (λ (k : KernelState). k.timers) reminds.alone in
    record {
      timer = timer;
      first = first;
      due = due;
      least = first_least s.kernel.timers timer first g.machine.timers.order;
      once = subst (AllByRecursion (λ (u : Timer). is_of timer.«module» timer.id u ≡ true → s.kernel.clock < u.due)) (sym timers)
          (fires_once s.kernel.clock s.kernel.timers timer first due (each_at (GoodTimer s.kernel.modules s.kernel.clock) s.kernel.timers 0 timer g.machine.timers.each first).ticks.0
          g.machine.timers.apart);
      processor = processor;
      memory = λ i differs.
          elim (cases_Bool (is_kernel_byte (i + ram_start))) [
            | inl own ↦ kernel_byte_at (i + ram_start) own
            | inr kept ↦ absurd (differs (to.kernel.memory.same i kept ∙ ap (λ (p : Processor). slice_index p.memory i) as_was))
          ];
      queues = subst (IsOneReminder s.kernel.queues timer) (sym queues) reminds.reminder;
      timers = timers;
      kernel_rest =
          same ∙ ap (λ (k : KernelState). with_memory k memory) reminds.alone
          ∙ ap (λ (p : Processor). record s.kernel { processor = p; queues = n.queues; timers = now }) (sym processor)
          ∙ ap (λ (q : Lists Message). record s.kernel { processor = t.kernel.processor; queues = q; timers = now }) (sym queues)
          ∙ ap (λ (ts : List Timer). record s.kernel { processor = t.kernel.processor; queues = t.kernel.queues; timers = ts }) (sym timers);
      rest = to.rest;
    }

pub turn_interrupts : (s t : State) (lines : List TraceLine) → Good s → Turn s t lines → InterruptsAlone s t
turn_interrupts s t lines g turn = (
  λ e. let to : SameState is_kernel_byte (made Hears s turn.got).state t = rw e at turn.to in interrupted_by s t g to,
  λ e.
      let facts : Facts Fires s = subst (λ (c : Choice). Facts c s) e (choice_facts s) in
      let to : SameState is_kernel_byte (made Fires s turn.got).state t = rw e at turn.to in
      reminded_by s t facts.timer g facts.first facts.due to,
)
