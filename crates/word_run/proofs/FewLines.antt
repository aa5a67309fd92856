-- The words of a unit write few lines: each instruction its own, and each entry one at most.
use Rattle.std.proofs.Common.{ℕ, zero, suc, ◌*◌, ◌≤◌, Bool, true, false, List, ◌++◌, length, Option, None, Some, arith}
use Rattle.std.specs.Prelude.{nat_le}
use Rattle.std.proofs.lemmas.List.{length-append}
use Rattle.avr_machine.specs.Processor.{Processor as CountingProcessor, raised}
use Rattle.mote_layout.specs.Memory.{floor}
use Rattle.mote_layout.specs.Limits.{payload_limit}
use Rattle.mote_layout.specs.Page.{page_start, entry_at}
use Rattle.mote_layout.specs.Requests.{holds}
use Rattle.mote_layout.specs.declared.page.Entry.{Entry}
use Rattle.mote_layout.specs.declared.page.Entry.TheVariants as entry
use Rattle.domain_model.specs.declared.fault.FaultNote.{FaultNote}
use Rattle.domain_model.specs.declared.fault.Rule.{Rule}
use Rattle.domain_model.specs.declared.handler.Running.{Running}
use Rattle.domain_model.specs.declared.line.TraceLine.{TraceLine}
use Rattle.domain_model.specs.State.{Message, KernelState, at_counter, pair}
use Rattle.domain_model.specs.Services.{Service, Malloc, Free, ChangeOwn, PostShort, PostLong, Take, TimerStart, TimerStop, Say, Clock, Send, MyId, service_of}
use Rattle.domain_model.specs.Payloads.{holds_bytes}
use Rattle.domain_model.specs.Calls.{free_held, change_held, long_held, long_message_of, send_within, send_held, serve}
use Rattle.domain_model.specs.Frames.{bound_at, call_fault, has_room, indirect_slot}
use Rattle.domain_model.specs.Act.{group_sp}
use Rattle.domain_model.specs.Runners.{unit_lines}
use Rattle.kernel_call.specs.Calling.{entered_slot, slot_by}
use Rattle.word_run.specs.FlashValue.{FlashValue, entry_point, unit_at}
use Rattle.word_run.specs.Entries.{Way, Goes, Ends, guarded, group_under, group_guarded, room_made, local_from, slot_from, indirect_called, called_row, back_kernel, returned_from, entry_row}
use Rattle.word_run.specs.WordRun.{WordsActed, after_one, arrived, at_entry, begun_lines, goes_by, goes_from, goes_in, one_step, ran_lines, run_from, words_by}
use Rattle.word_run.specs.Laws.{LinesAreFew}

-- one line at most
abbrev IsShort : List TraceLine → Type 0
IsShort lines = length lines ≤ 1

guarded_short : (b : Bool) (why : Rule) (address : ℕ) (k : KernelState) (back : ℕ) → IsShort (guarded b why address k back).lines
guarded_short true why address k back = omega arith
guarded_short false why address k back = omega arith

under_short : (b : Bool) (k : KernelState) (back : ℕ) → IsShort (group_under b k back).lines
under_short true k back = omega arith
under_short false k back = omega arith

group_short : (b : Bool) (run : Running) (k : KernelState) (back : ℕ) → IsShort (group_guarded b run k back).lines
group_short true run k back = under_short (nat_le (group_sp k.processor) run.base) k back
group_short false run k back = omega arith

room_short : (b : Bool) (k : KernelState) (back : ℕ) → IsShort (room_made b k back).lines
room_short true k back = omega arith
room_short false k back = omega arith

local_short : (unit : Option ℕ) (run : Running) (k : KernelState) (back : ℕ) → IsShort (local_from unit run k back).lines
local_short None run k back = omega arith
local_short (Some unit) run k back = omega arith

entered_short : (fault : Option FaultNote) (slot back domain place : ℕ) (run : Running) (k : KernelState) → IsShort (entered_slot fault slot back domain place run k).lines
entered_short None slot back domain place run k = omega arith
entered_short (Some note) slot back domain place run k = omega arith

bound_short : (bound : Option (ℕ × ℕ)) (slot back : ℕ) (run : Running) (k : KernelState) → IsShort (slot_by bound slot back run k).lines
bound_short None slot back run k = omega arith
bound_short (Some (domain, place)) slot back run k = entered_short (call_fault k) slot back domain place run k

slot_short : (unit : Option ℕ) (slot : ℕ) (v : FlashValue) (run : Running) (k : KernelState) (back : ℕ) → IsShort (slot_from unit slot v run k back).lines
slot_short None slot v run k back = omega arith
slot_short (Some unit) slot v run k back = bound_short (bound_at k run slot) slot unit run k

indirect_short : (slot : Option ℕ) (v : FlashValue) (run : Running) (k : KernelState) (back : ℕ) → IsShort (indirect_called slot v run k back).lines
indirect_short None v run k back = omega arith
indirect_short (Some slot) v run k back = slot_short (unit_at v run.domain back) slot v run k back

free_short : (b : Bool) (address : ℕ) (k : KernelState) → IsShort (free_held b address k).lines
free_short true address k = omega arith
free_short false address k = omega arith

change_short : (b : Bool) (address : ℕ) (k : KernelState) → IsShort (change_held b address k).lines
change_short true address k = omega arith
change_short false address k = omega arith

long_short : (b : Bool) (m : Message) (address : ℕ) (k : KernelState) → IsShort (long_held b m address k).lines
long_short true m address k = omega arith
long_short false m address k = omega arith

within_short : (b : Bool) (k : KernelState) (run : Running) → IsShort (send_within b k run).lines
within_short true k run = omega arith
within_short false k run = omega arith

send_short : (b : Bool) (k : KernelState) (run : Running) → IsShort (send_held b k run).lines
send_short true k run = within_short (nat_le (pair k.processor 20) payload_limit) k run
send_short false k run = omega arith

serve_short : (o : Option Service) (run : Running) (k : KernelState) → IsShort (serve o run k).lines
serve_short (Some Free) run k = free_short (holds k.blocks run.domain (pair k.processor 24)) (pair k.processor 24) k
serve_short (Some ChangeOwn) run k = change_short (holds k.blocks run.domain (pair k.processor 24)) (pair k.processor 24) k
serve_short (Some PostLong) run k =
    long_short (holds_bytes k.blocks run.domain (pair k.processor 18) (pair k.processor 20)) (long_message_of k run) (pair k.processor 18) k
serve_short (Some Send) run k = send_short (holds_bytes k.blocks run.domain (pair k.processor 18) (pair k.processor 20)) k run
serve_short (Some Malloc) run k = omega arith
serve_short (Some PostShort) run k = omega arith
serve_short (Some Take) run k = omega arith
serve_short (Some TimerStart) run k = omega arith
serve_short (Some TimerStop) run k = omega arith
serve_short (Some Say) run k = omega arith
serve_short (Some Clock) run k = omega arith
serve_short (Some MyId) run k = omega arith
serve_short None run k = omega arith

called_short : (e : Entry) (v : FlashValue) (run : Running) (k : KernelState) (back : ℕ) → IsShort (called_row e v run k back).lines
called_short entry.SpGuard v run k back = group_short (nat_le floor (group_sp k.processor)) run k back
called_short entry.Reserve v run k back = room_short (has_room k.processor) k back
called_short (entry.Kernel n) v run k back = serve_short (service_of n) run k
called_short entry.LocalCall v run k back = local_short (unit_at v run.domain (raised back)) run k back
called_short (entry.Slot slot) v run k back = slot_short (unit_at v run.domain back) slot v run k back
called_short entry.SlotIndirect v run k back = indirect_short (indirect_slot k.processor) v run k back
called_short entry.Return v run k back = omega arith
called_short _ v run k back = guarded_short _ _ _ k back

row_short : (e : Entry) (v : FlashValue) (run : Running) (k : KernelState) (c : CountingProcessor) → IsShort (entry_row e v run k c).lines
row_short entry.Return v run k c = omega arith
row_short e v run k c = called_short e v run (back_kernel k c) (returned_from c).pc

at_entry_short : (o : Option Entry) (v : FlashValue) (run : Running) (k : KernelState) (c : CountingProcessor) → IsShort (at_entry o v run k c).lines
at_entry_short None v run k c = omega arith
at_entry_short (Some e) v run k c = row_short e v run k c

arrived_short : (b : Bool) (v : FlashValue) (run : Running) (k : KernelState) (c : CountingProcessor) → IsShort (arrived b v run k c).lines
arrived_short false v run k c = omega arith
arrived_short true v run k c = at_entry_short (entry_at c.pc) v run k c

step_short : (v : FlashValue) (run : Running) (k : KernelState) (address : ℕ) → IsShort (one_step v run k address).lines
step_short v run k address =
    let c = after_one v.flash (at_counter k.processor address) in
    arrived_short (nat_le page_start c.pc) v run k c

begun_short : (b : Bool) (v : FlashValue) (c : CountingProcessor) → IsShort (ran_lines b v.flash c)
begun_short true v c = omega arith
begun_short false v c = omega arith

-- The rest of a unit, from wherever it goes on, writes so many.
module _ (next : Running → KernelState → ℕ → WordsActed) (v : FlashValue) (n : ℕ) (few : (run : Running) (k : KernelState) (address : ℕ) → length (next run k address).lines ≤ n) where
  from_few : (o : Option ℕ) (run : Running) (k : KernelState) (address : ℕ) → length (goes_from o next v run k address).lines ≤ n
  from_few None run k address = few run k address
  from_few (Some unit) run k address = omega arith

  in_few : (o : Option Running) (k : KernelState) (address : ℕ) → length (goes_in o next v k address).lines ≤ n
  in_few None k address = omega arith
  in_few (Some run) k address = from_few (unit_at v run.domain address) run k address

  by_few : (way : Way) (k : KernelState) → length (goes_by way next v k).lines ≤ n
  by_few (Ends ending) k = omega arith
  by_few (Goes address) k = in_few k.running k address

run_few : (n : ℕ) (v : FlashValue) (run : Running) (k : KernelState) (address : ℕ) → length (run_from n v run k address).lines ≤ 2 * n
run_few zero v run k address = omega arith
run_few (suc n) v run k address =
    let r = one_step v run k address in
    let begun = begun_lines v k address in
    let rest = (goes_by r.way (run_from n v) v r.kernel).lines in
    let first = length-append begun (r.lines ++ rest) in
    let second = length-append r.lines rest in
    let few = by_few (run_from n v) v (2 * n) (run_few n v) r.way r.kernel in
    omega (arith, first, second, few, step_short v run k address, begun_short v.tells v (at_counter k.processor address))

words_few : (o : Option Running) (k : KernelState) (v : FlashValue) → length (words_by o k v).lines ≤ unit_lines
words_few None k v = omega arith
words_few (Some run) k v = omega (arith, run_few 4 v run k (entry_point v run.domain v.unit))

pub lines_are_few : LinesAreFew
lines_are_few k v = words_few k.running k v
