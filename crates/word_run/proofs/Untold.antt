-- Whether a runner tells its instructions: its unit is the same, but for their lines.
use Rattle.std.proofs.Common.{◌≡◌, ◌∙◌, ℕ, zero, suc, List, [], Bool, true, false, Option, Some, None, refl, sym, ap}
use Rattle.std.specs.Prelude.{nat_le, not}
use Rattle.std.proofs.lemmas.List.Elements.{filter-append}
use Rattle.avr_machine.specs.Processor.{Processor as CountingProcessor}
use Rattle.avr_machine.specs.Flash.{Banks}
use Rattle.mote_layout.specs.Memory.{floor}
use Rattle.mote_layout.specs.Page.{page_start, entry_at}
use Rattle.mote_layout.specs.declared.page.Entry.{Entry}
use Rattle.mote_layout.specs.declared.page.Entry.TheVariants as entry
use Rattle.domain_model.specs.declared.fault.FaultNote.{FaultNote}
use Rattle.domain_model.specs.declared.fault.Rule.{Rule}
use Rattle.domain_model.specs.declared.handler.Running.{Running}
use Rattle.domain_model.specs.declared.line.TraceLine.{TraceLine}
use Rattle.domain_model.specs.State.{KernelState, at_counter, with_processor, without_counter}
use Rattle.domain_model.specs.Services.{service_of}
use Rattle.domain_model.specs.Frames.{bound_at, call_fault, has_room, indirect_slot}
use Rattle.domain_model.specs.Act.{group_sp}
use Rattle.domain_model.specs.Runners.{is_ran, without_ran}
use Rattle.domain_model.proofs.RanLaws.{serve_without_ran}
use Rattle.kernel_call.specs.declared.calls.Returned.{Returned}
use Rattle.kernel_call.specs.declared.calls.Returned.TheVariants as returned
use Rattle.kernel_call.specs.declared.calls.SlotEnd.{SlotEnd}
use Rattle.kernel_call.specs.declared.calls.SlotEnd.TheVariants as slot_end
use Rattle.kernel_call.specs.Calling.{SlotCalling, Returning, called_slot, entered_slot, returning, slot_by}
use Rattle.word_run.specs.FlashValue.{FlashValue, entry_point, unit_at}
use Rattle.word_run.specs.Entries.{Way, Goes, Ends, Reached, back_kernel, called_row, entry_row, group_guarded, group_under, guarded, indirect_called, local_from, returned_from, returned_way, room_made, slot_from, slot_way}
use Rattle.word_run.specs.Telling.{TellingAddsLines, quietly, untold}
use Rattle.word_run.specs.WordRun.{WordsActed, after_one, arrived, at_entry, begun_lines, behind, goes_by, goes_from, goes_in, goes_on, instruction_limit, one_step, ran_lines, run_from, words_by}

-- An entry looks at the words alone, and not at whether they are told.
returned_same : (a : Returned) (v : FlashValue) → returned_way a (untold v) ≡ returned_way a v
returned_same (returned.To domain unit) v = refl
returned_same returned.Over v = refl
returned_same (returned.Fault note) v = refl

ending_same : (e : SlotEnd) (v : FlashValue) (back : ℕ) → slot_way e (untold v) back ≡ slot_way e v back
ending_same (slot_end.Entered domain unit) v back = refl
ending_same slot_end.Unbound v back = refl
ending_same (slot_end.Fault note) v back = refl

slot_same : (o : Option ℕ) (slot : ℕ) (v : FlashValue) (run : Running) (k : KernelState) (back : ℕ) → slot_from o slot (untold v) run k back ≡ slot_from o slot v run k back
slot_same None slot v run k back = refl
slot_same (Some unit) slot v run k back =
    let s : SlotCalling = called_slot k run slot unit in
    ap (λ (way : Way). record { kernel = s.kernel; lines = s.lines; way = way }) (ending_same s.ending v back)

indirect_same : (o : Option ℕ) (v : FlashValue) (run : Running) (k : KernelState) (back : ℕ) → indirect_called o (untold v) run k back ≡ indirect_called o v run k back
indirect_same None v run k back = refl
indirect_same (Some slot) v run k back = slot_same (unit_at v run.domain back) slot v run k back

entry_same : (e : Entry) (v : FlashValue) (run : Running) (k : KernelState) (c : CountingProcessor) → entry_row e (untold v) run k c ≡ entry_row e v run k c
entry_same entry.Return v run k c =
    let s : Returning = returning (with_processor k (without_counter c)) run in
    ap (λ (way : Way). record { kernel = s.kernel; lines = []; way = way }) (returned_same s.answer v)
entry_same (entry.Slot slot) v run k c = slot_same (unit_at v run.domain (returned_from c).pc) slot v run (back_kernel k c) (returned_from c).pc
entry_same entry.SlotIndirect v run k c = indirect_same (indirect_slot (back_kernel k c).processor) v run (back_kernel k c) (returned_from c).pc
entry_same _ v run k c = refl

at_entry_same : (o : Option Entry) (v : FlashValue) (run : Running) (k : KernelState) (c : CountingProcessor) → at_entry o (untold v) run k c ≡ at_entry o v run k c
at_entry_same None v run k c = refl
at_entry_same (Some e) v run k c = entry_same e v run k c

arrived_same : (b : Bool) (v : FlashValue) (run : Running) (k : KernelState) (c : CountingProcessor) → arrived b (untold v) run k c ≡ arrived b v run k c
arrived_same false v run k c = refl
arrived_same true v run k c = at_entry_same (entry_at c.pc) v run k c

step_same : (v : FlashValue) (run : Running) (k : KernelState) (address : ℕ) → one_step (untold v) run k address ≡ one_step v run k address
step_same v run k address =
    let c : CountingProcessor = after_one v.flash (at_counter k.processor address) in
    arrived_same (nat_le page_start c.pc) v run k c

-- No line of an entry is of an instruction.
abbrev IsQuiet : List TraceLine → Type 0
IsQuiet lines = without_ran lines ≡ lines

quiet_guarded : (b : Bool) (why : Rule) (address : ℕ) (k : KernelState) (back : ℕ) → IsQuiet (guarded b why address k back).lines
quiet_guarded true why address k back = refl
quiet_guarded false why address k back = refl

quiet_under : (b : Bool) (k : KernelState) (back : ℕ) → IsQuiet (group_under b k back).lines
quiet_under true k back = refl
quiet_under false k back = refl

quiet_group : (b : Bool) (run : Running) (k : KernelState) (back : ℕ) → IsQuiet (group_guarded b run k back).lines
quiet_group true run k back = quiet_under (nat_le (group_sp k.processor) run.base) k back
quiet_group false run k back = refl

quiet_room : (b : Bool) (k : KernelState) (back : ℕ) → IsQuiet (room_made b k back).lines
quiet_room true k back = refl
quiet_room false k back = refl

quiet_local : (o : Option ℕ) (run : Running) (k : KernelState) (back : ℕ) → IsQuiet (local_from o run k back).lines
quiet_local None run k back = refl
quiet_local (Some unit) run k back = refl

quiet_entered : (fault : Option FaultNote) (slot back domain place : ℕ) (run : Running) (k : KernelState) → IsQuiet (entered_slot fault slot back domain place run k).lines
quiet_entered None slot back domain place run k = refl
quiet_entered (Some note) slot back domain place run k = refl

quiet_bound : (bound : Option (ℕ × ℕ)) (slot back : ℕ) (run : Running) (k : KernelState) → IsQuiet (slot_by bound slot back run k).lines
quiet_bound None slot back run k = refl
quiet_bound (Some (domain, place)) slot back run k = quiet_entered (call_fault k) slot back domain place run k

quiet_slot : (o : Option ℕ) (slot : ℕ) (v : FlashValue) (run : Running) (k : KernelState) (back : ℕ) → IsQuiet (slot_from o slot v run k back).lines
quiet_slot None slot v run k back = refl
quiet_slot (Some unit) slot v run k back = quiet_bound (bound_at k run slot) slot unit run k

quiet_indirect : (o : Option ℕ) (v : FlashValue) (run : Running) (k : KernelState) (back : ℕ) → IsQuiet (indirect_called o v run k back).lines
quiet_indirect None v run k back = refl
quiet_indirect (Some slot) v run k back = quiet_slot (unit_at v run.domain back) slot v run k back

quiet_called : (e : Entry) (v : FlashValue) (run : Running) (k : KernelState) (back : ℕ) → IsQuiet (called_row e v run k back).lines
quiet_called entry.PushGuard v run k back = quiet_guarded _ _ _ k back
quiet_called entry.PopGuard v run k back = quiet_guarded _ _ _ k back
quiet_called entry.SpGuard v run k back = quiet_group (nat_le floor (group_sp k.processor)) run k back
quiet_called entry.Reserve v run k back = quiet_room (has_room k.processor) k back
quiet_called (entry.Kernel n) v run k back = serve_without_ran (service_of n) run k
quiet_called entry.LocalCall v run k back = quiet_local _ run k back
quiet_called (entry.Slot slot) v run k back = quiet_slot (unit_at v run.domain back) slot v run k back
quiet_called entry.SlotIndirect v run k back = quiet_indirect (indirect_slot k.processor) v run k back
quiet_called entry.Return v run k back = refl
quiet_called _ v run k back = quiet_guarded _ _ _ k back

quiet_entry : (e : Entry) (v : FlashValue) (run : Running) (k : KernelState) (c : CountingProcessor) → IsQuiet (entry_row e v run k c).lines
quiet_entry entry.Return v run k c = refl
quiet_entry e v run k c = quiet_called e v run (back_kernel k c) (returned_from c).pc

quiet_at_entry : (o : Option Entry) (v : FlashValue) (run : Running) (k : KernelState) (c : CountingProcessor) → IsQuiet (at_entry o v run k c).lines
quiet_at_entry None v run k c = refl
quiet_at_entry (Some e) v run k c = quiet_entry e v run k c

quiet_arrived : (b : Bool) (v : FlashValue) (run : Running) (k : KernelState) (c : CountingProcessor) → IsQuiet (arrived b v run k c).lines
quiet_arrived false v run k c = refl
quiet_arrived true v run k c = quiet_at_entry (entry_at c.pc) v run k c

quiet_step : (v : FlashValue) (run : Running) (k : KernelState) (address : ℕ) → IsQuiet (one_step v run k address).lines
quiet_step v run k address =
    let c : CountingProcessor = after_one v.flash (at_counter k.processor address) in
    quiet_arrived (nat_le page_start c.pc) v run k c

-- the line of an instruction is one of those that are left out
none_begun : (tells : Bool) (flash : Banks) (c : CountingProcessor) → without_ran (ran_lines tells flash c) ≡ []
none_begun true flash c = refl
none_begun false flash c = refl

-- lines put in front, without those that are left out
quietly_behind : (more : List TraceLine) (got : WordsActed) → quietly (behind more got) ≡ behind (without_ran more) (quietly got)
quietly_behind more got =
    ap (λ (ls : List TraceLine). record { kernel = got.kernel; runner = untold got.runner; lines = ls; ending = got.ending })
    (filter-append (λ l. not (is_ran l)) more got.lines)

-- A run of words,
module _ (n : ℕ) (v : FlashValue) (rest : (run : Running) (k : KernelState) (address : ℕ) → run_from n (untold v) run k address ≡ quietly (run_from n v run k address)) where
  from_quietly : (o : Option ℕ) (run : Running) (k : KernelState) (address : ℕ) → goes_from o (run_from n (untold v)) (untold v) run k address ≡ quietly (goes_from o (run_from n v) v run k address)
  from_quietly (Some unit) run k address = refl
  from_quietly None run k address = rest run k address

  in_quietly : (o : Option Running) (k : KernelState) (address : ℕ) → goes_in o (run_from n (untold v)) (untold v) k address ≡ quietly (goes_in o (run_from n v) v k address)
  in_quietly None k address = refl
  in_quietly (Some run) k address = from_quietly (unit_at v run.domain address) run k address

  by_quietly : (way : Way) (k : KernelState) → goes_by way (run_from n (untold v)) (untold v) k ≡ quietly (goes_by way (run_from n v) v k)
  by_quietly (Ends ending) k = refl
  by_quietly (Goes address) k = in_quietly k.running k address

  on_quietly : (r : Reached) → IsQuiet r.lines → goes_on r (run_from n (untold v)) (untold v) ≡ quietly (goes_on r (run_from n v) v)
  on_quietly r quiet =
      let got : WordsActed = goes_by r.way (run_from n v) v r.kernel in
      ap (λ (a : WordsActed). behind r.lines a) (by_quietly r.way r.kernel)
      ∙ ap (λ (ls : List TraceLine). behind ls (quietly got)) (sym quiet)
      ∙ sym (quietly_behind r.lines got)

run_quietly : (n : ℕ) (v : FlashValue) (run : Running) (k : KernelState) (address : ℕ) → run_from n (untold v) run k address ≡ quietly (run_from n v run k address)
run_quietly zero v run k address = refl
run_quietly (suc n) v run k address =
    let r : Reached = one_step v run k address in
    let got : WordsActed = goes_on r (run_from n v) v in
    let begun : List TraceLine = begun_lines v k address in
    let told : behind (without_ran begun) (quietly got) ≡ behind [] (quietly got) =
    ap (λ (ls : List TraceLine). behind ls (quietly got)) (none_begun v.tells v.flash (at_counter k.processor address)) in
    ap (λ (x : Reached). behind [] (goes_on x (run_from n (untold v)) (untold v))) (step_same v run k address)
    ∙ ap (λ (a : WordsActed). behind [] a) (on_quietly n v (λ run k address. run_quietly n v run k address) r (quiet_step v run k address))
    ∙ sym told
    ∙ sym (quietly_behind begun got)

by_quietly_all : (o : Option Running) (k : KernelState) (v : FlashValue) → words_by o k (untold v) ≡ quietly (words_by o k v)
by_quietly_all None k v = refl
by_quietly_all (Some run) k v = run_quietly instruction_limit v run k (entry_point v run.domain v.unit)

-- and so the unit.
pub acts_untold : TellingAddsLines
acts_untold k v = by_quietly_all k.running k v
