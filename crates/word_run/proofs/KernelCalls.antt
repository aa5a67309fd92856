-- Kernel calls: none looks at a dead byte of the stack.
use Rattle.std.proofs.Common.{◌≡◌, ◌∙◌, ℕ, ◌+◌, ◌-◌, ◌*◌, ◌<◌, ◌≤◌, ◌==◌, Bool, true, false, List, [], ◌∷◌, length, take, drop, Option, None, Some, refl, sym, ap, subst, arith}
use Rattle.std.specs.Prelude.{nat_le, nat_lt, slice_index}
use Rattle.std.proofs.lemmas.List.{append-nil, ext_get_or, get_or-drop, get_or-take, length-drop, length-take-le}
use Rattle.avr_machine.specs.Processor.{lowered}
use Rattle.mote_base.specs.Messages.{list_of, queue_limit}
use Rattle.mote_layout.specs.Memory.{block_bytes, heap_start, ram_bytes, ram_start, red_zone_start}
use Rattle.mote_layout.specs.Limits.{payload_limit}
use Rattle.mote_layout.specs.Blocks.{AreBlocks}
use Rattle.mote_layout.specs.Fit.{blocks_for}
use Rattle.mote_layout.specs.Parcels.{Payload}
use Rattle.mote_layout.specs.Requests.{address_for, holds}
use Rattle.mote_layout.specs.declared.page.Entry.TheVariants.{Kernel}
use Rattle.mote_layout.proofs.Beginnings.{begins_at}
use Rattle.unit_code.specs.declared.unit.Unit.TheVariants.{KernelCall}
use Rattle.domain_model.specs.declared.fault.Served.{Served}
use Rattle.domain_model.specs.declared.fault.Served.TheVariants as served
use Rattle.domain_model.specs.declared.fault.UnitEnd.TheVariants.{Fault}
use Rattle.domain_model.specs.declared.handler.Running.{Running}
use Rattle.domain_model.specs.declared.line.TraceLine.TheVariants as line
use Rattle.domain_model.specs.State.{Message, Loaded, KernelState, pair, register}
use Rattle.domain_model.specs.Services.{Service, Malloc, Free, ChangeOwn, PostShort, PostLong, Take, TimerStart, TimerStop, Say, Clock, Send, MyId, service_of}
use Rattle.domain_model.specs.Modules.{id_at, is_loaded, module_named}
use Rattle.domain_model.specs.Given.{given_at}
use Rattle.domain_model.specs.Payloads.{holds_bytes}
use Rattle.domain_model.specs.Calls.{Serving, change_held, changed_to, comes_back, free_held, long_held, long_message_of, long_to, long_where, malloc_given, message_of, payload_taken, post_to, post_where, send_held, send_within, serve, take_by, take_hand}
use Rattle.domain_model.specs.Act.{act_served, act_unit}
use Rattle.domain_model.specs.Free.{with_memory}
use Rattle.domain_model.specs.Runners.{without_ran}
use Rattle.domain_model.proofs.BlockLaws.{bytes_held, holds_bytes-true, is_placed}
use Rattle.word_run.specs.FlashValue.{FlashValue, part, starts_of, entry_point}
use Rattle.word_run.specs.Entries.{Ends, Goes, Reached, call_served, served_way}
use Rattle.word_run.proofs.Guarded.{back_in, back_processor, behind_call, call_but, called_entry, in_stack, on_stack}
use Rattle.word_run.proofs.Loads.{pushed_other}
use Rattle.word_run.proofs.Moves.{call_step}
use Rattle.word_run.proofs.Same.{IsBut, Meets, dead_free, free_of, like_met, same_but}
use Rattle.word_run.proofs.Setting.{Setting, laid, lands_next, start}
use Rattle.word_run.proofs.Steps.{Steps, ends, halts, turned}
use Rattle.word_run.proofs.Zeros.{but_zeros}

-- The same call from a kernel with other free bytes.
record IsAlike (free : ℕ → Bool) (k : KernelState) (m : List ℕ) (want got : Serving) : Type 0 where
  kernel : got.kernel ≡ with_memory want.kernel got.kernel.processor.memory
  memory : IsBut free want.kernel.processor.memory got.kernel.processor.memory
  lines : got.lines ≡ want.lines
  served : got.served ≡ want.served
  running : got.kernel.running ≡ k.running
  sp : want.kernel.processor.sp ≡ k.processor.sp

-- that leaves the memory as it is
left : (free : ℕ → Bool) (k : KernelState) (m : List ℕ) (want got : Serving) → IsBut free k.processor.memory m → got.kernel ≡ with_memory want.kernel m → want.kernel.processor.memory ≡ k.processor.memory → got.lines ≡ want.lines → got.served ≡ want.served
    → want.kernel.running ≡ k.running → want.kernel.processor.sp ≡ k.processor.sp → IsAlike free k m want got
left free k m want got but kernel memory lines served running sp =
    let is : got.kernel.processor.memory ≡ m = ap (λ (x : KernelState). x.processor.memory) kernel in
    let P : List ℕ → Type 0 = λ xs. IsBut free xs got.kernel.processor.memory in
    let Q : List ℕ → Type 0 = λ xs. IsBut free k.processor.memory xs in
    record {
      kernel = kernel ∙ ap (with_memory want.kernel) (sym is);
      memory = subst P (sym memory) (subst Q (sym is) but);
      lines = lines;
      served = served;
      running = ap (λ (x : KernelState). x.running) kernel ∙ running;
      sp = sp;
    }

-- equal lists from equal places
bytes_alike : (xs ys : List ℕ) (place n : ℕ) → length xs ≡ length ys → place + n ≤ length xs → ((j : ℕ) → place ≤ j → j < place + n → slice_index xs j ≡ slice_index ys j) → take n (drop place xs) ≡ take n (drop place ys)
bytes_alike xs ys place n long fits same =
    let left_xs = length-drop place xs in
    let left_ys = length-drop place ys in
    let one = length-take-le n (drop place xs) (omega (arith, left_xs, fits)) in
    let two = length-take-le n (drop place ys) (omega (arith, left_ys, fits, long)) in
    ext_get_or 0 (take n (drop place xs)) (take n (drop place ys)) (one ∙ sym two) (λ i below.
    let inside : i < n = omega (arith, below, one) in
    get_or-take n (drop place xs) i 0 inside ∙ get_or-drop place xs i 0 ∙ same (place + i) (omega arith) (omega (arith, inside)) ∙ sym (get_or-drop place ys i 0) ∙ sym (get_or-take n (drop place ys) i 0 inside))

module _ (free : ℕ → Bool) (run : Running) (k : KernelState) (m : List ℕ) (but : IsBut free k.processor.memory m) (blocks : AreBlocks k.blocks) (whole : length k.processor.memory ≡ ram_bytes) (heap : (a : ℕ) → heap_start ≤ a → a < red_zone_start → slice_index m (a - ram_start) ≡ slice_index k.processor.memory (a - ram_start)) where
  malloc_alike : (o : Option ℕ) (size : ℕ) → address_for k.blocks size ≡ o
      → IsAlike free k m (comes_back (malloc_given (given_at o k run.domain size) k) []) (comes_back (malloc_given (given_at o (with_memory k m) run.domain size) (with_memory k m)) [])
  malloc_alike None size is = left free k m _ _ but refl refl refl refl refl refl
  malloc_alike (Some address) size is =
      let at = is_placed k.blocks size address is in
      let start_of = at.address_of in
      let fits = at.least.fits.0 in
      let inside : address - ram_start + block_bytes * blocks_for size ≤ length k.processor.memory = omega (arith, start_of, fits, whole) in
      record {
        kernel = refl;
        memory = but_zeros free k.processor.memory m (address - ram_start) (block_bytes * blocks_for size) inside but;
        lines = refl;
        served = refl;
        running = refl;
        sp = refl;
      }

  free_alike : (b : Bool) (address : ℕ) → IsAlike free k m (free_held b address k) (free_held b address (with_memory k m))
  free_alike true address = left free k m _ _ but refl refl refl refl refl refl
  free_alike false address = left free k m _ _ but refl refl refl refl refl refl

  changed_alike : (o : Option Loaded) (address : ℕ) → IsAlike free k m (comes_back (changed_to o address k) []) (comes_back (changed_to o address (with_memory k m)) [])
  changed_alike None address = left free k m _ _ but refl refl refl refl refl refl
  changed_alike (Some owner) address = left free k m _ _ but refl refl refl refl refl refl

  change_alike : (b : Bool) (address : ℕ) → IsAlike free k m (change_held b address k) (change_held b address (with_memory k m))
  change_alike true address = changed_alike (module_named k.modules (register k.processor 22)) address
  change_alike false address = left free k m _ _ but refl refl refl refl refl refl

  where_alike : (b : Bool) (x : Message) → IsAlike free k m (comes_back (post_where b x k) []) (comes_back (post_where b x (with_memory k m)) [])
  where_alike true x = left free k m _ _ but refl refl refl refl refl refl
  where_alike false x = left free k m _ _ but refl refl refl refl refl refl

  to_alike : (b : Bool) (x : Message) → IsAlike free k m (comes_back (post_to b x k) []) (comes_back (post_to b x (with_memory k m)) [])
  to_alike true x = where_alike (nat_lt (length (list_of x.high k.queues)) queue_limit) x
  to_alike false x = left free k m _ _ but refl refl refl refl refl refl

  long_where_alike : (b : Bool) (x : Message) (address : ℕ) → IsAlike free k m (comes_back (long_where b x address k) []) (comes_back (long_where b x address (with_memory k m)) [])
  long_where_alike true x address = left free k m _ _ but refl refl refl refl refl refl
  long_where_alike false x address = left free k m _ _ but refl refl refl refl refl refl

  long_to_alike : (b : Bool) (x : Message) (address : ℕ) → IsAlike free k m (comes_back (long_to b x address k) []) (comes_back (long_to b x address (with_memory k m)) [])
  long_to_alike true x address = long_where_alike (nat_lt (length (list_of x.high k.queues)) queue_limit) x address
  long_to_alike false x address = left free k m _ _ but refl refl refl refl refl refl

  long_alike : (b : Bool) (x : Message) (address : ℕ) → IsAlike free k m (long_held b x address k) (long_held b x address (with_memory k m))
  long_alike true x address = long_to_alike (is_loaded k.modules x.to) x address
  long_alike false x address = left free k m _ _ but refl refl refl refl refl refl

  taken_alike : (o : Option Payload) (x : Message) → IsAlike free k m (comes_back (payload_taken o x run k) []) (comes_back (payload_taken o x run (with_memory k m)) [])
  taken_alike None x = left free k m _ _ but refl refl refl refl refl refl
  taken_alike (Some p) x = left free k m _ _ but refl refl refl refl refl refl

  take_by_alike : (b : Bool) (x : Message) → IsAlike free k m (comes_back (take_by b x run k) []) (comes_back (take_by b x run (with_memory k m)) [])
  take_by_alike true x = taken_alike x.load x
  take_by_alike false x = left free k m _ _ but refl refl refl refl refl refl

  take_alike : (o : Option Message) → IsAlike free k m (comes_back (take_hand o run k) []) (comes_back (take_hand o run (with_memory k m)) [])
  take_alike None = left free k m _ _ but refl refl refl refl refl refl
  take_alike (Some x) = take_by_alike (x.to == id_at k.modules run.domain) x

  -- the bytes that are sent are the caller's
  within_alike : (b : Bool) → holds_bytes k.blocks run.domain (pair k.processor 18) (pair k.processor 20) ≡ true → IsAlike free k m (send_within b k run) (send_within b (with_memory k m) run)
  within_alike false own = left free k m _ _ but refl refl refl refl refl refl
  within_alike true own =
      let address = pair k.processor 18 in
      let n = pair k.processor 20 in
      let held = bytes_held k.blocks run.domain address n ((holds_bytes-true k.blocks run.domain address n).0 own) in
      let at = begins_at k.blocks address held.segment blocks held.begins in
      let first = at.address in
      let fits = at.fits.2 in
      let room = held.room in
      let long = but.same_length in
      let sent : take n (drop (address - ram_start) m) ≡ take n (drop (address - ram_start) k.processor.memory)
      = bytes_alike m k.processor.memory (address - ram_start) n long (omega (arith, first, fits, room, long, whole)) (λ j from below.
      let e : j + ram_start - ram_start ≡ j = omega arith in
      let P : ℕ → Type 0 = λ i. slice_index m i ≡ slice_index k.processor.memory i in
      subst P e (heap (j + ram_start) (omega (arith, first, from)) (omega (arith, first, fits, room, from, below)))) in
      left free k m _ _ but refl refl
      (ap (λ bytes. line.Send k.clock (id_at k.modules run.domain) (pair k.processor 24) (register k.processor 22) bytes ∷ []) sent) refl refl refl

  send_alike : (b : Bool) → holds_bytes k.blocks run.domain (pair k.processor 18) (pair k.processor 20) ≡ b → IsAlike free k m (send_held b k run) (send_held b (with_memory k m) run)
  send_alike true own = within_alike (nat_le (pair k.processor 20) payload_limit) own
  send_alike false own = left free k m _ _ but refl refl refl refl refl refl

  serve_alike : (f : Option Service) → IsAlike free k m (serve f run k) (serve f run (with_memory k m))
  serve_alike (Some Malloc) = malloc_alike (address_for k.blocks (pair k.processor 24)) (pair k.processor 24) refl
  serve_alike (Some Free) = free_alike (holds k.blocks run.domain (pair k.processor 24)) (pair k.processor 24)
  serve_alike (Some ChangeOwn) = change_alike (holds k.blocks run.domain (pair k.processor 24)) (pair k.processor 24)
  serve_alike (Some PostShort) = to_alike (is_loaded k.modules (message_of k run).to) (message_of k run)
  serve_alike (Some PostLong) = long_alike (holds_bytes k.blocks run.domain (pair k.processor 18) (pair k.processor 20)) (long_message_of k run) (pair k.processor 18)
  serve_alike (Some Take) = take_alike k.hand
  serve_alike (Some TimerStart) = left free k m _ _ but refl refl refl refl refl refl
  serve_alike (Some TimerStop) = left free k m _ _ but refl refl refl refl refl refl
  serve_alike (Some Say) = left free k m _ _ but refl refl refl refl refl refl
  serve_alike (Some Clock) = left free k m _ _ but refl refl refl refl refl refl
  serve_alike (Some Send) = send_alike (holds_bytes k.blocks run.domain (pair k.processor 18) (pair k.processor 20)) refl
  serve_alike (Some MyId) = left free k m _ _ but refl refl refl refl refl refl
  serve_alike None = left free k m _ _ but refl refl refl refl refl refl

module _ (may : ℕ → Type 0) (v : FlashValue) (run : Running) (k : KernelState) (n : ℕ) (s : Setting v run k (KernelCall n)) (blocks : AreBlocks k.blocks) (more : v.unit + 1 < length (starts_of v run.domain)) (dead : (a : ℕ) → red_zone_start ≤ a → a ≤ k.processor.sp → may a) where
  heap_same : (a : ℕ) → heap_start ≤ a → a < red_zone_start → slice_index (back_processor v run k).memory (a - ram_start) ≡ slice_index k.processor.memory (a - ram_start)
  heap_same a from below =
      let low = s.floor in
      let base = s.base in
      let top = s.top in
      let down : lowered k.processor.sp ≡ k.processor.sp - 1 = omega (arith, low, base, top) in
      pushed_other k.processor.memory k.processor.sp (behind_call v run) (a - ram_start) (omega (arith, from, below, low)) (omega (arith, from, below, low, down))

  alike : (free : ℕ → Bool) → ((y : ℕ) → red_zone_start ≤ y → y ≤ k.processor.sp → free y ≡ true) → IsAlike free k (back_processor v run k).memory (serve (service_of n) run k) (serve (service_of n) run (back_in v run k))
  alike free open_to =
      serve_alike free run k (back_processor v run k).memory (call_but v run k (KernelCall n) s free open_to) blocks s.processor.memory heap_same (service_of n)

  -- SP stays
  sp_same : (serve (service_of n) run k).kernel.processor.sp ≡ k.processor.sp
  sp_same = (alike (λ y. true) (λ y above below. refl)).sp

  step : Steps may v run k (entry_point v run.domain v.unit) (call_served (serve (service_of n) run (back_in v run k)) (behind_call v run))
  step =
      let l = laid v run k (KernelCall n) s in
      call_step may v run k (start v run) (Kernel n) l.behind (call_served (serve (service_of n) run (back_in v run k)) (behind_call v run)) s.in_bank l.stand s.kind (on_stack v run k (KernelCall n) s) dead
      (called_entry may (Kernel n) v run k (behind_call v run) _ (λ c. refl) (λ c st can. (st, can)) refl (in_stack v run k (KernelCall n) s) tt (λ a c ret w. absurd w))

  by_served : (d : Served) → (serve (service_of n) run k).served ≡ d → without_ran (serve (service_of n) run k).lines ≡ (serve (service_of n) run k).lines → Meets may (act_served d (serve (service_of n) run k) (part v)) v run k
  by_served served.Back e quiet =
      let want_s = serve (service_of n) run k in
      let got_s = serve (service_of n) run (back_in v run k) in
      let any = alike (λ y. true) (λ y above below. refl) in
      let way : served_way got_s.served (behind_call v run) ≡ Goes (behind_call v run) = ap (λ d. served_way d (behind_call v run)) (any.served ∙ e) in
      let to : Reached = record { kernel = got_s.kernel; lines = got_s.lines; way = Goes (behind_call v run) } in
      let wanted = act_served served.Back want_s (part v) in
      let sp = sp_same in
      like_met may wanted v run k _
      (ends may 3 v run k (entry_point v run.domain v.unit) run got_s.kernel (behind_call v run) got_s.lines
      (turned step to (ap (λ w. record { kernel = got_s.kernel; lines = got_s.lines; way = w }) way)) (any.running ∙ s.in_bank.running) s.in_bank.below (v.unit + 1)
      (lands_next v run k (KernelCall n) s more))
      (λ enters.
      let free = free_of k wanted enters in
      let same = alike free (λ y above below. dead_free k wanted enters y above (omega (arith, sp, below))) in
      record {
        kernel = record { rest = same.kernel; memory = same_but free _ _ same.memory };
        runner = refl;
        lines = append-nil (without_ran got_s.lines) ∙ ap without_ran any.lines ∙ quiet;
        ending = refl;
      })
  by_served (served.Fault note) e quiet =
      let want_s = serve (service_of n) run k in
      let got_s = serve (service_of n) run (back_in v run k) in
      let any = alike (λ y. true) (λ y above below. refl) in
      let way : served_way got_s.served (behind_call v run) ≡ Ends (Fault note) = ap (λ d. served_way d (behind_call v run)) (any.served ∙ e) in
      let to : Reached = record { kernel = got_s.kernel; lines = got_s.lines; way = Ends (Fault note) } in
      let wanted = act_served (served.Fault note) want_s (part v) in
      like_met may wanted v run k _
      (halts may 3 v run k (entry_point v run.domain v.unit) got_s.kernel got_s.lines (Fault note)
      (turned step to (ap (λ w. record { kernel = got_s.kernel; lines = got_s.lines; way = w }) way)))
      (λ enters.
      let free = free_of k wanted enters in
      let same = alike free (λ y above below. dead_free k wanted enters y above below) in
      record {
        kernel = record { rest = same.kernel; memory = same_but free _ _ same.memory };
        runner = refl;
        lines = append-nil (without_ran got_s.lines) ∙ ap without_ran any.lines ∙ quiet;
        ending = refl;
      })

  lines_served : (d : Served) → (act_served d (serve (service_of n) run k) (part v)).lines ≡ (serve (service_of n) run k).lines
  lines_served served.Back = refl
  lines_served (served.Fault note) = refl

  pub kernel_unit : without_ran (act_unit (KernelCall n) run k (part v)).lines ≡ (act_unit (KernelCall n) run k (part v)).lines → Meets may (act_unit (KernelCall n) run k (part v)) v run k
  kernel_unit quiet =
      let same = lines_served (serve (service_of n) run k).served in
      by_served (serve (service_of n) run k).served refl (ap without_ran (sym same) ∙ quiet ∙ same)
