-- What each kernel call does. Its answer is in R25:R24; all other registers, SREG and SP stay.
use Rattle.std.specs.Prelude.{ℕ, ◌+◌, ◌%◌, ◌==◌, not, nat_lt, nat_le, List, [], ◌∷◌, length, Bool, true, false, Option, Some, None, if◌then◌else◌}
use Rattle.std.specs.List.{list_any}
use Rattle.mote_base.specs.Messages.{list_of, appended, queue_limit}
use Rattle.mote_base.specs.Timers.{timer_limit, is_of, started, without as without_timer}
use Rattle.mote_base.specs.declared.timer.Timer.{Timer}
use Rattle.mote_layout.specs.Memory.{kernel}
use Rattle.mote_layout.specs.Limits.{payload_limit}
use Rattle.mote_layout.specs.Blocks.{block_address, block_of, without, handed_over}
use Rattle.mote_layout.specs.Parcels.{Payload}
use Rattle.mote_layout.specs.Requests.{holds}
use Rattle.domain_model.specs.declared.handler.Running.{Running}
use Rattle.domain_model.specs.declared.fault.Rule.TheVariants as rule
use Rattle.domain_model.specs.declared.fault.Served.{Served}
use Rattle.domain_model.specs.declared.fault.Served.TheVariants.{Back, Fault}
use Rattle.domain_model.specs.declared.line.TraceLine.{TraceLine}
use Rattle.domain_model.specs.declared.line.TraceLine.TheVariants as line
use Rattle.domain_model.specs.State.{Message, Loaded, KernelState, register, pair, bytes_at, with_pair, with_processor}
use Rattle.domain_model.specs.Services.{Service, Malloc, Free, ChangeOwn, PostShort, PostLong, Take, TimerStart, TimerStop, Say, Clock, Send, MyId}
use Rattle.domain_model.specs.Modules.{id_at, is_loaded, module_named}
use Rattle.domain_model.specs.Payloads.{holds_bytes}
use Rattle.domain_model.specs.Given.{Given, given, with_given}

-- The kernel after a call, the lines that it wrote, and how it came back.
pub record Serving : Type 0 where
  pub kernel : KernelState
  pub lines : List TraceLine
  pub served : Served

abbrev pub comes_back : KernelState → List TraceLine → Serving
comes_back k lines = record { kernel = k; lines = lines; served = Back }

-- a block argument that isn't the caller's: the call changes nothing, and the fault tells the argument
abbrev pub not_owned : ℕ → KernelState → Serving
not_owned address k =
    record { kernel = k; lines = []; served = Fault (record { rule = rule.Owner; address = address }) }

-- with the answer in R25:R24
abbrev pub answered : KernelState → ℕ → KernelState
answered k answer = with_processor k (with_pair k.processor 24 answer)

-- `malloc` gives the caller a block for R25:R24 bytes and answers its address, or 0 where none is given.
abbrev pub malloc_given : Option Given → KernelState → KernelState
malloc_given None k = answered k 0
malloc_given (Some g) k = answered (with_given k g) g.address

abbrev pub malloc : KernelState → Running → KernelState
malloc k run = malloc_given (given k run.domain (pair k.processor 24)) k

-- `free` frees the caller's block that begins at R25:R24, and answers 0. The block keeps its bytes.
abbrev pub free_held : Bool → ℕ → KernelState → Serving
free_held false address k = not_owned address k
free_held true address k = comes_back (answered (record k { blocks = without (block_of address) k.blocks }) 0) []

abbrev pub free : KernelState → Running → Serving
free k run = free_held (holds k.blocks run.domain (pair k.processor 24)) (pair k.processor 24) k

-- `change_own` gives the caller's block that begins at R25:R24 to the module in R22 and answers 0, or answers 1 where
-- that isn't loaded. What is no block of the caller's is refused first.
abbrev pub changed_to : Option Loaded → ℕ → KernelState → KernelState
changed_to None address k = answered k 1
changed_to (Some owner) address k =
    answered (record k { blocks = handed_over (block_of address) owner.domain k.blocks }) 0

abbrev pub change_held : Bool → ℕ → KernelState → Serving
change_held false address k = not_owned address k
change_held true address k = comes_back (changed_to (module_named k.modules (register k.processor 22)) address k) []

abbrev pub change_own : KernelState → Running → Serving
change_own k run = change_held (holds k.blocks run.domain (pair k.processor 24)) (pair k.processor 24) k

-- The short message that the registers of a post ask for: to the module in R24, with the type in R22, the byte in
-- R20 and the word in R19:R18, by the high queue where bit 0 of R16 is set. The sender is the running module.
abbrev pub message_of : KernelState → Running → Message
message_of k run =
    record {
      to = register k.processor 24;
      from = id_at k.modules run.domain;
      sort = register k.processor 22;
      byte = register k.processor 20;
      word = pair k.processor 18;
      long = false;
      len = 0;
      load = None;
      high = register k.processor 16 % 2 == 1;
    }

-- `post_short` answers 2 where its receiver isn't loaded, else 1 where its queue is full, and else posts and answers 0.
abbrev pub post_where : Bool → Message → KernelState → KernelState
post_where true m k = answered (record k { queues = appended m.high m k.queues }) 0
post_where false m k = answered k 1

abbrev pub post_to : Bool → Message → KernelState → KernelState
post_to true m k = post_where (nat_lt (length (list_of m.high k.queues)) queue_limit) m k
post_to false m k = answered k 2

abbrev pub post_short : KernelState → Running → KernelState
post_short k run = post_to (is_loaded k.modules (message_of k run).to) (message_of k run) k

-- The long message that the registers of a post ask for, without its payload: it has as many bytes as R21:R20 says.
abbrev pub long_message_of : KernelState → Running → Message
long_message_of k run = record (message_of k run) { byte = 0; word = 0; long = true; len = pair k.processor 20 }

-- the message with its bytes in a block
abbrev pub carrying : Message → ℕ → Message
carrying m block = record m { load = Some (record { block = block; len = m.len }) }

-- `post_long` answers as `post_short` does. Where it posts, the caller's block that begins at R19:R18 is the message's
-- payload, and the kernel's; else it stays the caller's. A block that isn't the caller's or hasn't so many bytes is
-- refused first.
abbrev pub long_where : Bool → Message → ℕ → KernelState → KernelState
long_where true m address k =
    answered (record k {
      blocks = handed_over (block_of address) kernel k.blocks;
      queues = appended m.high (carrying m (block_of address)) k.queues;
    }) 0
long_where false m address k = answered k 1

abbrev pub long_to : Bool → Message → ℕ → KernelState → KernelState
long_to true m address k = long_where (nat_lt (length (list_of m.high k.queues)) queue_limit) m address k
long_to false m address k = answered k 2

abbrev pub long_held : Bool → Message → ℕ → KernelState → Serving
long_held false m address k = not_owned address k
long_held true m address k = comes_back (long_to (is_loaded k.modules m.to) m address k) []

abbrev pub post_long : KernelState → Running → Serving
post_long k run =
    long_held (holds_bytes k.blocks run.domain (pair k.processor 18) (pair k.processor 20)) (long_message_of k run) (pair k.processor 18) k

-- `take` gives the receiver of the message in hand its payload, where it has one that was not taken, and answers the
-- address. The message has none any more. Else `take` answers 0.
abbrev pub payload_taken : Option Payload → Message → Running → KernelState → KernelState
payload_taken None m run k = answered k 0
payload_taken (Some p) m run k =
    answered (record k { blocks = handed_over p.block run.domain k.blocks; hand = Some (record m { load = None }) }) (block_address p.block)

abbrev pub take_by : Bool → Message → Running → KernelState → KernelState
take_by true m run k = payload_taken m.load m run k
take_by false m run k = answered k 0

abbrev pub take_hand : Option Message → Running → KernelState → KernelState
take_hand None run k = answered k 0
take_hand (Some m) run k = take_by (m.to == id_at k.modules run.domain) m run k

abbrev pub take_payload : KernelState → Running → KernelState
take_payload k run = take_hand k.hand run k

-- The timer that the registers of a start ask for: with the id in R24, due after the ticks in R23:R22, and again each
-- time where R20 isn't 0. It is the running module's.
abbrev pub timer_of : KernelState → Running → Timer
timer_of k run =
    record {
      «module» = id_at k.modules run.domain;
      id = register k.processor 24;
      due = k.clock + pair k.processor 22;
      ticks = pair k.processor 22;
      again = not (register k.processor 20 == 0);
    }

-- `timer_start` answers 2 where the ticks are 0, else 1 where as many others run as may, and else starts the timer, in
-- the place of the module's with its id, and answers 0.
abbrev pub start_answer : Timer → List Timer → ℕ
start_answer t timers =
    if t.ticks == 0 then 2 else (if nat_lt (length (without_timer t.«module» t.id timers)) timer_limit then 0 else 1)

abbrev pub timer_start : KernelState → Running → KernelState
timer_start k run =
    answered (record k { timers = started (timer_of k run) k.timers }) (start_answer (timer_of k run) k.timers)

-- `timer_stop` stops the module's timer with the id in R24 and answers 0, or answers 1 where there is none.
abbrev pub stop_answer : Bool → ℕ
stop_answer true = 0
stop_answer false = 1

abbrev pub stopped_timer : ℕ → ℕ → KernelState → KernelState
stopped_timer «module» id k =
    answered (record k { timers = without_timer «module» id k.timers }) (stop_answer (list_any (is_of «module» id) k.timers))

abbrev pub timer_stop : KernelState → Running → KernelState
timer_stop k run = stopped_timer (id_at k.modules run.domain) (register k.processor 24) k

-- `send` writes a packet's line and answers 0: for R25:R24, of the type in R22, with as many bytes as R21:R20 says of
-- the caller's block that begins at R19:R18. The block stays. It answers 1 where they are too many for a packet. A
-- block that isn't the caller's or hasn't so many bytes is refused first.
abbrev pub send_within : Bool → KernelState → Running → Serving
send_within true k run =
    comes_back (answered k 0) (line.Send k.clock (id_at k.modules run.domain) (pair k.processor 24) (register k.processor 22)
    (bytes_at k.processor (pair k.processor 18) (pair k.processor 20)) ∷ [])
send_within false k run = comes_back (answered k 1) []

abbrev pub send_held : Bool → KernelState → Running → Serving
send_held false k run = not_owned (pair k.processor 18) k
send_held true k run = send_within (nat_le (pair k.processor 20) payload_limit) k run

abbrev pub send : KernelState → Running → Serving
send k run = send_held (holds_bytes k.blocks run.domain (pair k.processor 18) (pair k.processor 20)) k run

-- `say` writes the byte in R24 and answers 0.
abbrev pub say : KernelState → Running → Serving
say k run = comes_back (answered k 0) (line.Say k.clock (id_at k.modules run.domain) (register k.processor 24) ∷ [])

-- `clock` answers the clock modulo 65,536.
abbrev pub clock : KernelState → KernelState
clock k = answered k (k.clock % 65536)

-- `my_id` answers the running module's id.
abbrev pub my_id : KernelState → Running → KernelState
my_id k run = answered k (id_at k.modules run.domain)

-- A kernel call, by its service. A call of another number is never there.
abbrev pub serve : Option Service → Running → KernelState → Serving
serve (Some Malloc) run k = comes_back (malloc k run) []
serve (Some Free) run k = free k run
serve (Some ChangeOwn) run k = change_own k run
serve (Some PostShort) run k = comes_back (post_short k run) []
serve (Some PostLong) run k = post_long k run
serve (Some Take) run k = comes_back (take_payload k run) []
serve (Some TimerStart) run k = comes_back (timer_start k run) []
serve (Some TimerStop) run k = comes_back (timer_stop k run) []
serve (Some Say) run k = say k run
serve (Some Clock) run k = comes_back (clock k) []
serve (Some Send) run k = send k run
serve (Some MyId) run k = comes_back (my_id k run) []
serve None run k = comes_back k []
