-- What holds of each line of a dump.
use Rattle.std.proofs.Common.{◌≡◌, ℕ, zero, suc, ◌*◌, List, [], ◌∷◌, map, filter, Bool, true, false, refl, ap, Option, Some, None}
use Rattle.std.specs.List.{AllByRecursion}
use Rattle.mote_base.specs.declared.timer.Timer.{Timer}
use Rattle.mote_layout.specs.Memory.{block_bytes, domain_count}
use Rattle.mote_layout.specs.Blocks.{block_address}
use Rattle.mote_layout.specs.declared.segment.Segment.{Segment}
use Rattle.domain_model.specs.declared.line.TraceLine.{TraceLine}
use Rattle.domain_model.specs.declared.line.TraceLine.TheVariants as line
use Rattle.domain_model.specs.State.{Message, Loaded, KernelState, payload_address}
use Rattle.domain_model.specs.Modules.{module_at}
use Rattle.domain_model.specs.Dump.{module_line, module_lines, modules_dumped, block_line, message_line, timer_line, owner_told, dumped}
use Rattle.domain_model.proofs.Kept.{each_either}

-- It holds of the lines of all sorts that a dump has.
pub record HoldsOfDumps (P : TraceLine → Type 0) : Type 0 where
  pub first : (time : ℕ) → P (line.Dump time)
  pub modules : (id domain state : ℕ) → P (line.DumpModule id domain state)
  pub blocks : (address bytes : ℕ) (owner : Option ℕ) → P (line.DumpBlock address bytes owner)
  pub messages : (high : Bool) (from to sort address : ℕ) → P (line.DumpMsg high from to sort address)
  pub timers : («module» id due : ℕ) → P (line.DumpTimer «module» id due)
  pub last : P line.DumpEnd

module _ (P : TraceLine → Type 0) (h : HoldsOfDumps P) where
  one_line : (o : Option Loaded) → AllByRecursion P (module_line o)
  one_line None = tt
  one_line (Some m) = (h.modules m.face.id m.domain m.state, tt)

  domain_lines : (modules : List Loaded) (domain count : ℕ) → AllByRecursion P (module_lines modules domain count)
  domain_lines modules domain zero = tt
  domain_lines modules domain (suc count) =
      each_either P (module_line (module_at modules domain)) (module_lines modules (suc domain) count) (one_line (module_at modules domain)) (domain_lines modules (suc domain) count)

  all_modules : (modules : List Loaded) → AllByRecursion P (modules_dumped modules)
  unfolding modules_dumped
  all_modules modules = domain_lines modules 0 domain_count

  block_lines : (modules : List Loaded) (blocks : List Segment) → AllByRecursion P (map (block_line modules) blocks)
  block_lines modules [] = tt
  block_lines modules (b ∷ bs) = (h.blocks (block_address b.first) (block_bytes * b.count) (owner_told modules b.owner), block_lines modules bs)

  message_lines : (high : Bool) (ms : List Message) → AllByRecursion P (map (message_line high) ms)
  message_lines high [] = tt
  message_lines high (m ∷ ms) = (h.messages high m.from m.to m.sort (payload_address m.load), message_lines high ms)

  timer_lines : (ts : List Timer) → AllByRecursion P (map timer_line ts)
  timer_lines [] = tt
  timer_lines (t ∷ ts) = (h.timers t.«module» t.id t.due, timer_lines ts)

  pub each_dumped : (k : KernelState) → AllByRecursion P (dumped k)
  each_dumped k = (
    h.first k.clock,
    each_either P _ (line.DumpEnd ∷ [])
        (each_either P _ (map timer_line k.timers)
        (each_either P _ (map (message_line false) k.queues.low)
        (each_either P _ (map (message_line true) k.queues.high)
        (each_either P (modules_dumped k.modules) (map (block_line k.modules) k.blocks) (all_modules k.modules) (block_lines k.modules k.blocks))
        (message_lines true k.queues.high)) (message_lines false k.queues.low)) (timer_lines k.timers)) (h.last, tt),
  )

-- What a test lets pass everywhere, a filter keeps.
pub filter_all : {X : Type 0} (test : X → Bool) (xs : List X) → AllByRecursion (λ x. test x ≡ true) xs → filter test xs ≡ xs
filter_all test [] h = refl
filter_all test (x ∷ xs) h = rw h.0 (ap (λ ys. x ∷ ys) (filter_all test xs h.1))
