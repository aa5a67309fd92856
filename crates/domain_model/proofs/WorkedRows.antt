-- Worked runs, computed by the definitions alone: images, scripts, and the lines that are to come.
use Rattle.std.proofs.Common.{◌≡◌, ℕ, zero, suc, refl, List, [], ◌∷◌, ◌++◌, replicate, Bool, true, false, None, Ok}
use Rattle.avr_isa.specs.declared.instruction.Instr.TheVariants as instr
use Rattle.avr_machine.specs.Effect.{writes}
use Rattle.avr_machine.specs.DataRead.{data_read}
use Rattle.avr_alu.specs.Bits.{is_set}
use Rattle.avr_alu.specs.Flags.{flags_of, sreg_of, with_result, with_byte}
use Rattle.avr_alu.specs.Signed.{signed, leaves_byte}
use Rattle.avr_alu.specs.Sum.{sub_value, sub_flags}
use Rattle.avr_alu.specs.One.{one_value, one_flags}
use Rattle.domain_model.specs.Dump.{modules_dumped}
use Rattle.avr_machine.specs.Modes.{store_address, load_address}
use Rattle.avr_machine.specs.Processor.{no_memory}
use Rattle.mote_layout.specs.Fit.{fit}
use Rattle.mote_layout.specs.Page.{page}
use Rattle.unit_code.specs.declared.unit.Unit.{Unit}
use Rattle.unit_code.specs.declared.unit.Unit.TheVariants as unit
use Rattle.module_image.specs.declared.face.Face.{Face}
use Rattle.module_image.specs.declared.face.Provided.{Provided}
use Rattle.module_image.specs.declared.face.Subscribed.{Subscribed}
use Rattle.domain_model.specs.declared.event.LoaderEvent.{LoaderEvent}
use Rattle.domain_model.specs.declared.event.LoaderOrder.TheVariants as order
use Rattle.domain_model.specs.declared.fault.Rule.TheVariants as rule
use Rattle.domain_model.specs.declared.line.Why.TheVariants as why
use Rattle.domain_model.specs.declared.line.TraceLine.{TraceLine}
use Rattle.domain_model.specs.declared.line.TraceLine.TheVariants as line
use Rattle.domain_model.specs.Prepared.{Module, Prep}
use Rattle.domain_model.specs.State.{State, begins}
use Rattle.domain_model.specs.Act.{act}
use Rattle.domain_model.specs.Turn.{Made, made, choice}

abbrev step : State → Made
step s = made (choice s) s (act s.kernel s.runner)

abbrev run_on : ℕ → State → List TraceLine
run_on zero s = []
run_on (suc n) s = (step s).lines ++ run_on n (step s).state

abbrev proto : List ℕ
proto = 105 ∷ 118 ∷ 48 ∷ 48 ∷ []

abbrev face : ℕ → List Provided → List Subscribed → Face
face id ps ss = record { id = id; provided = record { items = ps }; subscribed = record { items = ss } }

abbrev load_at : ℕ → ℕ → LoaderEvent
load_at time image = record { time = time; what = order.Load image }

abbrev begin_with : List Prep → List LoaderEvent → ℕ → State
begin_with images events handler =
    let s : State = begins images [] events 1000000 handler in
    record s { kernel = record s.kernel { processor = record s.kernel.processor { memory = replicate 300 0 } } }

abbrev plain : Face → List ℕ → List Unit → Module
plain f entries units = record { face = f; state_size = 0; handler = 0; entries = entries; units = units; constants = []; sealed = false }

abbrev module_f : Module
module_f = plain (face 2 (record { func = 1; proto = proto; word = 1 } ∷ []) []) (1 ∷ []) (unit.Return ∷ unit.Pop 16 ∷ unit.Return ∷ [])

abbrev module_g : List ℕ → Module
module_g wants = plain (face 1 [] (record { «module» = 2; func = 1; proto = wants } ∷ [])) [] (unit.SlotCall 0 ∷ unit.Return ∷ [])

abbrev with_constants : List ℕ → Bool → List Unit → Module
with_constants bytes sealed units = record { face = face 1 [] []; state_size = 0; handler = 0; entries = []; units = units; constants = bytes; sealed = sealed }

row_10 : run_on 8 (begin_with (Ok module_f ∷ Ok (module_g proto) ∷ []) (load_at 0 0 ∷ load_at 0 1 ∷ []) 10000) ≡ line.Load 0 2 0 0 ∷ line.Run 0 2 0 0 ∷ line.Done 0 2 ∷ line.Load 1 1 1 0 ∷ line.Run 1 1 0 0 ∷ line.Call 1 1 0 2 1 ∷ line.Fault 2 rule.StackUnder 2 1 0x10FD ∷ line.Unload 2 2 ∷ line.EndIdle 3 ∷ []
unfolding writes store_address load_address no_memory fit page data_read is_set flags_of sreg_of with_result with_byte signed leaves_byte sub_value sub_flags modules_dumped mathlib.Core.Bool.xor
row_10 = refl

row_16 : run_on 8 (begin_with (Ok module_f ∷ Ok (module_g (105 ∷ 118 ∷ 48 ∷ 49 ∷ [])) ∷ []) (load_at 0 0 ∷ load_at 0 1 ∷ []) 10000) ≡ line.Load 0 2 0 0 ∷ line.Run 0 2 0 0 ∷ line.Done 0 2 ∷ line.Load 1 1 1 0 ∷ line.Run 1 1 0 0 ∷ line.Unbound 1 1 0 ∷ line.Done 2 1 ∷ line.EndIdle 3 ∷ []
unfolding writes store_address load_address no_memory fit page data_read is_set flags_of sreg_of with_result with_byte signed leaves_byte sub_value sub_flags modules_dumped mathlib.Core.Bool.xor
row_16 = refl

row_icall : run_on 4 (begin_with (Ok (plain (face 1 [] []) [] (unit.SlotIndirect ∷ unit.Return ∷ [])) ∷ []) (load_at 0 0 ∷ []) 10000) ≡ line.Load 0 1 0 0 ∷ line.Run 0 1 0 0 ∷ line.Fault 0 rule.Target 1 0 0 ∷ line.Unload 0 1 ∷ line.EndIdle 1 ∷ []
unfolding writes store_address load_address no_memory fit page data_read is_set flags_of sreg_of with_result with_byte signed leaves_byte sub_value sub_flags modules_dumped mathlib.Core.Bool.xor
row_icall = refl

row_depth : run_on 40 (begin_with (Ok (plain (face 1 [] []) [] (unit.LocalCall 0 ∷ unit.Return ∷ [])) ∷ []) (load_at 0 0 ∷ []) 10000) ≡ line.Load 0 1 0 0 ∷ line.Run 0 1 0 0 ∷ line.Fault 32 rule.Depth 1 0 0x10BF ∷ line.Unload 32 1 ∷ line.EndIdle 33 ∷ []
unfolding writes store_address load_address no_memory fit page data_read is_set flags_of sreg_of with_result with_byte signed leaves_byte sub_value sub_flags modules_dumped mathlib.Core.Bool.xor
row_depth = refl

row_self : run_on 6 (begin_with (Ok (plain (face 1 (record { func = 1; proto = proto; word = 3 } ∷ []) (record { «module» = 1; func = 1; proto = proto } ∷ [])) (2 ∷ []) (unit.SlotCall 0 ∷ unit.Return ∷ unit.Return ∷ [])) ∷ []) (load_at 0 0 ∷ []) 10000) ≡ line.Load 0 1 0 0 ∷ line.Run 0 1 0 0 ∷ line.Call 0 1 0 1 1 ∷ line.Done 2 1 ∷ line.EndIdle 3 ∷ []
unfolding writes store_address load_address no_memory fit page data_read is_set flags_of sreg_of with_result with_byte signed leaves_byte sub_value sub_flags modules_dumped mathlib.Core.Bool.xor
row_self = refl

row_f200 : run_on 6 (begin_with (Ok (plain (face 1 [] []) [] (unit.Plain (instr.Ldi 30 0) ∷ unit.Plain (instr.Ldi 31 242) ∷ unit.SlotIndirect ∷ unit.Return ∷ [])) ∷ []) (load_at 0 0 ∷ []) 10000) ≡ line.Load 0 1 0 0 ∷ line.Run 0 1 0 0 ∷ line.Unbound 2 1 0 ∷ line.Done 3 1 ∷ line.EndIdle 4 ∷ []
unfolding writes store_address load_address no_memory fit page data_read is_set flags_of sreg_of with_result with_byte signed leaves_byte sub_value sub_flags modules_dumped mathlib.Core.Bool.xor
row_f200 = refl

row_f20f : run_on 6 (begin_with (Ok (plain (face 1 [] []) [] (unit.Plain (instr.Ldi 30 15) ∷ unit.Plain (instr.Ldi 31 242) ∷ unit.SlotIndirect ∷ unit.Return ∷ [])) ∷ []) (load_at 0 0 ∷ []) 10000) ≡ line.Load 0 1 0 0 ∷ line.Run 0 1 0 0 ∷ line.Unbound 2 1 15 ∷ line.Done 3 1 ∷ line.EndIdle 4 ∷ []
unfolding writes store_address load_address no_memory fit page data_read is_set flags_of sreg_of with_result with_byte signed leaves_byte sub_value sub_flags modules_dumped mathlib.Core.Bool.xor
row_f20f = refl

row_f1ff : run_on 6 (begin_with (Ok (plain (face 1 [] []) [] (unit.Plain (instr.Ldi 30 255) ∷ unit.Plain (instr.Ldi 31 241) ∷ unit.SlotIndirect ∷ unit.Return ∷ [])) ∷ []) (load_at 0 0 ∷ []) 10000) ≡ line.Load 0 1 0 0 ∷ line.Run 0 1 0 0 ∷ line.Fault 2 rule.Target 1 2 0xF1FF ∷ line.Unload 2 1 ∷ line.EndIdle 3 ∷ []
unfolding writes store_address load_address no_memory fit page data_read is_set flags_of sreg_of with_result with_byte signed leaves_byte sub_value sub_flags modules_dumped mathlib.Core.Bool.xor
row_f1ff = refl

row_f210 : run_on 6 (begin_with (Ok (plain (face 1 [] []) [] (unit.Plain (instr.Ldi 30 16) ∷ unit.Plain (instr.Ldi 31 242) ∷ unit.SlotIndirect ∷ unit.Return ∷ [])) ∷ []) (load_at 0 0 ∷ []) 10000) ≡ line.Load 0 1 0 0 ∷ line.Run 0 1 0 0 ∷ line.Fault 2 rule.Target 1 2 0xF210 ∷ line.Unload 2 1 ∷ line.EndIdle 3 ∷ []
unfolding writes store_address load_address no_memory fit page data_read is_set flags_of sreg_of with_result with_byte signed leaves_byte sub_value sub_flags modules_dumped mathlib.Core.Bool.xor
row_f210 = refl

row_constants : run_on 8 (begin_with (Ok (with_constants (65 ∷ 66 ∷ 67 ∷ []) false (unit.Plain (instr.Movw 30 20) ∷ unit.Plain (instr.LddZ 24 1) ∷ unit.KernelCall 8 ∷ unit.Return ∷ [])) ∷ []) (load_at 0 0 ∷ record { time = 0; what = order.Dump } ∷ record { time = 9; what = order.Unload 1 } ∷ record { time = 9; what = order.Dump } ∷ []) 10000) ≡ line.Load 0 1 0 0 ∷ line.Run 0 1 0 0 ∷ line.Say 2 1 66 ∷ line.Done 3 1 ∷ line.Dump 4 ∷ line.DumpModule 1 0 0 ∷ line.DumpBlock 0x200 8 None ∷ line.DumpEnd ∷ line.Run 9 1 1 0 ∷ []
unfolding writes store_address load_address no_memory fit page data_read is_set flags_of sreg_of with_result with_byte signed leaves_byte sub_value sub_flags modules_dumped mathlib.Core.Bool.xor
row_constants = refl

row_constants_end : run_on 19 (begin_with (Ok (with_constants (65 ∷ 66 ∷ 67 ∷ []) false (unit.Plain (instr.Movw 30 20) ∷ unit.Plain (instr.LddZ 24 1) ∷ unit.KernelCall 8 ∷ unit.Return ∷ [])) ∷ []) (load_at 0 0 ∷ record { time = 9; what = order.Unload 1 } ∷ record { time = 9; what = order.Dump } ∷ []) 10000) ≡ line.Load 0 1 0 0 ∷ line.Run 0 1 0 0 ∷ line.Say 2 1 66 ∷ line.Done 3 1 ∷ line.Run 9 1 1 0 ∷ line.Say 11 1 66 ∷ line.Done 12 1 ∷ line.Unload 12 1 ∷ line.Dump 13 ∷ line.DumpEnd ∷ line.EndIdle 13 ∷ []
unfolding writes store_address load_address no_memory fit page data_read is_set flags_of sreg_of with_result with_byte signed leaves_byte sub_value sub_flags modules_dumped mathlib.Core.Bool.xor
row_constants_end = refl

row_sealed : run_on 4 (begin_with (Ok (with_constants [] true (unit.Load (instr.Lds 24 0x300) ∷ unit.Return ∷ [])) ∷ []) (load_at 0 0 ∷ []) 10000) ≡ line.Load 0 1 0 0 ∷ line.Run 0 1 0 0 ∷ line.Fault 0 rule.Load 1 0 0x300 ∷ line.Unload 0 1 ∷ line.EndIdle 1 ∷ []
unfolding writes store_address load_address no_memory fit page data_read is_set flags_of sreg_of with_result with_byte signed leaves_byte sub_value sub_flags modules_dumped mathlib.Core.Bool.xor
row_sealed = refl

row_sealed_frame : run_on 5 (begin_with (Ok (with_constants [] true (unit.Load (instr.Lds 24 0x100) ∷ unit.Return ∷ [])) ∷ []) (load_at 0 0 ∷ []) 10000) ≡ line.Load 0 1 0 0 ∷ line.Run 0 1 0 0 ∷ line.Done 1 1 ∷ line.EndIdle 2 ∷ []
unfolding writes store_address load_address no_memory fit page data_read is_set flags_of sreg_of with_result with_byte signed leaves_byte sub_value sub_flags modules_dumped mathlib.Core.Bool.xor
row_sealed_frame = refl

row_sealed_sp : run_on 6 (begin_with (Ok (with_constants [] true (unit.Plain (instr.In 26 0x3D) ∷ unit.Plain (instr.In 27 0x3E) ∷ unit.Load (instr.LdX 24) ∷ unit.Return ∷ [])) ∷ []) (load_at 0 0 ∷ []) 10000) ≡ line.Load 0 1 0 0 ∷ line.Run 0 1 0 0 ∷ line.Fault 2 rule.Load 1 2 0x10FF ∷ line.Unload 2 1 ∷ line.EndIdle 3 ∷ []
unfolding writes store_address load_address no_memory fit page data_read is_set flags_of sreg_of with_result with_byte signed leaves_byte sub_value sub_flags modules_dumped mathlib.Core.Bool.xor
row_sealed_sp = refl

row_21 : run_on 20 (begin_with (Ok (plain (face 1 [] []) [] (unit.Plain (instr.Lds 18 0x100) ∷ unit.Plain (instr.Cpi 18 0) ∷ unit.Branch true 1 4 ∷ unit.Return ∷ unit.Plain (instr.Ldi 24 3) ∷ unit.Plain (instr.Ldi 22 10) ∷ unit.Plain (instr.Ldi 23 0) ∷ unit.Plain (instr.Ldi 20 0) ∷ unit.KernelCall 6 ∷ unit.Return ∷ [])) ∷ []) (load_at 0 0 ∷ []) 10000) ≡ line.Load 0 1 0 0 ∷ line.Run 0 1 0 0 ∷ line.Done 8 1 ∷ line.Queued 17 1 2 ∷ line.Run 17 1 2 0 ∷ line.Done 20 1 ∷ line.EndIdle 21 ∷ []
unfolding writes store_address load_address no_memory fit page data_read is_set flags_of sreg_of with_result with_byte signed leaves_byte sub_value sub_flags modules_dumped mathlib.Core.Bool.xor
row_21 = refl

row_zero : run_on 12 (begin_with (Ok (plain (face 1 [] []) [] (unit.Plain (instr.Ldi 24 3) ∷ unit.Plain (instr.Ldi 22 0) ∷ unit.Plain (instr.Ldi 23 0) ∷ unit.Plain (instr.Ldi 20 0) ∷ unit.KernelCall 6 ∷ unit.KernelCall 8 ∷ unit.Return ∷ [])) ∷ []) (load_at 0 0 ∷ []) 10000) ≡ line.Load 0 1 0 0 ∷ line.Run 0 1 0 0 ∷ line.Say 5 1 2 ∷ line.Done 6 1 ∷ line.EndIdle 7 ∷ []
unfolding writes store_address load_address no_memory fit page data_read is_set flags_of sreg_of with_result with_byte signed leaves_byte sub_value sub_flags modules_dumped mathlib.Core.Bool.xor
row_zero = refl

row_repeat : run_on 16 (begin_with (Ok (plain (face 1 [] []) [] (unit.Plain (instr.Ldi 24 3) ∷ unit.Plain (instr.Ldi 22 2) ∷ unit.Plain (instr.Ldi 23 0) ∷ unit.Plain (instr.Ldi 20 1) ∷ unit.KernelCall 6 ∷ unit.Jump 5 ∷ [])) ∷ []) (load_at 0 0 ∷ []) 9) ≡ line.Load 0 1 0 0 ∷ line.Run 0 1 0 0 ∷ line.Queued 6 1 2 ∷ line.Queued 8 1 2 ∷ line.Fault 9 rule.Watchdog 1 5 0x10FF ∷ line.Unload 9 1 ∷ line.EndIdle 9 ∷ []
unfolding writes store_address load_address no_memory fit page data_read is_set flags_of sreg_of with_result with_byte signed leaves_byte sub_value sub_flags modules_dumped mathlib.Core.Bool.xor
row_repeat = refl

abbrev module_a : Module
module_a = plain (face 1 [] (record { «module» = 2; func = 1; proto = proto } ∷ [])) [] (unit.Plain (instr.Lds 18 0x100) ∷ unit.Skip (instr.Sbrc 18 0) ∷ unit.SlotCall 0 ∷ unit.Return ∷ [])

row_final : run_on 14 (begin_with (Ok module_f ∷ Ok module_a ∷ []) (load_at 0 0 ∷ load_at 0 1 ∷ record { time = 0; what = order.Unload 1 } ∷ record { time = 0; what = order.Dump } ∷ []) 10000) ≡
    line.Load 0 2 0 0 ∷ line.Run 0 2 0 0 ∷ line.Done 0 2 ∷ line.Load 1 1 1 0 ∷ line.Run 1 1 0 0 ∷ line.Done 3 1 ∷ line.Run 4 1 1 0 ∷ line.Call 6 1 0 2 1 ∷ line.Fault 7 rule.StackUnder 2 1 0x10FD ∷ line.Unload 7 2 ∷ line.Unload 7 1
    ∷ line.Dump 8 ∷ line.DumpEnd ∷ line.EndIdle 8 ∷ []
unfolding writes store_address load_address no_memory fit page data_read is_set flags_of sreg_of with_result with_byte signed leaves_byte sub_value sub_flags modules_dumped mathlib.Core.Bool.xor
row_final = refl

abbrev big : List ℕ → Module
big bytes = record { face = face 1 [] []; state_size = 3064; handler = 0; entries = []; units = unit.Return ∷ []; constants = bytes; sealed = false }

row_room : run_on 2 (begin_with (Ok (big (replicate 9 1)) ∷ Ok (big (replicate 8 1)) ∷ []) (load_at 0 0 ∷ load_at 0 1 ∷ []) 10000) ≡ line.Refused 0 0 6 0 0 0 ∷ line.Load 0 1 0 0x200 ∷ line.Run 0 1 0 0 ∷ []
unfolding writes store_address load_address no_memory fit page data_read is_set flags_of sreg_of with_result with_byte signed leaves_byte sub_value sub_flags modules_dumped mathlib.Core.Bool.xor
row_room = refl

abbrev module_n : Module
module_n = plain (face 1 (record { func = 1; proto = proto; word = 4 } ∷ []) []) (3 ∷ [])
    (unit.Plain (instr.Lds 18 0x100) ∷ unit.Plain (instr.Cpi 18 0) ∷ unit.Branch true 1 4 ∷ unit.Return ∷ unit.Plain (instr.Ldi 24 8) ∷ unit.KernelCall 0
    ∷ unit.Plain (instr.Movw 18 24) ∷ unit.Plain (instr.Ldi 24 1) ∷ unit.Plain (instr.Ldi 22 9) ∷ unit.Plain (instr.Ldi 20 8) ∷ unit.KernelCall 4
    ∷ unit.Plain (instr.Ldi 24 3) ∷ unit.Plain (instr.Ldi 22 0x64) ∷ unit.Plain (instr.Ldi 20 0) ∷ unit.KernelCall 6 ∷ unit.Return ∷ [])

abbrev module_o : Module
module_o = plain (face 2 [] (record { «module» = 1; func = 1; proto = proto } ∷ [])) [] (unit.SlotCall 0 ∷ unit.Return ∷ [])

abbrev with_packet : ℕ → ℕ → ℕ → State → State
with_packet time to sort s = record s { packets = record { time = time; to = to; sort = sort; bytes = [] } ∷ [] }

row_15 : run_on 40 (with_packet 50 2 7 (begin_with (Ok module_n ∷ Ok module_o ∷ []) (load_at 0 0 ∷ load_at 0 1 ∷ record { time = 0; what = order.Unload 1 } ∷ record { time = 0; what = order.Dump } ∷ []) 10000)) ≡
    line.Load 0 1 0 0 ∷ line.Run 0 1 0 0 ∷ line.Done 14 1 ∷ line.Load 15 2 1 0 ∷ line.Run 15 2 0 0 ∷ line.Call 15 2 0 1 1 ∷ line.Done 17 2
    ∷ line.Run 18 1 1 0 ∷ line.Done 21 1 ∷ line.Unload 21 1 ∷ line.Dump 22 ∷ line.DumpModule 2 1 0 ∷ line.DumpEnd
    ∷ line.Queued 50 2 7 ∷ line.Run 50 2 7 255 ∷ line.Unbound 50 2 0 ∷ line.Done 51 2 ∷ line.EndIdle 52 ∷ []
unfolding writes store_address load_address no_memory fit page data_read is_set flags_of sreg_of with_result with_byte signed leaves_byte sub_value sub_flags modules_dumped mathlib.Core.Bool.xor
row_15 = refl

-- Timers: what follows is of modules that look at the message's type, 0 at their start.

-- It says the byte of each later message; at its start it starts its timer 5, and then goes on so.
abbrev timed : ℕ → ℕ → List Unit → Module
timed id ticks more = plain (face id [] []) []
    (unit.Plain (instr.Lds 18 0x100) ∷ unit.Plain (instr.Cpi 18 0) ∷ unit.Branch true 1 6 ∷ unit.Plain (instr.Lds 24 0x104) ∷ unit.KernelCall 8
    ∷ unit.Return ∷ unit.Plain (instr.Ldi 23 0) ∷ unit.Plain (instr.Ldi 24 5) ∷ unit.Plain (instr.Ldi 22 ticks) ∷ unit.KernelCall 6 ∷ more)

-- Three timers, a packet and a dump at one time.
row_order : run_on 60 (with_packet 106 2 7 (begin_with (Ok (timed 1 100 (unit.Plain (instr.Ldi 24 4) ∷ unit.Plain (instr.Ldi 22 97) ∷ unit.KernelCall 6 ∷ unit.Return ∷ [])) ∷ Ok (timed 2 89 (unit.Return ∷ [])) ∷ []) (load_at 0 0 ∷ load_at 0 1 ∷ record { time = 106; what = order.Dump } ∷ []) 10000)) ≡
    line.Load 0 1 0 0 ∷ line.Run 0 1 0 0 ∷ line.Done 10 1 ∷ line.Load 11 2 1 0 ∷ line.Run 11 2 0 0 ∷ line.Done 18 2
    ∷ line.Queued 106 2 7 ∷ line.Queued 106 1 2 ∷ line.Queued 106 1 2 ∷ line.Queued 106 2 2
    ∷ line.Dump 106 ∷ line.DumpModule 1 0 0 ∷ line.DumpModule 2 1 0 ∷ line.DumpMsg true 0 1 2 0 ∷ line.DumpMsg true 0 1 2 0 ∷ line.DumpMsg true 0 2 2 0 ∷ line.DumpMsg false 255 2 7 0 ∷ line.DumpEnd
    ∷ line.Run 106 1 2 0 ∷ line.Say 110 1 4 ∷ line.Done 111 1 ∷ line.Run 112 1 2 0 ∷ line.Say 116 1 5 ∷ line.Done 117 1
    ∷ line.Run 118 2 2 0 ∷ line.Say 122 2 5 ∷ line.Done 123 2 ∷ line.Run 124 2 7 255 ∷ line.Say 128 2 0 ∷ line.Done 129 2 ∷ line.EndIdle 130 ∷ []
unfolding writes store_address load_address no_memory fit page data_read is_set flags_of sreg_of with_result with_byte signed leaves_byte sub_value sub_flags modules_dumped mathlib.Core.Bool.xor
row_order = refl

-- A repeating timer is stopped in its own handler, and then there is none to stop.
row_stop : run_on 28 (begin_with (Ok (plain (face 1 [] []) []
    (unit.Plain (instr.Lds 18 0x100) ∷ unit.Plain (instr.Cpi 18 0) ∷ unit.Branch true 1 10 ∷ unit.Plain (instr.Ldi 24 3) ∷ unit.KernelCall 7 ∷ unit.KernelCall 8
    ∷ unit.Plain (instr.Ldi 24 3) ∷ unit.KernelCall 7 ∷ unit.KernelCall 8 ∷ unit.Return ∷ unit.Plain (instr.Ldi 23 0) ∷ unit.Plain (instr.Ldi 24 3)
    ∷ unit.Plain (instr.Ldi 22 10) ∷ unit.Plain (instr.Ldi 20 1) ∷ unit.KernelCall 6 ∷ unit.Return ∷ [])) ∷ []) (load_at 0 0 ∷ []) 10000) ≡
    line.Load 0 1 0 0 ∷ line.Run 0 1 0 0 ∷ line.Done 8 1 ∷ line.Queued 17 1 2 ∷ line.Run 17 1 2 0 ∷ line.Say 22 1 0 ∷ line.Say 25 1 1 ∷ line.Done 26 1 ∷ line.EndIdle 27 ∷ []
unfolding writes store_address load_address no_memory fit page data_read is_set flags_of sreg_of with_result with_byte signed leaves_byte sub_value sub_flags modules_dumped mathlib.Core.Bool.xor
row_stop = refl

-- The longest wait behind the latest time of a script.
row_late : run_on 20 (begin_with (Ok (plain (face 1 [] []) []
    (unit.Plain (instr.Lds 18 0x100) ∷ unit.Plain (instr.Cpi 18 0) ∷ unit.Branch true 1 4 ∷ unit.Return ∷ unit.Plain (instr.Ldi 24 1)
    ∷ unit.Plain (instr.Ldi 22 255) ∷ unit.Plain (instr.Ldi 23 255) ∷ unit.KernelCall 6 ∷ unit.Return ∷ [])) ∷ []) (load_at 4294967295 0 ∷ []) 10000) ≡
    line.Load 4294967295 1 0 0 ∷ line.Run 4294967295 1 0 0 ∷ line.Done 4294967302 1 ∷ line.Queued 4295032836 1 2 ∷ line.Run 4295032836 1 2 0 ∷ line.Done 4295032839 1 ∷ line.EndIdle 4295032840 ∷ []
unfolding writes store_address load_address no_memory fit page data_read is_set flags_of sreg_of with_result with_byte signed leaves_byte sub_value sub_flags modules_dumped mathlib.Core.Bool.xor
row_late = refl

-- Sixteen timers, a seventeenth, and one in the place of another.
row_sixteen : run_on 76 (begin_with (Ok (plain (face 1 [] []) []
    (unit.Plain (instr.Ldi 17 16) ∷ unit.Plain (instr.Ldi 22 0) ∷ unit.Plain (instr.Ldi 23 4) ∷ unit.Plain (instr.Ldi 20 0) ∷ unit.Plain (instr.Mov 24 17)
    ∷ unit.KernelCall 6 ∷ unit.Plain (instr.Dec 17) ∷ unit.Branch false 1 4 ∷ unit.Plain (instr.Ldi 24 99) ∷ unit.KernelCall 6 ∷ unit.KernelCall 8
    ∷ unit.Plain (instr.Ldi 24 5) ∷ unit.KernelCall 6 ∷ unit.KernelCall 8 ∷ unit.Return ∷ [])) ∷ []) (load_at 0 0 ∷ []) 10000) ≡
    line.Load 0 1 0 0 ∷ line.Run 0 1 0 0 ∷ line.Say 70 1 1 ∷ line.Say 73 1 0 ∷ line.Done 74 1 ∷ []
unfolding writes store_address load_address no_memory fit page data_read is_set flags_of sreg_of with_result with_byte signed leaves_byte sub_value sub_flags one_value one_flags modules_dumped mathlib.Core.Bool.xor
row_sixteen = refl

-- A timer is due while a handler runs that has filled the high queue: it is dropped, and one that repeats runs on.
abbrev filling : ℕ → Module
filling again = plain (face 1 [] []) []
    (unit.Plain (instr.Lds 18 0x100) ∷ unit.Plain (instr.Cpi 18 0) ∷ unit.Branch true 1 4 ∷ unit.Return ∷ unit.Plain (instr.Ldi 24 3)
    ∷ unit.Plain (instr.Ldi 22 70) ∷ unit.Plain (instr.Ldi 23 0) ∷ unit.Plain (instr.Ldi 20 again) ∷ unit.KernelCall 6 ∷ unit.Plain (instr.Ldi 16 1)
    ∷ unit.Plain (instr.Ldi 22 9) ∷ unit.Plain (instr.Ldi 17 16) ∷ unit.Plain (instr.Ldi 24 1) ∷ unit.KernelCall 3 ∷ unit.Plain (instr.Dec 17) ∷ unit.Branch false 1 12
    ∷ unit.Plain (instr.Ldi 25 0) ∷ unit.Plain (instr.Ldi 25 0) ∷ unit.Plain (instr.Ldi 25 0) ∷ unit.Return ∷ [])

abbrev filled : List TraceLine → List TraceLine
filled timers =
    line.Load 0 1 0 0 ∷ line.Run 0 1 0 0 ∷ line.Dropped 77 why.Queue 1 2 ∷ line.Done 78 1 ∷ line.Dump 79 ∷ line.DumpModule 1 0 0
    ∷ replicate 16 (line.DumpMsg true 1 1 9 0) ++ timers ++ line.DumpEnd ∷ []

row_dropped : run_on 82 (begin_with (Ok (filling 0) ∷ []) (load_at 0 0 ∷ record { time = 0; what = order.Dump } ∷ []) 10000) ≡ filled []
unfolding writes store_address load_address no_memory fit page data_read is_set flags_of sreg_of with_result with_byte signed leaves_byte sub_value sub_flags one_value one_flags modules_dumped mathlib.Core.Bool.xor
row_dropped = refl

row_dropped_again : run_on 82 (begin_with (Ok (filling 1) ∷ []) (load_at 0 0 ∷ record { time = 0; what = order.Dump } ∷ []) 10000) ≡ filled (line.DumpTimer 1 3 147 ∷ [])
unfolding writes store_address load_address no_memory fit page data_read is_set flags_of sreg_of with_result with_byte signed leaves_byte sub_value sub_flags one_value one_flags modules_dumped mathlib.Core.Bool.xor
row_dropped_again = refl
