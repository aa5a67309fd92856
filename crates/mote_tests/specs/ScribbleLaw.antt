-- The runner that scribbles meets the law of runners.
use Rattle.std.specs.Prelude.{IsSome, slice_index, slice_set}
use Rattle.std.proofs.Common.{◌≡◌, ◌∙◌, ℕ, zero, suc, ◌+◌, ◌-◌, ◌<◌, ◌≤◌, ◌&&◌, ◌||◌, nat_le, List, length, Bool, true, false, inl, inr, refl, sym, ap, arith, Option, None, Some}
use Rattle.std.proofs.lemmas.Bool.{and_from, le-leb, or_left, or_right, cases_eq}
use Rattle.std.proofs.lemmas.List.{length-set, get_or-set_other, get_or-set_same}
use Rattle.mote_layout.specs.Memory.{floor, ram_start, ram_end, ram_bytes, red_zone_start, kernel_bytes_start, kernel_bytes_end}
use Rattle.domain_model.specs.declared.fault.UnitEnd.{UnitEnd}
use Rattle.domain_model.specs.declared.fault.UnitEnd.TheVariants.{On, Over, Fault}
use Rattle.domain_model.specs.declared.handler.Running.{Running}
use Rattle.domain_model.specs.Bytes.{AreBytes}
use Rattle.domain_model.specs.State.{KernelState, RunnerState}
use Rattle.mote_base.specs.declared.frame.Frame.{Frame}
use Rattle.unit_code.specs.declared.unit.Unit.{Unit}
use Rattle.domain_model.specs.Act.{Acted, act, next_unit}
use Rattle.domain_model.specs.Frames.{resumed}
use Rattle.domain_model.specs.Free.{SameBut, UnitStep, calls_kernel, crosses_back, dead_top, ends_handler, enters_from, enters_kernel, is_dead, is_kernel_byte, unit_free}
use Rattle.domain_model.specs.Good.{GoodMachine}
use Rattle.domain_model.specs.Runners.{unit_by}
use Rattle.domain_model.proofs.ActLaws.{Outcome, act_outcome, next_of, running_good, ends, moves, serves, calls_within, enters, comes_back}
use Rattle.domain_model.proofs.RanLaws.{act_without_ran}
use Rattle.domain_model.proofs.UnitsKept.{act_good}
use Rattle.mote_tests.specs.Scribble.{ink, inked, calls_or_ends, dead_inked, kernel_inked, top_of, scribbled, scribble_acts}

-- ink in bytes that are open
one_more : (free : ℕ → Bool) (want got : List ℕ) (place : ℕ) → place < length got → free (place + ram_start) ≡ true → SameBut free want got → SameBut free want (slice_set got place ink)
one_more free want got place within free_here same = record {
  same_length = length-set got place ink ∙ same.same_length;
  same = λ i shut.
      elim (cases_eq i place) [
        | inl here ↦ let both : true ≡ false = sym free_here ∙ ap (λ n. free (n + ram_start)) (sym here) ∙ shut in absurd (cc)
        | inr other ↦ get_or-set_other got place i ink 0 other ∙ same.same i shut
      ];
  bytes = λ i free_there.
      elim (cases_eq i place) [
        | inl here ↦
            let is : slice_index (slice_set got place ink) i ≡ ink = ap (λ n. slice_index (slice_set got place ink) n) here ∙ get_or-set_same got place ink 0 within in
            omega (arith, is)
        | inr other ↦
            let is : slice_index (slice_set got place ink) i ≡ slice_index got i = get_or-set_other got place i ink 0 other in
            omega (arith, is, same.bytes i free_there)
      ];
}

all_inked : (free : ℕ → Bool) (want got : List ℕ) (place count : ℕ) → place + count ≤ length want → ((j : ℕ) → j < count → free (place + j + ram_start) ≡ true) → SameBut free want got → SameBut free want (inked place count got)
all_inked free want got place zero within free_here same = same
all_inked free want got place (suc n) within free_here same =
    let before = all_inked free want got place n (omega (arith, within)) (λ j below. free_here j (omega (arith, below))) same in
    one_more free want (inked place n got) (place + n) (omega (arith, within, before.same_length)) (free_here n (omega arith)) before

-- The stack pointers of a handler lie in the memory, above the floor.
pub record IsInStack (sp : ℕ) : Type 0 where
  pub low : floor ≤ sp
  pub high : sp ≤ ram_end

pub sp_in_stack : (k : KernelState) (r : RunnerState) (run : Running) → GoodMachine k r → k.running ≡ Some run → IsInStack k.processor.sp
sp_in_stack k r run good running =
    let g = (running_good k r run good running).0 in
    record { low = g.floor; high = omega (arith, g.base, g.bound, g.top) }

top_where : (e : UnitEnd) (old new : KernelState) → IsInStack old.processor.sp → IsInStack new.processor.sp → IsInStack (dead_top e old new)
top_where On old new a b = b
top_where Over old new a b = a
top_where (Fault note) old new a b = a

-- Something runs behind a unit: the same, or what it calls, or what it returns to.
runs_on : (o : Option Unit) (k : KernelState) (r : RunnerState) (run : Running) (got : Acted) → k.running ≡ Some run → Outcome o k.running k r got → (after : Running) × (got.kernel.running ≡ Some after)
runs_on o k r run _ runs (ends ending over) = (run, runs)
runs_on o k r run _ runs (moves p unit) = (run, runs)
runs_on o k r run _ runs (serves n lines calls s) = (run, ap (λ (x : KernelState). x.running) s.alone ∙ runs)
runs_on o k r run _ runs (calls_within caller target is) = (record caller { base = k.processor.sp - 2 }, refl)
runs_on o k r run _ runs (enters caller slot provider place is asks to) = (record { domain = provider; base = k.processor.sp - 2; bound = k.processor.sp - 2 }, refl)
runs_on o k r run _ runs (comes_back f below is waits) = (resumed f, refl)

-- and so does that of the unit's end
pub after_in_stack : (k : KernelState) (r : RunnerState) (run : Running) → GoodMachine k r → k.running ≡ Some run → IsInStack (act k r).kernel.processor.sp
after_in_stack k r run good running =
    let after = runs_on (next_of k.running r) k r run (act k r) running (act_outcome k r) in
    sp_in_stack (act k r).kernel (act k r).runner after.0 (act_good k r good) after.1

pub top_in_stack : (k : KernelState) (r : RunnerState) (run : Running) → GoodMachine k r → k.running ≡ Some run → IsInStack (top_of k r)
top_in_stack k r run good running =
    top_where (act k r).ending k (act k r).kernel (sp_in_stack k r run good running) (after_in_stack k r run good running)

-- The bytes that are written over are open.

dead_open : (entered : Bool) (top j : ℕ) → j < top + 1 - red_zone_start → (is_dead top (red_zone_start - ram_start + j + ram_start) || (entered && is_kernel_byte (red_zone_start - ram_start + j + ram_start))) ≡ true
dead_open entered top j below =
    let address : ℕ = red_zone_start - ram_start + j + ram_start in
    or_left (is_dead top address) (entered && is_kernel_byte address)
    (and_from (nat_le red_zone_start address) (nat_le address top) (le-leb red_zone_start address (omega arith)) (le-leb address top (omega (arith, below))))

kernel_open : (top j : ℕ) → j < kernel_bytes_end + 1 - kernel_bytes_start → (is_dead top (kernel_bytes_start - ram_start + j + ram_start) || (true && is_kernel_byte (kernel_bytes_start - ram_start + j + ram_start))) ≡ true
kernel_open top j below =
    let address : ℕ = kernel_bytes_start - ram_start + j + ram_start in
    or_right (is_dead top address) (is_kernel_byte address)
    (and_from (nat_le kernel_bytes_start address) (nat_le address kernel_bytes_end) (le-leb kernel_bytes_start address (omega arith)) (le-leb address kernel_bytes_end (omega (arith, below))))

kernel_bytes_inked : (inks entered : Bool) (top : ℕ) (want got : List ℕ) → (inks ≡ true → entered ≡ true) → length want ≡ ram_bytes → SameBut (λ a. is_dead top a || (entered && is_kernel_byte a)) want got → SameBut (λ a. is_dead top a || (entered && is_kernel_byte a)) want (kernel_inked inks got)
kernel_bytes_inked true true top want got frees whole same =
    all_inked (λ a. is_dead top a || (true && is_kernel_byte a)) want got (kernel_bytes_start - ram_start) (kernel_bytes_end + 1 - kernel_bytes_start) (omega (arith, whole)) (λ j below. kernel_open top j below) same
kernel_bytes_inked true false top want got frees whole same = let both : false ≡ true = frees refl in absurd (cc)
kernel_bytes_inked false entered top want got frees whole same = same

-- a call of the kernel and the handler's end enter it
enters_by : (calls back over : Bool) → (calls || over) ≡ true → (calls || (back || over)) ≡ true
enters_by true back over is = refl
enters_by false true over is = refl
enters_by false false over is = is

calls_enter : (o : Option Running) (frames : List Frame) (r : RunnerState) (ending : UnitEnd) → calls_or_ends o r ending ≡ true → enters_from o frames r ending ≡ true
calls_enter None frames r ending is = refl
calls_enter (Some run) frames r ending is = enters_by (calls_kernel (next_unit r run)) (crosses_back (next_unit r run) frames) (ends_handler ending) is

memory_same : (free : ℕ → Bool) (memory : List ℕ) → AreBytes memory → SameBut free memory memory
memory_same free memory bytes = record { same_length = refl; same = λ i h. refl; bytes = λ i h. bytes i }

scribbled_same : (k : KernelState) (r : RunnerState) (run : Running) → GoodMachine k r → k.running ≡ Some run → SameBut (unit_free k r) (act k r).kernel.processor.memory (scribbled k r)
scribbled_same k r run good running =
    let after = act_good k r good in
    let want : List ℕ = (act k r).kernel.processor.memory in
    let top = top_in_stack k r run good running in
    let dead = all_inked (unit_free k r) want want (red_zone_start - ram_start) (top_of k r + 1 - red_zone_start) (omega (arith, after.processor.memory, top.low, top.high)) (λ j below. dead_open (enters_kernel k r) (top_of k r) j below) (memory_same (unit_free k r) want after.processor.memory_bytes) in
    kernel_bytes_inked (calls_or_ends k.running r (act k r).ending) (enters_kernel k r) (top_of k r) want (dead_inked (top_of k r) want)
    (calls_enter k.running k.frames r (act k r).ending) after.processor.memory dead

runs : (k : KernelState) (r : RunnerState) (o : Option Running) → k.running ≡ o → IsSome o → GoodMachine k r → SameBut (unit_free k r) (act k r).kernel.processor.memory (scribbled k r)
runs k r None is inside good = absurd (cc)
runs k r (Some run) is inside good = scribbled_same k r run good is

pub scribble_law : (k : KernelState) (r : RunnerState) → GoodMachine k r → IsSome k.running → UnitStep k r (unit_by (λ x. x) (scribble_acts k r))
scribble_law k r good inside = record {
  kernel = record { rest = refl; memory = runs k r k.running refl inside good };
  runner = refl;
  lines = act_without_ran k r;
  ending = refl;
}
