-- Words that spell units run as the units do.
use Rattle.std.proofs.Common.{◌≡◌, ◌∙◌, ℕ, ◌+◌, ◌<◌, ◌≤◌, ◌⊎◌, true, length, Option, None, Some, refl, sym, ap, subst, arith, inl, inr}
use Rattle.std.specs.Prelude.{IsSome}
use Rattle.mote_layout.specs.Memory.{red_zone_start}
use Rattle.unit_code.specs.declared.unit.Unit.{Unit}
use Rattle.unit_code.specs.declared.unit.Unit.TheVariants.{Plain, Store, Load, Push, Pop, SpGroup, Reserve, Skip, Branch, Jump, LocalCall, KernelCall, SlotCall, SlotIndirect, Return}
use Rattle.domain_model.specs.declared.fault.FaultNote.{FaultNote}
use Rattle.domain_model.specs.declared.fault.UnitEnd.TheVariants.{Fault}
use Rattle.domain_model.specs.declared.handler.Running.{Running}
use Rattle.domain_model.specs.Bytes.{AreBytes}
use Rattle.domain_model.specs.State.{KernelState}
use Rattle.domain_model.specs.Act.{Acted, act, act_at, act_running, act_unit, bank, next_unit}
use Rattle.domain_model.specs.Free.{UnitStep, enters_kernel}
use Rattle.domain_model.specs.Good.{GoodMachine}
use Rattle.domain_model.specs.Runners.{unit_by, without_ran}
use Rattle.domain_model.proofs.ActLaws.{running_good, unit_aimed, unit_behind, unit_skipped}
use Rattle.domain_model.proofs.RanLaws.{act_without_ran}
use Rattle.domain_model.proofs.UnitsKept.{act_good}
use Rattle.word_run.specs.FlashValue.{FlashValue, HoldsWords, part, starts_of, entry_point}
use Rattle.word_run.specs.Entries.{Ends, Way}
use Rattle.word_run.specs.WordRun.{one_step, words_by}
use Rattle.word_run.specs.Writing.{UnitWrites, Writes, WritesBy}
use Rattle.word_run.specs.Laws.{BeginsWithCall, FaultsComeFirst, FewInstructionsSuffice, IsBelowStack, IsStoredTo, WordsRunAsUnits, WritesLieInside}
use Rattle.word_run.proofs.FirstWrites.{first_writes, guard_clears_none}
use Rattle.word_run.proofs.Frames.{indirect_unit, local_unit, reserve_unit, return_unit, slot_unit}
use Rattle.word_run.proofs.Groups.{group_unit}
use Rattle.word_run.proofs.Jumps.{branch_unit, jump_unit}
use Rattle.word_run.proofs.KernelCalls.{kernel_unit}
use Rattle.word_run.proofs.Loads.{load_unit}
use Rattle.word_run.proofs.PlainUnits.{plain_unit}
use Rattle.word_run.proofs.PushPop.{pop_unit, push_unit}
use Rattle.word_run.proofs.Same.{Meets}
use Rattle.word_run.proofs.Setting.{Setting, setting, there}
use Rattle.word_run.proofs.Skips.{skip_unit}
use Rattle.word_run.proofs.Stores.{store_unit}

-- the bytes that the words of a unit may write
abbrev MayWrite : KernelState → FlashValue → Running → ℕ → Type 0
MayWrite k v run a = IsBelowStack k a ⊎ IsStoredTo k v run a

module _ (k : KernelState) (v : FlashValue) (run : Running) (held : HoldsWords v) (good : GoodMachine k (part v)) (e : k.running ≡ Some run) where
  dead : (a : ℕ) → red_zone_start ≤ a → a ≤ k.processor.sp → MayWrite k v run a
  dead a above below = inl (above, below)

  act_is : (x : Unit) → next_unit (part v) run ≡ Some x → act k (part v) ≡ act_unit x run k (part v)
  act_is x next = ap (λ o. act_running o k (part v)) e ∙ ap (λ o. act_at o run k (part v)) next

  bytes : (x : Unit) → next_unit (part v) run ≡ Some x → AreBytes (act_unit x run k (part v)).kernel.processor.memory
  bytes x next =
      let P : Acted → Type 0 = λ a. AreBytes a.kernel.processor.memory in
      subst P (act_is x next) (act_good k (part v) good).processor.memory_bytes

  quiet : (x : Unit) → next_unit (part v) run ≡ Some x → without_ran (act_unit x run k (part v)).lines ≡ (act_unit x run k (part v)).lines
  quiet x next =
      let P : Acted → Type 0 = λ a. without_ran a.lines ≡ a.lines in
      subst P (act_is x next) (act_without_ran k (part v))

  set : (x : Unit) → next_unit (part v) run ≡ Some x → Setting v run k x
  set x next = setting k v run x held good e next

  within : (x : Unit) (s : Setting v run k x) (u : ℕ) → u < length (bank (part v) run.domain) → u < length (starts_of v run.domain)
  within x s u below = let counted = s.counted in omega (arith, counted, below)

  -- Each unit.
  pub unit_meets : (x : Unit) → next_unit (part v) run ≡ Some x → Meets (MayWrite k v run) (act_unit x run k (part v)) v run k
  unit_meets (Plain i) next =
      let s = set (Plain i) next in
      plain_unit (MayWrite k v run) v run k i s (within (Plain i) s (v.unit + 1) (unit_behind k (part v) run (Plain i) good e next refl)) (bytes (Plain i) next)
  unit_meets (Store i) next =
      let s = set (Store i) next in
      store_unit (MayWrite k v run) v run k i s good (within (Store i) s (v.unit + 1) (unit_behind k (part v) run (Store i) good e next refl)) dead
      (λ permitted. inr (record { store = i; next = next; address = refl; permitted = permitted }))
  unit_meets (Load i) next =
      let s = set (Load i) next in
      load_unit (MayWrite k v run) v run k i s good (within (Load i) s (v.unit + 1) (unit_behind k (part v) run (Load i) good e next refl)) dead
  unit_meets (Push r) next =
      let s = set (Push r) next in
      push_unit (MayWrite k v run) v run k r s (within (Push r) s (v.unit + 1) (unit_behind k (part v) run (Push r) good e next refl)) dead
  unit_meets (Pop d) next =
      let s = set (Pop d) next in
      pop_unit (MayWrite k v run) v run k d s (within (Pop d) s (v.unit + 1) (unit_behind k (part v) run (Pop d) good e next refl)) dead
  unit_meets (SpGroup with_sreg) next =
      let s = set (SpGroup with_sreg) next in
      group_unit (MayWrite k v run) v run k (within (SpGroup with_sreg) s (v.unit + 1) (unit_behind k (part v) run (SpGroup with_sreg) good e next refl)) dead with_sreg s
  unit_meets Reserve next =
      let s = set Reserve next in
      reserve_unit (MayWrite k v run) v run k dead s (within Reserve s (v.unit + 1) (unit_behind k (part v) run Reserve good e next refl)) (bytes Reserve next)
  unit_meets (Skip i) next =
      let s = set (Skip i) next in
      skip_unit (MayWrite k v run) v run k i s (within (Skip i) s (v.unit + 2) (unit_skipped k (part v) run i good e next))
  unit_meets (Branch set_bit bit target) next =
      let x = Branch set_bit bit target in
      let s = set x next in
      branch_unit (MayWrite k v run) v run k set_bit bit target s (within x s target (unit_aimed k (part v) run x good e next)) (within x s (v.unit + 1) (unit_behind k (part v) run x good e next refl))
  unit_meets (Jump target) next =
      let s = set (Jump target) next in
      jump_unit (MayWrite k v run) v run k target s (within (Jump target) s target (unit_aimed k (part v) run (Jump target) good e next))
  unit_meets (LocalCall target) next =
      let x = LocalCall target in
      let s = set x next in
      local_unit (MayWrite k v run) v run k dead target s (within x s target (unit_aimed k (part v) run x good e next)) (within x s (v.unit + 1) (unit_behind k (part v) run x good e next refl)) (bytes x next)
  unit_meets (KernelCall n) next =
      let s = set (KernelCall n) next in
      kernel_unit (MayWrite k v run) v run k n s good.blocks (within (KernelCall n) s (v.unit + 1) (unit_behind k (part v) run (KernelCall n) good e next refl)) dead (quiet (KernelCall n) next)
  unit_meets (SlotCall slot) next =
      let s = set (SlotCall slot) next in
      slot_unit (MayWrite k v run) v run k dead slot s held good (within (SlotCall slot) s (v.unit + 1) (unit_behind k (part v) run (SlotCall slot) good e next refl)) (bytes (SlotCall slot) next)
  unit_meets SlotIndirect next =
      let s = set SlotIndirect next in
      indirect_unit (MayWrite k v run) v run k dead s held good (within SlotIndirect s (v.unit + 1) (unit_behind k (part v) run SlotIndirect good e next refl)) (bytes SlotIndirect next)
  unit_meets Return next = return_unit (MayWrite k v run) v run k (set Return next) held good (bytes Return next)

  -- the unit that is next
  pub next_is : (x : Unit) × (next_unit (part v) run ≡ Some x)
  next_is = there (bank (part v) run.domain) v.unit (running_good k (part v) run good e).0.unit

  pub meets : Meets (MayWrite k v run) (act k (part v)) v run k
  meets =
      let P : Acted → Type 0 = λ a. Meets (MayWrite k v run) a v run k in
      subst P (sym (act_is next_is.0 next_is.1)) (unit_meets next_is.0 next_is.1)

  pub unit_step : UnitStep k (part v) (unit_by part (words_by (Some run) k v))
  unit_step =
      let h = meets.same (enters_kernel k (part v)) in
      record { kernel = h.kernel; runner = h.runner; lines = h.lines; ending = h.ending }

  -- where one step is refused, nothing else has written
  refused_writes : (note : FaultNote) (a : ℕ) → (one_step v run k (entry_point v run.domain v.unit)).way ≡ Ends (Fault note) → UnitWrites a v run k → BeginsWithCall v run
  refused_writes note a refused w =
      let first = entry_point v run.domain v.unit in
      elim w [
        | inl step ↦ elim step [
          | inl one ↦ first_writes v run k next_is.0 (set next_is.0 next_is.1) a one
          | inr guard ↦ absurd (guard_clears_none a v run k first (Fault note) refused guard)
        ]
        | inr later ↦
            let P : Way → Type 0 = λ way. WritesBy way (Writes a 3 v) v (one_step v run k first).kernel in
            absurd (subst P refused later)
      ]

step_by : (o : Option Running) (k : KernelState) (v : FlashValue) → k.running ≡ o → HoldsWords v → GoodMachine k (part v) → IsSome o → UnitStep k (part v) (unit_by part (words_by o k v))
step_by None k v e held good inside = absurd (cc)
step_by (Some run) k v e held good inside = unit_step k v run held good e

pub words_run_as_units : WordsRunAsUnits
words_run_as_units k v held good inside = step_by k.running k v refl held good inside

pub few_instructions_suffice : FewInstructionsSuffice
few_instructions_suffice k v run held good e = (meets k v run held good e).can

pub writes_lie_inside : WritesLieInside
writes_lie_inside k v run a held good e w = (meets k v run held good e).wrote a w

pub faults_come_first : FaultsComeFirst
faults_come_first k v run note held good e faults =
    let m = meets k v run held good e in
    let ending : (words_by (Some run) k v).ending ≡ Fault note = ap (λ o. (words_by o k v).ending) (sym e) ∙ faults in
    let refused = m.faults note (sym (m.same true).ending ∙ ending) in
    (refused, λ a w. refused_writes k v run held good e note a refused w)
