-- Outcomes that are the same but for free bytes.
use Rattle.std.proofs.Common.{◌≡◌, ◌∙◌, ℕ, ◌+◌, ◌-◌, ◌<◌, ◌≤◌, Bool, true, false, List, [], length, refl, sym, ap, subst, arith, inl, inr}
use Rattle.std.specs.Prelude.{slice_index, slice_set, ◌&&◌, ◌||◌, nat_le}
use Rattle.std.proofs.lemmas.Bool.{cases_eq, cases_lt, true≢false, le-leb, and_from}
use Rattle.std.proofs.lemmas.List.{get_or-set_other, get_or-set_same, get_or_past, length-set}
use Rattle.avr_machine.specs.Laws.{with_pushed}
use Rattle.avr_machine.specs.Processor.{low, high, lowered}
use Rattle.mote_layout.specs.Memory.{ram_start, red_zone_start}
use Rattle.domain_model.specs.declared.fault.FaultNote.{FaultNote}
use Rattle.domain_model.specs.declared.fault.UnitEnd.TheVariants.{Fault}
use Rattle.domain_model.specs.declared.handler.Running.{Running}
use Rattle.domain_model.specs.Bytes.{AreBytes}
use Rattle.domain_model.specs.State.{KernelState}
use Rattle.domain_model.specs.Act.{Acted}
use Rattle.domain_model.specs.Free.{SameBut, SameKernel, is_dead, is_kernel_byte, dead_top, with_memory}
use Rattle.domain_model.specs.Runners.{unit_by}
use Rattle.domain_model.proofs.ByteLists.{bytes_set, low_byte, high_byte}
use Rattle.word_run.specs.FlashValue.{FlashValue, part, entry_point}
use Rattle.word_run.specs.Entries.{Ends}
use Rattle.word_run.specs.WordRun.{instruction_limit, one_step, run_from}
use Rattle.word_run.specs.CanRun.{CanRun}
use Rattle.word_run.specs.Writing.{Writes}
use Rattle.word_run.proofs.Steps.{RunsTo}

-- A memory that is the same but for free bytes, and all bytes.
pub record IsBut (free : ℕ → Bool) (want got : List ℕ) : Type 0 where
  pub same_length : length got ≡ length want
  pub same : (i : ℕ) → free (i + ram_start) ≡ false → slice_index got i ≡ slice_index want i
  pub bytes : AreBytes got

pub same_but : (free : ℕ → Bool) (want got : List ℕ) → IsBut free want got → SameBut free want got
same_but free want got h = record { same_length = h.same_length; same = h.same; bytes = λ i is. h.bytes i }

pub but_itself : (free : ℕ → Bool) (m : List ℕ) → AreBytes m → IsBut free m m
but_itself free m bytes = record { same_length = refl; same = λ i is. refl; bytes = bytes }

-- a free byte is written
pub but_set : (free : ℕ → Bool) (want got : List ℕ) (at b : ℕ) → IsBut free want got → free (at + ram_start) ≡ true → b < 256 → IsBut free want (slice_set got at b)
but_set free want got at b h is small = record {
  same_length = length-set got at b ∙ h.same_length;
  same = λ i kept. elim (cases_eq i at) [
    | inl e ↦ absurd (true≢false (sym is ∙ ap (λ j. free (j + ram_start)) (sym e) ∙ kept))
    | inr other ↦ get_or-set_other got at i b 0 other ∙ h.same i kept
  ];
  bytes = bytes_set got at b small h.bytes;
}

-- a byte is written in both
set_alike : (want got : List ℕ) (at b : ℕ) → length got ≡ length want → slice_index (slice_set got at b) at ≡ slice_index (slice_set want at b) at
set_alike want got at b long =
    elim (cases_lt at (length want)) [
      | inl inside ↦ get_or-set_same got at b 0 (omega (arith, inside, long)) ∙ sym (get_or-set_same want at b 0 inside)
      | inr past ↦
          get_or_past (slice_set got at b) at 0 (omega (arith, length-set got at b, long, past))
          ∙ sym (get_or_past (slice_set want at b) at 0 (omega (arith, length-set want at b, past)))
    ]

pub both_set : (free : ℕ → Bool) (want got : List ℕ) (at b : ℕ) → IsBut free want got → b < 256 → IsBut free (slice_set want at b) (slice_set got at b)
both_set free want got at b h small = record {
  same_length = length-set got at b ∙ h.same_length ∙ sym (length-set want at b);
  same = λ i kept. elim (cases_eq i at) [
    | inl e ↦ let P : ℕ → Type 0 = λ j. slice_index (slice_set got at b) j ≡ slice_index (slice_set want at b) j in subst P (sym e) (set_alike want got at b h.same_length)
    | inr other ↦ get_or-set_other got at i b 0 other ∙ h.same i kept ∙ sym (get_or-set_other want at i b 0 other)
  ];
  bytes = bytes_set got at b small h.bytes;
}

-- The two bytes of an address that a CALL pushes are free where all is up to SP.
pub but_pushed : (free : ℕ → Bool) (want got : List ℕ) (sp address : ℕ) → IsBut free want got → red_zone_start + 1 ≤ sp → sp < 65536 → address < 65536
    → ((x : ℕ) → red_zone_start ≤ x → x ≤ sp → free x ≡ true) → IsBut free want (with_pushed got sp address)
but_pushed free want got sp address h above top small dead =
    let down : lowered sp ≡ sp - 1 = omega (arith, above, top) in
    let one : sp - ram_start + ram_start ≡ sp = omega (arith, above) in
    let two : lowered sp - ram_start + ram_start ≡ sp - 1 = omega (arith, above, down) in
    let first = but_set free want got (sp - ram_start) (low address) h (ap free one ∙ dead sp (omega (arith, above)) (omega arith)) (low_byte address) in
    but_set free want (slice_set got (sp - ram_start) (low address)) (lowered sp - ram_start) (high address) first
    (ap free two ∙ dead (sp - 1) (omega (arith, above)) (omega arith)) (high_byte address (omega (arith, small)))

-- the bytes that a unit leaves free, by what it comes to and whether it enters the kernel
abbrev pub free_of : KernelState → Acted → Bool → ℕ → Bool
free_of k want enters address = is_dead (dead_top want.ending k want.kernel) address || (enters && is_kernel_byte address)

pub dead_free : (k : KernelState) (want : Acted) (enters : Bool) (x : ℕ) → red_zone_start ≤ x → x ≤ dead_top want.ending k want.kernel → free_of k want enters x ≡ true
dead_free k want enters x above below =
    let top = dead_top want.ending k want.kernel in
    let dead : is_dead top x ≡ true = and_from (nat_le red_zone_start x) (nat_le x top) (le-leb red_zone_start x above) (le-leb x top below) in
    ap (λ t. t || (enters && is_kernel_byte x)) dead

pub record SameActed (free : ℕ → Bool) (want got : Acted) : Type 0 where
  pub kernel : SameKernel free want.kernel got.kernel
  pub runner : got.runner ≡ want.runner
  pub lines : got.lines ≡ want.lines
  pub ending : got.ending ≡ want.ending

-- A unit whose words do what it does, can be run, write only what may be written, and are refused at once where it is.
pub record Meets (may : ℕ → Type 0) (want : Acted) (v : FlashValue) (run : Running) (k : KernelState) : Type 0 where
  pub same : (enters : Bool) → SameActed (free_of k want enters) want (unit_by part (run_from instruction_limit v run k (entry_point v run.domain v.unit)))
  pub can : CanRun instruction_limit v run k (entry_point v run.domain v.unit)
  pub wrote : (a : ℕ) → Writes a instruction_limit v run k (entry_point v run.domain v.unit) → may a
  pub faults : (note : FaultNote) → want.ending ≡ Fault note → (one_step v run k (entry_point v run.domain v.unit)).way ≡ Ends (Fault note)

pub like_met : (may : ℕ → Type 0) (want : Acted) (v : FlashValue) (run : Running) (k : KernelState) (got : Acted) → RunsTo may instruction_limit v run k (entry_point v run.domain v.unit) got
    → ((enters : Bool) → SameActed (free_of k want enters) want got) → Meets may want v run k
like_met may want v run k got r same = record {
  same = λ enters. let P : Acted → Type 0 = λ x. SameActed (free_of k want enters) want x in subst P (sym r.is) (same enters);
  can = r.can;
  wrote = r.wrote;
  faults = λ note e. r.faults note ((same true).ending ∙ e);
}

-- in every byte
pub all_met : (may : ℕ → Type 0) (want : Acted) (v : FlashValue) (run : Running) (k : KernelState) → AreBytes want.kernel.processor.memory → RunsTo may instruction_limit v run k (entry_point v run.domain v.unit) want
    → Meets may want v run k
all_met may want v run k bytes r =
    like_met may want v run k want r (λ enters. record {
      kernel = record { rest = refl; memory = same_but _ _ _ (but_itself (free_of k want enters) want.kernel.processor.memory bytes) };
      runner = refl;
      lines = refl;
      ending = refl;
    })

-- The unit changes nothing and the kernel has other dead bytes.
pub still_met : (may : ℕ → Type 0) (want : Acted) (v : FlashValue) (run : Running) (k : KernelState) (m : List ℕ) → want.kernel ≡ k → want.runner ≡ part v → want.lines ≡ []
    → RunsTo may instruction_limit v run k (entry_point v run.domain v.unit) (record { kernel = with_memory k m; runner = part v; lines = []; ending = want.ending })
    → ((enters : Bool) → IsBut (free_of k want enters) k.processor.memory m) → Meets may want v run k
still_met may want v run k m kernel runner lines r but =
    like_met may want v run k (record { kernel = with_memory k m; runner = part v; lines = []; ending = want.ending }) r (λ enters.
    let P : KernelState → Type 0 = λ x. SameKernel (free_of k want enters) x (with_memory k m) in
    record {
      kernel = subst P (sym kernel) (record { rest = refl; memory = same_but _ _ _ (but enters) });
      runner = sym runner;
      lines = sym lines;
      ending = refl;
    })
