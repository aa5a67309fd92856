-- What a runner of words keeps: the words of each bank spell its units.
use Rattle.std.proofs.Common.{◌≡◌, ◌∙◌, ℕ, ◌≤◌, List, [], Option, Some, None, inl, inr, zero, suc, refl, sym, ap, subst, arith}
use Rattle.std.specs.Prelude.{slice_set}
use Rattle.std.proofs.lemmas.Bool.{cases_lt}
use Rattle.std.proofs.lemmas.List.{set_past}
use Rattle.mote_layout.specs.Memory.{domain_count}
use Rattle.unit_code.specs.Listing.{BankListing}
use Rattle.unit_code.specs.declared.unit.Unit.{Unit}
use Rattle.domain_model.specs.declared.handler.Running.{Running}
use Rattle.domain_model.specs.State.{KernelState}
use Rattle.word_run.specs.Entries.{Way, Goes, Ends}
use Rattle.word_run.specs.FlashValue.{FlashValue, entry_point, unit_at, words_placed}
use Rattle.word_run.specs.WordRun.{goes_by, goes_from, goes_in, instruction_limit, one_step, run_from, words_by}
use Rattle.unit_run.specs.FlashLaw.{flash_law}
use Rattle.unit_run.specs.FlashRunners.{IsBank, KeepsWords}
use Rattle.unit_run.proofs.Placing.{empty_bank, placeable_bank, placed_keeps}
use Rattle.mote_sim.specs.WordRun.{by_words}
use Rattle.mote_sim.proofs.Sound.{AreKept}

-- Another unit is next: the banks are the same.
next_kept : (v : FlashValue) (unit : ℕ) → KeepsWords v → KeepsWords (record v { unit = unit })
next_kept v unit h = record {
  words = record { banks = h.words.banks; flash = h.words.flash; starts = h.words.starts; spelled = h.words.spelled };
  low = h.low;
}

-- A place that is no domain's takes no code.
past_banks : (v : FlashValue) (domain : ℕ) (code : BankListing) → KeepsWords v → domain_count ≤ domain → words_placed v domain code ≡ v
past_banks v domain code h past =
    ap (λ (bs : List (List Unit)). record v { banks = bs; flash = slice_set v.flash domain code.words; starts = slice_set v.starts domain code.starts })
    (set_past v.banks domain code.units (omega (arith, past, h.words.banks)))
    ∙ ap (λ (ws : List (List ℕ)). record v { flash = ws; starts = slice_set v.starts domain code.starts })
    (set_past v.flash domain code.words (omega (arith, past, h.words.flash)))
    ∙ ap (λ (ss : List (List ℕ)). record v { starts = ss }) (set_past v.starts domain code.starts (omega (arith, past, h.words.starts)))

bank_kept : (v : FlashValue) (domain : ℕ) (code : BankListing) → KeepsWords v → IsBank code.units code.words code.starts → KeepsWords (words_placed v domain code)
bank_kept v domain code h bank =
    elim (cases_lt domain domain_count) [
      | inl below ↦ placed_keeps v domain code h below bank
      | inr past ↦ subst KeepsWords (sym (past_banks v domain code h past)) h
    ]

-- A unit changes which one is next, and no more.
module _ (n : ℕ) (v : FlashValue) (h : KeepsWords v) (rest : (run : Running) (k : KernelState) (address : ℕ) → KeepsWords (run_from n v run k address).runner) where
  from_kept : (o : Option ℕ) (run : Running) (k : KernelState) (address : ℕ) → KeepsWords (goes_from o (run_from n v) v run k address).runner
  from_kept None run k address = rest run k address
  from_kept (Some unit) run k address = next_kept v unit h

  in_kept : (o : Option Running) (k : KernelState) (address : ℕ) → KeepsWords (goes_in o (run_from n v) v k address).runner
  in_kept None k address = h
  in_kept (Some run) k address = from_kept (unit_at v run.domain address) run k address

  by_kept : (way : Way) (k : KernelState) → KeepsWords (goes_by way (run_from n v) v k).runner
  by_kept (Ends ending) k = h
  by_kept (Goes address) k = in_kept k.running k address

run_kept : (n : ℕ) (v : FlashValue) → KeepsWords v → (run : Running) (k : KernelState) (address : ℕ) → KeepsWords (run_from n v run k address).runner
run_kept zero v h run k address = h
run_kept (suc n) v h run k address =
    by_kept n v h (λ run k address. run_kept n v h run k address) (one_step v run k address).way (one_step v run k address).kernel

unit_kept : (o : Option Running) (k : KernelState) (v : FlashValue) → KeepsWords v → KeepsWords (words_by o k v).runner
unit_kept None k v h = h
unit_kept (Some run) k v h = run_kept instruction_limit v h run k (entry_point v run.domain v.unit)

pub words_are_kept : AreKept by_words KeepsWords
words_are_kept = record {
  lawful = record { placed_law = λ r domain code. refl; cleared_law = λ r domain. refl; entered_law = λ r domain unit. refl };
  placed = λ r domain code held placeable. bank_kept r domain code held (placeable_bank code placeable);
  cleared = λ r domain held. bank_kept r domain (record { units = []; words = []; starts = [] }) held empty_bank;
  entered = λ r domain unit held. next_kept r unit held;
  acted = λ k r held. unit_kept k.running k r held;
  unit = λ k r held good inside. flash_law k r held good inside;
}
