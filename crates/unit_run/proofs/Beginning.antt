-- Where the words of a unit begin, and what they come to.
use Rattle.std.proofs.Common.{◌≡◌, ◌∙◌, ℕ, Option, Some, sym, ap, arith}
use Rattle.domain_model.specs.declared.handler.Running.{Running}
use Rattle.domain_model.specs.State.{KernelState}
use Rattle.domain_model.specs.Good.{GoodMachine}
use Rattle.domain_model.proofs.ActLaws.{running_good}
use Rattle.word_run.specs.FlashValue.{FlashValue, entry_point, part}
use Rattle.word_run.specs.WordRun.{instruction_limit, run_from, words_act, words_by}
use Rattle.word_run.specs.CanRun.{HasTemplate}
use Rattle.word_run.proofs.Laid.{starts_counted}
use Rattle.word_run.proofs.Setting.{used_below}
use Rattle.unit_run.specs.FlashRunners.{KeepsWords}

-- The next unit of what runs has a template.
pub has_template : (k : KernelState) (v : FlashValue) (run : Running) → KeepsWords v → GoodMachine k (part v) → k.running ≡ Some run → HasTemplate v run.domain v.unit
has_template k v run held good running =
    let runs = (running_good k (part v) run good running).0 in
    let below = used_below k (part v) run.domain good runs.loaded in
    let spelled = held.words.spelled run.domain below in
    record {
      domain_below = below;
      unit_below = omega (arith, runs.unit, starts_counted _ _ spelled.sealed _ spelled.lays);
    }

pub whole_run : (k : KernelState) (v : FlashValue) (run : Running) (a : ℕ) → k.running ≡ Some run → a ≡ entry_point v run.domain v.unit → run_from instruction_limit v run k a ≡ words_act k v
whole_run k v run a running start =
    ap (λ (x : ℕ). run_from instruction_limit v run k x) start ∙ ap (λ (o : Option Running). words_by o k v) (sym running)
