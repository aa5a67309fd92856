use Rattle.std.proofs.Common.{◌≡◌, ◌∙◌, ℕ, ◌++◌, ap, sym, subst}
use Rattle.word_run.specs.FlashValue.{FlashValue, entry_point}
use Rattle.word_run.specs.WordRun.{WordsActed, instruction_limit}
use Rattle.word_run.specs.CanRun.{CanRun, HasTemplate}
use Rattle.word_run.proofs.FewLines.{lines_are_few}
use Rattle.word_run.proofs.WordLaws.{few_instructions_suffice}
use Rattle.unit_run.specs.FlashRunners.{KeepsWords}
use Rattle.unit_run.proofs.Beginning.{has_template, whole_run}
use Rattle.unit_run.proofs.flash_run.FlashRunnerRunner.run_unit.Goals as goal

pub entry_point-start-requires : goal.entry_point-start-requires
entry_point-start-requires c =
    let at : c.unit.result ≡ c.args.self.now.unit = c.unit.ensures ∙ ap (λ (v : FlashValue). v.unit) c.self.view_is in
    let held : KeepsWords c.args.self.now = subst KeepsWords c.self.view_is c.self.invariant in
    subst (λ (u : ℕ). HasTemplate c.args.self.now c.in-Some.run'.domain u) (sym at)
    (has_template c.args.k.now c.args.self.now c.in-Some.run' held c.requires.good (sym c.handler.ensures ∙ c.in-Some.is))

pub run_words-requires-clause-can : goal.run_words-requires-clause-can
run_words-requires-clause-can c =
    let at : c.unit.result ≡ c.args.self.now.unit = c.unit.ensures ∙ ap (λ (v : FlashValue). v.unit) c.self.view_is in
    let held : KeepsWords c.args.self.now = subst KeepsWords c.self.view_is c.self.invariant in
    subst (λ (a : ℕ). CanRun instruction_limit c.args.self.now c.in-Some.run' c.args.k.now a)
    (sym (c.entry_point-start.ensures ∙ ap (λ (u : ℕ). entry_point c.args.self.now c.in-Some.run'.domain u) at))
    (few_instructions_suffice c.args.k.now c.args.self.now c.in-Some.run' held.words c.requires.good (sym c.handler.ensures ∙ c.in-Some.is))

pub returns-clause-kernel : goal.returns-clause-kernel
returns-clause-kernel c =
    let at : c.unit.result ≡ c.args.self.now.unit = c.unit.ensures ∙ ap (λ (v : FlashValue). v.unit) c.self.view_is in
    let whole = whole_run c.args.k.now c.args.self.now c.in-Some.run' c.entry_point-start.result (sym c.handler.ensures ∙ c.in-Some.is)
    (c.entry_point-start.ensures ∙ ap (λ (u : ℕ). entry_point c.args.self.now c.in-Some.run'.domain u) at) in
    c.run_words.ensures.kernel ∙ ap (λ (x : WordsActed). x.kernel) whole

pub returns-clause-runner : goal.returns-clause-runner
returns-clause-runner c =
    let at : c.unit.result ≡ c.args.self.now.unit = c.unit.ensures ∙ ap (λ (v : FlashValue). v.unit) c.self.view_is in
    let whole = whole_run c.args.k.now c.args.self.now c.in-Some.run' c.entry_point-start.result (sym c.handler.ensures ∙ c.in-Some.is)
    (c.entry_point-start.ensures ∙ ap (λ (u : ℕ). entry_point c.args.self.now c.in-Some.run'.domain u) at) in
    c.run_words.ensures.runner ∙ ap (λ (x : WordsActed). x.runner) whole

pub returns-clause-lines : goal.returns-clause-lines
returns-clause-lines c =
    let at : c.unit.result ≡ c.args.self.now.unit = c.unit.ensures ∙ ap (λ (v : FlashValue). v.unit) c.self.view_is in
    let whole = whole_run c.args.k.now c.args.self.now c.in-Some.run' c.entry_point-start.result (sym c.handler.ensures ∙ c.in-Some.is)
    (c.entry_point-start.ensures ∙ ap (λ (u : ℕ). entry_point c.args.self.now c.in-Some.run'.domain u) at) in
    c.run_words.ensures.lines ∙ ap (λ (x : WordsActed). c.args.lines.now ++ x.lines) whole

pub returns-clause-few : goal.returns-clause-few
returns-clause-few c = lines_are_few c.args.k.now c.args.self.now

pub returns-clause-ending : goal.returns-clause-ending
returns-clause-ending c =
    let at : c.unit.result ≡ c.args.self.now.unit = c.unit.ensures ∙ ap (λ (v : FlashValue). v.unit) c.self.view_is in
    let whole = whole_run c.args.k.now c.args.self.now c.in-Some.run' c.entry_point-start.result (sym c.handler.ensures ∙ c.in-Some.is)
    (c.entry_point-start.ensures ∙ ap (λ (u : ℕ). entry_point c.args.self.now c.in-Some.run'.domain u) at) in
    c.run_words.ensures.ending ∙ ap (λ (x : WordsActed). x.ending) whole
