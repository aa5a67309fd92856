use Rattle.std.proofs.Common.{◌≡◌, ◌∙◌, sym, ap, ℕ, suc, ◌+◌, List, ◌++◌, length, arith, append_assoc, append-nil, length-append}
use Rattle.mote_layout.specs.Memory.{domain_count}
use Rattle.domain_model.specs.declared.line.TraceLine.{TraceLine}
use Rattle.domain_model.specs.Modules.{module_at}
use Rattle.domain_model.specs.Dump.{module_line}
use Rattle.kernel_call.proofs.Dumps.{lines_from, lines_first, lines_next, one_module}
use Rattle.kernel_call.proofs.dump.dump_modules.Goals as goal

pub loop-domain-init : goal.loop-domain-init
loop-domain-init c = (ap (λ (rest : List TraceLine). c.args.lines.now ++ rest) (lines_first c.args.modules.now), omega arith)

pub loop-domain-preserved : goal.loop-domain-preserved
loop-domain-preserved c =
    let modules = c.args.modules.now in
    let d = c.loop-domain.domain in
    let lines = c.loop-domain.lines in
    let one = module_line (module_at modules d) in
    let next : d + 1 ≡ suc d = omega arith in
    let size : length c.tell_module.new.lines ≡ length lines + length one = ap (λ (l : List TraceLine). length l) c.tell_module.ensures ∙ length-append lines one in (
      ap (λ (l : List TraceLine). l ++ lines_from modules (d + 1)) c.tell_module.ensures
          ∙ ap (λ (n : ℕ). (lines ++ one) ++ lines_from modules n) next
          ∙ append_assoc lines one (lines_from modules (suc d))
          ∙ ap (λ (l : List TraceLine). lines ++ l) (sym (lines_next modules d (omega arith)))
          ∙ c.loop-domain.invariant.0,
      omega (arith, size, one_module (module_at modules d), c.loop-domain.invariant.1),
    )

pub returns-clause-lines : goal.returns-clause-lines
returns-clause-lines c =
    let end : domain_count ≡ c.loop-domain.domain = omega arith in
    sym (append-nil c.loop-domain.lines) ∙ ap (λ (n : ℕ). c.loop-domain.lines ++ lines_from c.args.modules.now n) end ∙ c.loop-domain.invariant.0
