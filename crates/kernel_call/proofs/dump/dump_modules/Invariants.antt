use Rattle.std.proofs.Common.{◌≡◌, ◌≤◌, ◌+◌, length, ◌++◌}
use Rattle.domain_model.specs.Dump.{modules_dumped}
use Rattle.kernel_call.proofs.Dumps.{lines_from}
use Rattle.kernel_call.proofs.dump.dump_modules.Given as goal

-- with the lines of the domains still to come these are all
abbrev pub invariant-loop-domain : goal.invariant-loop-domain
invariant-loop-domain l =
    (l.lines ++ lines_from l.modules l.domain ≡ l.fn.lines ++ modules_dumped l.modules) × (length l.lines ≤ length l.fn.lines + l.domain)
